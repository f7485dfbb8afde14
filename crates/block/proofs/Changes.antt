-- What one changed byte does to a block and to a dump.
use Rattle.std.proofs.Common.{◌≡◌, ℕ, ◌+◌, ◌*◌, ◌/◌, ◌%◌, ◌<◌, ◌≤◌, List, length, get_or, take, sym, ap, ◌∙◌, subst, inl, inr, arith, get_or-take}
use Rattle.std.proofs.lemmas.List.{ext_get_or, length-take-le, get_or_past}
use Rattle.std.proofs.lemmas.Bool.{cases_lt, cases_eq}
use Rattle.wire.proofs.Numbers.{octets_stretch}
use Rattle.block.specs.Limits.{block_length, check_start}
use Rattle.block.specs.Check.{check_of}
use Rattle.block.specs.Blocks.{Lawful}
use Rattle.block.specs.Fields.{word_at}
use Rattle.block.specs.Dumps.{block_at, block_count, LawfulUpTo}
use Rattle.block.specs.Changes.{ChangedAt, OneChange, FailsIfChanged}
use Rattle.block.proofs.Checks.{check_one}
use Rattle.block.proofs.Layouts.{found_lawful, lawful_octets}
use Rattle.block.proofs.Places.{block_octet, block_long, block_same, block_past}

pub one_change : OneChange
one_change xs ys i law ch law' =
    let ox = lawful_octets xs law in
    let oy = lawful_octets ys law' in
    let lx = found_lawful xs law in
    let ly = found_lawful ys law' in
    let long : length ys ≡ length xs = ch.long in
    let fx : length (take check_start xs) ≡ check_start = length-take-le check_start xs (omega (arith, lx.long)) in
    let fy : length (take check_start ys) ≡ check_start = length-take-le check_start ys (omega (arith, ly.long)) in
    elim (cases_lt i check_start) [
      | inl before ↦
          let low = ch.others check_start (λ e. omega arith) in
          let high = ch.others 511 (λ e. omega arith) in
          let same : check_of (take check_start xs) ≡ check_of (take check_start ys) =
          sym lx.sealed ∙ omega (arith, low, high) ∙ ly.sealed in
          let at_i : get_or (take check_start ys) i 0 ≡ get_or (take check_start xs) i 0 =
          check_one (take check_start xs) (take check_start ys) i
          (octets_stretch 0 check_start xs ox) (octets_stretch 0 check_start ys oy) (fx ∙ sym fy)
          (λ k ne. elim (cases_lt k check_start) [
            | inl b ↦ get_or-take check_start ys k 0 b ∙ ch.others k ne ∙ sym (get_or-take check_start xs k 0 b)
            | inr b ↦ get_or_past (take check_start ys) k 0 (omega (arith, fy)) ∙ sym (get_or_past (take check_start xs) k 0 (omega (arith, fx)))
          ]) same in
          ch.here (sym (get_or-take check_start ys i 0 before) ∙ at_i ∙ get_or-take check_start xs i 0 before)
      | inr past ↦
          let front : take check_start ys ≡ take check_start xs =
          ext_get_or 0 (take check_start ys) (take check_start xs) (fy ∙ sym fx) (λ k l.
          let b : k < check_start = omega (arith, fy) in
          get_or-take check_start ys k 0 b ∙ ch.others k (λ e. omega arith) ∙ sym (get_or-take check_start xs k 0 b)) in
          let same : word_at ys check_start ≡ word_at xs check_start = ly.sealed ∙ ap (check_of) front ∙ sym lx.sealed in
          elim (cases_eq i check_start) [
            | inl e ↦ ch.here (rw e (let other = ch.others 511 (λ z. omega arith) in omega arith))
            | inr ne ↦
                elim (cases_eq i 511) [
                  | inl e ↦ ch.here (rw e (let other = ch.others check_start (λ z. omega arith) in omega arith))
                  | inr ne' ↦ ch.here (get_or_past ys i 0 (omega (arith, ne, ne', ly.long)) ∙ sym (get_or_past xs i 0 (omega (arith, ne, ne', lx.long))))
                ]
          ]
    ]

-- the block of a changed byte has that byte changed
block_changed : (m ys : List ℕ) (i : ℕ) → ChangedAt i m ys → i < block_count m * block_length → ChangedAt (i % block_length) (block_at m (i / block_length)) (block_at ys (i / block_length))
block_changed m ys i ch l =
    let q = i / block_length in
    let r : i % block_length < block_length = omega arith in
    let at : q * block_length + i % block_length ≡ i = omega arith in
    let room : q * block_length + block_length ≤ length m = omega arith in
    record {
      long = block_long ys q (omega (arith, ch.long)) ∙ sym (block_long m q room);
      here = λ e. ch.here (ap (λ k. get_or ys k 0) (sym at) ∙ sym (block_octet ys q (i % block_length) r) ∙ e ∙ block_octet m q (i % block_length) r ∙ ap (λ k. get_or m k 0) at);
      others = λ k ne. elim (cases_lt k block_length) [
        | inl b ↦ block_octet ys q k b ∙ ch.others (q * block_length + k) (λ e. ne (omega arith)) ∙ sym (block_octet m q k b)
        | inr b ↦ block_past ys q k b ∙ sym (block_past m q k b)
      ];
    }

pub fails_if_changed : (m : List ℕ) → LawfulUpTo m (block_count m) → FailsIfChanged m
fails_if_changed m law ys i ch l =
    let q = i / block_length in
    record {
      within = omega (arith, ch.long);
      lawful_before = λ j b. subst Lawful (sym (block_same m ys j ch.long (λ k h. ch.others (j * block_length + k) (λ e. omega arith)))) (law j (omega arith));
      unlawful = one_change (block_at m q) (block_at ys q) (i % block_length) (law q (omega arith)) (block_changed m ys i ch l);
    }
