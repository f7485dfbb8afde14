-- A block that is written.
use Rattle.std.proofs.Common.{◌≡◌, ℕ, ◌+◌, ◌-◌, ◌/◌, ◌%◌, ◌≤◌, true, eqb, List, [], ◌∷◌, ◌++◌, length, take, drop, set, replicate, refl, ap, ◌∙◌, arith, length-set, rules}
use borrow.Rule.Slice.PartMut.{put_mid}
use Rattle.std.proofs.lemmas.List.Edits.{sets-eq}
use Rattle.std.proofs.lemmas.List.{append_assoc, drop_all, length-replicate, take_at}
use Rattle.std.proofs.lemmas.Slice.{overwrites, take-put_mid}
use Rattle.std.proofs.lemmas.Bool.Decides.{nat_tests}
use Rattle.wire.specs.declared.order.ByteOrder.TheVariants.{Big}
use Rattle.wire.specs.Numbers.{digits}
use Rattle.block.specs.Check.{check_of}
use Rattle.block.specs.Blocks.{Part, InRange, used_front, sealed, used}
use Rattle.block.specs.Fields.{index_in, length_in, whole_in}
use Rattle.block.specs.Dumps.{is_used}
use Rattle.block.proofs.Layouts.{found_lawful}
use Rattle.blocks.specs.Parts.{part_from, content_of, sits, sits_part}
use Rattle.blocks.specs.Steps.{Filled}

-- two bytes written where the check stands
pub check_written : (m : List ℕ) (high low : ℕ) → length m ≡ 512 → set (set m 510 high) 511 low ≡ take 510 m ++ (high ∷ low ∷ [])
check_written m high low e =
    sets-eq (high ∷ low ∷ []) m 510 (omega arith)
    ∙ (append_assoc (take 510 m) (high ∷ low ∷ []) (drop 512 m)
    ∙ ap (λ t. take 510 m ++ (high ∷ low ∷ t)) (drop_all 512 m (omega arith)))

-- the fields, as they are written one after the other, and then the bytes of the part and zeros up to the check
module _ (m bytes part zeros : List ℕ) (slot number index whole high low whole_high whole_low : ℕ) (long : length m ≡ 512) (short : length bytes ≤ 500)
    (part_is : part ≡ bytes) (zeros_are : zeros ≡ replicate (510 - (8 + length bytes)) 0)
    (high_is : high ≡ length bytes / 256 % 256) (low_is : low ≡ length bytes % 256)
    (whole_high_is : whole_high ≡ whole / 256 % 256) (whole_low_is : whole_low ≡ whole % 256) where
  abbrev noted : List ℕ
  noted = set (set (set (set (set (set (set (set m 0 1) 1 slot) 2 number) 3 index) 4 high) 5 low) 6 whole_high) 7 whole_low

  abbrev with_part : List ℕ
  with_part = put_mid 8 (8 + length bytes - 8) noted part

  notes : take 8 noted ≡ 1 ∷ slot ∷ number ∷ index ∷ high ∷ low ∷ whole_high ∷ whole_low ∷ []
  notes = ap (take 8) (sets-eq (1 ∷ slot ∷ number ∷ index ∷ high ∷ low ∷ whole_high ∷ whole_low ∷ []) m 0 (omega arith))

  noted_long : length noted ≡ 512
  noted_long = simp length-set long

  part_long : length with_part ≡ 512
  part_long = let n : length part ≡ length bytes = ap length part_is in let l = noted_long in search (rules, overwrites)

  pub front_written : take 510 (put_mid (8 + length bytes) (510 - (8 + length bytes)) with_part zeros) ≡ used_front (part_from slot number index whole bytes)
  front_written =
      let n = length bytes in
      let z : length zeros ≡ 510 - (8 + n) = ap length zeros_are ∙ length-replicate {A = ℕ} (510 - (8 + n)) 0 in
      let e : length part ≡ n = ap length part_is in
      let l = noted_long in
      let w = part_long in
      let front : take 510 (put_mid (8 + n) (510 - (8 + n)) with_part zeros) ≡ take (8 + n) with_part ++ zeros =
      take-put_mid (8 + n) (510 - (8 + n)) with_part zeros 510 (omega arith) (omega arith) in
      let fields : take (8 + n) with_part ≡ take 8 noted ++ part = take-put_mid 8 (8 + n - 8) noted part (8 + n) (omega arith) (omega arith) in
      let all : take 8 noted ++ part ++ zeros ≡ take 8 noted ++ (part ++ zeros) = append_assoc (take 8 noted) part zeros in
      front ∙ (ap (λ t. t ++ zeros) fields ∙ (all ∙ (ap (λ t. t ++ (part ++ zeros)) notes ∙ (let d : part ++ zeros ≡ bytes ++ replicate (510 - (8 + n)) 0 = rw (part_is, zeros_are) in cc))))

-- what a filled and a freed block are
pub filled_long : (p : Part) (x : List ℕ) → InRange p → Filled p x → length x ≡ 512
filled_long p x range e = (found_lawful x (used p range e)).long

-- what a filled block says
module _ (p : Part) (x : List ℕ) (range : InRange p) (e : Filled p x) where
  pub filled_sits : sits x p.slot p.number ≡ true
  filled_sits = ap (λ t. sits t p.slot p.number) e ∙ grind (arith, nat_tests)

  pub filled_used : is_used x ≡ true
  filled_used = ap is_used e

  pub filled_part : (k : ℕ) → sits_part x p.slot p.number k ≡ eqb p.index k
  filled_part k = rw filled_sits (ap (λ t. eqb (index_in t) k) e)

  pub filled_whole : whole_in x ≡ p.whole
  filled_whole = ap whole_in e ∙ (let w = range.whole_fits in omega arith)

  pub filled_content : content_of x ≡ p.octets
  filled_content =
      let n = length p.octets in
      let zeros : List ℕ = replicate (510 - (8 + n)) 0 in
      let check : List ℕ = digits Big 2 (check_of (used_front p)) in
      let l = range.length_is in
      let long : length_in (sealed (used_front p)) ≡ n = omega arith in
      ap content_of e
      ∙ (ap (λ k. take k (p.octets ++ zeros ++ check)) long
      ∙ (ap (take n) (append_assoc p.octets zeros check) ∙ take_at p.octets (zeros ++ check) n refl))
