-- The blocks of a shelf, as they are inspected.
use Rattle.std.proofs.Common.{◌≡◌, ℕ, zero, suc, ◌+◌, ◌*◌, ◌<◌, ◌≤◌, cond, List, length, take, Ok, Err, Result, sym, refl, ap, ◌∙◌, subst, arith}
use Rattle.std.proofs.lemmas.List.{length-take-le}
use Rattle.wire.specs.declared.refusal.Refusal.{Refusal}
use Rattle.shelf.specs.Sums.{total, count_of}
use Rattle.shelf.specs.Units.{units_held}
use Rattle.shelf.proofs.Counts.{count_same}
use Rattle.block.specs.Blocks.{Lawful}
use Rattle.block.specs.Dumps.{block_at, block_count, is_used, used_among, Passes, Inspection}
use Rattle.blocks.specs.Parts.{piece_in, Sound}
use Rattle.blocks.proofs.Places.{front_block}
use Rattle.blocks.specs.Props.{lawful_of}
use Rattle.blocks.specs.Sounds.{held_used}

-- the used blocks of a dump are those that are counted
used_count : (xs : List ℕ) (k : ℕ) → used_among xs k ≡ count_of (λ i. is_used (block_at xs i)) k
unfolding used_among total
used_count xs zero = refl
used_count xs (suc k) = ap (λ n. cond (is_used (block_at xs k)) 1 0 + n) (used_count xs k)

-- the first blocks of a memory, where they are sound
pub sound_passes : (m : List ℕ) (count : ℕ) → count * 512 ≤ length m → Sound (block_at m) count
    → Passes (take (count * 512) m) (units_held 500 (piece_in (block_at m) count))
sound_passes m count fits sound =
    let front = take (count * 512) m in
    let size : block_count front ≡ count = let e = length-take-le (count * 512) m fits in omega arith in
    record {
      all_lawful = λ i l.
          let within : i < count = omega (arith, size) in
          subst Lawful (sym (front_block m count i within)) (lawful_of (block_at m i) (sound.lawful i within));
      used_are = held_used (block_at m) count sound
          ∙ (sym (count_same (λ i. is_used (block_at m i)) (λ i. is_used (block_at front i)) count (λ i l. ap is_used (front_block m count i l)))
          ∙ (sym (used_count front count) ∙ ap (used_among front) (sym size)));
    }

-- what passes is not refused
pub passes_inspected : (xs : List ℕ) (n : ℕ) (r : Result ℕ Refusal) → Passes xs n → Inspection xs r → r ≡ Ok n
passes_inspected xs n (Ok k) p i = ap Ok (i.used_are ∙ sym p.used_are)
passes_inspected xs n (Err e) p i = absurd (i.fails.unlawful (p.all_lawful e.place i.fails.within))
