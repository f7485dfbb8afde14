-- The blocks of a memory, as units.
use Rattle.std.proofs.Common.{◌≡◌, ℕ, ◌+◌, ◌-◌, ◌*◌, ◌/◌, ◌<◌, ◌≤◌, List, ◌++◌, length, get_or, take, drop, sym, refl, ◌∙◌, subst, rules}
use borrow.Rule.Slice.PartMut.{put_mid}
use Rattle.std.proofs.lemmas.List.{places}
use Rattle.std.proofs.lemmas.Slice.{overwrites}
use Rattle.shelf.specs.Memories.{Units, unit_at, OneUnit, Cleared}
use Rattle.shelf.proofs.Places.{front_unit}
use Rattle.shelf.proofs.Clearings.{freed_front, cleared_front}
use Rattle.block.specs.Dumps.{block_at}
use Rattle.blocks.specs.Limits.{some_byte}
use Rattle.blocks.specs.Parts.{in_slot}
use Rattle.blocks.specs.Steps.{Freed}

pub block_unit : (m : List ℕ) (i : ℕ) → unit_at 512 m i ≡ block_at m i
unfolding block_at unit_at
block_unit m i = refl

pub blocks_are : (m : List ℕ) → unit_at 512 m ≡ block_at m
blocks_are m k i = block_unit m i k

-- the blocks of the front of a memory
pub front_block : (m : List ℕ) (count i : ℕ) → i < count → block_at (take (count * 512) m) i ≡ block_at m i
front_block m count i l = sym (block_unit (take (count * 512) m) i) ∙ (front_unit 512 count m i l ∙ block_unit m i)

-- all blocks but the one that was written
pub other_blocks : (m : List ℕ) (j : ℕ) (w : List ℕ) → OneUnit 512 m j w → (i : ℕ) → (i ≡ j → ⊥) → block_at w i ≡ block_at m i
other_blocks m j w one i ne = sym (block_unit w i) ∙ (one.others i ne ∙ block_unit m i)

-- what a list holds after a write to its part from a on
module _ (w part : List ℕ) (a : ℕ) (within : a + length part ≤ length w) where
  abbrev part_written : List ℕ
  part_written = put_mid a (a + length part - a) w part

  pub part_long : length part_written ≡ length w
  part_long = search (rules, overwrites)

  pub part_inside : (i : ℕ) → i < length part → get_or part_written (a + i) 0 ≡ get_or part i 0
  part_inside = search (rules, places)

  pub part_below : (i : ℕ) → i < a → get_or part_written i 0 ≡ get_or w i 0
  part_below = search (rules, places)

  pub part_above : (i : ℕ) → a + length part ≤ i → get_or part_written i 0 ≡ get_or w i 0
  part_above = search (rules, places)

-- a memory whose first blocks were freed, or those of a slot
module _ (count : ℕ) (m ys : List ℕ) (fits : count * 512 ≤ length m) (size : length ys ≡ length (take (count * 512) m)) where
  abbrev after : List ℕ
  after = ys ++ drop (count * 512) m

  pub freed_blocks : ((i : ℕ) → i < length (take (count * 512) m) / 512 → Freed (unit_at 512 ys i)) → (i : ℕ) → i < count → Freed (block_at after i)
  freed_blocks h i l = sym (block_unit after i) ∙ freed_front 512 count some_byte m ys fits size Freed h i l

  pub cleared_blocks : (slot : ℕ) → Cleared in_slot Freed (unit_at 512 (take (count * 512) m)) slot (length (take (count * 512) m) / 512) (unit_at 512 ys)
      → Cleared in_slot Freed (block_at m) slot count (block_at after)
  cleared_blocks slot cleared =
      subst (λ (b : Units). Cleared in_slot Freed b slot count (block_at after)) (blocks_are m)
      (subst (λ (d : Units). Cleared in_slot Freed (unit_at 512 m) slot count d) (blocks_are after)
      (cleared_front 512 count some_byte m ys fits size in_slot Freed slot cleared))
