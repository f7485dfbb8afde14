-- Stores: pieces that stand in numbered stores, as in the cells of a memory.
use Rattle.std.specs.Prelude.{ℕ, zero, suc, Bool, cond, ◌&&◌, List, []}
use Rattle.shelf.specs.Units.{same_place}

-- what the last of the first k stores that pass the test has
unfoldable pub pick : (ℕ → Bool) → (ℕ → List ℕ) → ℕ → List ℕ
pick test content zero = []
pick test content (suc k) = cond (test k) (content k) (pick test content k)

-- is store i used for the place (s, n), where a used one notes its slot and number?
abbrev pub sited : (ℕ → Bool) → (ℕ → ℕ) → (ℕ → ℕ) → ℕ → ℕ → ℕ → Bool
sited used slot number s n i = used i && same_place (slot i) (number i) s n
