-- A result that is no error.
use Rattle.std.proofs.Common.{refl}
use Rattle.std.specs.Prelude.{Result, Ok, Err, IsOk, MatchResult}

-- where each error is ruled out, there is a value
pub ok_only : {T E : Type 0} (r : Result T E) (P : T → Type 0) (Q : E → Type 0) → MatchResult r P Q → ((e : E) → Q e → ⊥) → IsOk r
ok_only (Ok x) P Q m h = refl
ok_only (Err e) P Q m h = absurd (h e m)
