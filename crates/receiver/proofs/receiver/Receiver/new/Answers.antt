use Rattle.std.proofs.Common.{◌≡◌, ℕ, ◌<◌, false, replicate, None, refl, ap, arith, rules}
use lib.ListN.{get_or-replicate}
use Rattle.wire.specs.Limits.{max_slots}
use Rattle.receiver.specs.Slots.{used, at}
use Rattle.receiver.proofs.Makings.{nothing_yet}
use Rattle.receiver.proofs.Runs.{lawful}
use Rattle.receiver.proofs.receiver.Receiver.new.Goals as goal

pub returns-clause-law : goal.returns-clause-law
returns-clause-law g c =
    let free : (k : ℕ) → k < max_slots → used (at (replicate 8 None) k) ≡ false = λ k lt. ap used (get_or-replicate 8 k None None lt) in
    lawful _ (nothing_yet _ (search rules) (g.met.S.Shelf.tidy c.loop-slot.shelf) refl free (λ k lt. c.loop-slot.invariant.0 k (omega arith)) refl)
