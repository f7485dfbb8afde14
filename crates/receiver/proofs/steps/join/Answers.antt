use Rattle.std.proofs.Common.{◌≡◌, ℕ, suc, ◌+◌, ◌≤◌, List, ◌++◌, length, drop, sym, ap, ◌∙◌, add-one, arith, length-append, rules}
use Rattle.collection.specs.Fragments.{joined}
use Rattle.receiver.proofs.Joins.{joined_none, joined_more, joined_le, join_count, join_more, join_ends}
use Rattle.receiver.proofs.steps.join.Goals as goal

pub loop-number-init : goal.loop-number-init
loop-number-init g c =
    let p = g.S.Shelf.piece c.args.shelf.now c.args.k in
    let z = joined_none p in
    (omega arith, λ fits. (sym (ap length z), sym (ap (λ (x : List ℕ). x ++ drop 0 c.args.buffer.now) z)))

pub loop-number-preserved : goal.loop-number-preserved
loop-number-preserved g c =
    let p = g.S.Shelf.piece c.args.shelf.now c.args.k in
    let n = c.loop-number.number in
    let at = c.loop-number.at in
    let was = c.args.buffer.now in
    let r = c.copy_out-at.result in (
      (let e = join_ends r _ c.loop-number.buffer at c.loop-number.invariant.0 c.copy_out-at.ensures.answer in search rules),
      λ fits.
          let inv = c.loop-number.invariant.1 fits in
          let room : at + length (p n) ≤ length was = omega (arith, fits, joined_le p (suc n) c.args.count (omega arith), ap length (joined_more p n), length-append (joined p n) (p n), inv.0) in
          let told : r ≡ length (p n) = join_count (joined p n) (p n) was c.loop-number.buffer c.copy_out-at.new.buffer at r inv.0 inv.1 c.loop-number.auto.buffer room c.copy_out-at.ensures.wrote c.copy_out-at.ensures.answer in
          let more : joined p (n + 1) ≡ joined p n ++ p n = ap (joined p) (add-one n) ∙ joined_more p n in
          let is = join_more (joined p n) (p n) was c.loop-number.buffer c.copy_out-at.new.buffer at r inv.0 inv.1 c.loop-number.auto.buffer room c.copy_out-at.ensures.wrote c.copy_out-at.ensures.answer in
          (omega (arith, ap length more, length-append (joined p n) (p n), inv.0, told), is ∙ ap (λ (x : List ℕ). x ++ drop (at + r) was) (sym more)),
    )
