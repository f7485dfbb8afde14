use Rattle.std.proofs.Common.{◌≡◌, ◌<◌, vec_len, [], length, take, drop, refl, sym, ap, ◌∙◌, subst, inl, inr, arith}
use Rattle.std.proofs.lemmas.List.{length-take-le}
use Rattle.std.proofs.lemmas.Result.{MatchResult-from_err, err_from_is_err_and}
use Rattle.std.specs.Io.KnownBytes.{Consumes}
use Rattle.records.specs.Visits.BreaksOff.{before_visits, in_visit, in_pause}
use Rattle.records.proofs.Rounds.{consumes_none, consumes_kept, left_with_piece, rounds_none, rounds_further, rounds_all, rounds_until}
use Rattle.records.proofs.walk.visit_all.Goals.{else-loop-test, then-loop-test+in_ok-came+then-came-eq0}
use Rattle.records.proofs.walk.visit_all.Goals as goal

pub returns-in_err-piece : goal.returns-in_err-piece
returns-in_err-piece g c =
    let input = g.R.Read.remaining c.args.input.now in
    MatchResult-from_err c.from_residual.result _ _ c.from_residual.ensures.0
    (λ e. rounds_until input [] (rounds_none input c.args.visitor.now) (consumes_none input) refl (before_visits refl))

pub loop-init : goal.loop-init
loop-init g c = (rw c.new-inbox.ensures (rounds_none (g.R.Read.remaining c.args.input.now) c.args.visitor.now), omega (arith, c.in_ok-piece.ensures.len))

pub returns-in_err-came : goal.returns-in_err-came
returns-in_err-came g c =
    let next = g.R.Read.remaining c.read.new.self in
    let k = consumes_kept (g.R.Read.remaining c.loop.input) next c.in_err-came.ensures.bytes in
    MatchResult-from_err c.from_residual-in_err-came.result _ _ c.from_residual-in_err-came.ensures.0
    (λ e. rounds_until next [] c.loop.invariant.0 k refl (before_visits refl))

pub returns-in_err-add : goal.returns-in_err-add
returns-in_err-add g c =
    let next = g.R.Read.remaining c.read.new.self in
    let came = take c.in_ok-came.came c.read.new.buf in
    MatchResult-from_err c.from_residual-in_err-add.result _ _ c.from_residual-in_err-add.ensures.0
    (λ e. rounds_until next came c.loop.invariant.0 c.in_ok-came.ensures.bytes.0 refl (before_visits refl))

pub returns-in_err-count : goal.returns-in_err-count
returns-in_err-count g c =
    let next = g.R.Read.remaining c.read.new.self in
    let came = take c.in_ok-came.came c.read.new.buf in
    let full : length c.read.new.buf ≡ vec_len c.loop.piece = omega (arith, c.read.auto.buf, c.as_mut_slice.ensures.len) in
    let left = left_with_piece c.loop.piece c.read.new.buf c.loop.inbox c.in_ok-came.came full c.waiting.ensures c.in_ok-add.ensures c.deref.ensures.value in
    let p = err_from_is_err_and c.from_residual-in_err-count.result c.from_residual-in_err-count.ensures.1 in
    rw (p.1, p.2) (rounds_until next came c.loop.invariant.0 c.in_ok-came.ensures.bytes.0 left (in_visit c.in_err-count.ensures))

pub returns-in_err-pause : goal.returns-in_err-pause
returns-in_err-pause g c =
    let next = g.R.Read.remaining c.read.new.self in
    let came = take c.in_ok-came.came c.read.new.buf in
    let full : length c.read.new.buf ≡ vec_len c.loop.piece = omega (arith, c.read.auto.buf, c.as_mut_slice.ensures.len) in
    let left = left_with_piece c.loop.piece c.read.new.buf c.loop.inbox c.in_ok-came.came full c.waiting.ensures c.in_ok-add.ensures c.deref.ensures.value in
    let p = err_from_is_err_and c.from_residual-in_err-pause.result c.from_residual-in_err-pause.ensures.1 in
    let (walk, visited) = c.in_ok-count.ensures in
    let broken = in_pause c.in_ok-count.count c.in_ok-count.used walk c.visit_whole.new.visitor visited c.in_err-pause.ensures in
    rw (p.1, p.2) (rounds_until next came c.loop.invariant.0 c.in_ok-came.ensures.bytes.0 left broken)

pub loop-preserved : goal.loop-preserved
loop-preserved g c =
    let next = g.R.Read.remaining c.read.new.self in
    let came = take c.in_ok-came.came c.read.new.buf in
    let full : length c.read.new.buf ≡ vec_len c.loop.piece = omega (arith, c.read.auto.buf, c.as_mut_slice.ensures.len) in
    let left = left_with_piece c.loop.piece c.read.new.buf c.loop.inbox c.in_ok-came.came full c.waiting.ensures c.in_ok-add.ensures c.deref.ensures.value in
    let l = length-take-le c.in_ok-came.came c.read.new.buf c.in_ok-came.ensures.bound.0 in
    let some : 0 < length came = omega (arith, l, c.if-came-eq0.false) in
    let (walk, visited) = c.in_ok-count.ensures in
    let kept = c.forget.ensures ∙ ap (drop c.in_ok-count.used) (sym c.waiting.ensures) in
    (rw kept (rounds_further next came c.loop.invariant.0 c.in_ok-came.ensures.bytes.0 left some walk visited c.in_ok-pause.ensures), c.loop.invariant.1)

pub returns : goal.returns
returns g c =
    let (f, room) = c.loop.invariant in
    elim c.loop-test.branch [
      | else-loop-test w ↦ rw w.input-is (rounds_all (g.R.Read.remaining c.loop.input) f (consumes_none (g.R.Read.remaining c.loop.input)) (inr w.loop-test.false))
      | then-loop-test+in_ok-came+then-came-eq0 w ↦
          let next = g.R.Read.remaining w.read.new.self in
          let (k, ended) = w.in_ok-came.ensures.bytes in
          let none = subst (λ n. Consumes (g.R.Read.remaining c.loop.input) next (take n w.read.new.buf)) w.if-came-eq0.true k in
          let some : 0 < length w.read.new.buf = omega (arith, room, w.read.auto.buf, w.as_mut_slice.ensures.len) in
          rw w.input-is (rounds_all next f none (inl (ended w.if-came-eq0.true some)))
    ]
