use Rattle.std.proofs.Common.{◌-◌, ◌*◌, ◌<◌, length, take, drop, refl, subst, arith, rules}
use Rattle.std.proofs.lemmas.Result.{MatchResult-at_ok}
use Rattle.sender.specs.Sending.{Sending, Added, Ended, Unended, full_size}
use Rattle.sender.specs.Packets.{plan_by}
use Rattle.sender.specs.States.{sending}
use Rattle.sender.specs.Messages.{too_short}
use Rattle.sender.proofs.Results.{ok_only}
use Rattle.sender.proofs.Bodies.{lawful_plan}
use Rattle.sender.proofs.Wholes.{message_size, end_never, whole_written}
use Rattle.sender.proofs.message.write_message.Goals as goal

pub returns-then-buffer-full : goal.returns-then-buffer-full
returns-then-buffer-full c =
    let p = plan_by c.args.length.value c.args.ticket.id c.args.order in
    let some : 0 < length c.args.message.now = search rules in
    let q = message_size p (lawful_plan c.args.length c.args.ticket c.args.order) c.args.message.now some in
    record { same_buffer = refl; cause = too_short c.refusal-then-buffer-full.ensures some (omega arith) (omega arith) }

pub unwrap-last-requires : goal.unwrap-last-requires
unwrap-last-requires c =
    let p = plan_by c.args.length.value c.args.ticket.id c.args.order in
    let m = c.args.message.now in
    let was = c.args.buffer.now in
    let some : 0 < length m = search rules in
    let A : Sending → Type 0 = λ s. Added s m was c.add.new.buffer c.unwrap-count.result (sending c.add.new.self.state) in
    let a = subst A c.begin-sender.ensures.fresh (MatchResult-at_ok _ _ _ c.unwrap-count.ensures c.add.ensures) in
    ok_only _ _ _ c.write_final.ensures
    (λ e u.
    let left = take (length c.add.new.buffer - c.unwrap-count.result * full_size p) (drop (c.unwrap-count.result * full_size p) c.add.new.buffer) in
    let U : Sending → Type 0 = λ s. Unended s left c.write_final.new.buffer e in
    end_never p (lawful_plan c.args.length c.args.ticket c.args.order) m some (omega arith) was (omega arith) c.add.new.buffer c.unwrap-count.result (search rules) a (subst U c.close.ensures u))

pub returns : goal.returns
returns c =
    let p = plan_by c.args.length.value c.args.ticket.id c.args.order in
    let m = c.args.message.now in
    let was = c.args.buffer.now in
    let some : 0 < length m = search rules in
    let A : Sending → Type 0 = λ s. Added s m was c.add.new.buffer c.unwrap-count.result (sending c.add.new.self.state) in
    let a = subst A c.begin-sender.ensures.fresh (MatchResult-at_ok _ _ _ c.unwrap-count.ensures c.add.ensures) in
    let left = take (length c.add.new.buffer - c.unwrap-count.result * full_size p) (drop (c.unwrap-count.result * full_size p) c.add.new.buffer) in
    let E : Sending → Type 0 = λ s. Ended s left c.write_final.new.buffer c.unwrap-last.result in
    let e = subst E c.close.ensures (MatchResult-at_ok _ _ _ c.unwrap-last.ensures c.write_final.ensures) in
    whole_written p (lawful_plan c.args.length c.args.ticket c.args.order) m some (omega arith) was (omega arith) c.add.new.buffer c.unwrap-count.result (search rules) a
    c.write_final.new.buffer c.unwrap-last.result e _ refl
