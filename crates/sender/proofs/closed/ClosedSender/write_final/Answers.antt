use Rattle.std.proofs.Common.{true, sym, refl, ap, ◌∙◌, arith}
use Rattle.packet.specs.Packets.{shown, size_of}
use Rattle.sender.specs.Sending.{short_end}
use Rattle.sender.specs.States.{sending}
use Rattle.sender.proofs.Bodies.{tail_size}
use Rattle.sender.proofs.Finals.{some_message, final_is, final}
use Rattle.sender.proofs.closed.ClosedSender.write_final.Goals as goal

pub returns-then-buffer-held : goal.returns-then-buffer-held
returns-then-buffer-held c =
    let st = c.args.self.now.state in
    record {
      same_buffer = refl;
      cause = λ m k.
          let z = sym (ap size_of (final_is (sending st) m (omega arith) k (omega arith))) ∙ tail_size st true in
          short_end c.refusal-then-buffer-held.ensures (some_message (sending st) m (omega arith) k (omega arith)) (omega arith);
    }

pub returns : goal.returns
returns c =
    let st = c.args.self.now.state in
    let e = c.packet-last.ensures in
    let s = ap size_of e ∙ tail_size st true in
    let z = c.put_packet.ensures.size in
    record {
      buffer_fits = omega arith;
      final = λ m k. final (sending st) m (omega arith) k (omega arith) (shown c.packet-last.result) c.args.buffer.now _ _ e z c.put_packet.ensures.after;
    }
