use Rattle.std.proofs.Common.{◌≡◌, ◌-◌, [], ◌∷◌, ◌++◌, length, take, drop, sym, ap, ◌∙◌, arith}
use Rattle.std.proofs.lemmas.List.{take_rest, length-drop}
use Rattle.std.proofs.lemmas.Result.{MatchResult-at_ok}
use Rattle.packet.specs.Packets.{shown}
use Rattle.packet.proofs.Values.{length_canonical}
use Rattle.sender.specs.Packets.{bytes_of}
use Rattle.sender.proofs.Results.{ok_only}
use Rattle.sender.proofs.Buffers.{unwritten_never, bytes_one, put_from}
use Rattle.sender.proofs.parts.put_packet.Goals as goal

pub unwrap-requires : goal.unwrap-requires
unwrap-requires c =
    let was = c.args.buffer.now in
    let l = ap length (take_rest was c.args.at) ∙ length-drop c.args.at was in
    ok_only c.write.result _ _ c.write.ensures (λ e u. unwritten_never (shown c.args.packet.now) _ _ e c.requires.range (omega arith) u)

pub returns-clause-after : goal.returns-clause-after
returns-clause-after c =
    let v = shown c.args.packet.now in
    let was = c.args.buffer.now in
    let w = MatchResult-at_ok _ _ c.unwrap.result c.unwrap.ensures c.write.ensures in
    let b = bytes_one v in
    let l : c.unwrap.result ≡ length (bytes_of (v ∷ [])) = w.size_is ∙ sym (ap length b ∙ length_canonical v) in
    put_from was _ (bytes_of (v ∷ [])) c.args.at _ l (w.bytes_are ∙ ap (λ t. t ++ drop c.unwrap.result (take (length was - c.args.at) (drop c.args.at was))) (sym b))
