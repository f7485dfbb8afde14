use Rattle.std.proofs.Common.{◌≡◌, ◌++◌, length, drop, replicate, sym, ap, ◌∙◌, arith}
use Rattle.std.proofs.lemmas.Grind.{common_steps}
use Rattle.std.proofs.lemmas.List.{length-take}
use Rattle.packet.specs.Packets.{shown, padding_length, zeros_of, canonical}
use Rattle.packet.proofs.Headers.{length_header}
use Rattle.packet.proofs.Values.{padded}
use Rattle.packet.proofs.Writes.{parts_written, written}
use Rattle.packet.proofs.Packet.write.Goals as goal

pub copy_from_slice-requires : goal.copy_from_slice-requires
copy_from_slice-requires c =
    let l = ap length c.header.ensures ∙ length_header (shown c.args.self.now) in
    let w = c.in_ok-length.ensures.size_is in
    rw length-take (omega arith)

pub returns : goal.returns
returns c =
    let v = shown c.args.self.now in
    let w = c.in_ok-length.ensures in
    let p : length (zeros_of v) ≡ padding_length (length v.id) = padded v in
    let z = c.fill.ensures.after (λ y e. e) ∙ ap (λ k. replicate k 0) (grind (arith, common_steps)) in
    let b = parts_written v c.args.buffer.now _ _ _ _ _ _ (c.copy_from_slice.ensures.after ∙ c.header.ensures) c.copy_from_slice-2.ensures.after z
    c.copy_from_slice-3.ensures.after (omega arith) (omega arith) in
    written v _ _ _ w.in_range w.size_is (omega arith) (b ∙ ap (λ k. canonical v ++ drop k c.args.buffer.now) (sym w.size_is))
