-- What the parts that the writer puts one after the other come to.
use Rattle.std.proofs.Common.{◌≡◌, ℕ, ◌+◌, ◌-◌, ◌≤◌, List, ◌++◌, length, take, drop, sym, refl, ap, ◌∙◌, arith}
use borrow.Rule.Slice.PartMut.{put_mid}
use Rattle.std.proofs.lemmas.List.{append_assoc, length-append, take_at}
use Rattle.packet.specs.Packets.{PacketValue, InRange, Encodes, header_of, canonical, zeros_of, size_of}
use Rattle.packet.specs.Writing.{Written}
use Rattle.packet.proofs.Encodings.{reads_back}
use Rattle.packet.proofs.Buffers.{Begun, begun_more}
use Rattle.packet.proofs.Headers.{length_header}
use Rattle.packet.proofs.Values.{padded, length_canonical}

-- header, id, padding and body, written in a row
pub parts_written : (v : PacketValue) (was header id zeros body : List ℕ) (at end : ℕ) → header ≡ header_of v → id ≡ v.id
    → zeros ≡ zeros_of v → body ≡ v.body → at ≡ 20 + length v.id + length (zeros_of v) → end ≡ at + length v.body
    → put_mid at (end - at) (put_mid (20 + length v.id) (at - (20 + length v.id)) (put_mid 20 (20 + length v.id - 20) (header ++ drop 20 was) id) zeros) body
    ≡ canonical v ++ drop (size_of v) was
parts_written v was header id zeros body at end eh ei ez eb na ne =
    let h = header_of v in
    let z = zeros_of v in
    let l : length h ≡ 20 = length_header v in
    let l2 : length (h ++ v.id) ≡ 20 + length v.id = rw length-append (omega arith) in
    let l3 : length ((h ++ v.id) ++ z) ≡ at = rw length-append (omega arith) in
    let s1 : Begun h was (header ++ drop 20 was) = cc in
    let s2 = begun_more h was {end = 20 + length v.id} (sym l) refl ei s1 in
    let s3 = begun_more (h ++ v.id) was {part = z} {at = 20 + length v.id} {end = at} (sym l2) na ez s2 in
    let s4 = begun_more ((h ++ v.id) ++ z) was {part = v.body} {at = at} {end = end} (sym l3) ne eb s3 in
    let q : ((h ++ v.id) ++ z) ++ v.body ≡ canonical v = append_assoc (h ++ v.id) z v.body ∙ append_assoc h v.id (z ++ v.body) in
    let n : length (((h ++ v.id) ++ z) ++ v.body) ≡ size_of v = ap length q ∙ length_canonical v in
    s4 ∙ cc (q, n)

-- a buffer that begins with the datagram of v
pub written : (v : PacketValue) (was new : List ℕ) (n : ℕ) → InRange v → n ≡ size_of v → n ≤ length was → new ≡ canonical v ++ drop n was → Written v was new n
written v was new n r s f b =
    let front : take n new ≡ canonical v = ap (take n) b ∙ take_at (canonical v) (drop n was) n (length_canonical v ∙ sym s) in
    let e : Encodes v (take n new) = record { in_range = r; padding = zeros_of v; padded = padded v; bytes_are = front } in
    record {
      in_range = r;
      size_is = s;
      fits = f;
      bytes_are = b;
      reads_back = reads_back e;
    }
