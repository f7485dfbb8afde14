-- What the fields of a packet's datagram are.
use Rattle.std.proofs.Common.{◌≡◌, ℕ, ◌+◌, ◌^◌, ◌<◌, Bool, true, false, List, ◌++◌, length, get_or, take, drop, sym, refl, ap, ◌∙◌, arith}
use Rattle.std.proofs.lemmas.List.{append_assoc, length-append, take_at, drop_at, drop-drop}
use Rattle.wire.specs.declared.order.ByteOrder.{ByteOrder}
use Rattle.wire.specs.declared.order.ByteOrder.TheVariants.{Big, Little}
use Rattle.wire.specs.Numbers.{digits, number_of}
use Rattle.wire.proofs.Numbers.{length_digits, number_digits}
use Rattle.packet.specs.Limits.{magic_bytes, version_byte}
use Rattle.packet.specs.Packets.{PacketValue, flags_of, header_of, datagram_of, padding_length, size_of}
use Rattle.packet.specs.Datagrams.{order_of, stop_of, order_in, stop_in, field_in, body_length_in, number_in, count_in, id_length_in}

order_back : (o : ByteOrder) (s : Bool) → order_of (flags_of o s) ≡ o
order_back Big true = refl
order_back Big false = refl
order_back Little true = refl
order_back Little false = refl

stop_back : (o : ByteOrder) (s : Bool) → stop_of (flags_of o s) ≡ s
stop_back Big true = refl
stop_back Big false = refl
stop_back Little true = refl
stop_back Little false = refl

flags_small : (o : ByteOrder) (s : Bool) → flags_of o s < 4
flags_small Big true = omega arith
flags_small Big false = omega arith
flags_small Little true = omega arith
flags_small Little false = omega arith

-- what stands at k, and what follows it
record Next (xs p q : List ℕ) (k n : ℕ) : Type 0 where
  here : take n (drop k xs) ≡ p
  after : drop (k + n) xs ≡ q

next : (xs p q : List ℕ) (k n : ℕ) → drop k xs ≡ p ++ q → length p ≡ n → Next xs p q k n
next xs p q k n e l = record {
  here = ap (take n) e ∙ take_at p q n l;
  after = sym (drop-drop n k xs) ∙ (ap (drop n) e ∙ drop_at p q n l);
}

-- the bytes of each field
pub record Laid (v : PacketValue) (padding xs : List ℕ) : Type 0 where
  pub magic_are : take 4 xs ≡ magic_bytes
  pub version_is : get_or xs 4 0 ≡ version_byte
  pub flags_are : get_or xs 5 0 ≡ flags_of v.order v.stop
  pub body_bytes : take 2 (drop 6 xs) ≡ digits v.order 2 (length v.body)
  pub number_bytes : take 4 (drop 8 xs) ≡ digits v.order 4 v.number
  pub count_bytes : take 4 (drop 12 xs) ≡ digits v.order 4 v.count
  pub id_bytes : take 4 (drop 16 xs) ≡ digits v.order 4 (length v.id)
  pub tail_is : drop 20 xs ≡ v.id ++ (padding ++ v.body)

pub laid : (v : PacketValue) (padding : List ℕ) → Laid v padding (datagram_of v padding)
laid v padding =
    let o = v.order in
    let xs = datagram_of v padding in
    let tail = v.id ++ (padding ++ v.body) in
    let b = digits o 2 (length v.body) in
    let n = digits o 4 v.number in
    let k = digits o 4 v.count in
    let i = digits o 4 (length v.id) in
    let e : drop 6 xs ≡ b ++ (n ++ (k ++ (i ++ tail))) = simp append_assoc in
    let at6 = next xs b (n ++ (k ++ (i ++ tail))) 6 2 e (length_digits o 2 _) in
    let at8 = next xs n (k ++ (i ++ tail)) 8 4 at6.after (length_digits o 4 _) in
    let at12 = next xs k (i ++ tail) 12 4 at8.after (length_digits o 4 _) in
    let at16 = next xs i tail 16 4 at12.after (length_digits o 4 _) in
    record {
      magic_are = refl;
      version_is = refl;
      flags_are = refl;
      body_bytes = at6.here;
      number_bytes = at8.here;
      count_bytes = at12.here;
      id_bytes = at16.here;
      tail_is = at16.after;
    }

pub length_header : (v : PacketValue) → length (header_of v) ≡ 20
length_header v =
    let o = v.order in
    let b = length_digits o 2 (length v.body) in
    let n = length_digits o 4 v.number in
    let k = length_digits o 4 v.count in
    let i = length_digits o 4 (length v.id) in
    simp length-append (omega arith)

pub length_datagram : (v : PacketValue) (padding : List ℕ) → length padding ≡ padding_length (length v.id) → length (datagram_of v padding) ≡ size_of v
length_datagram v padding p =
    let h = length_header v in
    let e : length (datagram_of v padding) ≡ length (header_of v) + (length v.id + (length padding + length v.body)) =
    length-append (header_of v) (v.id ++ (padding ++ v.body)) ∙ simp length-append in
    omega arith

-- the numbers that the fields hold, where they fit
pub record Told (v : PacketValue) (xs : List ℕ) : Type 0 where
  pub order_is : order_in xs ≡ v.order
  pub stop_is : stop_in xs ≡ v.stop
  pub flags_fit : get_or xs 5 0 < 4
  pub body_is : body_length_in xs ≡ length v.body
  pub number_is : number_in xs ≡ v.number
  pub count_is : count_in xs ≡ v.count
  pub id_is : id_length_in xs ≡ length v.id

pub told : (v : PacketValue) (padding xs : List ℕ) → Laid v padding xs → length v.body < 2 ^ 16 → v.number < 2 ^ 32 → v.count < 2 ^ 32 → length v.id < 2 ^ 32 → Told v xs
told v padding xs l hb hn hk hi =
    let o : order_in xs ≡ v.order = ap order_of l.flags_are ∙ order_back v.order v.stop in
    let field : (k w m : ℕ) → m < 256 ^ w → take w (drop k xs) ≡ digits v.order w m → field_in xs k w ≡ m =
    λ k w m h e. ap (λ p. number_of p (take w (drop k xs))) o ∙ (ap (number_of v.order) e ∙ number_digits v.order w m h) in
    record {
      order_is = o;
      stop_is = ap stop_of l.flags_are ∙ stop_back v.order v.stop;
      flags_fit = rw l.flags_are (flags_small v.order v.stop);
      body_is = field 6 2 _ hb l.body_bytes;
      number_is = field 8 4 _ hn l.number_bytes;
      count_is = field 12 4 _ hk l.count_bytes;
      id_is = field 16 4 _ hi l.id_bytes;
    }
