-- A datagram without a flaw is that of the packet that its fields tell, and of no other.
use Rattle.std.proofs.Common.{◌≡◌, ℕ, zero, suc, ◌+◌, ◌-◌, ◌<◌, ◌≤◌, List, ◌∷◌, ◌++◌, length, get_or, take, drop, Result, sym, refl, ap, ◌∙◌, subst, arith, lit<, lit≤, MatchResult}
use Rattle.std.proofs.lemmas.Result.{MatchResult-weaker}
use Rattle.std.proofs.lemmas.List.{append_assoc, length-append, length-drop, length-take-le, take_at, drop_at, drop-drop, drop_more, take-append-drop}
use Rattle.wire.specs.declared.refusal.Refusal.{Refusal}
use Rattle.wire.specs.Numbers.{Octets, digits}
use Rattle.wire.proofs.Fronts.{split_at}
use Rattle.wire.proofs.Numbers.{digits_number, octets_stretch}
use Rattle.packet.specs.Limits.{magic_bytes}
use Rattle.packet.specs.declared.Packet.{Packet}
use Rattle.packet.specs.Packets.{PacketValue, shown, Encodes, body_start, padding_length, datagram_of, flags_of}
use Rattle.packet.specs.Datagrams.{Reading, order_of, stop_of, order_in, stop_in, field_in, body_length_in, number_in, count_in, id_length_in}
use Rattle.packet.proofs.Headers.{Laid, Told, laid}
use Rattle.packet.proofs.Flaws.{Passed, in_range_tests, told_sized}

-- the packet that the fields tell
abbrev pub told_by : List ℕ → PacketValue
told_by xs = record {
  order = order_in xs;
  stop = stop_in xs;
  number = number_in xs;
  count = count_in xs;
  id = take (id_length_in xs) (drop 20 xs);
  body = drop (body_start (id_length_in xs)) xs;
}

pub same_value : (v w : PacketValue) → v.order ≡ w.order → v.stop ≡ w.stop → v.number ≡ w.number → v.count ≡ w.count → v.id ≡ w.id → v.body ≡ w.body → v ≡ w
same_value v w a b d e f g =
    let r : ◌≡◌ {A = PacketValue} (record { order = v.order; stop = v.stop; number = v.number; count = v.count; id = v.id; body = v.body })
    (record { order = w.order; stop = w.stop; number = w.number; count = w.count; id = w.id; body = w.body }) = rw (a, b, d, e, f, g) in r

flags_back : (f : ℕ) → f < 4 → flags_of (order_of f) (stop_of f) ≡ f
flags_back zero h = refl
flags_back (suc zero) h = refl
flags_back (suc (suc zero)) h = refl
flags_back (suc (suc (suc zero))) h = refl
flags_back (suc (suc (suc (suc n)))) h = absurd (omega arith)

-- ---- one way: the bytes of a datagram without a flaw

module _ (xs : List ℕ) (octets : Octets xs) (p : Passed xs 8) where
  id_long : length (take (id_length_in xs) (drop 20 xs)) ≡ id_length_in xs
  id_long =
      let l = (p 5 (lit< tt)).2 in
      length-take-le (id_length_in xs) (drop 20 xs) (rw length-drop (omega arith))

  body_long : length (drop (body_start (id_length_in xs)) xs) ≡ body_length_in xs
  body_long = let b = (p 6 (lit< tt)).1 in rw length-drop (omega arith)

  padding_in : List ℕ
  padding_in = take (padding_length (id_length_in xs)) (drop (20 + id_length_in xs) xs)

  padding_long : length padding_in ≡ padding_length (id_length_in xs)
  unfolding padding_in
  padding_long =
      let l = (p 5 (lit< tt)).2 in
      length-take-le (padding_length (id_length_in xs)) (drop (20 + id_length_in xs) xs) (rw length-drop (omega arith))

  tail_in : drop 20 xs ≡ take (id_length_in xs) (drop 20 xs) ++ (padding_in ++ drop (body_start (id_length_in xs)) xs)
  unfolding padding_in
  tail_in =
      let n = id_length_in xs in
      let e : (20 + n) + padding_length n ≡ body_start n = omega arith in
      split_at n 20 xs
      ∙ ap (λ t. take n (drop 20 xs) ++ t) (split_at (padding_length n) (20 + n) xs ∙ ap (λ k. take (padding_length n) (drop (20 + n) xs) ++ drop k xs) e)

  -- a field's bytes are the digits of its number
  field_bytes : (k n : ℕ) → k + n ≤ 20 → digits (order_in xs) n (field_in xs k n) ≡ take n (drop k xs)
  field_bytes k n h =
      let l = (p 1 (lit< tt)).0 in
      let e : length (take n (drop k xs)) ≡ n = length-take-le n (drop k xs) (rw length-drop (omega arith)) in
      ap (λ m. digits (order_in xs) m (field_in xs k n)) (sym e) ∙ digits_number (order_in xs) (take n (drop k xs)) (octets_stretch k n xs octets)

  opening : xs ≡ magic_bytes ++ (16 ∷ get_or xs 5 0 ∷ drop 6 xs)
  opening =
      let l = (p 1 (lit< tt)).0 in
      let e4 : drop 4 xs ≡ get_or xs 4 0 ∷ drop 5 xs = drop_more xs 4 0 (omega arith) in
      let e5 : drop 5 xs ≡ get_or xs 5 0 ∷ drop 6 xs = drop_more xs 5 0 (omega arith) in
      let m = p 2 (lit< tt) in
      let v = p 3 (lit< tt) in
      sym (take-append-drop 4 xs) ∙ cc

  bytes_told : xs ≡ datagram_of (told_by xs) padding_in
  bytes_told =
      let o = order_in xs in
      let f : flags_of o (stop_in xs) ≡ get_or xs 5 0 = flags_back (get_or xs 5 0) (p 4 (lit< tt)) in
      let b : digits o 2 (length (told_by xs).body) ≡ take 2 (drop 6 xs) = ap (digits o 2) body_long ∙ field_bytes 6 2 (lit≤ tt) in
      let n = field_bytes 8 4 (lit≤ tt) in
      let k = field_bytes 12 4 (lit≤ tt) in
      let i : digits o 4 (length (told_by xs).id) ≡ take 4 (drop 16 xs) = ap (digits o 4) id_long ∙ field_bytes 16 4 (lit≤ tt) in
      let s6 = split_at 2 6 xs in
      let s8 = split_at 4 8 xs in
      let s12 = split_at 4 12 xs in
      let s16 = split_at 4 16 xs in
      let rest : drop 6 xs ≡ digits o 2 (length (told_by xs).body) ++ (digits o 4 (number_in xs) ++ (digits o 4 (count_in xs) ++ (digits o 4 (length (told_by xs).id) ++ drop 20 xs))) = cc in
      let t = tail_in in
      opening ∙ simp append_assoc (cc)

  pub told_encodes : Encodes (told_by xs) xs
  told_encodes =
      let i = id_long in
      let b = body_long in
      let s = (p 1 (lit< tt)).1 in
      let e = (p 6 (lit< tt)).1 in
      let si = (p 5 (lit< tt)).0 in
      let fi = (p 5 (lit< tt)).1 in
      let sb = (p 6 (lit< tt)).0 in
      record {
        in_range = record { some_id = omega arith; id_fits = omega arith; some_body = omega arith; size_fits = rw (i, b) (omega arith); numbered = p 7 (lit< tt) };
        padding = padding_in;
        padded = rw i padding_long;
        bytes_are = bytes_told;
      }

-- ---- the other way: what the fields of a packet's datagram tell is that packet

pub told_back : (v : PacketValue) (xs : List ℕ) → Encodes v xs → v ≡ told_by xs
told_back v xs e =
    let padding = e.padding in
    let P : List ℕ → Type 0 = λ ys. Told v ys in
    let Q : List ℕ → Type 0 = λ ys. Laid v padding ys in
    let t : Told v xs = subst P (sym e.bytes_are) (told_sized v padding (in_range_tests v e.in_range 1)) in
    let l : Laid v padding xs = subst Q (sym e.bytes_are) (laid v padding) in
    let n = id_length_in xs in
    let i : v.id ≡ take n (drop 20 xs) = sym (ap (take n) l.tail_is ∙ take_at v.id (padding ++ v.body) n (sym t.id_is)) in
    let m : length (v.id ++ padding) ≡ body_start n - 20 = let ti = t.id_is in let q = e.padded in rw length-append (omega arith) in
    let s : 20 + (body_start n - 20) ≡ body_start n = omega arith in
    let b : v.body ≡ drop (body_start n) xs =
    sym (sym (ap (λ k. drop k xs) s) ∙ (sym (drop-drop (body_start n - 20) 20 xs)
    ∙ (ap (drop (body_start n - 20)) (l.tail_is ∙ sym (append_assoc v.id padding v.body))
    ∙ drop_at (v.id ++ padding) v.body (body_start n - 20) m))) in
    same_value v (told_by xs) (sym t.order_is) (sym t.stop_is) (sym t.number_is) (sym t.count_is) i b

pub one_packet : (v w : PacketValue) (xs : List ℕ) → Encodes v xs → Encodes w xs → v ≡ w
one_packet v w xs p q = told_back v xs p ∙ sym (told_back w xs q)

-- whoever reads the bytes of v gets v
pub reads_back : {v : PacketValue} {xs : List ℕ} → Encodes v xs → (r : Result Packet Refusal) → Reading xs r → MatchResult r (λ p. shown p ≡ v) (λ _. ⊥)
reads_back {v} {xs} e r h = MatchResult-weaker r h (λ p q. one_packet (shown p) v xs q e) (λ _ q. q.1 v e)
