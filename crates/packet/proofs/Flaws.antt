-- The lowest flaw of a datagram, by the tests that it has passed.
use Rattle.std.proofs.Common.{◌≡◌, ℕ, zero, suc, ◌+◌, ◌^◌, ◌<◌, ◌≤◌, List, length, get_or, take, sym, subst, ⊎_elim, arith, lit<}
use Rattle.std.proofs.lemmas.Bool.{cases_lt}
use Rattle.wire.specs.declared.refusal.Refusal.{Refusal}
use Rattle.wire.specs.declared.refusal.Layer.TheVariants.{Packet}
use Rattle.wire.specs.Refusals.{RefusedBy}
use Rattle.packet.specs.Limits.{magic_bytes, version_byte, header_length, max_datagram, max_id}
use Rattle.packet.specs.Packets.{PacketValue, InRange, Encodes, Numbered, body_start, padding_length, size_of, datagram_of}
use Rattle.packet.specs.Datagrams.{Flaw, too_short, too_long, other_magic, other_version, upper_flags, no_id, long_id, id_past_end, no_body, other_body, misnumbered, Refused, stop_in, body_length_in, number_in, count_in, id_length_in}
use Rattle.packet.proofs.Headers.{Told, laid, told, length_datagram}

-- what the test of each number asks of a datagram
abbrev pub Test : List ℕ → ℕ → Type 0
Test xs zero = Unit {0}
Test xs (suc zero) = (header_length ≤ length xs) × (length xs ≤ max_datagram)
Test xs (suc (suc zero)) = take 4 xs ≡ magic_bytes
Test xs (suc (suc (suc zero))) = get_or xs 4 0 ≡ version_byte
Test xs (suc (suc (suc (suc zero)))) = get_or xs 5 0 < 4
Test xs (suc (suc (suc (suc (suc zero))))) = (0 < id_length_in xs) × (id_length_in xs ≤ max_id) × (body_start (id_length_in xs) ≤ length xs)
Test xs (suc (suc (suc (suc (suc (suc zero)))))) = (0 < body_length_in xs) × (body_start (id_length_in xs) + body_length_in xs ≡ length xs)
Test xs (suc (suc (suc (suc (suc (suc (suc zero))))))) = Numbered (number_in xs) (count_in xs) (stop_in xs)
Test xs (suc (suc (suc (suc (suc (suc (suc (suc n)))))))) = Unit {0}

-- the tests with a number below k are passed
abbrev pub Passed : List ℕ → ℕ → Type 0
Passed xs k = (n : ℕ) → n < k → Test xs n

pub pass_none : (xs : List ℕ) → Passed xs 1
pass_none xs zero h = tt
pass_none xs (suc n) h = absurd (omega arith)

pub pass : (xs : List ℕ) (k : ℕ) → Passed xs k → Test xs k → Passed xs (suc k)
pass xs k p t n h = ⊎_elim (λ l. p n l)
    (λ (l : k ≤ n). let e : k ≡ n = omega arith in subst (Test xs) e t)
    (cases_lt n k)

-- what is not so was not passed
unpassed : (xs : List ℕ) (n k : ℕ) → Passed xs k → (Test xs n → ⊥) → k ≤ n
unpassed xs n k p q = ⊎_elim (λ l. absurd (q (p n l))) (λ l. l) (cases_lt n k)

pub lowest : (xs : List ℕ) (k n place : ℕ) → Passed xs k → Flaw xs n place → k ≤ n
lowest xs k _ _ p (too_short h) = unpassed xs 1 k p (λ t. omega arith)
lowest xs k _ _ p (too_long h) = unpassed xs 1 k p (λ t. omega arith)
lowest xs k _ _ p (other_magic h) = unpassed xs 2 k p h
lowest xs k _ _ p (other_version h) = unpassed xs 3 k p h
lowest xs k _ _ p (upper_flags h) = unpassed xs 4 k p (λ t. omega arith)
lowest xs k _ _ p (no_id h) = unpassed xs 5 k p (λ t. omega arith)
lowest xs k _ _ p (long_id h) = unpassed xs 5 k p (λ t. omega arith)
lowest xs k _ _ p (id_past_end h) = unpassed xs 5 k p (λ t. omega arith)
lowest xs k _ _ p (no_body h) = unpassed xs 6 k p (λ t. omega arith)
lowest xs k _ _ p (other_body h) = unpassed xs 6 k p (λ t. h t.1)
lowest xs k _ _ p (misnumbered h) = unpassed xs 7 k p h

-- the same tests, of a value that a datagram can hold
abbrev pub ValueTest : PacketValue → ℕ → Type 0
ValueTest v zero = Unit {0}
ValueTest v (suc zero) = (size_of v ≤ max_datagram) × (v.number < 2 ^ 32) × (v.count < 2 ^ 32)
ValueTest v (suc (suc zero)) = Unit {0}
ValueTest v (suc (suc (suc zero))) = Unit {0}
ValueTest v (suc (suc (suc (suc zero)))) = Unit {0}
ValueTest v (suc (suc (suc (suc (suc zero))))) = (0 < length v.id) × (length v.id ≤ max_id)
ValueTest v (suc (suc (suc (suc (suc (suc zero)))))) = 0 < length v.body
ValueTest v (suc (suc (suc (suc (suc (suc (suc zero))))))) = Numbered v.number v.count v.stop
ValueTest v (suc (suc (suc (suc (suc (suc (suc (suc n)))))))) = Unit {0}

pub told_sized : (v : PacketValue) (padding : List ℕ) → ValueTest v 1 → Told v (datagram_of v padding)
told_sized v padding s = told v padding (datagram_of v padding) (laid v padding) (omega arith) s.1 s.2 (omega arith)

module _ (v : PacketValue) (padding : List ℕ) (padded : length padding ≡ padding_length (length v.id)) (s : ValueTest v 1) where
  pub value_test : (n : ℕ) → ValueTest v n → Test (datagram_of v padding) n
  value_test zero t = tt
  value_test (suc zero) t = let n = length_datagram v padding padded in (omega arith, omega arith)
  value_test (suc (suc zero)) t = (laid v padding).magic_are
  value_test (suc (suc (suc zero))) t = (laid v padding).version_is
  value_test (suc (suc (suc (suc zero)))) t = (told_sized v padding s).flags_fit
  value_test (suc (suc (suc (suc (suc zero))))) t =
      let n = length_datagram v padding padded in
      let i = (told_sized v padding s).id_is in
      (omega arith, omega arith, omega arith)
  value_test (suc (suc (suc (suc (suc (suc zero)))))) t =
      let n = length_datagram v padding padded in
      let i = (told_sized v padding s).id_is in
      let b = (told_sized v padding s).body_is in
      (omega arith, omega arith)
  value_test (suc (suc (suc (suc (suc (suc (suc zero))))))) t =
      let u = told_sized v padding s in
      rw (u.number_is, u.count_is, u.stop_is) t
  value_test (suc (suc (suc (suc (suc (suc (suc (suc n)))))))) t = tt

pub in_range_tests : (v : PacketValue) → InRange v → (n : ℕ) → ValueTest v n
in_range_tests v r zero = tt
in_range_tests v r (suc zero) = (r.size_fits, omega arith, omega arith)
in_range_tests v r (suc (suc zero)) = tt
in_range_tests v r (suc (suc (suc zero))) = tt
in_range_tests v r (suc (suc (suc (suc zero)))) = tt
in_range_tests v r (suc (suc (suc (suc (suc zero))))) = (r.some_id, r.id_fits)
in_range_tests v r (suc (suc (suc (suc (suc (suc zero)))))) = r.some_body
in_range_tests v r (suc (suc (suc (suc (suc (suc (suc zero))))))) = r.numbered
in_range_tests v r (suc (suc (suc (suc (suc (suc (suc (suc n)))))))) = tt

-- the datagram of a packet value has no flaw
pub encoded_passed : (v : PacketValue) (xs : List ℕ) → Encodes v xs → Passed xs 8
encoded_passed v xs e n h =
    let P : List ℕ → Type 0 = λ ys. Test ys n in
    let t = in_range_tests v e.in_range in
    subst P (sym e.bytes_are) (value_test v e.padding e.padded (t 1) n (t n))

flaw_low : (xs : List ℕ) (n place : ℕ) → Flaw xs n place → n < 8
flaw_low xs _ _ (too_short h) = lit< tt
flaw_low xs _ _ (too_long h) = lit< tt
flaw_low xs _ _ (other_magic h) = lit< tt
flaw_low xs _ _ (other_version h) = lit< tt
flaw_low xs _ _ (upper_flags h) = lit< tt
flaw_low xs _ _ (no_id h) = lit< tt
flaw_low xs _ _ (long_id h) = lit< tt
flaw_low xs _ _ (id_past_end h) = lit< tt
flaw_low xs _ _ (no_body h) = lit< tt
flaw_low xs _ _ (other_body h) = lit< tt
flaw_low xs _ _ (misnumbered h) = lit< tt

pub flawed_none : (xs : List ℕ) (n place : ℕ) → Flaw xs n place → (v : PacketValue) → Encodes v xs → ⊥
flawed_none xs n place f v e =
    let a : 8 ≤ n = lowest xs 8 n place (encoded_passed v xs e) f in
    let b : n < 8 = flaw_low xs n place f in
    omega arith

-- the refusal that names the flaw at the first test that is not passed
pub refused : {n place : ℕ} {e : Refusal} (xs : List ℕ) → RefusedBy Packet n place e → Passed xs n → Flaw xs n place → Refused xs e
refused {n} {place} {e} xs r p w = record {
  flaw = rw (r.number_is, r.place_is) w;
  lowest = λ m q g. rw r.number_is (lowest xs n m q p g);
  by_layer = r.by_layer;
}
