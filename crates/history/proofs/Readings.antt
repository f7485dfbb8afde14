-- Bytes are those of a packet, or refused.
use Rattle.std.proofs.Common.{◌≡◌, ℕ, suc, ◌+◌, ◌<◌, ◌≤◌, Bool, eqb, ◌⊎◌, List, length, get_or, take, sym, refl, ◌∙◌, inl, inr, arith}
use Rattle.std.proofs.lemmas.Bool.{cases_eq, cases_lt, eq-eqb, eqb-true}
use Rattle.wire.specs.Limits.{max_packets}
use Rattle.wire.specs.Numbers.{Octets}
use Rattle.wire.specs.Refusals.{fault_number}
use Rattle.wire.specs.declared.refusal.Refusal.{Refusal}
use Rattle.wire.specs.declared.refusal.Fault.{Fault}
use Rattle.wire.specs.declared.refusal.Fault.TheVariants.{DatagramLength, Magic, Version, Flags, IdLength, BodyLength, Numbering}
use Rattle.wire.specs.declared.refusal.Layer.TheVariants as layer
use Rattle.packet.specs.Limits.{magic_bytes, version_byte, header_length, max_datagram, max_id}
use Rattle.packet.specs.Packets.{PacketValue, Encodes, InRange, Numbered, body_start}
use Rattle.packet.specs.Datagrams.{Flaw, too_short, too_long, other_magic, other_version, upper_flags, no_id, long_id, id_past_end, no_body, other_body, misnumbered, Refused, stop_in, body_length_in, number_in, count_in, id_length_in}
use Rattle.packet.proofs.Flaws.{Test, Passed, pass, pass_none, flawed_none, refused}
use Rattle.packet.proofs.Encodings.{told_by, told_encodes}
use Rattle.collection.specs.Fragments.{Ranged}
use Rattle.history.specs.Stays.{fragment_of}
use Rattle.history.proofs.Standings.{same_or}
use Rattle.history.proofs.Decisions.{Decided, both, moved, less, at_most, follows, same_flag}

-- ---- number, count and stop flag

Numbers : ℕ → ℕ → Bool → Type 0
Numbers n count stop = ((n < max_packets) × (count ≤ max_packets)) × ((0 < count → n < count) × (0 < count → stop ≡ eqb (n + 1) count))

numbers_or : (n count : ℕ) (stop : Bool) → Decided (Numbers n count stop)
unfolding Numbers
numbers_or n count stop =
    both (both (less n max_packets) (at_most count max_packets)) (both (follows (less 0 count) (less n count)) (follows (less 0 count) (same_flag stop (eqb (n + 1) count))))

numbered_or : (n count : ℕ) (stop : Bool) → Decided (Numbered n count stop)
unfolding Numbers
numbered_or n count stop = moved
    (λ x. record { number_fits = x.0.0; count_fits = x.0.1; below_count = x.1.0; stop_last = x.1.1 })
    (λ r. ((r.number_fits, r.count_fits), (r.below_count, r.stop_last)))
    (numbers_or n count stop)

-- ---- a packet in range

pub in_range_ranged : (v : PacketValue) → InRange v → Ranged (fragment_of v)
in_range_ranged v r =
    let n = r.numbered in
    record {
      limits = (n.number_fits, n.count_fits, r.some_body, omega arith);
      within = n.below_count;
      ends = λ p. (λ t. eqb-true (v.number + 1) v.count (sym (n.stop_last p) ∙ t), λ e. n.stop_last p ∙ eq-eqb (v.number + 1) v.count e);
    }

-- ---- the tests of a datagram, one after the other

Bad : List ℕ → Type 0
Bad xs = (e : Refusal) × Refused xs e × ((v : PacketValue) → Encodes v xs → ⊥)

module _ (xs : List ℕ) where
  test_1 : Test xs 1 ⊎ Flaw xs 1 0
  test_1 = elim (cases_lt (length xs) header_length) [
    | inl l ↦ inr (too_short l)
    | inr l ↦ elim (cases_lt max_datagram (length xs)) [ inl m ↦ inr (too_long m) | inr m ↦ inl (l, m) ]
  ]

  test_2 : Test xs 2 ⊎ Flaw xs 2 0
  test_2 = elim (same_or (take 4 xs) magic_bytes) [ inl e ↦ inl e | inr n ↦ inr (other_magic n) ]

  test_3 : Test xs 3 ⊎ Flaw xs 3 4
  test_3 = elim (cases_eq (get_or xs 4 0) version_byte) [ inl e ↦ inl e | inr n ↦ inr (other_version n) ]

  test_4 : Test xs 4 ⊎ Flaw xs 4 5
  test_4 = elim (cases_lt (get_or xs 5 0) 4) [ inl l ↦ inl l | inr l ↦ inr (upper_flags l) ]

  test_5 : Test xs 5 ⊎ Flaw xs 5 16
  test_5 = elim (cases_eq (id_length_in xs) 0) [
    | inl e ↦ inr (no_id e)
    | inr n ↦ elim (cases_lt max_id (id_length_in xs)) [
      | inl l ↦ inr (long_id l)
      | inr l ↦ elim (cases_lt (length xs) (body_start (id_length_in xs))) [
        | inl m ↦ inr (id_past_end m)
        | inr m ↦ inl (omega (arith, n), l, m)
      ]
    ]
  ]

  test_6 : Test xs 6 ⊎ Flaw xs 6 6
  test_6 = elim (cases_eq (body_length_in xs) 0) [
    | inl e ↦ inr (no_body e)
    | inr n ↦ elim (cases_eq (body_start (id_length_in xs) + body_length_in xs) (length xs)) [
      | inl e ↦ inl (omega (arith, n), e)
      | inr m ↦ inr (other_body m)
    ]
  ]

  test_7 : Test xs 7 ⊎ Flaw xs 7 8
  test_7 = elim (numbered_or (number_in xs) (count_in xs) (stop_in xs)) [ inl t ↦ inl t | inr n ↦ inr (misnumbered n) ]

  refuse : (f : Fault) (place : ℕ) → Passed xs (fault_number f) → Flaw xs (fault_number f) place → Bad xs
  unfolding Bad
  refuse f place p w =
      let e : Refusal = record { fault = f; place = place; layer = layer.Packet } in
      (e, refused {n = fault_number f} {place = place} xs (record { number_is = refl; place_is = refl; by_layer = refl }) p w, flawed_none xs (fault_number f) place w)

  -- one more test
  onward : (f : Fault) (place : ℕ) → Test xs (fault_number f) ⊎ Flaw xs (fault_number f) place → Passed xs (fault_number f) ⊎ Bad xs → Passed xs (suc (fault_number f)) ⊎ Bad xs
  onward f place t (inr b) = inr b
  onward f place (inl a) (inl p) = inl (pass xs (fault_number f) p a)
  onward f place (inr w) (inl p) = inr (refuse f place p w)

  passes : Passed xs 8 ⊎ Bad xs
  passes =
      onward Numbering 8 test_7 (onward BodyLength 6 test_6 (onward IdLength 16 test_5 (onward Flags 5 test_4
      (onward Version 4 test_3 (onward Magic 0 test_2 (onward DatagramLength 0 test_1 (inl (pass_none xs))))))))

  pub read_or : Octets xs → ((v : PacketValue) × Encodes v xs) ⊎ ((e : Refusal) × Refused xs e × ((v : PacketValue) → Encodes v xs → ⊥))
  unfolding Bad
  read_or o = elim passes [ inl p ↦ inl (told_by xs, told_encodes xs o p) | inr b ↦ inr b ]
