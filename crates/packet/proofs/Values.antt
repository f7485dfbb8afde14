-- The flaws that the datagram of a value would have.
use Rattle.std.proofs.Common.{◌≡◌, ℕ, ◌<◌, length, ◌∙◌, arith}
use Rattle.std.proofs.lemmas.List.{length-replicate}
use Rattle.packet.specs.Limits.{max_datagram}
use Rattle.packet.specs.Packets.{PacketValue, Numbered, padding_length, size_of, zeros_of, canonical}
use Rattle.packet.specs.Datagrams.{Flaw, too_long, no_id, long_id, no_body, misnumbered}
use Rattle.packet.proofs.Headers.{Told, length_datagram}
use Rattle.packet.proofs.Flaws.{ValueTest, Test, Passed, pass, pass_none, told_sized, value_test}
use Rattle.packet.proofs.Readings.{numbers_known}

module _ (v : PacketValue) where
  pub padded : length (zeros_of v) ≡ padding_length (length v.id)
  padded = length-replicate {A = ℕ} (padding_length (length v.id)) 0

  pub length_canonical : length (canonical v) ≡ size_of v
  length_canonical = length_datagram v (zeros_of v) padded

  pub long_flaw : max_datagram < size_of v → Flaw (canonical v) 1 0
  long_flaw h = let l = length_canonical in too_long (omega arith)

module _ (v : PacketValue) (s : ValueTest v 1) where
  tells : Told v (canonical v)
  tells = told_sized v (zeros_of v) s

  passes : (n : ℕ) → ValueTest v n → Test (canonical v) n
  passes = value_test v (zeros_of v) (padded v) s

  pub passed_head : Passed (canonical v) 5
  passed_head =
      let xs = canonical v in
      pass xs 4 (pass xs 3 (pass xs 2 (pass xs 1 (pass_none xs) (passes 1 s)) (passes 2 tt)) (passes 3 tt)) (passes 4 tt)

  pub passed_id : ValueTest v 5 → Passed (canonical v) 6
  passed_id t = pass (canonical v) 5 passed_head (passes 5 t)

  pub passed_body : ValueTest v 5 → ValueTest v 6 → Passed (canonical v) 7
  passed_body t u = pass (canonical v) 6 (passed_id t) (passes 6 u)

  pub no_id_flaw : length v.id ≡ 0 → Flaw (canonical v) 5 16
  no_id_flaw h = no_id (tells.id_is ∙ h)

  pub long_id_flaw : 252 < length v.id → Flaw (canonical v) 5 16
  long_id_flaw h = long_id (rw tells.id_is h)

  pub no_body_flaw : length v.body ≡ 0 → Flaw (canonical v) 6 6
  no_body_flaw h = no_body (tells.body_is ∙ h)

  pub number_flaw : (Numbered v.number v.count v.stop → ⊥) → Flaw (canonical v) 7 8
  number_flaw h = let t = tells in misnumbered (λ m. h ((numbers_known t.number_is t.count_is t.stop_is).0 m))
