-- A datagram that is that of no packet is refused in one way only.
use Rattle.std.proofs.Common.{◌≡◌, ℕ, zero, suc, List, sym, refl, ap, ◌∙◌, arith}
use Rattle.wire.specs.Refusals.{fault_number}
use Rattle.wire.specs.declared.refusal.Refusal.{Refusal}
use Rattle.packet.specs.Datagrams.{Flaw, too_short, too_long, other_magic, other_version, upper_flags, no_id, long_id, id_past_end, no_body, other_body, misnumbered, Refused}
use Rattle.history.specs.Calls.{Reply, refused}

-- the place that the flaw of a number points at
place_of : ℕ → ℕ
place_of zero = 0
place_of (suc zero) = 0
place_of (suc (suc zero)) = 0
place_of (suc (suc (suc zero))) = 4
place_of (suc (suc (suc (suc zero)))) = 5
place_of (suc (suc (suc (suc (suc zero))))) = 16
place_of (suc (suc (suc (suc (suc (suc zero)))))) = 6
place_of (suc (suc (suc (suc (suc (suc (suc n))))))) = 8

flaw_place : (xs : List ℕ) (n place : ℕ) → Flaw xs n place → place ≡ place_of n
unfolding place_of
flaw_place xs _ _ (too_short h) = refl
flaw_place xs _ _ (too_long h) = refl
flaw_place xs _ _ (other_magic h) = refl
flaw_place xs _ _ (other_version h) = refl
flaw_place xs _ _ (upper_flags h) = refl
flaw_place xs _ _ (no_id h) = refl
flaw_place xs _ _ (long_id h) = refl
flaw_place xs _ _ (id_past_end h) = refl
flaw_place xs _ _ (no_body h) = refl
flaw_place xs _ _ (other_body h) = refl
flaw_place xs _ _ (misnumbered h) = refl

abbrev pub refusal_of : Refusal → Reply
refusal_of e = refused (fault_number e.fault) e.place e.layer

pub refused_one : (xs : List ℕ) (e e' : Refusal) → Refused xs e → Refused xs e' → refusal_of e ≡ refusal_of e'
refused_one xs e e' a b =
    let n : fault_number e.fault ≡ fault_number e'.fault = omega (arith, a.lowest _ _ b.flaw, b.lowest _ _ a.flaw) in
    let p : e.place ≡ e'.place = flaw_place xs _ _ a.flaw ∙ ap place_of n ∙ sym (flaw_place xs _ _ b.flaw) in
    let l : e.layer ≡ e'.layer = a.by_layer ∙ sym b.by_layer in
    cc
