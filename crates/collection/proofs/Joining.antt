-- What a summary tells of the whole message.
use Rattle.std.proofs.Common.{◌≡◌, ℕ, zero, suc, ◌+◌, ◌*◌, ◌<◌, ◌≤◌, true, false, List, [], ◌++◌, length, Some, sym, refl, ap, ◌∙◌, subst, inl, inr, suc-mul, arith, length-append}
use Rattle.std.proofs.lemmas.Bool.{cases_eq, cases_Bool}
use Rattle.wire.specs.Limits.{max_packets}
use Rattle.numbers.specs.Marks.{has, tally, Lowest}
use Rattle.numbers.proofs.Digits.{has_not}
use Rattle.collection.specs.Fragments.{FragmentValue, In, Heard, Whole, Joined, Message, PlainLength, Complete, Counted, joined}
use Rattle.collection.specs.declared.summary.Last.{Last}
use Rattle.collection.specs.declared.summary.Summary.{Summary}
use Rattle.collection.specs.Kept.{Open}
use Rattle.collection.proofs.Pinning.{stop_top, one_stop}

module _ (ps : List FragmentValue) (s : Summary) (piece : ℕ → List ℕ) (o : Open ps s piece) where
  body_at : (a : FragmentValue) (n : ℕ) → In a ps → a.number ≡ n → a.body ≡ piece n
  body_at a n i e = sym (o.kept a i) ∙ ap piece e

  joined_size : (z : FragmentValue) (l : ℕ) → In z ps → z.stop ≡ true → PlainLength ps l → (k : ℕ) (m : List ℕ) → k ≤ z.number → Joined ps k m → length m ≡ k * l
  joined_size z l i t plain zero m le e = ap length e ∙ omega arith
  joined_size z l i t plain (suc k) m le (ys, j, (a, h, (e, f))) =
      let below : a.stop ≡ false = elim (cases_Bool a.stop) [ inl u ↦ absurd (omega (arith, stop_top ps o.calm a z h i u, e, le)) | inr g ↦ g ] in
      omega (arith, ap length f, length-append ys a.body, plain a h below, joined_size z l i t plain k ys (omega arith) j, suc-mul k l)

  message_size : (v : Last) (l : ℕ) → s.stop ≡ Some v → PlainLength ps l → (m : List ℕ) → Message ps m → length m ≡ v.number * l + v.length
  message_size v l e plain m (z, i, (t, (ys, j, (a, h, (n, f))))) =
      let y = o.ended v e in
      let number : z.number ≡ v.number = one_stop ps o.calm z y.0 i y.1 t y.2.0 ∙ y.2.1 in
      let body : a.body ≡ y.0.body = body_at a z.number h n ∙ sym (body_at y.0 z.number y.1 (y.2.1 ∙ sym number)) in
      let size : length ys ≡ v.number * l = joined_size z l i t plain z.number ys (omega arith) j ∙ ap (λ (x : ℕ). x * l) number in
      omega (arith, ap length f, length-append ys a.body, ap length body, y.2.2, size)

  join : (k : ℕ) → ((n : ℕ) → n < k → Heard ps n) → (m : List ℕ) × Joined ps k m
  join zero h = ([], refl)
  join (suc k) h =
      let r = join k (λ n l. h n (omega arith)) in
      let a = h k (omega arith) in
      (r.0 ++ a.0.body, (r.0, r.1, (a.0, a.1, (a.2, refl))))

  joined_pieces : (k : ℕ) (m : List ℕ) → Joined ps k m → m ≡ joined piece k
  unfolding joined
  joined_pieces zero m e = e
  joined_pieces (suc k) m (ys, j, (a, h, (n, f))) =
      let x = joined_pieces k ys j in
      let b = body_at a k h n in
      f ∙ ap (λ (y : List ℕ). y ++ a.body) x ∙ ap (λ (y : List ℕ). joined piece k ++ y) b

  pub complete : (v : Last) (l r : ℕ) → s.stop ≡ Some v → PlainLength ps l → Lowest (has s.heard) max_packets r → v.number < r → Complete ps piece (v.number + 1) (v.number * l + v.length)
  complete v l r e plain low more =
      let z = o.ended v e in
      let heard : (n : ℕ) → n < suc z.0.number → Heard ps n = λ n lt. o.heard n (low.below n (omega (arith, z.2.1))) in
      let j = join (suc z.0.number) heard in
      let m : Message ps j.0 = (z.0, z.1, (z.2.0, j.1)) in
      let only : (m : List ℕ) → Message ps m → m ≡ joined piece (v.number + 1) = λ m y.
      joined_pieces (suc y.0.number) m y.2.1
      ∙ ap (joined piece) (omega (arith, one_stop ps o.calm y.0 z.0 y.1 z.1 y.2.0 z.2.0, z.2.1)) in
      record {
        whole = (o.calm, (z.0, z.1, (z.2.0, λ n lt. heard n (omega arith))));
        message = subst (Message ps) (only j.0 m) m;
        only = only;
        size = ap length (sym (only j.0 m)) ∙ message_size v l e plain j.0 m;
        stops = (z.0, z.1, (z.2.0, ap (λ (n : ℕ). n + 1) z.2.1));
      }

  pub not_whole : (v : Last) (r : ℕ) → s.stop ≡ Some v → Lowest (has s.heard) max_packets r → r ≤ v.number → Whole ps → ⊥
  not_whole v r e low le w =
      let y = o.ended v e in
      let z = w.1 in
      let number : z.0.number ≡ v.number = one_stop ps o.calm z.0 y.0 z.1 y.1 z.2.0 y.2.0 ∙ y.2.1 in
      let missing : has s.heard r ≡ 0 = low.at (omega (arith, (o.ranged y.0 y.1).limits.0, y.2.1)) in
      let found : Heard ps r = elim (cases_eq r v.number) [ inl f ↦ (z.0, z.1, number ∙ sym f) | inr ne ↦ z.2.1 r (omega (arith, number, ne)) ] in
      let told : has s.heard r ≡ 1 = ap (has s.heard) (sym found.2) ∙ o.told found.0 found.1 in
      omega (arith, missing, told)

  pub counted : (j : ℕ) → Counted ps j (tally (has s.heard) j)
  unfolding tally Counted
  counted zero = refl
  counted (suc j) = elim (cases_eq (has s.heard j) 1) [
    | inl e ↦ inl (o.heard j e, (tally (has s.heard) j, counted j, omega (arith, e)))
    | inr ne ↦ inr (
      λ h. ne (ap (has s.heard) (sym h.2) ∙ o.told h.0 h.1),
      subst (Counted ps j) (omega (arith, has_not s.heard j ne)) (counted j),
    )
  ]

  -- of all packet numbers
  pub counted_all : (r : ℕ) → r ≡ tally (has s.heard) max_packets → Counted ps max_packets r
  counted_all r e = subst (Counted ps max_packets) (sym e) (counted max_packets)
