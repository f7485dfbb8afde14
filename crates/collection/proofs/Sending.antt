-- The packets of one message.
use Rattle.std.proofs.Common.{◌≡◌, ℕ, zero, suc, ◌+◌, ◌-◌, ◌*◌, ◌<◌, ◌≤◌, true, false, List, ◌++◌, length, take, drop, sym, ap, ◌∙◌, subst, inl, inr, mul-le-mul_right, suc-mul, arith, length-drop, length-take, take-add}
use Rattle.std.proofs.lemmas.List.{take_all}
use Rattle.std.proofs.lemmas.Bool.{cases_eq, cases_Bool, true≢false}
use Rattle.collection.specs.Fragments.{FragmentValue, In, Heard, Contradict, PastStop, OutsideCount, LongerStop, Whole, Joined, Message}
use Rattle.collection.specs.Fragments.Contradict.{other_piece, other_count, past_stop, outside_count, other_length, longer_stop}
use Rattle.collection.specs.Sent.{Cut, Of, SentHeard}

module _ (m : List ℕ) (size n : ℕ) (cut : Cut m size n) where
  body_size : (a : FragmentValue) → Of m size n a → length a.body ≤ size
  body_size a f = omega (arith, ap length f.body, length-take size (drop (a.number * size) m))

  -- a packet before the last is full
  full : (a : FragmentValue) → Of m size n a → a.stop ≡ false → length a.body ≡ size
  full a f s =
      let before : a.number + 2 ≤ n = elim (cases_eq (a.number + 1) n) [ inl e ↦ absurd (true≢false (sym (f.stop.1 e) ∙ s)) | inr ne ↦ omega (arith, f.placed, ne) ] in
      let next : suc (suc a.number) ≤ n = omega arith in
      omega (
        arith,
        ap length f.body,
        length-take size (drop (a.number * size) m),
        length-drop (a.number * size) m,
        mul-le-mul_right size next,
        suc-mul a.number size,
        suc-mul (suc a.number) size,
        cut.more,
      )

  same_stop : (a b : FragmentValue) → Of m size n a → Of m size n b → a.number ≡ b.number → a.stop ≡ b.stop
  same_stop a b f g e = elim (cases_eq (a.number + 1) n) [
    | inl l ↦ f.stop.1 l ∙ sym (g.stop.1 (omega arith))
    | inr ne ↦ off a f ne ∙ sym (off b g (λ l. ne (omega arith)))
  ]
    where
      off : (x : FragmentValue) → Of m size n x → (x.number + 1 ≡ n → ⊥) → x.stop ≡ false
      off x h ne = elim (cases_Bool x.stop) [ inl t ↦ absurd (ne (h.stop.0 t)) | inr s ↦ s ]

  counts : (a : FragmentValue) → Of m size n a → 0 < a.count → a.count ≡ n
  counts a f p = elim f.count [ inl z ↦ absurd (omega arith) | inr e ↦ e ]

  not_past : (a b : FragmentValue) → Of m size n a → Of m size n b → PastStop a b → ⊥
  not_past a b f g h = omega (arith, f.stop.0 h.0, h.1, g.placed)

  not_outside : (a b : FragmentValue) → Of m size n a → Of m size n b → OutsideCount a b → ⊥
  not_outside a b f g h =
      let e = counts a f h.0 in
      elim h.1 [ inl l ↦ omega (arith, g.placed, e, l) | inr ne ↦ ne (λ t. g.stop.0 t ∙ sym e, λ l. g.stop.1 (l ∙ e)) ]

  not_longer : (a b : FragmentValue) → Of m size n a → Of m size n b → LongerStop a b → ⊥
  not_longer a b f g h = omega (arith, body_size a f, full b g h.1, h.2)

  never : (a b : FragmentValue) → Of m size n a → Of m size n b → Contradict a b → ⊥
  never a b f g (other_piece h) = h.1 (f.body ∙ ap (λ (k : ℕ). take size (drop (k * size) m)) h.0 ∙ sym g.body, same_stop a b f g h.0)
  never a b f g (other_count h) = h.2 (counts a f h.0 ∙ sym (counts b g h.1))
  never a b f g (past_stop (inl h)) = not_past a b f g h
  never a b f g (past_stop (inr h)) = not_past b a g f h
  never a b f g (outside_count (inl h)) = not_outside a b f g h
  never a b f g (outside_count (inr h)) = not_outside b a g f h
  never a b f g (other_length h) = h.2 (full a f h.0 ∙ sym (full b g h.1))
  never a b f g (longer_stop (inl h)) = not_longer a b f g h
  never a b f g (longer_stop (inr h)) = not_longer b a g f h

  module _ (ps : List FragmentValue) (each : (a : FragmentValue) → In a ps → Of m size n a) (all : (k : ℕ) → k < n → Heard ps k) where
    joined : (k : ℕ) → k ≤ n → Joined ps k (take (k * size) m)
    joined zero l = let z : zero * size ≡ zero = omega arith in ap (λ (x : ℕ). take x m) z
    joined (suc k) l =
        let a = all k (omega arith) in
        let f = each a.0 a.1 in
        let e : take (suc k * size) m ≡ take (k * size) m ++ a.0.body =
        ap (λ (x : ℕ). take x m) (suc-mul k size) ∙ take-add (k * size) size m
        ∙ ap (λ (x : List ℕ). take (k * size) m ++ x) (ap (λ (x : ℕ). take size (drop (x * size) m)) (sym a.2) ∙ sym f.body) in
        (take (k * size) m, joined k (omega arith), (a.0, a.1, (a.2, e)))

    whole : Whole ps × Message ps m
    whole =
        let z = all (n - 1) (omega (arith, cut.some)) in
        let e : suc z.0.number ≡ n = omega (arith, z.2, cut.some) in
        let t : z.0.stop ≡ true = (each z.0 z.1).stop.1 (omega (arith, e)) in
        let j : Joined ps n m = subst (Joined ps n) (take_all (n * size) m cut.most) (joined n (omega arith)) in (
          (λ a b i k c. never a b (each a i) (each b k) c, (z.0, z.1, (t, λ k l. all k (omega (arith, e))))),
          (z.0, z.1, (t, subst (λ (k : ℕ). Joined ps k m) (sym e) j)),
        )

pub sent_heard : SentHeard
sent_heard = record {
  never = λ m size n cut a b f g c. never m size n cut a b f g c;
  whole = λ m size n ps cut each all. whole m size n cut ps each all;
}
