-- The law of every run.
use Rattle.std.proofs.Common.{◌≡◌, ℕ, List, [], ◌∷◌, sym, ap, ◌∙◌, subst, inl, inr, arith}
use Rattle.std.proofs.lemmas.Bool.{cases_lt, true≢false}
use Rattle.wire.specs.Limits.{max_slots}
use Rattle.history.specs.Calls.{Call, Reply, History, fetches, asks, told, none_yet}
use Rattle.history.specs.Stays.{Terms, Stay, Standing, outside, inside, Stands}
use Rattle.history.specs.Answers.{AnswerDue, AllDue}
use Rattle.history.proofs.Standings.{stands_one, same_stay}
use Rattle.history.proofs.Answers.{one_answer}
use Rattle.history.proofs.Fetches.{fetched_if_whole, fetched_once, same_state}
use Rattle.history.proofs.Existence.{some_answer}
use Rattle.history.proofs.Orders.{orders_agree}
use Rattle.receiver.specs.declared.stay.Phase.{Phase}
use Rattle.receiver.specs.declared.stay.Phase.TheVariants.{Sound, Spoiled, Fetched}
use Rattle.receiver.specs.Slots.{Slot, name_in, Bears, Reflects, Keeps, at}
use Rattle.receiver.specs.Tables.{Seen, Explains, Step}
use Rattle.receiver.specs.Laws.{Run, StayHeld, Shelved, Lawful}
use Rattle.receiver.proofs.Slots.{kept_in}
use Rattle.receiver.proofs.Hearings.{unheard_bare}
use Rattle.receiver.proofs.Collections.{collect, stays_of}
use Rattle.receiver.proofs.Ticks.{holder_of}

-- where a run ends, its calls explain the state
pub run_on : (s : Seen) → Explains none_yet s → (h : History) (e : Seen) → Run s h e → Explains h e × (e.terms ≡ s.terms) × AllDue s.terms h
run_on s ex [] e r = (subst (λ (x : Seen). Explains none_yet x) (sym r) ex, ap (λ (x : Seen). x.terms) r, tt)
run_on s ex (x ∷ h) e r =
    let i = run_on s ex h r.0 r.1 in
    (r.2.explained h i.0, r.2.same_terms ∙ i.1, (i.2, subst (λ (t : Terms). AnswerDue t h x.call x.reply) i.1 (r.2.due h i.0)))

-- each id stands somehow
pub stands_of : (h : History) (s : Seen) → Explains h s → (id : List ℕ) → (z : Standing) × Stands s.terms.patience h id z
stands_of h s ex id = elim (holder_of h s ex id) [
  | inl x ↦ elim (ex.seats x.0 x.1) [
    | inl d ↦ absurd (true≢false (sym x.2.0 ∙ d.0))
    | inr y ↦ (inside y.1, subst (λ (i : List ℕ). Stands s.terms.patience h i (inside y.1)) (sym y.2.1 ∙ x.2.1) y.3)
  ]
  | inr none ↦ (outside, ex.absent id none)
]

-- a slot's pieces are as its stay says
phase_lies : (f : Phase) (unit : ℕ) (l : Stay) (piece : ℕ → List ℕ) → Reflects f unit l piece → StayHeld l piece
phase_lies (Sound c) unit l piece m = inl (m.0, m.1.calm, record { each = m.1.kept; no_other = unheard_bare l.heard c piece m.1 })
phase_lies Spoiled unit l piece m = inr (inr m.1, m.2)
phase_lies Fetched unit l piece m = inr (inl m.0, m.1)

lies_of : (unit p : ℕ) (l : Stay) (s : Slot) (piece : ℕ → List ℕ) → Keeps unit p l s piece → StayHeld l piece
lies_of unit p l s piece m = let x = kept_in unit p l s piece m in phase_lies x.0.phase unit l piece x.2

-- the shelf holds what was heard
pub shelved : (h : History) (s : Seen) → Explains h s → Shelved s.terms h s.piece
shelved h s ex =
    let r = collect h s ex max_slots (omega arith) in
    let o = r.1 in
    record {
      stays = r.0;
      listed = stays_of h s ex r.0 o;
      slot = λ z i. (o.from z i).0;
      within = λ z i. (o.from z i).1;
      own = λ y z i j e. sym (o.from y i).2.1 ∙ ap (λ (k : ℕ). name_in (at s.slots k)) e ∙ (o.from z j).2.1;
      holds = λ z i.
          let x = o.from z i in
          elim (ex.seats x.0 x.1) [
            | inl d ↦ absurd (true≢false (sym x.2.0 ∙ d.0))
            | inr y ↦
                let st : Stands s.terms.patience h z.name (inside y.1) = subst (λ (n : List ℕ). Stands s.terms.patience h n (inside y.1)) (sym y.2.1 ∙ x.2.1) y.3 in
                let e : y.1 ≡ z.stay = same_stay _ _ (stands_one s.terms.patience h z.name (inside y.1) (inside z.stay) st (o.each z i).0) in
                subst (λ (l : Stay). StayHeld l (s.piece x.0)) e (lies_of _ _ _ _ _ y.4)
          ];
      no_more = λ k none n. elim (cases_lt k max_slots) [
        | inr off ↦ ex.tidy.slots_fit k n off
        | inl lt ↦ elim (ex.seats k lt) [
          | inl d ↦ d.1 n
          | inr y ↦
              let z = o.to k y.0 lt y.2 in
              let x = o.from z.0 z.1 in
              absurd (none z.0 z.1 (ex.apart x.0 k y.0 x.1 lt (subst (λ (m : List ℕ). Bears (at s.slots x.0) m) z.2 x.2) y.2))
        ]
      ];
      sum = omega (arith, o.units, ex.tidy.units_fit);
    }

-- what a call is answered at the end of a run is due after it
called : (s : Seen) (ex : Explains none_yet s) (h : History) (e : Seen) → Run s h e → (c : Call) (r : Reply) (e' : Seen) → Step c r e e' → AnswerDue s.terms h c r
called s ex h e run c r e' step = let i = run_on s ex h e run in subst (λ (t : Terms). AnswerDue t h c r) i.1 (step.due h i.0)

pub lawful : (s : Seen) → Explains none_yet s → Lawful s
lawful s ex = record {
  new = ex;
  due = λ h e r. (run_on s ex h e r).2;
  some = some_answer s.terms;
  one = one_answer s.terms;
  fetched_if_whole = fetched_if_whole s.terms;
  fetched_once = fetched_once s.terms;
  shelved = λ h e r. let i = run_on s ex h e r in subst (λ (t : Terms). Shelved t h e.piece) i.1 (shelved h e i.0);
  any_order = λ h e r o g f ox q al.
      let i = run_on s ex h e r in
      let j = run_on o ox g f q in
      let agree = orders_agree s.terms o.terms h g i.2 j.2
      (λ id. let z = stands_of h e i.0 id in (z.0, subst (λ (t : Terms). Stands t.patience h id z.0) i.1 z.1))
      (λ id. let z = stands_of g f j.0 id in (z.0, subst (λ (t : Terms). Stands t.patience g id z.0) j.1 z.1))
      al in
      record {
        agree = agree;
        same_state = λ id v w n m e' f' a b.
            let x = agree.state id v n (called s ex h e r (asks id) (told v n) e' a) in
            same_state v w x.0 m (one_answer o.terms g (asks id) (told v x.0) (told w m) x.1 (called o ox g f q (asks id) (told w m) f' b));
        same_fetch = λ id n x y e' f' a b. one_answer o.terms g (fetches id n) x y (agree.fetch id n x (called s ex h e r (fetches id n) x e' a)) (called o ox g f q (fetches id n) y f' b);
      };
}
