-- A tick as a step.
use Rattle.std.proofs.Common.{◌≡◌, ℕ, zero, suc, ◌+◌, ◌<◌, ◌≤◌, true, ◌⊎◌, List, ◌∷◌, length, None, sym, refl, ap, ◌∙◌, subst, inl, inr, arith, length-set, get_or-set_other, get_or-set_same}
use mathlib.Core.Path.{fun_ext}
use Rattle.std.proofs.lemmas.Bool.{cases_eq, cases_Bool, true≢false}
use Rattle.wire.specs.Limits.{max_slots}
use Rattle.shelf.specs.Pieces.{Pieces}
use Rattle.shelf.specs.Units.{Tidy}
use Rattle.history.specs.Calls.{History, ticks, done}
use Rattle.history.specs.Stays.{Terms, later, outside, inside, Stands}
use Rattle.history.proofs.Standings.{same_or}
use Rattle.receiver.specs.Slots.{Slot, used, name_in, Bears, Keeps, Seat, at}
use Rattle.receiver.specs.Tables.{Lent, Seen, Explains, KeepsSlots}
use Rattle.receiver.specs.Parts.{Later, SlotAged}
use Rattle.receiver.proofs.Slots.{kept_used}

-- the slots below i are a tick older
pub record Aged (p i : ℕ) (slots : List Slot) (piece : Pieces) (slots' : List Slot) (piece' : Pieces) : Type 0 where
  pub len : length slots' ≡ length slots
  pub past : (k : ℕ) → k < i → Later p (at slots k) (at slots' k) (piece k) (piece' k)
  pub todo : (k : ℕ) → i ≤ k → at slots' k ≡ at slots k
  pub still : (k n : ℕ) → i ≤ k → piece' k n ≡ piece k n

-- one slot more
pub aged_more : (i : ℕ) (s m e : Seen) → Aged s.terms.patience i s.slots s.piece m.slots m.piece → m.terms ≡ s.terms → i < length m.slots → SlotAged i m e → Aged s.terms.patience (i + 1) s.slots s.piece e.slots e.piece
aged_more i s m e aged terms lt one =
    let p : ℕ = s.terms.patience in
    let o = one.only_here in
    let was : at m.slots i ≡ at s.slots i = aged.todo i (omega arith) in
    let here : at e.slots i ≡ one.new = ap (λ (x : List Slot). at x i) o.slots ∙ get_or-set_same m.slots i one.new None lt in
    let other : (k : ℕ) → (k ≡ i → ⊥) → at e.slots k ≡ at m.slots k = λ k ne. ap (λ (x : List Slot). at x k) o.slots ∙ get_or-set_other m.slots i k one.new None ne in
    let later : Later p (at m.slots i) one.new (m.piece i) (e.piece i) = subst (λ (x : Terms). Later x.patience (at m.slots i) one.new (m.piece i) (e.piece i)) terms one.later in
    record {
      len = ap length o.slots ∙ length-set m.slots i one.new ∙ aged.len;
      past = λ k lk. elim (cases_eq k i) [
        | inl same ↦
            subst (λ (n : ℕ). Later p (at s.slots n) (at e.slots n) (s.piece n) (e.piece n)) (sym same)
            (subst (λ (x : Slot). Later p (at s.slots i) x (s.piece i) (e.piece i)) (sym here)
            (subst (λ (x : Slot). Later p x one.new (s.piece i) (e.piece i)) was
            (subst (λ (x : ℕ → List ℕ). Later p (at m.slots i) one.new x (e.piece i)) (fun_ext (λ n. aged.still i n (omega arith))) later)))
        | inr ne ↦
            subst (λ (x : Slot). Later p (at s.slots k) x (s.piece k) (e.piece k)) (sym (other k ne))
            (subst (λ (x : ℕ → List ℕ). Later p (at s.slots k) (at m.slots k) (s.piece k) x) (sym (fun_ext (λ n. o.others k n ne))) (aged.past k (omega (arith, ne))))
      ];
      todo = λ k le. other k (λ e. omega (arith, e)) ∙ aged.todo k (omega arith);
      still = λ k n le. o.others k n (λ e. omega (arith, e)) ∙ aged.still k n (omega arith);
    }

-- some slot below n bears id, or none does
holder : (h : History) (s : Seen) → Explains h s → (id : List ℕ) (n : ℕ) → n ≤ max_slots → ((k : ℕ) × (k < n) × Bears (at s.slots k) id) ⊎ ((k : ℕ) → k < n → Bears (at s.slots k) id → ⊥)
holder h s ex id zero le = inr (λ k lt b. omega (arith, lt))
holder h s ex id (suc n) le = elim (holder h s ex id n (omega arith)) [
  | inl x ↦ inl (x.0, omega (arith, x.1), x.2)
  | inr none ↦ elim (ex.seats n (omega arith)) [
    | inl d ↦ inr (λ k lt b. elim (cases_eq k n) [ inl e ↦ true≢false (sym b.0 ∙ ap (λ (m : ℕ). used (at s.slots m)) e ∙ d.0) | inr ne ↦ none k (omega (arith, ne)) b ])
    | inr x ↦ elim (same_or x.0 id) [
      | inl e ↦ inl (n, omega arith, subst (λ (i : List ℕ). Bears (at s.slots n) i) e x.2)
      | inr ni ↦ inr (λ k lt b. elim (cases_eq k n) [ inl e ↦ ni (sym x.2.1 ∙ ap (λ (m : ℕ). name_in (at s.slots m)) (sym e) ∙ b.1) | inr ne ↦ none k (omega (arith, ne)) b ])
    ]
  ]
]

pub holder_of : (h : History) (s : Seen) → Explains h s → (id : List ℕ) → ((k : ℕ) × (k < max_slots) × Bears (at s.slots k) id) ⊎ ((k : ℕ) → k < max_slots → Bears (at s.slots k) id → ⊥)
holder_of h s ex id = holder h s ex id max_slots (omega arith)

module _ (h : History) (s : Seen) (ex : Explains h s) (slots' : List Slot) (piece' : Pieces) (aged : Aged s.terms.patience max_slots s.slots s.piece slots' piece') (tidy : Tidy s.terms.unit s.terms.capacity piece') where
  abbrev next : History
  next = record { call = ticks; reply = done } ∷ h

  -- a slot that bears a name bore it
  bore : (k : ℕ) → k < max_slots → (id : List ℕ) → Bears (at slots' k) id → Bears (at s.slots k) id
  bore k lt id b =
      let o = (aged.past k lt).older in
      (elim (cases_Bool (used (at s.slots k))) [ inl t ↦ t | inr f ↦ absurd (true≢false (sym b.0 ∙ o.free f)) ], sym (o.named b.0) ∙ b.1)

  bears_on : (k : ℕ) → k < max_slots → (id : List ℕ) → Bears (at s.slots k) id → used (at slots' k) ≡ true → Bears (at slots' k) id
  bears_on k lt id b t = (t, (aged.past k lt).older.named t ∙ b.1)

  next_seat : (k : ℕ) → k < max_slots → Seat s.terms.unit s.terms.patience next (at slots' k) (piece' k)
  next_seat k lt =
      let d = aged.past k lt in
      let o = d.older in
      elim (cases_Bool (used (at slots' k))) [
        | inr f ↦ inl (
          f,
          elim (ex.seats k lt) [
            | inl x ↦ λ n. d.kept (inl x.0) n ∙ x.1 n
            | inr x ↦ d.bare x.2.0 f
          ],
        )
        | inl t ↦ elim (ex.seats k lt) [
          | inl x ↦ absurd (true≢false (sym t ∙ o.free x.0))
          | inr x ↦ elim (o.goes s.terms.unit x.1 (s.piece k) x.4) [
            | inr y ↦ absurd (true≢false (sym t ∙ y.1))
            | inl y ↦ inr (
              x.0,
              later x.1,
              bears_on k lt x.0 x.2 t,
              (inside x.1, x.3, inl (y.0, refl)),
              subst (λ (w : ℕ → List ℕ). Keeps s.terms.unit s.terms.patience (later x.1) (at slots' k) w) (sym (fun_ext (d.kept (inr t)))) y.1,
            )
          ]
        ]
      ]

  pub tick_step : (lent : Lent) → Explains next (record { terms = s.terms; slots = slots'; piece = piece'; refused = s.refused; lent = lent })
  tick_step lent = record {
    patient = ex.patient;
    tidy = tidy;
    all_slots = aged.len ∙ ex.all_slots;
    seats = next_seat;
    apart = λ j k id lj lk bj bk. ex.apart j k id lj lk (bore j lj id bj) (bore k lk id bk);
    absent = λ id none. elim (holder_of h s ex id) [
      | inr out ↦ (outside, ex.absent id out, refl)
      | inl x ↦ elim (ex.seats x.0 x.1) [
        | inl d ↦ absurd (true≢false (sym x.2.0 ∙ d.0))
        | inr y ↦
            let same : y.0 ≡ id = sym y.2.1 ∙ x.2.1 in
            let st : Stands s.terms.patience h id (inside y.1) = subst (λ (i : List ℕ). Stands s.terms.patience h i (inside y.1)) same y.3 in
            let o = (aged.past x.0 x.1).older in (
              inside y.1,
              st,
              elim (o.goes s.terms.unit y.1 (s.piece x.0) y.4) [
                | inr z ↦ inr (z.0, refl)
                | inl z ↦ absurd (none x.0 x.1 (bears_on x.0 x.1 id x.2 (kept_used _ _ _ _ _ z.1)))
              ],
            )
      ]
    ];
    count = (let z = ex.count in omega (arith, z));
  }

  pub tick_keeps : KeepsSlots s.slots slots'
  tick_keeps id j k lj lk bj bk = ex.apart j k id lj lk bj (bore k lk id bk)
