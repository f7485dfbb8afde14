-- The stays as the slots have them.
use Rattle.std.proofs.Common.{◌≡◌, ℕ, zero, suc, ◌<◌, ◌≤◌, Bool, true, false, cond, ◌⊎◌, List, [], ◌∷◌, length, sym, refl, ap, ◌∙◌, subst, inl, inr, arith}
use Rattle.std.proofs.lemmas.Bool.{cases_eq, cases_Bool, true≢false}
use Rattle.wire.specs.Limits.{max_slots}
use Rattle.shelf.specs.Sums.{total}
use Rattle.shelf.specs.Units.{units_held}
use Rattle.shelf.proofs.Totals.{total_more, total_zero}
use Rattle.history.specs.Calls.{History}
use Rattle.history.specs.Stays.{Stay, outside, inside, Stands, Weighs, Placed, Among, Apart, units_of, Stays}
use Rattle.history.proofs.Standings.{same_or, stands_one, out_in}
use Rattle.receiver.specs.declared.stay.Phase.{Phase}
use Rattle.receiver.specs.declared.stay.Phase.TheVariants.{Sound, Spoiled, Fetched}
use Rattle.receiver.specs.Slots.{Slot, used, name_in, Bears, row, Reflects, Keeps, at}
use Rattle.receiver.specs.Tables.{Seen, Explains}
use Rattle.receiver.proofs.Rows.{row_none}
use Rattle.receiver.proofs.Slots.{kept_in}

-- a slot's pieces cost what its stay takes
phase_weighs : (f : Phase) (unit : ℕ) (l : Stay) (piece : ℕ → List ℕ) → 0 < unit → Reflects f unit l piece → Weighs unit l (row unit piece)
phase_weighs (Sound c) unit l piece some m = inl (m.0, m.1.calm, m.2)
phase_weighs Spoiled unit l piece some m = inr (inr m.1, row_none unit piece some m.2)
phase_weighs Fetched unit l piece some m = inr (inl m.0, row_none unit piece some m.1)

weighs_of : (unit p : ℕ) (l : Stay) (s : Slot) (piece : ℕ → List ℕ) → 0 < unit → Keeps unit p l s piece → Weighs unit l (row unit piece)
weighs_of unit p l s piece some m = let x = kept_in unit p l s piece m in phase_weighs x.0.phase unit l piece some x.2

abbrev pub uses : List Slot → ℕ → ℕ
uses slots n = cond (used (at slots n)) 1 0

pub record Collected (h : History) (s : Seen) (n : ℕ) (zs : List Placed) : Type 0 where
  pub apart : Apart zs
  pub each : (z : Placed) → Among z zs → Stands s.terms.patience h z.name (inside z.stay) × Weighs s.terms.unit z.stay z.units
  pub from : (z : Placed) → Among z zs → (k : ℕ) × (k < n) × Bears (at s.slots k) z.name
  pub to : (k : ℕ) (id : List ℕ) → k < n → Bears (at s.slots k) id → (z : Placed) × Among z zs × (z.name ≡ id)
  pub units : units_of zs ≡ total (λ (k : ℕ). row s.terms.unit (s.piece k)) n
  pub long : length zs ≡ total (uses s.slots) n

pub collect : (h : History) (s : Seen) → Explains h s → (n : ℕ) → n ≤ max_slots → (zs : List Placed) × Collected h s n zs
collect h s ex zero le = (
  [],
  record {
    apart = tt;
    each = λ z i. absurd i;
    from = λ z i. absurd i;
    to = λ k id lt b. absurd (omega arith);
    units = sym (total_zero _);
    long = sym (total_zero _);
  },
)
collect h s ex (suc n) le =
    let r = collect h s ex n (omega arith) in
    let zs = r.0 in
    let o = r.1 in
    elim (ex.seats n (omega arith)) [
      | inl d ↦ (
        zs,
        record {
          apart = o.apart;
          each = o.each;
          from = λ z i. let x = o.from z i in (x.0, omega (arith, x.1), x.2);
          to = λ k id lt b. elim (cases_eq k n) [
            | inl e ↦ absurd (true≢false (sym b.0 ∙ ap (λ (m : ℕ). used (at s.slots m)) e ∙ d.0))
            | inr ne ↦ o.to k id (omega (arith, ne)) b
          ];
          units = (let z : row s.terms.unit (s.piece n) ≡ 0 = row_none _ _ ex.tidy.unit_some d.1 in omega (arith, o.units, total_more (λ (k : ℕ). row s.terms.unit (s.piece k)) n, z));
          long = (let z : uses s.slots n ≡ 0 = ap (λ (b : Bool). cond b 1 0) d.0 in omega (arith, o.long, total_more (uses s.slots) n, z));
        },
      )
      | inr x ↦
          let me : Placed = record { name = x.0; stay = x.1; units = row s.terms.unit (s.piece n) } in (
            me ∷ zs,
            record {
              apart = (λ z i e. let y = o.from z i in let m = ex.apart y.0 n x.0 (omega (arith, y.1)) (omega arith) (subst (λ (w : List ℕ). Bears (at s.slots y.0) w) e y.2) x.2 in omega (arith, y.1, m), o.apart);
              each = λ z i. elim i [
                | inl e ↦ subst (λ (w : Placed). Stands s.terms.patience h w.name (inside w.stay) × Weighs s.terms.unit w.stay w.units) (sym e) (x.3, weighs_of _ _ _ _ _ ex.tidy.unit_some x.4)
                | inr j ↦ o.each z j
              ];
              from = λ z i. elim i [
                | inl e ↦ (n, omega arith, subst (λ (w : Placed). Bears (at s.slots n) w.name) (sym e) x.2)
                | inr j ↦ let y = o.from z j in (y.0, omega (arith, y.1), y.2)
              ];
              to = λ k id lt b. elim (cases_eq k n) [
                | inl e ↦ (me, inl refl, sym x.2.1 ∙ ap (λ (m : ℕ). name_in (at s.slots m)) (sym e) ∙ b.1)
                | inr ne ↦ let y = o.to k id (omega (arith, ne)) b in (y.0, inr y.1, y.2)
              ];
              units = omega (arith, o.units, total_more (λ (k : ℕ). row s.terms.unit (s.piece k)) n);
              long = (let z : uses s.slots n ≡ 1 = ap (λ (b : Bool). cond b 1 0) x.2.0 in omega (arith, o.long, total_more (uses s.slots) n, z));
            },
          )
    ]

-- one of zs has the name, or none has
pub named_or : (zs : List Placed) (id : List ℕ) → ((z : Placed) × Among z zs × (z.name ≡ id)) ⊎ ((z : Placed) → Among z zs → z.name ≡ id → ⊥)
named_or [] id = inr (λ z i e. i)
named_or (x ∷ zs) id = elim (same_or x.name id) [
  | inl e ↦ inl (x, inl refl, e)
  | inr ne ↦ elim (named_or zs id) [
    | inl y ↦ inl (y.0, inr y.1, y.2)
    | inr miss ↦ inr (λ z i e. elim i [ inl f ↦ ne (sym (ap (λ (w : Placed). w.name) f) ∙ e) | inr j ↦ miss z j e ])
  ]
]

pub stays_of : (h : History) (s : Seen) → Explains h s → (zs : List Placed) → Collected h s max_slots zs → Stays s.terms h zs
stays_of h s ex zs o = record {
  apart = o.apart;
  each = o.each;
  all = λ id l st. elim (named_or zs id) [
    | inl y ↦ y
    | inr miss ↦ absurd (out_in l (stands_one s.terms.patience h id outside (inside l) (ex.absent id (λ k lt b. let y = o.to k id lt b in miss y.0 y.1 y.2)) st))
  ];
}

pub listing : (h : History) (s : Seen) → Explains h s → (zs : List Placed) × Stays s.terms h zs × (units_of zs ≡ units_held s.terms.unit s.piece) × (length zs ≡ total (uses s.slots) max_slots)
listing h s ex =
    let r = collect h s ex max_slots (omega arith) in
    (r.0, stays_of h s ex r.0 r.1, r.1.units, r.1.long)

-- all slots in use, or one free
pub all_used : (slots : List Slot) (n : ℕ) → ((k : ℕ) → k < n → used (at slots k) ≡ true) → total (uses slots) n ≡ n
all_used slots zero f = total_zero _
all_used slots (suc n) f = let z : uses slots n ≡ 1 = ap (λ (b : Bool). cond b 1 0) (f n (omega arith)) in omega (arith, total_more (uses slots) n, z, all_used slots n (λ k lt. f k (omega arith)))

some_at_most : (slots : List Slot) (n : ℕ) → total (uses slots) n ≤ n
some_at_most slots zero = omega (arith, total_zero (uses slots))
some_at_most slots (suc n) = elim (cases_Bool (used (at slots n))) [
  | inl e ↦ (let z : uses slots n ≡ 1 = ap (λ (b : Bool). cond b 1 0) e in omega (arith, total_more (uses slots) n, z, some_at_most slots n))
  | inr e ↦ (let z : uses slots n ≡ 0 = ap (λ (b : Bool). cond b 1 0) e in omega (arith, total_more (uses slots) n, z, some_at_most slots n))
]

pub one_free : (slots : List Slot) (n k : ℕ) → k < n → used (at slots k) ≡ false → total (uses slots) n < n
one_free slots zero k lt f = absurd (omega arith)
one_free slots (suc n) k lt f = elim (cases_eq k n) [
  | inl e ↦ (let z : uses slots n ≡ 0 = ap (λ (b : Bool). cond b 1 0) (ap (λ (m : ℕ). used (at slots m)) (sym e) ∙ f) in omega (arith, total_more (uses slots) n, z, some_at_most slots n))
  | inr ne ↦ elim (cases_Bool (used (at slots n))) [
    | inl e ↦ (let z : uses slots n ≡ 1 = ap (λ (b : Bool). cond b 1 0) e in omega (arith, total_more (uses slots) n, z, one_free slots n k (omega (arith, ne)) f))
    | inr e ↦ (let z : uses slots n ≡ 0 = ap (λ (b : Bool). cond b 1 0) e in omega (arith, total_more (uses slots) n, z, one_free slots n k (omega (arith, ne)) f))
  ]
]
