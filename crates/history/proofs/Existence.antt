-- After any history some answer is due to a call.
use Rattle.std.proofs.Common.{◌≡◌, ℕ, ◌+◌, ◌-◌, ◌<◌, min, Bool, true, false, cond, ◌⊎◌, List, [], ◌∷◌, length, sym, refl, ap, ◌∙◌, subst, inl, inr, arith}
use Rattle.std.proofs.lemmas.Bool.{cases_lt, cases_Bool}
use Rattle.wire.specs.Limits.{max_packets, max_slots}
use Rattle.shelf.specs.Units.{cost}
use Rattle.packet.specs.Packets.{PacketValue, Encodes}
use Rattle.packet.proofs.Encodings.{one_packet}
use Rattle.collection.specs.Fragments.{FragmentValue, Ranged, In}
use Rattle.collection.proofs.Pinning.{calm_more}
use Rattle.history.specs.Calls.{Call, State, Reply, History, arrives, fetches, ticks, asks, hands_over, is_none, is_gathering, is_whole, is_spoiled, is_fetched, kept, repeated, completed, delivered, done, told, refused_by, refusals, most_refusals}
use Rattle.history.specs.Stays.{Terms, Stay, Standing, Stands, After, Stays, Placed, Among, Apart, Weighs, Passes, Carries, outside, inside, stay_of, hears, more, later, fresh, fetched_now, fragment_of, weight, units_of}
use Rattle.history.specs.Answers.{PacketAnswer, PacketAnswerAt, ArrivalDue, FetchAnswerAt, StateOfId, BytesCall, BytesHistory, SomeAnswer, after_fetch, after_spoil, contradicts, again, no_room, completes, goes_on, readable, unreadable, gathers, spoilt, fetched_before, too_short, hands_out, looks_gathering, looks_whole, looks_spoiled, looks_fetched}
use Rattle.history.proofs.Standings.{same_or, stands_one, out_in}
use Rattle.history.proofs.Refusals.{refusal_of}
use Rattle.history.proofs.Decisions.{Decided, both, same_flag, against_or, heard_or, calm_or, whole_or, some_message, some_count, some_lowest}
use Rattle.history.proofs.Readings.{read_or, in_range_ranged}

-- ---- every id stands somehow

-- the packets heard have numbers in range
abbrev Low : Standing → Type 0
Low y = (a : FragmentValue) → In a (stay_of y).heard → a.number < max_packets

low_fetched : (y : Standing) → Low y → Low (fetched_now y)
low_fetched outside low = low
low_fetched (inside l) low = low

low_more : (v : PacketValue) (xs : List ℕ) → Encodes v xs → (y : Standing) → Low y → Low (inside (more (fragment_of v) (stay_of y)))
low_more v xs e y low a (inl f) = omega (arith, ap (λ (x : FragmentValue). x.number) f, e.in_range.numbered.number_fits)
low_more v xs e y low a (inr i) = low a i

low_either : (b : Bool) (y z : Standing) → Low y → Low z → Low (cond b y z)
low_either true y z a b = a
low_either false y z a b = b

other_id : (v : PacketValue) (xs id : List ℕ) → Encodes v xs → (v.id ≡ id → ⊥) → (q : FragmentValue) → Carries xs id q → ⊥
other_id v xs id e n q k = n (ap (λ (w : PacketValue). w.id) (one_packet v k.value xs e k.encodes) ∙ k.id_is)

abbrev Next : ℕ → Call → Reply → List ℕ → Standing → Type 0
Next p c r id y = (z : Standing) × After p c r id y z × Low z

passes : (p : ℕ) (y : Standing) → Low y → (z : Standing) × Passes p y z × Low z
passes p outside low = (outside, refl, low)
passes p (inside l) low = elim (both (same_flag l.fetched false) (whole_or l.heard)) [
  | inl w ↦ (inside (later l), inl (inl w, refl), low)
  | inr n ↦ elim (cases_lt (l.since + 1) p) [
    | inl m ↦ (inside (later l), inl (inr m, refl), low)
    | inr m ↦ (outside, inr ((n, m), refl), λ a i. absurd i)
  ]
]

next : (p : ℕ) (c : Call) (r : Reply) (id : List ℕ) (y : Standing) → BytesCall c → Low y → Next p c r id y
next p (arrives xs) r id y o low = elim (read_or xs o) [
  | inl (v, e) ↦ elim (same_or v.id id) [
    | inl i ↦ (
      cond (hears y r) (inside (more (fragment_of v) (stay_of y))) y,
      inl (fragment_of v, record { value = v; encodes = e; id_is = i; says = refl }, refl),
      low_either (hears y r) (inside (more (fragment_of v) (stay_of y))) y (low_more v xs e y low) low,
    )
    | inr n ↦ (y, inr (other_id v xs id e n, refl), low)
  ]
  | inr b ↦ (y, inr (λ q k. b.2 k.value k.encodes, refl), low)
]
next p (fetches i n) r id y o low = elim (same_or i id) [
  | inl e ↦ (cond (hands_over r) (fetched_now y) y, inl (e, refl), low_either (hands_over r) (fetched_now y) y (low_fetched y low) low)
  | inr m ↦ (y, inr (m, refl), low)
]
next p ticks r id y o low = passes p y low
next p (asks i) r id y o low = (y, refl, low)

stand : (p : ℕ) (h : History) (id : List ℕ) → BytesHistory h → (z : Standing) × Stands p h id z × Low z
stand p [] id b = (outside, refl, λ a i. absurd i)
stand p (s ∷ h) id b =
    let y = stand p h id b.0 in
    let z = next p s.call s.reply id y.0 b.1 y.2 in
    (z.0, (y.0, y.1, z.1), z.2)

pub some_standing : (p : ℕ) (h : History) (id : List ℕ) → BytesHistory h → (z : Standing) × Stands p h id z
some_standing p h id b = let z = stand p h id b in (z.0, z.1)

-- ---- the ids of which a packet arrived

abbrev Named : List ℕ → List (List ℕ) → Type 0
Named i [] = ⊥
Named i (x ∷ xs) = (i ≡ x) ⊎ Named i xs

-- each id that is in a stay is one of these
abbrev Covers : ℕ → History → List (List ℕ) → Type 0
Covers p h is = (id : List ℕ) (l : Stay) → Stands p h id (inside l) → Named id is

not_in : (l : Stay) → inside l ≡ outside → ⊥
not_in l e = out_in l (sym e)

was_in : (b : Bool) (y : Standing) (l : Stay) → inside l ≡ cond b (fetched_now y) y → (m : Stay) × (y ≡ inside m)
was_in true outside l e = absurd (not_in l e)
was_in false outside l e = absurd (not_in l e)
was_in true (inside m) l e = (m, refl)
was_in false (inside m) l e = (m, refl)

was_in_tick : (p : ℕ) (y : Standing) (l : Stay) → Passes p y (inside l) → (m : Stay) × (y ≡ inside m)
was_in_tick p outside l e = absurd (not_in l e)
was_in_tick p (inside m) l e = (m, refl)

module _ (p : ℕ) (h : History) (is : List (List ℕ)) (covers : Covers p h is) where
  -- an id that was in a stay before
  before : (id : List ℕ) (y : Standing) → Stands p h id y → (m : Stay) × (y ≡ inside m) → Named id is
  before id y st (m, e) = covers id m (subst (λ (x : Standing). Stands p h id x) e st)

  covers_read : (v : PacketValue) (xs : List ℕ) → Encodes v xs → (r : Reply) (id : List ℕ) (l : Stay) (y : Standing) → Stands p h id y → After p (arrives xs) r id y (inside l) → Named id (v.id ∷ is)
  covers_read v xs e r id l y st (inl (q, k, f)) = inl (sym k.id_is ∙ ap (λ (w : PacketValue). w.id) (one_packet k.value v xs k.encodes e))
  covers_read v xs e r id l y st (inr (n, f)) = inr (before id y st (l, sym f))

  covers_refused : (xs : List ℕ) → ((v : PacketValue) → Encodes v xs → ⊥) → (r : Reply) (id : List ℕ) (l : Stay) (y : Standing) → Stands p h id y → After p (arrives xs) r id y (inside l) → Named id is
  covers_refused xs n r id l y st (inl (q, k, f)) = absurd (n k.value k.encodes)
  covers_refused xs n r id l y st (inr (m, f)) = before id y st (l, sym f)

  covers_fetch : (i : List ℕ) (n : ℕ) (r : Reply) (id : List ℕ) (l : Stay) (y : Standing) → Stands p h id y → After p (fetches i n) r id y (inside l) → Named id is
  covers_fetch i n r id l y st (inl (e, f)) = before id y st (was_in (hands_over r) y l f)
  covers_fetch i n r id l y st (inr (m, f)) = before id y st (l, sym f)

  covers_next : (c : Call) (r : Reply) → BytesCall c → (js : List (List ℕ)) × ((id : List ℕ) (l : Stay) (y : Standing) → Stands p h id y → After p c r id y (inside l) → Named id js)
  covers_next (arrives xs) r o = elim (read_or xs o) [
    | inl (v, e) ↦ (v.id ∷ is, covers_read v xs e r)
    | inr b ↦ (is, covers_refused xs b.2 r)
  ]
  covers_next (fetches i n) r o = (is, covers_fetch i n r)
  covers_next ticks r o = (is, λ id l y st a. before id y st (was_in_tick p y l a))
  covers_next (asks i) r o = (is, λ id l y st a. before id y st (l, sym a))

ids : (p : ℕ) (h : History) → BytesHistory h → (is : List (List ℕ)) × Covers p h is
ids p [] b = ([], λ id l e. absurd (not_in l e))
ids p (s ∷ h) b =
    let is = ids p h b.0 in
    let js = covers_next p h is.0 is.1 s.call s.reply b.1 in
    (js.0, λ id l st. js.1 id l st.0 st.1 st.2)

-- ---- the stays

weighs : (unit : ℕ) (l : Stay) → (w : ℕ) × Weighs unit l w
weighs unit l = elim (cases_Bool l.fetched) [
  | inl f ↦ (0, inr (inl f, refl))
  | inr f ↦ elim (calm_or l.heard) [ inl c ↦ (weight unit l.heard, inl (f, c, refl)) | inr b ↦ (0, inr (inr b, refl)) ]
]

abbrev Held : List ℕ → List Placed → Type 0
Held id zs = (z : Placed) × Among z zs × (z.name ≡ id)

not_held : (id : List ℕ) (x : Placed) (zs : List Placed) → (x.name ≡ id → ⊥) → (Held id zs → ⊥) → Held id (x ∷ zs) → ⊥
not_held id x zs n m (z, inl e, f) = n (sym (ap (λ (w : Placed). w.name) e) ∙ f)
not_held id x zs n m (z, inr i, f) = m (z, i, f)

held_later : (id : List ℕ) (x : Placed) (zs : List Placed) → Held id zs → Held id (x ∷ zs)
held_later id x zs (z, i, f) = (z, inr i, f)

held_or : (id : List ℕ) (zs : List Placed) → Decided (Held id zs)
held_or id [] = inr (λ s. s.1)
held_or id (x ∷ zs) = elim (same_or x.name id) [
  | inl e ↦ inl (x, inl refl, e)
  | inr n ↦ elim (held_or id zs) [ inl s ↦ inl (held_later id x zs s) | inr m ↦ inr (not_held id x zs n m) ]
]

-- the stays of these ids
record Gathered (t : Terms) (h : History) (is : List (List ℕ)) : Type 0 where
  list : List Placed
  apart : Apart list
  each : (z : Placed) → Among z list → Stands t.patience h z.name (inside z.stay) × Weighs t.unit z.stay z.units
  all : (id : List ℕ) → Named id is → (l : Stay) → Stands t.patience h id (inside l) → Held id list

module _ (t : Terms) (h : History) (i : List ℕ) (is : List (List ℕ)) (g : Gathered t h is) where
  -- an id that is listed, or in no stay
  skip : ((l : Stay) → Stands t.patience h i (inside l) → Held i g.list) → Gathered t h (i ∷ is)
  skip f = record { list = g.list; apart = g.apart; each = g.each; all = found }
    where
      found : (id : List ℕ) → Named id (i ∷ is) → (l : Stay) → Stands t.patience h id (inside l) → Held id g.list
      found id (inl e) l st = subst (λ (x : List ℕ). Held x g.list) (sym e) (f l (subst (λ (x : List ℕ). Stands t.patience h x (inside l)) e st))
      found id (inr n) l st = g.all id n l st

  -- an id in its stay
  enter : (Held i g.list → ⊥) → (l : Stay) → Stands t.patience h i (inside l) → Gathered t h (i ∷ is)
  enter n l st =
      let w = weighs t.unit l in
      let x : Placed = record { name = i; stay = l; units = w.0 } in
      record { list = x ∷ g.list; apart = (λ z k e. n (z, k, e), g.apart); each = entered x st w.1; all = found x refl }
    where
      entered : (x : Placed) → Stands t.patience h x.name (inside x.stay) → Weighs t.unit x.stay x.units → (z : Placed) → Among z (x ∷ g.list) → Stands t.patience h z.name (inside z.stay) × Weighs t.unit z.stay z.units
      entered x s u z (inl e) = subst (λ (y : Placed). Stands t.patience h y.name (inside y.stay) × Weighs t.unit y.stay y.units) (sym e) (s, u)
      entered x s u z (inr k) = g.each z k

      found : (x : Placed) → x.name ≡ i → (id : List ℕ) → Named id (i ∷ is) → (l : Stay) → Stands t.patience h id (inside l) → Held id (x ∷ g.list)
      found x f id (inl e) l st = (x, inl refl, f ∙ sym e)
      found x f id (inr m) l st = held_later id x g.list (g.all id m l st)

gather : (t : Terms) (h : History) → BytesHistory h → (is : List (List ℕ)) → Gathered t h is
gather t h b [] = record { list = []; apart = tt; each = λ z i. absurd i; all = λ id n l st. absurd n }
gather t h b (i ∷ is) =
    let g = gather t h b is in
    let s = some_standing t.patience h i b in
    elim (held_or i g.list) [ inl k ↦ skip t h i is g (λ l st. k) | inr n ↦ place t h i is g n s.0 s.1 ]
  where
    place : (t : Terms) (h : History) (i : List ℕ) (is : List (List ℕ)) (g : Gathered t h is) → (Held i g.list → ⊥) → (y : Standing) → Stands t.patience h i y → Gathered t h (i ∷ is)
    place t h i is g n outside st = skip t h i is g (λ l s. absurd (out_in l (stands_one t.patience h i outside (inside l) st s)))
    place t h i is g n (inside l) st = enter t h i is g n l st

pub some_stays : (t : Terms) (h : History) → BytesHistory h → (zs : List Placed) × Stays t h zs
some_stays t h b =
    let is = ids t.patience h b in
    let g = gather t h b is.0 in
    (g.list, record { apart = g.apart; each = g.each; all = λ id l st. g.all id (is.1 id l st) l st })

-- ---- an arrival

packet_some : (unit free : ℕ) (q : FragmentValue) (l : Stay) → Ranged q → (r : Reply) × PacketAnswer unit free q l r
packet_some unit free q l ranged = elim (cases_Bool l.fetched) [
  | inl f ↦ (refused_by 25, after_fetch f refl)
  | inr f ↦ elim (calm_or l.heard) [
    | inr b ↦ (refused_by 24, after_spoil f b refl)
    | inl c ↦ elim (against_or l.heard q) [
      | inl k ↦ (refused_by 23, contradicts f c k refl)
      | inr k ↦
          let calm = calm_more q l.heard ranged c k in
          elim (heard_or l.heard q.number) [
            | inl m ↦ (repeated, again f calm m refl)
            | inr m ↦ elim (cases_lt free (cost unit (length q.body))) [
              | inl s ↦ (refused_by 22, no_room f calm m s refl)
              | inr s ↦ elim (whole_or (q ∷ l.heard)) [ inl w ↦ (completed, completes f w m s refl) | inr w ↦ (kept, goes_on f calm w m s refl) ]
            ]
          ]
    ]
  ]
]

packet_some_at : (unit count free : ℕ) (q : FragmentValue) (y : Standing) → Ranged q → (r : Reply) × PacketAnswerAt unit count free q y r
packet_some_at unit count free q outside ranged = elim (cases_lt count max_slots) [
  | inl l ↦ let a = packet_some unit free q fresh ranged in (a.0, inr (l, a.1))
  | inr l ↦ (refused_by 21, inl (l, refl))
]
packet_some_at unit count free q (inside l) ranged = packet_some unit free q l ranged

arrival_some : (t : Terms) (h : History) (xs : List ℕ) → BytesHistory h → BytesCall (arrives xs) → (r : Reply) × ArrivalDue t h xs r
arrival_some t h xs b o = elim (read_or xs o) [
  | inl (v, e) ↦
      let y = some_standing t.patience h v.id b in
      let zs = some_stays t h b in
      let a = packet_some_at t.unit (length zs.0) (t.capacity - units_of zs.0) (fragment_of v) y.0 (in_range_ranged v e.in_range) in
      (a.0, readable v.id (fragment_of v) (record { value = v; encodes = e; id_is = refl; says = refl }) (record { standing = y.0; stands = y.1; stays = zs.0; listed = zs.1; due = a.1 }))
  | inr (e, f, n) ↦ (refusal_of e, unreadable e f n refl)
]

-- ---- a fetch

fetch_some : (n : ℕ) (y : Standing) → (r : Reply) × FetchAnswerAt n y r
fetch_some n outside = (refused_by 26, refl)
fetch_some n (inside l) = elim (cases_Bool l.fetched) [
  | inl f ↦ (refused_by 25, fetched_before f refl)
  | inr f ↦ elim (calm_or l.heard) [
    | inr b ↦ (refused_by 24, spoilt f b refl)
    | inl c ↦ elim (whole_or l.heard) [
      | inr w ↦ (refused_by 27, gathers f c w refl)
      | inl w ↦
          let m = some_message l.heard w in
          elim (cases_lt n (length m.0)) [ inl s ↦ (refused_by 10, too_short f w m.0 m.1 s refl) | inr s ↦ (delivered m.0, hands_out f w m.0 m.1 s refl) ]
    ]
  ]
]

-- ---- a state question

state_some : (y : Standing) → Low y → (v : State) × StateOfId y v
state_some outside low = (is_none, refl)
state_some (inside l) low = elim (cases_Bool l.fetched) [
  | inl f ↦ (is_fetched, looks_fetched f refl)
  | inr f ↦ elim (calm_or l.heard) [
    | inr b ↦ (is_spoiled, looks_spoiled f b refl)
    | inl c ↦ elim (whole_or l.heard) [
      | inr w ↦
          let n = some_count l.heard max_packets in
          let k = some_lowest l.heard low in
          (is_gathering n.0 k.0, looks_gathering f c w n.0 k.0 n.1 k.1 refl)
      | inl w ↦ let m = some_message l.heard w in (is_whole (length m.0), looks_whole f w m.0 m.1 refl)
    ]
  ]
]

-- ---- any call

pub some_answer : SomeAnswer
some_answer t h (arrives xs) b o = arrival_some t h xs b o
some_answer t h (fetches i n) b o =
    let y = some_standing t.patience h i b in
    let a = fetch_some n y.0 in
    (a.0, record { standing = y.0; stands = y.1; due = a.1 })
some_answer t h ticks b o = (done, refl)
some_answer t h (asks i) b o =
    let y = stand t.patience h i b in
    let v = state_some y.0 y.2 in
    (told v.0 (min (refusals h) most_refusals), record { standing = y.0; stands = y.1; state = v.0; due = v.1; is = refl })
