-- Two histories of the same arrivals, in any two orders, agree.
use Rattle.std.proofs.Common.{◌≡◌, ℕ, zero, suc, ◌≤◌, min, Bool, true, false, cond, ◌⊎◌, List, [], ◌∷◌, length, sym, refl, ap, ◌∙◌, subst, inl, inr, arith}
use Rattle.std.specs.List.{ContainsAt as Has}
use Rattle.std.proofs.lemmas.List.Sorted.{IsPermutation-sym}
use Rattle.std.proofs.ByRecursion.{has_shuffled}
use Rattle.std.proofs.lemmas.Bool.{true≢false}
use Rattle.wire.specs.Limits.{max_packets}
use Rattle.collection.specs.Fragments.{FragmentValue, In, Heard, Counted, LowestUnheard}
use Rattle.collection.proofs.Pinning.{whole_order, message_order}
use Rattle.history.specs.Calls.{Call, State, Reply, History, arrives, fetches, ticks, asks, told, refusals, most_refusals, delivered, refused_by, audible, calls}
use Rattle.history.specs.Stays.{Terms, Stay, Standing, Broken, Stands, After, Carries, outside, inside, fresh, stay_of, more, hears}
use Rattle.history.specs.Answers.{PacketAnswer, PacketAnswerAt, FetchAnswer, FetchAnswerAt, StayState, StateOfId, FetchDue, StateDue, AnswerDue, AllDue, looks_gathering, looks_whole, looks_spoiled, looks_fetched, after_fetch, after_spoil, contradicts, again, no_room, completes, goes_on, readable, unreadable, gathers, spoilt, fetched_before, too_short, hands_out}
use Rattle.history.specs.Orders.{IsArrival, Unhindered, IsWhole, IsSpoiled, OrdersAgree}
use Rattle.history.proofs.Standings.{stands_one, same_stay, out_in, carries_one}
use Rattle.history.proofs.Answers.{hears_is}
use Rattle.history.proofs.Fetches.{same_state}
use Rattle.history.proofs.Messages.{whole_message}

has_cons : {X : Type 0} (x y : X) (xs : List X) → Has xs x → Has (y ∷ xs) x
has_cons x y xs h = (suc h.0, omega (arith, h.1), h.2)

has_here : {X : Type 0} (x y : X) (xs : List X) → y ≡ x → Has (y ∷ xs) x
has_here x y xs e = (0, omega arith, λ d. e)

has_uncons : {X : Type 0} (x y : X) (xs : List X) → Has (y ∷ xs) x → (y ≡ x) ⊎ Has xs x
has_uncons x y xs (zero, l, f) = inl (f y)
has_uncons x y xs (suc k, l, f) = inr (k, omega (arith, l), f)

-- ---- one arrival

-- all but 21 and 22 are heard
heard_all : (unit free : ℕ) (q : FragmentValue) (l : Stay) (r : Reply) → PacketAnswer unit free q l r → (r ≡ refused_by 22 → ⊥) → audible r ≡ true
heard_all unit free q l r (after_fetch f e) not-22 = ap audible e
heard_all unit free q l r (after_spoil f b e) not-22 = ap audible e
heard_all unit free q l r (contradicts f c k e) not-22 = ap audible e
heard_all unit free q l r (again f c n e) not-22 = ap audible e
heard_all unit free q l r (no_room f c n t e) not-22 = absurd (not-22 e)
heard_all unit free q l r (completes f w n t e) not-22 = ap audible e
heard_all unit free q l r (goes_on f c w n t e) not-22 = ap audible e

greeted : (unit count free : ℕ) (q : FragmentValue) (y : Standing) (r : Reply) → PacketAnswerAt unit count free q y r
    → (r ≡ refused_by 21 → ⊥) → (r ≡ refused_by 22 → ⊥) → hears y r ≡ true
greeted unit count free q outside r (inl a) not-21 not-22 = absurd (not-21 a.1)
greeted unit count free q outside r (inr a) not-21 not-22 = hears_is unit free q outside r a.1 ∙ heard_all unit free q fresh r a.1 not-22
greeted unit count free q (inside l) r a not-21 not-22 = heard_all unit free q l r a not-22

same_bytes : (xs ys : List ℕ) → arrives xs ≡ arrives ys → xs ≡ ys
same_bytes xs ys e = cc

-- the call brings a packet of id, which says q
abbrev Brings : Call → List ℕ → FragmentValue → Type 0
Brings c id q = (xs : List ℕ) × (c ≡ arrives xs) × Carries xs id q

brings_one : (c : Call) (id : List ℕ) (q q' : FragmentValue) → Brings c id q → Brings c id q' → q ≡ q'
brings_one c id q q' (xs, e, k) (ys, f, j) = (carries_one ys id id q q' (subst (λ (zs : List ℕ). Carries zs id q) (same_bytes xs ys (sym e ∙ f)) k) j).1

-- what an arrival makes of an id
next_stands : (t : Terms) (h : History) (c : Call) (r : Reply) (id : List ℕ) (y z : Standing) → IsArrival c → (r ≡ refused_by 21 → ⊥) → (r ≡ refused_by 22 → ⊥)
    → AnswerDue t h c r → Stands t.patience h id y → After t.patience c r id y z
    → ((q : FragmentValue) × Brings c id q × (z ≡ inside (more q (stay_of y)))) ⊎ (((q : FragmentValue) → Brings c id q → ⊥) × (z ≡ y))
next_stands t h (arrives xs) r id y z ar not-21 not-22 (readable i p k d) st (inl (q, j, x)) =
    let s : d.standing ≡ y = stands_one t.patience h id d.standing y (subst (λ (n : List ℕ). Stands t.patience h n d.standing) (carries_one xs i id p q k j).0 d.stands) st in
    let e : hears y r ≡ true = subst (λ (w : Standing). hears w r ≡ true) s (greeted _ _ _ p d.standing r d.due not-21 not-22) in
    inl (q, (xs, refl, j), x ∙ ap (λ (b : Bool). cond b (inside (more q (stay_of y))) y) e)
next_stands t h (arrives xs) r id y z ar not-21 not-22 (unreadable e f none i) st (inl (q, j, x)) = absurd (none j.value j.encodes)
next_stands t h (arrives xs) r id y z ar not-21 not-22 due st (inr (none, x)) =
    inr (λ q b. none q (subst (λ (zs : List ℕ). Carries zs id q) (sym (same_bytes xs b.0 b.1)) b.2), x)
next_stands t h (fetches i n) r id y z ar not-21 not-22 due st af = absurd ar
next_stands t h ticks r id y z ar not-21 not-22 due st af = absurd ar
next_stands t h (asks i) r id y z ar not-21 not-22 due st af = absurd ar

-- ---- one history of arrivals

-- a packet of id that says a came
abbrev Came : History → List ℕ → FragmentValue → Type 0
Came h id a = (c : Call) × Has (calls h) c × Brings c id a

module _ (t : Terms) where
  -- what was heard is what came, and nothing was fetched
  heard_came : (h : History) (id : List ℕ) (z : Standing) → AllDue t h → Unhindered h → Stands t.patience h id z
      → (a : FragmentValue) → In a (stay_of z).heard → Came h id a
  heard_came [] id z due un st a i = absurd (subst (λ (w : Standing). In a (stay_of w).heard) st i)
  heard_came (s ∷ h) id z due un st a i =
      let before : In a (stay_of st.0).heard → Came (s ∷ h) id a = λ j. let x = heard_came h id st.0 due.0 un.0 st.1 a j in (x.0, has_cons x.0 s.call (calls h) x.1, x.2) in
      elim (next_stands t h s.call s.reply id st.0 z un.1 un.2 un.3 due.1 st.1 st.2) [
        | inl x ↦ elim (subst (λ (w : Standing). In a (stay_of w).heard) x.2 i) [
          | inl e ↦ (s.call, has_here s.call s.call (calls h) refl, subst (Brings s.call id) (sym e) x.1)
          | inr j ↦ before j
        ]
        | inr x ↦ before (subst (λ (w : Standing). In a (stay_of w).heard) x.1 i)
      ]

  came_heard : (h : History) (id : List ℕ) (z : Standing) → AllDue t h → Unhindered h → Stands t.patience h id z
      → (a : FragmentValue) → Came h id a → In a (stay_of z).heard
  came_heard [] id z due un st a (c, has, b) = absurd (omega (arith, has.1))
  came_heard (s ∷ h) id z due un st a (c, has, b) =
      let before : Has (calls h) c → In a (stay_of st.0).heard = λ y. came_heard h id st.0 due.0 un.0 st.1 a (c, y, b) in
      let now : s.call ≡ c → Brings s.call id a = λ e. subst (λ (x : Call). Brings x id a) (sym e) b in
      elim (next_stands t h s.call s.reply id st.0 z un.1 un.2 un.3 due.1 st.1 st.2) [
        | inl x ↦ subst (λ (w : Standing). In a (stay_of w).heard) (sym x.2) (elim (has_uncons c s.call (calls h) has) [
          | inl e ↦ inl (brings_one s.call id a x.0 (now e) x.1)
          | inr y ↦ inr (before y)
        ])
        | inr x ↦ subst (λ (w : Standing). In a (stay_of w).heard) (sym x.1) (elim (has_uncons c s.call (calls h) has) [
          | inl e ↦ absurd (x.0 a (now e))
          | inr y ↦ before y
        ])
      ]

  never_fetched : (h : History) (id : List ℕ) (z : Standing) → AllDue t h → Unhindered h → Stands t.patience h id z → (stay_of z).fetched ≡ false
  never_fetched [] id z due un st = ap (λ (w : Standing). (stay_of w).fetched) st
  never_fetched (s ∷ h) id z due un st =
      let before = never_fetched h id st.0 due.0 un.0 st.1 in
      elim (next_stands t h s.call s.reply id st.0 z un.1 un.2 un.3 due.1 st.1 st.2) [
        | inl x ↦ ap (λ (w : Standing). (stay_of w).fetched) x.2 ∙ before
        | inr x ↦ ap (λ (w : Standing). (stay_of w).fetched) x.1 ∙ before
      ]

  -- in a stay something was heard
  some_heard : (h : History) (id : List ℕ) (l : Stay) → AllDue t h → Unhindered h → Stands t.patience h id (inside l) → (a : FragmentValue) × In a l.heard
  some_heard [] id l due un st = absurd (out_in l (sym st))
  some_heard (s ∷ h) id l due un st =
      elim (next_stands t h s.call s.reply id st.0 (inside l) un.1 un.2 un.3 due.1 st.1 st.2) [
        | inl x ↦ (x.0, subst (λ (m : Stay). In x.0 m.heard) (sym (same_stay l (more x.0 (stay_of st.0)) x.2)) (inl refl))
        | inr x ↦ some_heard h id l due.0 un.0 (subst (λ (w : Standing). Stands t.patience h id w) (sym x.1) st.1)
      ]

-- ---- what the packets heard tell, in any order

broken_order : (ps qs : List FragmentValue) → ((a : FragmentValue) → In a ps → In a qs) → Broken ps → Broken qs
broken_order ps qs f x = (x.0, x.1, f x.0 x.2, f x.1 x.3, x.4)

fetching_order : (n : ℕ) (l m : Stay) (r : Reply) → l.fetched ≡ false → m.fetched ≡ false
    → ((a : FragmentValue) → In a l.heard → In a m.heard) → ((a : FragmentValue) → In a m.heard → In a l.heard) → FetchAnswer n l r → FetchAnswer n m r
fetching_order n l m r u v f g (fetched_before x e) = absurd (true≢false (sym x ∙ u))
fetching_order n l m r u v f g (spoilt x b e) = spoilt v (broken_order l.heard m.heard f b) e
fetching_order n l m r u v f g (gathers x c w e) = gathers v (λ a b i j k. c a b (g a i) (g b j) k) (λ y. w (whole_order m.heard l.heard g f y)) e
fetching_order n l m r u v f g (too_short x w bs msg t e) = too_short v (whole_order l.heard m.heard f g w) bs (message_order l.heard m.heard bs f g msg) t e
fetching_order n l m r u v f g (hands_out x w bs msg t e) = hands_out v (whole_order l.heard m.heard f g w) bs (message_order l.heard m.heard bs f g msg) t e

heard_order : (ps qs : List FragmentValue) → ((a : FragmentValue) → In a ps → In a qs) → (n : ℕ) → Heard ps n → Heard qs n
heard_order ps qs f n h = (h.0, f h.0 h.1, h.2)

counted_order : (ps qs : List FragmentValue) → ((a : FragmentValue) → In a ps → In a qs) → ((a : FragmentValue) → In a qs → In a ps) → (j n : ℕ) → Counted ps j n → Counted qs j n
unfolding Counted
counted_order ps qs f g zero n e = e
counted_order ps qs f g (suc j) n (inl x) = inl (heard_order ps qs f j x.0, (x.1.0, counted_order ps qs f g j x.1.0 x.1.1, x.1.2))
counted_order ps qs f g (suc j) n (inr x) = inr (λ h. x.0 (heard_order qs ps g j h), counted_order ps qs f g j n x.1)

lowest_order : (ps qs : List FragmentValue) → ((a : FragmentValue) → In a ps → In a qs) → ((a : FragmentValue) → In a qs → In a ps) → (n : ℕ) → LowestUnheard ps n → LowestUnheard qs n
lowest_order ps qs f g n x = record { most = x.most; below = λ k lt. heard_order ps qs f k (x.below k lt); at = λ h. x.at (heard_order qs ps g n h) }

state_order : (l m : Stay) (s : State) → l.fetched ≡ false → m.fetched ≡ false
    → ((a : FragmentValue) → In a l.heard → In a m.heard) → ((a : FragmentValue) → In a m.heard → In a l.heard) → StayState l s → StayState m s
state_order l m s u v f g (looks_fetched x e) = absurd (true≢false (sym x ∙ u))
state_order l m s u v f g (looks_spoiled x b e) = looks_spoiled v (broken_order l.heard m.heard f b) e
state_order l m s u v f g (looks_gathering x c w n low a b e) =
    looks_gathering v (λ a b i j k. c a b (g a i) (g b j) k) (λ y. w (whole_order m.heard l.heard g f y)) n low
    (counted_order l.heard m.heard f g max_packets n a) (lowest_order l.heard m.heard f g low b) e
state_order l m s u v f g (looks_whole x w bs msg e) = looks_whole v (whole_order l.heard m.heard f g w) bs (message_order l.heard m.heard bs f g msg) e

-- ---- from one history to the other

module _ (t u : Terms) (g h : History) (dg : AllDue t g) (dh : AllDue u h) (ug : Unhindered g) (uh : Unhindered h)
    (forth : (c : Call) → Has (calls g) c → Has (calls h) c) (back : (c : Call) → Has (calls h) c → Has (calls g) c)
    (stands : (id : List ℕ) → (z : Standing) × Stands u.patience h id z) where
  into : (id : List ℕ) (y z : Standing) → Stands t.patience g id y → Stands u.patience h id z → (a : FragmentValue) → In a (stay_of y).heard → In a (stay_of z).heard
  into id y z sy sz a i = let x = heard_came t g id y dg ug sy a i in came_heard u h id z dh uh sz a (x.0, forth x.0 x.1, x.2)

  out_of : (id : List ℕ) (y z : Standing) → Stands t.patience g id y → Stands u.patience h id z → (a : FragmentValue) → In a (stay_of z).heard → In a (stay_of y).heard
  out_of id y z sy sz a i = let x = heard_came u h id z dh uh sz a i in came_heard t g id y dg ug sy a (x.0, back x.0 x.1, x.2)

  -- a stay in the one is one in the other
  stays_too : (id : List ℕ) (l : Stay) (z : Standing) → Stands t.patience g id (inside l) → Stands u.patience h id z → (m : Stay) × (z ≡ inside m)
  stays_too id l outside sl sz = let a = some_heard t g id l dg ug sl in absurd (into id (inside l) outside sl sz a.0 a.1)
  stays_too id l (inside m) sl sz = (m, refl)

  twin : (id : List ℕ) (l : Stay) → Stands t.patience g id (inside l)
      → (m : Stay) × Stands u.patience h id (inside m) × (m.fetched ≡ false) × ((a : FragmentValue) → In a l.heard → In a m.heard) × ((a : FragmentValue) → In a m.heard → In a l.heard)
  twin id l sl =
      let s = stands id in
      let m = stays_too id l s.0 sl s.1 in
      let sm : Stands u.patience h id (inside m.0) = subst (λ (w : Standing). Stands u.patience h id w) m.1 s.1 in
      (m.0, sm, never_fetched u h id (inside m.0) dh uh sm, into id (inside l) (inside m.0) sl sm, out_of id (inside l) (inside m.0) sl sm)

  whole_too : (id : List ℕ) → IsWhole t g id → IsWhole u h id
  whole_too id w = let m = twin id w.0 w.1 in (m.0, m.1, m.2, whole_order w.0.heard m.0.heard m.3 m.4 w.3)

  spoiled_too : (id : List ℕ) → IsSpoiled t g id → IsSpoiled u h id
  spoiled_too id w = let m = twin id w.0 w.1 in (m.0, m.1, m.2, broken_order w.0.heard m.0.heard m.3 w.3)

  handing_too : (id : List ℕ) (n : ℕ) (r : Reply) (y : Standing) → Stands t.patience g id y → FetchAnswerAt n y r → (z : Standing) → Stands u.patience h id z → FetchAnswerAt n z r
  handing_too id n r outside sy d outside sz = d
  handing_too id n r outside sy d (inside m) sz = let a = some_heard u h id m dh uh sz in absurd (out_of id outside (inside m) sy sz a.0 a.1)
  handing_too id n r (inside l) sy d outside sz = let a = some_heard t g id l dg ug sy in absurd (into id (inside l) outside sy sz a.0 a.1)
  handing_too id n r (inside l) sy d (inside m) sz =
      fetching_order n l m r (never_fetched t g id (inside l) dg ug sy) (never_fetched u h id (inside m) dh uh sz) (into id (inside l) (inside m) sy sz) (out_of id (inside l) (inside m) sy sz) d

  fetch_too : (id : List ℕ) (n : ℕ) (r : Reply) → FetchDue t g id n r → FetchDue u h id n r
  fetch_too id n r d = let s = stands id in record { standing = s.0; stands = s.1; due = handing_too id n r d.standing d.stands d.due s.0 s.1 }

  seen_too : (id : List ℕ) (s : State) (y : Standing) → Stands t.patience g id y → StateOfId y s → (z : Standing) → Stands u.patience h id z → StateOfId z s
  seen_too id s outside sy d outside sz = d
  seen_too id s outside sy d (inside m) sz = let a = some_heard u h id m dh uh sz in absurd (out_of id outside (inside m) sy sz a.0 a.1)
  seen_too id s (inside l) sy d outside sz = let a = some_heard t g id l dg ug sy in absurd (into id (inside l) outside sy sz a.0 a.1)
  seen_too id s (inside l) sy d (inside m) sz =
      state_order l m s (never_fetched t g id (inside l) dg ug sy) (never_fetched u h id (inside m) dh uh sz) (into id (inside l) (inside m) sy sz) (out_of id (inside l) (inside m) sy sz) d

  state_too : (id : List ℕ) (v : State) (n : ℕ) → StateDue t g id (told v n) → (m : ℕ) × StateDue u h id (told v m)
  state_too id v n d =
      let s = stands id in
      let e : v ≡ d.state = same_state v d.state n (min (refusals g) most_refusals) d.is in
      let seen = seen_too id v d.standing d.stands (subst (λ (w : State). StateOfId d.standing w) (sym e) d.due) s.0 s.1 in
      (min (refusals h) most_refusals, record { standing = s.0; stands = s.1; state = v; due = seen; is = refl })

pub orders_agree : OrdersAgree
orders_agree t u g h dg dh sg sh al =
    let f : (c : Call) → Has (calls g) c → Has (calls h) c = λ c x. has_shuffled (calls g) (calls h) c al.shuffled x in
    let b : (c : Call) → Has (calls h) c → Has (calls g) c = λ c x. has_shuffled (calls h) (calls g) c (IsPermutation-sym (calls g) (calls h) al.shuffled) x in
    let ug = al.unhindered in
    let uh = al.unhindered_too in
    record {
      whole = whole_too t u g h dg dh ug uh f b sh;
      whole_back = whole_too u t h g dh dg uh ug b f sg;
      spoiled = spoiled_too t u g h dg dh ug uh f b sh;
      spoiled_back = spoiled_too u t h g dh dg uh ug b f sg;
      state = state_too t u g h dg dh ug uh f b sh;
      state_back = state_too u t h g dh dg uh ug b f sg;
      fetch = fetch_too t u g h dg dh ug uh f b sh;
      fetch_back = fetch_too u t h g dh dg uh ug b f sg;
      message = λ id l p m s st a.
          let nf : l.fetched ≡ false = never_fetched t g id (inside l) dg ug st in
          let w = whole_message p m s l.heard a in
          let whole : IsWhole t g id = (l, st, nf, w.0) in
          let due : (n : ℕ) → length m ≤ n → FetchDue t g id n (delivered m) = λ n le. record { standing = inside l; stands = st; due = hands_out nf w.0 m w.1 le refl } in (
            record { is_whole = whole; fetched_as = due },
            record { is_whole = whole_too t u g h dg dh ug uh f b sh id whole; fetched_as = λ n le. fetch_too t u g h dg dh ug uh f b sh id n (delivered m) (due n le) },
          );
    }
