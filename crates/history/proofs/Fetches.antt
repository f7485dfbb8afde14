-- A fetch hands out a message just where the state is whole, once a stay.
use Rattle.std.proofs.Common.{◌≡◌, ℕ, ◌≤◌, min, Bool, true, cond, List, length, sym, refl, ap, ◌∙◌, subst, inl, inr, arith}
use Rattle.std.proofs.lemmas.Bool.{cases_Bool}
use Rattle.history.specs.Calls.{Call, State, Reply, History, arrives, fetches, ticks, asks, audible, hands_over, delivered, told, refused_by, refusals, most_refusals, is_whole}
use Rattle.history.specs.Stays.{Terms, Stay, Standing, Stands, After, outside, inside, more, later, fetched_now}
use Rattle.history.specs.Answers.{FetchDue, FetchedIfWhole, FetchedOnce, FetchAnswerAt, StayState, StateOfId, gathers, spoilt, fetched_before, too_short, hands_out, looks_gathering, looks_whole, looks_spoiled, looks_fetched}
use Rattle.history.proofs.Standings.{stands_one, same_stay, out_in}

no_delivery : (bytes : List ℕ) (n : ℕ) → delivered bytes ≡ refused_by n → ⊥
no_delivery bytes n e = let z : ◌≡◌ {A = ℕ} 0 1 = cc in omega arith

same_bytes : (xs ys : List ℕ) → delivered xs ≡ delivered ys → xs ≡ ys
same_bytes xs ys e = cc

same_size : (m n : ℕ) → is_whole m ≡ is_whole n → m ≡ n
same_size m n e = cc

pub same_state : (u v : State) (m n : ℕ) → told u m ≡ told v n → u ≡ v
same_state u v m n e = cc

-- how id stands where a message is handed out
record HandedOut (t : Terms) (h : History) (id : List ℕ) (n : ℕ) (bytes : List ℕ) : Type 0 where
  stay : Stay
  stands : Stands t.patience h id (inside stay)
  looks : StayState stay (is_whole (length bytes))
  fits : length bytes ≤ n

handed_out : (t : Terms) (h : History) (id : List ℕ) (n : ℕ) (bytes : List ℕ) (y : Standing) → Stands t.patience h id y → FetchAnswerAt n y (delivered bytes) → HandedOut t h id n bytes
handed_out t h id n bytes outside st d = absurd (no_delivery bytes 26 d)
handed_out t h id n bytes (inside l) st (gathers f c w e) = absurd (no_delivery bytes 27 e)
handed_out t h id n bytes (inside l) st (spoilt f b e) = absurd (no_delivery bytes 24 e)
handed_out t h id n bytes (inside l) st (fetched_before f e) = absurd (no_delivery bytes 25 e)
handed_out t h id n bytes (inside l) st (too_short f w bs m lt e) = absurd (no_delivery bytes 10 e)
handed_out t h id n bytes (inside l) st (hands_out f w bs m le e) =
    let size : length bytes ≡ length bs = ap length (same_bytes bytes bs e) in
    record { stay = l; stands = st; looks = looks_whole f w bs m (ap is_whole size); fits = omega arith }

seen_whole : (t : Terms) (h : History) (id : List ℕ) (n size : ℕ) (y : Standing) → Stands t.patience h id y → StateOfId y (is_whole size) → size ≤ n → (bytes : List ℕ) × (length bytes ≡ size) × FetchDue t h id n (delivered bytes)
seen_whole t h id n size outside st e le = absurd (let z : ◌≡◌ {A = ℕ} 0 1 = cc in omega arith)
seen_whole t h id n size (inside l) st (looks_gathering f c w k low a b e) le = absurd (let z : ◌≡◌ {A = ℕ} 0 1 = cc in omega arith)
seen_whole t h id n size (inside l) st (looks_spoiled f b e) le = absurd (let z : ◌≡◌ {A = ℕ} 0 1 = cc in omega arith)
seen_whole t h id n size (inside l) st (looks_fetched f e) le = absurd (let z : ◌≡◌ {A = ℕ} 0 1 = cc in omega arith)
seen_whole t h id n size (inside l) st (looks_whole f w bs m e) le =
    let s : size ≡ length bs = same_size size (length bs) e in
    (bs, sym s, record { standing = inside l; stands = st; due = hands_out f w bs m (omega arith) refl })

pub fetched_if_whole : (t : Terms) (h : History) (id : List ℕ) → FetchedIfWhole t h id
fetched_if_whole t h id = record {
  whole_first = λ n bytes d.
      let x = handed_out t h id n bytes d.standing d.stands d.due in
      (x.fits, record { standing = inside x.stay; stands = x.stands; state = is_whole (length bytes); due = x.looks; is = refl });
  whole_fetched = λ n size count d le.
      let e : is_whole size ≡ d.state = same_state (is_whole size) d.state count (min (refusals h) most_refusals) d.is in
      seen_whole t h id n size d.standing d.stands (subst (λ (v : State). StateOfId d.standing v) (sym e) d.due) le;
}

same_fetched : (l m : Stay) → inside m ≡ inside l → m.fetched ≡ l.fetched
same_fetched l m e = ap (λ (x : Stay). x.fetched) (same_stay m l e)

-- no call makes a fetched stay one that is not
after_fetched : (p : ℕ) (c : Call) (r : Reply) (id : List ℕ) (l m : Stay) → l.fetched ≡ true → After p c r id (inside l) (inside m) → m.fetched ≡ true
after_fetched p (arrives xs) r id l m f (inl (q, carries, e)) = elim (cases_Bool (audible r)) [
  | inl t ↦ same_fetched (more q l) m (e ∙ ap (λ (b : Bool). cond b (inside (more q l)) (inside l)) t) ∙ f
  | inr u ↦ same_fetched l m (e ∙ ap (λ (b : Bool). cond b (inside (more q l)) (inside l)) u) ∙ f
]
after_fetched p (arrives xs) r id l m f (inr (none, e)) = same_fetched l m e ∙ f
after_fetched p (fetches i n) r id l m f (inl (own, e)) = elim (cases_Bool (hands_over r)) [
  | inl t ↦ same_fetched (record { heard = l.heard; fetched = true; since = 0 }) m (e ∙ ap (λ (b : Bool). cond b (fetched_now (inside l)) (inside l)) t)
  | inr u ↦ same_fetched l m (e ∙ ap (λ (b : Bool). cond b (fetched_now (inside l)) (inside l)) u) ∙ f
]
after_fetched p (fetches i n) r id l m f (inr (other, e)) = same_fetched l m e ∙ f
after_fetched p ticks r id l m f (inl (on, e)) = same_fetched (later l) m e ∙ f
after_fetched p ticks r id l m f (inr (off, e)) = absurd (out_in m (sym e))
after_fetched p (asks i) r id l m f e = same_fetched l m e ∙ f

-- a fetch that hands out makes the stay a fetched one
now_fetched : (y : Standing) (l : Stay) → inside l ≡ fetched_now y → l.fetched ≡ true
now_fetched outside l e = absurd (out_in l (sym e))
now_fetched (inside k) l e = same_fetched (record { heard = k.heard; fetched = true; since = 0 }) l e

pub fetched_once : (t : Terms) (h : History) (id : List ℕ) → FetchedOnce t h id
fetched_once t h id = record {
  then_fetched = λ n bytes l st. elim st.2 [ inl x ↦ now_fetched st.0 l x.1 | inr x ↦ absurd (x.0 refl) ];
  still_fetched = λ x l m sl f sm.
      let e : sm.0 ≡ inside l = stands_one t.patience h id sm.0 (inside l) sm.1 sl in
      after_fetched t.patience x.call x.reply id l m f (subst (λ (y : Standing). After t.patience x.call x.reply id y (inside m)) e sm.2);
  nothing_more = λ n l st f. record { standing = inside l; stands = st; due = fetched_before f refl };
}
