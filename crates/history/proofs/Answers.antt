-- After any history just one answer is due to a call.
use Rattle.std.proofs.Common.{◌≡◌, ℕ, ◌-◌, min, List, ◌∷◌, length, sym, refl, ap, ◌∙◌, subst, inl, inr, arith}
use Rattle.std.proofs.lemmas.Bool.{true≢false, false≢true}
use Rattle.wire.specs.Limits.{max_packets}
use Rattle.collection.specs.Fragments.{FragmentValue, Against, Calm}
use Rattle.collection.proofs.Pinning.{answers_pinned, message_one}
use Rattle.history.specs.Calls.{State, Reply, History, arrives, fetches, ticks, asks, is_gathering, is_whole, delivered, told, refusals, most_refusals, accepted, audible}
use Rattle.history.specs.Stays.{Terms, Stay, Standing, outside, inside, fresh, units_of, stay_of, hears}
use Rattle.history.specs.Answers.{PacketAnswer, PacketAnswerAt, PacketDue, ArrivalDue, FetchAnswer, FetchAnswerAt, FetchDue, StayState, StateOfId, StateDue, OneAnswer, after_fetch, after_spoil, contradicts, again, no_room, completes, goes_on, readable, unreadable, gathers, spoilt, fetched_before, too_short, hands_out, looks_gathering, looks_whole, looks_spoiled, looks_fetched}
use Rattle.history.proofs.Standings.{stands_one, carries_one}
use Rattle.history.proofs.Listings.{calm_broken, stays_one}
use Rattle.history.proofs.Refusals.{refused_one}

-- ---- an arrival

tail_calm : (q : FragmentValue) (ps : List FragmentValue) → Calm (q ∷ ps) → Calm ps
tail_calm q ps c = λ a b i j k. c a b (inr i) (inr j) k

no_clash : (q : FragmentValue) (ps : List FragmentValue) → Calm (q ∷ ps) → Against ps q → ⊥
no_clash q ps c k = c q k.0 (inl refl) (inr k.1) k.2

hearing_one : (unit free : ℕ) (q : FragmentValue) (l : Stay) (r r' : Reply) → PacketAnswer unit free q l r → PacketAnswer unit free q l r' → r ≡ r'
hearing_one unit free q l r r' (after_fetch f e) (after_fetch f' e') = e ∙ sym e'
hearing_one unit free q l r r' (after_fetch f e) (after_spoil f' b' e') = absurd (true≢false (sym f ∙ f'))
hearing_one unit free q l r r' (after_fetch f e) (contradicts f' c' k' e') = absurd (true≢false (sym f ∙ f'))
hearing_one unit free q l r r' (after_fetch f e) (again f' c' n' e') = absurd (true≢false (sym f ∙ f'))
hearing_one unit free q l r r' (after_fetch f e) (no_room f' c' n' t' e') = absurd (true≢false (sym f ∙ f'))
hearing_one unit free q l r r' (after_fetch f e) (completes f' w' n' t' e') = absurd (true≢false (sym f ∙ f'))
hearing_one unit free q l r r' (after_fetch f e) (goes_on f' c' w' n' t' e') = absurd (true≢false (sym f ∙ f'))
hearing_one unit free q l r r' (after_spoil f b e) (after_fetch f' e') = absurd (true≢false (sym f' ∙ f))
hearing_one unit free q l r r' (after_spoil f b e) (after_spoil f' b' e') = e ∙ sym e'
hearing_one unit free q l r r' (after_spoil f b e) (contradicts f' c' k' e') = absurd (calm_broken l.heard c' b)
hearing_one unit free q l r r' (after_spoil f b e) (again f' c' n' e') = absurd (calm_broken l.heard (tail_calm q l.heard c') b)
hearing_one unit free q l r r' (after_spoil f b e) (no_room f' c' n' t' e') = absurd (calm_broken l.heard (tail_calm q l.heard c') b)
hearing_one unit free q l r r' (after_spoil f b e) (completes f' w' n' t' e') = absurd (calm_broken l.heard (tail_calm q l.heard w'.0) b)
hearing_one unit free q l r r' (after_spoil f b e) (goes_on f' c' w' n' t' e') = absurd (calm_broken l.heard (tail_calm q l.heard c') b)
hearing_one unit free q l r r' (contradicts f c k e) (after_fetch f' e') = absurd (true≢false (sym f' ∙ f))
hearing_one unit free q l r r' (contradicts f c k e) (after_spoil f' b' e') = absurd (calm_broken l.heard c b')
hearing_one unit free q l r r' (contradicts f c k e) (contradicts f' c' k' e') = e ∙ sym e'
hearing_one unit free q l r r' (contradicts f c k e) (again f' c' n' e') = absurd (no_clash q l.heard c' k)
hearing_one unit free q l r r' (contradicts f c k e) (no_room f' c' n' t' e') = absurd (no_clash q l.heard c' k)
hearing_one unit free q l r r' (contradicts f c k e) (completes f' w' n' t' e') = absurd (no_clash q l.heard w'.0 k)
hearing_one unit free q l r r' (contradicts f c k e) (goes_on f' c' w' n' t' e') = absurd (no_clash q l.heard c' k)
hearing_one unit free q l r r' (again f c n e) (after_fetch f' e') = absurd (true≢false (sym f' ∙ f))
hearing_one unit free q l r r' (again f c n e) (after_spoil f' b' e') = absurd (calm_broken l.heard (tail_calm q l.heard c) b')
hearing_one unit free q l r r' (again f c n e) (contradicts f' c' k' e') = absurd (no_clash q l.heard c k')
hearing_one unit free q l r r' (again f c n e) (again f' c' n' e') = e ∙ sym e'
hearing_one unit free q l r r' (again f c n e) (no_room f' c' n' t' e') = absurd (n' n)
hearing_one unit free q l r r' (again f c n e) (completes f' w' n' t' e') = absurd (n' n)
hearing_one unit free q l r r' (again f c n e) (goes_on f' c' w' n' t' e') = absurd (n' n)
hearing_one unit free q l r r' (no_room f c n t e) (after_fetch f' e') = absurd (true≢false (sym f' ∙ f))
hearing_one unit free q l r r' (no_room f c n t e) (after_spoil f' b' e') = absurd (calm_broken l.heard (tail_calm q l.heard c) b')
hearing_one unit free q l r r' (no_room f c n t e) (contradicts f' c' k' e') = absurd (no_clash q l.heard c k')
hearing_one unit free q l r r' (no_room f c n t e) (again f' c' n' e') = absurd (n n')
hearing_one unit free q l r r' (no_room f c n t e) (no_room f' c' n' t' e') = e ∙ sym e'
hearing_one unit free q l r r' (no_room f c n t e) (completes f' w' n' t' e') = absurd (omega (arith, t, t'))
hearing_one unit free q l r r' (no_room f c n t e) (goes_on f' c' w' n' t' e') = absurd (omega (arith, t, t'))
hearing_one unit free q l r r' (completes f w n t e) (after_fetch f' e') = absurd (true≢false (sym f' ∙ f))
hearing_one unit free q l r r' (completes f w n t e) (after_spoil f' b' e') = absurd (calm_broken l.heard (tail_calm q l.heard w.0) b')
hearing_one unit free q l r r' (completes f w n t e) (contradicts f' c' k' e') = absurd (no_clash q l.heard w.0 k')
hearing_one unit free q l r r' (completes f w n t e) (again f' c' n' e') = absurd (n n')
hearing_one unit free q l r r' (completes f w n t e) (no_room f' c' n' t' e') = absurd (omega (arith, t, t'))
hearing_one unit free q l r r' (completes f w n t e) (completes f' w' n' t' e') = e ∙ sym e'
hearing_one unit free q l r r' (completes f w n t e) (goes_on f' c' w' n' t' e') = absurd (w' w)
hearing_one unit free q l r r' (goes_on f c w n t e) (after_fetch f' e') = absurd (true≢false (sym f' ∙ f))
hearing_one unit free q l r r' (goes_on f c w n t e) (after_spoil f' b' e') = absurd (calm_broken l.heard (tail_calm q l.heard c) b')
hearing_one unit free q l r r' (goes_on f c w n t e) (contradicts f' c' k' e') = absurd (no_clash q l.heard c k')
hearing_one unit free q l r r' (goes_on f c w n t e) (again f' c' n' e') = absurd (n n')
hearing_one unit free q l r r' (goes_on f c w n t e) (no_room f' c' n' t' e') = absurd (omega (arith, t, t'))
hearing_one unit free q l r r' (goes_on f c w n t e) (completes f' w' n' t' e') = absurd (w w')
hearing_one unit free q l r r' (goes_on f c w n t e) (goes_on f' c' w' n' t' e') = e ∙ sym e'

greeting_one : (unit count free : ℕ) (q : FragmentValue) (y : Standing) (r r' : Reply) → PacketAnswerAt unit count free q y r → PacketAnswerAt unit count free q y r' → r ≡ r'
greeting_one unit count free q outside r r' (inl a) (inl b) = a.1 ∙ sym b.1
greeting_one unit count free q outside r r' (inl a) (inr b) = absurd (omega (arith, a.0, b.0))
greeting_one unit count free q outside r r' (inr a) (inl b) = absurd (omega (arith, a.0, b.0))
greeting_one unit count free q outside r r' (inr a) (inr b) = hearing_one unit free q fresh r r' a.1 b.1
greeting_one unit count free q (inside l) r r' a b = hearing_one unit free q l r r' a b

packet_one : (t : Terms) (h : History) (id : List ℕ) (q : FragmentValue) (r r' : Reply) → PacketDue t h id q r → PacketDue t h id q r' → r ≡ r'
packet_one t h id q r r' a b =
    let s = stands_one t.patience h id b.standing a.standing b.stands a.stands in
    let n = stays_one t h b.stays a.stays b.listed a.listed in
    greeting_one t.unit (length a.stays) (t.capacity - units_of a.stays) q a.standing r r' a.due
    (subst (λ (x : ℕ). PacketAnswerAt t.unit x (t.capacity - units_of a.stays) q a.standing r') n.1
    (subst (λ (x : ℕ). PacketAnswerAt t.unit (length b.stays) (t.capacity - x) q a.standing r') n.0
    (subst (λ (x : Standing). PacketAnswerAt t.unit (length b.stays) (t.capacity - units_of b.stays) q x r') s b.due)))

arrival_one : (t : Terms) (h : History) (xs : List ℕ) (r r' : Reply) → ArrivalDue t h xs r → ArrivalDue t h xs r' → r ≡ r'
arrival_one t h xs r r' (readable id q k d) (readable id' q' k' d') =
    let e = carries_one xs id' id q' q k' k in
    packet_one t h id q r r' d (subst (λ (i : List ℕ). PacketDue t h i q r') e.0 (subst (λ (w : FragmentValue). PacketDue t h id' w r') e.1 d'))
arrival_one t h xs r r' (readable id q k d) (unreadable e f none i) = absurd (none k.value k.encodes)
arrival_one t h xs r r' (unreadable e f none i) (readable id q k d) = absurd (none k.value k.encodes)
arrival_one t h xs r r' (unreadable e f none i) (unreadable e' f' none' i') = i ∙ refused_one xs e e' f f' ∙ sym i'

-- a stay begins with just what is heard in a new one
fresh_hears : (unit free : ℕ) (q : FragmentValue) (r : Reply) → PacketAnswer unit free q fresh r → accepted r ≡ audible r
fresh_hears unit free q r (after_fetch f e) = absurd (false≢true f)
fresh_hears unit free q r (after_spoil f b e) = absurd b.2
fresh_hears unit free q r (contradicts f c k e) = absurd k.1
fresh_hears unit free q r (again f c n e) = absurd n.1
fresh_hears unit free q r (no_room f c n t e) = ap accepted e ∙ sym (ap audible e)
fresh_hears unit free q r (completes f w n t e) = ap accepted e ∙ sym (ap audible e)
fresh_hears unit free q r (goes_on f c w n t e) = ap accepted e ∙ sym (ap audible e)

pub hears_is : (unit free : ℕ) (q : FragmentValue) (y : Standing) (r : Reply) → PacketAnswer unit free q (stay_of y) r → hears y r ≡ audible r
hears_is unit free q outside r d = fresh_hears unit free q r d
hears_is unit free q (inside l) r d = refl

-- ---- a fetch

fetching_one : (n : ℕ) (l : Stay) (r r' : Reply) → FetchAnswer n l r → FetchAnswer n l r' → r ≡ r'
fetching_one n l r r' (fetched_before f e) (fetched_before f' e') = e ∙ sym e'
fetching_one n l r r' (fetched_before f e) (spoilt f' b' e') = absurd (true≢false (sym f ∙ f'))
fetching_one n l r r' (fetched_before f e) (gathers f' c' w' e') = absurd (true≢false (sym f ∙ f'))
fetching_one n l r r' (fetched_before f e) (too_short f' w' bs' m' t' e') = absurd (true≢false (sym f ∙ f'))
fetching_one n l r r' (fetched_before f e) (hands_out f' w' bs' m' t' e') = absurd (true≢false (sym f ∙ f'))
fetching_one n l r r' (spoilt f b e) (fetched_before f' e') = absurd (true≢false (sym f' ∙ f))
fetching_one n l r r' (spoilt f b e) (spoilt f' b' e') = e ∙ sym e'
fetching_one n l r r' (spoilt f b e) (gathers f' c' w' e') = absurd (calm_broken l.heard c' b)
fetching_one n l r r' (spoilt f b e) (too_short f' w' bs' m' t' e') = absurd (calm_broken l.heard w'.0 b)
fetching_one n l r r' (spoilt f b e) (hands_out f' w' bs' m' t' e') = absurd (calm_broken l.heard w'.0 b)
fetching_one n l r r' (gathers f c w e) (fetched_before f' e') = absurd (true≢false (sym f' ∙ f))
fetching_one n l r r' (gathers f c w e) (spoilt f' b' e') = absurd (calm_broken l.heard c b')
fetching_one n l r r' (gathers f c w e) (gathers f' c' w' e') = e ∙ sym e'
fetching_one n l r r' (gathers f c w e) (too_short f' w' bs' m' t' e') = absurd (w w')
fetching_one n l r r' (gathers f c w e) (hands_out f' w' bs' m' t' e') = absurd (w w')
fetching_one n l r r' (too_short f w bs m t e) (fetched_before f' e') = absurd (true≢false (sym f' ∙ f))
fetching_one n l r r' (too_short f w bs m t e) (spoilt f' b' e') = absurd (calm_broken l.heard w.0 b')
fetching_one n l r r' (too_short f w bs m t e) (gathers f' c' w' e') = absurd (w' w)
fetching_one n l r r' (too_short f w bs m t e) (too_short f' w' bs' m' t' e') = e ∙ sym e'
fetching_one n l r r' (too_short f w bs m t e) (hands_out f' w' bs' m' t' e') = absurd (let k : length bs ≡ length bs' = ap length (message_one l.heard bs bs' w.0 m m') in omega (arith, t, t', k))
fetching_one n l r r' (hands_out f w bs m t e) (fetched_before f' e') = absurd (true≢false (sym f' ∙ f))
fetching_one n l r r' (hands_out f w bs m t e) (spoilt f' b' e') = absurd (calm_broken l.heard w.0 b')
fetching_one n l r r' (hands_out f w bs m t e) (gathers f' c' w' e') = absurd (w' w)
fetching_one n l r r' (hands_out f w bs m t e) (too_short f' w' bs' m' t' e') = absurd (let k : length bs ≡ length bs' = ap length (message_one l.heard bs bs' w.0 m m') in omega (arith, t, t', k))
fetching_one n l r r' (hands_out f w bs m t e) (hands_out f' w' bs' m' t' e') = e ∙ ap delivered (message_one l.heard bs bs' w.0 m m') ∙ sym e'

handing_one : (n : ℕ) (y : Standing) (r r' : Reply) → FetchAnswerAt n y r → FetchAnswerAt n y r' → r ≡ r'
handing_one n outside r r' a b = a ∙ sym b
handing_one n (inside l) r r' a b = fetching_one n l r r' a b

fetch_one : (t : Terms) (h : History) (id : List ℕ) (n : ℕ) (r r' : Reply) → FetchDue t h id n r → FetchDue t h id n r' → r ≡ r'
fetch_one t h id n r r' a b =
    let s = stands_one t.patience h id b.standing a.standing b.stands a.stands in
    handing_one n a.standing r r' a.due (subst (λ (x : Standing). FetchAnswerAt n x r') s b.due)

-- ---- a state question

looks_one : (l : Stay) (v v' : State) → StayState l v → StayState l v' → v ≡ v'
looks_one l v v' (looks_fetched f e) (looks_fetched f' e') = e ∙ sym e'
looks_one l v v' (looks_fetched f e) (looks_spoiled f' b' e') = absurd (true≢false (sym f ∙ f'))
looks_one l v v' (looks_fetched f e) (looks_gathering f' c' w' n' low' k' u' e') = absurd (true≢false (sym f ∙ f'))
looks_one l v v' (looks_fetched f e) (looks_whole f' w' bs' m' e') = absurd (true≢false (sym f ∙ f'))
looks_one l v v' (looks_spoiled f b e) (looks_fetched f' e') = absurd (true≢false (sym f' ∙ f))
looks_one l v v' (looks_spoiled f b e) (looks_spoiled f' b' e') = e ∙ sym e'
looks_one l v v' (looks_spoiled f b e) (looks_gathering f' c' w' n' low' k' u' e') = absurd (calm_broken l.heard c' b)
looks_one l v v' (looks_spoiled f b e) (looks_whole f' w' bs' m' e') = absurd (calm_broken l.heard w'.0 b)
looks_one l v v' (looks_gathering f c w n low k u e) (looks_fetched f' e') = absurd (true≢false (sym f' ∙ f))
looks_one l v v' (looks_gathering f c w n low k u e) (looks_spoiled f' b' e') = absurd (calm_broken l.heard c b')
looks_one l v v' (looks_gathering f c w n low k u e) (looks_gathering f' c' w' n' low' k' u' e') =
    let a : n ≡ n' = answers_pinned.count l.heard max_packets n n' k k' in
    let b : low ≡ low' = answers_pinned.lowest l.heard low low' u u' in
    e ∙ ap (λ (x : ℕ). is_gathering x low) a ∙ ap (is_gathering n') b ∙ sym e'
looks_one l v v' (looks_gathering f c w n low k u e) (looks_whole f' w' bs' m' e') = absurd (w w')
looks_one l v v' (looks_whole f w bs m e) (looks_fetched f' e') = absurd (true≢false (sym f' ∙ f))
looks_one l v v' (looks_whole f w bs m e) (looks_spoiled f' b' e') = absurd (calm_broken l.heard w.0 b')
looks_one l v v' (looks_whole f w bs m e) (looks_gathering f' c' w' n' low' k' u' e') = absurd (w' w)
looks_one l v v' (looks_whole f w bs m e) (looks_whole f' w' bs' m' e') = e ∙ ap (λ (x : List ℕ). is_whole (length x)) (message_one l.heard bs bs' w.0 m m') ∙ sym e'

look_one : (y : Standing) (v v' : State) → StateOfId y v → StateOfId y v' → v ≡ v'
look_one outside v v' a b = a ∙ sym b
look_one (inside l) v v' a b = looks_one l v v' a b

state_one : (t : Terms) (h : History) (id : List ℕ) (r r' : Reply) → StateDue t h id r → StateDue t h id r' → r ≡ r'
state_one t h id r r' a b =
    let s = stands_one t.patience h id b.standing a.standing b.stands a.stands in
    let v = look_one a.standing a.state b.state a.due (subst (λ (x : Standing). StateOfId x b.state) s b.due) in
    a.is ∙ ap (λ (x : State). told x (min (refusals h) most_refusals)) v ∙ sym b.is

-- ---- any call

pub one_answer : OneAnswer
one_answer t h (arrives xs) r r' a b = arrival_one t h xs r r' a b
one_answer t h (fetches i n) r r' a b = fetch_one t h i n r r' a b
one_answer t h ticks r r' a b = a ∙ sym b
one_answer t h (asks i) r r' a b = state_one t h i r r' a b
