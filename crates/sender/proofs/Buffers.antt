-- Packets, put one after the other.
use Rattle.std.proofs.lemmas.Grind.{common_steps}
use Rattle.std.proofs.Common.{◌≡◌, ℕ, zero, suc, ◌+◌, ◌-◌, ◌*◌, ◌/◌, ◌<◌, ◌≤◌, List, [], ◌∷◌, ◌++◌, map, length, take, drop, sym, refl, ap, ◌∙◌, ⊎_elim, add-zero, arith}
use borrow.Rule.Slice.PartMut.{put_mid}
use Rattle.std.proofs.lemmas.Nat.{le-div, row_fits}
use Rattle.std.specs.List.{range_with_len, flat_map}
use Rattle.std.proofs.lemmas.List.FromFn.{map-range_with_len_more}
use Rattle.std.proofs.lemmas.List.{append_assoc, length-append, take_at, drop_at, drop-drop, length-drop}
use Rattle.wire.specs.declared.refusal.Refusal.{Refusal}
use Rattle.packet.specs.Packets.{PacketValue, InRange, Encodes, canonical, size_of, zeros_of}
use Rattle.packet.specs.Datagrams.{Refused}
use Rattle.packet.specs.Writing.{Short, Unwritten}
use Rattle.packet.proofs.Flaws.{flawed_none}
use Rattle.packet.proofs.Values.{padded, length_canonical}
use Rattle.sender.specs.Packets.{bytes_of}
use Rattle.sender.specs.Parts.{packet_after, run_of, run_length}
use Rattle.sender.proofs.Cuts.{within_more, later_cut}

pub encoded : (v : PacketValue) → InRange v → Encodes v (canonical v)
encoded v r = record { in_range = r; padding = zeros_of v; padded = padded v; bytes_are = refl }

-- a packet in range is not refused, where the buffer is long enough
pub unwritten_never : (v : PacketValue) (was new : List ℕ) (e : Refusal) → InRange v → size_of v ≤ length was → Unwritten v was new e → ⊥
unwritten_never v was new e r f u =
    ⊎_elim {C = ⊥} (λ (x : Refused (canonical v) e). flawed_none (canonical v) _ _ x.flaw v (encoded v r)) (λ (y : Short v was e). let s = y.too_short in omega arith) u.cause

pub bytes_none : bytes_of [] ≡ []
unfolding bytes_of
bytes_none = refl

pub bytes_one : (v : PacketValue) → bytes_of (v ∷ []) ≡ canonical v
unfolding bytes_of
bytes_one v = grind (arith, common_steps)

pub bytes_join : (vs ws : List PacketValue) → bytes_of (vs ++ ws) ≡ bytes_of vs ++ bytes_of ws
unfolding bytes_of
bytes_join [] ws = refl
bytes_join (v ∷ vs) ws = ap (λ t. canonical v ++ t) (bytes_join vs ws) ∙ sym (append_assoc (canonical v) (flat_map canonical vs) (flat_map canonical ws))

-- what is written to the buffer from `at` on
pub put_from : (was cur part : List ℕ) (at n : ℕ) → n ≡ length part
    → cur ≡ part ++ drop n (take (length was - at) (drop at was))
    → put_mid at (length was - at) was cur ≡ take at was ++ (part ++ drop (at + n) was)
put_from was cur part at n l e = grind (arith, common_steps)

-- the packet j after v is as long as v
pub after_size : (v : PacketValue) (rest : List ℕ) (j : ℕ) → (j + 1) * length v.body ≤ length (v.body ++ rest) → size_of (packet_after v rest j) ≡ size_of v
unfolding packet_after
after_size v rest j cut = grind (arith, common_steps)

-- the packet j after v, by its fields
abbrev pub with_body : PacketValue → ℕ → List ℕ → PacketValue
with_body v j b = record { order = v.order; stop = v.stop; number = v.number + j; count = v.count; id = v.id; body = b }

pub after_is : (v : PacketValue) (rest b : List ℕ) (j : ℕ) → b ≡ take (length v.body) (drop (j * length v.body) (v.body ++ rest)) → with_body v j b ≡ packet_after v rest j
unfolding packet_after
after_is v rest b j e = grind (arith, common_steps)

-- packets of one size
pub length_bytes : (f : ℕ → PacketValue) (size k n : ℕ) → ((i : ℕ) → i < k + n → size_of (f i) ≡ size) → length (bytes_of (map f (range_with_len k n))) ≡ n * size
length_bytes f size k zero h = ap length bytes_none ∙ omega arith
length_bytes f size k (suc n) h =
    let v = f k in
    let vs = map f (range_with_len (k + 1) n) in
    let i = length_bytes f size (k + 1) n (λ i l. h i (omega arith)) in
    let a = bytes_join (v ∷ []) vs in
    let b = length-append (bytes_of (v ∷ [])) (bytes_of vs) in
    let d : length (bytes_of (v ∷ [])) ≡ size = ap length (bytes_one v) ∙ (length_canonical v ∙ h k (omega arith)) in
    let s : suc n ≡ n + 1 = omega arith in
    ap length a ∙ (b ∙ (omega arith ∙ ap (λ i. i * size) (sym s)))

-- one packet more, put where the packets before it end
pub run_more : (f : ℕ → PacketValue) (was cur new : List ℕ) (j at n : ℕ) (v : PacketValue) → v ≡ f j → at ≡ length (bytes_of (map f (range_with_len 0 j)))
    → cur ≡ bytes_of (map f (range_with_len 0 j)) ++ drop at was
    → new ≡ take at cur ++ (bytes_of (v ∷ []) ++ drop (at + n) cur)
    → new ≡ bytes_of (map f (range_with_len 0 (j + 1))) ++ drop (at + n) was
run_more f was cur new j at n v ev l e1 e2 =
    let b = bytes_of (map f (range_with_len 0 j)) in
    let t : take at cur ≡ b = ap (take at) e1 ∙ take_at b (drop at was) at (sym l) in
    let d0 : drop at cur ≡ drop at was = ap (drop at) e1 ∙ drop_at b (drop at was) at (sym l) in
    let d : drop (at + n) cur ≡ drop (at + n) was = sym (drop-drop n at cur) ∙ (ap (drop n) d0 ∙ drop-drop n at was) in
    let m : map f (range_with_len 0 (j + 1)) ≡ map f (range_with_len 0 j) ++ f j ∷ [] = map-range_with_len_more f 0 j j (omega arith) in
    let g : bytes_of (map f (range_with_len 0 (j + 1))) ≡ b ++ bytes_of (v ∷ []) = ap bytes_of m ∙ (bytes_join (map f (range_with_len 0 j)) (f j ∷ []) ∙ ap (λ w. b ++ bytes_of (w ∷ [])) (sym ev)) in
    e2 ∙ (cc (t, d) ∙ (sym (append_assoc b (bytes_of (v ∷ [])) (drop (at + n) was)) ∙ ap (λ y. y ++ drop (at + n) was) (sym g)))

-- the first packet of a run, put at the buffer's start
pub run_first : (v : PacketValue) (rest was new : List ℕ) (size : ℕ) → size ≡ size_of v → new ≡ take 0 was ++ (bytes_of (v ∷ []) ++ drop (0 + size) was)
    → new ≡ bytes_of (run_of v rest 1) ++ drop (1 * size_of v) was
run_first v rest was new size es e =
    let z : 0 * length v.body ≡ 0 = omega arith in
    let b : v.body ≡ take (length v.body) (drop (0 * length v.body) (v.body ++ rest)) =
    sym (ap (λ i. take (length v.body) (drop i (v.body ++ rest))) z ∙ take_at v.body rest (length v.body) refl) in
    let f : v ≡ packet_after v rest 0 = ap (λ i. record v { number = i }) (sym (add-zero v.number)) ∙ after_is v rest v.body 0 b in
    let s : 0 + size ≡ 1 * size_of v = omega arith in
    run_more (packet_after v rest) was was new 0 0 size v f (sym (ap length bytes_none)) (sym (ap (λ y. y ++ was) bytes_none)) e
    ∙ ap (λ i. bytes_of (run_of v rest 1) ++ drop i was) s

-- the packet w after n of a run
pub run_next : (v w : PacketValue) (rest was cur new : List ℕ) (n at size : ℕ) → at ≡ n * size_of v → size ≡ size_of v → n * length v.body ≤ length rest → w ≡ packet_after v rest n
    → cur ≡ bytes_of (run_of v rest n) ++ drop (n * size_of v) was
    → new ≡ take at cur ++ (bytes_of (w ∷ []) ++ drop (at + size) cur)
    → new ≡ bytes_of (run_of v rest (n + 1)) ++ drop ((n + 1) * size_of v) was
run_next v w rest was cur new n at size ea es within e r b =
    let f = packet_after v rest in
    let L = length v.body in
    let one : (i : ℕ) → i < 0 + n → size_of (f i) ≡ size_of v = λ i h. after_size v rest i (rw length-append (let m = within_more i n L (n * L) (omega arith) (omega arith) in omega arith)) in
    let l : length (bytes_of (run_of v rest n)) ≡ n * size_of v = length_bytes f (size_of v) 0 n one in
    let past : at + size ≡ (n + 1) * size_of v = omega arith in
    run_more f was cur new n at size w e (ea ∙ sym l) (r ∙ ap (λ i. bytes_of (run_of v rest n) ++ drop i was) (sym ea)) b
    ∙ ap (λ i. bytes_of (run_of v rest (n + 1)) ++ drop i was) past

-- the packet after n, whose body comes off the front of what is left of the cuts
pub record NextPacket (v : PacketValue) (rest left body : List ℕ) (n : ℕ) : Type 0 where
  pub packet_is : with_body v n body ≡ packet_after v rest n
  pub body_long : length body ≡ length v.body
  pub left_is : left ≡ drop (n * length v.body) rest
  pub within : n * length v.body ≤ length rest
  pub few : n ≤ length rest / length v.body
  pub fits : n * size_of v + size_of v ≤ run_length v rest * size_of v

pub next_packet : (v : PacketValue) (rest front left body : List ℕ) (k j size : ℕ) → 0 < length v.body → k * length v.body ≤ length rest → front ≡ drop (k * length v.body) rest
    → front ≡ body ++ left → length body ≡ size → size ≡ length v.body → j ≡ k → NextPacket v rest left body (j + 1)
next_packet v rest front left body k j size some w d e l es ej =
    let L = length v.body in
    let lb : length body ≡ L = l ∙ es in
    let ek : k * L ≡ j * L = ap (λ i. i * L) (sym ej) in
    let next : (j + 1) * L ≡ j * L + L = omega arith in
    let f : drop (j * L) rest ≡ body ++ left = ap (λ i. drop i rest) (sym ek) ∙ (sym d ∙ e) in
    let n = ap length f ∙ length-append body left in
    let h = length-drop (j * L) rest in
    let within : (j + 1) * L ≤ length rest = omega arith in
    let few = le-div (j + 1) (length rest) L some within in
    record {
      packet_is = after_is v rest body (j + 1) (sym (ap (take L) (sym (later_cut v.body rest j L refl) ∙ f) ∙ take_at body left L lb));
      body_long = lb;
      left_is = sym (ap (λ i. drop i rest) next ∙ (sym (drop-drop L (j * L) rest) ∙ (ap (drop L) f ∙ drop_at body left L lb)));
      within = within;
      few = few;
      fits = row_fits (j + 1) (size_of v) (run_length v rest) (size_of v) (omega arith) (omega arith);
    }
