-- The packets of a message, as it grows.
use Rattle.std.proofs.lemmas.Grind.{common_steps}
use Rattle.std.proofs.Common.{◌≡◌, ℕ, ◌+◌, ◌-◌, ◌*◌, ◌<◌, ◌≤◌, Bool, false, eqb, List, ◌++◌, map, length, take, drop, sym, refl, ap, ◌∙◌, lt_of_mul-lt-mul_right, arith}
use Rattle.std.proofs.Math.Nat.{lt-div-mul-add}
use Rattle.std.specs.List.{range_with_len}
use Rattle.std.proofs.lemmas.List.FromFn.{length-map-range_with_len, get_or-map-range_with_len}
use Rattle.std.proofs.lemmas.List.{drop-append-le, take-append-le, length-append, length-drop, ext_get_or}
use Rattle.packet.specs.Packets.{PacketValue, size_of}
use Rattle.sender.specs.Limits.{id_length, front_length}
use Rattle.sender.specs.Packets.{Plan, LawfulPlan, packet_count, packet_with, packet_at}
use Rattle.sender.specs.Parts.{packet_after, run_of}
use Rattle.sender.specs.Sending.{sure, full_size}
use Rattle.sender.proofs.Cuts.{cut_within}

pub cut_positive : (p : Plan) → LawfulPlan p → 0 < p.cut
cut_positive p h = let l = h.lawful_cut.at_least in omega arith

-- the last packet is the one after those that are sure
pub count_sure : (L n : ℕ) → 0 < L → 0 < n → packet_count L n ≡ sure L n + 1
count_sure L n p q = grind (arith, common_steps)

-- a list by the index
pub same_run : {X : Type 0} (f g : ℕ → X) (a b n : ℕ) → ((j : ℕ) → j < n → f (a + j) ≡ g (b + j)) → map f (range_with_len a n) ≡ map g (range_with_len b n)
same_run f g a b n h =
    let lf = length-map-range_with_len f a n in
    let lg = length-map-range_with_len g b n in
    ext_get_or (f 0) (map f (range_with_len a n)) (map g (range_with_len b n)) (lf ∙ sym lg)
    (λ i l.
    let k : i < n = omega arith in
    get_or-map-range_with_len f a n i (a + i) (f 0) k refl ∙ (h i k ∙ sym (get_or-map-range_with_len g b n i (b + i) (f 0) k refl)))

-- a packet that is sure, by the bytes xs from packet c on
abbrev pub sure_packet : Plan → ℕ → List ℕ → ℕ → PacketValue
sure_packet p c xs j = packet_with p false (c + j) (take p.cut (drop (j * p.cut) xs))

not_last : (L n i : ℕ) → 0 < L → i < sure L n → eqb (i + 1) (packet_count L n) ≡ false
not_last L n i p h = grind (arith, common_steps)

pub sure_is : (p : Plan) (m : List ℕ) (c j : ℕ) → 0 < p.cut → c + j < sure p.cut (length m) → sure_packet p c (drop (c * p.cut) m) j ≡ packet_at p m (c + j)
unfolding packet_at
sure_is p m c j h l = grind (arith, common_steps)

-- the run from one packet on, by all its bytes
pub run_sure : (p : Plan) (c n : ℕ) (v : PacketValue) (b rest xs : List ℕ) → v ≡ packet_with p false c b → length b ≡ p.cut → b ++ rest ≡ take (n * p.cut) xs
    → run_of v rest n ≡ map (sure_packet p c xs) (range_with_len 0 n)
unfolding packet_after
run_sure p c n v b rest xs e l x =
    let L = p.cut in
    ap (λ w. run_of w rest n) e
    ∙ same_run (packet_after (packet_with p false c b) rest) (sure_packet p c xs) 0 0 n
    (λ j h.
    let i = 0 + j in
    ap (λ k. packet_with p false (c + i) (take k (drop (i * k) (b ++ rest)))) l
    ∙ ap (packet_with p false (c + i)) (ap (λ y. take L (drop (i * L) y)) x ∙ cut_within i n L xs (omega arith)))

pub size_with : (p : Plan) (last : Bool) (i : ℕ) (v : PacketValue) (b : List ℕ) → v ≡ packet_with p last i b → length p.id ≡ id_length → size_of v ≡ front_length + length b
size_with p last i v b e h = grind (arith, common_steps)

-- a sure packet is as long as any, and stays as the message grows
cut_fits : (L n i : ℕ) → i < sure L n → (i + 1) * L ≤ n - 1
cut_fits L n i h = grind (arith, common_steps)

pub size_sure : (p : Plan) (m : List ℕ) (i : ℕ) → 0 < p.cut → length p.id ≡ id_length → i < sure p.cut (length m) → size_of (packet_at p m i) ≡ full_size p
unfolding packet_at
size_sure p m i u e h = grind (arith, common_steps)

pub same_sure : (p : Plan) (m q : List ℕ) (i : ℕ) → 0 < p.cut → i < sure p.cut (length m) → packet_at p m i ≡ packet_at p (m ++ q) i
unfolding packet_at
same_sure p m q i h l =
    let L = p.cut in
    let f = cut_fits L (length m) i l in
    let la = length-append m q in
    let k = sure L (length (m ++ q)) in
    let hi = lt-div-mul-add {a = length (m ++ q) - 1} h in
    let grows : i + 1 < k + 1 = lt_of_mul-lt-mul_right L {m = i + 1} {n = k + 1} (omega arith) in
    let ld = length-drop (i * L) m in
    let b : take L (drop (i * L) m) ≡ take L (drop (i * L) (m ++ q)) =
    sym (ap (take L) (drop-append-le (i * L) m q (omega arith)) ∙ take-append-le L (drop (i * L) m) q (omega arith)) in
    ap (λ t. packet_with p t i (take L (drop (i * L) m))) (not_last L (length m) i h l ∙ sym (not_last L (length (m ++ q)) i h (omega arith)))
    ∙ ap (packet_with p (eqb (i + 1) (packet_count L (length (m ++ q)))) i) b
