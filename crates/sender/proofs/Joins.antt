-- All that a sender writes, joined.
use Rattle.std.proofs.lemmas.Grind.{common_steps}
use Rattle.std.proofs.Common.{◌≡◌, ℕ, zero, suc, ◌+◌, ◌*◌, ◌<◌, List, [], ◌∷◌, ◌++◌, map, length, take, drop, sym, refl, ap, ◌∙◌, subst, arith}
use Rattle.std.specs.List.{range_with_len}
use Rattle.std.proofs.lemmas.List.FromFn.{map-range_with_len_more}
use Rattle.std.proofs.lemmas.List.{map-append, take_at}
use Rattle.packet.specs.Packets.{canonical, size_of}
use Rattle.packet.proofs.Values.{length_canonical}
use Rattle.sender.specs.Packets.{Plan, LawfulPlan, packet_at, packets_from, packets_of, bytes_of}
use Rattle.sender.specs.Sending.{Sending, new_sending, Took, Grown, Added, Ended, sure, newly, full_size, final_packet}
use Rattle.sender.specs.Runs.{whole, Sends, send_none, send_more, send_refused, PortionsJoin}
use Rattle.sender.proofs.Buffers.{bytes_none, bytes_one, bytes_join, length_bytes}
use Rattle.sender.proofs.Messages.{cut_positive, count_sure, same_run, same_sure, size_sure}
use Rattle.sender.proofs.Portions.{sure_more}

counting_join : (a k n : ℕ) → range_with_len a (k + n) ≡ range_with_len a k ++ range_with_len (a + k) n
counting_join a zero n =
    let z : 0 + n ≡ n = omega arith in
    let y : a ≡ a + 0 = omega arith in
    ap (range_with_len a) z ∙ ap (λ i. range_with_len i n) y
counting_join a (suc k) n =
    let s : suc k + n ≡ suc (k + n) = omega arith in
    let y : (a + 1) + k ≡ a + suc k = omega arith in
    ap (range_with_len a) s ∙ (ap (λ t. a ∷ t) (counting_join (a + 1) k n) ∙ ap (λ i. (a ∷ range_with_len (a + 1) k) ++ range_with_len i n) y)

packets_join : (p : Plan) (m : List ℕ) (k n : ℕ) → bytes_of (packets_from p m 0 (k + n)) ≡ bytes_of (packets_from p m 0 k) ++ bytes_of (packets_from p m k n)
packets_join p m k n =
    let f = packet_at p m in
    let z : 0 + k ≡ k = omega arith in
    ap (λ y. bytes_of (map f y)) (counting_join 0 k n ∙ ap (λ i. range_with_len 0 k ++ range_with_len i n) z)
    ∙ (ap bytes_of (map-append f (range_with_len 0 k) (range_with_len k n)) ∙ bytes_join (map f (range_with_len 0 k)) (map f (range_with_len k n)))

pub took_none : (p : Plan) → Took (new_sending p) []
took_none p = grind (arith, common_steps)

-- after a run: the message is taken, and its sure packets are written
record SoFar (p : Plan) (m out : List ℕ) (s : Sending) : Type 0 where
  same_plan : s.plan ≡ p
  took : Took s m
  out_is : out ≡ bytes_of (packets_from p m 0 s.sent)

module _ (p : Plan) (lawful : LawfulPlan p) where
  -- what one call writes, for a sender of this plan
  written : {s : Sending} {m q was new : List ℕ} {n : ℕ} {t : Sending} → s.plan ≡ p → Took s m → Grown s m q was new n t
      → (take (n * full_size p) new ≡ bytes_of (packets_from p (m ++ q) s.sent n)) × (s.sent + n ≡ sure p.cut (length (m ++ q)))
  written {s} {m} {q} {was} {new} {n} {t} e k g =
      let P : Plan → Type 0 = λ y. (n ≡ newly y m q) × (new ≡ bytes_of (packets_from y (m ++ q) s.sent n) ++ drop (n * full_size y) was) × (s.sent ≡ sure y.cut (length m)) × (sure y.cut (length (m ++ q)) ≡ s.sent + sure y.cut (length s.unsent + length q)) in
      let b = subst P e (g.number_is, g.bytes_are, k.sent_is, sure_more s m (let Q : Plan → Type 0 = λ y. 0 < y.cut in subst Q (sym e) (cut_positive p lawful)) k q) in
      let b0 = b.0 in
      let b2 = b.2 in
      let b3 = b.3 in
      let total : s.sent + n ≡ sure p.cut (length (m ++ q)) = omega arith in
      let l = length_bytes (packet_at p (m ++ q)) (full_size p) s.sent n (λ i h. size_sure p (m ++ q) i (cut_positive p lawful) lawful.id_size (omega arith)) in
      (ap (take (n * full_size p)) b.1 ∙ take_at (bytes_of (packets_from p (m ++ q) s.sent n)) (drop (n * full_size p) was) (n * full_size p) l, total)

  so_far_more : {s : Sending} {m out q was new : List ℕ} {n : ℕ} {t : Sending} → SoFar p m out s → Added s q was new n t
      → SoFar p (m ++ q) (out ++ take (n * full_size p) new) t
  so_far_more {s} {m} {out} {q} {was} {new} {n} {t} b a =
      let k = b.took in
      let g = a.grown m k in
      let w = written b.same_plan k g in
      let ep : t.plan ≡ p = a.same_plan ∙ b.same_plan in
      let c = s.sent in
      let cm : c ≡ sure p.cut (length m) = k.sent_is ∙ ap (λ y. sure y.cut (length m)) b.same_plan in
      let ct : c + n ≡ t.sent = w.1 ∙ sym (g.took.sent_is ∙ ap (λ y. sure y.cut (length (m ++ q))) ep) in
      let old : packets_from p m 0 c ≡ packets_from p (m ++ q) 0 c = same_run (packet_at p m) (packet_at p (m ++ q)) 0 0 c (λ j h. same_sure p m q (0 + j) (cut_positive p lawful) (omega arith)) in
      record {
        same_plan = ep;
        took = g.took;
        out_is = ap (λ y. y ++ take (n * full_size p) new) (b.out_is ∙ ap bytes_of old)
            ∙ (ap (λ y. bytes_of (packets_from p (m ++ q) 0 c) ++ y) w.0 ∙ (sym (packets_join p (m ++ q) c n) ∙ ap (λ i. bytes_of (packets_from p (m ++ q) 0 i)) ct));
      }

  whole_push : (qs : List (List ℕ)) (q : List ℕ) → whole qs ++ q ≡ whole (qs ++ q ∷ [])
  whole_push qs q = grind (arith, common_steps)

  so_far : {qs : List (List ℕ)} {out : List ℕ} {s : Sending} → Sends p qs out s → SoFar p (whole qs) out s
  so_far send_none = record { same_plan = refl; took = took_none p; out_is = sym bytes_none }
  so_far (send_more {qs} {out} {q} {was} {new} {n} {s} {t} r a) =
      let P : List ℕ → Type 0 = λ y. SoFar p y (out ++ take (n * full_size p) new) t in
      subst P (whole_push qs q) (so_far_more (so_far r) a)
  so_far (send_refused {qs} {out} r u) = let P : Sending → Type 0 = λ y. SoFar p (whole qs) out y in subst P (sym u.same_sender) (so_far r)

  all_written : {m out : List ℕ} {s : Sending} → SoFar p m out s → (was new : List ℕ) (n : ℕ) → Ended s was new n → out ++ take n new ≡ bytes_of (packets_of p m)
  all_written {m} {out} {s} b was new n e =
      let f = e.final m b.took in
      let L = p.cut in
      let K = sure L (length m) in
      let v = final_packet p m in
      let P : Plan → Type 0 = λ y. (n ≡ size_of (final_packet y m)) × (new ≡ canonical (final_packet y m) ++ drop n was) × (s.sent ≡ sure y.cut (length m)) in
      let w = subst P b.same_plan (f.size_is, f.bytes_are, b.took.sent_is) in
      let last : take n new ≡ bytes_of (v ∷ []) = ap (take n) w.1 ∙ (take_at (canonical v) (drop n was) n (length_canonical v ∙ sym w.0) ∙ sym (bytes_one v)) in
      let c = count_sure L (length m) (cut_positive p lawful) f.some_message in
      let more : packets_from p m 0 (K + 1) ≡ packets_from p m 0 K ++ v ∷ [] = map-range_with_len_more (packet_at p m) 0 K K (omega arith) in
      ap (λ y. y ++ take n new) (b.out_is ∙ ap (λ i. bytes_of (packets_from p m 0 i)) w.2)
      ∙ (ap (λ y. bytes_of (packets_from p m 0 K) ++ y) last
      ∙ (sym (bytes_join (packets_from p m 0 K) (v ∷ [])) ∙ (ap bytes_of (sym more) ∙ ap (λ i. bytes_of (packets_from p m 0 i)) (sym c))))

pub portions_join : PortionsJoin
portions_join p qs out s h r =
    let b = so_far p h r in
    record { same_plan = b.same_plan; took = b.took; so_far = b.out_is; all_written = all_written p h b }
