-- What a sender holds, before and after a portion.
use Rattle.std.proofs.lemmas.Grind.{common_steps}
use Rattle.std.proofs.Common.{◌≡◌, ℕ, ◌+◌, ◌-◌, ◌*◌, ◌/◌, ◌<◌, ◌≤◌, List, ◌++◌, map, length, drop, sym, ap, ◌∙◌, subst, inl, inr, add-mul, arith}
use native.Mathlib.Nat.{add-mul-div_right, zero-div}
use Rattle.std.specs.List.{range_with_len}
use Rattle.std.proofs.lemmas.List.{drop-drop, drop-append-le, length-append}
use Rattle.std.proofs.lemmas.Bool.{cases_lt}
use Rattle.wire.specs.declared.refusal.Refusal.{Refusal}
use Rattle.packet.specs.Packets.{PacketValue}
use Rattle.sender.specs.Refusals.{SenderRefusal}
use Rattle.sender.specs.Packets.{packet_at, packets_from, bytes_of}
use Rattle.sender.specs.Sending.{Sending, Took, Grown, AddFlaw, short_buffer, sure, newly, full_size}
use Rattle.sender.proofs.Buffers.{bytes_none}
use Rattle.sender.proofs.Messages.{same_run, sure_packet, sure_is}

-- the sender after a portion, by the bytes that it held
pub record Moved (s : Sending) (q : List ℕ) (n : ℕ) (after : Sending) : Type 0 where
  pub same_plan : after.plan ≡ s.plan
  pub number_is : n ≡ sure s.plan.cut (length s.unsent + length q)
  pub sent_is : after.sent ≡ s.sent + n
  pub unsent_is : after.unsent ≡ drop (n * s.plan.cut) (s.unsent ++ q)

pub moved_none : (s : Sending) (q : List ℕ) (after : Sending) → 0 ≡ sure s.plan.cut (length s.unsent + length q)
    → after.plan ≡ s.plan → after.sent ≡ s.sent → after.unsent ≡ s.unsent ++ q → Moved s q 0 after
moved_none s q after n ep es eu = grind (arith, common_steps)

pub none_written : (f : ℕ → PacketValue) (size : ℕ) (was : List ℕ) → was ≡ bytes_of (map f (range_with_len 0 0)) ++ drop (0 * size) was
none_written f size was =
    let z : 0 * size ≡ 0 = omega arith in
    sym (ap (λ y. y ++ drop (0 * size) was) bytes_none ∙ ap (λ i. drop i was) z)

sure_plus : (L c h q n : ℕ) → 0 < L → c ≡ sure L n → c * L + h ≡ n → sure L (n + q) ≡ c + sure L (h + q)
sure_plus L c h q n p e l = elim (cases_lt 0 (h + q)) [
  | inl y ↦
      let f : (n + q) - 1 ≡ (h + q - 1) + c * L = omega arith in
      let g = add-mul-div_right (h + q - 1) c p in
      ap (λ i. i / L) f ∙ (g ∙ omega arith)
  | inr y ↦
      let z : h + q - 1 ≡ 0 = omega arith in
      let w : (h + q - 1) / L ≡ 0 = ap (λ i. i / L) z ∙ zero-div L in
      let f : (n + q) - 1 ≡ n - 1 = omega arith in
      ap (λ i. i / L) f ∙ (sym e ∙ omega arith)
]

module _ (s : Sending) (m : List ℕ) (p : 0 < s.plan.cut) (k : Took s m) where
  pub sent_low : s.sent * s.plan.cut ≤ length m
  sent_low = grind (arith, common_steps)

  pub took_long : s.sent * s.plan.cut + length s.unsent ≡ length m
  took_long = grind (arith, common_steps)

  pub sure_more : (q : List ℕ) → sure s.plan.cut (length (m ++ q)) ≡ s.sent + sure s.plan.cut (length s.unsent + length q)
  sure_more q =
      ap (sure s.plan.cut) (length-append m q)
      ∙ sure_plus s.plan.cut s.sent (length s.unsent) (length q) (length m) p k.sent_is took_long

  pub newly_is : (q : List ℕ) → newly s.plan m q ≡ sure s.plan.cut (length s.unsent + length q)
  newly_is q = let e = k.sent_is in let w = sure_more q in omega arith

  pub unsent_more : (q : List ℕ) → drop (s.sent * s.plan.cut) (m ++ q) ≡ s.unsent ++ q
  unsent_more q = drop-append-le (s.sent * s.plan.cut) m q sent_low ∙ ap (λ y. y ++ q) (sym k.unsent_is)

  module _ (q : List ℕ) (n : ℕ) (after : Sending) (g : Moved s q n after) where
    pub moved_took : Took after (m ++ q)
    moved_took =
        let L = s.plan.cut in
        let sent : after.sent ≡ sure L (length (m ++ q)) = g.sent_is ∙ (ap (λ i. s.sent + i) g.number_is ∙ sym (sure_more q)) in
        let past : s.sent * L + n * L ≡ after.sent * L = sym (add-mul s.sent n L) ∙ ap (λ i. i * L) (sym g.sent_is) in
        let held : after.unsent ≡ drop (after.sent * L) (m ++ q) =
        g.unsent_is ∙ (ap (drop (n * L)) (sym (unsent_more q)) ∙ (drop-drop (n * L) (s.sent * L) (m ++ q) ∙ ap (λ i. drop i (m ++ q)) past)) in
        record {
          sent_is = sent ∙ ap (λ y. sure y.cut (length (m ++ q))) (sym g.same_plan);
          unsent_is = held ∙ ap (λ y. drop (after.sent * y.cut) (m ++ q)) (sym g.same_plan);
        }

    run_is : map (sure_packet s.plan s.sent (s.unsent ++ q)) (range_with_len 0 n) ≡ packets_from s.plan (m ++ q) s.sent n
    run_is =
        let f = sure_packet s.plan s.sent (s.unsent ++ q) in
        let w = sure_more q in
        let e = g.number_is in
        same_run f (packet_at s.plan (m ++ q)) 0 s.sent n
        (λ j h.
        let z : 0 + j ≡ j = omega arith in
        ap f z ∙ (ap (λ y. sure_packet s.plan s.sent y j) (sym (unsent_more q)) ∙ sure_is s.plan (m ++ q) s.sent j p (omega arith)))

    pub grown : (was new : List ℕ) → length (m ++ q) ≤ 64 * s.plan.cut
        → new ≡ bytes_of (map (sure_packet s.plan s.sent (s.unsent ++ q)) (range_with_len 0 n)) ++ drop (n * full_size s.plan) was
        → Grown s m q was new n after
    grown was new f e = record {
      took = moved_took;
      message_fits = f;
      number_is = g.number_is ∙ sym (newly_is q);
      bytes_are = e ∙ ap (λ y. bytes_of y ++ drop (n * full_size s.plan) was) run_is;
    }

  module _ (q : List ℕ) (room : ℕ) (left : room + length s.unsent + s.sent * s.plan.cut ≡ 64 * s.plan.cut) where
    pub message_fits : length q ≤ room → length (m ++ q) ≤ 64 * s.plan.cut
    message_fits h = grind (arith, common_steps)

    pub short_flaw : (was : List ℕ) (n : ℕ) {e : Refusal} → SenderRefusal 10 e → length q ≤ room
        → n ≡ sure s.plan.cut (length s.unsent + length q) → length was < n * full_size s.plan → AddFlaw s m q was e
    short_flaw was n r h en w =
        let P : ℕ → Type 0 = λ i. length was < i * full_size s.plan in
        short_buffer r (message_fits h) (subst P (en ∙ sym (newly_is q)) w)
