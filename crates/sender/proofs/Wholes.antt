-- All packets of a message that is there as a whole.
use Rattle.std.proofs.lemmas.Grind.{common_steps}
use Rattle.std.proofs.Common.{◌≡◌, ℕ, ◌+◌, ◌-◌, ◌*◌, ◌<◌, ◌≤◌, List, [], ◌∷◌, ◌++◌, length, take, drop, sym, refl, ap, ◌∙◌, arith}
use Rattle.std.proofs.lemmas.List.FromFn.{map-range_with_len_more}
use Rattle.std.proofs.lemmas.List.{append-nil, append_assoc, length-append, length-drop, take_all, take_at, take_rest, drop_at, drop-drop}
use borrow.Rule.Slice.PartMut.{put_mid}
use Rattle.packet.specs.Packets.{canonical, size_of}
use Rattle.packet.proofs.Values.{length_canonical}
use Rattle.sender.specs.Packets.{Plan, LawfulPlan, packet_at, packets_from, bytes_of}
use Rattle.wire.specs.declared.refusal.Refusal.{Refusal}
use Rattle.sender.specs.Sending.{Sending, new_sending, Added, Ended, Unended, no_message, short_end, sure, newly, full_size, final_packet}
use Rattle.sender.specs.Runs.{whole, send_none, send_more}
use Rattle.sender.specs.Messages.{message_bytes, MessageWritten}
use Rattle.sender.proofs.Buffers.{bytes_one, bytes_join, length_bytes, put_from}
use Rattle.sender.proofs.Messages.{cut_positive, count_sure, size_with, size_sure}
use Rattle.sender.proofs.Joins.{took_none, portions_join}

module _ (p : Plan) (lawful : LawfulPlan p) (m : List ℕ) (some : 0 < length m) where
  -- the packets before the last hold no more than the message, and the last holds the rest
  pub cuts_within : (sure p.cut (length m) * p.cut < length m) × (length m ≤ sure p.cut (length m) * p.cut + p.cut)
  cuts_within = grind (arith, common_steps)

  pub final_size : size_of (final_packet p m) ≡ 32 + (length m - sure p.cut (length m) * p.cut)
  unfolding packet_at
  final_size =
      let L = p.cut in
      let K = sure L (length m) in
      let w = cuts_within in
      let l = length-drop (K * L) m in
      let b = take_all L (drop (K * L) m) (omega arith) in
      size_with p _ K (packet_at p m K) (take L (drop (K * L) m)) refl lawful.id_size ∙ ap (λ k. 32 + k) (ap length b ∙ l)

  pub message_size : length (message_bytes p m) ≡ (sure p.cut (length m) + 1) * 32 + length m
  message_size =
      let L = p.cut in
      let K = sure L (length m) in
      let v = final_packet p m in
      let w = cuts_within in
      let f = final_size in
      let c = count_sure L (length m) (cut_positive p lawful) some in
      let more : packets_from p m 0 (K + 1) ≡ packets_from p m 0 K ++ v ∷ [] = map-range_with_len_more (packet_at p m) 0 K K (omega arith) in
      let full = length_bytes (packet_at p m) (full_size p) 0 K (λ i h. size_sure p m i (cut_positive p lawful) lawful.id_size (omega arith)) in
      let last = ap length (bytes_one v) ∙ length_canonical v in
      let e : length (message_bytes p m) ≡ length (bytes_of (packets_from p m 0 K)) + length (bytes_of (v ∷ [])) =
      ap (λ k. length (bytes_of (packets_from p m 0 k))) c
      ∙ (ap (λ t. length (bytes_of t)) more ∙ (ap length (bytes_join (packets_from p m 0 K) (v ∷ [])) ∙ length-append (bytes_of (packets_from p m 0 K)) (bytes_of (v ∷ [])))) in
      omega arith

  module _ (fits : length m ≤ 64 * p.cut) (was : List ℕ) (room : (sure p.cut (length m) + 1) * 32 + length m ≤ length was) where
    -- the full packets fit, and after them the last
    full_fits : sure p.cut (length m) * full_size p + size_of (final_packet p m) ≤ length was
    full_fits =
        let K = sure p.cut (length m) in
        let w = cuts_within in
        let f = final_size in
        omega arith

    newly_all : newly p [] m ≡ sure p.cut (length m)
    newly_all = grind (arith, common_steps)

    module _ (new : List ℕ) (n : ℕ) {t : Sending} (long : length new ≡ length was) (a : Added (new_sending p) m was new n t) where
      pub count_is : n ≡ sure p.cut (length m)
      count_is = (a.grown [] (took_none p)).number_is ∙ newly_all

      -- what is left of the buffer for the last packet
      abbrev pub left : List ℕ
      left = take (length new - n * full_size p) (drop (n * full_size p) new)

      pub left_long : size_of (final_packet p m) ≤ length left
      left_long =
          let l = ap length (take_rest new (n * full_size p)) ∙ length-drop (n * full_size p) new in
          let f = full_fits in
          let c = ap (λ k. k * full_size p) count_is in
          omega arith

      pub end_never : {end : List ℕ} {e : Refusal} → Unended t left end e → ⊥
      end_never u =
          let k = (a.grown [] (took_none p)).took in
          let z = ap (λ y. size_of (final_packet y m)) a.same_plan in
          let f = left_long in
          elim (u.cause m k) [
            | no_message r h ↦ let l = ap length h in omega arith
            | short_end r h l ↦ omega arith
          ]

      module _ (end : List ℕ) (last : ℕ) (e : Ended t left end last) where
        pub last_size : last ≡ size_of (final_packet p m)
        last_size =
            let k = (a.grown [] (took_none p)).took in
            (e.final m k).size_is ∙ ap (λ y. size_of (final_packet y m)) a.same_plan

        pub whole_written : (new2 : List ℕ) → new2 ≡ put_mid (n * full_size p) (length new - n * full_size p) new end → MessageWritten p m was new2 (n * full_size p + last)
        whole_written new2 b =
            let at = n * full_size p in
            let k = (a.grown [] (took_none p)).took in
            let f = e.final m k in
            let v = final_packet t.plan m in
            let c : canonical v ≡ take last end = sym (ap (take last) f.bytes_are ∙ take_at (canonical v) (drop last left) last (length_canonical v ∙ sym f.size_is)) in
            let put : new2 ≡ take at new ++ (canonical v ++ drop (at + last) new) = b ∙ put_from new end (canonical v) at last (f.size_is ∙ sym (length_canonical v)) f.bytes_are in
            let j = (portions_join p (m ∷ []) (take at new) t lawful (send_more send_none a)).all_written left end last e in
            let w : whole (m ∷ []) ≡ m = append-nil m in
            let all : take at new ++ canonical v ≡ message_bytes p m = ap (λ y. take at new ++ y) c ∙ (j ∙ ap (message_bytes p) w) in
            let full = length_bytes (packet_at p m) (full_size p) 0 n (λ i h. size_sure p m i (cut_positive p lawful) lawful.id_size (let ci = count_is in omega arith)) in
            let front : drop at new ≡ drop at was =
            ap (drop at) (a.grown [] (took_none p)).bytes_are ∙ drop_at (bytes_of (packets_from p m 0 n)) (drop at was) at full in
            let rest : drop (at + last) new ≡ drop (at + last) was = sym (drop-drop last at new) ∙ (ap (drop last) front ∙ drop-drop last at was) in
            let q = message_size in
            let ls = last_size in
            let fs = final_size in
            let cw = cuts_within in
            let K = sure p.cut (length m) in
            let ci = ap (λ i. i * full_size p) count_is in
            let size : at + last ≡ length (message_bytes p m) = omega arith in
            record {
              some_message = some;
              message_fits = fits;
              size_is = size;
              buffer_fits = omega arith;
              bytes_are = put ∙ (sym (append_assoc (take at new) (canonical v) (drop (at + last) new)) ∙ (ap (λ y. y ++ drop (at + last) new) all ∙ ap (λ y. message_bytes p m ++ y) rest));
            }
