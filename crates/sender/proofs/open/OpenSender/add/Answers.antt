use Rattle.std.proofs.Common.{◌≡◌, ◌+◌, ◌*◌, ◌/◌, ◌<◌, false, ◌++◌, map, length, drop, sym, refl, ap, ◌∙◌, lt_of_mul-lt-mul_right, arith}
use native.Mathlib.Nat.{div-eq_of_lt}
use Rattle.std.specs.List.{range_with_len}
use Rattle.std.proofs.lemmas.Result.{MatchResult-at_ok}
use Rattle.packet.specs.Packets.{shown, size_of}
use Rattle.sender.specs.Packets.{packet_with, bytes_of}
use Rattle.sender.specs.Parts.{run_of, run_length}
use Rattle.sender.specs.Sending.{sure}
use Rattle.sender.specs.States.{sending}
use Rattle.sender.proofs.Messages.{sure_packet, run_sure, size_with}
use Rattle.sender.proofs.Portions.{Moved, moved_none, none_written, grown, message_fits, short_flaw}
use Rattle.sender.proofs.Tails.{some_sure, written_over, split}
use Rattle.sender.proofs.open.OpenSender.add.Goals as goal

pub returns-then-total-cut : goal.returns-then-total-cut
returns-then-total-cut c =
    let st = c.args.self.now.state in
    let s = sending st in
    let q = c.args.portion.now in
    let items = MatchResult-at_ok _ _ _ c.unwrap.ensures c.try_extend_from_slice.ensures.ok in
    let h = c.len-held.ensures.value in
    let count : 0 ≡ sure s.plan.cut (length s.unsent + length q) = sym (div-eq_of_lt (omega arith)) in
    let g = moved_none s q _ count refl refl items in
    record {
      same_plan = refl;
      buffer_fits = omega arith;
      grown = λ m k. grown s m (omega arith) k q 0 _ g c.args.buffer.now _
          (message_fits s m (omega arith) k q c.room.result c.room.ensures c.if-portion-room.false)
          (none_written (sure_packet s.plan st.sent (s.unsent ++ q)) _ c.args.buffer.now);
    }

pub returns-then-buffer-count : goal.returns-then-buffer-count
returns-then-buffer-count c =
    let s = sending c.args.self.now.state in
    let q = c.args.portion.now in
    let count = c.sure-count.ensures ∙ ap (λ i. sure s.plan.cut (i + length q)) c.len-held.ensures.value in
    record {
      same_sender = refl;
      same_buffer = refl;
      cause = λ m k. short_flaw s m (omega arith) k q c.room.result c.room.ensures c.args.buffer.now c.sure-count.result
          c.refusal-then-buffer-count.ensures c.if-portion-room.false count (omega arith);
    }

pub put_run-requires-clause-few : goal.put_run-requires-clause-few
put_run-requires-clause-few c =
    let st = c.args.self.now.state in
    let L = st.length.value in
    let n = c.sure-count.result in
    let more = some_sure L _ n (omega arith) c.if-total-cut.false c.sure-count.ensures in
    let p = split L _ n st.tail.items c.args.portion.now _ _ _ _ (omega arith) st.kept more c.len-held.ensures.value c.sure-count.ensures
    c.split_at.ensures.front c.split_at.ensures.back c.split_at-2.ensures.front c.split_at-2.ensures.back in
    let items = MatchResult-at_ok _ _ _ c.unwrap-2.ensures c.try_extend_from_slice-2.ensures.ok in
    let body = ap (λ v. length v.body) c.packet.ensures ∙ (ap length items ∙ p.first_long) in
    let number = ap (λ v. v.number) c.packet.ensures in
    let count = ap (λ i. length c.split_at-2.result.0.now / i) body in
    let few : st.sent + n < 64 = lt_of_mul-lt-mul_right L {m = st.sent + n} {n = 64} (omega arith) in
    omega arith

pub put_run-requires-clause-fits : goal.put_run-requires-clause-fits
put_run-requires-clause-fits c =
    let st = c.args.self.now.state in
    let s = sending st in
    let L = st.length.value in
    let n = c.sure-count.result in
    let more = some_sure L _ n (omega arith) c.if-total-cut.false c.sure-count.ensures in
    let p = split L _ n st.tail.items c.args.portion.now _ _ _ _ (omega arith) st.kept more c.len-held.ensures.value c.sure-count.ensures
    c.split_at.ensures.front c.split_at.ensures.back c.split_at-2.ensures.front c.split_at-2.ensures.back in
    let items = MatchResult-at_ok _ _ _ c.unwrap-2.ensures c.try_extend_from_slice-2.ensures.ok in
    let v = shown c.packet.result in
    let bodies = c.split_at-2.result.0.now in
    let first : v ≡ packet_with s.plan false s.sent (s.unsent ++ c.split_at.result.0.now) = c.packet.ensures ∙ ap (packet_with s.plan false s.sent) items in
    let long : length v.body ≡ L = ap (λ w. length w.body) first ∙ p.first_long in
    let size : size_of v ≡ 32 + L = size_with s.plan false s.sent v _ first st.ticket.id_size ∙ ap (λ i. 32 + i) p.first_long in
    let count : run_length v bodies ≡ n = ap (λ i. length bodies / i + 1) long ∙ p.bodies_count in
    let both : run_length v bodies * size_of v ≡ n * (32 + L) = rw (count, size) refl in
    omega arith

pub invariant_of-state-3 : goal.invariant_of-state-3
invariant_of-state-3 c =
    let st = c.args.self.now.state in
    let L = st.length.value in
    let n = c.sure-count.result in
    let more = some_sure L _ n (omega arith) c.if-total-cut.false c.sure-count.ensures in
    let p = split L _ n st.tail.items c.args.portion.now _ _ _ _ (omega arith) st.kept more c.len-held.ensures.value c.sure-count.ensures
    c.split_at.ensures.front c.split_at.ensures.back c.split_at-2.ensures.front c.split_at-2.ensures.back in
    let few : st.sent + n < 64 = lt_of_mul-lt-mul_right L {m = st.sent + n} {n = 64} (omega arith) in
    let long = p.left_long in
    let left = written_over c.truncate.new.self.items c.copy_from_slice.new.self _ (c.copy_from_slice.ensures.len ∙ ap length c.as_mut_slice.ensures.value) c.copy_from_slice.ensures.after in
    let size = ap length left in
    record { few = omega arith; kept = omega arith }

pub returns : goal.returns
returns c =
    let st = c.args.self.now.state in
    let s = sending st in
    let q = c.args.portion.now in
    let was = c.args.buffer.now in
    let L = st.length.value in
    let n = c.sure-count.result in
    let more = some_sure L _ n (omega arith) c.if-total-cut.false c.sure-count.ensures in
    let p = split L _ n st.tail.items q _ _ _ _ (omega arith) st.kept more c.len-held.ensures.value c.sure-count.ensures
    c.split_at.ensures.front c.split_at.ensures.back c.split_at-2.ensures.front c.split_at-2.ensures.back in
    let items = MatchResult-at_ok _ _ _ c.unwrap-2.ensures c.try_extend_from_slice-2.ensures.ok in
    let left = written_over c.truncate.new.self.items c.copy_from_slice.new.self _ (c.copy_from_slice.ensures.len ∙ ap length c.as_mut_slice.ensures.value) c.copy_from_slice.ensures.after in
    let v = shown c.packet.result in
    let bodies = c.split_at-2.result.0.now in
    let first : v ≡ packet_with s.plan false s.sent (s.unsent ++ c.split_at.result.0.now) = c.packet.ensures ∙ ap (packet_with s.plan false s.sent) items in
    let long : length v.body ≡ L = ap (λ w. length w.body) first ∙ p.first_long in
    let size : size_of v ≡ 32 + L = size_with s.plan false s.sent v _ first st.ticket.id_size ∙ ap (λ i. 32 + i) p.first_long in
    let count : run_length v bodies ≡ n = ap (λ i. length bodies / i + 1) long ∙ p.bodies_count in
    let run = run_sure s.plan s.sent n v _ bodies (s.unsent ++ q) first p.first_long p.bodies_are in
    let g : Moved s q n _ = record { same_plan = refl; number_is = p.many; sent_is = refl; unsent_is = left ∙ p.left_is } in
    record {
      same_plan = refl;
      buffer_fits = omega arith;
      grown = λ m k. grown s m (omega arith) k q n _ g was _
          (message_fits s m (omega arith) k q c.room.result c.room.ensures c.if-portion-room.false)
          (c.put_run.ensures
          ∙ (ap (λ i. bytes_of (run_of v bodies i) ++ drop (i * size_of v) was) count
          ∙ (ap (λ y. bytes_of y ++ drop (n * size_of v) was) run ∙ ap (λ i. bytes_of (map (sure_packet s.plan s.sent (s.unsent ++ q)) (range_with_len 0 n)) ++ drop (n * i) was) size)));
    }
