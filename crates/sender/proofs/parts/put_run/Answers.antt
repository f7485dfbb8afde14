use Rattle.std.proofs.Common.{◌≡◌, ◌+◌, ◌*◌, ◌/◌, ◌++◌, length, drop, sym, ap, ◌∙◌, arith, rules}
use Rattle.std.proofs.lemmas.List.{length-drop}
use Rattle.std.specs.Iterator.Adapters.{enumerate_count}
use Rattle.packet.specs.Packets.{shown, size_of}
use Rattle.sender.specs.Packets.{bytes_of}
use Rattle.sender.specs.Parts.{run_of}
use Rattle.sender.proofs.Buffers.{next_packet, run_first, run_next}
use Rattle.std.proofs.lemmas.Grind.{common_steps}
use Rattle.std.proofs.Math.Nat.{div-eq_of_lt-le}
use Rattle.sender.proofs.parts.put_run.Goals as goal

pub loop-j-init : goal.loop-j-init
loop-j-init c =
    let v = shown c.args.first.now in
    let rest = c.args.rest.now in
    let was = c.args.buffer.now in
    let it = c.into_iter-j-iterator.result in
    let z : 0 ≡ enumerate_count it = sym (ap enumerate_count c.into_iter-j-iterator.ensures.into_iter_gives ∙ c.enumerate-j-items.ensures.count) in
    let m : enumerate_count it * length v.body ≡ 0 = ap (λ k. k * length v.body) (sym z) ∙ omega arith in
    record {
      can_next = search rules;
      is_finite = search rules;
      one_size = search rules;
      within = omega arith;
      left = search rules ∙ ap (λ k. drop k rest) (sym m);
      written = run_first v rest was _ _ c.put_packet-size.ensures.size c.put_packet-size.ensures.after ∙ ap (λ k. bytes_of (run_of v rest (k + 1)) ++ drop ((k + 1) * size_of v) was) z;
    }

pub put_packet-requires-clause-range : goal.put_packet-requires-clause-range
put_packet-requires-clause-range c =
    let v = shown c.args.first.now in
    let s = c.in-Some.ensures.steps in
    let i = c.loop-j.invariant in
    let n = next_packet v c.args.rest.now _ _ c.in-Some.body.now _ c.in-Some.j _ c.requires.range.some_body i.within i.left s.0.1.0 s.0.1.1 i.one_size s.1 in
    grind (arith, common_steps)

pub put_packet-requires-clause-fits : goal.put_packet-requires-clause-fits
put_packet-requires-clause-fits c =
    let v = shown c.args.first.now in
    let s = c.in-Some.ensures.steps in
    let i = c.loop-j.invariant in
    let n = next_packet v c.args.rest.now _ _ c.in-Some.body.now _ c.in-Some.j _ c.requires.range.some_body i.within i.left s.0.1.0 s.0.1.1 i.one_size s.1 in
    let at = ap (λ k. (c.in-Some.j + 1) * k) c.put_packet-size.ensures.size in
    omega arith

pub overflow_mul-index : goal.overflow_mul-index
overflow_mul-index c =
    let v = shown c.args.first.now in
    let s = c.in-Some.ensures.steps in
    let i = c.loop-j.invariant in
    let n = next_packet v c.args.rest.now _ _ c.in-Some.body.now _ c.in-Some.j _ c.requires.range.some_body i.within i.left s.0.1.0 s.0.1.1 i.one_size s.1 in
    let at = ap (λ k. (c.in-Some.j + 1) * k) c.put_packet-size.ensures.size in
    search rules

pub loop-j-preserved : goal.loop-j-preserved
loop-j-preserved c =
    let v = shown c.args.first.now in
    let rest = c.args.rest.now in
    let was = c.args.buffer.now in
    let s = c.in-Some.ensures.steps in
    let i = c.loop-j.invariant in
    let n = next_packet v rest _ _ c.in-Some.body.now _ c.in-Some.j _ c.requires.range.some_body i.within i.left s.0.1.0 s.0.1.1 i.one_size s.1 in
    let size : c.put_packet.result ≡ size_of v = c.put_packet.ensures.size ∙ omega arith in
    let k : c.in-Some.j + 1 ≡ enumerate_count c.next.new.self = omega arith in
    record {
      can_next = search rules;
      is_finite = search rules;
      one_size = s.0.0 ∙ i.one_size;
      within = let m = ap (λ m. m * length v.body) k in let w = n.within in omega arith;
      left = n.left_is ∙ ap (λ m. drop (m * length v.body) rest) k;
      written = run_next v _ rest was _ _ (c.in-Some.j + 1) _ _ (ap (λ m. (c.in-Some.j + 1) * m) c.put_packet-size.ensures.size) size n.within n.packet_is (i.written ∙ ap (λ m. bytes_of (run_of v rest (m + 1)) ++ drop ((m + 1) * size_of v) was) (sym s.1)) c.put_packet.ensures.after ∙ ap (λ m. bytes_of (run_of v rest (m + 1)) ++ drop ((m + 1) * size_of v) was) k;
    }

pub returns : goal.returns
returns c =
    let v = shown c.args.first.now in
    let rest = c.args.rest.now in
    let L = length v.body in
    let s = c.in-None.ensures.steps in
    let i = c.loop-j.invariant in
    let k = enumerate_count c.loop-j.j-iterator in
    let l = ap length i.left ∙ length-drop (k * L) rest in
    let short = s.0.1.0 in
    let n : length rest / L ≡ k = div-eq_of_lt-le L i.within (omega arith) in
    i.written ∙ ap (λ m. bytes_of (run_of v rest (m + 1)) ++ drop ((m + 1) * size_of v) c.args.buffer.now) (sym n)
