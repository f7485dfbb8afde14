use Rattle.std.proofs.Common.{◌≡◌, ◌+◌, ◌*◌, ◌≤◌, ◌++◌, length, drop}
use Rattle.std.specs.Iterator.Adapters.{enumerate_count, enumerate_source}
use Rattle.std.specs.Slice.Iter.{chunks_exact_rest, chunks_exact_size}
use Rattle.packet.specs.Packets.{shown, size_of}
use Rattle.sender.specs.Packets.{bytes_of}
use Rattle.sender.specs.Parts.{run_of}
use Rattle.sender.proofs.parts.put_run.Given as goal

abbrev pub invariant-loop-j : goal.invariant-loop-j
invariant-loop-j l = record {
  can_next : (goal.iterator-loop-j).can_next l.j-iterator;
  is_finite : (goal.iterator-loop-j).is_finite l.j-iterator;
  one_size : chunks_exact_size (enumerate_source l.j-iterator) ≡ length l.first.body.now;
  within : enumerate_count l.j-iterator * length l.first.body.now ≤ length l.rest;
  left : chunks_exact_rest (enumerate_source l.j-iterator) ≡ drop (enumerate_count l.j-iterator * length l.first.body.now) l.rest;
  written : l.buffer ≡ bytes_of (run_of (shown l.first) l.rest (enumerate_count l.j-iterator + 1)) ++ drop ((enumerate_count l.j-iterator + 1) * size_of (shown l.first)) l.fn.buffer;
}
