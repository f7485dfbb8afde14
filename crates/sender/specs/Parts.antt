-- How a run of packets is made from one body and the bytes that follow it.
use Rattle.std.specs.Prelude.{ℕ, ◌+◌, ◌*◌, ◌/◌, List, ◌++◌, map, length, take, drop}
use Rattle.std.specs.List.{range_with_len}
use Rattle.packet.specs.Packets.{PacketValue}

-- the packet j after v: the next number, and the j-th cut after v's body, each as long as that
unfoldable pub packet_after : PacketValue → List ℕ → ℕ → PacketValue
packet_after v rest j = record {
  order = v.order;
  stop = v.stop;
  number = v.number + j;
  count = v.count;
  id = v.id;
  body = take (length v.body) (drop (j * length v.body) (v.body ++ rest));
}

-- v and the packets after it, n in all
abbrev pub run_of : PacketValue → List ℕ → ℕ → List PacketValue
run_of v rest n = map (packet_after v rest) (range_with_len 0 n)

-- how many packets v and the whole cuts of `rest` make
abbrev pub run_length : PacketValue → List ℕ → ℕ
run_length v rest = length rest / length v.body + 1
