-- The numbers of the sender.
use Rattle.std.specs.Prelude.{ℕ, ◌^◌}
use Rattle.packet.specs.Packets.{body_start}

-- a body length is from the least to the most, in steps
abbrev pub least_length : ℕ
least_length = 16

abbrev pub most_length : ℕ
most_length = 1440

abbrev pub length_step : ℕ
length_step = 8

-- the length of an id that is issued
abbrev pub id_length : ℕ
id_length = 12

-- how many nodes there are
abbrev pub node_count : ℕ
node_count = 2 ^ 64

-- how many serials there are, the first of them 0
abbrev pub serial_count : ℕ
serial_count = 2 ^ 32

-- where the body begins in a packet with such an id
abbrev pub front_length : ℕ
front_length = body_start id_length
