-- Limits that several layers share.
use Rattle.std.specs.Prelude.{ℕ}

-- the most packets that one message has; packet numbers go from 0 to one less
abbrev pub max_packets : ℕ
max_packets = 64

-- the number of a receiver's slots; slots go from 0 to one less
abbrev pub max_slots : ℕ
max_slots = 8

-- the longest piece, which is the body of one packet
abbrev pub max_piece : ℕ
max_piece = 1448
