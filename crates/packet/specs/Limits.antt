-- The numbers of the packet's format.
use Rattle.std.specs.Prelude.{ℕ, List, [], ◌∷◌}

-- MIOP
abbrev pub magic_bytes : List ℕ
magic_bytes = 0x4D ∷ 0x49 ∷ 0x4F ∷ 0x50 ∷ []

-- version 1.0
abbrev pub version_byte : ℕ
version_byte = 16

-- the length of the header before the id; a shorter datagram has no header
abbrev pub header_length : ℕ
header_length = 20

abbrev pub max_datagram : ℕ
max_datagram = 1472

abbrev pub max_id : ℕ
max_id = 252
