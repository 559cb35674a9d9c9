-- The numbers of a frame (SMPP 3.4, 3.2), and the codes of one that is bad.
use Rattle.std.specs.Prelude.{ℕ}

-- the octets of a header: four numbers of four octets (SMPP 3.4, 3.2)
abbrev pub header_octets : ℕ
header_octets = 16

-- the most octets of a frame; this limit is the project's own
abbrev pub most_frame : ℕ
most_frame = 65536

-- version 3.4 (SMPP 3.4, 5.2.4)
abbrev pub version_3_4 : ℕ
version_3_4 = 0x34

-- a body that breaks its row: ESME_RINVMSGLEN (SMPP 3.4, 5.1.3)
abbrev pub bad_body : ℕ
bad_body = 1

-- a length that no frame has: ESME_RINVCMDLEN (SMPP 3.4, 5.1.3)
abbrev pub bad_length : ℕ
bad_length = 2
