-- The ids of commands (SMPP 3.4, 5.1.2.1).
use Rattle.std.specs.Prelude.{ℕ}

abbrev pub generic_nack : ℕ
generic_nack = 0x8000_0000

abbrev pub submit_sm : ℕ
submit_sm = 0x0000_0004

abbrev pub submit_sm_resp : ℕ
submit_sm_resp = 0x8000_0004

abbrev pub deliver_sm : ℕ
deliver_sm = 0x0000_0005

abbrev pub deliver_sm_resp : ℕ
deliver_sm_resp = 0x8000_0005

abbrev pub unbind : ℕ
unbind = 0x0000_0006

abbrev pub unbind_resp : ℕ
unbind_resp = 0x8000_0006

abbrev pub bind_transceiver : ℕ
bind_transceiver = 0x0000_0009

abbrev pub bind_transceiver_resp : ℕ
bind_transceiver_resp = 0x8000_0009

abbrev pub enquire_link : ℕ
enquire_link = 0x0000_0015

abbrev pub enquire_link_resp : ℕ
enquire_link_resp = 0x8000_0015
