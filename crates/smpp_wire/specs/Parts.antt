-- The parts that bodies are read and written in. No public clause cites these.
use Rattle.std.specs.Prelude.{ℕ, List, [], ◌∷◌, ◌++◌}
use Rattle.exact_octets.specs.Spelling.{short}
use Rattle.smpp_wire.specs.declared.party.Party.{Party}
use Rattle.smpp_wire.specs.declared.body.bind.System.{System}
use Rattle.smpp_wire.specs.declared.body.message.Contents.{Contents}
use Rattle.smpp_wire.specs.declared.body.message.Closing.{Closing}
use Rattle.smpp_wire.specs.declared.body.message.Delivery.{Delivery}
use Rattle.smpp_wire.specs.Grammar.{ended, party}
use Rattle.smpp_wire.specs.Reading as read

-- ---- as they are read

abbrev pub party_tuple : Party → (ℕ × ℕ) × List ℕ
party_tuple p = ((p.ton, p.npi), p.address.now)

abbrev pub system_tuple : System → List ℕ × ((ℕ × (ℕ × ℕ)) × List ℕ)
system_tuple s = (s.system_type.now, ((s.interface_version, (s.addr_ton, s.addr_npi)), s.address_range.now))

abbrev pub contents_tuple : Contents → read.Contents
contents_tuple c = ((c.registered_delivery, (c.replace_if_present_flag, (c.data_coding, c.sm_default_msg_id))), (c.short_message.now, c.tlvs.now))

abbrev pub closing_tuple : Closing → read.Closing
closing_tuple c = (c.schedule_delivery_time.now, (c.validity_period.now, contents_tuple c.contents))

abbrev pub delivery_tuple : Delivery → read.Delivery
delivery_tuple d = (party_tuple d.destination, ((d.esm_class, (d.protocol_id, d.priority_flag)), closing_tuple d.closing))

-- ---- as they are written

abbrev pub system_octets : System → List ℕ
system_octets s = ended s.system_type.now ++ ((s.interface_version ∷ s.addr_ton ∷ s.addr_npi ∷ []) ++ ended s.address_range.now)

abbrev pub contents_octets : Contents → List ℕ
contents_octets c = (c.registered_delivery ∷ c.replace_if_present_flag ∷ c.data_coding ∷ c.sm_default_msg_id ∷ []) ++ (short c.short_message.now ++ c.tlvs.now)

abbrev pub closing_octets : Closing → List ℕ
closing_octets c = ended c.schedule_delivery_time.now ++ (ended c.validity_period.now ++ contents_octets c.contents)

abbrev pub delivery_octets : Delivery → List ℕ
delivery_octets d =
    party d.destination.ton d.destination.npi d.destination.address.now ++ ((d.esm_class ∷ d.protocol_id ∷ d.priority_flag ∷ []) ++ closing_octets d.closing)
