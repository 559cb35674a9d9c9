-- What a centre sends are commands of SMPP.
use Rattle.std.proofs.Common.{◌≢◌, ℕ, ◌<◌, ◌≤◌, ◌^◌, List, [], length, refl, arith, length-append, inl}
use Rattle.std.proofs.lemmas.List.Elements.{All-nil}
use Rattle.smpp_wire.specs.Command.{Message}
use Rattle.smpp_wire.specs.Grammar.{IsText, IsMessage, IsCommand}
use Rattle.fake_centre.specs.Saying.{command_with, delivery_of}
use Rattle.fake_centre.proofs.Commands.{small}

delivery_is : (source_ton source_npi : ℕ) (source : List ℕ) (destination_ton destination_npi : ℕ) (destination : List ℕ) (esm_class data_coding : ℕ) (octets : List ℕ)
    → IsText 21 source → IsText 21 destination → length octets ≤ 254 → IsMessage (delivery_of source_ton source_npi source destination_ton destination_npi destination esm_class data_coding octets)
delivery_is source_ton source_npi source destination_ton destination_npi destination esm_class data_coding octets from to short = record {
  service_type = (All-nil (λ octet. octet ≢ 0), omega arith);
  source = from;
  destination = to;
  schedule_delivery_time = (All-nil (λ octet. octet ≢ 0), inl refl);
  validity_period = (All-nil (λ octet. octet ≢ 0), inl refl);
  short_message = short;
  tlvs = ([], tt, refl);
}

-- a deliver_sm without optional parameters
pub delivery_good : (source_ton source_npi : ℕ) (source : List ℕ) (destination_ton destination_npi : ℕ) (destination : List ℕ) (esm_class data_coding : ℕ) (octets : List ℕ) (sequence : ℕ)
    → IsText 21 source → IsText 21 destination → length octets ≤ 254 → sequence < 2 ^ 32
    → IsCommand (command_with 5 0 sequence (Message (delivery_of source_ton source_npi source destination_ton destination_npi destination esm_class data_coding octets)))
delivery_good source_ton source_npi source destination_ton destination_npi destination esm_class data_coding octets sequence from to short fits =
    let a = from.1 in
    let b = to.1 in
    small 5 0 sequence (Message (delivery_of source_ton source_npi source destination_ton destination_npi destination esm_class data_coding octets)) (omega arith) (omega arith) fits
    (delivery_is source_ton source_npi source destination_ton destination_npi destination esm_class data_coding octets from to short)
    (simp length-append (omega (arith, a, b, short)))
