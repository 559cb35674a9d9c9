use Rattle.std.proofs.Common.{◌≡◌, drop}
use Rattle.std.specs.List.{list_all}
use Rattle.gsm_alphabet.specs.Alphabet.{text_of}
use Rattle.gsm_alphabet.proofs.AlphabetLemmas.{text_behind}
use Rattle.config_values.specs.Values.{is_text_octet}
use Rattle.route_rules.proofs.cimd2.is_plain_text.Given as goal

-- the text is plain where what is left of it is
abbrev pub invariant-loop-septet : goal.invariant-loop-septet
invariant-loop-septet l = list_all is_text_octet (text_of l.septets) ≡ list_all is_text_octet (text_behind l.behind (drop l.septet-index l.septets))
