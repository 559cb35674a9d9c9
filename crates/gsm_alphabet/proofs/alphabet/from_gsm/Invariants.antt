use Rattle.std.proofs.Common.{◌≡◌, ◌++◌, drop, string_bytes, encode_utf8_all}
use Rattle.gsm_alphabet.specs.Alphabet.{text_of}
use Rattle.gsm_alphabet.proofs.AlphabetLemmas.{text_behind}
use Rattle.gsm_alphabet.proofs.alphabet.from_gsm.Given as goal

abbrev pub invariant-loop-septet : goal.invariant-loop-septet
invariant-loop-septet l = string_bytes l.text ++ encode_utf8_all (text_behind l.behind (drop l.septet-index l.septets)) ≡ encode_utf8_all (text_of l.septets)
