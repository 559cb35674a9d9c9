use Rattle.std.proofs.Common.{◌≡◌, ◌+◌, ◌≤◌, drop, length, if◌then◌else◌}
use Rattle.gsm_alphabet.specs.Alphabet.{text_of}
use Rattle.gsm_alphabet.proofs.AlphabetLemmas.{text_behind}
use Rattle.route_rules.proofs.cimd2.characters_len.Given as goal

-- the count so far, and the characters that are left, are all; and no more characters than septets were counted, with the escape
abbrev pub invariant-loop-septet : goal.invariant-loop-septet
invariant-loop-septet l =
    (length (text_of l.septets) ≡ l.count + length (text_behind l.behind (drop l.septet-index l.septets))) ×
    (l.count + (if l.behind then 1 else 0) ≤ l.septet-index)
