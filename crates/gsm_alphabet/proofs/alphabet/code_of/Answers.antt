use Rattle.std.proofs.Common.{arith, inl, inr}
use Rattle.gsm_alphabet.proofs.AlphabetLemmas.{latin_code, greek_code, euro_code, unknown_code}
use Rattle.gsm_alphabet.proofs.alphabet.code_of.Goals as goal

pub returns-then-number-lt256 : goal.returns-then-number-lt256
returns-then-number-lt256 c = latin_code c.args.c (omega arith)

pub returns-then-number-lt912 : goal.returns-then-number-lt912
returns-then-number-lt912 c = unknown_code c.args.c (omega arith) (inl (omega arith)) (λ e. omega arith)

pub returns-then-number-lt944 : goal.returns-then-number-lt944
returns-then-number-lt944 c = greek_code c.args.c (omega arith) (omega arith)

pub returns-then-number-eq8364 : goal.returns-then-number-eq8364
returns-then-number-eq8364 c = euro_code c.args.c (omega arith)

pub returns-else-number-eq8364 : goal.returns-else-number-eq8364
returns-else-number-eq8364 c = unknown_code c.args.c (omega arith) (inr (omega arith)) (λ e. omega arith)
