use Rattle.std.proofs.Common.{◌∙◌, arith}
use Rattle.gsm_alphabet.specs.Alphabet.{extended_character, extension}
use Rattle.gsm_alphabet.proofs.AlphabetLemmas.{extended_plain}
use Rattle.gsm_alphabet.proofs.alphabet.extended_character.Goals as goal

pub returns-in-10 : goal.returns-in-10
unfolding extended_character extension
returns-in-10 c = rw c.in-10.is

pub returns-in-20 : goal.returns-in-20
unfolding extended_character extension
returns-in-20 c = rw c.in-20.is

pub returns-in-40 : goal.returns-in-40
unfolding extended_character extension
returns-in-40 c = rw c.in-40.is

pub returns-in-41 : goal.returns-in-41
unfolding extended_character extension
returns-in-41 c = rw c.in-41.is

pub returns-in-47 : goal.returns-in-47
unfolding extended_character extension
returns-in-47 c = rw c.in-47.is

pub returns-in-60 : goal.returns-in-60
unfolding extended_character extension
returns-in-60 c = rw c.in-60.is

pub returns-in-61 : goal.returns-in-61
unfolding extended_character extension
returns-in-61 c = rw c.in-61.is

pub returns-in-62 : goal.returns-in-62
unfolding extended_character extension
returns-in-62 c = rw c.in-62.is

pub returns-in-64 : goal.returns-in-64
unfolding extended_character extension
returns-in-64 c = rw c.in-64.is

pub returns-in-101 : goal.returns-in-101
unfolding extended_character extension
returns-in-101 c = rw c.in-101.is

pub returns-in_default : goal.returns-in_default
returns-in_default c =
    c.plain_character.ensures
    ∙ extended_plain c.args.septet (λ e. omega (arith, c.in_default)) (λ e. omega (arith, c.in_default)) (λ e. omega (arith, c.in_default))
    (λ e. omega (arith, c.in_default)) (λ e. omega (arith, c.in_default)) (λ e. omega (arith, c.in_default)) (λ e. omega (arith, c.in_default))
    (λ e. omega (arith, c.in_default)) (λ e. omega (arith, c.in_default)) (λ e. omega (arith, c.in_default))
