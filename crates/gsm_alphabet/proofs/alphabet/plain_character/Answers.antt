use Rattle.std.proofs.Common.{refl}
use Rattle.gsm_alphabet.specs.Alphabet.{plain_character, default_alphabet}
use Rattle.gsm_alphabet.proofs.alphabet.plain_character.Goals as goal

pub returns : goal.returns
unfolding plain_character default_alphabet
returns c = refl
