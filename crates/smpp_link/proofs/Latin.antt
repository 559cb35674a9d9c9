-- Octets are the characters of ISO-8859-1.
use Rattle.std.proofs.Common.{◌≡◌, ℕ, ◌<◌, true, List, [], ◌∷◌, chars, encode_utf8_all, refl, arith}
use Rattle.std.proofs.Math.Utf8.{scalars}
use lib.Utf8.{low_scalar}
use Rattle.std.proofs.lemmas.Str.{chars-encodes}
use Rattle.exact_octets.proofs.Readers.{AreOctets, AreOctets-rest}

octets_scalar : (octets : List ℕ) → AreOctets octets → scalars octets ≡ true
octets_scalar [] fits = refl
octets_scalar (x ∷ octets) fits =
    let small : x < 256 = fits 0 in
    rw (low_scalar x (omega (arith, small))) (octets_scalar octets (AreOctets-rest (x ∷ []) octets fits))

pub latin_characters : (octets : List ℕ) → AreOctets octets → chars (encode_utf8_all octets) ≡ octets
latin_characters octets fits = chars-encodes octets (octets_scalar octets fits)
