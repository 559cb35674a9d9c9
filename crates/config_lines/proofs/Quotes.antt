-- A text in quotation marks, of which a front was read.
use Rattle.std.proofs.Common.{◌≡◌, ◌∙◌, refl, sym, ap, subst, List, [], ◌∷◌, ◌++◌, ℕ, suc, ◌+◌, ◌<◌, Bool, false, ◌==◌, length, drop, get_or, drop-cons, add-one, Option, Some, None}
use Rattle.std.proofs.lemmas.List.{append_assoc}
use Rattle.config_lines.specs.Line.{in_front, quoted}

-- a text behind octets that were read
abbrev pub behind_read : List ℕ → Option (List ℕ) → Option (List ℕ)
behind_read octets (Some text) = Some (octets ++ text)
behind_read octets None = None

-- one octet more was read
pub one_read : (octets : List ℕ) (octet : ℕ) (text : Option (List ℕ)) → behind_read (octets ++ octet ∷ []) text ≡ behind_read octets (in_front (Some octet) text)
one_read octets octet (Some text) = ap Some (append_assoc octets (octet ∷ []) text)
one_read octets octet None = refl

-- an octet that is no mark and no backslash stands for itself
pub plain_read : (octets : List ℕ) (octet : ℕ) (rest : List ℕ) → (octet == 34) ≡ false → (octet == 92) ≡ false →
    behind_read (octets ++ octet ∷ []) (quoted false rest) ≡ behind_read octets (quoted false (octet ∷ rest))
plain_read octets octet rest no_mark no_backslash = rw (no_mark, no_backslash) (one_read octets octet (quoted false rest))

module _ (octets text : List ℕ) (at : ℕ) where
  -- a place more was read, at which such an octet stands
  pub plain_at : (escaping : Bool) → at < length text → escaping ≡ false → (get_or text at 0 == 34) ≡ false → (get_or text at 0 == 92) ≡ false →
      behind_read octets (quoted escaping (drop at text)) ≡ quoted false text →
      behind_read (octets ++ get_or text at 0 ∷ []) (quoted escaping (drop (at + 1) text)) ≡ quoted false text
  plain_at escaping within plain no_mark no_backslash so_far =
      rw (plain, add-one) (plain_read octets (get_or text at 0) (drop (suc at) text) no_mark no_backslash
      ∙ (ap (λ rest. behind_read octets (quoted false rest)) (sym (drop-cons text at 0 within)) ∙ subst (λ e. behind_read octets (quoted e (drop at text)) ≡ quoted false text) plain so_far))
