use Rattle.exact_text.proofs.decimal.+decimal_at.Given as goal

abbrev pub decreases-decimal_at : goal.decreases-decimal_at
decreases-decimal_at l = l.width
