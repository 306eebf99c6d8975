use Rattle.isdb_text.proofs.text.+decimal.Given as goal

-- the number falls
abbrev pub decreases-decimal : goal.decreases-decimal
decreases-decimal l = l.n
