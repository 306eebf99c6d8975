-- Laws of guards: from what calls answered to what a guard says, and from its answer back to its tests. Assumes nothing.
use Rattle.std.proofs.Common.{◌≡◌, ℕ, suc, Bool, true, false, cond, not, sym, refl, ◌∙◌, arith}
use borrow.Author.Tests.{not-true, not-false}

-- what a branch on the answer of a call tells of the test that the call makes
pub no : {r b : Bool} → r ≡ b → not r ≡ true → b ≡ false
no {r} e t = sym e ∙ not-true r t

pub yes : {r b : Bool} → r ≡ b → not r ≡ false → b ≡ true
yes {r} e t = sym e ∙ not-false r t

-- a test that must hold before the rest is asked
pub both : {r a q b : Bool} → r ≡ a → r ≡ true → q ≡ b → q ≡ cond a b false
both e t p = rw (sym e ∙ t) p

pub not_both : {r a : Bool} (b : Bool) → r ≡ a → r ≡ false → false ≡ cond a b false
not_both b e t = rw (sym e ∙ t)

pub guard_holds : {r a q b : Bool} → r ≡ a → not r ≡ false → q ≡ b → q ≡ cond (not a) false b
guard_holds e t p = rw (yes e t) p

pub guard_fails : {r a : Bool} (b : Bool) → r ≡ a → not r ≡ true → false ≡ cond (not a) false b
guard_fails b e t = rw (no e t)

-- and back: what an answer yes says of the test and of the rest
pub was_both : (a b : Bool) → cond a b false ≡ true → (a ≡ true) × (b ≡ true)
was_both true b e = (refl, e)
was_both false b e = (e, cc)

pub was_left : (a b : Bool) → cond a false b ≡ true → (a ≡ false) × (b ≡ true)
was_left true b e = (sym e, cc)
was_left false b e = (refl, e)

pub was_guarded : (a b : Bool) → cond (not a) false b ≡ true → (a ≡ true) × (b ≡ true)
was_guarded true b e = (refl, e)
was_guarded false b e = (e, cc)

-- so of questions by number, where 0 says that none was answered no
pub was_asked : (a : Bool) (k n : ℕ) → cond (not a) (suc k) n ≡ 0 → (a ≡ true) × (n ≡ 0)
was_asked true k n e = (refl, e)
was_asked false k n e = absurd (omega arith)
