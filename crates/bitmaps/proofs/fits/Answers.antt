-- `bitmaps::fits` meets its contract: the length, the bits behind the cells, and a set cell.
-- Assumes nothing.
use mathlib.Core.Path.{◌≡◌, sym, ap, ◌∙◌}
use Prim.Native.Nat.{ℕ, ◌/◌, ◌%◌, ◌^◌}
use native.Mathlib.Omega.{arith}
use borrow.Author.Tests.{eq-eqb, ne_eqb}
use lib.ListN.{get_or}
use Rattle.bitmaps.specs.Cells.{fitting}
use Rattle.bitmaps.proofs.Fitting.{Filled, by-words}
use Rattle.bitmaps.proofs.fits.Goals as goal
use Rattle.bitmaps.proofs.fits.Goals.{After-word_at, Else-behind-ne0, Start}

pub returns-then-words-n : goal.returns-then-words-n
unfolding fitting
returns-then-words-n c = simp (ne_eqb _ _ c.if-words-n.true)

-- the word behind the cells, shifted
behind-is : (c : After-word_at) → let s = (goal.at.After-word_at c).Start in c.word_at.result / 2 ^ (s.args.n % 64) ≡ get_or s.args.words.now (s.args.n / 64) 0 / 2 ^ (s.args.n % 64)
behind-is c = ap (λ (w : ℕ). w / 2 ^ (c.args.n % 64)) c.word_at.ensures

pub returns-then-behind-ne0 : goal.returns-then-behind-ne0
unfolding fitting
returns-then-behind-ne0 c =
    let a = (goal.at.returns-then-behind-ne0 c).After-word_at in
    simp (eq-eqb _ _ a.if-words-n.false, ne_eqb _ 0 (λ e. c.if-behind-ne0.true (behind-is a ∙ e)))

-- what the two tests leave
passed : (c : Else-behind-ne0) → let s = (goal.at.Else-behind-ne0 c).Start in Filled s.args.n s.args.words.now
passed c = record { whole = c.if-words-n.false; behind = sym (behind-is (goal.at.Else-behind-ne0 c).After-word_at) ∙ c.if-behind-ne0.false }

pub returns : goal.returns
returns c =
    let d = (goal.at.returns c).Else-behind-ne0 in
    let s = (goal.at.Else-behind-ne0 d).Start in
    by-words s.args.n s.args.words.now (passed d) (λ i. omega (arith, d.shared_slice_known-1.given i)) c.any_set.result c.any_set.ensures
