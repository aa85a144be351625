-- `fill_pointwise::piecewise::chosen` meets its contract.
-- Assumes nothing.
use borrow.Author.Rules.{sfits_of}
use mathlib.Core.Path.{◌≡◌, ◌∙◌, ap}
use mathlib.Core.Logic.{⊎_elim}
use mathlib.Core.Bool.{Bool, true, false, cond}
use lib.IntN.{ℤ}
use mir.Facts.{to_z-of_z}
use mir.Syntax.{w32}
use Rattle.calendar.specs.Meaning.{is_empty, empty}
use Rattle.cursors.proofs.Cells.{bits-empty, bits_full}
use Rattle.fill_pointwise.specs.Pieces.{chosen_cell}
use Rattle.fill_pointwise.proofs.piecewise.chosen.Goals as goal
use Rattle.fill_pointwise.proofs.piecewise.chosen.Goals.{After-only_if-bare, After-only_if-both, After-only_if-other, Start}

-- what is chosen, by the two tests
module _ (f s e : Bool) (x y : ℤ) where
  by-empty : is_empty x ≡ true → cond e y empty ≡ chosen_cell f s e x y
  by-empty p = rw p

  by_bare : is_empty x ≡ false → is_empty y ≡ true → cond f x empty ≡ chosen_cell f s e x y
  by_bare p q = rw (p, q)

  by_both : is_empty x ≡ false → is_empty y ≡ false → cond s x empty ≡ chosen_cell f s e x y
  by_both p q = rw (p, q)

pub returns-then-x-eq-EMPTY : goal.returns-then-x-eq-EMPTY
returns-then-x-eq-EMPTY c =
    let k = (goal.at.returns-then-x-eq-EMPTY c).After-only_if-other in
    let s = (goal.at.After-only_if-other k).Start in
    let a = s.args in
    to_z-of_z {w = w32} (sfits_of k.only_if-other.type_inv)
    ∙ k.only_if-other.ensures
    ∙ ap (λ (z : ℤ). cond a.second z empty) (to_z-of_z s.ranges.y)
    ∙ by-empty a.first a.shared a.second a.x a.y (bits-empty a.x s.ranges.x c.if-x-eq-EMPTY.true)

pub returns-else-x-eq-EMPTY : goal.returns-else-x-eq-EMPTY
returns-else-x-eq-EMPTY c =
    let k = (goal.at.returns-else-x-eq-EMPTY c).After-only_if-other in
    let h = (goal.at.After-only_if-other k).After-only_if-both in
    let g = (goal.at.After-only_if-both h).After-only_if-bare in
    let s = (goal.at.After-only_if-bare g).Start in
    let a = s.args in
    let full = bits_full a.x c.if-x-eq-EMPTY.false in
    ⊎_elim
    (λ w. w.own-is
    ∙ to_z-of_z {w = w32} (sfits_of g.only_if-bare.type_inv)
    ∙ g.only_if-bare.ensures
    ∙ ap (λ (z : ℤ). cond a.first z empty) (to_z-of_z s.ranges.x)
    ∙ by_bare a.first a.shared a.second a.x a.y full (bits-empty a.y s.ranges.y w.if-y-eq-EMPTY.true))
    (λ w. w.own-is
    ∙ to_z-of_z {w = w32} (sfits_of h.only_if-both.type_inv)
    ∙ h.only_if-both.ensures
    ∙ ap (λ (z : ℤ). cond a.shared z empty) (to_z-of_z s.ranges.x)
    ∙ by_both a.first a.shared a.second a.x a.y full (bits_full a.y w.if-y-eq-EMPTY.false))
    c.if-y-eq-EMPTY.branch-raw
