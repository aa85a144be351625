-- `least_form::try_period` meets its contract: where all cells are repeated, each is regular, so a witness that is not decides;
-- else the pass over all does.
-- Assumes nothing.
use mathlib.Core.Path.{◌≡◌, refl}
use mathlib.Core.Logic.{◌↔◌, ⊎_elim}
use mathlib.Core.Bool.{Bool, true, false}
use Prim.Native.Nat.{ℕ, ◌+◌}
use lib.ListN.{length}
use mir.Facts.{to_z-of_z}
use mir.Syntax.{w32}
use mir.Val.{of_z, to_z}
use Rattle.granules.proofs.Tests.{true≢false, eqb-iff}
use Rattle.least_form.specs.Cells.{RepeatsWithin, RegularAt}
use Rattle.least_form.proofs.Cells.{first-end, all-regular}
use Rattle.least_form.proofs.try_period.Goals as goal
use Rattle.least_form.proofs.try_period.Goals.{After-is_regular, Start}

-- a witness that is not regular decides
decides : (s : Start) (w : ℕ) (b : Bool) → let a = s.args in
    (b ≡ true) ↔ RegularAt a.cells.now a.q (to_z w32 (of_z w32 a.rise)) w
    → b ≡ false → ¬ RepeatsWithin a.cells.now a.q a.rise
decides s w b test e h =
    let a = s.args in
    true≢false (test.1 (rw (to_z-of_z s.ranges.rise) (all-regular a.cells.now a.q a.rise w h))) e

pub returns-then-not-is_regular : goal.returns-then-not-is_regular
returns-then-not-is_regular c =
    let a = (goal.at.returns-then-not-is_regular c).After-is_regular in
    let s = (goal.at.After-is_regular a).Start in (
      λ e. absurd (true≢false e refl),
      λ h. absurd
          (⊎_elim
          (λ w. decides s s.args.first a.is_regular.result a.is_regular.ensures w.if-not-is_regular.true h)
          (λ w. decides s s.args.second w.is_regular-else-not-is_regular.result w.is_regular-else-not-is_regular.ensures w.if-not-is_regular-2.true h)
          c.then-not-is_regular.branch-raw),
    )

pub returns : goal.returns
returns c =
    let s = (goal.at.returns c).Start in
    let l = s.args.cells.now in
    let q = s.args.q in
    let t = c.first_other-t.result in
    let test = eqb-iff (t + q) (length l) in
    let end = first-end l q s.args.rise t s.requires.q_in_bounds (rw (to_z-of_z s.ranges.rise) at c.first_other-t.ensures) in
    (λ e. end.0 (test.0 e), λ h. test.1 (end.1 h))
