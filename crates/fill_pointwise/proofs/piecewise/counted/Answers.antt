-- `fill_pointwise::piecewise::counted` meets its contract.
-- Assumes nothing.
use mathlib.Core.Path.{◌≡◌, sym, ◌∙◌, ap}
use mathlib.Core.Logic.{⊎_elim}
use mathlib.Core.Option.{Option}
use mathlib.Core.Bool.{Bool, cond}
use Prim.Native.Nat.{ℕ}
use lib.IntN.{ℤ}
use mir.Facts.{to_z-of_z}
use mir.Syntax.{w32}
use mir.Val.{of_z}
use Rattle.calendar.specs.Meaning.{label_of}
use Rattle.calendar.specs.Lists.{is_some}
use Rattle.cursors.proofs.Cells.{label-empty, label-full, empty-iff, bits-empty}
use Rattle.fill_pointwise.specs.Pieces.{is_outside}
use Rattle.fill_pointwise.proofs.piecewise.counted.Goals as goal
use Rattle.fill_pointwise.proofs.piecewise.counted.Goals.{After-is_outside, Start}

-- whether there is a label
labelled-is : (c : After-is_outside) → c.if-cell-eq-EMPTY.result ≡ cond {A = ℕ} (is_some (label_of c.args.cell)) 1 0
labelled-is c =
    let s = (goal.at.After-is_outside c).Start in
    let z = s.args.cell in
    ⊎_elim
    (λ w. w.result-is ∙ sym (ap (λ (l : Option ℤ). cond {A = ℕ} (is_some l) 1 0) (label-empty z ((empty-iff z).0 (bits-empty z s.ranges.cell w.if-cell-eq-EMPTY.true)))))
    (λ w. w.result-is ∙ sym (ap (λ (l : Option ℤ). cond {A = ℕ} (is_some l) 1 0) (label-full z (λ e. w.if-cell-eq-EMPTY.false (ap (of_z w32) e)))))
    c.if-cell-eq-EMPTY.branch-raw

-- the test of the limits
outside-is : (c : After-is_outside) → c.is_outside.result ≡ is_outside (label_of c.args.cell)
outside-is c = c.is_outside.ensures ∙ ap (λ (z : ℤ). is_outside (label_of z)) (to_z-of_z c.ranges.cell)

pub returns-then-is_outside : goal.returns-then-is_outside
returns-then-is_outside c = record { labelled = labelled-is (goal.at.returns-then-is_outside c).After-is_outside; outside = ap (λ (b : Bool). cond {A = ℕ} b 1 0) (sym c.if-is_outside.true ∙ outside-is (goal.at.returns-then-is_outside c).After-is_outside) }

pub returns-else-is_outside : goal.returns-else-is_outside
returns-else-is_outside c = record { labelled = labelled-is (goal.at.returns-else-is_outside c).After-is_outside; outside = ap (λ (b : Bool). cond {A = ℕ} b 1 0) (sym c.if-is_outside.false ∙ outside-is (goal.at.returns-else-is_outside c).After-is_outside) }
