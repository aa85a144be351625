-- `pieces::is_outside` meets its contract: a cell is its label, or has none, and the two tests are those of `is_within`.
-- Assumes nothing.
use mathlib.Core.Path.{◌≡◌, refl, sym, ◌∙◌, ap}
use mathlib.Core.Option.{Option, none}
use mathlib.Core.Bool.{Bool, true, false, not, ◌&&◌, ◌||◌}
use lib.IntN.{ℤ, neg_ℤ}
use lib.Signed.{le_z, lt_z}
use mir.Facts.{sfits_lit}
use mir.Syntax.{w32}
use mir.Val.{of_z}
use mir.ValLaws.{to_z-of_z}
use Rattle.integers.proofs.Machine.{test-eq, test-lt, test-not-le}
use Rattle.calendar.specs.Meaning.{label_of, empty}
use Rattle.calendar.specs.Lists.{if_label}
use Rattle.calendar.specs.Limits.{in_range, label_limit}
use Rattle.granules.proofs.Tests.{not_iff, test-ext}
use Rattle.cursors.proofs.Cells.{label-empty, label-full}
use Rattle.pieces.proofs.is_outside.Goals as goal
use Rattle.pieces.proofs.is_outside.Goals.{Else-cell-eq-EMPTY}

-- the test of the order, turned round
turned : (x y : ℤ) → lt_z y x ≡ not (le_z x y)
turned x y =
    test-ext (λ e. (not_iff (le_z x y)).1 ((test-not-le x y).1 ((test-lt y x).0 e))) (λ e. (test-lt y x).1 ((test-not-le x y).0 ((not_iff (le_z x y)).0 e)))

either : (a b : Bool) → not b || not a ≡ not (a && b)
either true true = refl
either true false = refl
either false true = refl
either false false = refl

-- above the limits or below them
above-or-below : (z : ℤ) → lt_z label_limit z || lt_z z (neg_ℤ label_limit) ≡ not (in_range z)
above-or-below z = rw (turned z label_limit, turned (neg_ℤ label_limit) z) (either (le_z (neg_ℤ label_limit) z) (le_z z label_limit))

pub returns-then-cell-eq-EMPTY : goal.returns-then-cell-eq-EMPTY
returns-then-cell-eq-EMPTY c =
    let s = c.before in
    let e : label_of s.args.cell ≡ none = label-empty s.args.cell ((test-eq w32 s.args.cell empty s.ranges.cell (sfits_lit tt)).0 c.if-cell-eq-EMPTY.true) in
    sym (ap (λ (l : Option ℤ). not (if_label l in_range)) e)

-- the cell has a label
label_is : (c : Else-cell-eq-EMPTY) → not (in_range c.args.cell) ≡ not (if_label (label_of c.args.cell) in_range)
label_is c = let z = c.args.cell in sym (ap (λ (l : Option ℤ). not (if_label l in_range)) (label-full z (λ e. c.if-cell-eq-EMPTY.false (ap (of_z w32) e))))

pub returns-then-cell : goal.returns-then-cell
returns-then-cell c =
    let f = c.ranges.cell in
    let z = c.args.cell in
    let t = simp to_z-of_z at c.if-cell.true in
    simp to_z-of_z (t ∙ sym (ap (λ (b : Bool). b || lt_z z (neg_ℤ label_limit)) t) ∙ above-or-below z ∙ label_is c.before)

pub returns-else-cell : goal.returns-else-cell
returns-else-cell c =
    let f = c.ranges.cell in
    let z = c.args.cell in
    let t = simp to_z-of_z at c.if-cell.false in
    simp to_z-of_z (sym (ap (λ (b : Bool). b || lt_z z (neg_ℤ label_limit)) t) ∙ above-or-below z ∙ label_is c.before)
