-- `fill_unary::renumbering::labels_below` meets its contract: the loop keeps the greatest label so far and how many labels were passed.
-- Assumes nothing.
use mathlib.Core.Path.{◌≡◌, sym, ◌∙◌, subst, subst₂}
use mathlib.Core.Bool.{true, false}
use mathlib.Core.List.{List}
use Prim.Native.Nat.{ℕ, ◌+◌, ◌<◌, ◌^◌}
use native.Mathlib.Omega.{arith}
use borrow.Author.Rules.{sfits_of}
use lib.IntN.{ℤ, pos, ◌+ℤ◌, ◌-ℤ◌}
use lib.Signed.{◌≤ℤ◌, ◌<ℤ◌, lt_z}
use lib.ListN.{length, get_or}
use mir.Facts.{to_z_pos}
use mir.Syntax.{w32, w64}
use mir.Val.{SFits, of_z, to_z}
use Rattle.integers.proofs.Machine.{plain, test-lt, test-le, test-not-lt, test-not-le}
use Rattle.calendar.specs.Meaning.{empty}
use Rattle.calendar.specs.Compute.{count}
use Rattle.calendar.specs.Questions.{given}
use Rattle.cursors.proofs.Cells.{get_d_any}
use Rattle.fill_unary.proofs.Passed.{Over, Passed, passed_none, passed-all, passed-enough, passed-more, passed-same}
use Rattle.fill_unary.proofs.renumbering.labels_below.Invariants.{Inv}
use Rattle.fill_unary.proofs.renumbering.labels_below.Goals as goal
use Rattle.fill_unary.proofs.renumbering.labels_below.Goals.{After-z-1, At-loop-cell, Else-z-x, Start as Start-place, then-z-label, else-z-label}

abbrev Start : Type 0
Start = Start-place

abbrev cells : Start → List ℤ
cells c = c.args.a_cells.now

-- the numbers as the machine has them
abbrev X : Start → ℤ
X c = to_z w64 (of_z w64 c.args.x)

abbrev L : Start → ℤ
L c = to_z w64 (of_z w64 c.args.last)

abbrev P : Start → ℤ
P c = to_z w64 (of_z w64 c.args.a_period)

abbrev N : Start → ℤ
N c = to_z w64 (of_z w64 c.args.a_distance)

over : (c : Start) → Over (X c) (L c) (P c) (N c) (cells c)
over c =
    let x = c.ranges.x in
    let l = c.ranges.last in
    let p = c.ranges.a_period in
    let d = c.ranges.a_distance in
    simp plain (record { sound = c.requires.sound; is_last = c.requires.last_value; low = c.requires.last_lt_x.0; high = c.requires.last_lt_x.1 })

pub loop-cell-init : goal.loop-cell-init
loop-cell-init c = record { few = omega arith; passed = passed_none (over c) }

-- the cell that a turn reads
abbrev cell : After-z-1 → ℤ
cell c = get_or (cells (goal.at.After-z-1 c).Start) c.loop-cell.cell-index (pos 0)

cell-fits : (c : After-z-1) → SFits w32 (cell c)
cell-fits c = sfits_of c.z-1.given

here : (c : After-z-1) → c.loop-cell.cell-index < length (cells (goal.at.After-z-1 c).Start)
here c = omega arith

-- as the machine has it
abbrev wide : After-z-1 → ℤ
wide c = to_z w64 (of_z w64 (to_z w32 (of_z w32 (cell c))))

wide_is : (c : After-z-1) → wide c ≡ get_or (cells (goal.at.After-z-1 c).Start) c.loop-cell.cell-index empty
wide_is c =
    let f = cell-fits c in
    simp plain (get_d_any (cells (goal.at.After-z-1 c).Start) c.loop-cell.cell-index (pos 0) empty (here c))

few-labels : (c : At-loop-cell) → c.loop-cell.labels < 2 ^ 63
few-labels c = omega arith

-- what was counted, with the numbers of the contract
counted : (c : At-loop-cell) → let s = (goal.at.At-loop-cell c).Start in
    pos c.loop-cell.labels ≡ pos (count (given (P s) (N s) (cells s)) (L s +ℤ pos 1) (X s -ℤ pos 1))
    → to_z w64 c.loop-cell.labels ≡ pos (count (given s.args.a_period s.args.a_distance (cells s)) (s.args.last +ℤ pos 1) (s.args.x -ℤ pos 1))
counted c e =
    let s = (goal.at.At-loop-cell c).Start in
    let x = s.ranges.x in
    let l = s.ranges.last in
    let p = s.ranges.a_period in
    let d = s.ranges.a_distance in
    to_z_pos w64 (few-labels c) ∙ simp plain at e

pub returns-then-z-x : goal.returns-then-z-x
returns-then-z-x c =
    let z = (goal.at.returns-then-z-x c).After-z-1 in
    let k = (goal.at.After-z-1 z).At-loop-cell in
    let s = (goal.at.At-loop-cell k).Start in
    let h = subst (λ (y : ℤ). X s ≤ℤ y) (wide_is z) ((test-le (X s) (wide z)).0 c.if-z-x.true) in
    counted k (passed-enough (over s) k.loop-cell.invariant.passed (here z) h)

-- a turn at a new label
more : (c : Else-z-x) (label : ℤ) (labels : ℕ) → let k = (goal.at.Else-z-x c).At-loop-cell in let s = (goal.at.At-loop-cell k).Start in
    lt_z (to_z w64 k.loop-cell.label-bits) (wide (goal.at.Else-z-x c).After-z-1) ≡ true → label ≡ wide (goal.at.Else-z-x c).After-z-1 → labels ≡ k.loop-cell.labels + 1
    → Inv (X s) (L s) (cells s) (P s) (N s) label labels (k.loop-cell.cell-index + 1)
more c label labels t e n =
    let z = (goal.at.Else-z-x c).After-z-1 in
    let k = (goal.at.After-z-1 z).At-loop-cell in
    let s = (goal.at.At-loop-cell k).Start in
    let w : label ≡ get_or (cells s) k.loop-cell.cell-index empty = e ∙ wide_is z in
    let h = subst (λ (y : ℤ). to_z w64 k.loop-cell.label-bits <ℤ y) (wide_is z) ((test-lt (to_z w64 k.loop-cell.label-bits) (wide z)).0 t) in
    let b = subst (λ (y : ℤ). y <ℤ X s) (wide_is z) ((test-not-le (X s) (wide z)).0 c.if-z-x.false) in
    record {
      few = omega (arith, k.loop-cell.invariant.few);
      passed = subst₂ (λ (p : ℤ) (m : ℕ). Passed (given (P s) (N s) (cells s)) (L s) (X s) p m (k.loop-cell.cell-index + 1)) (sym w) (sym n) (passed-more (over s) k.loop-cell.invariant.passed (here z) h b);
    }

-- a turn at the same label, or at none
same : (c : Else-z-x) (label : ℤ) (labels : ℕ) → let k = (goal.at.Else-z-x c).At-loop-cell in let s = (goal.at.At-loop-cell k).Start in
    lt_z (to_z w64 k.loop-cell.label-bits) (wide (goal.at.Else-z-x c).After-z-1) ≡ false → label ≡ to_z w64 k.loop-cell.label-bits → labels ≡ k.loop-cell.labels
    → Inv (X s) (L s) (cells s) (P s) (N s) label labels (k.loop-cell.cell-index + 1)
same c label labels t e n =
    let z = (goal.at.Else-z-x c).After-z-1 in
    let k = (goal.at.After-z-1 z).At-loop-cell in
    let s = (goal.at.At-loop-cell k).Start in
    let h = subst (λ (y : ℤ). y ≤ℤ to_z w64 k.loop-cell.label-bits) (wide_is z) ((test-not-lt (to_z w64 k.loop-cell.label-bits) (wide z)).0 t) in
    record {
      few = omega (arith, k.loop-cell.invariant.few);
      passed = subst₂ (λ (b : ℤ) (m : ℕ). Passed (given (P s) (N s) (cells s)) (L s) (X s) b m (k.loop-cell.cell-index + 1)) (sym e) (sym n) (passed-same (over s) k.loop-cell.invariant.passed (here z) h);
    }

pub loop-cell-preserved : goal.loop-cell-preserved
loop-cell-preserved c =
    let e = (goal.at.loop-cell-preserved c).Else-z-x in
    elim c.if-z-label.branch [ then-z-label w ↦ more e _ _ w.if-z-label.true w.label-is w.labels-is | else-z-label w ↦ same e _ _ w.if-z-label.false w.label-is w.labels-is ]

pub returns : goal.returns
returns c =
    let k = (goal.at.returns c).At-loop-cell in
    counted k (passed-all (over (goal.at.At-loop-cell k).Start) k.loop-cell.invariant.passed (omega arith))
