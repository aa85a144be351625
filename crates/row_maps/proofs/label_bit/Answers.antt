-- `row_maps::label_bit` meets its contract.
-- Assumes nothing.
use mathlib.Core.Path.{◌≡◌, ◌∙◌, sym, ap}
use mathlib.Core.Bool.{Bool, cond}
use Prim.Native.Nat.{ℕ}
use borrow.Author.Rules.{sfits_of}
use lib.IntN.{ℤ, pos}
use lib.ListN.{get_or}
use Rattle.calendar.specs.Meaning.{empty, is_empty}
use Rattle.cursors.proofs.Cells.{get_d_any, bits-empty, bits_full}
use Rattle.row_maps.proofs.label_bit.Goals as goal
use Rattle.row_maps.proofs.label_bit.Goals.{After-t5-1}

-- 1 where a cell has a label
abbrev one_if : ℤ → ℕ
one_if z = cond (is_empty z) 0 1

-- the cell as it is read
abbrev read : After-t5-1 → ℤ
read c = get_or c.args.cells.now c.args.c (pos 0)

read_is : (c : After-t5-1) → read c ≡ get_or c.args.cells.now c.args.c empty
read_is c = get_d_any c.args.cells.now c.args.c (pos 0) empty c.requires

pub returns-then-cells-c : goal.returns-then-cells-c
returns-then-cells-c c =
    let e = bits-empty (read (goal.at.returns-then-cells-c c).After-t5-1) (sfits_of c.t5-1.given) c.if-cells-c.true in
    sym (ap one_if (sym (read_is (goal.at.returns-then-cells-c c).After-t5-1)) ∙ ap (λ (b : Bool). cond b 0 1) e)

pub returns : goal.returns
returns c =
    let e = bits_full (read (goal.at.returns c).After-t5-1) c.if-cells-c.false in
    sym (ap one_if (sym (read_is (goal.at.returns c).After-t5-1)) ∙ ap (λ (b : Bool). cond b 0 1) e)
