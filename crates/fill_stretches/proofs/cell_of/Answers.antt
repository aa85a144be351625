-- `fill_stretches::cell_of` meets its contract: a label within the limits fits a cell.
-- Assumes nothing.
use borrow.Author.Rules.{rules}
use mathlib.Core.Path.{sym, ◌∙◌, ap}
use mathlib.Core.Option.{Option}
use lib.IntN.{ℤ}
use mir.Syntax.{w32, w64}
use mir.Val.{SFits}
use Rattle.integers.proofs.Machine.{plain}
use Rattle.calendar.specs.Lists.{if_label}
use Rattle.calendar.specs.Compute.{cell_of}
use Rattle.calendar.specs.Limits.{in_range}
use Rattle.cursors.specs.Found.{found}
use Rattle.fill_shared.proofs.Working.{range-fits}
use Rattle.fill_stretches.proofs.cell_of.Goals as goal
use Rattle.fill_stretches.proofs.cell_of.Goals.{In-Some}

-- the label fits a number of 64 bits, and one of 32
wide : (c : In-Some) → SFits w64 c.in-Some.j
wide c = search rules

small : (c : In-Some) → SFits w32 c.in-Some.j
small c = range-fits _ (ap (λ (l : Option ℤ). if_label l in_range) (ap found (sym c.in-Some.is)) ∙ c.requires)

pub overflow_cast-result : goal.overflow_cast-result
overflow_cast-result c =
    let w = wide c in
    let s = small c in
    simp plain s

pub returns-in-Some : goal.returns-in-Some
returns-in-Some c =
    let w = wide c in
    let s = small c in
    simp plain (ap (λ x. cell_of (found x)) (sym c.in-Some.is))

pub returns-in-None : goal.returns-in-None
returns-in-None c = ap (λ x. cell_of (found x)) (sym c.in-None.is)
