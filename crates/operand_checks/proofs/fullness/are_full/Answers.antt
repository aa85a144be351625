-- `operand_checks::fullness::are_full` meets its contract, kind by kind: group, alter and anchor ask for full operands.
-- Assumes nothing.
use mathlib.Core.Path.{◌≡◌, sym, ◌∙◌, ap, subst}
use mathlib.Core.Bool.{Bool, ◌&&◌}
use mathlib.Core.List.{List}
use lib.IntN.{ℤ}
use Rattle.calendar.specs.Meaning.{Row}
use Rattle.calendar.specs.Granules.{full}
use Rattle.calendar.specs.Checks.{full_operands}
use Rattle.kinds.specs.declared.Kind.{Kind}
use Rattle.kinds.specs.Operations.{operation_of, operands}
use Rattle.kinds.specs.Stands.{row_in, CountedFirst}
use Rattle.operand_checks.proofs.fullness.are_full.Goals as goal
use Rattle.operand_checks.proofs.fullness.are_full.Goals.{After-is_full-in-Alter, Start}

-- the operands in a pool
abbrev row-a : Start → List ℤ → Row
row-a s pool = row_in pool s.args.a

abbrev row-b : Start → List ℤ → Row
row-b s pool = row_in pool s.args.b

-- what is to be answered, and what is known of the operands, by the kind
abbrev answered : Start → List ℤ → Kind → Bool
answered s pool k = full_operands (operation_of k (row-a s pool) (row-b s pool))

abbrev Known : Start → List ℤ → Kind → Type 0
Known s pool k = CountedFirst (operands k) pool s.args.a s.args.b

pub returns-in-Bottom : goal.returns-in-Bottom
unfolding full_operands
returns-in-Bottom c pool h = ap (answered (goal.at.returns-in-Bottom c).Start pool) (sym c.in-Bottom.is)

pub returns-in-Group : goal.returns-in-Group
unfolding full_operands
returns-in-Group c pool h =
    let s = (goal.at.returns-in-Group c).Start in
    let e = c.in-Group.is in
    c.is_full.ensures pool (subst (Known s pool) e h).0 ∙ ap (answered s pool) (sym e)

pub returns-in-Shift : goal.returns-in-Shift
unfolding full_operands
returns-in-Shift c pool h = ap (answered (goal.at.returns-in-Shift c).Start pool) (sym c.in-Shift.is)

pub returns-in-Renumber : goal.returns-in-Renumber
unfolding full_operands
returns-in-Renumber c pool h = ap (answered (goal.at.returns-in-Renumber c).Start pool) (sym c.in-Renumber.is)

-- alter: the first operand, and where it is full the second
first-is : (c : After-is_full-in-Alter) (pool : List ℤ) → let s = (goal.at.After-is_full-in-Alter c).Start in Known s pool s.args.kind → c.is_full-in-Alter.result ≡ full (row-a s pool)
first-is c pool h =
    let s = (goal.at.After-is_full-in-Alter c).Start in
    c.is_full-in-Alter.ensures pool (subst (Known s pool) c.in-Alter.is h).0

pub returns-then-is_full : goal.returns-then-is_full
unfolding full_operands
returns-then-is_full c pool h =
    let f = (goal.at.returns-then-is_full c).After-is_full-in-Alter in
    let s = (goal.at.After-is_full-in-Alter f).Start in
    let e = f.in-Alter.is in
    c.is_full-then-is_full.ensures pool (subst (Known s pool) e h).1
    ∙ ap (λ (x : Bool). x && full (row-b s pool)) (sym (sym (first-is f pool h) ∙ c.if-is_full.true))
    ∙ ap (answered s pool) (sym e)

pub returns-else-is_full : goal.returns-else-is_full
unfolding full_operands
returns-else-is_full c pool h =
    let f = (goal.at.returns-else-is_full c).After-is_full-in-Alter in
    let s = (goal.at.After-is_full-in-Alter f).Start in
    ap (λ (x : Bool). x && full (row-b s pool)) (sym (sym (first-is f pool h) ∙ c.if-is_full.false))
    ∙ ap (answered s pool) (sym f.in-Alter.is)

pub returns-in-Combine : goal.returns-in-Combine
unfolding full_operands
returns-in-Combine c pool h = ap (answered (goal.at.returns-in-Combine c).Start pool) (sym c.in-Combine.is)

pub returns-in-Select : goal.returns-in-Select
unfolding full_operands
returns-in-Select c pool h = ap (answered (goal.at.returns-in-Select c).Start pool) (sym c.in-Select.is)

pub returns-in-Anchor : goal.returns-in-Anchor
unfolding full_operands
returns-in-Anchor c pool h =
    let s = (goal.at.returns-in-Anchor c).Start in
    let e = c.in-Anchor.is in
    c.is_full-in-Anchor.ensures pool (subst (Known s pool) e h).0 ∙ ap (answered s pool) (sym e)

pub returns-in-ByLabels : goal.returns-in-ByLabels
unfolding full_operands
returns-in-ByLabels c pool h = ap (answered (goal.at.returns-in-ByLabels c).Start pool) (sym c.in-ByLabels.is)
