-- `civil_api::number_at` meets its contract: too short a list, behind the table, in the table.
-- Assumes nothing.
use borrow.Author.Rules.{sfits_of}
use mathlib.Core.Path.{◌∙◌, ap}
use mathlib.Core.List.{List}
use lib.IntN.{ℤ, pos}
use lib.ListN.{get_or}
use mir.Facts.{to_z-of_z}
use mir.Syntax.{w32}
use Rattle.civil_api.proofs.Tables.{number_short, number_behind, number-within}
use Rattle.civil_api.proofs.number_at.Goals as goal
use Rattle.civil_api.proofs.number_at.Goals.{Else-i-ge66, Start}

pub returns-then-n-lt66 : goal.returns-then-n-lt66
returns-then-n-lt66 c = number_short c.args.n c.args.i c.if-n-lt66.true

pub returns-then-i-ge66 : goal.returns-then-i-ge66
returns-then-i-ge66 c =
    let s = (goal.at.returns-then-i-ge66 c).Start in
    number_behind s.args.n s.args.i c.if-n-lt66.false c.if-i-ge66.true

pub returns : goal.returns
returns c =
    let s = (goal.at.returns c).Start in
    let e = (goal.at.returns c).Else-i-ge66 in
    to_z-of_z {w = w32} (sfits_of c.result-1.given)
    ∙ ap (λ (l : List ℤ). get_or l s.args.i (pos 0)) c.table-numbers.ensures
    ∙ number-within s.args.n s.args.i e.if-n-lt66.false e.if-i-ge66.false
