-- `row_check::scan::first_label` meets its contract: the label stands where the leading empty cells end.
-- Assumes nothing.
use mathlib.Core.Path.{sym, ◌∙◌, ap}
use Prim.Native.Nat.{ℕ}
use borrow.Author.Rules.{sfits_of}
use lib.ListN.{get_or}
use mir.Syntax.{w64}
use mir.Facts.{to_z-of_z}
use Rattle.calendar.specs.Meaning.{empty}
use Rattle.row_check.proofs.Instants.{first-label}
use Rattle.row_check.proofs.scan.first_label.Goals as goal

pub returns : goal.returns
returns c =
    let l = c.args.cells.now in
    to_z-of_z {w = w64} (sfits_of c.wide.type_inv)
    ∙ c.wide.ensures.0
    ∙ ap (λ (i : ℕ). get_or l i empty) c.leading-i.ensures
    ∙ sym (first-label l empty c.requires)
