-- `steps_api::write_progress` meets its contract.
-- Assumes nothing.
use mathlib.Core.Path.{◌∙◌, ap₂}
use mir.Facts.{to_z-of_z}
use mir.Syntax.{w64}
use mathlib.Core.List.{◌∷◌}
use lib.IntN.{ℤ}
use lib.ListN.{drop}
use Rattle.steps_api.proofs.Numbers.{two-set}
use borrow.Author.Rules.{sfits_of}
use Rattle.steps_api.proofs.write_progress.Goals as goal
use Rattle.steps_api.proofs.write_progress.Goals.{Start}

pub returns : goal.returns
returns c =
    let s = (goal.at.returns c).Start in
    let l = s.args.state.now in
    two-set l s.requires _ _
    ∙ ap₂ (λ (a b : ℤ). a ∷ b ∷ drop 2 l) (to_z-of_z {w = w64} (sfits_of c.stage_of.type_inv) ∙ c.stage_of.ensures)
    (to_z-of_z {w = w64} (sfits_of c.number_of.type_inv) ∙ c.number_of.ensures)
