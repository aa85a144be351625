-- `fill_pointwise::decided` meets its contract.
-- Assumes nothing.
use Rattle.std.specs.Prelude as Prelude
use mathlib.Core.Path.{sym, ◌∙◌, ap}
use mathlib.Core.Option.{Option, some}
use lib.IntN.{ℤ}
use mir.Facts.{to_z-of_z}
use Rattle.cursors.specs.Found.{found}
use Rattle.fill_pointwise.specs.declared.Pointwise.{Pointwise}
use Rattle.fill_pointwise.specs.declared.Pointwise.TheVariants.{Anchor}
use Rattle.fill_pointwise.specs.Decided.{decided_label}
use Rattle.fill_pointwise.proofs.decided.Goals as goal
use Rattle.fill_pointwise.proofs.decided.Goals.{Start}

-- the label, by what is known of the kind
abbrev decided-by : (s : Start) → Pointwise → Option ℤ
decided-by s by = decided_label by (found s.args.x) (found s.args.y) s.args.last

pub returns-in-Some : goal.returns-in-Some
returns-in-Some c =
    let s = (goal.at.returns-in-Some c).Start in
    ap {B = Option ℤ} some (to_z-of_z s.ranges.last)
    ∙ sym (ap (decided-by s) c.in-Anchor.is ∙ ap (λ (x : Prelude.Option ℤ). decided_label Anchor (found x) (found s.args.y) s.args.last) c.in-Some.is)

pub returns-in-ByLabels : goal.returns-in-ByLabels
returns-in-ByLabels c = let s = (goal.at.returns-in-ByLabels c).Start in c.set_label.ensures ∙ sym (ap (decided-by s) c.in-ByLabels.is)
