-- `questions::checked::is_lateness` meets its contract: the two tests in order are those of `between`.
use mathlib.Core.Path.{sym, ◌∙◌, ap}
use mathlib.Core.Bool.{Bool, ◌&&◌}
use lib.IntN.{pos}
use lib.Signed.{le_z}
use mir.ValLaws.{to_z-of_z}
use Rattle.calendar.specs.Limits.{late_limit}
use Rattle.questions.proofs.checked.is_lateness.Goals as goal

pub returns-then-d-ge0 : goal.returns-then-d-ge0
returns-then-d-ge0 c =
    let f = c.ranges.d in
    let t = simp to_z-of_z at c.if-d-ge0.true in
    simp to_z-of_z (sym (ap (λ (b : Bool). b && le_z c.args.d (pos late_limit)) t))

pub returns-else-d-ge0 : goal.returns-else-d-ge0
returns-else-d-ge0 c =
    let f = c.ranges.d in
    let t = simp to_z-of_z at c.if-d-ge0.false in
    simp to_z-of_z (t ∙ sym (ap (λ (b : Bool). b && le_z c.args.d (pos late_limit)) t))
