-- `calendar::Calendar::in_range` meets its contract: the two tests in order are those of `is_within`.
use mathlib.Core.Path.{sym, ◌∙◌, ap}
use mathlib.Core.Bool.{Bool, ◌&&◌}
use lib.IntN.{pos}
use lib.Signed.{le_z}
use mir.ValLaws.{to_z-of_z}
use Rattle.calendar.proofs.Calendar.in_range.Goals as goal

pub returns-then-z-ge-LEAST_LABEL : goal.returns-then-z-ge-LEAST_LABEL
returns-then-z-ge-LEAST_LABEL c =
    let f = c.before.ranges.z in
    let t = simp to_z-of_z at c.if-z-ge-LEAST_LABEL.true in
    simp to_z-of_z (sym (ap (λ (b : Bool). b && le_z c.before.args.z (pos 1000000000)) t))

pub returns-else-z-ge-LEAST_LABEL : goal.returns-else-z-ge-LEAST_LABEL
returns-else-z-ge-LEAST_LABEL c =
    let f = c.before.ranges.z in
    let t = simp to_z-of_z at c.if-z-ge-LEAST_LABEL.false in
    simp to_z-of_z (t ∙ sym (ap (λ (b : Bool). b && le_z c.before.args.z (pos 1000000000)) t))
