-- `fill_shared::store` meets its contract: a label within the limits fits a cell.
-- Assumes nothing.
use Rattle.std.specs.Prelude as Prelude
use borrow.Author.Rules.{rules}
use mathlib.Core.Path.{◌≡◌, refl, sym, ◌∙◌, ap}
use mathlib.Core.Option.{Option, some}
use mathlib.Core.Bool.{true, false}
use lib.IntN.{ℤ}
use lib.ListN.{length-set, set}
use mir.Facts.{to_z-of_z}
use mir.Syntax.{w64}
use mir.Val.{to_z, of_z}
use Rattle.calendar.specs.Lists.{if_label}
use Rattle.calendar.specs.Compute.{cell_of}
use Rattle.calendar.specs.Limits.{in_range}
use Rattle.granules.proofs.Tests.{true≢false}
use Rattle.cursors.specs.Found.{found}
use Rattle.fill_shared.proofs.Working.{range-fits}
use Rattle.fill_shared.proofs.store.Goals as goal
use Rattle.fill_shared.proofs.store.Goals.{Else-not-in_range, In-Some, Start}

-- the label, as the machine has it
abbrev label : In-Some → ℤ
label c = to_z w64 (of_z w64 c.in-Some.j)

label_is : (c : In-Some) → found c.args.label ≡ some (label c)
label_is c = ap found c.in-Some.is ∙ ap some (sym (to_z-of_z {w = w64} (search rules)))

within : (c : In-Some) → if_label (found c.args.label) in_range ≡ in_range (label c)
within c = ap (λ (l : Option ℤ). if_label l in_range) (label_is c)

pub returns-then-not-in_range : goal.returns-then-not-in_range
returns-then-not-in_range c =
    let k = (goal.at.returns-then-not-in_range c).In-Some in
    let r : in_range (label k) ≡ false = sym c.in_range.ensures ∙ c.if-not-in_range.true in
    record { within = sym (within k ∙ r); length = refl; cell = λ e. absurd (true≢false e refl); kept = λ e. refl }

in-range : (c : Else-not-in_range) → in_range (label (goal.at.Else-not-in_range c).In-Some) ≡ true
in-range c = sym c.in_range.ensures ∙ c.if-not-in_range.false

pub overflow_cast-pool : goal.overflow_cast-pool
overflow_cast-pool c = range-fits _ (in-range c)

pub returns-else-not-in_range : goal.returns-else-not-in_range
returns-else-not-in_range c =
    let k = (goal.at.returns-else-not-in_range c).In-Some in
    let s = (goal.at.In-Some k).Start in
    record { within = sym (within k ∙ in-range c); length = length-set s.args.pool.now s.args.i _; cell = λ e. ap (set s.args.pool.now s.args.i) (to_z-of_z (overflow_cast-pool c) ∙ sym (ap cell_of (label_is k))); kept = λ e. absurd (true≢false refl e) }

pub returns-in-None : goal.returns-in-None
returns-in-None c =
    let s = (goal.at.returns-in-None c).Start in
    let q = c.in-None.is in
    record { within = sym (ap (λ (l : Prelude.Option ℤ). if_label (found l) in_range) q); length = length-set s.args.pool.now s.args.i _; cell = λ e. ap (set s.args.pool.now s.args.i) (sym (ap (λ (l : Prelude.Option ℤ). cell_of (found l)) q)); kept = λ e. absurd (true≢false refl e) }
