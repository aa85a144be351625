-- `containment::holder` meets its contract: only h's granule at t can hold g's granule of t.
-- Assumes nothing.
use borrow.Author.Rules.{rules}
use mathlib.Core.Path.{◌≡◌, sym, ◌∙◌, ap}
use mathlib.Core.Option.{some}
use native.Mathlib.Omega.{arith}
use lib.IntN.{ℤ}
use mir.Syntax.{w64}
use mir.Facts.{to_z-of_z}
use Rattle.integers.proofs.Linear.{ints, ◌∴◌}
use Rattle.integers.proofs.Machine.{plain}
use Rattle.calendar.specs.Meaning.{Row, meant}
use Rattle.calendar.specs.Granules.{inside}
use Rattle.calendar.specs.Questions.{given}
use Rattle.granules.specs.Valid.{Valid}
use Rattle.cursors.specs.Found.{Near, found}
use Rattle.cursors.proofs.Numbers.{valid}
use Rattle.containment.proofs.Holders.{holder-no-label, holder-inside, holder-not-inside}
use Rattle.containment.proofs.holder.Goals as goal
use Rattle.containment.proofs.holder.Goals.{After-inside, After-label_at-label, In-Some, Start}

abbrev g-row : Start → Row
g-row s = given s.args.g_period s.args.g_distance s.args.g_cells.now

abbrev h-row : Start → Row
h-row s = given s.args.h_period s.args.h_distance s.args.h_cells.now

g-rules : (s : Start) → Valid (g-row s)
g-rules s = valid s.args.g_period s.args.g_distance s.args.g_cells.now s.requires.sound

h-rules : (s : Start) → Valid (h-row s)
h-rules s = valid s.args.h_period s.args.h_distance s.args.h_cells.now s.requires.sound_2

near : (s : Start) → Near s.args.t
near s = let l = s.requires.labelled in l.1.0 ∴ l.1.1 ∴ simp ints (omega arith)

-- the label of t in h
label_is : (c : After-label_at-label) → meant (h-row (goal.at.After-label_at-label c).Start) c.args.t ≡ found c.label_at-label.result
label_is c =
    let s = (goal.at.After-label_at-label c).Start in
    let p = s.ranges.h_period in
    let n = s.ranges.h_distance in
    let t = s.ranges.t in
    sym (simp plain at c.label_at-label.ensures)

pub returns-in_default : goal.returns-in_default
returns-in_default c z e =
    let d = (goal.at.returns-in_default c).After-label_at-label in
    let s = (goal.at.After-label_at-label d).Start in
    sym (holder-no-label (g-row s) (h-row s) (g-rules s) (h-rules s) s.args.t z e (label_is d ∙ ap found c.in_default.is))

label-some : (c : In-Some) → let s = (goal.at.In-Some c).Start in meant (h-row s) s.args.t ≡ some c.in-Some.i
label-some c = label_is (goal.at.In-Some c).After-label_at-label ∙ ap found c.in-Some.is

inside_is : (c : After-inside) (z : ℤ) → let s = (goal.at.After-inside c).Start in meant (g-row s) s.args.t ≡ some z → c.inside.result ≡ inside (g-row s) z (h-row s) c.in-Some.i
inside_is c z e =
    let s = (goal.at.After-inside c).Start in
    let p = s.ranges.g_period in
    let n = s.ranges.g_distance in
    let q = s.ranges.h_period in
    let m = s.ranges.h_distance in
    let t = s.ranges.t in
    (simp plain at c.inside.ensures) z _ e (label-some (goal.at.After-inside c).In-Some)

pub returns-then-inside : goal.returns-then-inside
returns-then-inside c z e =
    let k = (goal.at.returns-then-inside c).In-Some in
    let s = (goal.at.In-Some k).Start in
    ap some (to_z-of_z {w = w64} (search rules))
    ∙ sym (holder-inside (g-row s) (h-row s) (g-rules s) (h-rules s) s.args.t z e _ (label-some k) (sym (inside_is (goal.at.returns-then-inside c).After-inside z e) ∙ c.if-inside.true))

pub returns-else-inside : goal.returns-else-inside
returns-else-inside c z e =
    let k = (goal.at.returns-else-inside c).In-Some in
    let s = (goal.at.In-Some k).Start in
    sym (holder-not-inside (g-row s) (h-row s) (g-rules s) (h-rules s) s.args.t z e _ (label-some k) (sym (inside_is (goal.at.returns-else-inside c).After-inside z e) ∙ c.if-inside.false))
