-- `standing::is_counted` meets its contract.
-- Assumes nothing.
use borrow.Author.Tests.{not-false}
use borrow.Author.Rules.{sfits_of}
use mathlib.Core.Path.{◌≡◌, sym, ◌∙◌, ap₂}
use mathlib.Core.Bool.{true}
use Prim.Native.Nat.{ℕ}
use lib.Dec.{eqb}
use lib.IntN.{ℤ, pos}
use mir.Facts.{to_z-of_z}
use mir.Syntax.{w64}
use mir.Val.{of_z}
use Rattle.integers.specs.Parts.{up}
use Rattle.integers.proofs.Machine.{plain}
use Rattle.integers.proofs.Order.{pos-up}
use Rattle.calendar.specs.Meaning.{Row}
use Rattle.calendar.specs.Granules.{granules}
use Rattle.calendar.specs.Sound.{sound}
use Rattle.calendar.specs.Least.{least}
use Rattle.calendar.specs.Questions.{given}
use Rattle.granules.proofs.Tests.{not_iff, false-iff, eqb-iff}
use Rattle.cursors.proofs.Numbers.{numbers}
use Rattle.standing.proofs.Counted.{not_sound, other-count, least-decides}
use Rattle.standing.proofs.is_counted.Goals as goal
use Rattle.standing.proofs.is_counted.Goals.{After-granules-counted, After-least_period-least, After-sound, Else-not-sound, Start}

abbrev row : Start → Row
row s = given s.args.period s.args.distance s.args.cells.now

tested : (c : After-sound) → c.sound.result ≡ sound (row (goal.at.After-sound c).Start)
tested c =
    let p = c.ranges.period in
    let n = c.ranges.distance in
    simp plain at c.sound.ensures

pub returns-then-not-sound : goal.returns-then-not-sound
returns-then-not-sound c = not_sound (row (goal.at.returns-then-not-sound c).Start) _ (sym (tested (goal.at.returns-then-not-sound c).After-sound) ∙ (not_iff _).0 c.if-not-sound.true-raw)

is-sound : (c : Else-not-sound) → sound (row (goal.at.Else-not-sound c).Start) ≡ true
is-sound c = sym (tested (goal.at.Else-not-sound c).After-sound) ∙ not-false _ c.if-not-sound.false-raw

pub granules-counted-requires : goal.granules-counted-requires
granules-counted-requires c =
    let s = (goal.at.granules-counted-requires c).Start in
    let p = s.ranges.period in
    let n = s.ranges.distance in
    simp plain (is-sound c)

-- the granules, counted
counted : (c : After-granules-counted) → c.granules-counted.result ≡ pos (granules (row (goal.at.After-granules-counted c).Start))
counted c =
    let s = (goal.at.After-granules-counted c).Start in
    let p = s.ranges.period in
    let n = s.ranges.distance in
    simp plain at c.granules-counted.ensures

abbrev wanted : Start → ℕ
wanted s = up s.args.granules

same_count : (c : After-granules-counted) → let s = (goal.at.After-granules-counted c).Start in
    eqb (of_z w64 c.granules-counted.result) (of_z w64 s.args.granules) ≡ eqb (granules (row s)) (wanted s)
same_count c =
    let s = (goal.at.After-granules-counted c).Start in
    ap₂ (λ (x y : ℤ). eqb (of_z w64 x) (of_z w64 y)) (counted c) (sym (pos-up s.requires))

pub returns-then-counted-granules : goal.returns-then-counted-granules
returns-then-counted-granules c =
    other-count (row (goal.at.returns-then-counted-granules c).Start) _ (sym (same_count (goal.at.returns-then-counted-granules c).After-granules-counted) ∙ (false-iff (eqb-iff _ _)).1 c.if-counted-granules.true)

pub least_period-least-requires : goal.least_period-least-requires
least_period-least-requires c =
    let s = (goal.at.least_period-least-requires c).Start in
    let p = s.ranges.period in
    let n = s.ranges.distance in
    record { cells_value = simp plain (is-sound (goal.at.least_period-least-requires c).Else-not-sound); granules_value = to_z-of_z {w = w64} (sfits_of c.granules-counted.type_inv) ∙ c.granules-counted.ensures }

-- the test of the least period
is-least : (c : After-least_period-least) → let s = (goal.at.After-least_period-least c).Start in
    eqb (of_z w64 c.least_period-least.result.period) (of_z w64 s.args.period) ≡ eqb (least (row s)).period (row s).period
is-least c =
    let e = (goal.at.After-least_period-least c).Else-not-sound in
    let s = (goal.at.Else-not-sound e).Start in
    let p = s.ranges.period in
    let d = s.ranges.distance in
    let n = numbers s.args.period s.args.distance s.args.cells.now (is-sound e) in
    ap₂ (λ (x y : ℤ). eqb (of_z w64 x) (of_z w64 y)) (simp plain at c.least_period-least.ensures.least) n.period-is

pub returns : goal.returns
returns c =
    let l = (goal.at.returns c).After-least_period-least in
    let g = (goal.at.After-least_period-least l).After-granules-counted in
    let s = (goal.at.After-granules-counted g).Start in
    is-least l ∙ least-decides (row s) (wanted s) (is-sound (goal.at.After-granules-counted g).Else-not-sound) (sym (same_count g) ∙ (eqb-iff _ _).1 l.if-counted-granules.false)
