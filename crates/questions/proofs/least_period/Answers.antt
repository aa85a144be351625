-- `questions::least_period` meets its contract: 13, or what the search came to.
use borrow.Author.Tests.{not-false}
use borrow.Author.Rules.{sfits_of}
use mathlib.Core.Path.{◌≡◌, sym, ◌∙◌, ap₂}
use mathlib.Core.Bool.{true}
use Prim.Native.Nat.{ℕ}
use lib.IntN.{ℤ, pos}
use mir.Facts.{to_z-of_z}
use mir.Syntax.{w64}
use Rattle.integers.proofs.Machine.{plain}
use Rattle.calendar.specs.Meaning.{Row}
use Rattle.calendar.specs.Least.{least}
use Rattle.calendar.specs.Tries.{tries}
use Rattle.calendar.specs.Sound.{sound}
use Rattle.calendar.specs.Questions.{given}
use Rattle.calendar.specs.Reply.Reply.{answer}
use Rattle.granules.proofs.Tests.{not_iff}
use Rattle.granules.proofs.Replies.{passed, failed}
use Rattle.questions.specs.Answers.{least_period}
use Rattle.questions.proofs.least_period.Goals as goal
use Rattle.questions.proofs.least_period.Goals.{After-least_period-shortest, After-sound, Else-not-sound, Start}

abbrev row : Start → Row
row s = given s.args.period s.args.distance s.args.cells.now

tested : (c : After-sound) → c.sound.result ≡ sound (row (goal.at.After-sound c).Start)
tested c =
    let p = c.ranges.period in
    let n = c.ranges.distance in
    simp plain at c.sound.ensures

pub returns-then-not-sound : goal.returns-then-not-sound
unfolding least_period
returns-then-not-sound c = sym (failed 13 _ (sym (tested (goal.at.returns-then-not-sound c).After-sound) ∙ (not_iff _).0 c.if-not-sound.true-raw))

is-sound : (c : Else-not-sound) → sound (row (goal.at.Else-not-sound c).Start) ≡ true
is-sound c = sym (tested (goal.at.Else-not-sound c).After-sound) ∙ not-false _ c.if-not-sound.false-raw

pub granules-granules-requires : goal.granules-granules-requires
granules-granules-requires c =
    let s = (goal.at.granules-granules-requires c).Start in
    let p = s.ranges.period in
    let n = s.ranges.distance in
    simp plain (is-sound c)

pub least_period-shortest-requires : goal.least_period-shortest-requires
least_period-shortest-requires c =
    let s = (goal.at.least_period-shortest-requires c).Start in
    let p = s.ranges.period in
    let n = s.ranges.distance in
    record {
      cells_value = simp plain (is-sound (goal.at.least_period-shortest-requires c).Else-not-sound);
      granules_value = to_z-of_z {w = w64} (sfits_of c.granules-granules.type_inv) ∙ c.granules-granules.ensures;
    }

-- what the search came to, of the row as it was handed in
found : (c : After-least_period-shortest) → let r = row (goal.at.After-least_period-shortest c).Start in
    (c.least_period-shortest.result.period ≡ pos (least r).period) × (c.least_period-shortest.result.tried ≡ tries r)
found c =
    let s = (goal.at.After-least_period-shortest c).Start in
    let p = s.ranges.period in
    let n = s.ranges.distance in
    (simp plain at c.least_period-shortest.ensures.least, simp plain at c.least_period-shortest.ensures.tried)

pub returns : goal.returns
unfolding least_period
returns c =
    let f = found c in
    ap₂ (λ (q : ℤ) (k : ℕ). answer (q, k)) f.0 f.1 ∙ sym (passed 13 _ (is-sound (goal.at.returns c).Else-not-sound))
