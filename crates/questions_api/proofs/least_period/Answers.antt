-- `questions_api::least_period` meets its contract: what `questions::least_period` answers, or its refusal and 0. The
-- number tried fits, since it is at most the period.
use borrow.Author.Rules.{rules, sfits_of}
use mathlib.Core.Path.{◌≡◌, sym, ◌∙◌, ap}
use Prim.Native.Nat.{ℕ, ◌<◌, ◌^◌}
use native.Mathlib.Omega.{arith}
use lib.IntN.{ℤ}
use mir.Facts.{to_z-of_z}
use mir.Syntax.{w64}
use mir.Val.{SFits}
use Rattle.integers.proofs.Machine.{plain}
use Rattle.calendar.specs.Meaning.{Row}
use Rattle.calendar.specs.Reply.Reply.{answer}
use Rattle.calendar.specs.Questions.{given}
use Rattle.codes.proofs.Counts.{count_fits, count-back}
use Rattle.questions.specs.Answers.{least_period, shortening_reply}
use Rattle.questions.proofs.Shortest.{tried-within}
use Rattle.questions_api.specs.Codes.{least_code, tried_left}
use Rattle.questions_api.proofs.least_period.Goals as goal
use Rattle.questions_api.proofs.least_period.Goals.{After-least_period-shortening, Start}

abbrev row : Start → Row
row s = given s.args.period s.args.distance s.args.cells.now

replied : (c : After-least_period-shortening) → shortening_reply c.least_period-shortening.result ≡ least_period (row (goal.at.After-least_period-shortening c).Start)
replied c =
    let s = (goal.at.After-least_period-shortening c).Start in
    let p = s.ranges.period in
    let n = s.ranges.distance in
    simp plain at c.least_period-shortening.ensures

-- the number tried is below half of the numbers of 64 bits
small : (s : Start) (p : ℤ) (n : ℕ) → answer (p, n) ≡ least_period (row s) → n < 2 ^ 63
small s p n e = omega (arith, tried-within (row s) p n e)

pub overflow_cast-tried : goal.overflow_cast-tried
overflow_cast-tried c =
    let d = (goal.at.overflow_cast-tried c).After-least_period-shortening in
    count_fits _ (small (goal.at.After-least_period-shortening d).Start _ _ (sym (ap shortening_reply c.in-Ok.is) ∙ replied d))

pub returns-in-Ok : goal.returns-in-Ok
returns-in-Ok c =
    let d = (goal.at.returns-in-Ok c).After-least_period-shortening in
    let e = sym (ap shortening_reply c.in-Ok.is) ∙ replied d in
    let f : SFits w64 c.in-Ok.shortest.period = search rules in
    record { code = to_z-of_z f ∙ ap least_code e; tried = count-back _ (small (goal.at.After-least_period-shortening d).Start _ _ e) ∙ ap tried_left e }

pub returns-in-Err : goal.returns-in-Err
returns-in-Err c =
    let d = (goal.at.returns-in-Err c).After-least_period-shortening in
    let e = sym (ap shortening_reply c.in-Err.is) ∙ replied d in
    record { code = to_z-of_z {w = w64} (sfits_of c.refusal_code.type_inv) ∙ c.refusal_code.ensures ∙ ap least_code e; tried = ap tried_left e }
