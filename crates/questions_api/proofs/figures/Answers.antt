-- `questions_api::figures` meets its contract: the figures that `questions::figures` answers, or its refusal and zeros.
use borrow.Author.Rules.{sfits_of}
use mathlib.Core.Path.{◌≡◌, refl, sym, ◌∙◌, ap, subst}
use mathlib.Core.Bool.{Bool, true, false}
use Prim.Native.Nat.{ℕ}
use native.Mathlib.Omega.{arith}
use lib.Ieee.{of_bits}
use mir.Facts.{to_z-of_z}
use mir.Syntax.{w64}
use Rattle.integers.proofs.Machine.{plain}
use Rattle.calendar.specs.Meaning.{Row}
use Rattle.calendar.specs.Questions.{given}
use Rattle.codes.specs.Codes.{refusal_code}
use Rattle.questions.specs.Answers.{FiguresOf}
use Rattle.questions_api.specs.Codes.{figures_code}
use Rattle.questions_api.proofs.figures.Goals as goal
use Rattle.questions_api.proofs.figures.Goals.{After-figures-figured, Start}

abbrev row : Start → Row
row s = given s.args.period s.args.distance s.args.cells.now

replied : (c : After-figures-figured) → FiguresOf (row (goal.at.After-figures-figured c).Start) c.args.granules c.figures-figured.result
replied c =
    let s = (goal.at.After-figures-figured c).Start in
    let p = s.ranges.period in
    let n = s.ranges.distance in
    let g = s.ranges.granules in
    simp plain at c.figures-figured.ensures

clash : {b : Bool} → b ≡ true → b ≡ false → ⊥
clash t f = let z : ◌≡◌ {A = ℕ} 0 1 = cc in omega arith

pub returns-in-Ok : goal.returns-in-Ok
returns-in-Ok c =
    let d = (goal.at.returns-in-Ok c).After-figures-figured in
    let h = subst (FiguresOf (row (goal.at.After-figures-figured d).Start) d.args.granules) c.in-Ok.is (replied d) in
    record { is = ap figures_code (sym h.0); figures = λ _. h.1; zeros = λ f. absurd (clash h.0 f) }

pub returns-in-Err : goal.returns-in-Err
unfolding of_bits
returns-in-Err c =
    let d = (goal.at.returns-in-Err c).After-figures-figured in
    let h = subst (FiguresOf (row (goal.at.After-figures-figured d).Start) d.args.granules) c.in-Err.is (replied d) in
    record {
      is = to_z-of_z {w = w64} (sfits_of c.refusal_code.type_inv) ∙ c.refusal_code.ensures ∙ ap refusal_code h.1 ∙ ap figures_code (sym h.0);
      figures = λ f. absurd (clash f h.0);
      zeros = λ _. (refl, refl, refl);
    }
