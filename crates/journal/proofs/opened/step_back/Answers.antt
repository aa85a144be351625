-- `journal::opened::step_back` meets its contract: what `last_trailer` finds in the window, as a place of the file.
-- Assumes nothing.
use Rattle.std.specs.Prelude.{Some, None}
use mathlib.Core.Path.{◌≡◌, refl, sym, ap, ◌∙◌}
use native.Mathlib.Omega.{arith}
use Prim.Native.Nat.{ℕ, zero, suc, ◌+◌}
use lib.ListN.{length}
use Rattle.journal.specs.Window.{last_in}
use Rattle.journal.specs.Answers.{stepped, step_in}
use Rattle.journal.specs.declared.opened.Step.TheVariants.{Before, Empty}
use Rattle.journal.proofs.Trailers.{points-stand, last_found}
use Rattle.journal.proofs.opened.step_back.Goals as goal
use Rattle.journal.proofs.opened.step_back.Goals.{After-last_trailer-found, In-Some, Start}

abbrev searching : In-Some → After-last_trailer-found
searching c = (goal.at.In-Some c).After-last_trailer-found

abbrev start : In-Some → Start
start c = (goal.at.In-Some c).Start

found : (c : In-Some) → let w = (start c).args.window.now in
    last_in w (start c).args.base (length w) ≡ Some (c.in-Some.p, c.in-Some.n)
found c = sym (searching c).last_trailer-found.ensures ∙ c.in-Some.is

empty-step : (base : ℕ) → base ≡ 0 → Empty ≡ stepped base None
empty-step base e = ap (λ (b : ℕ). stepped b None) (sym e)

before-step : (base : ℕ) → (base ≡ 0 → ⊥) → Before (base + 5) ≡ stepped base None
before-step zero h = absurd (h (omega arith))
before-step (suc b) h = refl

pub overflow_add-result : goal.overflow_add-result
overflow_add-result c =
    let f = last_found _ _ _ (found c) in
    record { fits = omega (arith, points-stand _ _ _ f.0, (start c).requires) }

pub overflow_sub-result : goal.overflow_sub-result
overflow_sub-result c = let f = last_found _ _ _ (found c) in omega (arith, f.0.within, f.1)

pub returns-then-base-eq0 : goal.returns-then-base-eq0
unfolding step_in
returns-then-base-eq0 c =
    let s = (goal.at.returns-then-base-eq0 c).After-last_trailer-found in
    empty-step s.args.base c.if-base-eq0.true
    ∙ sym (ap (stepped s.args.base) (sym s.last_trailer-found.ensures ∙ c.in-None.is))

pub returns-in-Some : goal.returns-in-Some
unfolding step_in
returns-in-Some c = sym (ap (stepped (start c).args.base) (found c))

pub returns-else-base-eq0 : goal.returns-else-base-eq0
unfolding step_in
returns-else-base-eq0 c =
    let s = (goal.at.returns-else-base-eq0 c).After-last_trailer-found in
    before-step s.args.base c.if-base-eq0.false
    ∙ sym (ap (stepped s.args.base) (sym s.last_trailer-found.ensures ∙ c.in-None.is))
