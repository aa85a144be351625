-- `journal::search::body_length` meets its contract, case by case.
-- Assumes nothing.
use mathlib.Core.Path.{◌∙◌}
use native.Mathlib.Omega.{arith}
use Rattle.journal.proofs.Trailers.{Points, points-stand, body-none, body-of, from_place}
use Rattle.journal.proofs.search.body_length.Goals as goal
use Rattle.journal.proofs.search.body_length.Goals.{then-a-ge128-via-then-a-ge128, then-a-ge128-via-else-a-ge128+then-b-ge128, then-a-ge128-via-else-a-ge128+else-b-ge128+then-c-ge128, then-a-ge128-via-else-a-ge128+else-b-ge128+else-c-ge128+then-d-ge128, then-n-eq0-via-then-n-eq0, then-n-eq0-via-else-n-eq0+then-n-gt4096, then-n-eq0-via-else-n-eq0+else-n-gt4096+then-base-saturating_sub}

pub returns-in_err-get : goal.returns-in_err-get
returns-in_err-get c =
    c.from_residual.ensures ∙ body-none _ _ _ (λ f. let s = points-stand _ _ _ f in omega (arith, c.in_err-get.ensures.lookup))

pub returns-in_default : goal.returns-in_default
returns-in_default c =
    body-none _ _ _ (λ f. let s = points-stand _ _ _ f in omega (arith, c.in_ok-get.ensures.lookup.0.3, c.in_default.len_below))

pub returns-in_default-2 : goal.returns-in_default-2
returns-in_default-2 c =
    let g = c.in_ok-get.ensures.lookup.0 in
    let v = from_place _ _ _ g.2 g.3 in
    body-none _ _ _ (λ f. omega arith)

pub returns-in_default-3 : goal.returns-in_default-3
returns-in_default-3 c =
    let g = c.in_ok-get.ensures.lookup.0 in
    let v = from_place _ _ _ g.2 g.3 in
    body-none _ _ _ (λ f. omega arith)

pub returns-then-a-ge128 : goal.returns-then-a-ge128
returns-then-a-ge128 c =
    let g = c.in_ok-get.ensures.lookup.0 in
    let v = from_place _ _ _ g.2 g.3 in
    elim c.then-a-ge128.branch [
      | then-a-ge128-via-then-a-ge128 w ↦ body-none _ _ _ (λ f. omega arith)
      | then-a-ge128-via-else-a-ge128+then-b-ge128 w ↦ body-none _ _ _ (λ f. omega arith)
      | then-a-ge128-via-else-a-ge128+else-b-ge128+then-c-ge128 w ↦ body-none _ _ _ (λ f. omega arith)
      | then-a-ge128-via-else-a-ge128+else-b-ge128+else-c-ge128+then-d-ge128 w ↦ body-none _ _ _ (λ f. omega arith)
    ]

pub returns-then-n-eq0 : goal.returns-then-n-eq0
returns-then-n-eq0 c =
    let g = c.in_ok-get.ensures.lookup.0 in
    let v = from_place _ _ _ g.2 g.3 in
    elim c.then-n-eq0.branch [
      | then-n-eq0-via-then-n-eq0 w ↦ body-none _ _ _ (λ f. omega arith)
      | then-n-eq0-via-else-n-eq0+then-n-gt4096 w ↦ body-none _ _ _ (λ f. omega arith)
      | then-n-eq0-via-else-n-eq0+else-n-gt4096+then-base-saturating_sub w ↦ body-none _ _ _ (λ f. omega arith)
    ]

pub returns : goal.returns
returns c =
    let a = c.args in
    let g = c.in_ok-get.ensures.lookup.0 in
    let v = from_place _ _ _ g.2 g.3 in
    let f : Points a.window.now a.base a.p = record {
      marked = record { start = omega arith; a = omega arith; b = omega arith; c = omega arith; d = omega arith; end = omega arith };
      positive = omega arith;
      short = omega arith;
      within = omega arith;
    } in
    body-of _ _ _ _ (omega arith) f
