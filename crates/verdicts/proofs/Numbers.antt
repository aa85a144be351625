-- Heading and row of an entry, number by number.
-- Assumes nothing.
use mathlib.Core.Path.{◌≡◌, refl, sym, ◌∙◌, ap, ap₂}
use mathlib.Core.Logic.{◌↔◌}
use mathlib.Core.Bool.{true, ◌&&◌}
use mathlib.Core.List.{List, [], ◌∷◌}
use Prim.Native.Nat.{ℕ, suc, ◌+◌, ◌*◌, ◌≤◌}
use native.Mathlib.Omega.{arith}
use lib.Dec.{eqb}
use lib.IntN.{ℤ}
use lib.ListN.{length, take, drop}
use lib.Seq.{drop-cons}
use Rattle.calendar.specs.Limits.{heading_length}
use Rattle.calendar.specs.Meaning.{Row}
use Rattle.calendar.specs.Lists.{equal}
use Rattle.calendar.specs.Granules.{granules}
use Rattle.calendar.specs.Stored.{headings_from}
use Rattle.granules.proofs.Tests.{and-iff, eqb-iff, equal-iff}
use Rattle.granules.proofs.Equal.{row-ext}
use Rattle.conversion.specs.Shows.{start_at, period_at, distance_at, granules_at, row_at}
use Rattle.standing.specs.Standing.{alike}
use Rattle.standing.proofs.Alike.{alike-iff}
use Rattle.verdicts.specs.Check.{stands}

module _ (headings : List ℕ) (pool : List ℤ) (k used : ℕ) (b : heading_length * k + heading_length ≤ length headings) where
  abbrev numbers : List ℕ
  numbers = start_at headings k ∷ period_at headings k ∷ distance_at headings k ∷ granules_at headings k ∷ []

  abbrev row : Row
  row = row_at headings pool k

  -- the four numbers of the heading
  four : take heading_length (drop (heading_length * k) headings) ≡ numbers
  four =
      ap (take heading_length)
      (drop-cons headings (heading_length * k) 0 (omega arith)
      ∙ ap (start_at headings k ∷◌) (at (heading_length * k) (heading_length * k + 1) (omega arith) ∙ drop-cons headings (heading_length * k + 1) 0 (omega arith)
      ∙ ap (period_at headings k ∷◌) (at (heading_length * k + 1) (heading_length * k + 2) (omega arith) ∙ drop-cons headings (heading_length * k + 2) 0 (omega arith)
      ∙ ap (distance_at headings k ∷◌) (at (heading_length * k + 2) (heading_length * k + 3) (omega arith) ∙ drop-cons headings (heading_length * k + 3) 0 (omega arith)))))
    where
      at : (i j : ℕ) → suc i ≡ j → drop (suc i) headings ≡ drop j headings
      at i j e = ap (λ (n : ℕ). drop n headings) e

  -- the heading and the row of the entry are those of r
  abbrev pub Is : Row → Type 0
  Is r = (start_at headings k ≡ used) × (row ≡ r) × (granules_at headings k ≡ granules r)

  stands-is : (r : Row) → stands headings pool k used r
      ≡ alike eqb (take heading_length (drop (heading_length * k) headings)) (headings_from used (r ∷ [])) && alike equal (take r.period (drop used pool)) r.cells
  unfolding stands
  stands-is r = refl

  pub stands-numbers : (r : Row) → (stands headings pool k used r ≡ true) ↔ Is r
  stands-numbers r =
      let h = take heading_length (drop (heading_length * k) headings) in
      let c = take r.period (drop used pool) in
      let a = and-iff (alike eqb h (headings_from used (r ∷ []))) (alike equal c r.cells) in
      let x = alike-iff eqb eqb-iff h (headings_from used (r ∷ [])) in
      let y = alike-iff equal equal-iff c r.cells in (
        λ e.
            let q = a.0 (sym (stands-is r) ∙ e) in
            let n : numbers ≡ headings_from used (r ∷ []) = sym four ∙ x.0 q.0 in
            let start : start_at headings k ≡ used = cc n in
            let period : period_at headings k ≡ r.period = cc n in
            let distance : distance_at headings k ≡ r.distance = cc n in
            let count : granules_at headings k ≡ granules r = cc n in (
              start,
              row-ext row r period distance (ap₂ (λ (i j : ℕ). take i (drop j pool)) period start ∙ y.0 q.1),
              count,
            ),
        λ (start, same, count).
            let period : period_at headings k ≡ r.period = ap (λ (s : Row). s.period) same in
            let distance : distance_at headings k ≡ r.distance = ap (λ (s : Row). s.distance) same in
            let n : numbers ≡ headings_from used (r ∷ []) = cc in
            let cells : c ≡ r.cells = ap₂ (λ (i j : ℕ). take i (drop j pool)) (sym period) (sym start) ∙ ap (λ (s : Row). s.cells) same in
            stands-is r ∙ a.1 (x.1 (four ∙ n), y.1 cells),
      )
