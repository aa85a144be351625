-- The test of a row, step by step.
-- Assumes nothing.
use Rattle.std.specs.Prelude.{is_some}
use Rattle.std.specs.Bool.{then_some}
use mathlib.Core.Path.{◌≡◌, refl, sym, ◌∙◌, ap, ap₂}
use mathlib.Core.Logic.{◌⊎◌, inl, inr}
use mathlib.Core.List.{List}
use mathlib.Core.Bool.{Bool, true, false, ◌&&◌}
use Prim.Native.Nat.{ℕ, ◌+◌, ◌-◌, ◌≤◌, ◌<◌, min}
use native.Mathlib.Nat.{min-le_right}
use native.Mathlib.Omega.{arith}
use lib.Dec.{eqb}
use lib.IntN.{ℤ, pos}
use lib.ListN.{length, take, drop, length-take, length-drop}
use Rattle.calendar.specs.Meaning.{Row}
use Rattle.calendar.specs.Granules.{granules}
use Rattle.calendar.specs.Sound.{sound}
use Rattle.calendar.specs.Least.{least}
use Rattle.calendar.specs.Questions.{given}
use Rattle.granules.proofs.Tests.{true-or-false, false-iff, and-iff, eqb-iff, test-ext}
use Rattle.granules.proofs.Sound.{sound-valid}
use Rattle.conversion.specs.Shows.{start_at, period_at, distance_at, granules_at, row_at}
use Rattle.standing.specs.Standing.{is_least}
use Rattle.standing.specs.Tests.{is_counted, row_stands}

counted_is : (r : Row) (n : ℕ) → is_counted r n ≡ (sound r && eqb (least r).period r.period) && eqb (granules r) n
unfolding is_counted is_least
counted_is r n = refl

and-false : (a : Bool) → a && false ≡ false
and-false true = refl
and-false false = refl

-- an answer that a test gives
pub some-tests : (b : Bool) (n : ℕ) → is_some (then_some b n) ≡ b
some-tests true n = refl
some-tests false n = refl

module _ (r : Row) (n : ℕ) where
  abbrev lasts : Bool
  lasts = eqb (least r).period r.period

  abbrev counts : Bool
  counts = eqb (granules r) n

  pub not_sound : sound r ≡ false → false ≡ is_counted r n
  not_sound e = sym (counted_is r n ∙ ap (λ (b : Bool). (b && lasts) && counts) e)

  pub other-count : counts ≡ false → false ≡ is_counted r n
  other-count e = sym (counted_is r n ∙ ap (λ (b : Bool). (sound r && lasts) && b) e ∙ and-false (sound r && lasts))

  pub least-decides : sound r ≡ true → counts ≡ true → lasts ≡ is_counted r n
  least-decides s e =
      sym (counted_is r n ∙ ap₂ (λ (a b : Bool). (a && lasts) && b) s e ∙ test-ext (λ q. ((and-iff lasts true).0 q).0) (λ q. (and-iff lasts true).1 (q, refl)))

-- ---- a row by its heading

stands-is : (h : List ℕ) (p : List ℤ) (k used : ℕ) → row_stands h p k used ≡ eqb (start_at h k) used && is_counted (row_at h p k) (granules_at h k)
unfolding row_stands
stands-is h p k used = refl

pub starts-elsewhere : (h : List ℕ) (p : List ℤ) (k used : ℕ) → ¬ (start_at h k ≡ used) → false ≡ row_stands h p k used
starts-elsewhere h p k used n =
    sym (stands-is h p k used ∙ ap (λ (b : Bool). b && is_counted (row_at h p k) (granules_at h k)) ((false-iff (eqb-iff (start_at h k) used)).1 n))

module _ (h : List ℕ) (p : List ℤ) (k used : ℕ) (e : start_at h k ≡ used) where
  abbrev P : ℕ
  P = period_at h k

  here : row_stands h p k used ≡ is_counted (row_at h p k) (granules_at h k)
  here = stands-is h p k used ∙ ap (λ (b : Bool). b && is_counted (row_at h p k) (granules_at h k)) ((eqb-iff (start_at h k) used).1 e)

  -- its cells are a part of the pool
  cells_are : take (used + P - used) (drop used p) ≡ (row_at h p k).cells
  cells_are =
      let same : used + P - used ≡ P = omega arith in
      ap₂ (λ (m n : ℕ). take m (drop n p)) same (sym e)

  pub stands_here : is_counted (given (pos P) (pos (distance_at h k)) (take (used + P - used) (drop used p))) (granules_at h k) ≡ row_stands h p k used
  stands_here =
      ap (λ (c : List ℤ). is_counted (record { period = P; distance = distance_at h k; cells = c }) (granules_at h k)) cells_are ∙ sym here

  -- a row that does not lie in the pool
  pub stands-outside : used ≤ length p → length p - used < P → false ≡ row_stands h p k used
  stands-outside b c = not_sound (row_at h p k) (granules_at h k) (by (true-or-false (sound (row_at h p k)))) ∙ sym here
    where
      short : ¬ (length (row_at h p k).cells ≡ P)
      short q =
          let l = ap (λ (x : List ℤ). length x) (sym cells_are) ∙ length-take (used + P - used) (drop used p) in
          let m : min (used + P - used) (length (drop used p)) ≤ length (drop used p) = min-le_right (used + P - used) (length (drop used p)) in
          omega (arith, l, m, length-drop used p)

      by : (sound (row_at h p k) ≡ true) ⊎ (sound (row_at h p k) ≡ false) → sound (row_at h p k) ≡ false
      by (inl s) = absurd (short (sound-valid (row_at h p k) s).whole)
      by (inr s) = s
