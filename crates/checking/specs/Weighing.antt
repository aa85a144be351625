-- A claimed row by its heading and its cells, and beside the working row of its entry.
use Rattle.calendar.specs.declared.Refusal.{Refusal}
use Rattle.std.specs.Prelude.{◌≡◌, Bool, true, cond, List, ℕ, ◌*◌, ◌≤◌, ℤ, pos, ◌≤ℤ◌, length, Err, Ok, Result, None, Option}
use Rattle.integers.specs.Parts.{up}
use Rattle.calendar.specs.Limits.{pool_limit}
use Rattle.calendar.specs.Meaning.{Row}
use Rattle.calendar.specs.Operation.{Operation}
use Rattle.calendar.specs.Distance.{size}
use Rattle.calendar.specs.Checks.{unlabelled, labels_in_range}
use Rattle.calendar.specs.declared.Refusal.TheVariants.{NothingLabelled, LabelOutsideLimits}
use Rattle.kinds.specs.declared.Kind.{Kind}
use Rattle.kinds.specs.declared.Operand.{Operand}
use Rattle.kinds.specs.Stands.{end, row_in}
use Rattle.fill_shared.specs.Fillable.{Fillable}
use Rattle.fill_shared.specs.Placed.{over}
use Rattle.match_shared.specs.Matching.{agree}
use Rattle.operand_checks.specs.declared.Extent.{Extent}
use Rattle.operand_checks.specs.Admission.{extent}
use Rattle.conversion.specs.Shows.{period_at, distance_at}
use Rattle.standing.specs.Tests.{row_stands}

-- a turn is a whole number of turns of p and n
abbrev pub Multiple : ℕ → ℕ → ℕ → ℕ → Type 0
Multiple period distance p n = (c : ℕ) × (period ≡ p * c) × (distance ≡ n * c)

-- the claimed row of the entry k may be right, whose working row reaches so far
pub record MayBeRight (x : Extent) (k used : ℕ) (headings : List ℕ) (pool : List ℤ) : Type 0 where
  pub stands : row_stands headings pool k used ≡ true
  pub turns : Multiple (up x.period) (up x.distance) (period_at headings k) (distance_at headings k)

-- an operation over rows of a pool that has passed the checks before its working row is made
pub record Weighable (kind : Kind) (x : Extent) (a b : Operand) (pool : List ℤ) : Type 0 where
  pub fillable : Fillable kind (row_in pool a) (row_in pool b)
  pub a-period : pos 0 ≤ℤ a.period
  pub b-period : pos 0 ≤ℤ b.period
  pub a-end : end a ≤ length pool
  pub b_end : end b ≤ length pool
  pub room : (size (over kind pool a b)).period ≤ length pool
  pub at-most : length pool ≤ pool_limit
  pub is : extent (over kind pool a b) ≡ x

-- by what a comparison comes to, with a row that may be right or not
abbrev pub judged_as : Result Bool Refusal → Option ℕ → Result (Option ℕ) Refusal
judged_as (Err x) claim = Err x
judged_as (Ok same) claim = Ok (cond same claim None)

-- checks 12 and 11; then r is right if it may be and agrees with the working row
abbrev pub weighed : Operation Row → Row → Option ℕ → Result (Option ℕ) Refusal
weighed o r claim =
    cond (unlabelled o) (Err NothingLabelled)
    (cond (labels_in_range o) (Ok (cond (agree o r (size o).period) claim None)) (Err LabelOutsideLimits))
