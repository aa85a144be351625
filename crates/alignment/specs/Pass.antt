-- The rows of a pass, and where it starts.
use Rattle.std.specs.Prelude.{◌≡◌, Bool, true, false, ℤ, pos, ◌≤ℤ◌, ◌<ℤ◌}
use Rattle.std.proofs.Math.Option.{some}
use Rattle.calendar.specs.Limits.{pool_limit}
use Rattle.calendar.specs.Meaning.{Row, meant}
use Rattle.calendar.specs.Operation.{Alignment}
use Rattle.calendar.specs.Operation.Alignment.{free, partition, subcalendar, compatible}
use Rattle.calendar.specs.Size.{turn, span_of, rise}

-- span is that of a and b, and no longer than a period may be
pub record Spanned (a b : Row) (span : ℤ) : Type 0 where
  pub is-span : span ≡ pos (span_of (turn a) (turn b))
  pub at-most : span ≤ℤ pos pool_limit

-- whether an alignment asks nothing
abbrev pub is_free : Alignment → Bool
is_free free = true
is_free partition = false
is_free subcalendar = false
is_free compatible = false

-- whether an alignment asks that a's labels rise as far as b's
abbrev pub asks_rise : Alignment → Bool
asks_rise free = false
asks_rise partition = false
asks_rise subcalendar = true
asks_rise compatible = true

-- whether it is that of the set operations
abbrev pub is_compatible : Alignment → Bool
is_compatible free = false
is_compatible partition = false
is_compatible subcalendar = false
is_compatible compatible = true

-- over the span they do, where the alignment asks that
abbrev pub RiseAlike : Alignment → Row → Row → Type 0
RiseAlike free a b = Unit {0}
RiseAlike partition a b = Unit {0}
RiseAlike subcalendar a b = rise (turn a) (span_of (turn a) (turn b)) ≡ rise (turn b) (span_of (turn a) (turn b))
RiseAlike compatible a b = rise (turn a) (span_of (turn a) (turn b)) ≡ rise (turn b) (span_of (turn a) (turn b))

-- t is an instant of the row's first turn that has a label
pub record Starts (r : Row) (t : ℤ) : Type 0 where
  pub low : pos 0 ≤ℤ t
  pub high : t <ℤ pos r.period
  pub labelled : (j : ℤ) × (meant r t ≡ some j)

-- every instant has a label
abbrev pub Whole : Row → Type 0
Whole r = (t : ℤ) → (j : ℤ) × (meant r t ≡ some j)

-- the limits of a sound row's numbers
pub record Limited (period distance : ℤ) : Type 0 where
  pub low : pos 1 ≤ℤ distance
  pub middle : distance ≤ℤ period
  pub high : period ≤ℤ pos pool_limit
