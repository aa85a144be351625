-- The span of an operation and its working period (document 01, "How much room an entry takes"), from the periods and distances of
-- its operands.
use Rattle.std.specs.Prelude.{ℕ, ◌*◌, ◌/◌, ℤ, pos, ◌+ℤ◌, ◌*ℤ◌}
use Rattle.integers.specs.Parts.{up}
use Rattle.integers.specs.Gcd.{gcd, lcm, euclid}
use Rattle.calendar.specs.Meaning.{Row}
use Rattle.calendar.specs.Operation.{Unary, Binary, Operation}
use Rattle.calendar.specs.Operation.Unary.{group, shift, renumber}
use Rattle.calendar.specs.Operation.Binary.{alter, combine, anchor, select, by-labels}
use Rattle.calendar.specs.Operation.Operation.{bottom, unary, binary}

-- a period with its distance
pub record Turn : Type 0 where
  pub period : ℕ
  pub distance : ℕ

abbrev pub turn : Row → Turn
turn r = record { period = r.period; distance = r.distance }

-- ---- the span

-- "Span = lcm(Pa, Pb); one operand: Pa; bottom: 1."
unfoldable pub span_of : Turn → Turn → ℕ
unfolding gcd lcm euclid
span_of a b = lcm a.period b.period

unfoldable pub span : Operation Turn → ℕ
unfolding span_of
span bottom = 1
span (unary u a) = a.period
span (binary o a b) = span_of a b

-- how far the labels rise over s instants, a multiple of the period
abbrev pub rise : Turn → ℕ → ℕ
rise a s = a.distance * (s / a.period)

-- ---- alter

-- "n = lcm(A, x)", A being how far b's labels rise over the span
unfoldable pub coarse : Turn → Turn → ℕ → ℕ
unfolding span_of gcd lcm euclid
coarse a b x = lcm (rise b (span_of a b)) x

-- "D = (n/A)·B + z·n/x", B being how far a's labels rise over the span
unfoldable pub fine : Turn → Turn → ℕ → ℤ → ℤ
unfolding coarse span_of
fine a b x z =
    let n = coarse a b x in
    pos (n / rise b (span_of a b) * rise a (span_of a b)) +ℤ z *ℤ pos (n / x)

-- "r = Na/gcd(D, Na); the working period is Pa·r·D/Na and its distance r·n"
unfoldable pub alter_turn : Turn → Turn → ℕ → ℤ → Turn
unfolding fine coarse gcd euclid
alter_turn a b x z =
    let d = up (fine a b x z) in
    let r = a.distance / gcd d a.distance in
    record { period = a.period * r * d / a.distance; distance = r * coarse a b x }

-- ---- the working period

-- "group, Pa·x/gcd(x, Na)"
abbrev pub period_unary : Unary → Turn → ℕ
period_unary (group x) a = a.period * x / gcd x a.distance
period_unary (shift x) a = a.period
period_unary (renumber x) a = a.period

abbrev pub period_binary : Binary → Turn → Turn → ℕ
period_binary (alter x y z) a b = (alter_turn a b x z).period
period_binary combine a b = span_of a b
period_binary anchor a b = span_of a b
period_binary (select s) a b = span_of a b
period_binary (by-labels s) a b = span_of a b

-- "Working period: the span, except group .. and alter."
unfoldable pub working_period : Operation Turn → ℕ
unfolding gcd euclid span_of alter_turn
working_period bottom = 1
working_period (unary u a) = period_unary u a
working_period (binary o a b) = period_binary o a b
