-- Each kind computes what the algebra says; and no kind makes labels rise faster than instants pass.
use Prim.Native.Nat.{ℕ, ◌≤◌, ◌/◌}
use native.Mathlib.Nat.{mul-le-mul_left, mul-le-mul_right, div-le_self}
use native.Mathlib.Omega.{arith}
use Rattle.integers.specs.Gcd.{gcd}
use Rattle.integers.proofs.Divisors.{gcd-dvd}
use Rattle.calendar.specs.Meaning.{Row}
use Rattle.calendar.specs.Operation.{Operation}
use Rattle.calendar.specs.Operation.Unary.{group, shift, renumber}
use Rattle.calendar.specs.Operation.Binary.{alter, combine, anchor, select, by-labels}
use Rattle.calendar.specs.Operation.Operation.{bottom, unary, binary}
use Rattle.calendar.specs.Size.{turn, span_of, rise}
use Rattle.calendar.specs.Distance.{size}
use Rattle.granules.specs.Valid.{Valid}
use Rattle.granules.proofs.Count.{granules-at-most}
use Rattle.algebra.specs.Ready.{Operands, Ready, Right}
use Rattle.algebra.proofs.Span.{span_left}
use Rattle.algebra.proofs.Pointwise.{bottom-right, group-right, shift-right, group-period, div-pos}
use Rattle.algebra.proofs.Renumber.{renumber-right}
use Rattle.algebra.proofs.Combine.{combine-right}
use Rattle.algebra.proofs.Anchor.{anchor-right}
use Rattle.algebra.proofs.Select.{select-right}
use Rattle.algebra.proofs.Sets.{by-labels-right}
use Rattle.algebra.proofs.Alter.{alter-right, alter-dense}

pub right : (o : Operation Row) → Ready o → Right o
right bottom h = bottom-right
right (unary (group x) a) h = group-right x a h
right (unary (shift x) a) h = shift-right x a h
right (unary (renumber x) a) h = renumber-right x a h
right (binary (alter x y z) a b) h = alter-right x y z a b h
right (binary combine a b) h = combine-right a b h
right (binary anchor a b) h = anchor-right a b h
right (binary (select s) a b) h = select-right s a b h
right (binary (by-labels s) a b) h = by-labels-right s a b h

-- N ≤ P
abbrev Dense : Row → Type 0
Dense r = r.distance ≤ r.period

-- x / g periods, over which the labels of the groups rise by N / g
group-dense : (x : ℕ) (a : Row) → Ready (unary (group x) a) → Dense a → (size (unary (group x) a)).distance ≤ (size (unary (group x) a)).period
unfolding size
group-dense x a h d =
    let g = gcd x a.distance in
    let p = div-pos g x (gcd-dvd x a.distance).0 h.factor in
    rw (group-period x a) (omega (arith, div-le_self a.distance g, mul-le-mul_left a.period p))

-- whole turns, over which the labels rise as a's do
rise-dense : (a b : Row) → Valid a → Valid b → Dense a → rise (turn a) (span_of (turn a) (turn b)) ≤ span_of (turn a) (turn b)
rise-dense a b v w d =
    let s = span_of (turn a) (turn b) in
    omega (arith, mul-le-mul_right (s / a.period) d, span_left a b v w)

-- N ≤ P goes over from the operands to the working period
pub size-dense : (o : Operation Row) → Ready o → Operands (λ r. r.distance ≤ r.period) o → (size o).distance ≤ (size o).period
unfolding size
size-dense bottom h d = omega arith
size-dense (unary (group x) a) h d = group-dense x a h d
size-dense (unary (shift x) a) h d = d
size-dense (unary (renumber x) a) h d = omega (arith, granules-at-most a)
size-dense (binary (alter x y z) a b) h d = alter-dense x y z a b h d.0
size-dense (binary combine a b) h d = rise-dense a b h.valid.0 h.valid.1 d.0
size-dense (binary anchor a b) h d = rise-dense a b h.valid.0 h.valid.1 d.0
size-dense (binary (select s) a b) h d = rise-dense a b h.valid.0 h.valid.1 d.0
size-dense (binary (by-labels s) a b) h d = rise-dense a b h.valid.0 h.valid.1 d.0
