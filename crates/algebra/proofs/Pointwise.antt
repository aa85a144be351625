-- Bottom, group and shift: the label of an instant depends on its label alone.
use mathlib.Core.Path.{◌≡◌, refl, sym, ◌∙◌, ap}
use mathlib.Core.Option.{some}
use Prim.Native.Nat.{ℕ, ◌≤◌, ◌*◌, ◌/◌, ◌∣◌}
use native.Mathlib.Nat.{mul-div_assoc, mul-div_cancel', le-div_iff_mul-le, le_of_dvd, pos_of_dvd_of_pos, mul-pos}
use native.Mathlib.Omega.{arith}
use lib.IntN.{ℤ, pos, ◌+ℤ◌}
use Rattle.integers.specs.Floor.{ceil_div}
use Rattle.integers.specs.Gcd.{gcd}
use Rattle.integers.proofs.Linear.{ints, ◌∴◌}
use Rattle.integers.proofs.Floor.{ceil_div-shift, ceil-mono}
use Rattle.integers.proofs.Divisors.{gcd-dvd}
use Rattle.calendar.specs.Meaning.{Row, meant}
use Rattle.calendar.specs.Operation.Unary.{group, shift}
use Rattle.calendar.specs.Operation.Operation.{bottom, unary}
use Rattle.calendar.specs.Distance.{size}
use Rattle.calendar.specs.Compute.{result}
use Rattle.granules.proofs.Tests.{some_inj}
use Rattle.granules.proofs.Rows.{meant-repeats}
use Rattle.algebra.specs.Ready.{Ready, Right}
use Rattle.algebra.proofs.Labels.{repeats-times, mapped-iff, mapped-ordered, mapped-repeats}

-- ---- bottom

pub bottom-right : Right bottom
unfolding result size
bottom-right = record {
  labels = λ t i. (λ e. sym (some_inj e), λ e. ap some (sym e));
  ordered = λ s t i j h e f. h ∴ some_inj e ∴ some_inj f ∴ simp ints (omega arith);
  repeats = λ t. refl;
  positive = (omega arith, omega arith);
}

-- ---- group

-- x / gcd x N periods on, the labels rise by x * (N / gcd x N)
group-rise : (x N : ℕ) → N * (x / gcd x N) ≡ x * (N / gcd x N)
group-rise x N =
    let g = gcd x N in
    let d = gcd-dvd x N in
    omega (arith, ap (λ (k : ℕ). k * (x / g)) (mul-div_cancel' g d.1), ap (λ (k : ℕ). k * (N / g)) (mul-div_cancel' g d.0))

group-step : (x N : ℕ) → 1 ≤ x → (j : ℤ) → ceil_div (j +ℤ pos (N * (x / gcd x N))) x ≡ ceil_div j x +ℤ pos (N / gcd x N)
group-step x N p j =
    ap (λ (k : ℕ). ceil_div (j +ℤ pos k) x) (group-rise x N)
    ∙ ceil_div-shift x p j (pos (N / gcd x N))

-- what is divided by a divisor stays above zero
pub div-pos : (d n : ℕ) → d ∣ n → 1 ≤ n → 1 ≤ n / d
div-pos d n h p = (le-div_iff_mul-le (pos_of_dvd_of_pos h p)).1 (omega (arith, le_of_dvd p h))

pub group-period : (x : ℕ) (a : Row) → (size (unary (group x) a)).period ≡ a.period * (x / gcd x a.distance)
unfolding size
group-period x a = mul-div_assoc (gcd x a.distance) a.period (gcd-dvd x a.distance).0

pub group-right : (x : ℕ) (a : Row) → Ready (unary (group x) a) → Right (unary (group x) a)
unfolding result size
group-right x a h =
    let N = a.distance in
    let g = gcd x N in
    let y = x / g in
    let f : ℤ → ℤ = λ j. ceil_div j x in
    let r = repeats-times (meant a) a.period N (meant-repeats a h.valid.positive.0) y in
    let p = mul-pos h.valid.positive.0 (div-pos g x (gcd-dvd x N).0 h.factor) in
    record {
      labels = λ t i. mapped-iff f (meant a t) i;
      ordered = mapped-ordered f (meant a) (λ i j p q. ceil-mono x h.factor) h.valid.ordered;
      repeats = rw (group-period x a) (mapped-repeats f (meant a) (a.period * y) (N * y) (N / g) (λ j p. group-step x N h.factor j) r);
      positive = (rw (group-period x a) p, div-pos g N (gcd-dvd x N).1 h.valid.positive.1);
    }

-- ---- shift

pub shift-right : (x : ℤ) (a : Row) → Ready (unary (shift x) a) → Right (unary (shift x) a)
unfolding result size
shift-right x a h =
    let N = a.distance in
    let f : ℤ → ℤ = λ j. j +ℤ x in
    record {
      labels = λ t i. mapped-iff f (meant a t) i;
      ordered = mapped-ordered f (meant a) (λ i j p q. simp ints (omega arith)) h.valid.ordered;
      repeats = mapped-repeats f (meant a) a.period N N (λ j p. simp ints (omega arith)) (meant-repeats a h.valid.positive.0);
      positive = h.valid.positive;
    }
