-- Two valid rows over their span: it is whole turns of each, over which the labels rise.
use mathlib.Core.Path.{◌≡◌, sym, ◌∙◌, ap}
use Prim.Native.Nat.{ℕ, ◌≤◌, ◌*◌, ◌/◌, ◌∣◌}
use native.Mathlib.Nat.{mul-div_cancel', mul-div-le, mul-le-mul_right, le_of_dvd, le-div_iff_mul-le, mul-pos}
use native.Mathlib.Omega.{arith}
use lib.IntN.{pos, ◌+ℤ◌}
use Rattle.integers.proofs.Divisors.{lcm-dvd, lcm-pos}
use Rattle.calendar.specs.Meaning.{Row, meant, Repeats}
use Rattle.calendar.specs.Size.{Turn, turn, span_of, rise}
use Rattle.granules.specs.Valid.{Valid}
use Rattle.granules.proofs.Calendars.{repeats_many}
use Rattle.granules.proofs.Rows.{meant-repeats}

span-dvd : (a b : Turn) → (a.period ∣ span_of a b) × (b.period ∣ span_of a b)
unfolding span_of
span-dvd a b = lcm-dvd a.period b.period

span_pos : (a b : Turn) → 1 ≤ a.period → 1 ≤ b.period → 1 ≤ span_of a b
unfolding span_of
span_pos a b = lcm-pos a.period b.period

-- labels rise by at most one an instant
pub rise-at-most : (a : Turn) (s : ℕ) → a.distance ≤ a.period → rise a s ≤ s
rise-at-most a s h = omega (arith, mul-le-mul_right (s / a.period) h, mul-div-le s a.period)

-- a row over s instants, a multiple of its period
module _ (r : Row) (v : Valid r) (s : ℕ) (above : 1 ≤ s) (d : r.period ∣ s) where
  rise-over : 1 ≤ rise (turn r) s
  rise-over = mul-pos v.positive.1 ((le-div_iff_mul-le v.positive.0).1 (omega (arith, le_of_dvd above d)))

  repeats-over : Repeats s (rise (turn r) s) (meant r)
  repeats-over t =
      ap (λ (n : ℕ). meant r (t +ℤ pos n)) (sym (mul-div_cancel' r.period d))
      ∙ repeats_many (meant r) r.period r.distance (meant-repeats r v.positive.0) (pos (s / r.period)) t

module _ (a b : Row) (va : Valid a) (vb : Valid b) where
  pub span-positive : 1 ≤ span_of (turn a) (turn b)
  span-positive = span_pos (turn a) (turn b) va.positive.0 vb.positive.0

  -- the span is so many turns of a, and of b
  pub span_left : a.period * (span_of (turn a) (turn b) / a.period) ≡ span_of (turn a) (turn b)
  span_left = mul-div_cancel' a.period (span-dvd (turn a) (turn b)).0

  pub span_right : b.period * (span_of (turn a) (turn b) / b.period) ≡ span_of (turn a) (turn b)
  span_right = mul-div_cancel' b.period (span-dvd (turn a) (turn b)).1

  pub rise-positive : 1 ≤ rise (turn a) (span_of (turn a) (turn b))
  rise-positive = rise-over a va (span_of (turn a) (turn b)) span-positive (span-dvd (turn a) (turn b)).0

  pub rise-positive-right : 1 ≤ rise (turn b) (span_of (turn a) (turn b))
  rise-positive-right = rise-over b vb (span_of (turn a) (turn b)) span-positive (span-dvd (turn a) (turn b)).1

  pub repeats-left : Repeats (span_of (turn a) (turn b)) (rise (turn a) (span_of (turn a) (turn b))) (meant a)
  repeats-left = repeats-over a va (span_of (turn a) (turn b)) span-positive (span-dvd (turn a) (turn b)).0

  pub repeats-right : Repeats (span_of (turn a) (turn b)) (rise (turn b) (span_of (turn a) (turn b))) (meant b)
  repeats-right = repeats-over b vb (span_of (turn a) (turn b)) span-positive (span-dvd (turn a) (turn b)).1
