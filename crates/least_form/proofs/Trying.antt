-- The divisors that are tried, in order, and the test of one.
-- Assumes nothing.
use mathlib.Core.Path.{◌≡◌, ◌∙◌, ap, subst}
use mathlib.Core.Logic.{◌↔◌}
use mathlib.Core.Bool.{Bool, true, cond}
use mathlib.Core.List.{◌∷◌}
use Prim.Native.Nat.{ℕ, zero, suc, ◌-◌, ◌*◌, ◌/◌, ◌%◌, ◌≤◌, ◌∣◌}
use native.Mathlib.Nat.{div-mul_cancel, mod-eq-zero_of_dvd, dvd_of_mod-eq-zero, eq_of_mul-eq-mul_right}
use native.Mathlib.Decide.{dec_le}
use native.Mathlib.Omega.{arith}
use Rattle.calendar.specs.Meaning.{Row, meant, Repeats}
use Rattle.calendar.specs.Least.{repeats_after}
use Rattle.calendar.specs.Tries.{divisors, common}
use Rattle.granules.specs.Valid.{Valid}
use Rattle.granules.proofs.Tests.{eqb-iff, false-iff}
use Rattle.granules.proofs.Calendars.{periods-proportional}
use Rattle.granules.proofs.Rows.{meant-repeats}
use Rattle.granules.proofs.Least.{repeats_after-iff}
use Rattle.least_form.specs.Divisors.{Greatest}
use Rattle.least_form.proofs.Divisors.{factor-pos}
use Rattle.least_form.proofs.Common.{common-dvd}
use Rattle.least_form.proofs.Turns.{Passes, cells-repeat, repeats-cells}

-- ---- the divisors of a number in order

-- a divisor is the next
pub divisors-take : (g m : ℕ) → 1 ≤ m → m ∣ g → divisors g m ≡ m ∷ divisors g (m - 1)
divisors-take g zero above h = absurd (omega arith)
divisors-take g (suc n) above h =
    let e : n ≡ suc n - 1 = omega arith in
    ap (λ (b : Bool). cond b (suc n ∷ divisors g n) (divisors g n))
    ((eqb-iff (g % suc n) 0).1 (mod-eq-zero_of_dvd (suc n) h))
    ∙ ap (λ (k : ℕ). suc n ∷ divisors g k) e

divisors-skip : (g n : ℕ) → (suc n ∣ g → ⊥) → divisors g (suc n) ≡ divisors g n
divisors-skip g n f =
    ap (λ (b : Bool). cond b (suc n ∷ divisors g n) (divisors g n))
    ((false-iff (eqb-iff (g % suc n) 0)).1 (λ e. f (dvd_of_mod-eq-zero (suc n) e)))

-- between n and the greatest divisor up to n there is none
pub divisors-down : (g n d : ℕ) → Greatest g n d → divisors g n ≡ divisors g d
divisors-down g zero d h = let e : 0 ≡ d = omega (arith, h.within) in ap (divisors g) e
divisors-down g (suc n) d h = by (dec_le (suc n) d) (divisors-down g n d)
  where
    by : Dec (suc n ≤ d) → (Greatest g n d → divisors g n ≡ divisors g d) → divisors g (suc n) ≡ divisors g d
    by (yes l) down = let e : suc n ≡ d = omega (arith, h.within) in ap (divisors g) e
    by (no f) down =
        divisors-skip g n (λ k. f (h.greatest (suc n) k (omega arith)))
        ∙ down
        (record {
          divides = h.divides;
          within = omega (arith, h.within);
          greatest = λ k e l. h.greatest k e (omega arith);
        })

-- ---- the test on the cells is that of the definition

module _ (r : Row) (v : Valid r) (m : ℕ) (h : m ∣ common r) where
  abbrev q : ℕ
  q = r.period / m

  abbrev n : ℕ
  n = r.distance / m

  periods : q * m ≡ r.period
  periods = div-mul_cancel m (common-dvd r m h).0

  distances : n * m ≡ r.distance
  distances = div-mul_cancel m (common-dvd r m h).1

  q-pos : 1 ≤ q
  q-pos = factor-pos m q r.period v.positive.0 (omega (arith, periods))

  m-pos : 1 ≤ m
  m-pos = factor-pos q m r.period v.positive.0 periods

  -- the distance that falls to q instants
  falls : (k : ℕ) → Repeats q k (meant r) → k ≡ n
  falls k e =
      let p = periods-proportional (meant r) r.period r.distance q k (meant-repeats r v.positive.0) e v.label v.labelled in
      eq_of_mul-eq-mul_right q q-pos k n
      (eq_of_mul-eq-mul_right m m-pos (k * q) (n * q) (omega (arith, p, ap (λ (x : ℕ). k * x) periods, ap (λ (x : ℕ). x * q) distances)))

  pub cells-test : (repeats_after r q ≡ true) ↔ Passes r m
  cells-test = (
    λ e. let (k, f) = (repeats_after-iff r v q q-pos).0 e in
        repeats-cells r v.whole q n (subst (λ (x : ℕ). Repeats q x (meant r)) (falls k f) f),
    λ c. (repeats_after-iff r v q q-pos).1 (n, cells-repeat r v q n m periods distances c),
  )
