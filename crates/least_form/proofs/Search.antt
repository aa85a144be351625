-- The search for the number of turns of the least row, over the divisors of gcd(P, N, R) from the greatest down.
-- Assumes nothing.
use mathlib.Core.Path.{◌≡◌, refl, ◌∙◌, ap, subst}
use mathlib.Core.Bool.{true}
use Prim.Native.Nat.{ℕ, suc, ◌+◌, ◌-◌, ◌*◌, ◌/◌, ◌≤◌, ◌<◌, ◌∣◌}
use native.Mathlib.Nat.{le_of_dvd, dvd_refl, one-dvd, div-one}
use native.Mathlib.Omega.{arith}
use Rattle.calendar.specs.Meaning.{Row}
use Rattle.calendar.specs.Least.{least, repeats_after}
use Rattle.calendar.specs.Tries.{divisors, tried_of, common, tries}
use Rattle.granules.specs.Valid.{Valid}
use Rattle.granules.proofs.Tests.{false-iff}
use Rattle.granules.proofs.Rows.{meant-repeats}
use Rattle.granules.proofs.Least.{repeats_after-iff}
use Rattle.least_form.specs.Divisors.{Greatest}
use Rattle.least_form.proofs.Divisors.{factor-dvd}
use Rattle.least_form.proofs.Common.{common-pos}
use Rattle.least_form.proofs.Turns.{Passes, Turns, turns, count-least, count-common, count-passes, passes-le}
use Rattle.least_form.proofs.Trying.{divisors-take, divisors-down, cells-test}

-- the divisors above m were tried, and the cells passed with none of them; m is the next, and `tried` counts it
pub record Searched (r : Row) (m tried : ℕ) : Type 0 where
  pub above : 1 ≤ m
  pub divides : m ∣ common r
  pub none : (t : Turns r) → t.count ≤ m
  pub left : tried + tried_of r (divisors (common r) m) ≡ suc (tries r)
  pub few : tried + m ≤ suc (common r)

-- the search has come to its end
pub record Found (r : Row) (period tried : ℕ) : Type 0 where
  pub least-is : period ≡ (least r).period
  pub tries-is : tried ≡ tries r

tries-all : (r : Row) → tries r ≡ tried_of r (divisors (common r) (common r))
unfolding tries
tries-all r = refl

module _ (r : Row) (v : Valid r) where
  pub search-start : Searched r (common r) 1
  search-start = record {
    above = common-pos r v;
    divides = dvd_refl (common r);
    none = λ t. le_of_dvd (common-pos r v) (count-common r v t);
    left = omega (arith, tries-all r);
    few = omega arith;
  }

  -- the number that is tried last
  last : (m tried : ℕ) → Searched r m tried → repeats_after r (r.period / m) ≡ true → tried ≡ tries r
  last m tried s e =
      let next = divisors-take (common r) m s.above s.divides in
      let l : tried_of r (divisors (common r) m) ≡ 1 = ap (tried_of r) next ∙ rw (e, tried_of) in
      omega (arith, s.left, l)

  pub search-found : (m tried : ℕ) → Searched r m tried → Passes r m → Found r (r.period / m) tried
  search-found m tried s h =
      let t = turns r v in
      let e : m ≡ t.count = omega (arith, s.none t, passes-le r v t m s.divides h) in
      record {
        least-is = ap (λ (k : ℕ). r.period / k) e ∙ count-least r v t;
        tries-is = last m tried s ((cells-test r v m s.divides).1 h);
      }

  pub search-next : (m d tried : ℕ) → Searched r m tried → 1 < m → ¬ Passes r m → Greatest (common r) (m - 1) d → Searched r d (tried + 1)
  search-next m d tried s more f h = record {
    above = h.greatest 1 (one-dvd (common r)) (omega arith);
    divides = h.divides;
    none = λ t. h.greatest t.count (count-common r v t) (below t);
    left = omega (arith, s.left, passed, ap (tried_of r) (divisors-down (common r) (m - 1) d h));
    few = omega (arith, s.few, h.within);
  }
    where
      differs : (t : Turns r) → t.count ≡ m → ⊥
      differs t e = f (subst (Passes r) e (count-passes r v t))

      below : (t : Turns r) → t.count ≤ m - 1
      below t = omega (arith, s.none t, differs t)

      passed : tried_of r (divisors (common r) m) ≡ suc (tried_of r (divisors (common r) (m - 1)))
      passed =
          let e = (false-iff (cells-test r v m s.divides)).1 f in
          ap (tried_of r) (divisors-take (common r) m s.above s.divides) ∙ rw (e, tried_of)

  -- with one turn the row always repeats
  pub search-last : (m tried : ℕ) → Searched r m tried → m ≤ 1 → Found r r.period tried
  search-last m tried s l =
      let t = turns r v in
      let P = r.period in
      let count-one : t.count ≡ 1 = omega (arith, s.none t, t.above) in
      let one : m ≡ 1 = omega (arith, s.above) in
      let e : P / m ≡ P = ap (λ (k : ℕ). P / k) one ∙ div-one P in
      let repeats = (repeats_after-iff r v P v.positive.0).1 (r.distance, meant-repeats r v.positive.0) in
      record {
        least-is = omega (arith, t.period-is, ap (λ (k : ℕ). (least r).period * k) count-one);
        tries-is = last m tried s (ap (repeats_after r) e ∙ repeats);
      }

  -- the least period divides the period, and the distance falls to it in whole labels
  pub least-dvd : ((least r).period ∣ r.period) × (r.period ∣ r.distance * (least r).period)
  least-dvd =
      let t = turns r v in
      let L = (least r).period in
      let D = (least r).distance in (
        factor-dvd t.count L r.period (omega (arith, t.period-is)),
        factor-dvd D r.period (r.distance * L)
            (omega (arith, ap (λ (k : ℕ). D * k) t.period-is, ap (λ (k : ℕ). k * L) t.distance_is)),
      )
