-- A row is so many turns of its least row. A number m of equal turns is tested on the cells alone, with no look at the next turn of the row,
-- and the greatest that passes is that of the least row.
-- Assumes nothing.
use mathlib.Core.Path.{◌≡◌, sym, ◌∙◌, ap}
use Prim.Native.Nat.{ℕ, zero, suc, ◌+◌, ◌-◌, ◌*◌, ◌/◌, ◌≤◌, ◌<◌, ◌∣◌}
use native.Mathlib.Nat.{mul-le-mul_right, le_of_mul-le-mul_left, div-eq_of_eq-mul_left, div-mul_cancel}
use native.Mathlib.Decide.{dec_le}
use native.Mathlib.Omega.{arith}
use lib.IntN.{ℤ, pos}
use lib.ListN.{length}
use Rattle.integers.proofs.Linear.{ints, ◌∴◌}
use Rattle.calendar.specs.Meaning.{Row, meant, Repeats, raise}
use Rattle.calendar.specs.Granules.{granules}
use Rattle.calendar.specs.Least.{least}
use Rattle.calendar.specs.Tries.{common}
use Rattle.granules.specs.Valid.{Valid}
use Rattle.granules.proofs.Calendars.{raise_zero, raise-raise}
use Rattle.granules.proofs.Rows.{cell_label, meant-repeats, meant-cell, valid-calendar, valid-of-least}
use Rattle.granules.proofs.Least.{repeats-of-turn, least-row, least-divides, least-repeats}
use Rattle.granules.proofs.Turns.{granules-turns}
use Rattle.least_form.specs.Cells.{RepeatsWithin}
use Rattle.least_form.proofs.Divisors.{factor-dvd, factor-pos}
use Rattle.least_form.proofs.Common.{common-dvd, common-greatest}

-- ---- the test on the cells

module _ (r : Row) (v : Valid r) (q n m : ℕ) (periods : q * m ≡ r.period) (distances : n * m ≡ r.distance) where
  -- so many steps on from a cell, within the row
  walk : RepeatsWithin r.cells q (pos n) → (i j : ℕ) → j + i * q < r.period → cell_label r (j + i * q) ≡ raise (pos (n * i)) (cell_label r j)
  walk h zero j l =
      ap (cell_label r) (omega arith)
      ∙ sym (raise_zero (cell_label r j))
      ∙ ap (λ (k : ℕ). raise (pos k) (cell_label r j)) (omega arith)
  walk h (suc i) j l =
      ap (cell_label r) (omega arith)
      ∙ h (j + i * q) (omega (arith, v.whole))
      ∙ ap (raise (pos n)) (walk h i j (omega arith))
      ∙ raise-raise (pos (n * i)) (pos n) (cell_label r j)
      ∙ ap (λ (z : ℤ). raise z (cell_label r j)) (simp ints (omega arith))

  -- the instant k, q on, is j in the next turn, from which i steps lead to k
  next : RepeatsWithin r.cells q (pos n) → (i j k : ℕ) → k < r.period → suc i ≡ m → k + q ≡ j + r.period → meant r (pos (k + q)) ≡ raise (pos n) (meant r (pos k))
  next h i j k l last e =
      let whole : q * suc i ≡ r.period = ap (λ (x : ℕ). q * x) last ∙ periods in
      let rise : n * suc i ≡ r.distance = ap (λ (x : ℕ). n * x) last ∙ distances in
      let steps : j + i * q ≡ k = omega arith in
      ap (λ (x : ℕ). meant r (pos x)) e
      ∙ meant-repeats r v.positive.0 (pos j)
      ∙ ap (raise (pos r.distance)) (meant-cell r j (omega arith))
      ∙ ap (λ (z : ℤ). raise z (cell_label r j)) (rise ∴ simp ints (omega arith))
      ∙ sym (raise-raise (pos (n * i)) (pos n) (cell_label r j))
      ∙ ap (raise (pos n)) (sym (walk h i j (omega arith)) ∙ ap (cell_label r) steps ∙ sym (meant-cell r k l))

  within : RepeatsWithin r.cells q (pos n) → (k : ℕ) → k + q < r.period → meant r (pos (k + q)) ≡ raise (pos n) (meant r (pos k))
  within h k l = meant-cell r (k + q) l ∙ h k (omega (arith, v.whole)) ∙ ap (raise (pos n)) (sym (meant-cell r k (omega arith)))

  step : RepeatsWithin r.cells q (pos n) → (k : ℕ) → k < r.period → meant r (pos (k + q)) ≡ raise (pos n) (meant r (pos k))
  step h k l = by (dec_le (suc (k + q)) r.period) (factor-pos q m r.period v.positive.0 periods)
    where
      by : Dec (k + q < r.period) → 1 ≤ m → meant r (pos (k + q)) ≡ raise (pos n) (meant r (pos k))
      by (yes f) above = within h k f
      by (no f) above = next h (m - 1) (k + q - r.period) k l (omega arith) (omega arith)

  pub cells-repeat : RepeatsWithin r.cells q (pos n) → Repeats q n (meant r)
  cells-repeat h = repeats-of-turn (meant r) r.period r.distance v.positive.0 (meant-repeats r v.positive.0) q n (step h)

pub repeats-cells : (r : Row) → length r.cells ≡ r.period → (q n : ℕ) → Repeats q n (meant r) → RepeatsWithin r.cells q (pos n)
repeats-cells r whole q n h t l =
    sym (meant-cell r (t + q) (omega arith))
    ∙ h (pos t)
    ∙ ap (raise (pos n)) (meant-cell r t (omega arith))

-- the cells pass with m turns
abbrev pub Passes : Row → ℕ → Type 0
Passes r m = RepeatsWithin r.cells (r.period / m) (pos (r.distance / m))

-- ---- turns of the least row

-- a row is so many turns of its least row
pub record Turns (r : Row) : Type 0 where
  pub count : ℕ
  pub above : 1 ≤ count
  pub period-is : (least r).period * count ≡ r.period
  pub distance_is : (least r).distance * count ≡ r.distance

pub turns : (r : Row) → Valid r → Turns r
turns r v =
    let d = least-divides (meant r) (least r) (valid-calendar r v) (least-row r v) r.period r.distance v.positive.0 (meant-repeats r v.positive.0) in
    record {
      count = d.0;
      above = factor-pos (least r).period d.0 r.period v.positive.0 (sym d.1);
      period-is = sym d.1;
      distance_is = sym d.2;
    }

module _ (r : Row) (v : Valid r) (t : Turns r) where
  pub count-least : r.period / t.count ≡ (least r).period
  count-least = div-eq_of_eq-mul_left t.above (sym t.period-is)

  -- R is so many times that of the least row
  granules-is : granules (least r) * t.count ≡ granules r
  granules-is =
      let l = least-row r v in
      let w = valid-of-least (least r) (meant r) (valid-calendar r v) l in
      sym (granules-turns r (least r) v w (λ u. sym (l.means u)) t.count (sym t.distance_is))

  -- only common divisors of P, N and R need trying: the number of turns is one
  pub count-common : t.count ∣ common r
  count-common =
      common-greatest r t.count
      (factor-dvd (least r).period t.count r.period t.period-is)
      (factor-dvd (least r).distance t.count r.distance t.distance_is)
      (factor-dvd (granules (least r)) t.count (granules r) granules-is)

  -- the cells pass with it
  pub count-passes : Passes r t.count
  count-passes =
      rw (count-least, div-eq_of_eq-mul_left t.above (sym t.distance_is))
      (repeats-cells r v.whole (least r).period (least r).distance (least-repeats (meant r) (least r) (least-row r v)))

  -- and with no greater divisor
  pub passes-le : (m : ℕ) → m ∣ common r → Passes r m → m ≤ t.count
  passes-le m d h =
      let q = r.period / m in
      let n = r.distance / m in
      let e : q * m ≡ r.period = div-mul_cancel m (common-dvd r m d).0 in
      let f : n * m ≡ r.distance = div-mul_cancel m (common-dvd r m d).1 in
      let l = least-row r v in
      let shorter : (least r).period ≤ q = l.least q n (factor-pos m q r.period v.positive.0 (omega arith)) (factor-pos m n r.distance v.positive.1 (omega arith)) (cells-repeat r v q n m e f h) in
      le_of_mul-le-mul_left (omega (arith, mul-le-mul_right m shorter, t.period-is)) l.positive.0

-- R of the least row, by that of the row
pub granules-least : (r : Row) → Valid r → granules r * (least r).period / r.period ≡ granules (least r)
granules-least r v =
    let t = turns r v in
    let R = granules (least r) in
    div-eq_of_eq-mul_left v.positive.0
    (ap (λ (n : ℕ). n * (least r).period) (sym (granules-is r v t)) ∙ omega (arith, ap (λ (n : ℕ). R * n) t.period-is))
