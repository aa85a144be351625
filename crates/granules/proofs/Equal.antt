-- Equal rows: the one statement on what a row means on which the laws rest.
use mathlib.Core.Path.{◌≡◌, refl, sym, ◌∙◌, ap}
use mathlib.Core.Logic.{◌↔◌, ◌⊎◌, inl, inr}
use mathlib.Core.Option.{none, some}
use mathlib.Core.Bool.{true, false}
use Prim.Native.Nat.{ℕ, ◌*◌, ◌≤◌, ◌<◌}
use native.Mathlib.Nat.{eq_of_mul-eq-mul_right}
use native.Mathlib.Omega.{arith}
use lib.Dec.{eqb}
use lib.IntN.{ℤ, pos, negsuc}
use lib.ListN.{length, get_or}
use lib.Seq.{ext_get_or}
use Rattle.calendar.specs.Meaning.{Row, meant, Calendar, Same, IsCalendar, LeastRow, label_of, empty}
use Rattle.granules.proofs.Tests.{true-or-false, eqb-iff, some_inj, none≢some}
use Rattle.granules.proofs.Calendars.{periods-proportional}
use Rattle.granules.proofs.Rows.{meant-cell}
use Rattle.granules.proofs.Least.{same-repeats, least-repeats}

-- ---- rows by their fields, cells by their labels

pub row-ext : (r s : Row) → r.period ≡ s.period → r.distance ≡ s.distance → r.cells ≡ s.cells → r ≡ s
row-ext r s p n l = λ i. record { period = p i; distance = n i; cells = l i }

-- a cell is empty, or its own label
pub cell-cases : (z : ℤ) → ((label_of z ≡ none) × (z ≡ empty)) ⊎ (label_of z ≡ some z)
cell-cases (pos n) = inr refl
cell-cases (negsuc n) = by (true-or-false (eqb n 2147483647))
  where
    by : (eqb n 2147483647 ≡ true) ⊎ (eqb n 2147483647 ≡ false) → ((label_of (negsuc n) ≡ none) × (negsuc n ≡ empty)) ⊎ (label_of (negsuc n) ≡ some (negsuc n))
    by (inl e) = inl (rw e, ap negsuc ((eqb-iff n 2147483647).0 e))
    by (inr e) = inr (rw e)

pub label-full : (z : ℤ) → ¬ (z ≡ empty) → label_of z ≡ some z
label-full z f = by (cell-cases z)
  where
    by : ((label_of z ≡ none) × (z ≡ empty)) ⊎ (label_of z ≡ some z) → label_of z ≡ some z
    by (inl p) = absurd (f p.1)
    by (inr p) = p

pub label_of-inj : (y z : ℤ) → label_of y ≡ label_of z → y ≡ z
label_of-inj y z e = by (cell-cases y) (cell-cases z)
  where
    by : ((label_of y ≡ none) × (y ≡ empty)) ⊎ (label_of y ≡ some y) → ((label_of z ≡ none) × (z ≡ empty)) ⊎ (label_of z ≡ some z) → y ≡ z
    by (inl p) (inl q) = p.1 ∙ sym q.1
    by (inl p) (inr q) = absurd (none≢some (sym p.0 ∙ e ∙ q))
    by (inr p) (inl q) = absurd (none≢some (sym q.0 ∙ sym e ∙ p))
    by (inr p) (inr q) = some_inj (sym p ∙ e ∙ q)

-- ---- least rows

-- the period of a least row is at most that of any least row of the same calendar
period-le : (c d : Calendar) (r s : Row) → LeastRow c r → LeastRow d s → Same d c → r.period ≤ s.period
period-le c d r s l m same =
    l.least s.period s.distance m.positive.0 m.positive.1 (same-repeats d c s.period s.distance same (least-repeats d s m))

-- two least rows mean the same calendar exactly if period, distance and cells are equal
pub equal-rows : (c d : Calendar) (r s : Row) → IsCalendar c → LeastRow c r → LeastRow d s
    → Same c d ↔ ((r.period ≡ s.period) × (r.distance ≡ s.distance) × (r.cells ≡ s.cells))
equal-rows c d r s i l m = (λ same. (periods same, distances same, cells same), back)
  where
    other : Same c d → Same d c
    other same t = sym (same t)

    periods : Same c d → r.period ≡ s.period
    periods same = omega (arith, period-le c d r s l m (other same), period-le d c s r m l same)

    distances : Same c d → r.distance ≡ s.distance
    distances same =
        let k = same-repeats d c s.period s.distance (other same) (least-repeats d s m) in
        let e = periods-proportional c r.period r.distance s.period s.distance (least-repeats c r l) k i.label i.labelled in
        eq_of_mul-eq-mul_right s.period m.positive.0 r.distance s.distance (e ∙ ap (λ (n : ℕ). s.distance * n) (periods same))

    cells : Same c d → r.cells ≡ s.cells
    cells same = ext_get_or empty r.cells s.cells (l.whole ∙ periods same ∙ sym m.whole) cell
      where
        cell : (k : ℕ) → k < length r.cells → get_or r.cells k empty ≡ get_or s.cells k empty
        cell k h =
            let a : k < r.period = omega (arith, l.whole) in
            let b : k < s.period = omega (arith, periods same) in
            label_of-inj (get_or r.cells k empty) (get_or s.cells k empty)
            (sym (meant-cell r k a) ∙ l.means (pos k) ∙ same (pos k) ∙ sym (m.means (pos k)) ∙ meant-cell s k b)

    back : (r.period ≡ s.period) × (r.distance ≡ s.distance) × (r.cells ≡ s.cells) → Same c d
    back (p, n, q) t = sym (l.means t) ∙ ap (λ (x : Row). meant x t) (row-ext r s p n q) ∙ m.means t

-- a calendar has one least row
pub least-row-unique : (c : Calendar) (r s : Row) → IsCalendar c → LeastRow c r → LeastRow c s → r ≡ s
least-row-unique c r s i l m =
    let e = (equal-rows c c r s i l m).0 (λ t. refl) in
    row-ext r s e.0 e.1 e.2
