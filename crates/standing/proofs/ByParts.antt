-- The test of the rows that stand, by its parts.
-- Assumes nothing.
use mathlib.Core.Path.{◌≡◌, refl, sym, ◌∙◌, ap, ap₂, subst}
use mathlib.Core.Logic.{◌↔◌, ⊎_elim}
use mathlib.Core.Bool.{Bool, true, false, ◌&&◌}
use mathlib.Core.List.Memᴰ
use mathlib.Core.List.{List, [], ◌∷◌, ◌++◌, append_assoc, append-nil, Memᴰ}
use Prim.Native.Nat.{ℕ, zero, suc, ◌+◌, ◌-◌, ◌*◌, ◌≤◌}
use native.Mathlib.Nat.{min-le_right}
use native.Mathlib.Omega.{arith}
use lib.IntN.{ℤ}
use lib.ListN.{length, take, drop, replicate, length-take, length-drop, length-replicate, take-append-drop}
use lib.Seq.{take-add, take_at, drop_at, drop-cons, length-take-le}
use Rattle.calendar.specs.Meaning.{Row, empty}
use Rattle.calendar.specs.Limits.{heading_length}
use Rattle.calendar.specs.Granules.{granules}
use Rattle.calendar.specs.Stored.{headings_from, joined}
use Rattle.granules.proofs.Tests.{and-iff, both_iff, eqb-iff, equal-iff, test-ext}
use Rattle.granules.proofs.Sound.{sound-valid}
use Rattle.conversion.specs.Shows.{start_at, period_at, distance_at, granules_at, row_at}
use Rattle.conversion.proofs.Headings.{headings-length}
use Rattle.standing.specs.Standing.{rows_at, standing}
use Rattle.standing.specs.Tests.{is_counted, row_stands, end_of, rows_stand, all_zero, all_empty, stands_by}
use Rattle.standing.proofs.Decides.{rows-length, Least, AllLeast, least_iff, all-least-iff, holds-iff, standing-is}

-- ---- what is behind

zero-iff : (l : List ℕ) → (all_zero l ≡ true) ↔ (l ≡ replicate (length l) 0)
zero-iff [] = (λ e. refl, λ e. refl)
zero-iff (n ∷ l) =
    let a = both_iff (eqb-iff n 0) (zero-iff l) in (
      λ e. ap₂ ◌∷◌ (a.0 e).0 (a.0 e).1,
      λ e. let p : n ≡ 0 = cc e in let q : l ≡ replicate (length l) 0 = cc e in a.1 (p, q),
    )

empty-iff : (l : List ℤ) → (all_empty l ≡ true) ↔ (l ≡ replicate (length l) empty)
empty-iff [] = (λ e. refl, λ e. refl)
empty-iff (z ∷ l) =
    let a = both_iff (equal-iff z empty) (empty-iff l) in (
      λ e. ap₂ ◌∷◌ (a.0 e).0 (a.0 e).1,
      λ e. let p : z ≡ empty = cc e in let q : l ≡ replicate (length l) empty = cc e in a.1 (p, q),
    )

-- ---- rows behind others

-- the periods of the rows together
abbrev total : List Row → ℕ
total [] = 0
total (r ∷ l) = r.period + total l

total-append : (a b : List Row) → total (a ++ b) ≡ total a + total b
total-append [] b = omega arith
total-append (r ∷ a) b = omega (arith, total-append a b)

headings-append : (s : ℕ) (a b : List Row) → headings_from s (a ++ b) ≡ headings_from s a ++ headings_from (s + total a) b
headings-append s [] b = let z : s ≡ s + 0 = omega arith in ap (λ (i : ℕ). headings_from i b) z
headings-append s (r ∷ a) b =
    let z : s + r.period + total a ≡ s + (r.period + total a) = omega arith in
    ap (λ (l : List ℕ). s ∷ r.period ∷ r.distance ∷ granules r ∷ l)
    (headings-append (s + r.period) a b ∙ ap (λ (i : ℕ). headings_from (s + r.period) a ++ headings_from i b) z)

joined-append : (a b : List Row) → joined (a ++ b) ≡ joined a ++ joined b
joined-append [] b = refl
joined-append (r ∷ a) b = ap (λ (l : List ℤ). r.cells ++ l) (joined-append a b) ∙ sym (append_assoc r.cells (joined a) (joined b))

module _ (h : List ℕ) (p : List ℤ) where
  total-is : (k : ℕ) → total (rows_at h p k) ≡ end_of h k
  total-is zero = refl
  total-is (suc k) = omega (arith, total-append (rows_at h p k) (row_at h p k ∷ []), total-is k)

  -- the numbers of a heading
  abbrev numbers : ℕ → List ℕ
  numbers k = start_at h k ∷ period_at h k ∷ distance_at h k ∷ granules_at h k ∷ []

  numbers-are : (k : ℕ) → heading_length * k + heading_length ≤ length h → take heading_length (drop (heading_length * k) h) ≡ numbers k
  numbers-are k b =
      ap (take heading_length)
      (drop-cons h (heading_length * k) 0 (omega arith)
      ∙ ap (start_at h k ∷◌) (at (heading_length * k) 1 (omega arith) ∙ drop-cons h (heading_length * k + 1) 0 (omega arith)
      ∙ ap (period_at h k ∷◌) (at (heading_length * k + 1) 2 (omega arith) ∙ drop-cons h (heading_length * k + 2) 0 (omega arith)
      ∙ ap (distance_at h k ∷◌) (at (heading_length * k + 2) 3 (omega arith) ∙ drop-cons h (heading_length * k + 3) 0 (omega arith)))))
    where
      at : (i j : ℕ) → suc i ≡ heading_length * k + j → drop (suc i) h ≡ drop (heading_length * k + j) h
      at i j e = ap (λ (n : ℕ). drop n h) e

  -- ---- row by row

  abbrev R : ℕ → Row
  R k = row_at h p k

  stands_parts : (k used : ℕ) → (row_stands h p k used ≡ true) ↔ ((start_at h k ≡ used) × (Least (R k) × (granules (R k) ≡ granules_at h k)))
  unfolding row_stands is_counted
  stands_parts k used = both_iff (eqb-iff (start_at h k) used) (both_iff (least_iff (R k)) (eqb-iff (granules (R k)) (granules_at h k)))

  rows_step : (k : ℕ) → rows_stand h p (suc k) ≡ rows_stand h p k && row_stands h p k (end_of h k)
  unfolding rows_stand
  rows_step k = refl

  rows_start : rows_stand h p 0 ≡ true
  unfolding rows_stand
  rows_start = refl

  -- the numbers of k + 1 headings
  numbers_more : (k : ℕ) → heading_length * suc k ≤ length h → take (heading_length * suc k) h ≡ take (heading_length * k) h ++ numbers k
  numbers_more k b =
      let z : heading_length * suc k ≡ heading_length * k + heading_length = omega arith in
      ap (λ (i : ℕ). take i h) z ∙ take-add (heading_length * k) heading_length h
      ∙ ap (λ (l : List ℕ). take (heading_length * k) h ++ l) (numbers-are k (omega arith))

  headings-more : (k : ℕ) → headings_from 0 (rows_at h p (suc k)) ≡ headings_from 0 (rows_at h p k) ++ headings_from (end_of h k) (R k ∷ [])
  headings-more k =
      let z : 0 + total (rows_at h p k) ≡ end_of h k = omega (arith, total-is k) in
      headings-append 0 (rows_at h p k) (R k ∷ []) ∙ ap (λ (i : ℕ). headings_from 0 (rows_at h p k) ++ headings_from i (R k ∷ [])) z

  before-length : (k : ℕ) → length (headings_from 0 (rows_at h p k)) ≡ heading_length * k
  before-length k = omega (arith, headings-length 0 (rows_at h p k), rows-length h p k)

  abbrev Stand : ℕ → Type 0
  Stand k = AllLeast (rows_at h p k) × (take (heading_length * k) h ≡ headings_from 0 (rows_at h p k))

  rows-iff : (k : ℕ) → heading_length * k ≤ length h → (rows_stand h p k ≡ true) ↔ Stand k
  rows-iff zero b = (λ e. (λ r m. absurd (Memᴰ.not-nil m), refl), λ s. rows_start)
  rows-iff (suc k) b =
      let a = and-iff (rows_stand h p k) (row_stands h p k (end_of h k)) in
      let ih = rows-iff k (omega arith) in
      let c = stands_parts k (end_of h k) in
      let l = rows_at h p k in (
        λ e.
            let q = a.0 (sym (rows_step k) ∙ e) in
            let s = ih.0 q.0 in
            let d = c.0 q.1 in (
              λ r m. ⊎_elim (s.0 r) (λ i. subst Least (sym (Memᴰ.eq_of_singleton i)) d.1.0) (Memᴰ.append_cases l m),
              numbers_more k b
                  ∙ ap₂ (λ (x : List ℕ) (y : ℕ). x ++ (y ∷ period_at h k ∷ distance_at h k ∷ granules_at h k ∷ [])) s.1 d.0
                  ∙ ap (λ (y : ℕ). headings_from 0 l ++ (end_of h k ∷ period_at h k ∷ distance_at h k ∷ y ∷ [])) (sym d.1.1)
                  ∙ sym (headings-more k),
            ),
        λ s.
            let n = heading_length * k in
            let m = length-take-le n h (omega arith) in
            let whole = sym (numbers_more k b) ∙ s.1 ∙ headings-more k in
            let front : take n h ≡ headings_from 0 l =
            sym (take_at (take n h) _ n m) ∙ ap (take n) whole ∙ take_at (headings_from 0 l) _ n (before-length k) in
            let last = sym (drop_at (take n h) _ n m) ∙ ap (drop n) whole ∙ drop_at (headings_from 0 l) _ n (before-length k) in
            let start : start_at h k ≡ end_of h k = cc last in
            let count : granules_at h k ≡ granules (R k) = cc last in
            rows_step k
            ∙ a.1 (
              ih.1 (λ r m. s.0 r (Memᴰ.append_left (R k ∷ []) m), front),
              c.1 (start, (s.0 (R k) (Memᴰ.append_right l (Memᴰ.head refl)), sym count)),
            ),
      )

  -- ---- their cells

  pub cells_of : (k : ℕ) → rows_stand h p k ≡ true → (take (end_of h k) p ≡ joined (rows_at h p k)) × (end_of h k ≤ length p)
  cells_of zero e = (refl, omega arith)
  cells_of (suc k) e =
      let q = (and-iff (rows_stand h p k) (row_stands h p k (end_of h k))).0 (sym (rows_step k) ∙ e) in
      let ih = cells_of k q.0 in
      let d = (stands_parts k (end_of h k)).0 q.1 in
      let P = period_at h k in
      let E = end_of h k in
      let cells : (R k).cells ≡ take P (drop E p) = ap (λ (i : ℕ). take P (drop i p)) d.0 in
      let whole : length (take P (drop E p)) ≡ P = ap (λ (l : List ℤ). length l) (sym cells) ∙ (sound-valid (R k) d.1.0.0).whole in
      let room = length-take P (drop E p) in
      let small = min-le_right P (length (drop E p)) in (
        take-add E P p ∙ ap₂ (λ (x y : List ℤ). x ++ y) ih.0 (sym cells)
            ∙ ap (λ (y : List ℤ). joined (rows_at h p k) ++ y) (sym (append-nil (R k).cells)) ∙ sym (joined-append (rows_at h p k) (R k ∷ [])),
        omega (arith, ih.1, whole, room, small, length-drop E p),
      )

-- ---- all parts together

by-is : (k : ℕ) (h : List ℕ) (p : List ℤ) → stands_by k h p ≡ rows_stand h p k && (all_zero (drop (heading_length * k) h) && all_empty (drop (end_of h k) p))
unfolding stands_by
by-is k h p = refl

-- a list that is n times d
ends-in : {A : Type 0} (l : List A) (n : ℕ) (d : A) → l ≡ replicate n d → l ≡ replicate (length l) d
ends-in l n d e = e ∙ ap (λ (i : ℕ). replicate i d) (sym (length-replicate n d) ∙ ap (λ (m : List _). length m) (sym e))

module _ (k : ℕ) (h : List ℕ) (p : List ℤ) (b : heading_length * k ≤ length h) where
  abbrev l : List Row
  l = rows_at h p k

  abbrev n : ℕ
  n = heading_length * k

  there : standing k h p ≡ true → stands_by k h p ≡ true
  there e =
      let (a, q) = (both_iff (all-least-iff l) (holds-iff l h p)).0 (sym (standing-is k h p) ∙ e) in
      let zeros : List ℕ = replicate (length h - length (headings_from 0 l)) 0 in
      let blanks : List ℤ = replicate (length p - length (joined l)) empty in
      let front : take n h ≡ headings_from 0 l = ap (take n) q.0 ∙ take_at (headings_from 0 l) zeros n (before-length h p k) in
      let rows = (rows-iff h p k b).1 (a, front) in
      let c = cells_of h p k rows in
      let long : length (joined l) ≡ end_of h k = ap (λ (x : List ℤ). length x) (sym c.0) ∙ length-take-le (end_of h k) p c.1 in
      let behind : drop n h ≡ zeros = ap (drop n) q.0 ∙ drop_at (headings_from 0 l) zeros n (before-length h p k) in
      let rest : drop (end_of h k) p ≡ blanks = ap (drop (end_of h k)) q.1 ∙ drop_at (joined l) blanks (end_of h k) long in
      by-is k h p
      ∙ (and-iff (rows_stand h p k) (all_zero (drop n h) && all_empty (drop (end_of h k) p))).1 (
        rows,
        (both_iff (zero-iff (drop n h)) (empty-iff (drop (end_of h k) p))).1 (
          ends-in (drop n h) (length h - length (headings_from 0 l)) 0 behind,
          ends-in (drop (end_of h k) p) (length p - length (joined l)) empty rest,
        ),
      )

  back : stands_by k h p ≡ true → standing k h p ≡ true
  back e =
      let a = (and-iff (rows_stand h p k) (all_zero (drop n h) && all_empty (drop (end_of h k) p))).0 (sym (by-is k h p) ∙ e) in
      let d = (both_iff (zero-iff (drop n h)) (empty-iff (drop (end_of h k) p))).0 a.1 in
      let s = (rows-iff h p k b).0 a.0 in
      let c = cells_of h p k a.0 in
      let long : length (joined l) ≡ end_of h k = ap (λ (x : List ℤ). length x) (sym c.0) ∙ length-take-le (end_of h k) p c.1 in
      let zeros : length (drop n h) ≡ length h - length (headings_from 0 l) = omega (arith, length-drop n h, before-length h p k) in
      let blanks : length (drop (end_of h k) p) ≡ length p - length (joined l) = omega (arith, length-drop (end_of h k) p, long) in
      standing-is k h p
      ∙ (both_iff (all-least-iff l) (holds-iff l h p)).1 (
        s.0,
        (
          sym (take-append-drop n h) ∙ ap₂ (λ (x y : List ℕ). x ++ y) s.1 (d.0 ∙ ap (λ (i : ℕ). replicate i 0) zeros),
          sym (take-append-drop (end_of h k) p) ∙ ap₂ (λ (x y : List ℤ). x ++ y) c.0 (d.1 ∙ ap (λ (i : ℕ). replicate i empty) blanks),
        ),
      )

-- the test is its parts
pub standing_by : (k : ℕ) (h : List ℕ) (p : List ℤ) → heading_length * k ≤ length h → standing k h p ≡ stands_by k h p
standing_by k h p b = test-ext (there k h p b) (back k h p b)

-- ---- one part after the other

module _ (k : ℕ) (h : List ℕ) (p : List ℤ) (b : heading_length * k ≤ length h) where
  abbrev clear : Bool
  clear = all_zero (drop (heading_length * k) h)

  abbrev blank : Bool
  blank = all_empty (drop (end_of h k) p)

  parts : standing k h p ≡ rows_stand h p k && (clear && blank)
  parts = standing_by k h p b ∙ by-is k h p

  pub rows-fail-all : rows_stand h p k ≡ false → standing k h p ≡ false
  rows-fail-all e = parts ∙ ap (λ (x : Bool). x && (clear && blank)) e

  pub clear-fails-all : rows_stand h p k ≡ true → clear ≡ false → standing k h p ≡ false
  clear-fails-all e z = parts ∙ ap (λ (x : Bool). x && (clear && blank)) e ∙ ap (λ (x : Bool). x && blank) z

  pub blank-decides : rows_stand h p k ≡ true → clear ≡ true → standing k h p ≡ blank
  blank-decides e z = parts ∙ ap (λ (x : Bool). x && (clear && blank)) e ∙ ap (λ (x : Bool). x && blank) z

  -- where the test passes, the cell behind the last row is that behind their cells
  pub end_is : standing k h p ≡ true → end_of h k ≡ length (joined (rows_at h p k))
  end_is e =
      let c = cells_of h p k ((and-iff (rows_stand h p k) (clear && blank)).0 (sym parts ∙ e)).0 in
      sym (length-take-le (end_of h k) p c.1) ∙ ap (λ (x : List ℤ). length x) c.0
