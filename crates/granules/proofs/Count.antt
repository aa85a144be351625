-- `granules` counts the labels among any N whole numbers in a row, and `full` decides whether every whole number is a label.
use mathlib.Core.Path.{◌≡◌, refl, sym, ◌∙◌, ap, subst}
use mathlib.Core.Logic.{◌↔◌, ⊎_elim}
use mathlib.Core.Bool.{Bool, true, false, cond}
use mathlib.Core.List.Memᴰ
use mathlib.Core.List.{List, [], ◌∷◌, Memᴰ}
use Prim.Native.Nat.{ℕ, zero, suc, ◌+◌, ◌≤◌}
use native.Mathlib.Omega.{arith}
use lib.Dec.{eqb}
use lib.IntN.{ℤ, pos, negsuc, ◌+ℤ◌}
use lib.Signed.{◌≤ℤ◌, ◌<ℤ◌}
use lib.ListN.{length}
use Rattle.integers.proofs.Linear.{ints, ◌∴◌}
use Rattle.integers.proofs.Periods.{Period, period-many}
use Rattle.calendar.specs.Meaning.{Row, meant, Has, Full}
use Rattle.calendar.specs.Algebra.{Lists}
use Rattle.calendar.specs.Lists.{keep, from}
use Rattle.calendar.specs.Granules.{has, granules, full}
use Rattle.granules.specs.Valid.{Valid}
use Rattle.granules.proofs.Tests.{true≢false, test-ext, eqb-iff}
use Rattle.granules.proofs.Lists.{mem-from, mem-keep, length_from, rising-from, rising-keep, lists-unique}
use Rattle.granules.proofs.Calendars.{has-moved}
use Rattle.granules.proofs.Rows.{meant-repeats}
use Rattle.granules.proofs.Instants.{has-iff}

-- ---- how many of a list pass a test

-- 1 where the test passes
to_nat : Bool → ℕ
to_nat b = cond b 1 0

module _ (f : ℤ → Bool) where
  abbrev pub count : List ℤ → ℕ
  count l = length (keep f l)

  count-cons : (x : ℤ) (l : List ℤ) → count (x ∷ l) ≡ to_nat (f x) + count l
  unfolding to_nat
  count-cons x l = by (f x)
    where
      by : (b : Bool) → length (cond b (x ∷ keep f l) (keep f l)) ≡ to_nat b + count l
      by true = omega arith
      by false = omega arith

  pub count-at-most : (l : List ℤ) → count l ≤ length l
  count-at-most [] = omega arith
  count-at-most (x ∷ l) = by (f x) (count-at-most l)
    where
      by : (b : Bool) → count l ≤ length l → length (cond b (x ∷ keep f l) (keep f l)) ≤ suc (length l)
      by true h = omega arith
      by false h = omega arith

  -- all are counted exactly if all pass
  pub count-all : (l : List ℤ) → (count l ≡ length l) ↔ ((u : ℤ) → Memᴰ u l → f u ≡ true)
  count-all [] = (λ e u m. absurd (Memᴰ.not-nil m), λ h. refl)
  count-all (x ∷ l) = by (f x) refl (count-all l)
    where
      by : (b : Bool) → f x ≡ b → (count l ≡ length l) ↔ ((u : ℤ) → Memᴰ u l → f u ≡ true)
          → (length (cond b (x ∷ keep f l) (keep f l)) ≡ suc (length l)) ↔ ((u : ℤ) → Memᴰ u (x ∷ l) → f u ≡ true)
      by true e ih = (
        λ p u m. ⊎_elim (λ q. ap f q ∙ e) (ih.0 (omega arith) u) (Memᴰ.cases_cons m),
        λ h. ap suc (ih.1 (λ u m. h u (Memᴰ.tail m))),
      )
      by false e ih = (
        λ p. absurd (omega (arith, count-at-most l)),
        λ h. absurd (true≢false (h x (Memᴰ.head refl)) e),
      )

  -- a window in two parts
  pub count_add : (k : ℤ) (m n : ℕ) → count (from k (m + n)) ≡ count (from k m) + count (from (k +ℤ pos m) n)
  count_add k zero n =
      let none : 0 + n ≡ n = omega arith in
      let e : k ≡ k +ℤ pos 0 = simp ints (omega arith) in
      omega (arith, ap (λ (x : ℕ). count (from k x)) none, ap (λ (z : ℤ). count (from z n)) e)
  count_add k (suc m) n =
      let more : suc m + n ≡ suc (m + n) = omega arith in
      let e : k +ℤ pos 1 +ℤ pos m ≡ k +ℤ pos (suc m) = simp ints (omega arith) in
      omega (arith, ap (λ (x : ℕ). count (from k x)) more, count_add (k +ℤ pos 1) m n, ap (λ (z : ℤ). count (from z n)) e, count-cons k (from (k +ℤ pos 1) (m + n)), count-cons k (from (k +ℤ pos 1) m))

  -- the window moved on by one loses its first number and gains the next
  count-step : (k : ℤ) (n : ℕ) → to_nat (f k) + count (from (k +ℤ pos 1) n) ≡ count (from k n) + to_nat (f (k +ℤ pos n))
  count-step k zero =
      let e : k +ℤ pos 0 ≡ k = simp ints (omega arith) in
      omega (arith, ap (λ (z : ℤ). to_nat (f z)) e)
  count-step k (suc n) =
      let e : k +ℤ pos 1 +ℤ pos n ≡ k +ℤ pos (suc n) = simp ints (omega arith) in
      omega (arith, count-step (k +ℤ pos 1) n, ap (λ (z : ℤ). to_nat (f z)) e, count-cons k (from (k +ℤ pos 1) n), count-cons (k +ℤ pos 1) (from (k +ℤ pos 1 +ℤ pos 1) n))

  -- a test that repeats after n passes equally often in all windows of n numbers
  pub count-window : (n : ℕ) → ((u : ℤ) → f (u +ℤ pos n) ≡ f u) → (k : ℤ) → count (from k n) ≡ count (from (pos 0) n)
  unfolding Period
  count-window n repeats k =
      ap (λ (z : ℤ). count (from z n)) (simp ints (omega arith)) ∙ period-many (λ z. count (from z n)) 1 next k (pos 0)
    where
      next : (t : ℤ) → count (from (t +ℤ pos 1) n) ≡ count (from t n)
      next t = omega (arith, count-step t n, ap to_nat (repeats t))

pub member-length : {u : ℤ} (l : List ℤ) → Memᴰ u l → 1 ≤ length l
member-length [] m = absurd (Memᴰ.not-nil m)
member-length (x ∷ l) m = omega arith

-- ---- labels

granules-is : (r : Row) → granules r ≡ count (has r) (from (pos 0) r.distance)
unfolding granules
granules-is r = refl

full_is : (r : Row) → full r ≡ eqb (granules r) r.distance
unfolding full
full_is r = refl

pub has-repeats : (r : Row) → Valid r → (u : ℤ) → has r (u +ℤ pos r.distance) ≡ has r u
has-repeats r v u =
    let N = r.distance in
    let move = has-moved (meant r) r.period N (meant-repeats r v.positive.0) in
    test-ext
    (λ e. (has-iff r v u).1 (subst (Has (meant r)) (simp ints (omega arith)) (move (negsuc 0) (u +ℤ pos N) ((has-iff r v (u +ℤ pos N)).0 e))))
    (λ e. (has-iff r v (u +ℤ pos N)).1 (subst (Has (meant r)) (simp ints (omega arith)) (move (pos 1) u ((has-iff r v u).0 e))))

-- among those from k on
pub granules-window : (r : Row) → Valid r → (k : ℤ) → length (keep (has r) (from k r.distance)) ≡ granules r
granules-window r v k = count-window (has r) r.distance (has-repeats r v) k ∙ sym (granules-is r)

-- they are the labels from k to k + N − 1
pub granules-lists : (r : Row) → Valid r → (k : ℤ) → Lists (λ j. Has (meant r) j × (k ≤ℤ j) × (j <ℤ (k +ℤ pos r.distance))) (keep (has r) (from k r.distance))
granules-lists r v k =
    let w = from k r.distance in
    record {
      rising = rising-keep (has r) w (rising-from k r.distance);
      member = λ j. (
        λ h. (mem-keep (has r) j w).1 ((mem-from j k r.distance).1 (h.1, h.2), (has-iff r v j).1 h.0),
        λ m. let h = (mem-keep (has r) j w).0 m in
            let b = (mem-from j k r.distance).0 h.0 in
            ((has-iff r v j).0 h.1, b.0, b.1),
      );
    }

-- over the meaning: however the labels from k to k + N − 1 are listed, there are R of them
pub granules-count : (r : Row) → Valid r → (k : ℤ) (l : List ℤ) → Lists (λ j. Has (meant r) j × (k ≤ℤ j) × (j <ℤ (k +ℤ pos r.distance))) l → length l ≡ granules r
granules-count r v k l x =
    ap length (lists-unique l (keep (has r) (from k r.distance)) x (granules-lists r v k)) ∙ granules-window r v k

-- a number is the first of the window that starts with it
starts : (r : Row) → Valid r → (j : ℤ) → Memᴰ j (from j r.distance)
starts r v j = (mem-from j j r.distance).1 (v.positive.1 ∴ simp ints (omega arith))

pub granules-positive : (r : Row) → Valid r → 1 ≤ granules r
granules-positive r v =
    let j = v.label in
    let m = (mem-keep (has r) j (from j r.distance)).1 (starts r v j, (has-iff r v j).1 v.labelled) in
    omega (arith, member-length (keep (has r) (from j r.distance)) m, granules-window r v j)

pub granules-at-most : (r : Row) → granules r ≤ r.distance
granules-at-most r = omega (arith, granules-is r, count-at-most (has r) (from (pos 0) r.distance), length_from (pos 0) r.distance)

pub full-iff : (r : Row) → Valid r → (full r ≡ true) ↔ Full (meant r)
full-iff r v = (
  λ e j. (has-iff r v j).0 ((count-all (has r) (from j N)).0 (granules-window r v j ∙ (eqb-iff (granules r) N).0 (sym (full_is r) ∙ e) ∙ sym (length_from j N)) j (starts r v j)),
  λ f. full_is r ∙ (eqb-iff (granules r) N).1 (granules-is r ∙ (count-all (has r) (from (pos 0) N)).1 (λ u m. (has-iff r v u).1 (f u)) ∙ length_from (pos 0) N),
)
  where
    N : ℕ
    N = r.distance
