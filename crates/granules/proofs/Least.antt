-- `least` gives the least form: the same meaning, and no smaller period has any distance. The periods of a calendar are the multiples
-- of the least one.
use mathlib.Core.Path.{◌≡◌, sym, ◌∙◌, ap, subst}
use mathlib.Core.Logic.{◌↔◌, ◌⊎◌, inl, inr}
use mathlib.Core.Option.{Option}
use mathlib.Core.Bool.{Bool, true, false}
use Prim.Native.Nat.{ℕ, zero, suc, ◌+◌, ◌*◌, ◌/◌, ◌%◌, ◌≤◌, ◌<◌, ◌∣◌}
use native.Mathlib.Nat.{mul-pos, mul-mod_left, div-eq_of_eq-mul_left, eq_of_mul-eq-mul_right, mul-div_cancel', le_of_dvd}
use native.Mathlib.Decide.{dec_le}
use native.Mathlib.Omega.{arith}
use lib.Dec.{eqb}
use lib.IntN.{ℤ, pos, ◌+ℤ◌, ◌*ℤ◌, +ℤ_comm, pos-*ℤ-pos}
use lib.Signed.{◌≤ℤ◌}
use lib.ListN.{take}
use lib.Seq.{length-take-le, get_or-take}
use Rattle.integers.specs.Parts.{up}
use Rattle.integers.specs.Floor.{floor_div, floor_mod}
use Rattle.integers.specs.Gcd.{gcd}
use Rattle.integers.proofs.Linear.{ints, ◌∴◌}
use Rattle.integers.proofs.Order.{pos-up, mul-le-cancel}
use Rattle.integers.proofs.Floor.{floor-eq, floor-lt}
use Rattle.integers.proofs.Divisors.{bezout, gcd-dvd, gcd-pos}
use Rattle.calendar.specs.Meaning.{Row, meant, Calendar, Same, Has, Repeats, IsCalendar, LeastRow, raise, label_of, empty}
use Rattle.calendar.specs.Lists.{all, from, same_label}
use Rattle.calendar.specs.Least.{repeats_after, first_period, least}
use Rattle.granules.specs.Valid.{Valid}
use Rattle.granules.proofs.Tests.{true-or-false, true≢false, and-iff, eqb-iff, same_label-iff}
use Rattle.granules.proofs.Lists.{all-iff, mem-from}
use Rattle.granules.proofs.Calendars.{raise-raise, repeats_many, periods-proportional}
use Rattle.granules.proofs.Rows.{meant-repeats, meant-cell}

-- ---- from the first turn to all instants

raise-swap : (m n : ℤ) (o : Option ℤ) → raise n (raise m o) ≡ raise m (raise n o)
raise-swap m n o = raise-raise m n o ∙ ap (λ (k : ℤ). raise k o) (+ℤ_comm m n) ∙ sym (raise-raise n m o)

module _ (c : Calendar) (P N : ℕ) (above : 1 ≤ P) (repeats : Repeats P N c) where
  -- an instant has the label of the first turn's instant that it repeats, raised by whole distances
  pub first-turn : (t : ℤ) → c t ≡ raise (pos N *ℤ floor_div t P) (c (pos (floor_mod t P)))
  first-turn t =
      let e : t ≡ pos (floor_mod t P) +ℤ pos P *ℤ floor_div t P = floor-eq P above t ∴ simp ints (omega arith) in
      ap c e ∙ repeats_many c P N repeats (floor_div t P) (pos (floor_mod t P))

  -- what repeats after q instants on the first turn repeats so everywhere
  pub repeats-of-turn : (q n : ℕ) → ((k : ℕ) → k < P → c (pos k +ℤ pos q) ≡ raise (pos n) (c (pos k))) → Repeats q n c
  repeats-of-turn q n h t =
      let k = floor_mod t P in
      let d = floor_div t P in
      let e : t +ℤ pos q ≡ pos k +ℤ pos q +ℤ pos P *ℤ d = floor-eq P above t ∴ simp ints (omega arith) in
      ap c e
      ∙ repeats_many c P N repeats d (pos k +ℤ pos q)
      ∙ ap (raise (pos N *ℤ d)) (h k (floor-lt P above t))
      ∙ raise-swap (pos n) (pos N *ℤ d) (c (pos k))
      ∙ ap (raise (pos n)) (sym (first-turn t))

-- a calendar that is the same repeats alike
pub same-repeats : (c d : Calendar) (P N : ℕ) → Same c d → Repeats P N c → Repeats P N d
same-repeats c d P N same h t = sym (same (t +ℤ pos P)) ∙ h t ∙ ap (raise (pos N)) (same t)

pub least-repeats : (c : Calendar) (r : Row) → LeastRow c r → Repeats r.period r.distance c
least-repeats c r l = same-repeats (meant r) c r.period r.distance l.means (meant-repeats r l.positive.0)

-- where the labels of one period rise, so do those of every other
pub distance-positive : (c : Calendar) (P N Q M : ℕ) → Repeats P N c → Repeats Q M c → (j : ℤ) → Has c j → 1 ≤ N → 1 ≤ Q → 1 ≤ M
distance-positive c P N Q M h k j has n q = by M (periods-proportional c P N Q M h k j has)
  where
    by : (M : ℕ) → N * Q ≡ M * P → 1 ≤ M
    by zero e = absurd (omega (arith, mul-pos n q))
    by (suc M) e = omega arith

-- ---- the test of a shorter period

-- the test that `repeats_after` makes at an instant t
abbrev raised : Row → ℕ → ℤ → Bool
raised r q t = same_label (meant r (t +ℤ pos q)) (raise (pos (r.distance * q / r.period)) (meant r t))

test_iff : (r : Row) (q : ℕ) → (repeats_after r q ≡ true) ↔ ((eqb (r.distance * q % r.period) 0 ≡ true) × (all (raised r q) (from (pos 0) r.period) ≡ true))
unfolding repeats_after
test_iff r q = and-iff (eqb (r.distance * q % r.period) 0) (all (raised r q) (from (pos 0) r.period))

passed : (r : Row) (q : ℕ) → repeats_after r q ≡ true → (k : ℕ) → k < r.period → meant r (pos k +ℤ pos q) ≡ raise (pos (r.distance * q / r.period)) (meant r (pos k))
passed r q e k h =
    (same_label-iff (meant r (pos k +ℤ pos q)) (raise (pos (r.distance * q / r.period)) (meant r (pos k)))).0
    ((all-iff (raised r q) (from (pos 0) r.period)).0 ((test_iff r q).0 e).1 (pos k) ((mem-from (pos k) (pos 0) r.period).1 (simp ints (omega arith))))

passes : (r : Row) (q : ℕ) → r.distance * q % r.period ≡ 0 → Repeats q (r.distance * q / r.period) (meant r) → repeats_after r q ≡ true
passes r q e h =
    (test_iff r q).1 (
      (eqb-iff (r.distance * q % r.period) 0).1 e,
      (all-iff (raised r q) (from (pos 0) r.period)).1 (λ t m. (same_label-iff (meant r (t +ℤ pos q)) (raise (pos (r.distance * q / r.period)) (meant r t))).1 (h t)),
    )

-- a shorter period, with the distance that falls to it
passed-repeats : (r : Row) → Valid r → (q : ℕ) → repeats_after r q ≡ true → Repeats q (r.distance * q / r.period) (meant r)
passed-repeats r v q e =
    repeats-of-turn (meant r) r.period r.distance v.positive.0 (meant-repeats r v.positive.0) q (r.distance * q / r.period) (passed r q e)

pub repeats_after-iff : (r : Row) → Valid r → (q : ℕ) → 1 ≤ q → (repeats_after r q ≡ true) ↔ ((n : ℕ) × Repeats q n (meant r))
repeats_after-iff r v q above = (λ e. (r.distance * q / r.period, passed-repeats r v q e), back)
  where
    P : ℕ
    P = r.period

    N : ℕ
    N = r.distance

    back : (n : ℕ) × Repeats q n (meant r) → repeats_after r q ≡ true
    back (n, h) =
        let e : N * q ≡ n * P = periods-proportional (meant r) P N q n (meant-repeats r v.positive.0) h v.label v.labelled in
        passes r q (rw e (mul-mod_left n P)) (rw (div-eq_of_eq-mul_left v.positive.0 e) h)

-- ---- the first period that passes

record First (r : Row) (q m p : ℕ) : Type 0 where
  from-q : q ≤ p
  to-m : p ≤ m
  passing : repeats_after r p ≡ true

-- a number that fails is not m, which passes
apart : (r : Row) (q m : ℕ) → q ≤ m → repeats_after r q ≡ false → repeats_after r m ≡ true → q < m
apart r q m h p e = by (dec_le (suc q) m)
  where
    by : Dec (suc q ≤ m) → q < m
    by (yes k) = k
    by (no f) =
        let same : m ≡ q = omega arith in
        absurd (true≢false (subst (λ (k : ℕ). repeats_after r k ≡ true) same e) p)

period-found : (r : Row) (n q : ℕ) → repeats_after r q ≡ true → first_period r (suc n) q ≡ q
unfolding first_period
period-found r n q e = rw (e, first_period)

period-later : (r : Row) (n q : ℕ) → repeats_after r q ≡ false → first_period r (suc n) q ≡ first_period r n (suc q)
unfolding first_period
period-later r n q e = rw (e, first_period)

-- if m passes and is among those tried, the first is at most m
first-period : (r : Row) (n q m : ℕ) → q ≤ m → m < q + n → repeats_after r m ≡ true → First r q m (first_period r n q)
first-period r zero q m h l e = absurd (omega arith)
first-period r (suc n) q m h l e = by (true-or-false (repeats_after r q)) (λ k. first-period r n (suc q) m k (omega arith) e)
  where
    by : (repeats_after r q ≡ true) ⊎ (repeats_after r q ≡ false) → (suc q ≤ m → First r (suc q) m (first_period r n (suc q))) → First r q m (first_period r (suc n) q)
    by (inl p) f = rw (period-found r n q p) (record { from-q = omega arith; to-m = h; passing = p })
    by (inr p) f =
        let g = f (apart r q m h p e) in
        rw (period-later r n q p) (record { from-q = omega arith; to-m = g.to-m; passing = g.passing })

abbrev least_period : Row → ℕ
least_period r = first_period r r.period 1

-- the row's own period passes
shortest : (r : Row) → Valid r → First r 1 r.period (least_period r)
shortest r v =
    first-period r r.period 1 r.period v.positive.0 (omega arith)
    ((repeats_after-iff r v r.period v.positive.0).1 (r.distance, meant-repeats r v.positive.0))

-- the first period that passes is at most any that does
least_period-le : (r : Row) → Valid r → (m : ℕ) → 1 ≤ m → repeats_after r m ≡ true → least_period r ≤ m
least_period-le r v m above e = by (dec_le m r.period)
  where
    by : Dec (m ≤ r.period) → least_period r ≤ m
    by (yes h) = (first-period r r.period 1 m above (omega arith) e).to-m
    by (no f) = omega (arith, (shortest r v).to-m)

-- ---- the row of a shorter period

abbrev cut : Row → ℕ → ℕ → Row
cut r q n = record { period = q; distance = n; cells = take q r.cells }

cut-means : (r : Row) (q n : ℕ) → 1 ≤ q → q ≤ r.period → Repeats q n (meant r) → Same (meant (cut r q n)) (meant r)
cut-means r q n above short h t =
    let k = floor_mod t q in
    let l : k < q = floor-lt q above t in
    let m : k < r.period = omega arith in
    let cell : meant (cut r q n) (pos k) ≡ meant r (pos k) = meant-cell (cut r q n) k l ∙ ap label_of (get_or-take q r.cells k empty l) ∙ sym (meant-cell r k m) in
    first-turn (meant (cut r q n)) q n above (meant-repeats (cut r q n) above) t
    ∙ ap (raise (pos n *ℤ floor_div t q)) cell
    ∙ sym (first-turn (meant r) q n above h t)

pub least-row : (r : Row) → Valid r → LeastRow (meant r) (least r)
unfolding least
least-row r v = record {
  whole = length-take-le q r.cells (omega (arith, f.to-m, v.whole));
  positive = (f.from-q, distance-positive (meant r) r.period r.distance q n (meant-repeats r v.positive.0) h v.label v.labelled v.positive.1 f.from-q);
  means = cut-means r q n f.from-q f.to-m h;
  least = λ Q M a b k. least_period-le r v Q a ((repeats_after-iff r v Q a).1 (M, k));
}
  where
    q : ℕ
    q = least_period r

    n : ℕ
    n = r.distance * q / r.period

    f : First r 1 r.period q
    f = shortest r v

    h : Repeats q n (meant r)
    h = passed-repeats r v q f.passing

pub least-shorter : (r : Row) → Valid r → (least r).period ≤ r.period
unfolding least
least-shorter r v = (shortest r v).to-m

-- ---- all periods

-- P times the rise over the g instants P·x + Q·y is N·g, at least 0
sum-rise : (P N Q M g : ℕ) (x y : ℤ) → pos g ≡ pos P *ℤ x +ℤ pos Q *ℤ y → N * Q ≡ M * P → (pos P *ℤ pos 0) ≤ℤ (pos P *ℤ (pos N *ℤ x +ℤ pos M *ℤ y))
sum-rise P N Q M g x y e p = ap (λ (z : ℤ). pos N *ℤ z) e ∴ ap (λ (n : ℕ). pos n *ℤ y) p ∴ simp ints (omega arith)

module _ (c : Calendar) (P N Q M : ℕ) (above : 1 ≤ P) (h : Repeats P N c) (k : Repeats Q M c) (j : ℤ) (has : Has c j) where
  -- whole turns of two periods, forward or back, come to a period if they come to a natural number of instants
  sum-repeats : (g : ℕ) (x y : ℤ) → pos g ≡ pos P *ℤ x +ℤ pos Q *ℤ y → (n : ℕ) × Repeats g n c
  sum-repeats g x y sum = (up z, go)
    where
      z : ℤ
      z = pos N *ℤ x +ℤ pos M *ℤ y

      natural : pos (up z) ≡ z
      natural = pos-up (mul-le-cancel P above (sum-rise P N Q M g x y sum (periods-proportional c P N Q M h k j has)))

      go : Repeats g (up z) c
      go t =
          let e : t +ℤ pos g ≡ t +ℤ pos P *ℤ x +ℤ pos Q *ℤ y = sum ∴ simp ints (omega arith) in
          ap c e
          ∙ repeats_many c Q M k y (t +ℤ pos P *ℤ x)
          ∙ ap (raise (pos M *ℤ y)) (repeats_many c P N h x t)
          ∙ raise-raise (pos N *ℤ x) (pos M *ℤ y) (c t)
          ∙ ap (λ (n : ℤ). raise n (c t)) (sym natural)

-- the greatest common divisor of two periods is a period
pub periods-gcd : (c : Calendar) (P N Q M : ℕ) → 1 ≤ P → Repeats P N c → 1 ≤ Q → Repeats Q M c → (j : ℤ) → Has c j → (n : ℕ) × Repeats (gcd P Q) n c
periods-gcd c P N Q M above h above' k j has =
    let w = bezout P Q in
    sum-repeats c P N Q M above h k j has (gcd P Q) w.x w.y w.sum

-- the periods are the multiples of the least, and the distances the same multiples
pub least-divides : (c : Calendar) (r : Row) → IsCalendar c → LeastRow c r → (Q M : ℕ) → 1 ≤ Q → Repeats Q M c → (k : ℕ) × (Q ≡ r.period * k) × (M ≡ r.distance * k)
least-divides c r i l Q M above h = (Q / P, q-is, eq_of_mul-eq-mul_right P l.positive.0 M (N * (Q / P)) m-is)
  where
    P : ℕ
    P = r.period

    N : ℕ
    N = r.distance

    own : Repeats P N c
    own = least-repeats c r l

    common : (n : ℕ) × Repeats (gcd P Q) n c
    common = periods-gcd c P N Q M l.positive.0 own above h i.label i.labelled

    -- it rises: as N does over P instants, in proportion
    rises : 1 ≤ common.0
    rises = distance-positive c P N (gcd P Q) common.0 own common.1 i.label i.labelled l.positive.1 (gcd-pos P Q l.positive.0)

    same : gcd P Q ≡ P
    same = omega (arith, l.least (gcd P Q) common.0 (gcd-pos P Q l.positive.0) rises common.1, le_of_dvd l.positive.0 (gcd-dvd P Q).0)

    q-is : Q ≡ P * (Q / P)
    q-is = sym (mul-div_cancel' P (subst (λ (g : ℕ). g ∣ Q) same (gcd-dvd P Q).1))

    m-is : M * P ≡ N * (Q / P) * P
    m-is = sym (periods-proportional c P N Q M own h i.label i.labelled) ∙ ap (λ (n : ℕ). N * n) q-is ∙ omega arith

pub multiple-repeats : (c : Calendar) (r : Row) → LeastRow c r → (k : ℕ) → Repeats (r.period * k) (r.distance * k) c
multiple-repeats c r l k t =
    ap (λ (n : ℤ). c (t +ℤ n)) (sym (pos-*ℤ-pos r.period k))
    ∙ repeats_many c r.period r.distance (least-repeats c r l) (pos k) t
    ∙ ap (λ (n : ℤ). raise n (c t)) (pos-*ℤ-pos r.distance k)
