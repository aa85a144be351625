-- The granules of the months' entry have the lengths of the rule. With q = y − 2001 the granule of month m of the
-- year y is 12·q + m.
--     Without leap days it is s6, which rises by 365 in 12 granules: so its lengths are those of the granules 1 to
--     12, which are computed.
--     The leap days before it are those of the years up to y − 1, or to y if m is past February: with u = q, or
--     q + 1, they are floor(u/4) − floor(u/100) + floor(u/400), which from u = q to q + 1 rises by one exactly in a
--     leap year.
use mathlib.Core.Path.{◌≡◌, refl, sym, ◌∙◌, ap}
use mathlib.Core.Bool.{Bool, true, false, not, ◌&&◌, ◌||◌, cond}
use Prim.Native.Nat.{ℕ, suc, ◌+◌, ◌-◌, ◌*◌, ◌%◌, ◌≤◌, ◌<◌}
use native.Mathlib.Nat.{zero-mod}
use native.Mathlib.Omega.{arith}
use lib.Dec.{eqb, ltb}
use lib.IntN.{ℤ, pos, negsuc, ◌+ℤ◌, ◌-ℤ◌, ◌*ℤ◌}
use lib.ListN.{get_or}
use Rattle.integers.specs.Parts.{up}
use Rattle.integers.specs.Floor.{floor_div, floor_mod}
use Rattle.integers.proofs.Linear.{ints, ◌∴◌}
use Rattle.integers.proofs.Floor.{floor-unique, floor_div-shift, floor_mod-shift, floor_div-floor_div, floor_mod-floor_mod}
use Rattle.calendar.specs.Algebra.{changes}
use Rattle.calendar.specs.Lists.{all, from, equal}
use Rattle.granules.proofs.Tests.{true≢false, eqb-iff, ltb_iff, equal-iff, false-iff}
use Rattle.granules.proofs.Lists.{all-iff, mem-from}
use Rattle.algebra.proofs.Tiles.{rises-many}
use Rattle.algebra.proofs.Altered.{quotient-before}
use Rattle.civil.specs.Rule.{leap, multiple_of, common_lengths, days_in, month_slot}
use Rattle.civil.specs.Instants.{leap_years}
use Rattle.civil.proofs.Grouped.{grouped}
use Rattle.civil.proofs.Altered.{altered}
use Rattle.civil.proofs.Entries.{s6, s9, starts-6}

-- ---- common years

common_length : ℕ → ℕ
common_length m = get_or common_lengths (m - 1) 0

-- the granules 1 to 12, computed
abbrev has_length : ℤ → Bool
has_length m = equal (s6 (m +ℤ pos 1)) (s6 m +ℤ pos (common_length (up m)))

first-twelve : all has_length (from (pos 1) 12) ≡ true
unfolding common_length floor_div grouped altered
first-twelve = refl

pub common-turns : (q i j : ℤ) → j ≡ i +ℤ pos 12 *ℤ q → s6 j ≡ s6 i +ℤ pos 365 *ℤ q
common-turns q i j e = ap s6 e ∙ rises-many s6 12 365 starts-6.turn q i

common-step : (q : ℤ) (m : ℕ) → 1 ≤ m → m ≤ 12
    → s6 (pos 12 *ℤ q +ℤ pos m +ℤ pos 1) ≡ s6 (pos 12 *ℤ q +ℤ pos m) +ℤ pos (common_length m)
common-step q m h k =
    let first = (equal-iff (s6 (pos m +ℤ pos 1)) (s6 (pos m) +ℤ pos (common_length m))).0
    ((all-iff has_length (from (pos 1) 12)).0 first-twelve (pos m) ((mem-from (pos m) (pos 1) 12).1 (simp ints (omega arith)))) in
    common-turns q (pos m +ℤ pos 1) (pos 12 *ℤ q +ℤ pos m +ℤ pos 1) (simp ints (omega arith))
    ∴ common-turns q (pos m) (pos 12 *ℤ q +ℤ pos m) (simp ints (omega arith))
    ∴ first
    ∴ simp ints (omega arith)

-- ---- leap days

-- past February, one more
abbrev pub past : ℕ → ℤ
past m = cond (ltb 2 m) (pos 1) (pos 0)

-- (m + 9)/12, rounded down
past_is : (m : ℕ) → 1 ≤ m → m ≤ 13 → (r : ℕ) × (pos m +ℤ pos 9 ≡ pos 12 *ℤ past m +ℤ pos r) × (r < 12)
past_is m h k = by (ltb 2 m) refl
  where
    by : (c : Bool) → ltb 2 m ≡ c → (r : ℕ) × (pos m +ℤ pos 9 ≡ pos 12 *ℤ cond c (pos 1) (pos 0) +ℤ pos r) × (r < 12)
    by true e = let l = (ltb_iff 2 m).0 e in (m - 3, simp ints (omega arith), omega arith)
    by false e = let l = (false-iff (ltb_iff 2 m)).0 e in (m + 9, simp ints (omega arith), omega arith)

-- the days that an altering of the second month of every n-th year adds before the month m
module _ (n : ℕ) (above : 1 ≤ n) where
  added : (q : ℤ) (m : ℕ) → 1 ≤ m → m ≤ 13
      → changes (12 * n) (12 * n - 10) (pos 12 *ℤ q +ℤ pos m -ℤ pos 1) ≡ floor_div (q +ℤ past m) n
  added q m h k =
      let (r, e, l) = past_is m h k in
      let v = pos 12 *ℤ q +ℤ pos m -ℤ pos 1 -ℤ pos (12 * n - 10) in
      let u = q +ℤ past m in
      let inner : floor_div v 12 ≡ u +ℤ pos n *ℤ negsuc 0 = (floor-unique 12 (omega arith) v (u +ℤ pos n *ℤ negsuc 0) r (e ∴ simp ints (omega arith)) l).0 in
      let outer : floor_div v (12 * n) ≡ floor_div u n +ℤ negsuc 0 =
      sym (floor_div-floor_div v 12 n) ∙ ap (λ (w : ℤ). floor_div w n) inner ∙ floor_div-shift n above u (negsuc 0) in
      ap (λ (w : ℤ). w +ℤ pos 1) outer ∙ simp ints (omega arith)

-- ---- the leap year rule

-- 1 where the test passes
abbrev pub one : Bool → ℤ
one b = cond b (pos 1) (pos 0)

one_more : (b : Bool) (w v : ℤ) → cond b (w -ℤ pos 1) w ≡ v → w ≡ v +ℤ one b
one_more true w v e = e ∴ simp ints (omega arith)
one_more false w v e = e ∴ simp ints (omega arith)

-- from the year 2000 + q to the next, where n divides 2000
every : (n k : ℕ) → 1 ≤ n → n * k ≡ 2000 → (q : ℤ)
    → floor_div (q +ℤ pos 1) n ≡ floor_div q n +ℤ one (multiple_of n (q +ℤ pos 2001))
every n k above e q =
    let y : q +ℤ pos 2001 ≡ q +ℤ pos 1 +ℤ pos n *ℤ pos k = ap pos e ∴ simp ints (omega arith) in
    let same : floor_mod (q +ℤ pos 2001) n ≡ floor_mod (q +ℤ pos 1) n = ap (λ (t : ℤ). floor_mod t n) y ∙ floor_mod-shift n above (q +ℤ pos 1) (pos k) in
    one_more (multiple_of n (q +ℤ pos 2001)) (floor_div (q +ℤ pos 1) n) (floor_div q n) (rw same (quotient-before n above q))

-- a multiple of m·n is one of m
multiple-part : (m n : ℕ) → 1 ≤ m → 1 ≤ n → (y : ℤ) → multiple_of (m * n) y ≡ true → multiple_of m y ≡ true
multiple-part m n h k y e =
    (eqb-iff (floor_mod y m) 0).1 (sym (floor_mod-floor_mod y m n h k) ∙ ap (λ (r : ℕ). r % m) ((eqb-iff (floor_mod y (m * n)) 0).0 e) ∙ zero-mod m)

-- the days that the three rules add are those of the leap year rule
one-leap : (a b c : Bool) → (b ≡ true → a ≡ true) → (c ≡ true → b ≡ true)
    → one a -ℤ one b +ℤ one c ≡ one (a && (not b || c))
one-leap true true true f g = refl
one-leap true true false f g = refl
one-leap true false true f g = absurd (true≢false (g refl) refl)
one-leap true false false f g = refl
one-leap false true c f g = absurd (true≢false (f refl) refl)
one-leap false false true f g = absurd (true≢false (g refl) refl)
one-leap false false false f g = refl

leap-is : (y : ℤ) → one (multiple_of 4 y) -ℤ one (multiple_of 100 y) +ℤ one (multiple_of 400 y) ≡ one (leap y)
unfolding leap
leap-is y =
    one-leap (multiple_of 4 y) (multiple_of 100 y) (multiple_of 400 y) (multiple-part 4 25 (omega arith) (omega arith) y) (multiple-part 100 4 (omega arith) (omega arith) y)

-- ---- the lengths of the months

pub leap_years-next : (q : ℤ) → leap_years (q +ℤ pos 1) ≡ leap_years q +ℤ one (leap (q +ℤ pos 2001))
unfolding leap_years
leap_years-next q =
    every 4 500 (omega arith) refl q ∴ every 100 20 (omega arith) refl q ∴ every 400 5 (omega arith) refl q ∴ leap-is (q +ℤ pos 2001) ∴ simp ints (omega arith)

pub s9-is : (q : ℤ) (m : ℕ) → 1 ≤ m → m ≤ 13
    → s9 (pos 12 *ℤ q +ℤ pos m) ≡ s6 (pos 12 *ℤ q +ℤ pos m) +ℤ leap_years (q +ℤ past m)
unfolding leap_years altered
s9-is q m h k =
    added 4 (omega arith) q m h k ∴ added 100 (omega arith) q m h k ∴ added 400 (omega arith) q m h k ∴ simp ints (omega arith)

-- only from February on is there another leap day, where the year has one
leap-step : (q : ℤ) (m : ℕ)
    → leap_years (q +ℤ past (suc m)) ≡ leap_years (q +ℤ past m) +ℤ one (eqb m 2 && leap (q +ℤ pos 2001))
leap-step q m = by (ltb 2 (suc m)) (ltb 2 m) (eqb m 2) refl refl refl
  where
    by : (a b c : Bool) → ltb 2 (suc m) ≡ a → ltb 2 m ≡ b → eqb m 2 ≡ c
        → leap_years (q +ℤ one a) ≡ leap_years (q +ℤ one b) +ℤ one (c && leap (q +ℤ pos 2001))
    by true false true e f g =
        leap_years-next q ∴ ap leap_years {x = q +ℤ pos 0} {y = q} (simp ints (omega arith)) ∴ simp ints (omega arith)
    by true true false e f g = simp ints (omega arith)
    by false false false e f g = simp ints (omega arith)
    by true true true e f g = absurd (omega (arith, (ltb_iff 2 m).0 f, (eqb-iff m 2).0 g))
    by true false false e f g =
        absurd (omega (arith, (ltb_iff 2 (suc m)).0 e, (false-iff (ltb_iff 2 m)).0 f, (false-iff (eqb-iff m 2)).0 g))
    by false true c e f g = absurd (omega (arith, (false-iff (ltb_iff 2 (suc m))).0 e, (ltb_iff 2 m).0 f))
    by false false true e f g = absurd (omega (arith, (false-iff (ltb_iff 2 (suc m))).0 e, (eqb-iff m 2).0 g))

days-are : (y : ℤ) (m : ℕ) → pos (days_in y m) ≡ pos (common_length m) +ℤ one (eqb m 2 && leap y)
unfolding days_in common_length
days-are y m = by (eqb m 2) (leap y) refl
  where
    by : (c l : Bool) → eqb m 2 ≡ c → pos (cond (c && l) 29 (common_length m)) ≡ pos (common_length m) +ℤ one (c && l)
    by true true e = ap (λ (k : ℕ). pos (common_length k) +ℤ pos 1) (sym ((eqb-iff m 2).0 e))
    by true false e = simp ints (omega arith)
    by false l e = simp ints (omega arith)

pub month-step : (y : ℤ) (m : ℕ) → 1 ≤ m → m ≤ 12
    → s9 (month_slot y m +ℤ pos 1) ≡ s9 (month_slot y m) +ℤ pos (days_in y m)
month-step y m h k =
    let q = y -ℤ pos 2001 in
    let i = pos 12 *ℤ q in
    let e : i +ℤ pos m +ℤ pos 1 ≡ i +ℤ pos (suc m) = simp ints (omega arith) in
    let f : q +ℤ pos 2001 ≡ y = simp ints (omega arith) in
    ap s9 e
    ∴ s9-is q (suc m) (omega arith) (omega arith)
    ∴ ap s6 e
    ∴ common-step q m h k
    ∴ leap-step q m
    ∴ s9-is q m h (omega arith)
    ∴ ap (λ (x : ℤ). one (eqb m 2 && leap x)) f
    ∴ days-are y m
    ∴ simp ints (omega arith)
