-- The least period of a calendar whose granule i is the instants s(i) to s(i + 1) − 1, without its row.
--     The greatest common divisor of two periods is a period. So if P is not the least there is a period P/k, with
--     the distance N/k, for a k ≥ 2 that divides both. Then s(i + N/k) is s(i) + P/k for every i, which is refuted by
--     computing it at one i for each k up to gcd(P, N).
use mathlib.Core.Path.{◌≡◌, sym, ◌∙◌, ap, subst}
use mathlib.Core.Bool.{Bool, true, not, ◌&&◌}
use mathlib.Core.Option.{some}
use Prim.Native.Nat.{ℕ, zero, suc, ◌-◌, ◌*◌, ◌/◌, ◌≤◌, ◌<◌, ◌∣◌}
use native.Mathlib.Nat.{mul-div_cancel', mul-div_cancel, dvd-mul_left, le_of_dvd, eq_of_mul-eq-mul_right}
use native.Mathlib.Omega.{arith}
use lib.Dec.{eqb}
use lib.IntN.{ℤ, pos, ◌+ℤ◌, ◌-ℤ◌}
use lib.Signed.{◌≤ℤ◌}
use Rattle.integers.specs.Parts.{up}
use Rattle.integers.specs.Gcd.{gcd}
use Rattle.integers.proofs.Linear.{ints, ◌∴◌}
use Rattle.integers.proofs.Order.{≤ℤ-antisym}
use Rattle.integers.proofs.Divisors.{gcd-dvd, gcd-pos, gcd-greatest}
use Rattle.calendar.specs.Meaning.{Calendar, Repeats, raise}
use Rattle.calendar.specs.Lists.{all, from, equal}
use Rattle.granules.proofs.Tests.{true≢false, and-iff, not_iff, eqb-iff, equal-iff}
use Rattle.granules.proofs.Lists.{all-iff, mem-from}
use Rattle.granules.proofs.Calendars.{periods-proportional}
use Rattle.granules.proofs.Least.{periods-gcd}
use Rattle.algebra.specs.TableMeaning.{LeastTurn}
use Rattle.civil.proofs.Tilings.{Starts, Tiled, ends, tiling, period-positive, tiled-full, tiled-repeats}

-- P/k is no period: k does not divide P, or the granule i + N/k does not begin P/k instants behind the granule i
abbrev pub broken : (ℤ → ℤ) → ℕ → ℕ → ℤ → ℤ → Bool
broken s P N i k = not (eqb (P / up k * up k) P && equal (s (i +ℤ pos (N / up k))) (s i +ℤ pos (P / up k)))

-- for no k from 2 to gcd(P, N) is it one
abbrev pub all_broken : (ℤ → ℤ) → ℕ → ℕ → ℤ → Bool
all_broken s P N i = all (broken s P N i) (from (pos 2) (gcd P N - 1))

module _ {s : ℤ → ℤ} {P N m : ℕ} (starts : Starts s P N m) {c : Calendar} (tiled : Tiled c s) where
  -- where g is a period with the distance n, the granule i + n begins g instants behind the granule i: the instant
  -- before s(i) is in the granule i − 1
  starts-after : (g n : ℕ) → Repeats g n c → (i : ℤ) → s (i +ℤ pos n) ≡ s i +ℤ pos g
  starts-after g n r i =
      let e : i -ℤ pos 1 +ℤ pos 1 ≡ i = simp ints (omega arith) in
      let here = moved (s i) i ((tiled (s i) i).1 (simp ints (omega arith), (tiling starts).nonempty i)) in
      let before = moved (s i -ℤ pos 1) (i -ℤ pos 1)
      ((tiled (s i -ℤ pos 1) (i -ℤ pos 1)).1 ((tiling starts).nonempty (i -ℤ pos 1) ∴ ap s e ∴ simp ints (omega arith), ap s e ∴ simp ints (omega arith))) in
      ≤ℤ-antisym here.0 (before.1 ∴ ap s {x = i -ℤ pos 1 +ℤ pos n +ℤ pos 1} {y = i +ℤ pos n} (simp ints (omega arith)) ∴ simp ints (omega arith))
    where
      moved : (t j : ℤ) → c t ≡ some j → (s (j +ℤ pos n) ≤ℤ (t +ℤ pos g)) × ((t +ℤ pos g) ≤ℤ ends s (j +ℤ pos n))
      moved t j e = (tiled (t +ℤ pos g) (j +ℤ pos n)).0 (r t ∙ ap (raise (pos n)) e)

  -- no k-th part of P is a period
  no_part : (i : ℤ) → all_broken s P N i ≡ true → (g n k : ℕ) → 0 < g → P ≡ g * k → 2 ≤ k → Repeats g n c → ⊥
  no_part i test g n k above e two r =
      true≢false ((and-iff (eqb (P / k * k) P) (equal (s (i +ℤ pos (N / k))) (s i +ℤ pos (P / k)))).1 (divides, begins)) ((not_iff _).0 tested)
    where
      positive : 0 < k
      positive = omega arith

      N-is : N ≡ n * k
      N-is =
          eq_of_mul-eq-mul_right g above N (n * k)
          (periods-proportional c P N g n (tiled-repeats starts tiled) r (pos 1) (tiled-full starts tiled (pos 1)) ∙ ap (λ (p : ℕ). n * p) e ∙ omega arith)

      at-most : k ≤ gcd P N
      at-most =
          le_of_dvd (gcd-pos P N (period-positive starts))
          (gcd-greatest k P N (subst (λ (p : ℕ). k ∣ p) (sym e) (dvd-mul_left k g)) (subst (λ (p : ℕ). k ∣ p) (sym N-is) (dvd-mul_left k n)))

      tested : broken s P N i (pos k) ≡ true
      tested =
          (all-iff (broken s P N i) (from (pos 2) (gcd P N - 1))).0 test (pos k) ((mem-from (pos k) (pos 2) (gcd P N - 1)).1 (simp ints (omega (arith, at-most))))

      divides : eqb (P / k * k) P ≡ true
      divides = (eqb-iff (P / k * k) P).1 (rw (e, mul-div_cancel g positive))

      begins : equal (s (i +ℤ pos (N / k))) (s i +ℤ pos (P / k)) ≡ true
      begins =
          (equal-iff (s (i +ℤ pos (N / k))) (s i +ℤ pos (P / k))).1 (rw (N-is, e, mul-div_cancel n positive, mul-div_cancel g positive) (starts-after g n r i))

  pub least-turn : (i : ℤ) → all_broken s P N i ≡ true → LeastTurn c (record { period = P; distance = N })
  least-turn i test =
      record { positive = (above, starts.positive.0); repeats = tiled-repeats starts tiled; least = shortest }
    where
      above : 1 ≤ P
      above = period-positive starts

      shortest : (Q M : ℕ) → 1 ≤ Q → 1 ≤ M → Repeats Q M c → P ≤ Q
      shortest Q M q _ r = by (P / g) (sym (mul-div_cancel' g (gcd-dvd P Q).0))
        where
          g : ℕ
          g = gcd P Q

          by : (k : ℕ) → P ≡ g * k → P ≤ Q
          by zero e = absurd (omega (arith, above))
          by (suc zero) e = omega (arith, le_of_dvd q (gcd-dvd P Q).1)
          by (suc (suc k)) e =
              let (n, h) = periods-gcd c P N Q M above (tiled-repeats starts tiled) q r (pos 1) (tiled-full starts tiled (pos 1)) in
              absurd (no_part i test g n (suc (suc k)) (gcd-pos P Q above) e (omega arith) h)
