-- How many numbers pass a test, counted from 0 on: a total over the integers, of which each window's count is a difference.
use mathlib.Core.Path.{◌≡◌, refl, ◌∙◌, ap}
use mathlib.Core.Bool.{Bool, true, false, cond}
use mathlib.Core.List.{List, [], ◌∷◌}
use Prim.Native.Nat.{ℕ, zero, suc, ◌+◌}
use native.Mathlib.Omega.{arith}
use lib.IntN.{ℤ, pos, negsuc, neg_ℤ, ◌+ℤ◌, ◌-ℤ◌}
use lib.Signed.{◌≤ℤ◌}
use lib.ListN.{length}
use Rattle.integers.specs.Parts.{up}
use Rattle.integers.proofs.Linear.{ints, ◌∴◌}
use Rattle.integers.proofs.Order.{pos-up}
use Rattle.calendar.specs.Lists.{keep, from}
use Rattle.granules.proofs.Count.{count}

module _ (f : ℤ → Bool) where
  count-cons : (x : ℤ) (l : List ℤ) → count f (x ∷ l) ≡ count f (x ∷ []) + count f l
  count-cons x l = by (f x)
    where
      by : (b : Bool) → length (cond b (x ∷ keep f l) (keep f l)) ≡ length (cond b (x ∷ []) []) + count f l
      by true = omega arith
      by false = omega arith

  -- the last of a window
  count-last : (k : ℤ) (n : ℕ) → count f (from k (suc n)) ≡ count f (from k n) + count f ((k +ℤ pos n) ∷ [])
  count-last k zero =
      let e : k +ℤ pos 0 ≡ k = simp ints (omega arith) in
      omega (arith, ap (λ (z : ℤ). count f (z ∷ [])) e)
  count-last k (suc n) =
      let e : k +ℤ pos 1 +ℤ pos n ≡ k +ℤ pos (suc n) = simp ints (omega arith) in
      let next = count-last (k +ℤ pos 1) n in
      omega (arith, ap (λ (z : ℤ). count f (z ∷ [])) e, count-cons k (from (k +ℤ pos 1) n), count-cons k (from (k +ℤ pos 1) (suc n)))

  -- those below z less those below 0
  pub total : ℤ → ℤ
  total (pos n) = pos (count f (from (pos 0) n))
  total (negsuc n) = neg_ℤ (pos (count f (from (negsuc n) (suc n))))

  total-pos : (n : ℕ) → total (pos n) ≡ pos (count f (from (pos 0) n))
  unfolding total
  total-pos n = refl

  total-neg : (n : ℕ) → total (negsuc n) ≡ neg_ℤ (pos (count f (from (negsuc n) (suc n))))
  unfolding total
  total-neg n = refl

  pub total-next : (z : ℤ) → total (z +ℤ pos 1) ≡ total z +ℤ pos (count f (z ∷ []))
  total-next (pos n) =
      let e : pos n +ℤ pos 1 ≡ pos (suc n) = simp ints (omega arith) in
      let d : pos 0 +ℤ pos n ≡ pos n = simp ints (omega arith) in
      ap total e
      ∙ (total-pos (suc n) ∴ total-pos n ∴ count-last (pos 0) n ∴ ap (λ (z : ℤ). count f (z ∷ [])) d ∴ simp ints (omega arith))
  total-next (negsuc zero) = total-pos 0 ∙ (total-neg 0 ∴ simp ints (omega arith))
  total-next (negsuc (suc n)) =
      let e : negsuc (suc n) +ℤ pos 1 ≡ negsuc n = simp ints (omega arith) in
      ap total e
      ∙ (total-neg n
      ∴ total-neg (suc n)
      ∴ count-cons (negsuc (suc n)) (from (negsuc (suc n) +ℤ pos 1) (suc n))
      ∴ ap (λ (z : ℤ). count f (from z (suc n))) e
      ∴ simp ints (omega arith))

  -- over a window
  pub total-window : (k : ℤ) (n : ℕ) → total (k +ℤ pos n) ≡ total k +ℤ pos (count f (from k n))
  total-window k zero =
      let e : k +ℤ pos 0 ≡ k = simp ints (omega arith) in
      ap total e ∙ simp ints (omega arith)
  total-window k (suc n) =
      let e : k +ℤ pos (suc n) ≡ k +ℤ pos 1 +ℤ pos n = simp ints (omega arith) in
      ap total e
      ∙ (total-window (k +ℤ pos 1) n ∴ total-next k ∴ count-cons k (from (k +ℤ pos 1) n) ∴ simp ints (omega arith))

  pub total_mono : (h k : ℤ) → h ≤ℤ k → total h ≤ℤ total k
  total_mono h k l =
      let q = pos-up {z = k -ℤ h} (l ∴ simp ints (omega arith)) in
      let e : h +ℤ pos (up (k -ℤ h)) ≡ k = q ∴ simp ints (omega arith) in
      total-window h (up (k -ℤ h)) ∴ ap total e ∴ simp ints (omega arith)
