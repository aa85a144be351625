-- A search cell by cell: its steps, its end, and what stands where it ends.
-- Assumes nothing.
use mathlib.Core.Path.{◌≡◌, refl, ap}
use mathlib.Core.Bool.{Bool, true, false, cond}
use mathlib.Core.List.{List, [], ◌∷◌}
use Prim.Native.Nat.{ℕ, zero, suc, ◌+◌, ◌≤◌, ◌<◌}
use native.Mathlib.Numerals.{add-one}
use native.Mathlib.Omega.{arith}
use lib.IntN.{ℤ}
use lib.ListN.{length, get_or, drop, drop_of_length-le}
use lib.Seq.{drop-cons}
use Rattle.granules.proofs.Tests.{true≢false}
use Rattle.cursors.specs.Search.{run}

module _ (f : ℤ → Bool) where
  pub run-cons : (z : ℤ) (l : List ℤ) (b : Bool) → f z ≡ b → run f (z ∷ l) ≡ cond b (suc (run f l)) 0
  unfolding run
  run-cons z l b e = ap (λ (x : Bool). cond x (suc (run f l)) 0) e

  run-nil : run f [] ≡ 0
  unfolding run
  run-nil = refl

  -- the search stands at i: it has passed the cells before
  abbrev pub Searched : List ℤ → ℕ → Type 0
  Searched l i = (i ≤ length l) × (run f l ≡ i + run f (drop i l))

  pub search-start : (l : List ℤ) → Searched l 0
  search-start l = (omega arith, omega arith)

  pub search-past : (l : List ℤ) (i : ℕ) (d : ℤ) → Searched l i → i < length l → f (get_or l i d) ≡ true → Searched l (i + 1)
  search-past l i d s h e =
      let p : run f (drop i l) ≡ suc (run f (drop (i + 1) l)) = rw (add-one, drop-cons l i d) (run-cons (get_or l i d) (drop (suc i) l) true e) in
      (omega arith, omega arith)

  pub search-here : (l : List ℤ) (i : ℕ) (d : ℤ) → Searched l i → i < length l → f (get_or l i d) ≡ false → run f l ≡ i
  search-here l i d s h e =
      let p : run f (drop i l) ≡ 0 = rw (drop-cons l i d) (run-cons (get_or l i d) (drop (suc i) l) false e) in
      omega arith

  pub search-end : (l : List ℤ) (i : ℕ) → Searched l i → length l ≤ i → run f l ≡ i
  search-end l i s h =
      let p : run f (drop i l) ≡ 0 = rw (drop_of_length-le l h) run-nil in
      omega arith

  -- where it ends before the end of the list, the test fails
  pub run-fails : (l : List ℤ) (d : ℤ) → run f l < length l → f (get_or l (run f l) d) ≡ false
  run-fails [] d h = absurd (omega arith)
  run-fails (z ∷ l) d h = by (f z) refl (run-fails l d)
    where
      by : (b : Bool) → f z ≡ b → (run f l < length l → f (get_or l (run f l) d) ≡ false) → f (get_or (z ∷ l) (run f (z ∷ l)) d) ≡ false
      by true e ih =
          let p = run-cons z l true e in
          rw p (ih (omega arith))
      by false e ih = rw (run-cons z l false e) e

  -- its length, and what stands in it
  pub run_length : (l : List ℤ) → run f l ≤ length l
  unfolding run
  run_length [] = omega arith
  run_length (z ∷ l) = by (f z) refl (run_length l)
    where
      by : (b : Bool) → f z ≡ b → run f l ≤ length l → run f (z ∷ l) ≤ length (z ∷ l)
      by true e ih = rw (run-cons z l true e) (omega arith)
      by false e ih = rw (run-cons z l false e) (omega arith)

  -- every cell of it passes
  pub run-passes : (l : List ℤ) (i : ℕ) (d : ℤ) → i < run f l → f (get_or l i d) ≡ true
  unfolding run
  run-passes [] i d h = absurd (omega arith)
  run-passes (z ∷ l) i d h = by (f z) refl i h (λ i g. run-passes l i d g)
    where
      by : (b : Bool) → f z ≡ b → (i : ℕ) → i < run f (z ∷ l) → ((i : ℕ) → i < run f l → f (get_or l i d) ≡ true) → f (get_or (z ∷ l) i d) ≡ true
      by true e zero g ih = e
      by true e (suc i) g ih = let p = run-cons z l true e in ih i (omega (arith, p))
      by false e i g ih = let p = run-cons z l false e in absurd (omega (arith, p))

  -- it ends before any that fails
  pub run-before : (l : List ℤ) (i : ℕ) (d : ℤ) → f (get_or l i d) ≡ false → run f l ≤ i
  run-before l i d e =
      let n : i < run f l → ⊥ = λ h. true≢false (run-passes l i d h) e in
      omega (arith, n)
