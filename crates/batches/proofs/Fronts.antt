-- Answers that are written one by one over the front of a list.
-- Assumes nothing.
use mathlib.Core.Path.{◌≡◌, refl, sym, ◌∙◌, ap}
use mathlib.Core.List.{List, [], ◌∷◌, map}
use Prim.Native.Nat.{ℕ, zero, suc, ◌+◌, ◌-◌, ◌≤◌, ◌<◌}
use native.Mathlib.Numerals.{add-one, unary_clauses}
use native.Mathlib.Omega.{arith}
use lib.IntN.{ℤ, pos}
use lib.ListN.{length, get_or, set, take, replicate}
use lib.Seq.{take_all}
use Rattle.calendar.specs.Lists.{filled}
use Rattle.batches.specs.Front.{front}

module _ (f : ℤ → ℤ) where
  more : (qs p : List ℤ) (i : ℕ) → i < length qs → length qs ≤ length p
      → set (front f (take i qs) p) i (f (get_or qs i (pos 0))) ≡ front f (take (suc i) qs) p
  more [] p i l h = absurd (omega arith)
  more (q ∷ qs) [] i l h = absurd (omega arith)
  more (q ∷ qs) (x ∷ p) zero l h = refl
  more (q ∷ qs) (x ∷ p) (suc i) l h = ap (λ (r : List ℤ). f q ∷ r) (more qs p i (omega arith) (omega arith))

-- one answer more, k, at the place of its question
pub front-more : (f : ℤ → ℤ) (qs p : List ℤ) (i : ℕ) {b : List ℤ} {k : ℤ} → i < length qs → length qs ≤ length p → k ≡ f (get_or qs i (pos 0))
    → b ≡ front f (take i qs) p → set b i k ≡ front f (take (i + 1) qs) p
front-more f qs p i l h e w =
    (cc) ∙ more f qs p i l h ∙ ap (λ (n : ℕ). front f (take n qs) p) (sym (add-one i))

-- all are answered
pub front-all : (f : ℤ → ℤ) (qs p : List ℤ) (i : ℕ) {b : List ℤ} → length qs ≤ i → b ≡ front f (take i qs) p → b ≡ front f qs p
front-all f qs p i l w = w ∙ ap (λ (r : List ℤ). front f r p) (take_all i qs l)

-- over a list of zeros
pub front-cleared : (f : ℤ → ℤ) (qs : List ℤ) (n : ℕ) → length qs ≤ n → front f qs (replicate n (pos 0)) ≡ filled n (pos 0) (map f qs)
front-cleared f [] n h = let e : n ≡ n - 0 = omega arith in ap (λ (k : ℕ). replicate k (pos 0)) e
front-cleared f (q ∷ qs) zero h = absurd (omega arith)
front-cleared f (q ∷ qs) (suc n) h = ap (λ (r : List ℤ). f q ∷ r) (front-cleared f qs n (omega arith)) ∙ simp unary_clauses
