-- A list of zeros with some numbers in front: what stands at an index.
-- Assumes nothing.
use mathlib.Core.Path.{◌≡◌, refl, sym, ◌∙◌, ap}
use mathlib.Core.Logic.{◌⊎◌, inl, inr}
use mathlib.Core.List.{List, [], ◌∷◌, ◌++◌}
use Prim.Native.Nat.{ℕ, zero, suc, ◌-◌, ◌≤◌, ◌<◌}
use native.Mathlib.Omega.{arith}
use lib.IntN.{ℤ, pos}
use lib.ListN.{length, get_or, set, replicate, length-append, length-replicate, length-set}
use lib.Seq.{get_or-set_same, get_or-set_other, ext_get_or}
use Rattle.calendar.specs.Lists.{filled}
use Rattle.granules.proofs.Tests.{decided, eqb-iff}

-- the numbers of l, and zeros behind them
abbrev pub Shows : List ℤ → List ℤ → Type 0
Shows p l = (i : ℕ) → i < length p → get_or p i (pos 0) ≡ get_or l i (pos 0)

pub zeros-at : (n i : ℕ) → get_or (replicate n (pos 0)) i (pos 0) ≡ pos 0
zeros-at zero i = refl
zeros-at (suc n) zero = refl
zeros-at (suc n) (suc i) = zeros-at n i

pub behind-at : (l : List ℤ) (n i : ℕ) → get_or (l ++ replicate n (pos 0)) i (pos 0) ≡ get_or l i (pos 0)
behind-at [] n i = zeros-at n i
behind-at (x ∷ l) n zero = refl
behind-at (x ∷ l) n (suc i) = behind-at l n i

-- a list that shows l, which it has room for
pub shows-filled : (p l : List ℤ) (n : ℕ) → length p ≡ n → length l ≤ n → Shows p l → p ≡ filled n (pos 0) l
shows-filled p l n e h s =
    ext_get_or (pos 0) p (filled n (pos 0) l)
    (simp (length-append, length-replicate) (omega arith))
    (λ i k. s i k ∙ sym (behind-at l (n - length l) i))

pub shows_nothing : (p : List ℤ) → p ≡ replicate (length p) (pos 0) → Shows p []
shows_nothing p e i h = ap (λ (l : List ℤ). get_or l i (pos 0)) e ∙ zeros-at (length p) i

-- one number more
more-before : (l : List ℤ) (k : ℤ) (i : ℕ) → (i ≡ length l → ⊥) → get_or (l ++ (k ∷ [])) i (pos 0) ≡ get_or l i (pos 0)
more-before [] k zero h = absurd (h refl)
more-before [] k (suc i) h = refl
more-before (x ∷ l) k zero h = refl
more-before (x ∷ l) k (suc i) h = more-before l k i (λ e. h (ap suc e))

more-at : (l : List ℤ) (k : ℤ) → get_or (l ++ (k ∷ [])) (length l) (pos 0) ≡ k
more-at [] k = refl
more-at (x ∷ l) k = more-at l k

pub shows-past : (p l : List ℤ) (k : ℤ) → length p ≤ length l → Shows p l → Shows p (l ++ (k ∷ []))
shows-past p l k h s i m = s i m ∙ sym (more-before l k i (λ e. omega arith))

pub shows_more : (p l : List ℤ) (k : ℤ) (n : ℕ) → n ≡ length l → n < length p → Shows p l → Shows (set p n k) (l ++ (k ∷ []))
shows_more p l k n e h s i m = by (decided (eqb-iff i n))
  where
    by : (i ≡ n) ⊎ (i ≡ n → ⊥) → get_or (set p n k) i (pos 0) ≡ get_or (l ++ (k ∷ [])) i (pos 0)
    by (inl q) =
        ap (λ (j : ℕ). get_or (set p n k) j (pos 0)) q
        ∙ get_or-set_same p n k (pos 0) h
        ∙ sym (more-at l k)
        ∙ ap (λ (j : ℕ). get_or (l ++ (k ∷ [])) j (pos 0)) (sym (q ∙ e))
    by (inr f) =
        get_or-set_other p n i k (pos 0) f
        ∙ s i (omega (arith, simp length-set at m))
        ∙ sym (more-before l k i (λ q. f (q ∙ sym e)))
