-- Rows that stand one behind the other, row by row.
-- Assumes nothing.
use mathlib.Core.Path.{◌≡◌, refl, sym, ◌∙◌, ap}
use mathlib.Core.Bool.{Bool, true, false, ◌&&◌}
use mathlib.Core.List.{List}
use Prim.Native.Nat.{ℕ, zero, suc, ◌+◌, ◌<◌}
use native.Mathlib.Omega.{arith}
use lib.IntN.{ℤ}
use Rattle.granules.proofs.Tests.{and-iff, true≢false}
use Rattle.standing.specs.Tests.{row_stands, end_of, rows_stand}

rows-suc : (h : List ℕ) (p : List ℤ) (n : ℕ) → rows_stand h p (suc n) ≡ rows_stand h p n && row_stands h p n (end_of h n)
unfolding rows_stand
rows-suc h p n = refl

pub rows_none : (h : List ℕ) (p : List ℤ) → rows_stand h p 0 ≡ true
unfolding rows_stand
rows_none h p = refl

pub rows_more : (h : List ℕ) (p : List ℤ) (n : ℕ) → rows_stand h p n ≡ true → row_stands h p n (end_of h n) ≡ true → rows_stand h p (n + 1) ≡ true
rows_more h p n a b =
    let z : n + 1 ≡ suc n = omega arith in
    ap (rows_stand h p) z ∙ rows-suc h p n ∙ (and-iff (rows_stand h p n) (row_stands h p n (end_of h n))).1 (a, b)

-- one that does not stand
pub rows-fail : (h : List ℕ) (p : List ℤ) (n : ℕ) → row_stands h p n (end_of h n) ≡ false → (k : ℕ) → n < k → rows_stand h p k ≡ false
rows-fail h p n e zero b = absurd (omega arith)
rows-fail h p n e (suc k) b = by (rows_stand h p (suc k)) refl (λ c. rows-fail h p n e k c)
  where
    by : (x : Bool) → rows_stand h p (suc k) ≡ x → (n < k → rows_stand h p k ≡ false) → x ≡ false
    by false q ih = refl
    by true q ih =
        let a = (and-iff (rows_stand h p k) (row_stands h p k (end_of h k))).0 (sym (rows-suc h p k) ∙ q) in
        let here : ¬ (n ≡ k) = λ s. true≢false a.1 (ap (λ (i : ℕ). row_stands h p i (end_of h i)) (sym s) ∙ e) in
        let before : ¬ (n < k) = λ c. true≢false a.0 (ih c) in
        absurd (omega (arith, here, before))
