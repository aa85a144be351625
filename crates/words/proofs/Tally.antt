-- Sums of bits.
-- Assumes nothing.
use mathlib.Core.Path.{◌≡◌, refl, ap, ◌∙◌}
use Prim.Native.Nat.{ℕ, zero, suc, ◌+◌, ◌-◌, ◌≤◌, ◌<◌}
use native.Mathlib.Nat.{add-zero, add-suc}
use native.Mathlib.Numerals.{add-one}
use native.Mathlib.Omega.{arith}
use Rattle.words.specs.Bits.{tally}
use Rattle.words.specs.Places.{Clear}

pub tally-zero : (f : ℕ → ℕ) → tally f 0 ≡ 0
unfolding tally
tally-zero f = refl

-- one more
pub tally-suc : (f : ℕ → ℕ) (n : ℕ) → tally f (suc n) ≡ tally f n + f n
unfolding tally
tally-suc f n = refl

pub tally-one : (f : ℕ → ℕ) (n : ℕ) → tally f (n + 1) ≡ tally f n + f n
tally-one f n = rw add-one (tally-suc f n)

-- of two functions that agree below n
pub tally-same : (f g : ℕ → ℕ) (n : ℕ) → ((i : ℕ) → i < n → f i ≡ g i) → tally f n ≡ tally g n
unfolding tally
tally-same f g zero h = refl
tally-same f g (suc n) h = omega (arith, tally-same f g n (λ i l. h i (omega arith)), h n (omega arith))

-- the first m, and the n behind them
pub tally-add : (f : ℕ → ℕ) (m n : ℕ) → tally f (m + n) ≡ tally f m + tally (λ i. f (m + i)) n
unfolding tally
tally-add f m zero = ap (tally f) (add-zero m) ∙ omega arith
tally-add f m (suc n) = rw add-suc (omega (arith, tally-add f m n))

-- a longer tally is no smaller
pub tally-mono : (f : ℕ → ℕ) (m n : ℕ) → m ≤ n → tally f m ≤ tally f n
tally-mono f m n l = let e : m + (n - m) ≡ n = omega arith in omega (arith, ap (tally f) e, tally-add f m (n - m))

-- none set adds nothing
pub tally-none : (f : ℕ → ℕ) (n : ℕ) → ((i : ℕ) → i < n → f i ≡ 0) → tally f n ≡ 0
unfolding tally
tally-none f zero h = refl
tally-none f (suc n) h = omega (arith, tally-none f n (λ i l. h i (omega arith)), h n (omega arith))

pub tally-clear : (f : ℕ → ℕ) (m n : ℕ) → m ≤ n → Clear f m n → tally f n ≡ tally f m
tally-clear f m n l h =
    let e : m + (n - m) ≡ n = omega arith in
    omega (arith, ap (tally f) e, tally-add f m (n - m), tally-none (λ i. f (m + i)) (n - m) (λ i k. h (m + i) (omega arith) (omega arith)))

-- no more than there are bits
pub tally-le : (f : ℕ → ℕ) (n : ℕ) → ((i : ℕ) → f i ≤ 1) → tally f n ≤ n
unfolding tally
tally-le f zero h = omega arith
tally-le f (suc n) h = omega (arith, tally-le f n h, h n)
