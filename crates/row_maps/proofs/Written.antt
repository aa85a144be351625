-- A list with f at each index.
-- Assumes nothing.
use mathlib.Core.Path.{◌≡◌, refl, sym, ◌∙◌, ap}
use mathlib.Core.List.{List}
use Prim.Native.Nat.{ℕ, zero, suc, ◌+◌, ◌<◌}
use native.Mathlib.Omega.{arith}
use lib.ListN.{length, get_or}
use lib.Seq.{ext_get_or}
use Rattle.row_maps.specs.Making.{listed}

pub length-listed : (f : ℕ → ℕ) (k n : ℕ) → length (listed f k n) ≡ n
unfolding listed
length-listed f k zero = refl
length-listed f k (suc n) = ap suc (length-listed f (suc k) n)

pub get_or-listed : (f : ℕ → ℕ) (k n i : ℕ) → i < n → get_or (listed f k n) i 0 ≡ f (k + i)
unfolding listed
get_or-listed f k zero i h = absurd (omega arith)
get_or-listed f k (suc n) zero h = let e : k ≡ k + 0 = omega arith in ap f e
get_or-listed f k (suc n) (suc i) h = let e : suc k + i ≡ k + suc i = omega arith in get_or-listed f (suc k) n i (omega arith) ∙ ap f e

-- the list with f at each index
pub all-written : (f : ℕ → ℕ) (n : ℕ) (p : List ℕ) → length p ≡ n → ((k : ℕ) → k < n → get_or p k 0 ≡ f k) → p ≡ listed f 0 n
all-written f n p whole done =
    ext_get_or 0 p (listed f 0 n) (whole ∙ sym (length-listed f 0 n))
    (λ k l. let e : k ≡ 0 + k = omega arith in done k (omega arith) ∙ ap f e ∙ sym (get_or-listed f 0 n k (omega arith)))
