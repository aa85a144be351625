-- The two cases of a capped number, and what each says of the number.
-- Assumes nothing.
use Rattle.std.specs.Prelude.{None, Some}
use mathlib.Core.Path.{◌≡◌, refl}
use mathlib.Core.Bool.{Bool, true, false}
use Prim.Native.Nat.{ℕ, ◌≤◌, ◌<◌}
use native.Mathlib.Omega.{arith}
use lib.Dec.{leb}
use borrow.Author.Tests.{leb-true, leb-false, le-leb, lt-leb}
use Rattle.integers.specs.Capped.{capped_at}

pub capped-within : {cap n : ℕ} → n ≤ cap → capped_at cap n ≡ Some n
unfolding capped_at
capped-within {cap} {n} h = rw (le-leb n cap h)

pub capped-too-long : {cap n : ℕ} → cap < n → capped_at cap n ≡ None
unfolding capped_at
capped-too-long {cap} {n} h = rw (lt-leb n cap h)

-- a number within the cap is the number itself
pub within-is : {cap n m : ℕ} → capped_at cap n ≡ Some m → (m ≡ n) × (n ≤ cap)
within-is {cap} {n} {m} e = go (leb n cap) refl
  where
    go : (t : Bool) → leb n cap ≡ t → (m ≡ n) × (n ≤ cap)
    go true p = let l = leb-true n cap p in let w = capped-within l in (cc, l)
    go false p = let w = capped-too-long (leb-false n cap p) in let z : ◌≡◌ {A = ℕ} 0 1 = cc in omega arith

pub too-long-is : {cap n : ℕ} → capped_at cap n ≡ None → cap < n
too-long-is {cap} {n} e = go (leb n cap) refl
  where
    go : (t : Bool) → leb n cap ≡ t → cap < n
    go true p = let w = capped-within (leb-true n cap p) in let z : ◌≡◌ {A = ℕ} 0 1 = cc in omega arith
    go false p = leb-false n cap p
