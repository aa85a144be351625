-- A float that equals a fraction is finite, and a whole number up to 2 ^ 53 is a binary64 number: nothing is lost.
use mathlib.Core.Path.{◌≡◌, ap}
use mathlib.Core.Bool.{Bool, false}
use Prim.Native.Nat.{ℕ, ◌*◌, ◌^◌, ◌≤◌}
use lib.IntN.{ℤ, pos}
use lib.Dec.{T, le→leb}
use lib.Ieee.{Float, nan, inf, fin, binary64, up, down, of_int, in_float}
use lib.Ieee.Exact.{HasValue}
use lib.Ieee.Back.{round_whole}
use Rattle.floats.specs.Near.{float}

-- a float that is ±a / c is some ±m * 2 ^ e
pub shape : (x : Float) (s : Bool) (a c : ℕ) → HasValue x s a c → (m : ℕ) × (e : ℤ) × (x ≡ fin s m e) × (m * up e * c ≡ a * down e)
shape nan s a c v = absurd v
shape (inf t) s a c v = absurd v
shape (fin t m e) s a c v = (m, e, ap (λ (b : Bool). fin b m e) v.0, v.1)

-- what the cast `n as f64` asks
pub cast_fits : (n : ℕ) → n ≤ 2 ^ 53 → T (in_float binary64 (pos n))
unfolding in_float
cast_fits n h = le→leb n (2 ^ 53) h

pub float_value : (n : ℕ) → n ≤ 2 ^ 53 → HasValue (float n) false n 1
unfolding of_int
float_value n h = round_whole binary64 false n h
