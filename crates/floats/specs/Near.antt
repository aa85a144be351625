-- Whole numbers and their quotients as binary64 numbers, said in whole numbers alone.
-- A finite binary64 number is ±m · 2 ^ e, the fraction m * up e / down e.
use Rattle.std.specs.Prelude.{ℕ, ◌+◌, ◌-◌, ◌*◌, ◌^◌, Bool, false, not, ◌&&◌, pos, leb, eqb, Float}
use Rattle.std.specs.Float.{nan, inf, fin, binary64}
use Rattle.std.specs.Float.Ieee.{up, down, of_int}

-- the greatest number of instants or granules that this crate takes: no row is longer (document 02: "the pool and P to 4,194,304 cells")
abbrev pub limit : ℕ
limit = 4194304

-- n as a binary64 number
abbrev pub float : ℕ → Float
float n = of_int binary64 (pos n)

-- |a − b|
abbrev pub abs_diff : ℕ → ℕ → ℕ
abs_diff a b = (a - b) + (b - a)

-- "If n/d is the exact figure and the answer is v, then |v·d − n|·2^53 ≤ n, written over whole numbers": both sides times v's denominator
abbrev pub within : ℕ → ℕ → Float → Bool
within n d nan = false
within n d (inf s) = false
within n d (fin s m e) = not s && leb (abs_diff (m * up e * d) (n * down e) * 2 ^ 53) (n * down e)

-- "where d divides n it is exact": v is the whole number q
abbrev pub equals : ℕ → Float → Bool
equals q nan = false
equals q (inf s) = false
equals q (fin s m e) = not s && eqb (m * up e) (q * down e)
