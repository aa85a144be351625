-- The parts of an integer, as naturals.
use Rattle.std.specs.Prelude.{ℕ, suc, ℤ, pos, negsuc}

-- what an integer has above zero, and below
abbrev pub up : ℤ → ℕ
up (pos n) = n
up (negsuc n) = 0

abbrev pub dn : ℤ → ℕ
dn (pos n) = 0
dn (negsuc n) = suc n
