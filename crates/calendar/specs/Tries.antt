-- How many divisors the search for the least form of a row tries (document 02, Req 03).
use Rattle.std.specs.Prelude.{true, false, cond, List, [], ◌∷◌, ℕ, zero, suc, ◌/◌, ◌%◌, eqb}
use Rattle.integers.specs.Gcd.{gcd, euclid}
use Rattle.calendar.specs.Meaning.{Row}
use Rattle.calendar.specs.Granules.{granules}
use Rattle.calendar.specs.Least.{repeats_after}

-- the divisors of g up to n, the greatest first
abbrev pub divisors : ℕ → ℕ → List ℕ
divisors g zero = []
divisors g (suc n) = cond (eqb (g % suc n) 0) (suc n ∷ divisors g n) (divisors g n)

-- how many of these are tried: m "gives a period" if the row repeats after P / m instants
abbrev pub tried_of : Row → List ℕ → ℕ
tried_of r [] = 0
tried_of r (m ∷ l) = elim (repeats_after r (r.period / m)) [ true ↦ 1 | false ↦ suc (tried_of r l) ]

-- "gcd(P, N, R)"
unfoldable pub common : Row → ℕ
unfolding gcd euclid granules
common r = gcd (gcd r.period r.distance) (granules r)

-- "how many it tried: exactly the divisors of gcd(P, N, R) from the greatest down to the first that gives a period"
unfoldable pub tries : Row → ℕ
unfolding common repeats_after
tries r = tried_of r (divisors (common r) (common r))
