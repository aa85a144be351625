-- Alter's working period and its distance, from D and n: those of `Size.alter_turn` where D is `Size.fine` and n is `Size.coarse`.
-- Document 01: "r = Na/gcd(D, Na); the working period is Pa·r·D/Na and its distance r·n".
use Rattle.std.specs.Prelude.{ℕ, ◌*◌, ◌/◌, ℤ}
use Rattle.integers.specs.Parts.{up}
use Rattle.integers.specs.Gcd.{gcd, euclid}
use Rattle.calendar.specs.Size.{Turn}

-- r: after so many times n coarse granules, a has made whole turns
unfoldable pub rounds : Turn → ℤ → ℕ
unfolding gcd euclid
rounds a D = a.distance / gcd (up D) a.distance

unfoldable pub alter_period : Turn → ℤ → ℕ
unfolding rounds
alter_period a D = a.period * rounds a D * up D / a.distance

unfoldable pub alter_distance : Turn → ℕ → ℤ → ℕ
unfolding rounds
alter_distance a n D = rounds a D * n
