-- The granules that altering would empty, and what a pass over them is given.
use Rattle.std.specs.Prelude.{Bool, ◌&&◌, ℕ, ◌^◌, eqb, ℤ, pos, ◌+ℤ◌, ◌-ℤ◌, ◌≤ℤ◌, ◌<ℤ◌}
use Rattle.std.specs.Int.Signed.{lt_z}
use Rattle.integers.specs.Floor.{floor_mod}
use Rattle.calendar.specs.Meaning.{Row, meant, Full}
use Rattle.calendar.specs.Algebra.{Partition}
use Rattle.calendar.specs.Lists.{first, last}
use Rattle.calendar.specs.Granules.{meeting}
use Rattle.calendar.specs.Limits.{pool_limit}
use Rattle.cursors.specs.Found.{Within}
use Rattle.kinds.specs.declared.Alteration.{Alteration}
use Rattle.alter_granules.specs.declared.coarse.Begin.{Begin}
use Rattle.kinds.specs.Limits.{Limits}
use Rattle.alter_granules.specs.CoarseBegins.{at, CoarseBegins}

-- of a granule with so many fine ones, altering would leave none, and g divides i − y
abbrev pub short_by : Alteration → ℕ → ℤ → ℤ → Bool
short_by by g i size = lt_z (size +ℤ by.z) (pos 1) && eqb (floor_mod (i -ℤ by.y) g) 0

-- that granule is the granule i of b
unfoldable pub short : Alteration → Row → Row → ℕ → ℤ → Bool
unfolding meeting floor_mod
short by a b g i = short_by by g i (last (meeting a b i) -ℤ first (meeting a b i) +ℤ pos 1)

-- what a pass over so many granules is given
pub record Passable (by : Alteration) (a b : Row) (c : Begin) (common count : ℤ) : Type 0 where
  pub limits : Limits by
  pub full : Full (meant a) × Full (meant b)
  pub partition : Partition (meant a) (meant b)
  pub begins : CoarseBegins a b c
  pub near : Within (2 ^ 53) (at b c)
  pub divides : pos 0 <ℤ common
  pub low : pos 0 ≤ℤ count
  pub high : count ≤ℤ pos pool_limit
