-- The limits of the numbers of a kind.
use Rattle.std.specs.Prelude.{◌≡◌, pos, neg_ℤ, ◌≤ℤ◌}
use Rattle.calendar.specs.Limits.{million}
use Rattle.kinds.specs.declared.Alteration.{Alteration}
use Rattle.kinds.specs.declared.Pick.{Pick}
use Rattle.kinds.specs.declared.Selection.{Selection}
use Rattle.kinds.specs.declared.Selection.TheVariants.{Down, Up, Intersecting}

-- "x 1 to 1,000,000; y 1 to x; z within ±1,000,000"
pub record Limits (by : Alteration) : Type 0 where
  pub x-low : pos 1 ≤ℤ by.x
  pub x-high : by.x ≤ℤ million
  pub y-low : pos 1 ≤ℤ by.y
  pub y-high : by.y ≤ℤ by.x
  pub z-low : neg_ℤ million ≤ℤ by.z
  pub z-high : by.z ≤ℤ million

-- "Pick: x is not 0 and within ±1,000,000; y is 1 to 1,000,000."
pub record PickLimits (p : Pick) : Type 0 where
  pub not-zero : ¬ (p.x ≡ pos 0)
  pub x-low : neg_ℤ million ≤ℤ p.x
  pub x-high : p.x ≤ℤ million
  pub y-low : pos 1 ≤ℤ p.y
  pub y-high : p.y ≤ℤ million

abbrev pub Picking : Selection → Type 0
Picking (Down p) = PickLimits p
Picking Up = Unit {0}
Picking (Intersecting p) = PickLimits p
