-- What a loop that renumbers labels keeps.
use Rattle.std.specs.Prelude.{◌≡◌, ℤ, pos, ◌-ℤ◌}
use Rattle.calendar.specs.Meaning.{Row}
use Rattle.calendar.specs.Compute.{renumbered, anchored}

-- the label of the last labelled instant before t, and its number
pub record Counts (a : Row) (x t label number : ℤ) : Type 0 where
  pub is_last : label ≡ anchored a (t -ℤ pos 1)
  pub numbered : number ≡ renumbered a x label
