-- A walk has a direction: back or on.
use Rattle.std.specs.Prelude.{Bool, true, false, ℤ, pos, ◌+ℤ◌, ◌-ℤ◌}

-- the instant after u on the way
abbrev pub stepped : Bool → ℤ → ℤ
stepped true u = u -ℤ pos 1
stepped false u = u +ℤ pos 1

-- how far x is from t on the way
abbrev pub away : Bool → ℤ → ℤ → ℤ
away true t x = t -ℤ x
away false t x = x -ℤ t
