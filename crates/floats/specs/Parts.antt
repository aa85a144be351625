-- How many 256ths a share has: how a share is recognised without a remainder of floats.
use Rattle.std.specs.Prelude.{ℕ, suc, ◌*◌, ◌≤◌, ◌<◌, Float}
use Rattle.std.specs.Float.Ieee.Positive.{num, den}

-- v is from n / 256 on, and below (n + 1) / 256
pub record WholeParts (v : Float) (n : ℕ) : Type 0 where
  pub least : n * den v ≤ num v * 256
  pub most : num v * 256 < suc n * den v
  pub few : n ≤ 256
