-- The three figures of a row (document 01, "Questions to a row", Figures).
use Rattle.std.specs.Prelude.{◌≡◌, ℕ, ◌*◌, T, Float}
use Rattle.std.specs.Float.{binary64}
use Rattle.std.specs.Float.Ieee.{div}
use Rattle.floats.specs.Near.{within, equals, float}
use Rattle.floats.specs.declared.Figures.{Figures}

-- "Each is one division, rounded once", within the bound, and exact where d divides n: v is the figure n / d
pub record Quotient (n d : ℕ) (v : Float) : Type 0 where
  pub is : v ≡ div binary64 (float n) (float d)
  pub near : T (within n d v)
  pub exact : (q : ℕ) → n ≡ q * d → T (equals q v)

-- "the open part (labelled instants per period / P), mean slot length (open / R) and mean spacing (P / R), R being the slots per period":
-- `labelled` instants, a period P, R `granules`
pub record Quotients (labelled period granules : ℕ) (v : Figures) : Type 0 where
  pub openness : Quotient labelled period v.openness
  pub mean-length : Quotient labelled granules v.mean_length
  pub mean-spacing : Quotient period granules v.mean_spacing
