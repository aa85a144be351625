-- How late something may be (document 01, "Questions to a row", Lateness), over whole numbers alone: a finite number v is the fraction `num v` / `den v`.
use Rattle.std.specs.Prelude.{ℕ, ◌*◌, ◌%◌, Bool, false, not, ◌&&◌, ◌||◌, leb, eqb, Float}
use Rattle.std.specs.Float.{nan, inf, fin}
use Rattle.std.specs.Float.Ieee.Positive.{num, den}
use Rattle.floats.specs.declared.Allowance.{Allowance}
use Rattle.floats.specs.declared.Allowance.TheVariants.{Fixed, Share}

-- "Fixed: finite, not below zero"; "Negative zero is zero"
unfoldable pub amount : Float → Bool
amount nan = false
amount (inf s) = false
amount (fin s m e) = not s || eqb m 0

-- "A share: a multiple of 1/256 from 0 to 1"
unfoldable pub share : Float → Bool
unfolding amount
share v = amount v && leb (num v) (den v) && eqb (num v * 256 % den v) 0

-- document 02, Req 02: "From now on a share of 0, negative zero included, is refused with 18. A fixed allowance of 0 stays allowed."
unfoldable pub positive_share : Float → Bool
unfolding share
positive_share v = share v && not (eqb (num v) 0)

-- what refusal 18, "the allowance isn't allowed", lets pass
abbrev pub is_allowed : Allowance → Bool
is_allowed (Fixed v) = amount v
is_allowed (Share v) = positive_share v

-- "Yes exactly if d is not above it": d ≤ v for a fixed number of instants, d ≤ v · length for a share of the length
abbrev pub may_be_late : ℕ → ℕ → Allowance → Bool
may_be_late d length (Fixed v) = leb (d * den v) (num v)
may_be_late d length (Share v) = leb (d * den v) (num v * length)
