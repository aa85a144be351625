-- Document 01's "Easy slips we have paid for": each is ruled out by the definitions.
use mathlib.Core.Path.{◌≡◌, refl}
use mathlib.Core.Option.{Option, some}
use mathlib.Core.Bool.{true, false}
use mathlib.Core.List.{[], ◌∷◌, map}
use lib.IntN.{pos, negsuc}
use Rattle.calendar.specs.Meaning.{Row, meant}
use Rattle.calendar.specs.Operation.SetOperation.{union}
use Rattle.calendar.specs.Operation.Binary.{by-labels, combine}
use Rattle.calendar.specs.Operation.Operation.{binary}
use Rattle.calendar.specs.Lists.{all, from, same_label}
use Rattle.calendar.specs.Granules.{inside, meeting}
use Rattle.calendar.specs.Checks.{aligned}
use Rattle.calendar.specs.Compute.{result}
use Rattle.calendar.specs.Least.{least}
use Rattle.calendar.specs.Worked.{framed, one_to_five, labels}

abbrev W : Row
W = record { period = 7; distance = 1; cells = labels (0 ∷ 1 ∷ 1 ∷ 1 ∷ 1 ∷ 1 ∷ 1 ∷ []) }

abbrev B : Row
B = record { period = 7; distance = 7; cells = framed one_to_five }

abbrev C : Row
C = record { period = 7; distance = 5; cells = framed one_to_five }

abbrev pairs : Row
pairs = record { period = 2; distance = 1; cells = labels (0 ∷ 1 ∷ []) }

-- "Comparing cells and forgetting the distance: B and C agree on 0 to 6", and differ at 8
pub distance-counts : (B.cells ≡ C.cells) × (meant B (pos 8) ≡ some (pos 8)) × (meant C (pos 8) ≡ some (pos 6))
unfolding meant
distance-counts = (refl, refl, refl)

-- "Checking union only inside the span: B and C again; their rise differs"
pub union-beyond-span : (all (λ t. same_label (meant B t) (meant C t)) (from (pos 0) 7) ≡ true) × (aligned (binary (by-labels union) B C) ≡ false)
unfolding meant aligned
union-beyond-span = (refl, refl)

-- "Rounding t/P toward zero: instant −6 would land in week 1. It is in week 0, and instant −7 in week −1."
pub rounds-down : (meant W (negsuc 5) ≡ some (pos 0)) × (meant W (negsuc 6) ≡ some (negsuc 0))
unfolding meant
rounds-down = (refl, refl)

-- "Shortening [1 1] with N 1 to period 1; half a label doesn't exist"
pub no-half-label : least (record { period = 2; distance = 1; cells = labels (1 ∷ 1 ∷ []) }) ≡ record { period = 2; distance = 1; cells = labels (1 ∷ 1 ∷ []) }
unfolding least
no-half-label = refl

-- "Taking a slot that merely touches for one inside, in combine": the pair of instants 7 and 8 meets week 1 and is not inside it
pub touching-is-not-inside :
    (meeting W pairs (pos 4) ≡ labels (1 ∷ 2 ∷ []))
    × (inside pairs (pos 4) W (pos 1) ≡ false)
    × (map (result (binary combine W pairs)) (labels (6 ∷ 7 ∷ 8 ∷ 9 ∷ [])) ≡ some (pos 1) ∷ Option.none ∷ Option.none ∷ some (pos 2) ∷ [])
unfolding meeting inside result
touching-is-not-inside = (refl, refl, refl)
