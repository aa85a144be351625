-- A claimed row beside the working row of an operation. The pool holds the claimed row and not the working row, so the two are compared by their labels.
use Rattle.calendar.specs.declared.Refusal.TheVariants.{NothingLabelled, LabelOutsideLimits}
use Rattle.calendar.specs.declared.Refusal.{Refusal}
use Rattle.std.specs.Prelude.{◌≡◌, Bool, cond, ℕ, ◌*◌, pos, Err, Ok, Result}
use Rattle.calendar.specs.Meaning.{Row, meant}
use Rattle.calendar.specs.Operation.{Operation}
use Rattle.calendar.specs.Lists.{all, from, same_label}
use Rattle.calendar.specs.Distance.{size}
use Rattle.calendar.specs.Compute.{result}
use Rattle.calendar.specs.Checks.{unlabelled, labels_in_range}

-- r has the labels of the result at the instants 0 to n − 1
unfoldable pub agree : Operation Row → Row → ℕ → Bool
unfolding meant result
agree o r n = all (λ t. same_label (meant r t) (result o t)) (from (pos 0) n)

-- checks 12 and 11, and whether the row agrees with the working row
abbrev pub matched_as : Operation Row → Row → Result Bool Refusal
matched_as o r = cond (unlabelled o) (Err NothingLabelled) (cond (labels_in_range o) (Ok (agree o r (size o).period)) (Err LabelOutsideLimits))

-- the working turn is c turns of r
abbrev pub Turns : Operation Row → Row → ℕ → Type 0
Turns o r c = ((size o).period ≡ r.period * c) × ((size o).distance ≡ r.distance * c)
