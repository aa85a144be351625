-- What check 9 asks of an instant and the labelled one before it. Their labels in a and b are o and p at the one before, x and y at the instant.
use Rattle.std.proofs.Math.Option.{Option}
use Rattle.std.specs.Prelude.{Bool, true, not, ◌&&◌, ◌||◌, cond, ℤ}
use Rattle.std.specs.Int.Signed.{lt_z}
use Rattle.calendar.specs.Operation as Operation
use Rattle.calendar.specs.Operation.Alignment.{free, partition, subcalendar, compatible}
use Rattle.calendar.specs.Lists.{equal, is, is_some, same_label, if_label}
use Rattle.alignment.specs.declared.Alignment.{Alignment}
use Rattle.alignment.specs.declared.Alignment.TheVariants.{Free, Partition, Subcalendar, Compatible}

-- the same instants are labelled, and a's label is another or b's is the same too
abbrev pub fits_partition : Option ℤ → Option ℤ → Option ℤ → Option ℤ → Bool
fits_partition o p x y = cond (is_some x) (is_some y && (not (same_label o x) || same_label p y)) (not (is_some y))

-- b's label is a's, and a's label is another or b has it at both instants or at none
abbrev pub fits_subcalendar : Option ℤ → Option ℤ → Option ℤ → Option ℤ → Bool
fits_subcalendar o p x y = cond (is_some y) (same_label x y && (not (same_label o x) || is_some p)) (not (is_some x) || (not (same_label o x) || not (is_some p)))

-- a's label before is below b's, or both have it at both instants
abbrev pub crosses : Option ℤ → Option ℤ → Option ℤ → Option ℤ → Bool
crosses o p x y = if_label o λ i. if_label y λ j. lt_z i j || (equal i j && (is i p && is i x))

-- two labels of one instant are the same
abbrev pub agree : Option ℤ → Option ℤ → Bool
agree x y = if_label x λ i. if_label y (equal i)

-- they are, and their labels before are in order with it
abbrev pub fits_compatible : Option ℤ → Option ℤ → Option ℤ → Option ℤ → Bool
fits_compatible o p x y = agree x y && (crosses o p x y && crosses p o y x)

unfoldable pub fits : Operation.Alignment → Option ℤ → Option ℤ → Option ℤ → Option ℤ → Bool
fits free o p x y = true
fits partition o p x y = fits_partition o p x y
fits subcalendar o p x y = fits_subcalendar o p x y
fits compatible o p x y = fits_compatible o p x y

-- the code's name of an alignment
abbrev pub alignment_of : Alignment → Operation.Alignment
alignment_of Free = free
alignment_of Partition = partition
alignment_of Subcalendar = subcalendar
alignment_of Compatible = compatible
