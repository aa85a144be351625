-- Group, shift and renumber: the label of an instant is the number of its label in the operand.
use Rattle.std.specs.Prelude.{◌≡◌, ℤ, pos, ◌+ℤ◌, ◌-ℤ◌}
use Rattle.integers.specs.Parts.{up}
use Rattle.integers.specs.Floor.{ceil_div}
use Rattle.calendar.specs.Meaning.{Row}
use Rattle.calendar.specs.Compute.{renumbered, anchored}
use Rattle.kinds.specs.declared.Kind.{Kind}
use Rattle.kinds.specs.declared.Kind.TheVariants as Kinds
use Rattle.match_unary.specs.declared.Unary.{Unary}
use Rattle.match_unary.specs.declared.Unary.TheVariants.{Group, Shift, Renumber}
use Rattle.match_unary.specs.declared.Counted.{Counted}

abbrev pub kind_of : Unary → Kind
kind_of (Group x) = Kinds.Group x
kind_of (Shift x) = Kinds.Shift x
kind_of (Renumber x) = Kinds.Renumber x

-- the number of a label
abbrev pub number_in : Unary → Row → ℤ → ℤ
number_in (Group x) a j = ceil_div j (up x)
number_in (Shift x) a j = j +ℤ x
number_in (Renumber x) a j = renumbered a x j

-- the number of the label j, by that of the label before it
abbrev pub next_number : Unary → ℤ → ℤ → ℤ
next_number (Group x) number j = ceil_div j (up x)
next_number (Shift x) number j = j +ℤ x
next_number (Renumber x) number j = number +ℤ pos 1

-- the last label before the instant t, and its number
pub record Counts (by : Unary) (a : Row) (t : ℤ) (k : Counted) : Type 0 where
  pub is_last : k.last ≡ anchored a (t -ℤ pos 1)
  pub is_number : k.number ≡ number_in by a k.last
