-- The distance that goes with the working period, by the meaning of each kind.
use Rattle.std.specs.Prelude.{ℕ, ◌/◌}
use Rattle.integers.specs.Gcd.{gcd, euclid}
use Rattle.calendar.specs.Meaning.{Row}
use Rattle.calendar.specs.Operation.{Unary, Binary, Operation, map_operation}
use Rattle.calendar.specs.Operation.Unary.{group, shift, renumber}
use Rattle.calendar.specs.Operation.Binary.{alter, combine, anchor, select, by-labels}
use Rattle.calendar.specs.Operation.Operation.{bottom, unary, binary}
use Rattle.calendar.specs.Granules.{granules}
use Rattle.calendar.specs.Size.{Turn, turn, span_of, rise, alter_turn, working_period}

-- renumbered, the labels rise by the granules of a turn
abbrev pub distance_unary : Unary → Row → ℕ
distance_unary (group x) a = a.distance / gcd x a.distance
distance_unary (shift x) a = a.distance
distance_unary (renumber x) a = granules a

abbrev pub distance_binary : Binary → Turn → Turn → ℕ
distance_binary (alter x y z) a b = (alter_turn a b x z).distance
distance_binary combine a b = rise a (span_of a b)
distance_binary anchor a b = rise a (span_of a b)
distance_binary (select s) a b = rise a (span_of a b)
distance_binary (by-labels s) a b = rise a (span_of a b)

unfoldable pub working_distance : Operation Row → ℕ
unfolding gcd euclid granules span_of alter_turn
working_distance bottom = 1
working_distance (unary u a) = distance_unary u a
working_distance (binary o a b) = distance_binary o (turn a) (turn b)

unfoldable pub size : Operation Row → Turn
unfolding working_period working_distance
size o = record { period = working_period (map_operation turn o); distance = working_distance o }
