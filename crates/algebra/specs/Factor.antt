-- What check 6 gives that the results rest on.
use Rattle.std.specs.Prelude.{◌≤◌}
use Rattle.calendar.specs.Operation.{Unary, Binary, Operation}
use Rattle.calendar.specs.Operation.Unary.{group, shift, renumber}
use Rattle.calendar.specs.Operation.Binary.{alter, combine, anchor, select, by-labels}
use Rattle.calendar.specs.Operation.Operation.{bottom, unary, binary}

-- a factor is at least 1
abbrev pub FactorUnary : Unary → Type 0
FactorUnary (group x) = 1 ≤ x
FactorUnary (shift x) = Unit {0}
FactorUnary (renumber x) = Unit {0}

abbrev pub FactorBinary : Binary → Type 0
FactorBinary (alter x y z) = 1 ≤ x
FactorBinary combine = Unit {0}
FactorBinary anchor = Unit {0}
FactorBinary (select s) = Unit {0}
FactorBinary (by-labels s) = Unit {0}

abbrev pub Factor : {A : Type 0} → Operation A → Type 0
Factor bottom = Unit {0}
Factor (unary u a) = FactorUnary u
Factor (binary o a b) = FactorBinary o
