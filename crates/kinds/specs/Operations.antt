-- The operation of a kind over its operands, and the limits of its numbers.
use Rattle.std.specs.Prelude.{◌≡◌, true, ℕ, zero, suc, pos, neg_ℤ, ◌≤ℤ◌}
use Rattle.integers.specs.Parts.{up}
use Rattle.calendar.specs.Operation as O
use Rattle.calendar.specs.Operation.Unary.{group, shift, renumber}
use Rattle.calendar.specs.Operation.Binary.{alter, combine, anchor, select, by-labels}
use Rattle.calendar.specs.Operation.SetOperation.{union, intersection, difference}
use Rattle.calendar.specs.Operation.Operation.{bottom, unary, binary}
use Rattle.calendar.specs.Meaning.{Row}
use Rattle.calendar.specs.Sound.{sound}
use Rattle.calendar.specs.Limits.{label_limit, million}
use Rattle.kinds.specs.Limits.{Limits, Picking}
use Rattle.kinds.specs.declared.Selection.{Selection}
use Rattle.kinds.specs.declared.Selection.TheVariants.{Down, Up, Intersecting}
use Rattle.kinds.specs.declared.SetOperation.{SetOperation}
use Rattle.kinds.specs.declared.SetOperation.TheVariants.{Union, Intersection, Difference}
use Rattle.kinds.specs.declared.Kind.{Kind}
use Rattle.kinds.specs.declared.Kind.TheVariants.{Bottom, Group, Shift, Alter, Combine, Anchor, Select, ByLabels, Renumber}

abbrev pub set_of : SetOperation → O.SetOperation
set_of Union = union
set_of Intersection = intersection
set_of Difference = difference

-- a selection of the code, in document 01's terms
abbrev pub selection_of : Selection → O.Selection
selection_of (Down p) = O.Selection.select-down p.x (up p.y)
selection_of Up = O.Selection.select-up
selection_of (Intersecting p) = O.Selection.select-intersecting p.x (up p.y)

-- the operation of the kind, over whatever its operands are; those that it does not name do not show
abbrev pub operation_of : {A : Type 0} → Kind → A → A → O.Operation A
operation_of Bottom a b = bottom
operation_of (Group x) a b = unary (group (up x)) a
operation_of (Shift x) a b = unary (shift x) a
operation_of (Alter w) a b = binary (alter (up w.x) (up w.y) w.z) a b
operation_of Combine a b = binary combine a b
operation_of Anchor a b = binary anchor a b
operation_of (Select s) a b = binary (select (selection_of s)) a b
operation_of (ByLabels s) a b = binary (by-labels (set_of s)) a b
operation_of (Renumber x) a b = unary (renumber x) a

-- check 6 of document 01: the numbers are within their limits
abbrev pub Numbers : Kind → Type 0
Numbers Bottom = Unit {0}
Numbers (Group x) = (pos 1 ≤ℤ x) × (x ≤ℤ million)
Numbers (Shift x) = (neg_ℤ label_limit ≤ℤ x) × (x ≤ℤ label_limit)
Numbers (Alter w) = Limits w
Numbers Combine = Unit {0}
Numbers Anchor = Unit {0}
Numbers (Select s) = Picking s
Numbers (ByLabels s) = Unit {0}
Numbers (Renumber x) = (neg_ℤ label_limit ≤ℤ x) × (x ≤ℤ label_limit)

-- how many operands the kind names; one that names one is given it twice
abbrev pub operands : Kind → ℕ
operands Bottom = 0
operands (Group x) = 1
operands (Shift x) = 1
operands (Alter w) = 2
operands Combine = 2
operands Anchor = 2
operands (Select s) = 2
operands (ByLabels s) = 2
operands (Renumber x) = 1

-- the rows of so many operands are sound
abbrev pub SoundFirst : ℕ → Row → Row → Type 0
SoundFirst zero a b = Unit {0}
SoundFirst (suc n) a b = (sound a ≡ true) × (sound b ≡ true)
