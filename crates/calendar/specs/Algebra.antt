-- The calendar algebra: what each kind asks of its operands, and what its result is, over all instants.
use Rattle.std.specs.Prelude.{◌≡◌, ◌↔◌, ◌⊎◌, cond, ◌&&◌, ℕ, zero, suc, eqb, ℤ, pos, negsuc, ◌+ℤ◌, ◌-ℤ◌, ◌*ℤ◌, ◌≤ℤ◌, ◌<ℤ◌, length}
use Rattle.std.proofs.Math.Option.{some}
use mathlib.Core.List.{List, [], ◌∷◌, Memᴰ}
use Rattle.std.specs.Int.Signed.{le_z}
use Rattle.integers.specs.Floor.{floor_div, floor_mod, ceil_div}
use Rattle.calendar.specs.Meaning.{Calendar, Has, Full, Inside, Meets}
use Rattle.calendar.specs.Operation.{Unary, Selection, SetOperation, Binary, Operation, Alignment, alignment, full_unary, full_binary}
use Rattle.calendar.specs.Operation.Unary.{group, shift, renumber}
use Rattle.calendar.specs.Operation.Selection.{select-down, select-up, select-intersecting}
use Rattle.calendar.specs.Operation.SetOperation.{union, intersection, difference}
use Rattle.calendar.specs.Operation.Binary.{alter, combine, anchor, select, by-labels}
use Rattle.calendar.specs.Operation.Operation.{bottom, unary, binary}
use Rattle.calendar.specs.Operation.Alignment.{free, partition, subcalendar, compatible}

-- ---- sets of labels, in rising order

abbrev pub Rising : List ℤ → Type 0
Rising [] = Unit {0}
Rising (j ∷ []) = Unit {0}
Rising (j ∷ k ∷ l) = (j <ℤ k) × Rising (k ∷ l)

-- l has exactly the members of S, rising
pub record Lists (S : ℤ → Type 0) (l : List ℤ) : Type 0 where
  pub rising : Rising l
  pub member : (j : ℤ) → S j ↔ Memᴰ j l

-- ---- Pick

-- the members at positions lo to hi, the first member standing at position p
abbrev pub positions : ℤ → ℤ → ℤ → List ℤ → List ℤ
positions lo hi p [] = []
positions lo hi p (j ∷ l) =
    cond (le_z lo p && le_z p hi) (j ∷ positions lo hi (p +ℤ pos 1) l) (positions lo hi (p +ℤ pos 1) l)

-- the position at which Pick starts among n labels: x, or n + x + 1 where x is below zero
abbrev pub pick_start : ℤ → ℕ → ℤ
pick_start (pos x) n = pos x
pick_start (negsuc x) n = pos n +ℤ negsuc x +ℤ pos 1

-- "Of n labels in rising order, positions from 1, it takes x to x+y−1 if x > 0, and n+x+1 to n+x+y if x < 0. Positions that
-- don't exist take nothing."
abbrev pub pick : ℤ → ℕ → List ℤ → List ℤ
pick x y l = let s = pick_start x (length l) in positions s (s +ℤ pos y -ℤ pos 1) (pos 1) l

abbrev pub Picked : ℤ → ℕ → (ℤ → Type 0) → ℤ → Type 0
Picked x y S j = (l : List ℤ) × Lists S l × Memᴰ j (pick x y l)

-- ---- alter

-- "let b's slot i be a's slots p to q"
abbrev pub Spans : Calendar → Calendar → ℤ → ℤ → ℤ → Type 0
Spans a b i p q = (p ≤ℤ q) × ((u : ℤ) → (b u ≡ some i) ↔ ((j : ℤ) × (a u ≡ some j) × (p ≤ℤ j) × (j ≤ℤ q)))

-- "h = floor((i−y)/x) + 1"
abbrev pub changes : ℕ → ℕ → ℤ → ℤ
changes x y i = floor_div (i -ℤ pos y) x +ℤ pos 1

-- "p' = p + (h−1)·z if i−y is a multiple of x, else p + h·z"
abbrev pub altered_first : ℕ → ℕ → ℤ → ℤ → ℤ → ℤ
altered_first x y z i p =
    p +ℤ cond (eqb (floor_mod (i -ℤ pos y) x) 0) (changes x y i -ℤ pos 1) (changes x y i) *ℤ z

-- "q + h·z"
abbrev pub altered_last : ℕ → ℕ → ℤ → ℤ → ℤ → ℤ
altered_last x y z i q = q +ℤ changes x y i *ℤ z

-- ---- renumber

-- "a's least label ≥ x becomes 1, its neighbours follow one by one both ways": i is the new number of the label j
abbrev pub Renumbered : Calendar → ℤ → ℤ → ℤ → Type 0
Renumbered a x j i =
    ((x ≤ℤ j) × ((l : List ℤ) × Lists (λ k. Has a k × (x ≤ℤ k) × (k ≤ℤ j)) l × (i ≡ pos (length l))))
    ⊎ ((j <ℤ x) × ((l : List ℤ) × Lists (λ k. Has a k × (j ≤ℤ k) × (k <ℤ x)) l × (i ≡ pos 1 -ℤ pos (length l))))

-- ---- the result: the instant t has the label i (the table's last column, kind by kind)

abbrev pub LabelsUnary : Unary → Calendar → ℤ → ℤ → Type 0
LabelsUnary (group x) a t i = (j : ℤ) × (a t ≡ some j) × (i ≡ ceil_div j x)
LabelsUnary (shift x) a t i = (j : ℤ) × (a t ≡ some j) × (i ≡ j +ℤ x)
LabelsUnary (renumber x) a t i = (j : ℤ) × (a t ≡ some j) × Renumbered a x j i

-- the granule j of a is kept
abbrev pub Selects : Selection → Calendar → Calendar → ℤ → Type 0
Selects (select-down x y) a b j = (i : ℤ) × Has b i × Picked x y (λ k. Has a k × Inside a k b i) j
Selects select-up a b j = (k : ℤ) × Has b k × Inside b k a j
Selects (select-intersecting x y) a b j = (i : ℤ) × Has b i × Picked x y (λ k. Meets a k b i) j

abbrev pub LabelsSet : SetOperation → Calendar → Calendar → ℤ → ℤ → Type 0
LabelsSet union a b t j = (a t ≡ some j) ⊎ (b t ≡ some j)
LabelsSet intersection a b t j = (a t ≡ some j) × Has b j
LabelsSet difference a b t j = (a t ≡ some j) × ¬ (Has b j)

abbrev pub LabelsBinary : Binary → Calendar → Calendar → ℤ → ℤ → Type 0
LabelsBinary (alter x y z) a b t i =
    (j : ℤ) × (a t ≡ some j)
    × ((p : ℤ) × (q : ℤ) × Spans a b i p q × (altered_first x y z i p ≤ℤ j) × (j ≤ℤ altered_last x y z i q))
LabelsBinary combine a b t i = (k : ℤ) × (b t ≡ some k) × Inside b k a i
LabelsBinary anchor a b t i =
    (j : ℤ) × (a t ≡ some j) × Has b i × (i ≤ℤ j) × ((k : ℤ) → Has b k → k ≤ℤ j → k ≤ℤ i)
LabelsBinary (select s) a b t j = (a t ≡ some j) × Selects s a b j
LabelsBinary (by-labels s) a b t j = LabelsSet s a b t j

abbrev pub Labels : Operation Calendar → ℤ → ℤ → Type 0
Labels bottom t i = i ≡ t
Labels (unary u a) t i = LabelsUnary u a t i
Labels (binary o a b) t i = LabelsBinary o a b t i

-- c is the result of o
abbrev pub Result : Operation Calendar → Calendar → Type 0
Result o c = (t i : ℤ) → (c t ≡ some i) ↔ Labels o t i

-- ---- what is asked of the operands

-- the first n of a and b are full
abbrev pub FullFirst : ℕ → Calendar → Calendar → Type 0
FullFirst zero a b = Unit {0}
FullFirst (suc zero) a b = Full a
FullFirst (suc (suc n)) a b = Full a × Full b

-- check 7 passes: each operand that must be full is
abbrev pub FullOperands : Operation Calendar → Type 0
FullOperands bottom = Unit {0}
FullOperands (unary u a) = FullFirst (full_unary u) a a
FullOperands (binary o a b) = FullFirst (full_binary o) a b

-- "for alter, a and b label the same instants and each slot of a lies in one slot of b"
pub record Partition (a b : Calendar) : Type 0 where
  pub labelled : (t : ℤ) → ((j : ℤ) × (a t ≡ some j)) ↔ ((i : ℤ) × (b t ≡ some i))
  pub holder : (j : ℤ) → Has a j → (i : ℤ) × Inside a j b i

-- "For anchor, each slot of b is the slot of a with that label": a label-aligned subgranularity of the literature
abbrev pub Subcalendar : Calendar → Calendar → Type 0
Subcalendar a b = (j : ℤ) → Has b j → (t : ℤ) → (b t ≡ some j) ↔ (a t ≡ some j)

-- "For 9 to 11, a shared label has the same instants in both, no instant has two different labels, and all labels of both
-- together never fall as time goes on."
pub record Compatible (a b : Calendar) : Type 0 where
  pub shared : (j : ℤ) → Has a j → Has b j → (t : ℤ) → (a t ≡ some j) ↔ (b t ≡ some j)
  pub single : (t i j : ℤ) → a t ≡ some i → b t ≡ some j → i ≡ j
  pub ordered : (s t i j : ℤ) → s ≤ℤ t → (a s ≡ some i → b t ≡ some j → i ≤ℤ j) × (b s ≡ some i → a t ≡ some j → i ≤ℤ j)

abbrev pub AlignedAs : Alignment → Calendar → Calendar → Type 0
AlignedAs free a b = Unit {0}
AlignedAs partition a b = Partition a b
AlignedAs subcalendar a b = Subcalendar a b
AlignedAs compatible a b = Compatible a b

-- check 9 passes
abbrev pub Aligned : Operation Calendar → Type 0
Aligned bottom = Unit {0}
Aligned (unary u a) = Unit {0}
Aligned (binary o a b) = AlignedAs (alignment o) a b

-- check 10 fails: "alter would leave some slot with fewer than one fine slot"
abbrev pub EmptiedBy : Binary → Calendar → Calendar → Type 0
EmptiedBy (alter x y z) a b =
    (i : ℤ) × (p : ℤ) × (q : ℤ) × Spans a b i p q × (altered_last x y z i q <ℤ altered_first x y z i p)
EmptiedBy combine a b = ⊥
EmptiedBy anchor a b = ⊥
EmptiedBy (select s) a b = ⊥
EmptiedBy (by-labels s) a b = ⊥

abbrev pub Emptied : Operation Calendar → Type 0
Emptied bottom = ⊥
Emptied (unary u a) = ⊥
Emptied (binary o a b) = EmptiedBy o a b
