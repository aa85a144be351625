-- The result of each kind over rows, as definitions that compute: the label of each instant, and the working row.
use Rattle.std.proofs.Math.Option
use Rattle.std.proofs.Math.Option.{Option, none, some}
use Rattle.std.specs.Prelude.{Bool, not, ◌&&◌, cond, [], ◌∷◌, map, ℕ, suc, ℤ, pos, ◌+ℤ◌, ◌-ℤ◌, ◌*ℤ◌, length}
use Rattle.std.specs.Int.Signed.{le_z}
use Rattle.integers.specs.Parts.{up}
use Rattle.integers.specs.Floor.{floor_div, floor_mod, ceil_div}
use Rattle.calendar.specs.Meaning.{Calendar, Row, meant, empty, raise}
use Rattle.calendar.specs.Operation.{Unary, Selection, SetOperation, Binary, Operation}
use Rattle.calendar.specs.Operation.Unary.{group, shift, renumber}
use Rattle.calendar.specs.Operation.Selection.{select-down, select-up, select-intersecting}
use Rattle.calendar.specs.Operation.SetOperation.{union, intersection, difference}
use Rattle.calendar.specs.Operation.Binary.{alter, combine, anchor, select, by-labels}
use Rattle.calendar.specs.Operation.Operation.{bottom, unary, binary}
use Rattle.calendar.specs.Algebra.{pick, altered_first, altered_last}
use Rattle.calendar.specs.Lists.{any, keep, from, first, last, equal, on_label, only, distinct}
use Rattle.calendar.specs.Granules.{has, inside, meeting, within}
use Rattle.calendar.specs.Size.{turn, coarse, fine}
use Rattle.calendar.specs.Distance.{size}

-- ---- alter

-- the first and the last fine granule of the altered granule i: b's granule i is a's granules from the first to the last
-- that meet it
unfoldable pub first_fine : Row → Row → ℕ → ℕ → ℤ → ℤ → ℤ
unfolding meeting floor_div floor_mod
first_fine a b x y z i = altered_first x y z i (first (meeting a b i))

unfoldable pub last_fine : Row → Row → ℕ → ℕ → ℤ → ℤ → ℤ
unfolding meeting floor_div floor_mod
last_fine a b x y z i = altered_last x y z i (last (meeting a b i))

-- the altered granule that has the fine granule j: after n coarse granules and D fine ones the altering repeats, so it is
-- one of n
unfoldable pub altered : Row → Row → ℕ → ℕ → ℤ → ℤ → Option ℤ
unfolding coarse fine first_fine last_fine floor_div
altered a b x y z j =
    let n = coarse (turn a) (turn b) x in
    let i₀ = floor_div (j -ℤ first_fine a b x y z (pos 0)) (up (fine (turn a) (turn b) x z)) *ℤ pos n in
    elim (keep (λ i. le_z (first_fine a b x y z i) j && le_z j (last_fine a b x y z i)) (from i₀ n)) [ [] ↦ none | i ∷ l ↦ some i ]

-- ---- renumber

-- how many labels of a there are from lo to hi
unfoldable pub count : Row → ℤ → ℤ → ℕ
unfolding has
count a lo hi = length (keep (has a) (from lo (up (hi -ℤ lo +ℤ pos 1))))

unfoldable pub renumbered : Row → ℤ → ℤ → ℤ
unfolding count
renumbered a x j = cond (le_z x j) (pos (count a x j)) (pos 1 -ℤ pos (count a j (x -ℤ pos 1)))

-- ---- anchor

-- the label of b's last labelled instant up to t: of b's labels not above t's in a, the greatest, where b is a part of a
unfoldable pub anchored : Row → ℤ → ℤ
unfolding meant
anchored b t = last (distinct (map (meant b) (from (t -ℤ pos b.period) (suc b.period))))

-- ---- the label of the instant t

abbrev pub result_unary : Unary → Row → Calendar
result_unary (group x) a t = Option.map (λ j. ceil_div j x) (meant a t)
result_unary (shift x) a t = raise x (meant a t)
result_unary (renumber x) a t = Option.map (renumbered a x) (meant a t)

-- the granule j of a is kept: each granule of b that counts for it meets it
abbrev pub selects : Selection → Row → Row → ℤ → Bool
selects (select-down x y) a b j = any (λ i. any (equal j) (pick x y (within a b i))) (meeting b a j)
selects select-up a b j = any (λ k. inside b k a j) (meeting b a j)
selects (select-intersecting x y) a b j = any (λ i. any (equal j) (pick x y (meeting a b i))) (meeting b a j)

abbrev pub result_set : SetOperation → Row → Row → Calendar
result_set union a b t = elim (meant a t) [ none ↦ meant b t | some j ↦ some j ]
result_set intersection a b t = on_label (meant a t) λ j. only j (has b j)
result_set difference a b t = on_label (meant a t) λ j. only j (not (has b j))

abbrev pub result_binary : Binary → Row → Row → Calendar
result_binary (alter x y z) a b t = on_label (meant a t) (altered a b x y z)
result_binary combine a b t = on_label (meant b t) λ k. on_label (meant a t) λ i. only i (inside b k a i)
result_binary anchor a b t = on_label (meant a t) λ j. some (anchored b t)
result_binary (select s) a b t = on_label (meant a t) λ j. only j (selects s a b j)
result_binary (by-labels s) a b t = result_set s a b t

unfoldable pub result : Operation Row → Calendar
unfolding meant has inside meeting within ceil_div floor_div floor_mod altered renumbered anchored
result bottom t = some t
result (unary u a) t = result_unary u a t
result (binary o a b) t = result_binary o a b t

-- ---- the working row

abbrev pub cell_of : Option ℤ → ℤ
cell_of none = empty
cell_of (some j) = j

-- the cells of the instants 0 to the working period − 1
unfoldable pub working : Operation Row → Row
unfolding result size
working o =
    let s = size o in
    record { period = s.period; distance = s.distance; cells = map (λ t. cell_of (result o t)) (from (pos 0) s.period) }
