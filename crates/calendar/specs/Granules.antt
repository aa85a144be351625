-- Granules of a row, found by search. Two instants of one granule are less than a period apart, and every label is in the
-- row itself once a multiple of the distance is taken away: so each search here is over a window that suffices.
use Rattle.std.proofs.Math.Option
use Rattle.std.proofs.Math.Option.{Option, none, some}
use Rattle.std.specs.Prelude.{Bool, cond, List, [], ◌∷◌, map, ℕ, ◌-◌, ◌*◌, eqb, ℤ, pos, ◌+ℤ◌, ◌-ℤ◌, ◌*ℤ◌, length}
use Rattle.integers.specs.Floor.{floor_div, floor_mod}
use Rattle.calendar.specs.Meaning.{Calendar, Row, meant, label_of}
use Rattle.calendar.specs.Lists.{all, keep, from, is_some, is, distinct}

-- the first label of a row
abbrev pub first_label : List ℤ → ℤ
first_label [] = pos 0
first_label (z ∷ l) = elim (label_of z) [ none ↦ first_label l | some j ↦ j ]

-- the first of these instants with the label j
abbrev pub first_with : Calendar → ℤ → List ℤ → Option ℤ
first_with c j [] = none
first_with c j (t ∷ l) = cond (is j (c t)) (some t) (first_with c j l)

-- an instant with the label j, if j is a label: j less k distances is in the row, counted from its first label
unfoldable pub instant_of : Row → ℤ → Option ℤ
unfolding meant floor_div floor_mod
instant_of r j =
    let k = floor_div (j -ℤ first_label r.cells) r.distance in
    Option.map (λ t. t +ℤ k *ℤ pos r.period) (first_with (meant r) (j -ℤ k *ℤ pos r.distance) (from (pos 0) r.period))

-- j is a label
unfoldable pub has : Row → ℤ → Bool
unfolding instant_of
has r j = is_some (instant_of r j)

-- the instants of the granule j, of which t is one
unfoldable pub granule_at : Row → ℤ → ℤ → List ℤ
unfolding meant
granule_at r j t = keep (λ u. is j (meant r u)) (from (t -ℤ pos r.period +ℤ pos 1) (2 * r.period - 1))

-- the instants of the granule j, rising
unfoldable pub granule : Row → ℤ → List ℤ
unfolding instant_of granule_at
granule r j = elim (instant_of r j) [ none ↦ [] | some t ↦ granule_at r j t ]

-- the granule k of b lies in the granule i of a
unfoldable pub inside : Row → ℤ → Row → ℤ → Bool
unfolding granule meant
inside b k a i = all (λ u. is i (meant a u)) (granule b k)

-- the labels of a's granules that meet the granule i of b, and s(i) of document 01: of those "wholly inside slot i"
unfoldable pub meeting : Row → Row → ℤ → List ℤ
unfolding granule meant
meeting a b i = distinct (map (meant a) (granule b i))

unfoldable pub within : Row → Row → ℤ → List ℤ
unfolding inside meeting
within a b i = keep (λ k. inside a k b i) (meeting a b i)

-- R of document 01: "the labels among any N whole numbers in a row", here those from 0 on
unfoldable pub granules : Row → ℕ
unfolding has
granules r = length (keep (has r) (from (pos 0) r.distance))

-- "A calendar is full if every whole number is a label."
unfoldable pub full : Row → Bool
unfolding granules
full r = eqb (granules r) r.distance
