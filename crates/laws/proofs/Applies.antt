-- An example of each law, by computation: the operands' rows, and the row of both sides.
use mathlib.Core.Path.{◌≡◌, refl}
use mathlib.Core.List.{List, [], ◌∷◌, ◌++◌}
use Prim.Native.Nat.{ℕ, ◌+◌}
use native.Mathlib.Omega.{arith}
use lib.IntN.{ℤ, pos, negsuc}
use lib.ListN.{replicate}
use Rattle.calendar.specs.Meaning.{Row, empty, bottom_row}
use Rattle.calendar.specs.Table.{named}
use Rattle.calendar.specs.Worked.{entry, business_days, renumbered_days, grouped, odd_and_even, labels, framed, one_to_five}
use Rattle.laws.specs.Laws.{Law, LabelLaw}
use Rattle.laws.specs.Matches.{EqualRows}
use Rattle.laws.specs.Example.{rows_in, Example, LabelExample}

-- ---- tables

-- entries: the numbers of their operands, then their own numbers
abbrev pub group : ℕ → ℕ → List ℤ
group i x = entry 1 i 0 (pos x) 0 (pos 0)

abbrev pub shift : ℕ → ℤ → List ℤ
shift i x = entry 2 i 0 x 0 (pos 0)

abbrev alter : ℕ → ℕ → ℕ → ℕ → ℤ → List ℤ
alter i j x y z = entry 3 i j (pos x) y z

abbrev pub select_down : ℕ → ℕ → ℤ → ℕ → List ℤ
select_down i j x y = entry 6 i j x y (pos 0)

abbrev renumber : ℕ → ℤ → List ℤ
renumber i x = entry 12 i 0 x 0 (pos 0)

-- of two operands and no numbers
abbrev pub binary : ℕ → ℕ → ℕ → List ℤ
binary kind i j = entry kind i j (pos 0) 0 (pos 0)

-- odd days 2, even days 3, weeks 4, business days 5, the first two days of each week 6, its last four 7
abbrev parts : List ℤ
parts = odd_and_even ++ group 0 7 ++ select_down 0 4 (pos 1) 5 ++ select_down 0 4 (pos 1) 2 ++ select_down 0 4 (negsuc 3) 4

-- ---- rows

abbrev pub row : ℕ → ℕ → List ℤ → Row
row period distance cells = record { period = period; distance = distance; cells = cells }

abbrev B : Row
B = row 7 7 (framed one_to_five)

abbrev C : Row
C = row 7 5 (framed one_to_five)

abbrev odd : Row
odd = row 2 2 (empty ∷ pos 1 ∷ [])

abbrev first_two : Row
first_two = row 7 7 (empty ∷ pos 1 ∷ pos 2 ∷ empty ∷ empty ∷ empty ∷ empty ∷ [])

abbrev last_four : Row
last_four = row 7 7 (pos 0 ∷ empty ∷ empty ∷ empty ∷ pos 4 ∷ pos 5 ∷ pos 6 ∷ [])

abbrev odd_business_days : Row
odd_business_days = row 14 14 (empty ∷ pos 1 ∷ empty ∷ pos 3 ∷ empty ∷ pos 5 ∷ empty ∷ empty ∷ empty ∷ pos 9 ∷ empty ∷ pos 11 ∷ empty ∷ empty ∷ [])

-- B and C have the same cells, and are not equal rows
pub distance-counts : (B.cells ≡ C.cells) × ¬ (EqualRows B C)
distance-counts = (refl, λ h. let d : ◌≡◌ {A = ℕ} 7 5 = h.1 in omega arith)

-- ---- shift, group, renumber

pub shift-shift : Example (Law.shift-shift (pos 3) (negsuc 9)) (B ∷ []) (row 7 7 (framed (negsuc 5 ∷ negsuc 4 ∷ negsuc 3 ∷ negsuc 2 ∷ negsuc 1 ∷ [])))
unfolding rows_in named
shift-shift =
    let t = business_days ++ shift 2 (pos 3) ++ shift 3 (negsuc 9) ++ shift 2 (negsuc 6) in
    record {
      left = record { table = t; entry = 4; operands = 2 ∷ []; stored = refl; matches = λ ms v o. (3, refl, (2, refl, o 0)) };
      right = record { table = t; entry = 5; operands = 2 ∷ []; stored = refl; matches = λ ms v o. (2, refl, o 0) };
    }

pub shift_zero : Example Law.shift_zero (B ∷ []) B
unfolding rows_in named
shift_zero =
    let t = business_days ++ shift 2 (pos 0) in
    record {
      left = record { table = t; entry = 3; operands = 2 ∷ []; stored = refl; matches = λ ms v o. (2, refl, o 0) };
      right = record { table = t; entry = 2; operands = 2 ∷ []; stored = refl; matches = λ ms v o. o 0 };
    }

pub group-one : Example Law.group-one (C ∷ []) C
unfolding rows_in named
group-one =
    let t = renumbered_days ++ group 3 1 in
    record {
      left = record { table = t; entry = 4; operands = 3 ∷ []; stored = refl; matches = λ ms v o. (3, refl, o 0) };
      right = record { table = t; entry = 3; operands = 3 ∷ []; stored = refl; matches = λ ms v o. o 0 };
    }

pub group-group : Example (Law.group-group 2 3) (C ∷ []) (row 42 5
    (framed (labels (1 ∷ 1 ∷ 1 ∷ 1 ∷ 1 ∷ [])) ++ framed (labels (1 ∷ 2 ∷ 2 ∷ 2 ∷ 2 ∷ [])) ++ framed (labels (2 ∷ 2 ∷ 3 ∷ 3 ∷ 3 ∷ [])) ++ framed (labels (3 ∷ 3 ∷ 3 ∷ 4 ∷ 4 ∷ [])) ++ framed (labels (4 ∷ 4 ∷ 4 ∷ 4 ∷ 5 ∷ [])) ++ framed (labels (5 ∷ 5 ∷ 5 ∷ 5 ∷ 5 ∷ []))))
unfolding rows_in named
group-group =
    let t = renumbered_days ++ group 3 2 ++ group 4 3 ++ group 3 6 in
    record {
      left = record { table = t; entry = 5; operands = 3 ∷ []; stored = refl; matches = λ ms v o. (4, refl, (3, refl, o 0)) };
      right = record { table = t; entry = 6; operands = 3 ∷ []; stored = refl; matches = λ ms v o. (3, refl, o 0) };
    }

pub group-shift : Example (Law.group-shift 3 (negsuc 0)) (C ∷ []) (row 21 5
    (framed (labels (0 ∷ 0 ∷ 0 ∷ 1 ∷ 1 ∷ [])) ++ framed (labels (1 ∷ 2 ∷ 2 ∷ 2 ∷ 3 ∷ [])) ++ framed (labels (3 ∷ 3 ∷ 4 ∷ 4 ∷ 4 ∷ []))))
unfolding rows_in named
group-shift =
    let t = renumbered_days ++ shift 3 (negsuc 2) ++ group 4 3 ++ group 3 3 ++ shift 6 (negsuc 0) in
    record {
      left = record { table = t; entry = 5; operands = 3 ∷ []; stored = refl; matches = λ ms v o. (4, refl, (3, refl, o 0)) };
      right = record { table = t; entry = 7; operands = 3 ∷ []; stored = refl; matches = λ ms v o. (6, refl, (3, refl, o 0)) };
    }

pub renumber-renumber : Example (Law.renumber-renumber (pos 6) (pos 3)) (B ∷ []) (row 7 5 (framed (negsuc 5 ∷ negsuc 4 ∷ negsuc 3 ∷ negsuc 2 ∷ negsuc 1 ∷ [])))
unfolding rows_in named
renumber-renumber =
    let t = business_days ++ renumber 2 (pos 6) ++ renumber 3 (pos 3) ++ shift 3 (negsuc 1) in
    record {
      left = record { table = t; entry = 4; operands = 2 ∷ []; stored = refl; matches = λ ms v o. (3, refl, (2, refl, o 0)) };
      right = record { table = t; entry = 5; operands = 2 ∷ []; stored = refl; matches = λ ms v o. (3, refl, (2, refl, o 0)) };
    }

-- ---- alter

-- pairs of days, a day longer at every third, altered by 0 at every fifth
pub alter-zero : Example (Law.alter-zero 5 2) (bottom_row ∷ row 7 3 (labels (0 ∷ 1 ∷ 1 ∷ 2 ∷ 2 ∷ 2 ∷ 3 ∷ [])) ∷ []) (row 7 3 (labels (0 ∷ 1 ∷ 1 ∷ 2 ∷ 2 ∷ 2 ∷ 3 ∷ [])))
unfolding rows_in named
alter-zero =
    let t = grouped 2 ++ alter 0 1 3 2 (pos 1) ++ alter 0 2 5 2 (pos 0) in
    record {
      left = record { table = t; entry = 3; operands = 0 ∷ 2 ∷ []; stored = refl; matches = λ ms v o. (0, 2, refl, o 0, o 1) };
      right = record { table = t; entry = 2; operands = 0 ∷ 2 ∷ []; stored = refl; matches = λ ms v o. o 1 };
    }

-- months of two pairs of days, a pair longer at every third, and back
pub alter-back : Example (Law.alter-back 3 3 (pos 1)) (row 2 1 (labels (0 ∷ 1 ∷ [])) ∷ row 4 1 (labels (0 ∷ 1 ∷ 1 ∷ 1 ∷ [])) ∷ []) (row 4 1 (labels (0 ∷ 1 ∷ 1 ∷ 1 ∷ [])))
unfolding rows_in named
alter-back =
    let t = grouped 2 ++ group 1 2 ++ alter 1 2 3 3 (pos 1) ++ alter 1 3 3 3 (negsuc 0) in
    record {
      left = record { table = t; entry = 4; operands = 1 ∷ 2 ∷ []; stored = refl; matches = λ ms v o. (1, 3, refl, o 0, (1, 2, refl, o 0, o 1)) };
      right = record { table = t; entry = 2; operands = 1 ∷ 2 ∷ []; stored = refl; matches = λ ms v o. o 1 };
    }

-- ---- union, intersection, difference

pub union_comm : Example Law.union_comm (B ∷ odd ∷ []) (row 14 14 (framed one_to_five ++ labels (7 ∷ 8 ∷ 9 ∷ 10 ∷ 11 ∷ 12 ∷ 13 ∷ [])))
unfolding rows_in named
union_comm =
    let t = parts ++ binary 9 5 2 ++ binary 9 2 5 in
    record {
      left = record { table = t; entry = 8; operands = 5 ∷ 2 ∷ []; stored = refl; matches = λ ms v o. (5, 2, refl, o 0, o 1) };
      right = record { table = t; entry = 9; operands = 5 ∷ 2 ∷ []; stored = refl; matches = λ ms v o. (2, 5, refl, o 1, o 0) };
    }

pub intersection-comm : Example Law.intersection-comm (B ∷ odd ∷ []) odd_business_days
unfolding rows_in named
intersection-comm =
    let t = parts ++ binary 10 5 2 ++ binary 10 2 5 in
    record {
      left = record { table = t; entry = 8; operands = 5 ∷ 2 ∷ []; stored = refl; matches = λ ms v o. (5, 2, refl, o 0, o 1) };
      right = record { table = t; entry = 9; operands = 5 ∷ 2 ∷ []; stored = refl; matches = λ ms v o. (2, 5, refl, o 1, o 0) };
    }

pub union_assoc : Example Law.union_assoc (first_two ∷ odd ∷ last_four ∷ [])
    (row 14 14 (labels (0 ∷ 1 ∷ 2 ∷ 3 ∷ 4 ∷ 5 ∷ 6 ∷ 7 ∷ 8 ∷ 9 ∷ []) ++ (empty ∷ labels (11 ∷ 12 ∷ 13 ∷ []))))
unfolding rows_in named
union_assoc =
    let t = parts ++ binary 9 6 2 ++ binary 9 8 7 ++ binary 9 2 7 ++ binary 9 6 10 in
    record {
      left = record { table = t; entry = 9; operands = 6 ∷ 2 ∷ 7 ∷ []; stored = refl; matches = λ ms v o. (8, 7, refl, (6, 2, refl, o 0, o 1), o 2) };
      right = record { table = t; entry = 11; operands = 6 ∷ 2 ∷ 7 ∷ []; stored = refl; matches = λ ms v o. (6, 10, refl, o 0, (2, 7, refl, o 1, o 2)) };
    }

pub intersection-assoc : Example Law.intersection-assoc (B ∷ odd ∷ last_four ∷ [])
    (row 14 14 (replicate 5 empty ++ (pos 5 ∷ replicate 5 empty) ++ (pos 11 ∷ empty ∷ empty ∷ [])))
unfolding rows_in named
intersection-assoc =
    let t = parts ++ binary 10 5 2 ++ binary 10 8 7 ++ binary 10 2 7 ++ binary 10 5 10 in
    record {
      left = record { table = t; entry = 9; operands = 5 ∷ 2 ∷ 7 ∷ []; stored = refl; matches = λ ms v o. (8, 7, refl, (5, 2, refl, o 0, o 1), o 2) };
      right = record { table = t; entry = 11; operands = 5 ∷ 2 ∷ 7 ∷ []; stored = refl; matches = λ ms v o. (5, 10, refl, o 0, (2, 7, refl, o 1, o 2)) };
    }

pub absorption : Example Law.absorption (B ∷ odd ∷ []) B
unfolding rows_in named
absorption =
    let t = parts ++ binary 10 5 2 ++ binary 9 5 8 in
    record {
      left = record { table = t; entry = 9; operands = 5 ∷ 2 ∷ []; stored = refl; matches = λ ms v o. (5, 8, refl, o 0, (5, 2, refl, o 0, o 1)) };
      right = record { table = t; entry = 5; operands = 5 ∷ 2 ∷ []; stored = refl; matches = λ ms v o. o 0 };
    }

pub distribution : Example Law.distribution (B ∷ odd ∷ first_two ∷ [])
    (row 14 14 (empty ∷ pos 1 ∷ pos 2 ∷ pos 3 ∷ empty ∷ pos 5 ∷ empty ∷ empty ∷ pos 8 ∷ pos 9 ∷ empty ∷ pos 11 ∷ empty ∷ empty ∷ []))
unfolding rows_in named
distribution =
    let t = parts ++ binary 9 2 6 ++ binary 10 5 8 ++ binary 10 5 2 ++ binary 10 5 6 ++ binary 9 10 11 in
    record {
      left = record { table = t; entry = 9; operands = 5 ∷ 2 ∷ 6 ∷ []; stored = refl; matches = λ ms v o. (5, 8, refl, o 0, (2, 6, refl, o 1, o 2)) };
      right = record { table = t; entry = 12; operands = 5 ∷ 2 ∷ 6 ∷ []; stored = refl; matches = λ ms v o. (10, 11, refl, (5, 2, refl, o 0, o 1), (5, 6, refl, o 0, o 2)) };
    }

-- in two tables: in the second one, even days and weekends are taken from all days
pub double-difference : Example Law.double-difference (B ∷ odd ∷ []) odd_business_days
unfolding rows_in named
double-difference =
    let t = parts ++ binary 11 5 2 ++ binary 11 5 8 in
    let t' = grouped 2 ++ select_down 0 1 (pos 2) 1 ++ binary 11 0 2 ++ group 0 7 ++ select_down 0 4 (negsuc 1) 2 ++ binary 11 0 5 ++ binary 10 6 3 in
    record {
      left = record { table = t; entry = 9; operands = 5 ∷ 2 ∷ []; stored = refl; matches = λ ms v o. (5, 8, refl, o 0, (5, 2, refl, o 0, o 1)) };
      right = record { table = t'; entry = 7; operands = 6 ∷ 3 ∷ []; stored = refl; matches = λ ms v o. (6, 3, refl, o 0, o 1) };
    }

-- ---- anchor and combine

pub anchor-self : Example Law.anchor-self (C ∷ []) C
unfolding rows_in named
anchor-self =
    let t = renumbered_days ++ binary 5 3 3 in
    record {
      left = record { table = t; entry = 4; operands = 3 ∷ []; stored = refl; matches = λ ms v o. (3, 3, refl, o 0, o 0) };
      right = record { table = t; entry = 3; operands = 3 ∷ []; stored = refl; matches = λ ms v o. o 0 };
    }

abbrev threes : Row
threes = row 21 5 (framed (labels (1 ∷ 1 ∷ 1 ∷ 2 ∷ 2 ∷ [])) ++ framed (labels (2 ∷ 3 ∷ 3 ∷ 3 ∷ 4 ∷ [])) ++ framed (labels (4 ∷ 4 ∷ 5 ∷ 5 ∷ 5 ∷ [])))

pub combine-self : Example Law.combine-self (threes ∷ []) threes
unfolding rows_in named
combine-self =
    let t = renumbered_days ++ group 3 3 ++ binary 4 4 4 in
    record {
      left = record { table = t; entry = 5; operands = 4 ∷ []; stored = refl; matches = λ ms v o. (4, 4, refl, o 0, o 0) };
      right = record { table = t; entry = 4; operands = 4 ∷ []; stored = refl; matches = λ ms v o. o 0 };
    }

-- ---- select-up and combine

abbrev W : Row
W = row 7 1 (labels (0 ∷ 1 ∷ 1 ∷ 1 ∷ 1 ∷ 1 ∷ 1 ∷ []))

-- every other week: those with the first day of a fortnight
pub select-up-twice : Example Law.select-up-twice (W ∷ row 14 14 (empty ∷ pos 1 ∷ replicate 12 empty) ∷ []) (row 14 2 (empty ∷ replicate 7 (pos 1) ++ replicate 6 empty))
unfolding rows_in named
select-up-twice =
    let t = grouped 7 ++ group 0 14 ++ select_down 0 2 (pos 1) 1 ++ binary 7 1 3 ++ binary 7 4 3 in
    record {
      left = record { table = t; entry = 5; operands = 1 ∷ 3 ∷ []; stored = refl; matches = λ ms v o. (4, 3, refl, (1, 3, refl, o 0, o 1), o 1) };
      right = record { table = t; entry = 4; operands = 1 ∷ 3 ∷ []; stored = refl; matches = λ ms v o. (1, 3, refl, o 0, o 1) };
    }

-- weeks of whole pairs of days: in every other one the days of a pair that lies across are left out
abbrev whole_pairs : Row
whole_pairs = row 14 2 (labels (0 ∷ 1 ∷ 1 ∷ 1 ∷ 1 ∷ 1 ∷ 1 ∷ []) ++ (empty ∷ empty ∷ labels (2 ∷ 2 ∷ 2 ∷ 2 ∷ 2 ∷ [])))

pub combine-again : Example Law.combine-again (W ∷ row 2 1 (labels (0 ∷ 1 ∷ [])) ∷ []) whole_pairs
unfolding rows_in named
combine-again =
    let t = grouped 7 ++ group 0 2 ++ binary 4 1 2 ++ binary 4 1 3 in
    record {
      left = record { table = t; entry = 4; operands = 1 ∷ 2 ∷ []; stored = refl; matches = λ ms v o. (1, 3, refl, o 0, (1, 2, refl, o 0, o 1)) };
      right = record { table = t; entry = 3; operands = 1 ∷ 2 ∷ []; stored = refl; matches = λ ms v o. (1, 2, refl, o 0, o 1) };
    }

-- every other week, whole and as its first day alone: other rows, the same labels
pub up-combine : LabelExample LabelLaw.up-combine (row 14 2 (empty ∷ replicate 7 (pos 1) ++ replicate 6 empty)) (row 14 2 (empty ∷ pos 1 ∷ replicate 12 empty))
unfolding rows_in named
up-combine = record {
  table = grouped 7 ++ group 0 14 ++ select_down 0 2 (pos 1) 1 ++ binary 7 1 3 ++ binary 4 1 3;
  left = 4;
  right = 5;
  operand = λ n. n + n + 1;
  stored = refl;
  left-matches = λ ms. (1, 3, refl, λ t. refl, λ t. refl);
  right-matches = λ ms. (1, 3, refl, λ t. refl, λ t. refl);
}
