-- Examples of refusals where the operands of union or intersection have changed places, by computation; and that difference is another matter.
use mathlib.Core.Path.{◌≡◌, refl, sym, ◌∙◌}
use mathlib.Core.Option.{some}
use mathlib.Core.List.{List, [], ◌∷◌, ◌++◌, map}
use Prim.Native.Nat.{ℕ, ◌+◌, ◌*◌, ◌<◌}
use native.Mathlib.Omega.{arith}
use lib.IntN.{ℤ, pos, negsuc}
use lib.ListN.{length, get_or, get_or-append}
use Rattle.calendar.specs.Meaning.{empty}
use Rattle.calendar.specs.Operation.SetOperation.{union, intersection}
use Rattle.calendar.specs.Outcome.{outcome}
use Rattle.calendar.specs.Outcome.Outcome.{refused_at}
use Rattle.calendar.specs.Table.{entry_at, named}
use Rattle.calendar.specs.Worked.{days, business_days, renumbered_days, odd_and_even}
use Rattle.laws.specs.Example.{example_headings, rows_in, SwapExample}
use Rattle.laws.proofs.Applies.{group, shift, select_down, binary, row}

-- ---- entries that two tables share

number-alike : (l m m' : List ℤ) (n : ℕ) → n < length l → get_or (l ++ m) n (pos 0) ≡ get_or (l ++ m') n (pos 0)
number-alike l m m' n h = get_or-append l m (pos 0) n h ∙ sym (get_or-append l m' (pos 0) n h)

entries-alike : (l m m' : List ℤ) (k : ℕ) → length l ≡ 6 * k → (i : ℕ) → i < k → entry_at (l ++ m) i ≡ entry_at (l ++ m') i
entries-alike l m m' k e i h =
    let at : (n : ℕ) → n < 6 → get_or (l ++ m) (6 * i + n) (pos 0) ≡ get_or (l ++ m') (6 * i + n) (pos 0) = λ n b. number-alike l m m' (6 * i + n) (omega arith) in
    let first = number-alike l m m' (6 * i) (omega arith) in
    λ z. record {
      kind = first z;
      first = at 1 (omega arith) z;
      second = at 2 (omega arith) z;
      x = at 3 (omega arith) z;
      y = at 4 (omega arith) z;
      z = at 5 (omega arith) z;
    }

-- ---- union

-- business days, and these renumbered: not aligned
pub union-9 : SwapExample union (renumbered_days ++ binary 9 2 3) (renumbered_days ++ binary 9 3 2) 4 100 9
unfolding outcome named
union-9 = record {
  swapped = record { lengths = refl; before = entries-alike renumbered_days (binary 9 2 3) (binary 9 3 2) 4 refl; first = 2; second = 3; one = refl; other = refl };
  one = refl;
  other = refl;
}

-- odd and even days, and one cell left where the span is 2
pub union-8 : SwapExample union (odd_and_even ++ binary 9 2 3) (odd_and_even ++ binary 9 3 2) 4 8 8
unfolding outcome named
union-8 = record {
  swapped = record { lengths = refl; before = entries-alike odd_and_even (binary 9 2 3) (binary 9 3 2) 4 refl; first = 2; second = 3; one = refl; other = refl };
  one = refl;
  other = refl;
}

-- ---- intersection

-- odd and even days: no label
pub intersection-12 : SwapExample intersection (odd_and_even ++ binary 10 2 3) (odd_and_even ++ binary 10 3 2) 4 100 12
unfolding outcome named
intersection-12 = record {
  swapped = record { lengths = refl; before = entries-alike odd_and_even (binary 10 2 3) (binary 10 3 2) 4 refl; first = 2; second = 3; one = refl; other = refl };
  one = refl;
  other = refl;
}

-- days with labels far out 1, the last of two 3, the first of three 5: within a turn of each labels are in range, and past it where both turns meet
abbrev far_days : List ℤ
far_days = days ++ shift 0 (pos 999999999) ++ group 0 2 ++ select_down 1 2 (negsuc 0) 1 ++ group 0 3 ++ select_down 1 4 (pos 1) 1

pub intersection-11 : SwapExample intersection (far_days ++ binary 10 3 5) (far_days ++ binary 10 5 3) 6 100 11
unfolding outcome named
intersection-11 = record {
  swapped = record { lengths = refl; before = entries-alike far_days (binary 10 3 5) (binary 10 5 3) 6 refl; first = 3; second = 5; one = refl; other = refl };
  one = refl;
  other = refl;
}

-- ---- difference

-- business days less all days are refused with 12; all days less business days are answered
pub difference-differs : (outcome (business_days ++ binary 11 2 0) example_headings 100 ≡ refused_at 12 3)
    × (rows_in (business_days ++ binary 11 0 2) (3 ∷ []) ≡ map some (row 7 7 (pos 0 ∷ empty ∷ empty ∷ empty ∷ empty ∷ empty ∷ pos 6 ∷ []) ∷ []))
unfolding outcome rows_in
difference-differs = (refl, refl)
