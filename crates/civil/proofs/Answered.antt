-- The civil table is answered in every pool that holds its rows, and its entries mean the calendars whose granules
-- `Entries` gives. The months and the years are any calendars that have these granules.
use mathlib.Core.Path.{refl}
use mathlib.Core.List.{List, [], ◌∷◌}
use Prim.Native.Nat.{ℕ, ◌-◌, ◌≤◌}
use native.Mathlib.Omega.{arith}
use lib.ListN.{take}
use lib.IntN.{ℤ, pos}
use borrow.Author.Tests.{le-leb}
use Rattle.integers.specs.Floor.{floor_div}
use Rattle.integers.specs.Gcd.{gcd, euclid}
use Rattle.calendar.specs.Limits.{pool_limit}
use Rattle.calendar.specs.Meaning.{Calendar}
use Rattle.calendar.specs.Size.{span, working_period}
use Rattle.calendar.specs.Table.{named}
use Rattle.algebra.specs.TableMeaning.{Meant, Entries, next, done, read, TableMeans, entries}
use Rattle.algebra.specs.TableMeaning.TableReply.{means}
use Rattle.civil.specs.Table.{civil_table, civil_pool}
use Rattle.civil.proofs.Tilings.{Tiled, tiles, tiles-tiled}
use Rattle.civil.proofs.Grouped.{grouped}
use Rattle.civil.proofs.Altered.{days, altered}
use Rattle.civil.proofs.Answers.{meant_by, days-starts, days-tiled, days-judged, group-judged, alter-judged}
use Rattle.civil.proofs.Entries.{s1, s2, s3, s4, s5, s6, s7, s8, s9, s10, starts-1, starts-2, starts-3, starts-4, starts-5, starts-6, starts-7, starts-8, starts-9, alters-2, alters-3, alters-4, alters-5, alters-6, alters-7, alters-8, alters-9}

abbrev pub meanings : Calendar → Calendar → List Meant
meanings months years =
    meant_by days 1 1
    ∷ meant_by (tiles s1 31 1) 31 1
    ∷ meant_by (tiles s2 369 12) 369 12
    ∷ meant_by (tiles s3 368 12) 368 12
    ∷ meant_by (tiles s4 367 12) 367 12
    ∷ meant_by (tiles s5 366 12) 366 12
    ∷ meant_by (tiles s6 365 12) 365 12
    ∷ meant_by (tiles s7 1461 48) 1461 48
    ∷ meant_by (tiles s8 36524 1200) 36524 1200
    ∷ meant_by months 146097 4800
    ∷ meant_by years 146097 400
    ∷ []

-- the granule at which each shorter period is refuted: January 2004
abbrev probe : ℤ
probe = pos 37

module _ {months years : Calendar} (months-tiled : Tiled months s9) (years-tiled : Tiled years s10) where
  -- the n entries from k on, in R cells
  abbrev Left : ℕ → ℕ → ℕ → Type 0
  Left n k R =
      (room : ℕ) → R ≤ room → Entries civil_table n k (take k (meanings months years)) room (means (meanings months years))

  left-10 : Left 1 10 146097
  unfolding named span working_period gcd euclid floor_div grouped altered
  left-10 room fits =
      next {room = room} (read refl (group-judged starts-9 months-tiled 12 400 1 (omega arith) (omega arith) refl years-tiled refl (omega arith) (omega arith) probe refl)) done

  left-9 : Left 2 9 292194
  unfolding named span working_period gcd euclid floor_div grouped altered
  left-9 room fits =
      next {room = room} (read refl (alter-judged starts-8 (tiles-tiled starts-8) alters-9 months-tiled (refl, refl) (omega arith) (omega arith) probe refl)) (left-10 (room - 146097) (omega arith))

  left-8 : Left 3 8 328718
  unfolding named span working_period gcd euclid floor_div grouped altered
  left-8 room fits =
      next {room = room} (read refl (alter-judged starts-7 (tiles-tiled starts-7) alters-8 (tiles-tiled starts-8) (refl, refl) (omega arith) (omega arith) probe refl)) (left-9 (room - 36524) (omega arith))

  left-7 : Left 4 7 330179
  unfolding named span working_period gcd euclid floor_div grouped altered
  left-7 room fits =
      next {room = room} (read refl (alter-judged starts-6 (tiles-tiled starts-6) alters-7 (tiles-tiled starts-7) (refl, refl) (omega arith) (omega arith) probe refl)) (left-8 (room - 1461) (omega arith))

  left-6 : Left 5 6 330544
  unfolding named span working_period gcd euclid floor_div grouped altered
  left-6 room fits =
      next {room = room} (read refl (alter-judged starts-5 (tiles-tiled starts-5) alters-6 (tiles-tiled starts-6) (refl, refl) (omega arith) (omega arith) probe refl)) (left-7 (room - 365) (omega arith))

  left-5 : Left 6 5 330910
  unfolding named span working_period gcd euclid floor_div grouped altered
  left-5 room fits =
      next {room = room} (read refl (alter-judged starts-4 (tiles-tiled starts-4) alters-5 (tiles-tiled starts-5) (refl, refl) (omega arith) (omega arith) probe refl)) (left-6 (room - 366) (omega arith))

  left-4 : Left 7 4 331277
  unfolding named span working_period gcd euclid floor_div grouped altered
  left-4 room fits =
      next {room = room} (read refl (alter-judged starts-3 (tiles-tiled starts-3) alters-4 (tiles-tiled starts-4) (refl, refl) (omega arith) (omega arith) probe refl)) (left-5 (room - 367) (omega arith))

  left-3 : Left 8 3 331645
  unfolding named span working_period gcd euclid floor_div grouped altered
  left-3 room fits =
      next {room = room} (read refl (alter-judged starts-2 (tiles-tiled starts-2) alters-3 (tiles-tiled starts-3) (refl, refl) (omega arith) (omega arith) probe refl)) (left-4 (room - 368) (omega arith))

  left-2 : Left 9 2 332014
  unfolding named span working_period gcd euclid floor_div grouped altered
  left-2 room fits =
      next {room = room} (read refl (alter-judged starts-1 (tiles-tiled starts-1) alters-2 (tiles-tiled starts-2) (refl, refl) (omega arith) (omega arith) probe refl)) (left-3 (room - 369) (omega arith))

  left-1 : Left 10 1 332045
  unfolding named span working_period gcd euclid floor_div grouped altered
  left-1 room fits =
      next {room = room} (read refl (group-judged days-starts days-tiled 31 1 31 (omega arith) (omega arith) refl (tiles-tiled starts-1) refl (omega arith) (omega arith) probe refl)) (left-2 (room - 31) (omega arith))

  left-0 : Left 11 0 332046
  unfolding named
  left-0 room fits = next {room = room} (read refl (days-judged (omega arith))) (left-1 (room - 1) (omega arith))

  pub table-answered : (headings pool : ℕ) → 11 ≤ headings → civil_pool ≤ pool → pool ≤ pool_limit
      → TableMeans civil_table headings pool (means (meanings months years))
  table-answered headings pool h p q =
      entries {n = 11} (rw (le-leb 11 headings h, le-leb pool pool_limit q)) (left-0 pool p)
