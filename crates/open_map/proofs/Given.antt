-- What check 13 says of a map that is handed in.
-- Assumes nothing.
use mathlib.Core.Path.{◌≡◌}
use mathlib.Core.List.{List}
use Prim.Native.Nat.{ℕ, ◌≤◌}
use native.Mathlib.Omega.{arith}
use lib.IntN.{ℤ, pos}
use lib.ListN.{length}
use Rattle.integers.specs.Parts.{up}
use Rattle.integers.proofs.Linear.{ints, ◌∴◌}
use Rattle.integers.proofs.Order.{is_up_lem}
use Rattle.calendar.specs.Limits.{pool_limit}
use Rattle.granules.proofs.Tests.{and-iff, leb-iff}
use Rattle.words.specs.Bits.{cell}
use Rattle.words.proofs.Tally.{tally-le}
use Rattle.bitmaps.specs.Cells.{Within, words_for}
use Rattle.bitmaps.proofs.Words.{cell-le}
use Rattle.bitmaps.proofs.Fitting.{fitting-true, clear_behind}
use Rattle.open_map.specs.Maps.{map_given, map_sound}
use Rattle.open_map.specs.Turns.{Sound, Turning, set_before}

-- the period is a natural within its limits; the words are as many as it takes; no cell behind it is set, and some
-- cell is
pub record Given (period : ℤ) (words : List ℕ) : Type 0 where
  pub period-is : period ≡ pos (up period)
  pub low : 1 ≤ up period
  pub high : up period ≤ pool_limit
  pub whole : length words ≡ words_for (up period)
  pub behind : (i : ℕ) → up period ≤ i → cell words i ≡ 0
  pub some : 1 ≤ set_before (map_given period words) (up period)
  pub most : set_before (map_given period words) (up period) ≤ up period

pub given : (period : ℤ) (words : List ℕ) → Sound period words → Given period words
unfolding map_sound
given period words s =
    let a = (and-iff _ _).0 s in
    let b = (and-iff _ _).0 a.1 in
    let low = (leb-iff 1 (up period)).0 a.0 in
    let f = fitting-true (up period) words b.1 in
    record {
      period-is = is_up_lem period low;
      low = low;
      high = (leb-iff (up period) pool_limit).0 b.0;
      whole = f.0.whole;
      behind = clear_behind (up period) words f.0;
      some = f.1;
      most = tally-le (cell words) (up period) (cell-le words);
    }

-- a period is within the limits of a turn, and so is the number of set cells
pub turning : (period : ℤ) (words : List ℕ) → Given period words → Turning period
turning period words g = g.period-is ∴ g.low ∴ g.high ∴ simp ints (omega arith)

-- a cell of the period is one of the words
pub within : (period : ℤ) (words : List ℕ) → Given period words → (c : ℕ) → c ≤ up period → Within words c
within period words g c h = (omega (arith, g.whole, g.high), omega (arith, g.whole))
