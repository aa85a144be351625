-- A set cell by how many stand before it, and an open instant by its rank, as the code finds them.
use Rattle.std.specs.Prelude.{◌≡◌, true, List, ℕ, ◌+◌, ◌*◌, ◌^◌, ◌≤◌, ◌<◌, ℤ, pos, ◌+ℤ◌, ◌*ℤ◌, length, Err, Ok, Result}
use Rattle.integers.specs.Parts.{up}
use Rattle.cursors.specs.Found.{Within}
use Rattle.words.specs.Bits.{cell, tally}
use Rattle.open_map.specs.Maps.{Map, is_open}
use Rattle.open_map.specs.Turns.{rank}
use Rattle.open_steps.specs.declared.cells.Passed.{Passed}

-- i is the set place with k set places before it
pub record Nth (f : ℕ → ℕ) (k i : ℕ) : Type 0 where
  pub set : f i ≡ 1
  pub rank : tally f i ≡ k

-- i is the set place with k set places between it and c
pub record Below (f : ℕ → ℕ) (c k i : ℕ) : Type 0 where
  pub set : f i ≡ 1
  pub rank : tally f i + (k + 1) ≡ tally f c

-- the set cell with k set cells from c up to it, or how many are lacking for k
abbrev pub NthFrom : List ℕ → ℕ → ℕ → Result ℕ ℕ → Type 0
NthFrom words c k (Ok i) = Nth (cell words) (tally (cell words) c + k) i
NthFrom words c k (Err l) = tally (cell words) (64 * length words) + l ≡ tally (cell words) c + k

-- the set cell with k set cells between it and c, or how many are lacking for k
abbrev pub NthBelow : List ℕ → ℕ → ℕ → Result ℕ ℕ → Type 0
NthBelow words c k (Ok i) = Below (cell words) c k i
NthBelow words c k (Err l) = tally (cell words) c + l ≡ k

-- k set cells from the word i on are those up to another word and the ones left
pub record PassedUp (words : List ℕ) (i k : ℕ) (r : Passed) : Type 0 where
  pub most : r.word ≤ length words
  pub same : tally (cell words) (64 * r.word) + r.left ≡ tally (cell words) (64 * i) + k

-- k set cells before the word i are those from another word on and the ones left
pub record PassedDown (words : List ℕ) (i k : ℕ) (r : Passed) : Type 0 where
  pub most : r.word ≤ i
  pub same : tally (cell words) (64 * i) + r.left ≡ tally (cell words) (64 * r.word) + k

-- a cell of the period, and a turn far from the limits of 64 bits
abbrev pub Near : ℤ → ℤ → ℕ → Type 0
Near period turn c = (c < up period) × Within (2 ^ 33) turn

-- the instant of a turn and a cell
abbrev pub instant_at : ℤ → ℤ → ℕ → ℤ
instant_at period turn c = pos (up period) *ℤ turn +ℤ pos c

-- u is the open instant whose rank is k above that of t
pub record OpenFrom (m : Map) (t k u : ℤ) : Type 0 where
  pub opens : is_open m u ≡ true
  pub ranked : rank m u ≡ rank m t +ℤ k
