-- A set cell by how many stand before it: in its word, and searched for from one place or another.
-- Assumes nothing.
use Rattle.std.specs.Prelude.{Err, Ok, Result}
use mathlib.Core.Path.{◌≡◌, ◌∙◌}
use mathlib.Core.List.{List}
use Prim.Native.Nat.{ℕ, ◌+◌, ◌*◌, ◌<◌}
use native.Mathlib.Omega.{arith}
use lib.ListN.{get_or}
use Rattle.words.specs.Bits.{bit, cell, tally}
use Rattle.bitmaps.proofs.Words.{cell_at, tally-word}
use Rattle.open_steps.specs.Ranked.{Nth, Below, NthFrom, NthBelow}

module _ (words : List ℕ) where
  -- ---- in the word j, with m set bits below it
  pub nth_in : (j k s m : ℕ) → s < 64 → tally (cell words) (64 * j) + m ≡ k → Nth (bit (get_or words j 0)) m s → Nth (cell words) k (64 * j + s)
  nth_in j k s m h e t = record { set = cell_at words j s h ∙ t.set; rank = tally-word words j s (omega arith) ∙ omega (arith, t.rank) }

  pub below_in : (c j k s m : ℕ) → s < 64 → tally (cell words) (64 * j) + m + (k + 1) ≡ tally (cell words) c → Nth (bit (get_or words j 0)) m s
      → Below (cell words) c k (64 * j + s)
  below_in c j k s m h e t = record { set = cell_at words j s h ∙ t.set; rank = omega (arith, tally-word words j s (omega arith), t.rank) }

  -- ---- the same set cell, searched for from another place
  pub from-moved : (a b k m : ℕ) → tally (cell words) a + k ≡ tally (cell words) b + m → (r : Result ℕ ℕ) → NthFrom words a k r → NthFrom words b m r
  from-moved a b k m e (Ok i) t = record { set = t.set; rank = t.rank ∙ e }
  from-moved a b k m e (Err l) t = t ∙ e

  pub below-moved : (a b k m : ℕ) → tally (cell words) b + k ≡ tally (cell words) a + m → (r : Result ℕ ℕ) → NthBelow words a k r → NthBelow words b m r
  below-moved a b k m e (Ok i) t = record { set = t.set; rank = omega (arith, t.rank) }
  below-moved a b k m e (Err l) t = omega (arith, t)
