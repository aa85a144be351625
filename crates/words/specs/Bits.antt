-- The bits of a word, and the cells of a list of words of 64 bits (document 02, Req 12: "cell c has weight 2^(c mod
-- 64) in word floor(c/64)"). A bit is 1 or 0.
use Rattle.std.specs.Prelude.{List, ℕ, zero, suc, ◌+◌, ◌/◌, ◌%◌, ◌^◌, get_or}

-- the bit of weight 2 ^ k
unfoldable pub bit : ℕ → ℕ → ℕ
bit w k = w / 2 ^ k % 2

-- the bit of the cell c
unfoldable pub cell : List ℕ → ℕ → ℕ
unfolding bit
cell words c = bit (get_or words (c / 64) 0) (c % 64)

-- the sum of f at 0, 1, .. and n − 1: how many of n bits are set
unfoldable pub tally : (ℕ → ℕ) → ℕ → ℕ
tally f zero = 0
tally f (suc n) = tally f n + f n
