-- The cells that are counted at a time.
use Rattle.std.specs.Prelude.{ℕ, ◌+◌, ◌≤◌}

-- the most of them: so few that their number fits 32 bits
abbrev pub block_limit : ℕ
block_limit = 1024

-- the cells from `start` up to `end`, of `len`
abbrev pub Block : ℕ → ℕ → ℕ → Type 0
Block start end len = (start ≤ end) × (end ≤ start + block_limit) × (end ≤ len)
