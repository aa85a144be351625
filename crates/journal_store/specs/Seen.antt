-- What a look into a window of a file tells the search, and what the search tells.
use Rattle.std.specs.Prelude.{◌≡◌, ℕ, ◌+◌, ◌≤◌, ◌<◌, ◌^◌, Option, Some, None}
use Rattle.table_text.specs.Text.{text_limit}
use Rattle.journal.specs.Answers.{overlap}
use Rattle.journal.specs.declared.opened.Step.{Step}

-- how many bytes a window of `last` has: a trailer, and the last byte of its body
abbrev pub window_length : ℕ
window_length = 7

-- a body is no longer than a text, its last byte and its trailer stand in the window, which has m bytes, and where these
-- are no more than those of `last`, nothing before the body is read; the next window ends a little behind this one's
-- start
abbrev pub Seen : ℕ → ℕ → Step → Type 0
Seen base m (Step.Body start n) = (n ≤ text_limit) × ((start + 7 ≤ base + m) × (m ≤ window_length → start ≤ base))
Seen base m (Step.Before end) = (0 < base) × (end ≡ base + overlap)
Seen base m Step.Empty = Unit {0}

-- the body stands where a file can be read
abbrev pub Within : Option (ℕ × ℕ) → Type 0
Within (Some (start, n)) = (n ≤ text_limit) × (start < 2 ^ 63)
Within None = Unit {0}
