-- What appending a text comes to (document 02, Req 10), by what a table's text is.
use Rattle.std.specs.Prelude.{List, ◌++◌, ℕ, ◌≤◌, ℤ, length}
use Rattle.table_text.specs.Text.{bad_text, TextOf, BadAt}
use Rattle.journal.specs.Journal.{record_of}

-- a refusal's number and its line, or the bytes that go behind all that stands in the file
pub data Append : Type 0 where
  refused_at : ℕ → ℕ → Append
  writes : List ℕ → Append

-- appending the text s
pub data Appends (s : List ℕ) : Append → Type 0 where
  -- "A length of 0 .. is refused as 19 at 0 when writing"
  nothing : length s ≤ 0 → Appends s (refused_at bad_text 0)
  -- "or above 4,096"; "text that breaks Req 01's rules is refused as 19 when writing"
  bad : {k : ℕ} → BadAt k s → Appends s (refused_at bad_text k)
  -- "The body is the Req 01 text .. Then comes a trailer"
  good : {es : List (List ℤ)} → 1 ≤ length s → TextOf es s → Appends s (writes (record_of s))

-- the file afterwards: "A torn end stays where it is, and the next append goes behind it"; refused, "the file isn't
-- touched"
abbrev pub file_after : List ℕ → Append → List ℕ
file_after book (refused_at n k) = book
file_after book (writes w) = book ++ w
