-- A journal as numbers for C.
use Rattle.std.specs.Prelude.{ℕ, ◌+◌, ◌*◌, ℤ, pos, negsuc, Some, None, Option, Result, Ok, Err}
use Rattle.table_text.specs.Text.{bad_text}
use Rattle.codes.specs.Codes.{refusal_code}
use Rattle.journal.specs.declared.records.RecordError.{RecordError}
use Rattle.journal.specs.declared.records.RecordError.TheVariants.{Refused, TooShort}

-- ---- opening: the body's length, or 0 where there is none

abbrev pub last_code : Option (ℕ × ℕ) → ℤ
last_code (Some (start, n)) = pos n
last_code None = pos 0

-- where it starts, or 0
abbrev pub last_start : Option (ℕ × ℕ) → ℕ
last_start (Some (start, n)) = start
last_start None = 0

-- ---- an append: how many bytes it writes; 100 times 19 plus the line, below zero; or −1 where the list is too short

abbrev pub record_code : Result ℕ RecordError → ℤ
record_code (Ok n) = pos n
record_code (Err (Refused k)) = refusal_code (100 * bad_text + k)
record_code (Err TooShort) = negsuc 0
