-- What a conversion and a sheet come to, as numbers for C.
use Rattle.conversion.specs.Conversion.{Conversion, Refused, Converted}
use Rattle.std.specs.Prelude.{◌+◌, ◌*◌, ℤ, pos, negsuc, None, Option, Some, ℕ, Ok, Err}

-- ---- conversion: 0, or 100 times the refusal's number plus the entry
abbrev pub conversion_code : Conversion → ℤ
conversion_code (Err e) = pos (100 * e.number + e.entry)
conversion_code (Ok x) = pos 0

-- ---- a sheet: how many bytes it has, or −1 where the list is too short
abbrev pub sheet_code : Option ℕ → ℤ
sheet_code (Some n) = pos n
sheet_code None = negsuc 0
