-- What converting a table comes to: a refusal by its number and its entry, or rows and headings stand in the lists.
use Rattle.std.specs.Prelude.{ℕ, ⊤, Result, Ok, Err}
use Rattle.conversion.specs.declared.ConversionError.{ConversionError}

abbrev pub Conversion : Type 0
Conversion = Result ⊤ ConversionError

abbrev pub Refused : ℕ → ℕ → Conversion
Refused n k = Err (record { number = n; entry = k })

abbrev pub Converted : Conversion
Converted = Ok tt
