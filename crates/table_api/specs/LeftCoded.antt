-- What a conversion and a sheet for C answer and leave, as it is computed.
use Rattle.std.specs.Prelude.{◌≡◌, List, ℕ, ℤ, Option}
use Rattle.conversion.specs.Conversion.{Conversion}
use Rattle.conversion.specs.Left.{Left}
use Rattle.sheet_text.specs.Left.{SheetLeft}
use Rattle.table_api.specs.Codes.{conversion_code, sheet_code}

-- the contract of `table_api::convert`: the number of an answer, and the lists that `convert` leaves with that answer
abbrev pub LeftCoded : List ℤ → ℕ → ℕ → ℤ → List ℕ → List ℤ → Type 0
LeftCoded t h p r headings pool = (c : Conversion) × (r ≡ conversion_code c) × Left t h p c headings pool

-- the contract of `table_api::sheet`: the number of an answer, and the list that `sheet` leaves with that answer
abbrev pub SheetCoded : List ℕ → ℕ → ℤ → List ℕ → Type 0
SheetCoded s m r out = (w : Option ℕ) × (r ≡ sheet_code w) × SheetLeft s m w out
