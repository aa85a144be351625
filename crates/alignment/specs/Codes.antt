-- A label, or none, as a number.
use Rattle.std.proofs.Math.Option.{Option, none, some}
use Rattle.std.specs.Prelude.{cond, ℤ, negsuc}
use Rattle.calendar.specs.Lists.{equal}

-- the number of no label
abbrev pub no_label : ℤ
no_label = negsuc 9223372036854775806

abbrev pub code_of : Option ℤ → ℤ
code_of none = no_label
code_of (some j) = j

abbrev pub coded_label : ℤ → Option ℤ
coded_label z = cond (equal z no_label) none (some z)
