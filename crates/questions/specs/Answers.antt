-- The answers of the code, in document 01's numbers and values; the two questions that speak of binary64 numbers; and document
-- 02's, of the least period.
use Rattle.std.specs.Prelude.{◌≡◌, Bool, true, false, ◌&&◌, List, [], ℕ, ℤ, pos, length, Option, Some, None, Result, Ok, Err}
use Rattle.std.proofs.Math.Option as Math
use Rattle.std.proofs.Math.Option.{none, some}
use Rattle.integers.specs.Parts.{up}
use Rattle.calendar.specs.Meaning.{Row}
use Rattle.calendar.specs.Reply.{Reply, require}
use Rattle.calendar.specs.Reply.Reply.{refused, answer}
use Rattle.calendar.specs.Granules.{has}
use Rattle.calendar.specs.Limits.{late_limit, between, in_range}
use Rattle.calendar.specs.Sound.{sound}
use Rattle.calendar.specs.Least.{least}
use Rattle.calendar.specs.Tries.{tries}
use Rattle.calendar.specs.Lists.{filled}
use Rattle.calendar.specs.Questions.{Placed, labelled_instants, granule_length, sound_with}
use Rattle.calendar.specs.Refusals.{number_of}
use Rattle.calendar.specs.declared.Refusal.{Refusal}
use Rattle.floats.specs.Figures.{Quotients}
use Rattle.floats.specs.Allowance as F
use Rattle.floats.specs.declared.Allowance.{Allowance}
use Rattle.floats.specs.declared.Figures.{Figures}
use Rattle.least_form.specs.declared.Shortest.{Shortest}

abbrev pub placed_reply : Result (Option (ℤ × ℕ)) Refusal → Reply (Math.Option Placed)
placed_reply (Ok (Some (j, n))) = answer (some (record { label = j; place = n }))
placed_reply (Ok None) = answer none
placed_reply (Err x) = refused (number_of x)

abbrev pub up_reply : Result (Option ℤ) Refusal → Reply (Math.Option ℤ)
up_reply (Ok (Some j)) = answer (some j)
up_reply (Ok None) = answer none
up_reply (Err x) = refused (number_of x)

-- how many the parts are
abbrev pub counted : Reply (List ℤ) → Reply ℕ
counted (refused n) = refused n
counted (answer l) = answer (length l)

abbrev pub parts_reply : Result ℕ Refusal → Reply ℕ
parts_reply (Ok n) = answer n
parts_reply (Err x) = refused (number_of x)

-- "the rest of the list is zero, and a refusal makes it all zero": a list of n numbers
abbrev pub parts_after : ℕ → Reply (List ℤ) → List ℤ
parts_after n (refused m) = filled n (pos 0) []
parts_after n (answer l) = filled n (pos 0) l

-- the figures of a row that is handed in with its R: 13, or labelled instants per period / P, the same / R, and P / R
abbrev pub FiguresOf : Row → ℤ → Result Figures Refusal → Type 0
FiguresOf r n (Ok v) = (sound_with r n ≡ true) × Quotients (labelled_instants r) r.period (up n) v
FiguresOf r n (Err x) = (sound_with r n ≡ false) × (number_of x ≡ 13)

-- the least period of a row that is handed in, and how many divisors the search tries
unfoldable pub least_period : Row → Reply (ℤ × ℕ)
least_period r = require 13 (sound r) (answer (pos (least r).period, tries r))

abbrev pub shortening_reply : Result Shortest Refusal → Reply (ℤ × ℕ)
shortening_reply (Ok s) = answer (s.period, s.tried)
shortening_reply (Err x) = refused (number_of x)

-- "may a delivery be d instants late on slot z?"
unfoldable pub may_be_late : Row → ℤ → ℤ → Allowance → Reply Bool
may_be_late r z d a =
    require 13 (sound r)
    (require 14 (in_range z && between (pos 0) (pos late_limit) d)
    (require 18 (F.is_allowed a)
    (require 15 (has r z)
    (answer (F.may_be_late (up d) (granule_length r z) a)))))

abbrev pub late_reply : Result Bool Refusal → Reply Bool
late_reply (Ok b) = answer b
late_reply (Err x) = refused (number_of x)
