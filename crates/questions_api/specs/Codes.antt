-- Answers to questions as numbers for C: a refusal is its number below zero, an answer is not below zero.
use Rattle.std.specs.Prelude.{◌≡◌, Bool, true, false, ℕ, zero, suc, ℤ, pos, negsuc, Float}
use Rattle.std.proofs.Math.Option.{Option, none, some}
use Rattle.std.specs.Float.{fin}
use Rattle.integers.specs.Parts.{up}
use Rattle.calendar.specs.Meaning.{Row}
use Rattle.calendar.specs.Reply.{Reply}
use Rattle.calendar.specs.Reply.Reply.{refused, answer}
use Rattle.calendar.specs.Questions.{Placed, labelled_instants, sound_with}
use Rattle.codes.specs.Codes.{refusal_code}
use Rattle.floats.specs.Figures.{Quotients}
use Rattle.floats.specs.declared.Allowance.{Allowance}
use Rattle.floats.specs.declared.Allowance.TheVariants.{Fixed, Share}

-- ---- up from an instant: 1 with a label and a place, 0 with none
abbrev pub placed_code : Reply (Option Placed) → ℤ
placed_code (refused n) = refusal_code n
placed_code (answer none) = pos 0
placed_code (answer (some p)) = pos 1

-- the label, or 0
abbrev pub placed_label : Reply (Option Placed) → ℤ
placed_label (refused n) = pos 0
placed_label (answer none) = pos 0
placed_label (answer (some p)) = p.label

-- the place, or 0
abbrev pub placed_place : Reply (Option Placed) → ℤ
placed_place (refused n) = pos 0
placed_place (answer none) = pos 0
placed_place (answer (some p)) = pos p.place

-- ---- up from a granule: 1 with a label, 0 with none
abbrev pub up_code : Reply (Option ℤ) → ℤ
up_code (refused n) = refusal_code n
up_code (answer none) = pos 0
up_code (answer (some j)) = pos 1

-- the label, or 0
abbrev pub up_label : Reply (Option ℤ) → ℤ
up_label (refused n) = pos 0
up_label (answer none) = pos 0
up_label (answer (some j)) = j

-- ---- down: how many parts there are
abbrev pub down_code : Reply ℕ → ℤ
down_code (refused n) = refusal_code n
down_code (answer n) = pos n

-- ---- figures: 0, or 13 where the row isn't sound or has another number of granules
abbrev pub figures_code : Bool → ℤ
figures_code true = pos 0
figures_code false = refusal_code 13

-- 0.0
abbrev pub nought : Float
nought = fin false 0 (pos 0)

-- the code, and the three numbers that are left: the figures of a row that is sound with its R, else zeros
pub record FiguresLeft (r : Row) (n code : ℤ) (openness mean_length mean_spacing : Float) : Type 0 where
  pub is : code ≡ figures_code (sound_with r n)
  pub figures : sound_with r n ≡ true
      → Quotients (labelled_instants r) r.period (up n) (record { openness = openness; mean_length = mean_length; mean_spacing = mean_spacing })
  pub zeros : sound_with r n ≡ false → (openness ≡ nought) × (mean_length ≡ nought) × (mean_spacing ≡ nought)

-- ---- the least period, and the number tried, or 0
abbrev pub least_code : Reply (ℤ × ℕ) → ℤ
least_code (refused n) = refusal_code n
least_code (answer a) = a.0

abbrev pub tried_left : Reply (ℤ × ℕ) → ℤ
tried_left (refused n) = pos 0
tried_left (answer a) = pos a.1

-- ---- lateness: 1 for yes, 0 for no
abbrev pub late_code : Reply Bool → ℤ
late_code (refused n) = refusal_code n
late_code (answer true) = pos 1
late_code (answer false) = pos 0

-- the allowance of a rule: 0 fixed, 1 a share, and −1 instants, which is never allowed, for any other
abbrev pub allowance_of : ℤ → Float → Allowance
allowance_of (pos zero) v = Fixed v
allowance_of (pos (suc zero)) v = Share v
allowance_of (pos (suc (suc n))) v = Fixed (fin true 1 (pos 0))
allowance_of (negsuc n) v = Fixed (fin true 1 (pos 0))
