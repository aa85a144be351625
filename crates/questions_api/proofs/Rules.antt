-- A rule that is neither 0 nor 1 is refused with 18, after 13 and 14 and before 15.
-- Assumes nothing.
use mathlib.Core.Path.{◌≡◌, refl}
use mathlib.Core.Bool.{◌&&◌}
use Prim.Native.Nat.{zero, suc}
use lib.IntN.{ℤ, pos, negsuc}
use lib.Ieee.{Float}
use Rattle.calendar.specs.Meaning.{Row}
use Rattle.calendar.specs.Reply.{require}
use Rattle.calendar.specs.Reply.Reply.{refused}
use Rattle.calendar.specs.Limits.{in_range, between, late_limit}
use Rattle.calendar.specs.Sound.{sound}
use Rattle.floats.specs.Allowance.{amount}
use Rattle.questions.specs.Answers.{may_be_late}
use Rattle.questions_api.specs.Codes.{allowance_of}

pub another-rule : (r : Row) (z d rule : ℤ) (v : Float) → (rule ≡ pos 0 → ⊥) → (rule ≡ pos 1 → ⊥)
    → may_be_late r z d (allowance_of rule v) ≡ require 13 (sound r) (require 14 (in_range z && between (pos 0) (pos late_limit) d) (refused 18))
unfolding may_be_late amount
another-rule r z d (pos zero) v n m = absurd (n refl)
another-rule r z d (pos (suc zero)) v n m = absurd (m refl)
another-rule r z d (pos (suc (suc k))) v n m = refl
another-rule r z d (negsuc k) v n m = refl
