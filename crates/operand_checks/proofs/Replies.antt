-- The checks of each kind, as the code makes them: 7 stands before the others.
-- Assumes nothing.
use mathlib.Core.Path.{◌≡◌, refl, ◌∙◌}
use mathlib.Core.Bool.{Bool, true, false, not}
use Prim.Native.Nat.{ℕ}
use lib.Dec.{leb}
use lib.IntN.{ℤ, pos}
use Rattle.calendar.specs.Meaning.{Row}
use Rattle.calendar.specs.Operation as O
use Rattle.calendar.specs.Operation.Unary.{group, shift, renumber}
use Rattle.calendar.specs.Operation.Binary.{alter, combine, anchor, select, by-labels}
use Rattle.calendar.specs.Operation.Operation.{bottom, unary, binary}
use Rattle.calendar.specs.Operation.Alignment.{free, partition, subcalendar, compatible}
use Rattle.calendar.specs.Granules.{granules, full}
use Rattle.calendar.specs.Size.{turn, span_of, span, alter_turn}
use Rattle.calendar.specs.Distance.{size}
use Rattle.calendar.specs.Checks.{full_operands, aligned, aligned_as, emptied}
use Rattle.calendar.specs.Reply.{Reply, require}
use Rattle.calendar.specs.Reply.Reply.{answer}
use Rattle.granules.proofs.Tests.{and-iff}
use Rattle.granules.proofs.Replies.{passed}
use Rattle.operand_checks.specs.declared.Extent.{Extent}
use Rattle.operand_checks.specs.Admission.{admission}
use Rattle.operand_checks.specs.Shared.{whole_turn, fitted, grouped, spanned, alter_extent, behind_span}

-- a working row, by its numbers
pub same-extent : {s p d s' p' d' : ℤ} → s ≡ s' → p ≡ p' → d ≡ d'
    → ◌≡◌ {A = Extent} (record { span = s; period = p; distance = d }) (record { span = s'; period = p'; distance = d' })
same-extent e f g = cc

-- a check that is made again
again : (t : Bool) (r : Reply Extent) → require 8 t (require 8 t r) ≡ require 8 t r
again true r = refl
again false r = refl

again_behind : (s t : Bool) (r : Reply Extent) → require 8 s (require 9 t (require 8 s r)) ≡ require 8 s (require 9 t r)
again_behind true t r = refl
again_behind false t r = refl

-- ---- no operand, and one

pub bottom-is : (room : ℕ) → admission bottom room ≡ fitted (whole_turn (pos 1) (pos 1)) room
unfolding full_operands span aligned emptied size
bottom-is room = again (leb 1 room) (answer (whole_turn (pos 1) (pos 1)))

pub shift_is : (x : ℤ) (a : Row) (room : ℕ) → admission (unary (shift x) a) room ≡ fitted (whole_turn (pos a.period) (pos a.distance)) room
unfolding full_operands span aligned emptied size
shift_is x a room = again (leb a.period room) (answer (whole_turn (pos a.period) (pos a.distance)))

pub renumber-is : (x : ℤ) (a : Row) (room : ℕ) → admission (unary (renumber x) a) room ≡ fitted (whole_turn (pos a.period) (pos (granules a))) room
unfolding full_operands span aligned emptied size
renumber-is x a room = again (leb a.period room) (answer (whole_turn (pos a.period) (pos (granules a))))

pub group-is : (x : ℕ) (a : Row) (room : ℕ) → full_operands (unary (group x) a) ≡ true → admission (unary (group x) a) room ≡ grouped x (turn a) room
unfolding full_operands span aligned emptied size
group-is x a room h = passed 7 (grouped x (turn a) room) h

-- ---- two operands, with the span as the working period

module _ (a b : Row) (room : ℕ) where
  pub combine-is : admission (binary combine a b) room ≡ spanned free a b room
  unfolding full_operands span aligned emptied size
  combine-is = again_behind (leb (span_of (turn a) (turn b)) room) true _

  pub select-is : (s : O.Selection) → admission (binary (select s) a b) room ≡ spanned free a b room
  unfolding full_operands span aligned emptied size
  select-is s = again_behind (leb (span_of (turn a) (turn b)) room) true _

  pub by-labels-is : (s : O.SetOperation) → admission (binary (by-labels s) a b) room ≡ spanned compatible a b room
  unfolding full_operands span aligned emptied size
  by-labels-is s = again_behind (leb (span_of (turn a) (turn b)) room) (aligned_as compatible a b) _

  pub anchor-is : full_operands (binary anchor a b) ≡ true → admission (binary anchor a b) room ≡ spanned subcalendar a b room
  unfolding full_operands span aligned emptied size
  anchor-is h = passed 7 _ h ∙ again_behind (leb (span_of (turn a) (turn b)) room) (aligned_as subcalendar a b) _

  -- ---- alter

  module _ (x y : ℕ) (z : ℤ) where
    abbrev altering : O.Operation Row
    altering = binary (alter x y z) a b

    pub alter-full : full_operands altering ≡ true → (full a ≡ true) × (full b ≡ true)
    unfolding full_operands
    alter-full h = (and-iff (full a) (full b)).0 h

    pub alter-is : full a ≡ true → full b ≡ true → admission altering room ≡ require 8 (leb (span_of (turn a) (turn b)) room) (behind_span altering room)
    unfolding full_operands span
    alter-is h k = passed 7 _ ((and-iff (full a) (full b)).1 (h, k))

    pub behind-is : behind_span altering room
        ≡ require 9 (aligned_as partition a b) (require 10 (not (emptied altering)) (fitted (alter_extent (pos (span_of (turn a) (turn b))) (alter_turn (turn a) (turn b) x z)) room))
    unfolding span aligned size
    behind-is = refl
