-- Questions to a row that was handed in (document 01, "Questions to a row"), as definitions that compute. The order of refusals:
-- "13 for each row in argument order, then 14, 18, 15, 16, 17".
use Rattle.std.proofs.Math.Option.{Option, none, some, map}
use Rattle.std.specs.Prelude.{Bool, cond, ◌&&◌, List, ℕ, leb, ℤ, pos, length}
use Rattle.std.specs.Int.Signed.{le_z}
use Rattle.integers.specs.Parts.{up}
use Rattle.calendar.specs.Meaning.{Row, meant}
use Rattle.calendar.specs.Reply.{Reply, require}
use Rattle.calendar.specs.Reply.Reply.{answer}
use Rattle.calendar.specs.Lists.{any, all, keep, first, is, equal}
use Rattle.calendar.specs.Granules.{has, granule, inside, within, granules}
use Rattle.calendar.specs.Limits.{in_range}
use Rattle.calendar.specs.Sound.{labels_of, sound}

-- a row as a caller hands it in, with any numbers: one below zero is as good as 0, which rule 13 refuses
abbrev pub given : ℤ → ℤ → List ℤ → Row
given period distance cells = record { period = up period; distance = up distance; cells = cells }

-- "Where a row is handed in together with its R, counted over that row's own P, a wrong R is refusal 13." (document 02, Req 07)
unfoldable pub sound_with : Row → ℤ → Bool
unfolding sound granules
sound_with r n = sound r && equal n (pos (granules r))

-- ---- up

-- "the instant's place among the slot's own instants, from 1" (document 02, Req 08): how many of these are not after it
unfoldable pub place : Row → ℤ → ℤ → ℕ
unfolding granule
place r j t = length (keep (λ u. le_z u t) (granule r j))

-- a label, and an instant's place in its granule
pub record Placed : Type 0 where
  pub label : ℤ
  pub place : ℕ

unfoldable pub placed : Row → ℤ → Option Placed
unfolding meant place
placed r t = map (λ j. record { label = j; place = place r j t }) (meant r t)

-- "Up from an instant: its label or 'none'"; with its place (Req 08): "'None' has no place."
unfoldable pub up_from_instant : Row → ℤ → Reply (Option Placed)
unfolding placed sound
up_from_instant r t = require 13 (sound r) (require 14 (in_range t) (answer (placed r t)))

-- "the h label whose slot contains all of it, or 'none'", of the granule z of g
unfoldable pub holder : Row → Row → ℤ → Option ℤ
unfolding meant granule inside
holder g h z = elim (meant h (first (granule g z))) [ none ↦ none | some i ↦ cond (inside g z h i) (some i) none ]

unfoldable pub up_from_granule : Row → Row → ℤ → Reply (Option ℤ)
unfolding sound has holder
up_from_granule g h z =
    require 13 (sound g)
    (require 13 (sound h)
    (require 14 (in_range z)
    (require 15 (has g z)
    (answer (holder g h z)))))

-- ---- down

-- the parts make up the whole granule z of h: each of its instants is in one of the granules of g inside it
unfoldable pub made_up : Row → Row → ℤ → Bool
unfolding meant granule within
made_up h g z = all (λ u. any (λ k. is k (meant g u)) (within g h z)) (granule h z)

-- "the labels of g's slots inside it, rising, in a lent list", which holds so many
unfoldable pub down : Row → Row → ℤ → ℕ → Reply (List ℤ)
unfolding sound has made_up within
down h g z room =
    require 13 (sound h)
    (require 13 (sound g)
    (require 14 (in_range z)
    (require 15 (has h z)
    (require 16 (made_up h g z)
    (require 17 (leb (length (within g h z)) room)
    (answer (within g h z)))))))

-- ---- figures and lateness

-- "labelled instants per period"
abbrev pub labelled_instants : Row → ℕ
labelled_instants r = length (labels_of r.cells)

-- "The length is the number of the slot's own instants." (document 02, Req 04)
unfoldable pub granule_length : Row → ℤ → ℕ
unfolding granule
granule_length r z = length (granule r z)
