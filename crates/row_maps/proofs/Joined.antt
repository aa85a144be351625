-- A map that is made from a row shows the row's open instants (document 02, Req 12: "A map made from a row is proved to
-- show that row's open instants"): it passes check 13, and each question to it is answered of the row's labelled instants.
-- Assumes nothing.
use mathlib.Core.Path.{◌≡◌, ◌∙◌, ap, subst}
use mathlib.Core.Bool.{Bool, true, ◌&&◌}
use mathlib.Core.List.{List}
use Prim.Native.Nat.{ℕ}
use lib.Dec.{eqb}
use lib.IntN.{ℤ, pos}
use Rattle.calendar.specs.Meaning.{Row, meant}
use Rattle.calendar.specs.Lists.{is_some}
use Rattle.calendar.specs.Limits.{in_range}
use Rattle.calendar.specs.Reply.{require}
use Rattle.calendar.specs.Reply.Reply.{answer}
use Rattle.calendar.specs.Sound.{sound}
use Rattle.granules.proofs.Tests.{and-iff}
use Rattle.granules.proofs.Replies.{passed, require-answer, answer-iff}
use Rattle.bitmaps.specs.Cells.{words_for}
use Rattle.open_map.specs.Instants.{open_in, next_open, last_open}
use Rattle.open_map.specs.Maps.{Map, is_open, map_sound}
use Rattle.open_map.specs.Inquiries.{ordered, count_reply, next_reply, last_reply}
use Rattle.row_maps.specs.Making.{map_of, map_reply}
use Rattle.row_maps.proofs.Shows.{map-shows-row, map-sound}

-- the instants that a row labels
abbrev pub labels : Row → ℤ → Bool
labels r t = is_some (meant r t)

module _ (r : Row) (n : ℕ) (words : List ℕ) (made : map_reply r n ≡ answer words) where
  abbrev map : Map
  map = record { period = r.period; words = words }

  written : (sound r ≡ true) × (map_of r.cells ≡ words)
  unfolding map_reply
  written =
      let p = require-answer 13 (sound r && eqb n (words_for r.period)) (answer (map_of r.cells)) made in
      (((and-iff (sound r) (eqb n (words_for r.period))).0 p.0).0, (answer-iff (map_of r.cells) words).0 p.1)

  pub made-sound : map_sound map ≡ true
  made-sound =
      subst (λ (l : List ℕ). map_sound (record { period = r.period; words = l }) ≡ true) written.1 (map-sound r written.0)

  pub made-shows : (t : ℤ) → is_open map t ≡ labels r t
  made-shows t =
      subst (λ (l : List ℕ). is_open (record { period = r.period; words = l }) t ≡ labels r t) written.1 (map-shows-row r t)

  opens : is_open map ≡ labels r
  opens = λ k t. made-shows t k

  pub made-counts : (s t : ℤ) → count_reply map s t ≡ require 14 (ordered s t) (answer (pos (open_in (labels r) s t)))
  unfolding count_reply
  made-counts s t =
      passed 13 _ made-sound ∙ ap (λ (f : ℤ → Bool). require 14 (ordered s t) (answer (pos (open_in f s t)))) opens

  pub made-next : (x : ℤ) → next_reply map x ≡ require 14 (in_range x) (answer (next_open r.period (labels r) x))
  unfolding next_reply
  made-next x = passed 13 _ made-sound ∙ ap (λ (f : ℤ → Bool). require 14 (in_range x) (answer (next_open r.period f x))) opens

  pub made-last : (x : ℤ) → last_reply map x ≡ require 14 (in_range x) (answer (last_open r.period (labels r) x))
  unfolding last_reply
  made-last x = passed 13 _ made-sound ∙ ap (λ (f : ℤ → Bool). require 14 (in_range x) (answer (last_open r.period f x))) opens
