-- What document 02 says of the questions of Req 14, for rows.
-- Assumes nothing.
use mathlib.Core.Path.{◌≡◌, sym, ◌∙◌, ap}
use mathlib.Core.Option.{some}
use mathlib.Core.Bool.{Bool, true, ◌&&◌}
use Prim.Native.Nat.{ℕ, suc, ◌<◌}
use lib.IntN.{ℤ, pos, negsuc}
use Rattle.calendar.specs.Meaning.{Row}
use Rattle.calendar.specs.Reply.{require}
use Rattle.calendar.specs.Reply.Reply.{answer}
use Rattle.calendar.specs.Limits.{in_range}
use Rattle.calendar.specs.Sound.{sound}
use Rattle.granules.proofs.Replies.{passed}
use Rattle.open_steps.specs.Steps.{nth_open, between_open}
use Rattle.open_steps.specs.Inquiries as M
use Rattle.open_steps.specs.Inquiries.{may_step}
use Rattle.open_steps.proofs.Rules as maps
use Rattle.row_maps.proofs.Shows.{map_of_row, map-shows-row, map-opens, map-sound}
use Rattle.open_row.specs.Inquiries.{opens, nth_reply, between_reply}

module _ (r : Row) (s : sound r ≡ true) where
  -- a row and the map that is made of it answer alike
  pub nth-by-map : (x n : ℤ) → nth_reply r x n ≡ M.nth_reply (map_of_row r) x n
  unfolding nth_reply M.nth_reply
  nth-by-map x n =
      passed 13 _ s
      ∙ ap (λ (f : ℤ → Bool). require 14 (may_step x n) (answer (nth_open r.period f x n))) (sym (map-opens r))
      ∙ sym (passed 13 _ (map-sound r s))

  pub between-by-map : (x y : ℤ) → between_reply r x y ≡ M.between_reply (map_of_row r) x y
  unfolding between_reply M.between_reply
  between-by-map x y =
      passed 13 _ s
      ∙ ap (λ (f : ℤ → Bool). require 14 (in_range x && in_range y) (answer (between_open f x y))) (sym (map-opens r))
      ∙ sym (passed 13 _ (map-sound r s))

  -- "going n forward from an open x and n back gives x, for .. every n from 1 to 1,000,000, the questions themselves
  -- wherever x and the instant reached are within ±1,000,000,000"
  pub questions-back : (n : ℕ) (x y : ℤ) → n < 1000000 → opens r x ≡ true → in_range x ≡ true → in_range y ≡ true
      → nth_reply r x (pos (suc n)) ≡ answer (some y) → nth_reply r y (negsuc n) ≡ answer (some x)
  questions-back n x y few o rx ry e =
      nth-by-map y (negsuc n)
      ∙ maps.questions-back (map_of_row r) (map-sound r s) n x y few (map-shows-row r x ∙ o) rx ry
      (sym (nth-by-map x (pos (suc n))) ∙ e)

  -- between x and the n-th open instant after it there are n
  pub questions-between : (n : ℕ) (x y : ℤ) → n < 1000000 → in_range x ≡ true → in_range y ≡ true
      → nth_reply r x (pos (suc n)) ≡ answer (some y) → between_reply r x y ≡ answer (pos (suc n))
  questions-between n x y few rx ry e =
      between-by-map x y ∙ maps.questions-between (map_of_row r) (map-sound r s) n x y few rx ry (sym (nth-by-map x (pos (suc n))) ∙ e)
