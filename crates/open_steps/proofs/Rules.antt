-- What documents 02 and 001 say of steps, as theorems on the definitions: for every calendar, and for every map that
-- passes check 13.
-- Assumes nothing.
use mathlib.Core.Path.{◌≡◌, sym, ◌∙◌, ap}
use mathlib.Core.Option.{some}
use mathlib.Core.Bool.{Bool, true}
use mathlib.Core.List.{[]}
use Prim.Native.Nat.{ℕ, zero, suc, ◌+◌, ◌<◌}
use native.Mathlib.Omega.{arith}
use lib.IntN.{ℤ, pos, negsuc, neg_ℤ, ◌+ℤ◌, ◌-ℤ◌, ◌*ℤ◌}
use lib.Signed.{◌≤ℤ◌, ◌<ℤ◌, le_z}
use lib.ListN.{length}
use Rattle.integers.specs.Floor.{floor_div, floor_mod}
use Rattle.integers.proofs.Linear.{ints, ◌∴◌}
use Rattle.integers.proofs.Floor.{floor-eq, floor-lt}
use Rattle.calendar.specs.Meaning.{Calendar, IsCalendar}
use Rattle.calendar.specs.Lists.{keep, from, is_some}
use Rattle.calendar.specs.Reply.Reply.{answer}
use Rattle.calendar.specs.Limits.{between, in_range}
use Rattle.granules.proofs.Tests.{is_some-iff, and-iff, le_z-iff, some_inj}
use Rattle.granules.proofs.Calendars.{label-moved}
use Rattle.granules.proofs.Replies.{passed, answer-iff}
use Rattle.open_map.specs.Instants.{next_open, last_open}
use Rattle.open_map.specs.Maps.{Map, is_open, map_sound}
use Rattle.open_map.specs.Turns.{rank}
use Rattle.open_map.proofs.Ranks.{one, kept-one, rank-le, rank_lt}
use Rattle.open_map.proofs.Given.{Given, given}
use Rattle.open_map.proofs.Shown.{rank_step, rank-busy}
use Rattle.open_steps.specs.Steps.{steps, nth_open, between_open}
use Rattle.open_steps.specs.Inquiries.{may_step, nth_reply, between_reply}
use Rattle.open_steps.proofs.Ranks.{there_and_back, between-steps}

-- ---- any instants, ranked by counting from instant 0
module _ (f : ℤ → Bool) where
  counted-rank : ℤ → ℤ
  counted-rank (pos n) = pos (length (keep f (from (pos 0) n)))
  counted-rank (negsuc n) = neg_ℤ (pos (length (keep f (from (negsuc n) (suc n)))))

  -- one more at the end
  kept-end : (s : ℤ) (n : ℕ) → length (keep f (from s (n + 1))) ≡ length (keep f (from s n)) + one (f (s +ℤ pos n))
  kept-end s zero =
      let e : s +ℤ pos 0 ≡ s = simp ints (omega arith) in
      omega (arith, kept-one (f s) s [], ap (λ (z : ℤ). one (f z)) e)
  kept-end s (suc n) =
      let k : suc n + 1 ≡ suc (n + 1) = omega arith in
      let e : s +ℤ pos 1 +ℤ pos n ≡ s +ℤ pos (suc n) = simp ints (omega arith) in
      let l = keep f (from (s +ℤ pos 1) (n + 1)) in
      let m = keep f (from (s +ℤ pos 1) n) in
      omega (arith, ap (λ (i : ℕ). length (keep f (from s i))) k, kept-one (f s) s l, kept-one (f s) s m, kept-end (s +ℤ pos 1) n, ap (λ (z : ℤ). one (f z)) e)

  counted_step : (t : ℤ) → counted-rank (t +ℤ pos 1) ≡ counted-rank t +ℤ pos (one (f t))
  unfolding counted-rank
  counted_step (pos n) =
      let e : pos 0 +ℤ pos n ≡ pos n = simp ints (omega arith) in
      kept-end (pos 0) n ∴ ap (λ (z : ℤ). one (f z)) e ∴ simp ints (omega arith)
  counted_step (negsuc zero) = kept-one (f (negsuc 0)) (negsuc 0) [] ∴ simp ints (omega arith)
  counted_step (negsuc (suc n)) =
      let e : negsuc (suc n) +ℤ pos 1 ≡ negsuc n = simp ints (omega arith) in
      let k = kept-one (f (negsuc (suc n))) (negsuc (suc n)) (keep f (from (negsuc (suc n) +ℤ pos 1) (suc n))) in
      ap counted-rank e ∙ (k ∴ ap (λ (z : ℤ). length (keep f (from z (suc n)))) e ∴ simp ints (omega arith))

-- ---- every calendar
module _ (c : Calendar) (k : IsCalendar c) where
  -- its open instants
  abbrev opens : ℤ → Bool
  opens t = is_some (c t)

  -- in each period from x on there is one
  in-period : (x : ℤ) → (u : ℤ) × (x ≤ℤ u) × (u <ℤ (x +ℤ pos k.period)) × (opens u ≡ true)
  in-period x =
      let P = k.period in
      let t = k.labelled.0 in
      let r = floor_mod (t -ℤ x) P in
      let q = floor_div (t -ℤ x) P in
      let l = floor-lt P k.positive.0 (t -ℤ x) in
      let e : t +ℤ pos P *ℤ neg_ℤ q ≡ x +ℤ pos r = floor-eq P k.positive.0 (t -ℤ x) ∴ simp ints (omega arith) in
      let m = label-moved c P k.distance k.repeats (neg_ℤ q) t k.label k.labelled.1 in
      (x +ℤ pos r, simp ints (omega arith), l ∴ simp ints (omega arith), (is_some-iff (c (x +ℤ pos r))).1 (_, sym (ap c e) ∙ m))

  busy : (x : ℤ) → counted-rank opens x <ℤ counted-rank opens (x +ℤ pos k.period)
  busy x =
      let u = in-period x in
      let step = counted_step opens in
      rank-le opens (counted-rank opens) step x u.0 u.1
      ∴ rank_lt opens (counted-rank opens) step u.0 (x +ℤ pos k.period) u.3 u.2 ∴ simp ints (omega arith)

  -- document 001: "going n forward from an open x and n back gives x, for every calendar"
  pub calendar-back : (n : ℕ) (x : ℤ) → opens x ≡ true → steps (last_open k.period opens) n (steps (next_open k.period opens) n x) ≡ x
  calendar-back = there_and_back opens (counted-rank opens) (counted_step opens) k.period busy

  -- between x and the n-th open instant after it there are n
  pub calendar-between : (n : ℕ) (x : ℤ) → between_open opens x (steps (next_open k.period opens) n x) ≡ pos n
  calendar-between = between-steps opens (counted-rank opens) (counted_step opens) k.period busy

-- ---- every map that passes check 13
module _ (m : Map) (s : map_sound m ≡ true) where
  g : Given (pos m.period) m.words
  g = given (pos m.period) m.words s

  abbrev next : ℤ → ℤ
  next = next_open m.period (is_open m)

  abbrev last : ℤ → ℤ
  last = last_open m.period (is_open m)

  pub map_back : (n : ℕ) (x : ℤ) → is_open m x ≡ true → steps last n (steps next n x) ≡ x
  map_back = there_and_back (is_open m) (rank m) (rank_step m g.low) m.period (rank-busy m g.low g.some)

  pub map-between : (n : ℕ) (x : ℤ) → between_open (is_open m) x (steps next n x) ≡ pos n
  map-between = between-steps (is_open m) (rank m) (rank_step m g.low) m.period (rank-busy m g.low g.some)

  -- the questions themselves: n forward from an open x, and n back from the answer
  may : (x n : ℤ) → in_range x ≡ true → negsuc 999999 ≤ℤ n → n ≤ℤ pos 1000000 → may_step x n ≡ true
  may x n r lo hi = (and-iff (in_range x) (between (negsuc 999999) (pos 1000000) n)).1 (r, (and-iff (le_z (negsuc 999999) n) (le_z n (pos 1000000))).1 ((le_z-iff (negsuc 999999) n).1 lo, (le_z-iff n (pos 1000000)).1 hi))

  pub questions-back : (n : ℕ) (x y : ℤ) → n < 1000000 → is_open m x ≡ true → in_range x ≡ true → in_range y ≡ true
      → nth_reply m x (pos (suc n)) ≡ answer (some y) → nth_reply m y (negsuc n) ≡ answer (some x)
  unfolding nth_reply nth_open
  questions-back n x y few o rx ry e =
      let forward = passed 13 _ s ∙ passed 14 _ (may x (pos (suc n)) rx (simp ints (omega arith)) (simp ints (omega arith))) in
      let y-is : steps next (suc n) x ≡ y = some_inj ((answer-iff _ _).0 (sym forward ∙ e)) in
      passed 13 _ s ∙ passed 14 _ (may y (negsuc n) ry (simp ints (omega arith)) (simp ints (omega arith)))
      ∙ ap (λ (z : ℤ). answer (some z)) (ap (steps last (suc n)) (sym y-is) ∙ map_back (suc n) x o)

  -- and the number between x and the n-th after it
  pub questions-between : (n : ℕ) (x y : ℤ) → n < 1000000 → in_range x ≡ true → in_range y ≡ true
      → nth_reply m x (pos (suc n)) ≡ answer (some y) → between_reply m x y ≡ answer (pos (suc n))
  unfolding nth_reply nth_open between_reply
  questions-between n x y few rx ry e =
      let forward = passed 13 _ s ∙ passed 14 _ (may x (pos (suc n)) rx (simp ints (omega arith)) (simp ints (omega arith))) in
      let y-is : steps next (suc n) x ≡ y = some_inj ((answer-iff _ _).0 (sym forward ∙ e)) in
      passed 13 _ s ∙ passed 14 _ ((and-iff (in_range x) (in_range y)).1 (rx, ry))
      ∙ ap (λ (z : ℤ). answer z) (ap (between_open (is_open m) x) (sym y-is) ∙ map-between (suc n) x)
