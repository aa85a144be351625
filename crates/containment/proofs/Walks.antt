-- A walk over two rows, from a place in a direction: where it stands, its steps and its end.
-- Assumes nothing.
use mathlib.Core.Path.{◌≡◌, refl, sym, ◌∙◌, ap}
use mathlib.Core.Logic.{◌⊎◌, inl, inr, ⊎_elim}
use mathlib.Core.Option.{some}
use mathlib.Core.Bool.{Bool, true, false}
use Prim.Native.Nat.{◌<◌}
use native.Mathlib.Omega.{arith}
use lib.IntN.{ℤ, pos, ◌+ℤ◌}
use lib.Signed.{◌≤ℤ◌, ◌<ℤ◌}
use Rattle.integers.proofs.Linear.{ints, ◌∴◌}
use Rattle.integers.proofs.Order.{le-or-lt}
use Rattle.calendar.specs.Meaning.{Row, meant}
use Rattle.calendar.specs.Granules.{granule}
use Rattle.granules.specs.Valid.{Valid}
use Rattle.granules.proofs.Tests.{none≢some, false-iff}
use Rattle.granules.proofs.Questions.{first-at-most, last-at-least}
use Rattle.cursors.specs.Cursor.{cursor_at}
use Rattle.cursors.specs.Direction.{stepped, away}
use Rattle.cursors.proofs.Direction.{away-self, away-step, away-inj}
use Rattle.granule_ends.specs.Ends.{end_of}
use Rattle.granule_ends.proofs.Walks.{Walk, left, walk_start, walk-past, walk-to, walk_end, walk-less}
use Rattle.containment.specs.declared.CursorPair.{CursorPair}
use Rattle.containment.specs.declared.Step.TheVariants.{On, Done, Out}
use Rattle.containment.specs.Places.{at, step_at}
use Rattle.containment.specs.Sides.{Overlaps, inside_toward}
use Rattle.containment.proofs.Places.{Moved, moved_at, moved-b, moved-a}
use Rattle.containment.proofs.Steps.{Says, step-iff}
use Rattle.containment.proofs.Steps.Says.{past, within, behind, outside}
use Rattle.containment.proofs.Sides.{Held, toward-iff}

-- u is passed by a walk from t that is at x
abbrev Passed : Bool → ℤ → ℤ → ℤ → Type 0
Passed back t x u = (pos 0 ≤ℤ away back t u) × (away back t u ≤ℤ away back t x)

-- a walk from a place: it is at the place p, and what it passed of b's granule is in a's
pub record Toward (back : Bool) (b a : Row) (from p : CursorPair) : Type 0 where
  pub same-k : p.k ≡ from.k
  pub same-i : p.i ≡ from.i
  pub end : ℤ
  pub walk : Walk back b (at b from) from.k p.b (at b p) end
  pub beside : p.a ≡ cursor_at a (at b p)
  pub held : Held b a from (Passed back (at b from) (at b p))

-- one instant more
held_more : (b a : Row) (from : CursorPair) {x y : ℤ → Type 0} (w : ℤ) → ((u : ℤ) → y u → x u ⊎ (u ≡ w)) → Held b a from x → (meant b w ≡ some from.k → meant a w ≡ some from.i) → Held b a from y
held_more b a from w more h s u m e = ⊎_elim (λ n. h u n e) (λ n. ap (meant a) n ∙ s (ap (meant b) (sym n) ∙ e)) (more u m)

-- the end of a granule is its farthest instant
end-farthest : (back : Bool) (b : Row) → Valid b → (t j u : ℤ) → meant b u ≡ some j → away back t u ≤ℤ away back t (end_of back (granule b j))
end-farthest true b v t j u l = first-at-most b v j u l ∴ simp ints (omega arith)
end-farthest false b v t j u l = last-at-least b v j u l ∴ simp ints (omega arith)

-- the walk starts at the place
pub toward-start : (back : Bool) (b a : Row) → Valid b → (from : CursorPair) → Overlaps b a from → Toward back b a from from
toward-start back b a v from s = record {
  same-k = refl;
  same-i = refl;
  end = at b from;
  walk = walk_start b v back (at b from) from.k from.b s.b-cursor s.b-label;
  beside = s.a-cursor;
  held = λ u m _. ap (meant a) (here u m) ∙ s.a-label;
}
  where
    here : (u : ℤ) → Passed back (at b from) (at b from) u → u ≡ at b from
    here u m = away-inj back (at b from) u (at b from) (m.0 ∴ m.1 ∴ away-self back (at b from) ∴ simp ints (omega arith))

-- ---- a step, from p to q

module _ (back : Bool) (b a : Row) (v : Valid b) (from p q : CursorPair) (w : Toward back b a from p) (to : Moved b a p q (stepped back (at b p))) where
  step : at b q ≡ stepped back (at b p)
  step = moved_at b a v p q (stepped back (at b p)) to

  farther : away back (at b from) (at b q) ≡ away back (at b from) (at b p) +ℤ pos 1
  farther = away-step back (at b from) (at b p) (at b q) step

  k-kept : q.k ≡ from.k
  k-kept = to.k-kept ∙ w.same-k

  i-kept : q.i ≡ from.i
  i-kept = to.i-kept ∙ w.same-i

  held_on : (meant b (at b q) ≡ some from.k → meant a (at b q) ≡ some from.i) → Held b a from (Passed back (at b from) (at b q))
  held_on = held_more b a from (at b q) split w.held
    where
      split : (u : ℤ) → Passed back (at b from) (at b q) u → Passed back (at b from) (at b p) u ⊎ (u ≡ at b q)
      split u m =
          ⊎_elim
          (λ h. inl (m.0, h))
          (λ (h : away back (at b from) (at b p) <ℤ away back (at b from) u).
          inr (away-inj back (at b from) u (at b q) (h ∴ m.1 ∴ farther ∴ simp ints (omega arith))))
          (le-or-lt (away back (at b from) u) (away back (at b from) (at b p)))

  -- the instant is not labelled in b, or it is in both granules
  pub toward-on : step_at b a q ≡ On → Toward back b a from q
  toward-on e = by ((step-iff b a q On).0 e)
    where
      by : Says (meant b (at b q)) (meant a (at b q)) q.k q.i On → Toward back b a from q
      by (past h) = record {
        same-k = k-kept;
        same-i = i-kept;
        end = w.end;
        walk = walk-past b v back (at b from) from.k p.b q.b (at b p) (at b q) w.end w.walk (moved-b b a v p q _ to) step h;
        beside = moved-a b a v p q _ to;
        held = held_on (λ l. absurd (none≢some (sym h ∙ l)));
      }
      by (within h g) = record {
        same-k = k-kept;
        same-i = i-kept;
        end = at b q;
        walk = walk-to b v back (at b from) from.k p.b q.b (at b p) (at b q) w.end w.walk (moved-b b a v p q _ to) step (h ∙ ap some k-kept);
        beside = moved-a b a v p q _ to;
        held = held_on (λ _. g ∙ ap some i-kept);
      }

  -- another label of b shows: the walk passed the whole granule
  pub toward-done : step_at b a q ≡ Done → inside_toward back b a from ≡ true
  toward-done e = by ((step-iff b a q Done).0 e)
    where
      by : Says (meant b (at b q)) (meant a (at b q)) q.k q.i Done → inside_toward back b a from ≡ true
      by (behind j h f) =
          let e = walk_end b v back (at b from) from.k p.b q.b (at b p) (at b q) w.end w.walk (moved-b b a v p q _ to) step j h (λ g. f (g ∙ sym k-kept)) in
          let d = ap (away back (at b from)) (sym e) in
          (toward-iff b a v from back).1 (λ u m l. w.held u (m, end-farthest back b v (at b from) from.k u l ∴ d ∴ w.walk.before ∴ simp ints (omega arith)) l)

  -- the instant is in b's granule and not in a's
  pub toward-out : step_at b a q ≡ Out → inside_toward back b a from ≡ false
  toward-out e = by ((step-iff b a q Out).0 e)
    where
      by : Says (meant b (at b q)) (meant a (at b q)) q.k q.i Out → inside_toward back b a from ≡ false
      by (outside h f) =
          (false-iff (toward-iff b a v from back)).1 (λ g. f (g (at b q) (w.walk.low ∴ farther ∴ simp ints (omega arith)) (h ∙ ap some k-kept) ∙ ap some (sym i-kept)))

  pub toward-less : left back b.period (at b from) (at b q) < left back b.period (at b from) (at b p)
  toward-less = walk-less b v back (at b from) from.k p.b q.b (at b p) (at b q) w.end w.walk (moved-b b a v p q _ to) step
