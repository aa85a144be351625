-- Where a scan is among the altered granules: as it starts, at a later instant, behind a step of the walk over b, and behind one of the walk over the
-- written labels.
-- Assumes nothing.
use mathlib.Core.Path.{◌≡◌, refl, sym, ◌∙◌, ap, subst₂}
use mathlib.Core.Logic.{◌⊎◌, inl, inr}
use mathlib.Core.Option.{Option, some}
use mathlib.Core.List.{List}
use Prim.Native.Nat.{ℕ, ◌≤◌, ◌<◌}
use native.Mathlib.Omega.{arith}
use lib.IntN.{ℤ, pos, negsuc, ◌+ℤ◌, ◌-ℤ◌}
use lib.Signed.{◌≤ℤ◌, ◌<ℤ◌}
use lib.ListN.{length, get_or}
use Rattle.integers.specs.Parts.{up}
use Rattle.integers.proofs.Linear.{ints, ◌∴◌}
use Rattle.integers.proofs.Order.{≤ℤ-antisym, le-or-lt}
use Rattle.calendar.specs.Meaning.{Row, meant, empty}
use Rattle.calendar.specs.Lists.{on_label}
use Rattle.calendar.specs.Compute.{altered, result}
use Rattle.calendar.specs.Limits.{pool_limit}
use Rattle.granules.proofs.Rows.{label_is}
use Rattle.granules.proofs.Tests.{some_inj}
use Rattle.cursors.specs.declared.Cursor.{Cursor}
use Rattle.cursors.specs.Cursor.{cursor_at}
use Rattle.kinds.specs.declared.Alteration.{Alteration}
use Rattle.alter_granules.specs.declared.Repeat.{Repeat}
use Rattle.alter_granules.specs.declared.Altered.{Altered}
use Rattle.alter_granules.specs.declared.ahead.Walk.{Walk}
use Rattle.alter_granules.specs.declared.behind.Instant.{Instant}
use Rattle.alter_granules.specs.declared.origin.Labelled.{Labelled}
use Rattle.alter_granules.specs.Given.{altering, Alterable, Written}
use Rattle.alter_granules.specs.Follows.{begins, Holds, CoarseWalk, Passed, Opens, Starts, Seeks, Follows}
use Rattle.alter_granules.proofs.Tiled.{coarse-low, fine-low, altered-iff, holds-turn, holds-some}

-- what holds before an instant holds before the later ones
pub follows-later : (by : Alteration) (repeat : Repeat) (a b : Row) (t u : ℕ) (s : Altered) → t ≤ u → Follows by repeat a b t s → Follows by repeat a b u s
follows-later by repeat a b t u s h f = record {
  walk = f.walk;
  reached = λ v j k. f.reached v j (h ∴ k ∴ simp ints (omega arith));
  cursor = f.cursor;
  ahead = λ v j k. f.ahead v j (h ∴ k ∴ simp ints (omega arith));
}

-- what is between two instants is passed
pub passed_later : (a : Row) (t u : ℕ) (s : Walk) → (s.next <ℤ s.end → (v : ℕ) (j : ℤ) → t ≤ v → v < u → meant a (pos v) ≡ some j → j <ℤ s.next) → Passed a t s → Passed a u s
passed_later a t u s h p n v j l e = go v l e (le-or-lt (pos t) v)
  where
    go : (v : ℤ) → v <ℤ pos u → meant a v ≡ some j → (pos t ≤ℤ v) ⊎ (v <ℤ pos t) → j <ℤ s.next
    go v l e (inr k) = p n v j k e
    go (pos v) l e (inl k) = h n v j (omega (arith, simp ints at k)) (omega (arith, simp ints at l)) e
    go (negsuc v) l e (inl k) = absurd (k ∴ simp ints (omega arith))

-- the first labelled instant is one
pub opens-same : (a : Row) (x y : Labelled) → Opens a x → Opens a y → x.j ≡ y.j
opens-same a x y p q =
    let e = ≤ℤ-antisym (p.is-first y.t y.j q.low q.label) (q.is-first x.t x.j p.low p.label) in
    some_inj (sym p.label ∙ ap (meant a) e ∙ q.label)

result-is : (by : Alteration) (a b : Row) (t : ℤ) → result (altering by a b) t ≡ on_label (meant a t) (altered a b (up by.x) (up by.y) by.z)
unfolding result
result-is by a b t = refl

module _ (by : Alteration) (repeat : Repeat) (a b : Row) (g : Alterable by repeat a b) where
  -- a is full: a greater label than that of t is behind t
  behind : (t i k : ℤ) → meant a t ≡ some i → i ≤ℤ k → (v : ℤ) × (t ≤ℤ v) × (meant a v ≡ some k)
  behind t i k e h = let r = g.ready.full.0 k in go r.0 r.1 (le-or-lt t r.0)
    where
      go : (v : ℤ) → meant a v ≡ some k → (t ≤ℤ v) ⊎ (v <ℤ t) → (v : ℤ) × (t ≤ℤ v) × (meant a v ≡ some k)
      go v f (inl l) = (v, l, f)
      go v f (inr l) =
          let m = g.ready.valid.0.ordered v t k i (l ∴ simp ints (omega arith)) f e in
          (t, simp ints (omega arith), e ∙ ap some (≤ℤ-antisym h m))

  turn_low : pos 1 ≤ℤ repeat.fine
  turn_low = coarse-low by a b (repeat, g) ∴ fine-low by a b (repeat, g) ∴ g.fine ∴ simp ints (omega arith)

  pub start-before : (w : Walk) (s : Starts by a b w) → s.first.j <ℤ w.end
  start-before w s = s.ends ∴ g.fine ∴ turn_low ∴ simp ints (omega arith)

  -- the walk goes on to the granule that has the first fine one
  module _ (v w : Walk) (s : Starts by a b v) (k : CoarseWalk by a b w) (h : Holds by a b s.first.j w.label) where
    pub start-on : w.end ≡ v.end → Starts by a b w
    start-on e = record { first = s.first; opens = s.opens; walk = k; reached = h.0; ends = e ∙ s.ends }

    pub passed_start : Passed a 0 w
    passed_start _ u j l m =
        let o = s.opens in
        g.ready.valid.0.ordered u s.first.t j s.first.j (l ∴ o.low ∴ simp ints (omega arith)) m o.label ∴ h.1 ∴ k.next ∴ simp ints (omega arith)

  pub follows-start : (w : Walk) (c : Cursor) → Starts by a b w → c ≡ cursor_at a (pos 0) → Follows by repeat a b 0 (record { walk = w; behind = record { index = 0; cursor = c } })
  follows-start w c s e =
      let o = s.opens in
      record {
        walk = s.walk;
        reached = λ u j h k. s.reached ∴ g.ready.valid.0.ordered s.first.t u s.first.j j (o.is-first u j h k) o.label k ∴ simp ints (omega arith);
        cursor = e;
        ahead = λ u j h k l.
            let r = behind s.first.t s.first.j (j -ℤ repeat.fine) o.label (l ∴ s.ends ∴ g.fine ∴ simp ints (omega arith)) in
            (r.0, r.1 ∴ o.low ∴ simp ints (omega arith), r.2);
      }

  module _ (t : ℕ) (s : Altered) (f : Follows by repeat a b t s) (j : ℤ) (e : meant a (pos t) ≡ some j) where
    -- labels never fall
    later : (u i : ℤ) → pos t ≤ℤ u → meant a u ≡ some i → j ≤ℤ i
    later u i h k = g.ready.valid.0.ordered (pos t) u j i h e k

    pub reaches : begins by a b s.walk.label ≤ℤ j
    reaches = f.reached (pos t) j (simp ints (omega arith)) e

    pub follows-walk : (w : Walk) → CoarseWalk by a b w → Holds by a b j w.label → w.end ≡ s.walk.end → Follows by repeat a b t (record { walk = w; behind = s.behind })
    follows-walk w k h d = record {
      walk = k;
      reached = λ u i l m. h.0 ∴ later u i l m ∴ simp ints (omega arith);
      cursor = f.cursor;
      ahead = λ u i l m n. f.ahead u i l m (d ∴ n ∴ simp ints (omega arith));
    }

    pub passed-walk : (w : Walk) → CoarseWalk by a b w → Holds by a b j w.label → Passed a t w
    passed-walk w k h _ u i l m = g.ready.valid.0.ordered u (pos t) i j (l ∴ simp ints (omega arith)) m e ∴ h.1 ∴ k.next ∴ simp ints (omega arith)

    module _ (q : Passed a t s.walk) where
      -- a is full: until the walk is at its end, j is not behind the first fine granule of the next altered one
      no_gap : s.walk.next <ℤ s.walk.end → j ≤ℤ s.walk.next
      no_gap n = let r = g.ready.full.0 s.walk.next in go r.0 r.1 (le-or-lt (pos t) r.0)
        where
          go : (v : ℤ) → meant a v ≡ some s.walk.next → (pos t ≤ℤ v) ⊎ (v <ℤ pos t) → j ≤ℤ s.walk.next
          go v m (inl l) = later v s.walk.next l m
          go v m (inr l) = absurd (q n v s.walk.next l m ∴ simp ints (omega arith))

      pub at-most-next : j <ℤ s.walk.end → j ≤ℤ s.walk.next
      at-most-next h = go (le-or-lt j s.walk.next)
        where
          go : (j ≤ℤ s.walk.next) ⊎ (s.walk.next <ℤ j) → j ≤ℤ s.walk.next
          go (inl l) = l
          go (inr l) = no_gap (l ∴ h ∴ simp ints (omega arith))

      pub at-end : s.walk.end ≤ℤ j → s.walk.next <ℤ s.walk.end → ⊥
      at-end past n = no_gap n ∴ past ∴ n ∴ simp ints (omega arith)

    module _ (past : s.walk.end ≤ℤ j) where
      pub seeks : t ≤ pool_limit → Seeks a s.behind (j -ℤ repeat.fine)
      seeks few =
          let r = f.ahead (pos t) j (simp ints (omega arith)) e past in
          record { cursor = f.cursor; there = r.0; ahead = r.1; near = before r.0 r.2 (le-or-lt r.0 (pos t)) ∴ few ∴ simp ints (omega arith); label = r.2 }
        where
          before : (v : ℤ) → meant a v ≡ some (j -ℤ repeat.fine) → (v ≤ℤ pos t) ⊎ (pos t <ℤ v) → v ≤ℤ pos t
          before v l (inl h) = h
          before v l (inr h) = absurd (later v (j -ℤ repeat.fine) (h ∴ simp ints (omega arith)) l ∴ turn_low ∴ simp ints (omega arith))

      module _ (p : Instant) (c : p.cursor ≡ cursor_at a (pos p.index)) (l : meant a (pos p.index) ≡ some (j -ℤ repeat.fine)) where
        pub place-behind : p.index < t
        place-behind = go (le-or-lt (pos t) (pos p.index))
          where
            go : (pos t ≤ℤ pos p.index) ⊎ (pos p.index <ℤ pos t) → p.index < t
            go (inl h) = absurd (later (pos p.index) (j -ℤ repeat.fine) h l ∴ turn_low ∴ simp ints (omega arith))
            go (inr h) = omega (arith, simp ints at h)

        pub follows-place : Follows by repeat a b t (record { walk = s.walk; behind = p })
        follows-place = record {
          walk = f.walk;
          reached = f.reached;
          cursor = c;
          ahead = λ u i h k _. behind (pos p.index) (j -ℤ repeat.fine) (i -ℤ repeat.fine) l (later u i h k ∴ simp ints (omega arith));
        }

        -- the label written there is that of the granule D before, so that of j is n higher
        pub written-holds : (cells : List ℤ) → Written by a b cells → p.index < length cells → Holds by a b j (get_or cells p.index empty +ℤ repeat.coarse)
        written-holds cells w h =
            let d = j -ℤ repeat.fine in
            let r = holds-some by a b (repeat, g) d in
            let i = r.0 in
            let o =
            w.labels p.index h
            ∙ result-is by a b (pos p.index)
            ∙ ap (λ (o : Option ℤ). on_label o (altered a b (up by.x) (up by.y) by.z)) l
            ∙ (altered-iff by a b (repeat, g) d i).1 r.1 in
            let z = label_is (get_or cells p.index empty) i o in
            subst₂ (Holds by a b) (g.fine ∴ simp ints (omega arith)) (z ∴ g.coarse ∴ simp ints (omega arith)) (holds-turn by a b (repeat, g) d i r.1)
