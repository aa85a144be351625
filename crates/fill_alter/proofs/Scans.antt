-- What is found at an instant t whose label in a is j: the altered granule of the fine granules from j on, up to another one.
-- Assumes nothing.
use mathlib.Core.Path.{◌≡◌, sym, ◌∙◌, ap}
use mathlib.Core.Option.{Option, some}
use mathlib.Core.List.{List}
use Prim.Native.Nat.{ℕ, ◌<◌}
use native.Mathlib.Omega.{arith}
use lib.IntN.{ℤ, pos, ◌+ℤ◌, ◌-ℤ◌}
use lib.Signed.{◌≤ℤ◌, ◌<ℤ◌}
use lib.ListN.{length, get_or}
use Rattle.integers.specs.Parts.{up}
use Rattle.integers.proofs.Linear.{ints, ◌∴◌}
use Rattle.calendar.specs.Meaning.{Row, meant, empty}
use Rattle.calendar.specs.Lists.{on_label}
use Rattle.calendar.specs.Compute.{result, altered}
use Rattle.cursors.specs.Cursor.{cursor_at}
use Rattle.kinds.specs.declared.Alteration.{Alteration}
use Rattle.alter_granules.specs.declared.Repeat.{Repeat}
use Rattle.alter_granules.specs.declared.Altered.{Altered}
use Rattle.alter_granules.specs.declared.ahead.Walk.{Walk}
use Rattle.alter_granules.specs.declared.behind.Instant.{Instant}
use Rattle.alter_granules.specs.Given.{altering, Alterable, Written}
use Rattle.alter_granules.specs.Follows.{Holds, CoarseWalk, Passed, Follows}
use Rattle.alter_granules.proofs.Tiled.{altered-iff}
use Rattle.alter_granules.proofs.Followed.{follows-walk, follows-place, passed-walk, at-end, written-holds}

-- the altered granule of the fine granule j
abbrev pub number_of : Alteration → Row → Row → ℤ → Option ℤ
number_of by a b j = altered a b (up by.x) (up by.y) by.z j

abbrev pub both : Walk → Instant → Altered
both walk behind = record { walk = walk; behind = behind }

-- the number is that of each fine granule from j up to `high`
pub record Found (by : Alteration) (repeat : Repeat) (a b : Row) (t : ℕ) (j : ℤ) (walk : Walk) (behind : Instant) (number high : ℤ) : Type 0 where
  pub follows : Follows by repeat a b t (record { walk = walk; behind = behind })
  pub numbers : (i : ℤ) → j ≤ℤ i → i ≤ℤ high → number_of by a b i ≡ some number
  pub reaches : j ≤ℤ high

pub found_as : {by : Alteration} {repeat : Repeat} {a b : Row} {t : ℕ} {j : ℤ} {w v : Walk} {p q : Instant} {n m h i : ℤ} → v ≡ w → q ≡ p → m ≡ n → i ≡ h
    → Found by repeat a b t j w p n h → Found by repeat a b t j v q m i
found_as e f g d h = rw (e, f, g, d) h

-- the label by the label of a
pub label_of : (by : Alteration) (a b : Row) (t : ℤ) (o : Option ℤ) → meant a t ≡ o → on_label o (number_of by a b) ≡ result (altering by a b) t
unfolding result
label_of by a b t o e = ap (λ (p : Option ℤ). on_label p (number_of by a b)) (sym e)

module _ (by : Alteration) (repeat : Repeat) (a b : Row) (t : ℕ) (walk : Walk) (behind : Instant) (j : ℤ) (g : Alterable by repeat a b) (s : Follows by repeat a b t (both walk behind)) (e : meant a (pos t) ≡ some j) where
  -- the walk over b finds the granule, and with it those up to the next one
  pub found-walk : (w : Walk) → CoarseWalk by a b w → Holds by a b j w.label → w.end ≡ walk.end → Found by repeat a b t j w behind w.label (w.next -ℤ pos 1)
  found-walk w k h d = record {
    follows = follows-walk by repeat a b g t (both walk behind) s j e w k h d;
    numbers = λ i l m. (altered-iff by a b (repeat, g) i w.label).1 (h.0 ∴ l ∴ simp ints (omega arith), k.next ∴ m ∴ simp ints (omega arith));
    reaches = k.next ∴ h.1 ∴ simp ints (omega arith);
  }

  -- the label written for the granule D before finds it
  pub found-place : walk.end ≤ℤ j → (p : Instant) → p.cursor ≡ cursor_at a (pos p.index) → meant a (pos p.index) ≡ some (j -ℤ repeat.fine)
      → (cells : List ℤ) → Written by a b cells → p.index < length cells → Found by repeat a b t j walk p (get_or cells p.index empty +ℤ repeat.coarse) j
  found-place past p c l cells w h =
      let n = get_or cells p.index empty +ℤ repeat.coarse in
      let x = written-holds by repeat a b g t (both walk behind) s j e past p c l cells w h in
      record {
        follows = follows-place by repeat a b g t (both walk behind) s j e past p c l;
        numbers = λ i q r. (altered-iff by a b (repeat, g) i n).1 (x.0 ∴ q ∴ simp ints (omega arith), x.1 ∴ r ∴ simp ints (omega arith));
        reaches = simp ints (omega arith);
      }

  -- the instant has the label that is found
  pub found-label : (w : Walk) (p : Instant) (n h : ℤ) → Found by repeat a b t j w p n h → some n ≡ result (altering by a b) (pos t)
  found-label w p n h f = sym (f.numbers j (simp ints (omega arith)) f.reaches) ∙ label_of by a b (pos t) (some j) e

-- ---- found in the loop that fills the row: until the walk is at its end, what is passed by then is before the next altered granule

pub record Finds (by : Alteration) (repeat : Repeat) (a b : Row) (t : ℕ) (j : ℤ) (walk : Walk) (behind : Instant) (number high : ℤ) : Type 0 where
  pub found : Found by repeat a b t j walk behind number high
  pub passed : Passed a t walk
  pub passes : walk.next <ℤ walk.end → (i : ℤ) → i ≤ℤ high → i <ℤ walk.next

pub finds-as : {by : Alteration} {repeat : Repeat} {a b : Row} {t : ℕ} {j : ℤ} {w v : Walk} {p q : Instant} {n m h i : ℤ} → v ≡ w → q ≡ p → m ≡ n → i ≡ h
    → Finds by repeat a b t j w p n h → Finds by repeat a b t j v q m i
finds-as e f g d h = rw (e, f, g, d) h

module _ (by : Alteration) (repeat : Repeat) (a b : Row) (t : ℕ) (walk : Walk) (behind : Instant) (j : ℤ) (g : Alterable by repeat a b) (s : Follows by repeat a b t (both walk behind)) (e : meant a (pos t) ≡ some j) where
  pub finds-walk : (w : Walk) → CoarseWalk by a b w → Holds by a b j w.label → w.end ≡ walk.end → Finds by repeat a b t j w behind w.label (w.next -ℤ pos 1)
  finds-walk w k h d = record {
    found = found-walk by repeat a b t walk behind j g s e w k h d;
    passed = passed-walk by repeat a b g t (both walk behind) s j e w k h;
    passes = λ _ i l. l ∴ simp ints (omega arith);
  }

  pub finds-place : (p : Instant) (n : ℤ) → Passed a t walk → walk.end ≤ℤ j → Found by repeat a b t j walk p n j → Finds by repeat a b t j walk p n j
  finds-place p n q past f = record { found = f; passed = q; passes = λ m. absurd (at-end by repeat a b g t (both walk behind) s j e q past m) }
