-- Where a coarse granule begins, and where the next one does.
--     The first instant of b's granule i is in the first granule of a that meets i: another that meets i has an instant behind it, and labels of a
--     never fall.
--     The first instant behind it with another label of b has the label i + 1: that is a label of b, as b is full, and labels of b never fall.
-- Assumes nothing.
use mathlib.Core.Path.{◌≡◌, sym, ◌∙◌, ap}
use mathlib.Core.Logic.{◌⊎◌, inl, inr}
use mathlib.Core.Option.{some}
use native.Mathlib.Omega.{arith}
use lib.IntN.{ℤ, pos, ◌+ℤ◌}
use lib.Signed.{◌≤ℤ◌, ◌<ℤ◌}
use Rattle.integers.proofs.Linear.{ints, ◌∴◌}
use Rattle.integers.proofs.Order.{≤ℤ-antisym, le-or-lt}
use Rattle.calendar.specs.Meaning.{Row, meant}
use Rattle.calendar.specs.Lists.{first}
use Rattle.calendar.specs.Granules.{meeting}
use Rattle.granules.proofs.Tests.{some_inj}
use Rattle.cursors.specs.Cursor.{cursor_at}
use Rattle.containment.proofs.Places.{instant-is}
use Rattle.algebra.proofs.Fine.{Partitioned, low, low-spans}
use Rattle.strides.specs.declared.Change.{Change}
use Rattle.strides.specs.Changes.{Changes}
use Rattle.alter_granules.specs.declared.coarse.Begin.{Begin}
use Rattle.alter_granules.specs.CoarseBegins.{at, CoarseBegins}

-- the next beginning
pub record Next (a b : Row) (c r : Begin) : Type 0 where
  pub begins : CoarseBegins a b r
  pub of : r.i ≡ c.i +ℤ pos 1
  pub behind : at b c <ℤ at b r
  pub near : at b r ≤ℤ (at b c +ℤ pos b.period)

module _ (a b : Row) (known : Partitioned a b) where
  -- a's label at the first instant of b's granule i is the first that meets i
  first-meets : (v i p : ℤ) → meant a v ≡ some p → meant b v ≡ some i → ((u : ℤ) → meant b u ≡ some i → v ≤ℤ u) → p ≡ first (meeting a b i)
  first-meets v i p av bv least =
      let s = low-spans a b known i in
      let m = (s.1 v).0 bv in
      let u = known.full.0 (low a b i) in
      let bu = (s.1 u.0).1 (low a b i, u.1, simp ints (omega arith), s.0) in
      ≤ℤ-antisym
      (known.valid.0.ordered v u.0 p (low a b i) (least u.0 bu) av u.1)
      (m.2 ∴ some_inj (sym m.1 ∙ av) ∴ simp ints (omega arith))

  pub begins-at : (c : Begin) (v : ℤ) → c.a ≡ cursor_at a v → c.b ≡ cursor_at b v → meant a v ≡ some c.p → meant b v ≡ some c.i
      → ((u : ℤ) → meant b u ≡ some c.i → v ≤ℤ u) → CoarseBegins a b c
  begins-at c v ca cb la lb least =
      let e = sym (instant-is b known.valid.1 c.b v cb) in
      record {
        a-cursor = ca ∙ ap (cursor_at a) e;
        b-cursor = cb ∙ ap (cursor_at b) e;
        a-label = ap (meant a) (sym e) ∙ la;
        b-label = ap (meant b) (sym e) ∙ lb;
        is-first = first-meets v c.i c.p la lb least;
      }

  -- the next instant with another label of b is where the next granule begins
  module _ (c r : Begin) (begun : CoarseBegins a b c) (x : Change) (change : Changes b (at b c) x) (to-a : r.a ≡ cursor_at a (at b c +ℤ x.steps)) (to-b : r.b ≡ x.cursor)
      (la : meant a (at b c +ℤ x.steps) ≡ some r.p) (lb : meant b (at b c +ℤ x.steps) ≡ some r.i) where
    place : at b r ≡ at b c +ℤ x.steps
    place = instant-is b known.valid.1 r.b (at b c +ℤ x.steps) (to-b ∙ change.cursor)

    -- the label i + 1 stands behind what was passed
    behind : (u : ℤ) → meant b u ≡ some (c.i +ℤ pos 1) → (at b c +ℤ x.steps) ≤ℤ u
    behind u e = by (le-or-lt (at b c +ℤ x.steps) u) (le-or-lt (at b c) u)
      where
        by : ((at b c +ℤ x.steps) ≤ℤ u) ⊎ (u <ℤ (at b c +ℤ x.steps)) → (at b c ≤ℤ u) ⊎ (u <ℤ at b c) → (at b c +ℤ x.steps) ≤ℤ u
        by (inl m) h = m
        by (inr m) (inl h) = absurd (some_inj (sym (change.between u _ h m e) ∙ begun.b-label) ∴ simp ints (omega arith))
        by (inr m) (inr h) = absurd (known.valid.1.ordered u (at b c) _ c.i (h ∴ simp ints (omega arith)) e begun.b-label ∴ simp ints (omega arith))

    other : r.i ≡ c.i → ⊥
    other e = change.other.2 (begun.b-label ∙ ap some (sym e) ∙ sym lb ∙ change.other.1)

    next-label : r.i ≡ c.i +ℤ pos 1
    next-label =
        let v = known.valid.1 in
        let u = known.full.1 (c.i +ℤ pos 1) in
        let y = v.ordered (at b c) (at b c +ℤ x.steps) c.i r.i (change.on ∴ simp ints (omega arith)) begun.b-label lb in
        let z = v.ordered (at b c +ℤ x.steps) u.0 r.i (c.i +ℤ pos 1) (behind u.0 u.1) lb u.1 in
        y ∴ z ∴ other ∴ simp ints (omega arith)

    pub next-begins : Next a b c r
    next-begins = record {
      begins = begins-at r (at b c +ℤ x.steps) to-a (to-b ∙ change.cursor) la lb (λ u e. behind u (e ∙ ap some next-label));
      of = next-label;
      behind = place ∴ change.on ∴ simp ints (omega arith);
      near = place ∴ change.near ∴ simp ints (omega arith);
    }
