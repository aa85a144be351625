-- A pass over coarse granules, one behind the other, in search of a short one.
-- Assumes nothing.
use mathlib.Core.Path.{◌≡◌, sym, ◌∙◌, ap}
use mathlib.Core.Logic.{◌⊎◌, inl, inr}
use mathlib.Core.Bool.{true, false}
use mathlib.Core.List.{List}
use Prim.Native.Nat.{ℕ, ◌^◌}
use native.Mathlib.Omega.{arith}
use lib.IntN.{ℤ, pos, ◌+ℤ◌, ◌-ℤ◌, ◌*ℤ◌}
use lib.Signed.{◌≤ℤ◌, ◌<ℤ◌}
use Rattle.integers.specs.Parts.{up}
use Rattle.integers.proofs.Linear.{ints, ◌∴◌}
use Rattle.integers.proofs.Order.{le-or-lt, pos-up}
use Rattle.calendar.specs.Meaning.{Row}
use Rattle.calendar.specs.Lists.{any, from}
use Rattle.calendar.specs.Limits.{pool_limit}
use Rattle.calendar.specs.Questions.{given}
use Rattle.granules.proofs.Tests.{true≢false, false-iff}
use Rattle.granules.proofs.Lists.{any-iff, mem-from}
use Rattle.cursors.specs.Found.{Sound, Within}
use Rattle.cursors.proofs.Numbers.{numbers}
use Rattle.cursors.proofs.Bounds.{label-bound}
use Rattle.algebra.proofs.Fine.{Partitioned, low, high, low-next}
use Rattle.kinds.specs.declared.Alteration.{Alteration}
use Rattle.alter_granules.specs.declared.coarse.Begin.{Begin}
use Rattle.alter_granules.specs.CoarseBegins.{at, CoarseBegins}
use Rattle.alter_granules.specs.Short.{short_by, short}
use Rattle.alter_granules.proofs.Beginnings.{Next}
use Rattle.alter_granules.proofs.Shortness.{short-is}

-- the pass stands where c begins, the n-th granule behind the start, and those that it passed are not short
pub record Passed (by : Alteration) (a b : Row) (g : ℕ) (count : ℤ) (start c : Begin) (n : ℤ) : Type 0 where
  pub begins : CoarseBegins a b c
  pub of : c.i ≡ start.i +ℤ n
  pub low : pos 0 ≤ℤ n
  pub high : n ≤ℤ count
  pub after : at b start ≤ℤ at b c
  pub before : at b c ≤ℤ (at b start +ℤ pos pool_limit *ℤ n)
  pub long : (u : ℤ) → start.i ≤ℤ u → u <ℤ c.i → short by a b g u ≡ false

module _ (by : Alteration) (a b : Row) (known : Partitioned a b) (g : ℕ) (count : ℤ) (start : Begin) where
  pub passed_start : CoarseBegins a b start → pos 0 ≤ℤ count → Passed by a b g count start start (pos 0)
  passed_start h l = record {
    begins = h;
    of = simp ints (omega arith);
    low = simp ints (omega arith);
    high = l;
    after = simp ints (omega arith);
    before = simp ints (omega arith);
    long = λ u x y. absurd (x ∴ y ∴ simp ints (omega arith));
  }

  module _ (c : Begin) (n : ℤ) (w : Passed by a b g count start c n) where
    pub passed-place : Within (2 ^ 53) (at b start) → count ≤ℤ pos pool_limit → Within (2 ^ 54) (at b c)
    passed-place near few = near ∴ few ∴ w.after ∴ w.before ∴ w.high ∴ simp ints (omega arith)

    -- no granule was short
    pub passed-end : count ≤ℤ n → any (short by a b g) (from start.i (up count)) ≡ false
    passed-end h =
        (false-iff (any-iff (short by a b g) (from start.i (up count)))).1
        (λ s. let m = (mem-from s.0 start.i (up count)).0 s.1 in
        true≢false s.2 (w.long s.0 m.0 (m.1 ∴ w.of ∴ h ∴ pos-up {z = count} (w.low ∴ w.high ∴ simp ints (omega arith)) ∴ simp ints (omega arith))))

    module _ (more : n <ℤ count) (next : Begin) (to : Next a b c next) where
      -- how many fine granules the granule at hand has
      size_is : next.p -ℤ c.p ≡ high a b c.i -ℤ low a b c.i +ℤ pos 1
      size_is =
          to.begins.is-first
          ∴ ap (low a b) to.of
          ∴ low-next a b known c.i
          ∴ w.begins.is-first
          ∴ simp ints (omega arith)

      short-here : short by a b g c.i ≡ short_by by g c.i (next.p -ℤ c.p)
      short-here = short-is by a b g c.i ∙ ap (short_by by g c.i) (sym size_is)

      -- it is short
      pub passed-short : short_by by g c.i (next.p -ℤ c.p) ≡ true → any (short by a b g) (from start.i (up count)) ≡ true
      passed-short e =
          (any-iff (short by a b g) (from start.i (up count))).1 (
            c.i,
            (mem-from c.i start.i (up count)).1 (
              w.of ∴ w.low ∴ simp ints (omega arith),
              w.of ∴ more ∴ pos-up {z = count} (w.low ∴ w.high ∴ simp ints (omega arith)) ∴ simp ints (omega arith),
            ),
            short-here ∙ e,
          )

      -- it is not
      pub passed-next : pos b.period ≤ℤ pos pool_limit → short_by by g c.i (next.p -ℤ c.p) ≡ false → Passed by a b g count start next (n +ℤ pos 1)
      passed-next period e = record {
        begins = to.begins;
        of = to.of ∴ w.of ∴ simp ints (omega arith);
        low = w.low ∴ simp ints (omega arith);
        high = more ∴ simp ints (omega arith);
        after = w.after ∴ to.behind ∴ simp ints (omega arith);
        before = w.before ∴ to.near ∴ period ∴ simp ints (omega arith);
        long = λ u x y. by_end u x y (le-or-lt c.i u);
      }
        where
          by_end : (u : ℤ) → start.i ≤ℤ u → u <ℤ next.i → (c.i ≤ℤ u) ⊎ (u <ℤ c.i) → short by a b g u ≡ false
          by_end u x y (inl h) = ap (short by a b g) (h ∴ y ∴ to.of ∴ simp ints (omega arith)) ∙ short-here ∙ e
          by_end u x y (inr h) = w.long u x h

-- the numbers on the way are not great
pub record Small (c next : Begin) : Type 0 where
  pub label : Within (2 ^ 60) c.i
  pub size : Within (2 ^ 60) (next.p -ℤ c.p)

module _ (a-period a_distance : ℤ) (a-cells : List ℤ) (b-period b-distance : ℤ) (b-cells : List ℤ) where
  abbrev a-row : Row
  a-row = given a-period a_distance a-cells

  abbrev b-row : Row
  b-row = given b-period b-distance b-cells

  pub passed-small : Sound a-period a_distance a-cells → Sound b-period b-distance b-cells
      → (by : Alteration) (g : ℕ) (count : ℤ) (start c next : Begin) (n : ℤ) → Passed by a-row b-row g count start c n → Next a-row b-row c next
      → Within (2 ^ 54) (at b-row c) → Small c next
  passed-small sa sb by g count start c next n w to here =
      let p = numbers b-period b-distance b-cells sb in
      let there : Within (2 ^ 55) (at b-row next) = here ∴ to.behind ∴ to.near ∴ p.high ∴ simp ints (omega arith) in
      let x = label-bound b-period b-distance b-cells sb (2 ^ 54) (at b-row c) c.i here.0 here.1 w.begins.b-label in
      let y = label-bound a-period a_distance a-cells sa (2 ^ 54) (at b-row c) c.p here.0 here.1 w.begins.a-label in
      let z = label-bound a-period a_distance a-cells sa (2 ^ 55) (at b-row next) next.p there.0 there.1 to.begins.a-label in
      record {
        label = x ∴ simp ints (omega arith);
        size = y ∴ z ∴ simp ints (omega arith);
      }
