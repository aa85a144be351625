-- The loop that compares a claimed row with the altered granules: what holds between two stretches, what a step is given, and the end.
-- Assumes nothing.
use Rattle.calendar.specs.declared.Refusal.TheVariants.{LabelOutsideLimits}
use Rattle.std.specs.Prelude.{Err, Ok}
use mathlib.Core.Path.{◌≡◌, refl, sym, ◌∙◌, ap}
use mathlib.Core.Option.{none, some}
use mathlib.Core.Bool.{Bool, true, false}
use Prim.Native.Nat.{ℕ, ◌≤◌, ◌<◌}
use native.Mathlib.Omega.{arith}
use lib.IntN.{ℤ, pos, ◌-ℤ◌}
use lib.Signed.{◌≤ℤ◌}
use Rattle.integers.proofs.Linear.{ints, ◌∴◌}
use Rattle.calendar.specs.Limits.{pool_limit, in_range}
use Rattle.calendar.specs.Meaning.{Row, meant}
use Rattle.calendar.specs.Operation.{Operation}
use Rattle.calendar.specs.Distance.{size}
use Rattle.calendar.specs.Compute.{result}
use Rattle.calendar.specs.Checks.{labels_in_range}
use Rattle.granules.proofs.Tests.{true≢false, false-iff}
use Rattle.algebra.proofs.Working.{labels-in-range, in_range-iff}
use Rattle.cursors.specs.Cursor.{cursor_at}
use Rattle.kinds.specs.declared.Alteration.{Alteration}
use Rattle.alter_granules.specs.declared.Repeat.{Repeat}
use Rattle.alter_granules.specs.Given.{altering, Alterable}
use Rattle.alter_granules.specs.Follows.{Follows, Starts}
use Rattle.alter_granules.proofs.Followed.{follows-start, follows-later, seeks, place-behind}
use Rattle.fill_alter.proofs.Scans.{Found, both, label_of, found-walk, found-label, found_as}
use Rattle.match_shared.specs.Matching.{agree, matched_as}
use Rattle.match_shared.proofs.RightRow.{agree-iff}
use Rattle.match_stretches.specs.declared.Compared.{Compared}
use Rattle.match_stretches.specs.Stretch.{Stretched, Led}
use Rattle.match_stretches.proofs.Stages.{Stage, stage-led, stage-next}
use Rattle.match_stretches.proofs.Stretching.{stretch-on}
use Rattle.match_alter.specs.declared.Scan.{Scan}
use Rattle.match_alter.specs.Scanning.{origin, instant_of, FoundAhead, Seeking, FoundBehind}
use Rattle.match_alter.proofs.Claims.{labelled_by, some-labelled, found-claim}

-- the instants up to p are compared, and the walk and the place behind are those of p
pub record Scanned (by : Alteration) (repeat : Repeat) (a b r : Row) (period : ℕ) (s : Scan) (p : Compared) : Type 0 where
  pub labelled : Bool
  pub stage : Stage (altering by a b) a r period labelled p
  pub follows : Follows by repeat a b p.t (both s.walk (instant_of s.place))
  pub claim : s.place.claim ≡ cursor_at r (pos s.place.index)

-- ---- the answers

module _ (by : Alteration) (repeat : Repeat) (a b r : Row) (g : Alterable by repeat a b) where
  abbrev o : Operation Row
  o = altering by a b

  pub out_of_range : labels_in_range o ≡ false → (Err LabelOutsideLimits) ≡ matched_as o r
  out_of_range e = rw (some-labelled by repeat a b g, e)

  module _ (i : labels_in_range o ≡ true) where
    pub is_same : agree o r (size o).period ≡ true → (Ok true) ≡ matched_as o r
    is_same e = rw (some-labelled by repeat a b g, i, e)

    pub is-different : agree o r (size o).period ≡ false → (Ok false) ≡ matched_as o r
    is-different e = rw (some-labelled by repeat a b g, i, e)

-- a difference stays one
agree_less : (o : Operation Row) (r : Row) (n m : ℕ) → n ≤ m → agree o r n ≡ false → agree o r m ≡ false
agree_less o r n m h e =
    (false-iff (agree-iff o r m)).1 (λ f. true≢false ((agree-iff o r n).1 (λ t low high. f t low (h ∴ high ∴ simp ints (omega arith)))) e)

module _ (by : Alteration) (repeat : Repeat) (a b r : Row) (period : ℕ) (g : Alterable by repeat a b)
    (is-period : period ≡ (size (altering by a b)).period) (in-range : labels_in_range (altering by a b) ≡ true) where
  -- an instant that has no label in a gets none
  unlabelled-there : (u : ℕ) → meant a (pos u) ≡ none → none ≡ result (altering by a b) (pos u)
  unlabelled-there u e = label_of by a b (pos u) none e

  -- before the first stretch
  pub scanned-led : (s : Scan) (q : Compared) → Led a r period q → Starts by a b s.walk → s.place ≡ origin
      → origin.cursor ≡ cursor_at a (pos 0) → origin.claim ≡ cursor_at r (pos 0) → Scanned by repeat a b r period s q
  scanned-led s q x w p c d = record {
    labelled = false;
    stage = stage-led (altering by a b) a r period is-period unlabelled-there q x;
    follows = follows-later by repeat a b 0 q.t _ (omega arith) (rw p (follows-start by repeat a b g s.walk origin.cursor w c));
    claim = rw p d;
  }

  module _ (s : Scan) (p : Compared) (h : Scanned by repeat a b r period s p) where
    -- the end
    pub scanned-done : period ≤ p.t → (p.same ≡ true → (Ok true) ≡ matched_as (altering by a b) r) × (p.same ≡ false → (Ok false) ≡ matched_as (altering by a b) r)
    scanned-done m =
        let k : p.t ≡ (size (altering by a b)).period = omega (arith, h.stage.seen.at-most) in
        let e = h.stage.seen.is_same ∙ ap (agree (altering by a b) r) k in
        (λ f. is_same by repeat a b r g in-range (sym e ∙ f), λ f. is-different by repeat a b r g in-range (sym e ∙ f))

    -- a difference
    pub scanned-other : p.same ≡ false → (Ok false) ≡ matched_as (altering by a b) r
    scanned-other f =
        is-different by repeat a b r g in-range
        (agree_less (altering by a b) r p.t (size (altering by a b)).period h.stage.seen.at-most (sym h.stage.seen.is_same ∙ f))

    module _ (m : p.t < period) (j : ℤ) (e : meant a (pos p.t) ≡ some j) where
      early : p.t < (size (altering by a b)).period
      early = omega arith

      -- behind the stretch of the number that is found
      module _ (t : Scan) (f : Found by repeat a b p.t j t.walk (instant_of t.place) t.number t.high) (q : Compared) (x : Stretched (some t.number) t.high a r period p q) where
        pub found-on : p.t < q.t
        found-on = stretch-on (some t.number) t.high a r period p q x j e f.reaches m

        number_in : in_range t.number ≡ true
        number_in =
            let l = found-label by repeat a b p.t s.walk (instant_of s.place) j g h.follows e t.walk (instant_of t.place) t.number t.high f in
            (in_range-iff t.number).1 (labels-in-range (altering by a b) in-range (pos p.t) (simp ints (omega arith)) (early ∴ simp ints (omega arith)) t.number (sym l))

        pub scanned-next : t.place.claim ≡ cursor_at r (pos t.place.index) → Scanned by repeat a b r period t q
        scanned-next c = record {
          labelled = _;
          stage = stage-next (altering by a b) a r period is-period unlabelled-there h.labelled p h.stage m (some t.number) number_in t.high q x found-on
              (λ u l k d v. sym (f.numbers l (g.ready.valid.0.ordered (pos p.t) (pos u) j l (simp ints (omega arith)) e v) (x.passed.below u l k d v)) ∙ label_of by a b (pos u) (some l) v);
          follows = follows-later by repeat a b p.t q.t (both t.walk (instant_of t.place)) x.passed.on f.follows;
          claim = c;
        }

      -- the granule by the walk over b
      pub scanned-ahead : (t : Scan) → FoundAhead by a b j s t → Found by repeat a b p.t j t.walk (instant_of t.place) t.number t.high × (t.place.claim ≡ cursor_at r (pos t.place.index))
      scanned-ahead t f = (
        found_as refl (ap instant_of f.place) f.number f.high
            (found-walk by repeat a b p.t s.walk (instant_of s.place) j g h.follows e t.walk f.walk f.holds f.end),
        rw f.place h.claim,
      )

      -- the granule by the claimed row
      module _ (past : s.walk.end ≤ℤ j) (same : p.same ≡ true) (few : period ≤ pool_limit) where
        -- its label at an instant before is that of the result
        agrees : (u : ℕ) → u < p.t → meant r (pos u) ≡ result (altering by a b) (pos u)
        agrees u l = (agree-iff (altering by a b) r p.t).0 (sym h.stage.seen.is_same ∙ same) (pos u) (simp ints (omega arith)) (simp ints (omega arith))

        pub scanned-seeks : Seeking a r (j -ℤ repeat.fine) s.place
        scanned-seeks = record {
          seeks = seeks by repeat a b g p.t (both s.walk (instant_of s.place)) h.follows j e past (omega arith);
          claim = h.claim;
        }

        -- the granule D before is before
        before : (u : ℕ) → meant a (pos u) ≡ some (j -ℤ repeat.fine) → u < p.t
        before u l = place-behind by repeat a b g p.t (both s.walk (instant_of s.place)) h.follows j e past (record { index = u; cursor = cursor_at a (pos u) }) refl l

        pub scanned-reads : (u : ℕ) → meant a (pos u) ≡ some (j -ℤ repeat.fine) → (i : ℤ) × (meant r (pos u) ≡ some i)
        scanned-reads u l = let k = labelled_by by repeat a b g (pos u) (j -ℤ repeat.fine) l in (k.0, agrees u (before u l) ∙ k.1)

        pub scanned-behind : (t : Scan) → FoundBehind repeat a r j s t → Found by repeat a b p.t j t.walk (instant_of t.place) t.number t.high × (t.place.claim ≡ cursor_at r (pos t.place.index))
        scanned-behind t f =
            let q = f.sought in
            let u = t.place.index in (
              found_as f.walk refl f.number f.high
                  (found-claim by repeat a b g p.t s.walk (instant_of s.place) j h.follows e past (instant_of t.place) q.cursor q.label f.label
                  (sym (agrees u (before u q.label)) ∙ f.read)),
              q.claim,
            )
