-- The ends of alter's working row: the altered granules of a's first granule from 0 on and of its last one before 0.
-- Assumes nothing.
use mathlib.Core.Path.{◌≡◌, refl, sym, ◌∙◌, ap, subst}
use mathlib.Core.Logic.{◌⊎◌, inl, inr}
use mathlib.Core.Option.{Option, none, some}
use mathlib.Core.Bool.{◌&&◌}
use mathlib.Core.List.{List}
use Prim.Native.Nat.{◌≤◌}
use native.Mathlib.Omega.{arith}
use lib.IntN.{ℤ, pos, negsuc, ◌+ℤ◌, ◌-ℤ◌, ◌*ℤ◌}
use lib.Signed.{◌≤ℤ◌, ◌<ℤ◌}
use Rattle.integers.specs.Parts.{up}
use Rattle.integers.proofs.Linear.{ints, ◌∴◌}
use Rattle.integers.proofs.Order.{≤ℤ-antisym, le-or-lt}
use Rattle.calendar.specs.Meaning.{Row, meant}
use Rattle.calendar.specs.Operation.{Operation}
use Rattle.calendar.specs.Lists.{on_label}
use Rattle.calendar.specs.Size.{turn}
use Rattle.calendar.specs.Distance.{size}
use Rattle.calendar.specs.Checks.{labels_in_range}
use Rattle.calendar.specs.Limits.{pool_limit, in_range}
use Rattle.calendar.specs.Questions.{given}
use Rattle.calendar.specs.Compute.{altered, result, anchored}
use Rattle.granules.proofs.Tests.{none≢some, some_inj, and-iff, test-ext}
use Rattle.granules.proofs.Calendars.{label-moved}
use Rattle.algebra.specs.Ready.{Right}
use Rattle.algebra.proofs.Right.{right, size-dense}
use Rattle.cursors.specs.Found.{Sound}
use Rattle.cursors.proofs.Numbers.{numbers}
use Rattle.kinds.specs.declared.Alteration.{Alteration}
use Rattle.sizes.specs.Altered.{alter_distance}
use Rattle.alter_granules.specs.declared.Repeat.{Repeat}
use Rattle.alter_granules.specs.declared.origin.Labelled.{Labelled}
use Rattle.alter_granules.specs.Given.{altering, Alterable}
use Rattle.alter_granules.specs.Follows.{turn_fine, turn_coarse, Holds, Opens}
use Rattle.alter_granules.proofs.Tiled.{coarse-low, fine-low, altered-iff, holds-turn, holds-some}
use Rattle.alter_granules.proofs.Reach.{coarse-high}
use Rattle.fill_shared.proofs.Lasts.{anchored-label}
use Rattle.match_shared.specs.Ends.{FirstIn, LastBefore}
use Rattle.match_shared.proofs.Ends.{ends-decide}
use Rattle.alter_ends.specs.declared.Ends.{Ends}
use Rattle.alter_ends.specs.Ending.{turn_at, Turning, EndsOf}

result-is : (by : Alteration) (a b : Row) (t : ℤ) → result (altering by a b) t ≡ on_label (meant a t) (altered a b (up by.x) (up by.y) by.z)
unfolding result
result-is by a b t = refl

distance_is : (by : Alteration) (a b : Row) → (size (altering by a b)).distance ≡ alter_distance (turn a) (up (turn_coarse by a b)) (turn_fine by a b)
unfolding size alter_distance
distance_is by a b = refl

module _ (by : Alteration) (repeat : Repeat) (a b : Row) (g : Alterable by repeat a b) where
  abbrev o : Operation Row
  o = altering by a b

  is_right : Right o
  is_right = right o g.ready

  -- an instant is labelled where it is in a, by the altered granule of its fine one
  label-by : (t j i : ℤ) → meant a t ≡ some j → Holds by a b j i → result o t ≡ some i
  label-by t j i e h =
      result-is by a b t
      ∙ ap (λ (l : Option ℤ). on_label l (altered a b (up by.x) (up by.y) by.z)) e
      ∙ (altered-iff by a b (repeat, g) j i).1 h

  labelled-in : (t x : ℤ) → result o t ≡ some x → (j : ℤ) × (meant a t ≡ some j)
  labelled-in t x e = go (meant a t) refl
    where
      go : (l : Option ℤ) → meant a t ≡ l → (j : ℤ) × (meant a t ≡ some j)
      go none p = absurd (none≢some (sym (result-is by a b t ∙ ap (λ (l : Option ℤ). on_label l (altered a b (up by.x) (up by.y) by.z)) p) ∙ e))
      go (some j) p = (j, p)

  -- ---- the first label

  module _ (first : Labelled) (f : Opens a first) (i : ℤ) (h : Holds by a b first.j i) where
    first-label : result o first.t ≡ some i
    first-label = label-by first.t first.j i f.label h

    -- a turn before it there is a label too
    first-early : first.t <ℤ pos (size o).period
    first-early = go (le-or-lt (pos (size o).period) first.t)
      where
        go : (pos (size o).period ≤ℤ first.t) ⊎ (first.t <ℤ pos (size o).period) → first.t <ℤ pos (size o).period
        go (inl l) =
            let P = (size o).period in
            let N = (size o).distance in
            let e = label-moved (result o) P N is_right.repeats (negsuc 0) first.t i first-label in
            let u = first.t +ℤ pos P *ℤ negsuc 0 in
            let k = labelled-in u (i +ℤ pos N *ℤ negsuc 0) e in
            let m = f.is-first u k.0 (l ∴ simp ints (omega arith)) k.1 in
            let p = is_right.positive.0 in
            absurd (m ∴ p ∴ simp ints (omega arith))
        go (inr l) = l

    pub first-in : FirstIn o (pos 0) (pos (size o).period) first.t i
    first-in = record {
      within = (f.low, first-early);
      label = first-label;
      is-first = λ t x low high e. let k = labelled-in t x e in f.is-first t k.0 low k.1;
    }

  -- ---- the last one before 0

  -- a's last labelled instant before 0
  abbrev pub at_last : ℤ
  at_last = (anchored-label a (negsuc 0) g.ready.valid.0).0

  abbrev pub last-label : ℤ
  last-label = anchored a (negsuc 0)

  last-before : (i : ℤ) → Holds by a b last-label i → LastBefore o at_last i
  last-before i h =
      let l = anchored-label a (negsuc 0) g.ready.valid.0 in
      record {
        before = l.1 ∴ simp ints (omega arith);
        label = label-by l.0 last-label i l.2 h;
        is_last = λ t x low e. go t (labelled-in t x e) low (le-or-lt t l.0);
      }
    where
      go : (t : ℤ) → (j : ℤ) × (meant a t ≡ some j) → t <ℤ pos 0 → (t ≤ℤ at_last) ⊎ (at_last <ℤ t) → t ≤ℤ at_last
      go t k low (inl m) = m
      go t k low (inr m) = absurd (none≢some (sym ((anchored-label a (negsuc 0) g.ready.valid.0).3 t m (low ∴ simp ints (omega arith))) ∙ k.1))

  module _ (first : Labelled) (f : Opens a first) where
    -- its granule is not behind the first one from 0 on, and as a is full at most one before it
    last-high : last-label ≤ℤ first.j
    last-high =
        let l = anchored-label a (negsuc 0) g.ready.valid.0 in
        g.ready.valid.0.ordered l.0 first.t last-label first.j (l.1 ∴ f.low ∴ simp ints (omega arith)) l.2 f.label

    last-low : (first.j -ℤ pos 1) ≤ℤ last-label
    last-low = let k = g.ready.full.0 (first.j -ℤ pos 1) in go k.0 k.1 (le-or-lt (pos 0) k.0)
      where
        go : (u : ℤ) → meant a u ≡ some (first.j -ℤ pos 1) → (pos 0 ≤ℤ u) ⊎ (u <ℤ pos 0) → (first.j -ℤ pos 1) ≤ℤ last-label
        go u e (inl h) =
            let m = g.ready.valid.0.ordered first.t u first.j (first.j -ℤ pos 1) (f.is-first u (first.j -ℤ pos 1) h e) f.label e in
            absurd (m ∴ simp ints (omega arith))
        go u e (inr h) =
            let l = anchored-label a (negsuc 0) g.ready.valid.0 in
            let n = label-by u (first.j -ℤ pos 1) _ e (holds-some by a b (repeat, g) (first.j -ℤ pos 1)).1 in
            let s = (last-before _ (holds-some by a b (repeat, g) last-label).1).is_last u _ h n in
            g.ready.valid.0.ordered u l.0 (first.j -ℤ pos 1) last-label s e l.2

    -- it is the same granule
    pub last-same : first.j ≤ℤ last-label → (i : ℤ) → Holds by a b first.j i → LastBefore o at_last i
    last-same h i k = last-before i (subst (λ (j : ℤ). Holds by a b j i) (≤ℤ-antisym h last-high) k)

    -- it is the one before, and m has the one D fine granules on
    pub last-other : last-label <ℤ first.j → (m : ℤ) → Holds by a b (first.j +ℤ repeat.fine -ℤ pos 1) m → LastBefore o at_last (m -ℤ repeat.coarse)
    last-other h m k =
        let D = turn_fine by a b in
        let n = turn_coarse by a b in
        let s = holds-some by a b (repeat, g) last-label in
        let t = holds-turn by a b (repeat, g) last-label s.0 s.1 in
        let same : last-label +ℤ D ≡ first.j +ℤ repeat.fine -ℤ pos 1 = last-low ∴ h ∴ g.fine ∴ simp ints (omega arith) in
        let e =
        sym ((altered-iff by a b (repeat, g) (last-label +ℤ D) (s.0 +ℤ n)).1 t)
        ∙ (altered-iff by a b (repeat, g) (last-label +ℤ D) m).1 (subst (λ (j : ℤ). Holds by a b j m) (sym same) k) in
        last-before (m -ℤ repeat.coarse) (subst (Holds by a b last-label) (some_inj e ∴ g.coarse ∴ simp ints (omega arith)) s.1)

-- ---- the distance

module _ (by : Alteration) (repeat : Repeat) (p n : ℤ) (l : List ℤ) (q m : ℤ) (k : List ℤ) (sa : Sound p n l) (sb : Sound q m k) (g : Alterable by repeat (given p n l) (given q m k)) where
  pub rises : alter_distance (turn_at p n) (up repeat.coarse) repeat.fine ≡ (size (altering by (given p n l) (given q m k))).distance
  rises = rw (g.coarse, g.fine) (sym (distance_is by (given p n l) (given q m k)))

  pub turning : (size (altering by (given p n l) (given q m k))).period ≤ pool_limit → Turning p n repeat
  turning few =
      let x = numbers p n l sa in
      let y = numbers q m k sb in
      let c = coarse-low by (given p n l) (given q m k) (repeat, g) in
      let f = fine-low by (given p n l) (given q m k) (repeat, g) in
      record {
        distance-low = x.distance_is ∴ x.low ∴ simp ints (omega arith);
        dense = x.distance_is ∴ x.period-is ∴ x.middle ∴ simp ints (omega arith);
        period-high = x.period-is ∴ x.high ∴ simp ints (omega arith);
        coarse-low = c ∴ g.coarse ∴ simp ints (omega arith);
        coarse-high = coarse-high by (given p n l) (given q m k) (repeat, g) x.middle y.middle ∴ g.coarse ∴ simp ints (omega arith);
        fine-low = c ∴ f ∴ g.fine ∴ simp ints (omega arith);
        few = omega (arith, rises, size-dense (altering by (given p n l) (given q m k)) g.ready (x.middle, y.middle));
      }

-- ---- check 11

pub limits_of : (o : Operation Row) → Right o → (r : Ends) → EndsOf o r → labels_in_range o ≡ in_range r.first && in_range r.last
limits_of o h r e =
    let i = ends-decide o h e.first-at r.first e.last-at (r.last -ℤ pos (size o).distance) e.is-first e.is_last in
    let k : r.last -ℤ pos (size o).distance +ℤ pos (size o).distance ≡ r.last = simp ints (omega arith) in
    test-ext
    (λ t. let x = i.0 t in (and-iff (in_range r.first) (in_range r.last)).1 (x.0, sym (ap in_range k) ∙ x.1))
    (λ t. let x = (and-iff (in_range r.first) (in_range r.last)).0 t in i.1 (x.0, ap in_range k ∙ x.1))
