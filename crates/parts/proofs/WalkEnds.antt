-- The walk over a granule of h for the granules of g that make it up: how it ends.
-- Assumes nothing.
use Rattle.std.specs.Prelude.{None, Option, Some}
use mathlib.Core.Path.{◌≡◌, sym, ◌∙◌, ap, subst}
use mathlib.Core.Logic.{inl, inr, ⊎_elim}
use mathlib.Core.Option.{some}
use mathlib.Core.Bool.{true, false}
use mathlib.Core.List.{List, ◌++◌, Memᴰ}
use Prim.Native.Nat.{ℕ}
use native.Mathlib.Omega.{arith}
use lib.IntN.{ℤ, pos, ◌+ℤ◌}
use lib.Signed.{◌≤ℤ◌, ◌<ℤ◌}
use lib.ListN.{length}
use Rattle.integers.proofs.Linear.{ints, ◌∴◌}
use Rattle.integers.proofs.Order.{≤ℤ-trans, ≤ℤ-antisym, <ℤ→≤ℤ, le-or-lt}
use Rattle.calendar.specs.Meaning.{Row, meant, Inside, Meets}
use Rattle.calendar.specs.Algebra.{Lists}
use Rattle.calendar.specs.Granules.{within, meeting}
use Rattle.calendar.specs.Questions.{made_up}
use Rattle.granules.specs.Valid.{Valid}
use Rattle.granules.proofs.Tests.{some_inj, none≢some, false-iff}
use Rattle.granules.proofs.Lists.{lists-unique, front_of}
use Rattle.granules.proofs.Inside.{within-lists, meeting-lists}
use Rattle.granules.proofs.Questions.{made_up-iff}
use Rattle.cursors.specs.declared.Cursor.{Cursor}
use Rattle.cursors.specs.Cursor.{cursor_at}
use Rattle.parts.specs.declared.Part.TheVariants.{Broken}
use Rattle.containment.specs.First.{FirstInstant}
use Rattle.parts.specs.Walk.{Nearest, PartAt, EndAt, PartsOf}
use Rattle.parts.proofs.Shown.{Shows}
use Rattle.parts.proofs.Walk.{Walk, has_part}

module _ {h g : Row} (v : Valid h) (w : Valid g) {z t : ℤ} (b : FirstInstant h z t) where
  -- an instant of the granule and one outside it have the same label in g
  apart : (x y k : ℤ) → meant h x ≡ some z → meant g x ≡ some k → (meant h y ≡ some z → ⊥) → meant g y ≡ some k → made_up h g z ≡ false
  apart x y k e f out l = (false-iff (made_up-iff h g v w z)).1 (λ m. let s = m x e in out (s.2 y (l ∙ ap some (some_inj (sym f ∙ s.1)))))

  module _ {n : ℕ} {p : List ℤ} {u u' : ℤ} {a d a' d' : Cursor} {count : ℕ} {o latest : ℤ} (c : Walk h g z t n p u a d count o latest)
      (next : a' ≡ cursor_at h u') (beside : d' ≡ cursor_at g u') (step : u' ≡ u +ℤ pos 1) where
    -- an instant of the latest part, where u' is not in the granule
    part-seen : (meant h u' ≡ some z → ⊥) → (x : ℤ) × (meant h x ≡ some z) × (x ≤ℤ u) × (meant g x ≡ some latest)
    part-seen f = (c.lists.member latest).1 (has_part v w b c next beside step f).0

    -- what was seen stands before the other granules that meet it
    seen_front : (n : List ℤ) × (meeting g h z ≡ c.seen ++ n)
    seen_front = front_of c.seen (meeting g h z) c.lists.rising all.rising inner outer
      where
        all : Lists (λ k. Meets (meant g) k (meant h) z) (meeting g h z)
        all = meeting-lists g h w v z

        inner : (k : ℤ) → Memᴰ k c.seen → Memᴰ k (meeting g h z)
        inner k m = let s = (c.lists.member k).1 m in (all.member k).0 (s.0, s.3, s.1)

        outer : (k j : ℤ) → Memᴰ k (meeting g h z) → Memᴰ j c.seen → k ≤ℤ j → Memᴰ k c.seen
        outer k j m n o =
            let s = (all.member k).1 m in
            let q = (c.lists.member j).1 n in
            ⊎_elim
            (λ (i : s.0 ≤ℤ u). (c.lists.member k).0 (s.0, s.2, i, s.1))
            (λ (i : u <ℤ s.0). rw (≤ℤ-antisym o (w.ordered q.0 s.0 j k (≤ℤ-trans q.2 (<ℤ→≤ℤ i)) q.3 s.1)) n)
            (le-or-lt s.0 u)

    incomplete : made_up h g z ≡ false → PartsOf h g z p None
    incomplete e = let n = seen_front in (e, (c.seen, n.0, n.1, c.shows))

    -- u' is in the granule and has no label in g, or that of an instant outside; or it is in a gap and in the latest part
    pub walk-broken : PartAt z (meant h u') (meant g u') o latest Broken → PartsOf h g z p None
    walk-broken (inl (e, inl f)) = incomplete ((false-iff (made_up-iff h g v w z)).1 (λ m. none≢some (sym f ∙ (m u' e).1)))
    walk-broken (inl (e, inr f)) = incomplete (apart u' c.outer.at o e f c.outer.out c.outer.label)
    walk-broken (inr (e, f)) =
        let out : meant h u' ≡ some z → ⊥ = λ y. none≢some (sym e ∙ y) in
        let s = part-seen out in
        incomplete (apart s.0 u' latest s.1 s.3 out f)

    -- another label of h shows: all instants of the granule are seen
    module _ (j : ℤ) (e : meant h u' ≡ some j) (other : j ≡ z → ⊥) where
      all_seen : (x : ℤ) → meant h x ≡ some z → x ≤ℤ u
      all_seen x p = ⊎_elim (λ (q : x ≤ℤ u). q) (λ (q : u <ℤ x). absurd (other (≤ℤ-antisym (v.ordered u' x j z (q ∴ step ∴ simp ints (omega arith)) e p) (v.ordered t u' z j (c.low ∴ step ∴ simp ints (omega arith)) b.label e)))) (le-or-lt x u)

      is-part : (x : ℤ) × (meant h x ≡ some z) × (x ≤ℤ u) × (meant g x ≡ some latest)
      is-part = part-seen (λ y. other (some_inj (sym e ∙ y)))

      -- the latest part goes on
      goes_on : Nearest false g u' latest → made_up h g z ≡ false
      goes_on l =
          let s = is-part in
          apart s.0 l.at latest s.1 s.3 (λ y. all_seen l.at y ∴ l.from ∴ step ∴ simp ints (omega arith)) l.label

      -- the latest part does not
      module _ (i : ℤ) (l : Nearest false g u' i) (past : i ≡ latest → ⊥) where
        inner : (k : ℤ) → Memᴰ k c.seen → Inside (meant g) k (meant h) z
        inner k m x y = ⊎_elim (λ (q : x ≤ℤ u). c.closed k m x q y) (λ (q : u <ℤ x). absurd (past (≤ℤ-antisym (few q) many))) (le-or-lt x u)
          where
            few : u <ℤ x → i ≤ℤ latest
            few q =
                l.nearest x k (q ∴ step ∴ simp ints (omega arith)) y
                ∴ (has_part v w b c next beside step (λ y. other (some_inj (sym e ∙ y)))).1 k m
                ∴ simp ints (omega arith)

            many : latest ≤ℤ i
            many = let s = is-part in w.ordered s.0 l.at latest i (s.2 ∴ l.from ∴ step ∴ simp ints (omega arith)) s.3 l.label

        made : made_up h g z ≡ true
        made = (made_up-iff h g v w z).1 (λ x p.
            let s = c.covered x p (all_seen x p) in
            (s.0, s.1, inner s.0 ((c.lists.member s.0).0 (x, p, all_seen x p, s.1))))

        parts : c.seen ≡ within g h z
        parts = lists-unique c.seen (within g h z)
            (record {
              rising = c.lists.rising;
              member = λ k. (
                λ s. (c.lists.member k).0 (s.0.0, s.1 s.0.0 s.0.1, all_seen s.0.0 (s.1 s.0.0 s.0.1), s.0.1),
                λ m. let s = (c.lists.member k).1 m in ((s.0, s.3), inner k m),
              );
            })
            (within-lists g h w v z)

      pub walk-ended : (x : Option ℕ) → EndAt g u' count latest x → PartsOf h g z p x
      walk-ended (Some m) (q, (i, l, past)) = (made i l past, (q ∙ c.count-is ∙ ap length (parts i l past), subst (λ (k : List ℤ). Shows p k) (parts i l past) c.shows))
      walk-ended None l = incomplete (goes_on l)
