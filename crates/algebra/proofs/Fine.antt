-- The fine granules of a coarse one. Each granule of a lies in one of b, the same instants are labelled in both, and both are full.
--     Labels of b never fall as labels of a rise: two instants of one granule of a are in one granule of b, and instants of two granules of a are
--     ordered as these.
--     So the granules of a that meet the granule i of b are all from the first p(i) to the last q(i) of them, and lie in it: a label between the two
--     is a label of a, as a is full, and its instants have a label of b that is i at least and at most.
--     And p(i + 1) is q(i) + 1: the label q(i) + 1 is in a granule of b that is behind i, and not behind i + 1, or p(i + 1) would be.
use mathlib.Core.Path.{◌≡◌, refl, sym, ◌∙◌, ap}
use mathlib.Core.Logic.{◌⊎◌, inl, inr}
use mathlib.Core.Option.{Option, some}
use mathlib.Core.List.Memᴰ
use mathlib.Core.List.{List, [], ◌∷◌, Memᴰ}
use Prim.Native.Nat.{ℕ, ◌/◌}
use native.Mathlib.Omega.{arith}
use lib.IntN.{ℤ, pos, ◌+ℤ◌}
use lib.Signed.{◌≤ℤ◌, ◌<ℤ◌}
use Rattle.integers.proofs.Linear.{ints, ◌∴◌}
use Rattle.integers.proofs.Order.{Cases, below, equal, above, cases, le-or-lt, ≤ℤ-antisym}
use Rattle.calendar.specs.Meaning.{Row, Calendar, meant, Has, Full, Meets, Ordered}
use Rattle.calendar.specs.Algebra.{Spans, Partition}
use Rattle.calendar.specs.Lists.{first, last}
use Rattle.calendar.specs.Granules.{meeting}
use Rattle.calendar.specs.Size.{turn, span_of, rise}
use Rattle.granules.specs.Valid.{Valid}
use Rattle.granules.proofs.Tests.{some_inj}
use Rattle.granules.proofs.Lists.{first-least, last-greatest, moved}
use Rattle.granules.proofs.Inside.{meeting-lists}
use Rattle.granules.proofs.Moved.{meeting-periods}
use Rattle.algebra.proofs.Span.{span_left, span_right}

-- p(i) and q(i): the first and the last granule of a that meets the granule i of b
abbrev pub low : Row → Row → ℤ → ℤ
low a b i = first (meeting a b i)

abbrev pub high : Row → Row → ℤ → ℤ
high a b i = last (meeting a b i)

-- A and B: how far b's and a's labels rise over the span
abbrev pub rise_coarse : Row → Row → ℕ
rise_coarse a b = rise (turn b) (span_of (turn a) (turn b))

abbrev pub rise_fine : Row → Row → ℕ
rise_fine a b = rise (turn a) (span_of (turn a) (turn b))

-- ---- over calendars

-- b's granule i is a's granules p to q for at most one p and q
pub spans-unique : (a b : Calendar) → Full a → (i p q p' q' : ℤ) → Spans a b i p q → Spans a b i p' q' → (p ≡ p') × (q ≡ q')
spans-unique a b full i p q p' q' s t =
    let x = half p q p' q' s t in
    let y = half p' q' p q t s in
    (≤ℤ-antisym y.0 x.0, ≤ℤ-antisym x.1 y.1)
  where
    -- a label that is in the one is in the other
    into : (p q p' q' : ℤ) → Spans a b i p q → Spans a b i p' q' → (j : ℤ) → p ≤ℤ j → j ≤ℤ q → (p' ≤ℤ j) × (j ≤ℤ q')
    into p q p' q' s t j h k =
        let u = full j in
        let m = (t.1 u.0).0 ((s.1 u.0).1 (j, u.1, h, k)) in
        let e : m.0 ≡ j = some_inj (sym m.1 ∙ u.1) in
        (e ∴ m.2 ∴ simp ints (omega arith), e ∴ m.3 ∴ simp ints (omega arith))

    half : (p q p' q' : ℤ) → Spans a b i p q → Spans a b i p' q' → (p' ≤ℤ p) × (q ≤ℤ q')
    half p q p' q' s t = ((into p q p' q' s t p (simp ints (omega arith)) s.0).0, (into p q p' q' s t q s.0 (simp ints (omega arith))).1)

-- labels of b never fall as labels of a rise
pub coarse-ordered : (a b : Calendar) → Ordered a → Ordered b → Partition a b → (u v j k i m : ℤ)
    → a u ≡ some j → a v ≡ some k → b u ≡ some i → b v ≡ some m → j ≤ℤ k → i ≤ℤ m
coarse-ordered a b ordered-a ordered-b part u v j k i m au av bu bv h = by (cases j k)
  where
    by : Cases j k → i ≤ℤ m
    by (below l) = later (le-or-lt u v)
      where
        later : (u ≤ℤ v) ⊎ (v <ℤ u) → i ≤ℤ m
        later (inl g) = ordered-b u v i m g bu bv
        later (inr g) = absurd (ordered-a v u k j (g ∴ simp ints (omega arith)) av au ∴ l ∴ simp ints (omega arith))
    by (equal e) =
        let o = part.holder j (u, au) in
        let x : o.0 ≡ i = some_inj (sym (o.1 u au) ∙ bu) in
        let y : o.0 ≡ m = some_inj (sym (o.1 v (av ∙ ap {B = Option ℤ} some (sym e))) ∙ bv) in
        x ∴ y ∴ simp ints (omega arith)
    by (above l) = absurd (h ∴ l ∴ simp ints (omega arith))

-- ---- over rows

first-moved : (k j : ℤ) (l : List ℤ) → Memᴰ j l → first (moved k l) ≡ first l +ℤ k
first-moved k j [] m = absurd (Memᴰ.not-nil m)
first-moved k j (x ∷ l) m = refl

last-moved : (k j : ℤ) (l : List ℤ) → Memᴰ j l → last (moved k l) ≡ last l +ℤ k
last-moved k j [] m = absurd (Memᴰ.not-nil m)
last-moved k j (x ∷ []) m = refl
last-moved k j (x ∷ y ∷ l) m = last-moved k y (y ∷ l) (Memᴰ.head refl)

-- what is known of the operands of alter once they are full and aligned
pub record Partitioned (a b : Row) : Type 0 where
  pub valid : Valid a × Valid b
  pub full : Full (meant a) × Full (meant b)
  pub partition : Partition (meant a) (meant b)

module _ (a b : Row) (known : Partitioned a b) where
  -- some granule of a meets the granule i of b
  meets-some : (i : ℤ) → (j : ℤ) × Memᴰ j (meeting a b i)
  meets-some i =
      let u = known.full.1 i in
      let j = (known.partition.labelled u.0).1 (i, u.1) in
      (j.0, ((meeting-lists a b known.valid.0 known.valid.1 i).member j.0).0 (u.0, j.1, u.1))

  low_meets : (i : ℤ) → Meets (meant a) (low a b i) (meant b) i
  low_meets i =
      let m = meets-some i in
      let s = meeting-lists a b known.valid.0 known.valid.1 i in
      (s.member (low a b i)).1 (first-least m.0 (meeting a b i) s.rising m.1).0

  high-meets : (i : ℤ) → Meets (meant a) (high a b i) (meant b) i
  high-meets i =
      let m = meets-some i in
      let s = meeting-lists a b known.valid.0 known.valid.1 i in
      (s.member (high a b i)).1 (last-greatest m.0 (meeting a b i) s.rising m.1).0

  -- what meets it is between the two
  between : (i j : ℤ) → Meets (meant a) j (meant b) i → (low a b i ≤ℤ j) × (j ≤ℤ high a b i)
  between i j h =
      let s = meeting-lists a b known.valid.0 known.valid.1 i in
      let m = (s.member j).0 h in
      ((first-least j (meeting a b i) s.rising m).1, (last-greatest j (meeting a b i) s.rising m).1)

  -- labels of b never fall as labels of a rise
  along : (u v j k i m : ℤ) → meant a u ≡ some j → meant a v ≡ some k → meant b u ≡ some i → meant b v ≡ some m → j ≤ℤ k → i ≤ℤ m
  along = coarse-ordered (meant a) (meant b) known.valid.0.ordered known.valid.1.ordered known.partition

  -- b's granule i is a's granules p(i) to q(i)
  pub low-spans : (i : ℤ) → Spans (meant a) (meant b) i (low a b i) (high a b i)
  low-spans i = (
    low-high,
    λ u. (
      λ e. let j = (known.partition.labelled u).1 (i, e) in
          let h = between i j.0 (u, j.1, e) in
          (j.0, j.1, h.0, h.1),
      λ h. same u h.0 h.1 h.2 h.3 ((known.partition.labelled u).0 (h.0, h.1)),
    ),
  )
    where
      low-high : low a b i ≤ℤ high a b i
      low-high = (between i (low a b i) (low_meets i)).1

      same : (u j : ℤ) → meant a u ≡ some j → low a b i ≤ℤ j → j ≤ℤ high a b i → (k : ℤ) × (meant b u ≡ some k) → meant b u ≡ some i
      same u j e h g k =
          let p = low_meets i in
          let q = high-meets i in
          let x = along p.0 u (low a b i) j i k.0 p.1 e p.2 k.1 h in
          let y = along u q.0 j (high a b i) k.0 i e q.1 k.1 q.2 g in
          k.1 ∙ ap {B = Option ℤ} some (≤ℤ-antisym y x)

  -- p(i + 1) is q(i) + 1
  pub low-next : (i : ℤ) → low a b (i +ℤ pos 1) ≡ high a b i +ℤ pos 1
  low-next i = ≤ℤ-antisym (at-most ((known.partition.labelled u.0).0 (Q, u.1))) at-least
    where
      Q : ℤ
      Q = high a b i +ℤ pos 1

      u : Has (meant a) Q
      u = known.full.0 Q

      at-least : (high a b i +ℤ pos 1) ≤ℤ low a b (i +ℤ pos 1)
      at-least = by (le-or-lt (low a b (i +ℤ pos 1)) (high a b i))
        where
          by : (low a b (i +ℤ pos 1) ≤ℤ high a b i) ⊎ (high a b i <ℤ low a b (i +ℤ pos 1)) → (high a b i +ℤ pos 1) ≤ℤ low a b (i +ℤ pos 1)
          by (inl h) =
              let p = low_meets (i +ℤ pos 1) in
              let q = high-meets i in
              absurd (along p.0 q.0 (low a b (i +ℤ pos 1)) (high a b i) (i +ℤ pos 1) i p.1 q.1 p.2 q.2 h ∴ simp ints (omega arith))
          by (inr h) = h ∴ simp ints (omega arith)

      at-most : (k : ℤ) × (meant b u.0 ≡ some k) → low a b (i +ℤ pos 1) ≤ℤ (high a b i +ℤ pos 1)
      at-most (m, e) =
          let p = low_meets (i +ℤ pos 1) in
          let q = high-meets i in
          let x = along q.0 u.0 (high a b i) Q i m q.1 u.1 q.2 e (simp ints (omega arith)) in
          let y = along u.0 p.0 Q (low a b (i +ℤ pos 1)) m (i +ℤ pos 1) u.1 p.1 e p.2 at-least in
          by (cases m i) x y
        where
          by : Cases m i → i ≤ℤ m → m ≤ℤ (i +ℤ pos 1) → low a b (i +ℤ pos 1) ≤ℤ (high a b i +ℤ pos 1)
          by (below l) x y = absurd (l ∴ x ∴ simp ints (omega arith))
          by (equal l) x y = absurd ((between i Q (u.0, u.1, e ∙ ap {B = Option ℤ} some l)).1 ∴ simp ints (omega arith))
          by (above l) x y = (between (i +ℤ pos 1) Q (u.0, u.1, e ∙ ap {B = Option ℤ} some (l ∴ y ∴ simp ints (omega arith)))).0

  -- over the span b's labels rise by A and a's by B: so p(i + A) is p(i) + B, and q(i + A) is q(i) + B
  meeting-turn : (i : ℤ) → meeting a b (i +ℤ pos (rise_coarse a b)) ≡ moved (pos (rise_fine a b)) (meeting a b i)
  meeting-turn =
      let s = span_of (turn a) (turn b) in
      let v = known.valid.0 in
      let w = known.valid.1 in
      meeting-periods a b v w (s / a.period) (s / b.period) (span_left a b v w ∙ sym (span_right a b v w))

  pub low_turn : (i : ℤ) → low a b (i +ℤ pos (rise_coarse a b)) ≡ low a b i +ℤ pos (rise_fine a b)
  low_turn i =
      let m = meets-some i in
      ap first (meeting-turn i) ∙ first-moved (pos (rise_fine a b)) m.0 (meeting a b i) m.1

  pub high-turn : (i : ℤ) → high a b (i +ℤ pos (rise_coarse a b)) ≡ high a b i +ℤ pos (rise_fine a b)
  high-turn i =
      let m = meets-some i in
      ap last (meeting-turn i) ∙ last-moved (pos (rise_fine a b)) m.0 (meeting a b i) m.1
