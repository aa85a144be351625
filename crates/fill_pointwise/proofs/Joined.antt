-- A set operation over all pieces: the cells and counts of a piece join those before, and behind the last one the working row is filled.
-- Assumes nothing.
use Rattle.calendar.specs.declared.Refusal.TheVariants.{NothingLabelled, LabelOutsideLimits}
use Rattle.calendar.specs.declared.Refusal.{Refusal}
use Rattle.std.specs.Prelude.{Err, Ok, Result, ⊤}
use mathlib.Core.Path.{◌≡◌, refl, sym, ◌∙◌, ap, ap₂, subst}
use mathlib.Core.Logic.{⊎_elim}
use mathlib.Core.Option.{Option, none, some}
use mathlib.Core.Bool.{Bool, true, false, not, cond, ◌||◌}
use mathlib.Core.List.{List}
use Prim.Native.Nat.{ℕ, zero, suc, ◌+◌, ◌-◌, ◌≤◌, ◌<◌}
use native.Mathlib.Numerals.{add-one}
use native.Mathlib.Omega.{arith}
use lib.Dec.{ltb}
use lib.IntN.{ℤ, pos}
use lib.ListN.{get_or, set}
use Rattle.integers.specs.Parts.{up}
use Rattle.integers.proofs.Linear.{ints}
use Rattle.calendar.specs.Meaning.{Row, meant, label_of, raise, empty}
use Rattle.calendar.specs.Operation.{Operation}
use Rattle.calendar.specs.Lists.{is_some, if_label}
use Rattle.calendar.specs.Distance.{size}
use Rattle.calendar.specs.Compute.{result, cell_of}
use Rattle.calendar.specs.Limits.{in_range, pool_limit}
use Rattle.calendar.specs.Sound.{sound}
use Rattle.granules.proofs.Tests.{true≢false, ltb_iff, false-iff, not_iff, decided}
use Rattle.cursors.specs.Found.{Within}
use Rattle.cursors.proofs.Bounds.{cell-bound}
use Rattle.pieces.specs.declared.Place.{Place}
use Rattle.pieces.specs.Places.{Stands, place_from, place_on}
use Rattle.pieces.proofs.Places.{place-label, place-rise, place-moved}
use Rattle.one_cell.proofs.Pools.{cell_in}
use Rattle.kinds.specs.declared.Kind.{Kind}
use Rattle.kinds.specs.declared.Kind.TheVariants.{ByLabels}
use Rattle.kinds.specs.declared.SetOperation.{SetOperation}
use Rattle.kinds.specs.Operations.{operation_of}
use Rattle.fill_shared.specs.Placed.{Fills}
use Rattle.fill_shared.proofs.Working.{out_of_range, filled-out}
use Rattle.fill_shared.proofs.Filling.{Lent, Filling, row_of, filling-more, filling-done}
use Rattle.fill_pointwise.specs.declared.Pointwise.TheVariants as Pointwise
use Rattle.fill_pointwise.specs.Decided.{set_label}
use Rattle.fill_pointwise.specs.Pieces.{is_outside, label_cells, label_count, place_label, piece_label, PlaceRoom, PieceRoom}
use Rattle.fill_pointwise.proofs.Labels.{decided-is}
use Rattle.fill_pointwise.proofs.Pieces.{cells-length, cells-below, cells-take, count-few}

-- ---- the cells and the counts of a piece join those before

module _ (R l : ℕ → Option ℤ) (t : ℕ) where
  pub cells-join : (at : ℕ) (old : List ℤ) (n : ℕ) → ((i : ℕ) → i < n → l i ≡ R (t + i)) → label_cells l (at + t) n (label_cells R at t old) ≡ label_cells R at (t + n) old
  cells-join at old zero h = let q : t ≡ t + 0 = omega arith in ap (λ (m : ℕ). label_cells R at m old) q
  cells-join at old (suc n) h =
      let e : at + t + n ≡ at + (t + n) = omega arith in
      let q : suc (t + n) ≡ t + suc n = omega arith in
      ap₂ (λ (p : List ℤ) (k : ℕ). set p k (cell_of (l n))) (cells-join at old n (λ i m. h i (omega arith))) e
      ∙ ap (λ (y : Option ℤ). set (label_cells R at (t + n) old) (at + (t + n)) (cell_of y)) (h n (omega arith))
      ∙ ap (λ (m : ℕ). label_cells R at m old) q

  pub count-join : (f : Option ℤ → Bool) (n : ℕ) → ((i : ℕ) → i < n → l i ≡ R (t + i)) → label_count f R t + label_count f l n ≡ label_count f R (t + n)
  count-join f zero h =
      let q : t ≡ t + 0 = omega arith in
      let z : label_count f R t + 0 ≡ label_count f R t = omega arith in
      z ∙ ap (label_count f R) q
  count-join f (suc n) h =
      let q : suc (t + n) ≡ t + suc n = omega arith in
      let e = count-join f n (λ i m. h i (omega arith)) in
      sum (label_count f R t) (label_count f l n) (cond (f (l n)) 1 0)
      ∙ ap₂ (λ (m k : ℕ). m + k) e (ap (λ (y : Option ℤ). cond {A = ℕ} (f y) 1 0) (h n (omega arith)))
      ∙ ap (label_count f R) q
    where
      sum : (x y z : ℕ) → x + (y + z) ≡ x + y + z
      sum x y z = omega arith

-- no label passes the test exactly if none is counted
module _ (f : Option ℤ → Bool) (R : ℕ → Option ℤ) where
  pub count_none : (n : ℕ) → label_count f R n ≡ 0 → (u : ℕ) → u < n → f (R u) ≡ false
  count_none zero e u h = absurd (omega arith)
  count_none (suc n) e u h =
      ⊎_elim (λ m. count_none n (omega arith) u m) (λ m. let q : u ≡ n = omega arith in ap (λ (i : ℕ). f (R i)) q ∙ by (f (R n)) e) (decided (ltb_iff u n))
    where
      by : (b : Bool) → label_count f R n + cond b 1 0 ≡ 0 → b ≡ false
      by true g = absurd (omega arith)
      by false g = refl

  pub count-some : (n : ℕ) → 0 < label_count f R n → (u : ℕ) × (u < n) × (f (R u) ≡ true)
  count-some zero h = absurd (omega arith)
  count-some (suc n) h = by (f (R n)) refl h (count-some n)
    where
      by : (b : Bool) → f (R n) ≡ b → 0 < label_count f R n + cond b 1 0 → (0 < label_count f R n → (u : ℕ) × (u < n) × (f (R u) ≡ true)) → (u : ℕ) × (u < suc n) × (f (R u) ≡ true)
      by true e g c = (n, omega arith, e)
      by false e g c = let y = c (omega arith) in (y.0, omega (arith, y.1), y.2)

-- ---- a row in a piece

module _ (r : Lent) (at : ℕ) (old : List ℤ) (s : sound (row_of r old) ≡ true) (whole : up r.period ≡ r.end - r.start) (low : r.start ≤ r.end) (ends : r.end ≤ at)
    (l : ℕ → Option ℤ) (t : ℕ) (p : Place) (e : Stands (row_of r old) p (pos t)) where
  abbrev new : List ℤ
  new = label_cells l at t old

  module _ (i : ℕ) (m : p.cell + i < up r.period) where
    cell_same : get_or (row_of r old).cells (p.cell + i) empty ≡ get_or new (r.start + p.cell + i) empty
    cell_same =
        let q : r.start + (p.cell + i) ≡ r.start + p.cell + i = omega arith in
        cell_in old r.start (r.end - r.start) (p.cell + i) (omega (arith, whole))
        ∙ ap (λ (k : ℕ). get_or old k empty) q
        ∙ sym (cells-below l at old t (r.start + p.cell + i) empty (omega (arith, whole)))

    -- the label of the instant
    pub row_label : place_label (place_from r.start p) new i ≡ meant (row_of r old) (pos (t + i))
    row_label =
        sym (place-label r.period r.distance (row_of r old).cells s p (pos t) e i m ∙ ap (λ (z : ℤ). raise p.rise (label_of z)) cell_same)

    row-bound : (j : ℤ) → label_of (get_or new (r.start + p.cell + i) empty) ≡ some j → Within 1000000000 j
    row-bound j f = cell-bound r.period r.distance (row_of r old).cells s (p.cell + i) j (ap label_of cell_same ∙ f)

  pub row_room : (n : ℕ) → p.cell + n ≤ up r.period → t ≤ pool_limit → PlaceRoom (place_from r.start p) (at + t) n new
  row_room n h few = record {
    stands = omega (arith, whole);
    rise = place-rise r.period r.distance (row_of r old).cells s p (pos t) e (simp ints (omega arith)) (simp ints (omega arith));
    labels = λ i m. row-bound i (omega arith);
  }

-- ---- the working row

-- the labels of the instants from 0 on
abbrev pub R : Kind → Lent → Lent → List ℤ → ℕ → Option ℤ
R k a b old u = result (operation_of k (row_of a old) (row_of b old)) (pos u)

module _ (k : Kind) (a b : Lent) (at period : ℕ) (old : List ℤ) (h : Filling k a b at period old old false 0) where
  abbrev o : Operation Row
  o = operation_of k (row_of a old) (row_of b old)

  abbrev S : ℕ → Option ℤ
  S = R k a b old

  labelled-more : (m : ℕ) (b : Bool) → ltb 0 (m + cond b 1 0) ≡ b || ltb 0 m
  labelled-more m true = (ltb_iff 0 (m + 1)).1 (omega arith)
  labelled-more m false = let q : m + 0 ≡ m = omega arith in ap (ltb 0) q

  in-range : (l : Option ℤ) → is_outside l ≡ false → if_label l in_range ≡ true
  in-range none e = refl
  in-range (some j) e = by (in_range j) e
    where
      by : (b : Bool) → not b ≡ false → b ≡ true
      by true e = refl
      by false e = absurd (true≢false refl e)

  labels-filling : ((u : ℕ) → u < period → is_outside (S u) ≡ false) → (n : ℕ) → n ≤ period → Filling k a b at period old (label_cells S at n old) (ltb 0 (label_count is_some S n)) n
  labels-filling f zero m = h
  labels-filling f (suc n) m =
      let q : n < period = omega arith in
      subst (λ (i : ℕ). Filling k a b at period old (label_cells S at (suc n) old) (ltb 0 (label_count is_some S (suc n))) i) (add-one n)
      (filling-more k a b at period old _ _ n (labels-filling f n (omega arith)) q (S n) refl _ _ (in-range (S n) (f n q)) refl (labelled-more (label_count is_some S n) (is_some (S n))))

  labels-outside : (u : ℕ) → u < period → (l : Option ℤ) → l ≡ S u → is_outside l ≡ true → Fills o at period old (label_cells S at period old) (Err LabelOutsideLimits)
  labels-outside u m none e f = absurd (true≢false f refl)
  labels-outside u m (some j) e f =
      let i = (not_iff (in_range j)).0 f in
      let q : u < (size o).period = omega (arith, h.lends.is-period) in
      record {
        answer = filled-out o u q j e i;
        lengths = cells-length S at old period;
        before = cells-take S at old period;
        row = λ z. absurd (true≢false z (out_of_range o u q j e i));
      }

  -- the answer, by the counts
  pub labels-fill : (new : List ℤ) (r : Result ⊤ Refusal) (labelled outside : ℕ) → new ≡ label_cells S at period old → labelled ≡ label_count is_some S period → outside ≡ label_count is_outside S period
      → r ≡ cond (ltb 0 outside) (Err LabelOutsideLimits) (cond (ltb 0 labelled) (Ok tt) (Err NothingLabelled)) → Fills o at period old new r
  labels-fill new r labelled outside e f g q = rw (e, q, f) (⊎_elim out in_all (decided (ltb_iff 0 outside)))
    where
      out : 0 < outside → Fills o at period old (label_cells S at period old) (cond (ltb 0 outside) (Err LabelOutsideLimits) (cond (ltb 0 (label_count is_some S period)) (Ok tt) (Err NothingLabelled)))
      out m =
          let y = count-some is_outside S period (omega arith) in
          rw ((ltb_iff 0 outside).1 m) (labels-outside y.0 y.1 (S y.0) refl y.2)

      in_all : (0 < outside → ⊥) → Fills o at period old (label_cells S at period old) (cond (ltb 0 outside) (Err LabelOutsideLimits) (cond (ltb 0 (label_count is_some S period)) (Ok tt) (Err NothingLabelled)))
      in_all m =
          let y = labels-filling (count_none is_outside S period (omega arith)) period (omega arith) in
          rw ((false-iff (ltb_iff 0 outside)).1 m) (filling-done k a b at period old _ _ period y (omega arith))

-- ---- a turn of the loop

-- before the instant t: the cells of the instants before are written, and the places are those of t
pub record Pieced (by : SetOperation) (a b : Lent) (at period : ℕ) (old new : List ℤ) (x y : Place) (labelled outside t : ℕ) : Type 0 where
  pub within : t ≤ period
  pub cells : new ≡ label_cells (R (ByLabels by) a b old) at t old
  pub labels : labelled ≡ label_count is_some (R (ByLabels by) a b old) t
  pub beyond : outside ≡ label_count is_outside (R (ByLabels by) a b old) t
  pub first : Stands (row_of a old) x (pos t)
  pub second : Stands (row_of b old) y (pos t)

pub pieced-few : (by : SetOperation) (a b : Lent) (at period : ℕ) (old new : List ℤ) (x y : Place) (labelled outside t : ℕ)
    → Pieced by a b at period old new x y labelled outside t → (labelled ≤ t) × (outside ≤ t)
pieced-few by a b at period old new x y labelled outside t v =
    let l = R (ByLabels by) a b old in
    (omega (arith, v.labels, count-few is_some l t), omega (arith, v.beyond, count-few is_outside l t))

module _ (by : SetOperation) (a b : Lent) (at period : ℕ) (old : List ℤ) (h : Filling (ByLabels by) a b at period old old false 0)
    (a-whole : up a.period ≡ a.end - a.start) (b-whole : up b.period ≡ b.end - b.start)
    (new : List ℤ) (x y : Place) (labelled outside t n : ℕ) (v : Pieced by a b at period old new x y labelled outside t)
    (m : t + n ≤ period) (a_in : x.cell + n ≤ up a.period) (b-in : y.cell + n ≤ up b.period) (p q : Place) (e : p ≡ place_from a.start x) (f : q ≡ place_from b.start y) where
  few : t ≤ pool_limit
  few = omega (arith, h.lends.room, h.lends.few)

  pub piece-room : PieceRoom p q (at + t) n new
  piece-room =
      rw (e, f, v.cells) record {
        first = row_room a at old h.lends.is-fillable.sounds.0 a-whole h.lends.a-start h.lends.a-end (R (ByLabels by) a b old) t x v.first n a_in few;
        second = row_room b at old h.lends.is-fillable.sounds.1 b-whole h.lends.b-start h.lends.b_end (R (ByLabels by) a b old) t y v.second n b-in few;
        room = omega (arith, cells-length (R (ByLabels by) a b old) at old t, h.lends.room);
        few = omega (arith, cells-length (R (ByLabels by) a b old) at old t, h.lends.few);
      }

  piece_is : (i : ℕ) → i < n → piece_label by (place_from a.start x) (place_from b.start y) (label_cells (R (ByLabels by) a b old) at t old) i ≡ R (ByLabels by) a b old (t + i)
  piece_is i l =
      ap₂ (set_label by)
      (row_label a at old h.lends.is-fillable.sounds.0 a-whole h.lends.a-start h.lends.a-end (R (ByLabels by) a b old) t x v.first i (omega arith))
      (row_label b at old h.lends.is-fillable.sounds.1 b-whole h.lends.b-start h.lends.b_end (R (ByLabels by) a b old) t y v.second i (omega arith))
      ∙ decided-is (Pointwise.ByLabels by) (row_of a old) (row_of b old) h.lends.is-fillable.ready (pos (t + i))

  abbrev l : ℕ → Option ℤ
  l = piece_label by p q new

  is : (i : ℕ) → i < n → l i ≡ R (ByLabels by) a b old (t + i)
  is = rw (e, f, v.cells) piece_is

  -- the state behind the piece
  pub piece-on : (pool : List ℤ) (x' y' : Place) (k o : ℕ) → pool ≡ label_cells l (at + t) n new → k ≡ label_count is_some l n → o ≡ label_count is_outside l n
      → x' ≡ place_on x n (up a.period) a.distance → y' ≡ place_on y n (up b.period) b.distance
      → Pieced by a b at period old pool x' y' (labelled + k) (outside + o) (t + n)
  piece-on pool x' y' k o g j z w u = record {
    within = m;
    cells = g ∙ ap (label_cells l (at + t) n) v.cells ∙ cells-join (R (ByLabels by) a b old) l t at old n is;
    labels = ap₂ (λ (i j : ℕ). i + j) v.labels j ∙ count-join (R (ByLabels by) a b old) l t is_some n is;
    beyond = ap₂ (λ (i j : ℕ). i + j) v.beyond z ∙ count-join (R (ByLabels by) a b old) l t is_outside n is;
    first = rw w (place-moved a.period a.distance (row_of a old).cells h.lends.is-fillable.sounds.0 x (pos t) v.first n a_in);
    second = rw u (place-moved b.period b.distance (row_of b old).cells h.lends.is-fillable.sounds.1 y (pos t) v.second n b-in);
  }
