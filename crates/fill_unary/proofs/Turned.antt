-- A turn of the loop that groups labels: its cells are written one after the other, and then the turns before and this one are.
-- Assumes nothing.
use Rattle.calendar.specs.declared.Refusal.TheVariants.{LabelOutsideLimits}
use Rattle.std.specs.Prelude.{Err}
use mathlib.Core.Path.{◌≡◌, refl, sym, ◌∙◌, ap, subst}
use mathlib.Core.Logic.{⊎_elim, ⊎_map, ◌⊎◌, inl, inr}
use mathlib.Core.Option.{Option, some}
use mathlib.Core.Bool.{Bool, true, false, ◌||◌}
use mathlib.Core.List.{List}
use Prim.Native.Nat.{ℕ, zero, suc, ◌+◌, ◌-◌, ◌*◌, ◌/◌, ◌%◌, ◌≤◌, ◌<◌}
use native.Mathlib.Numerals.{add-one}
use native.Mathlib.Nat.{mul-le-mul_left, mul-suc, div-add-mod}
use native.Mathlib.Omega.{arith}
use lib.IntN.{ℤ, pos}
use lib.ListN.{length, get_or, set}
use lib.Seq.{get_or-set_other}
use Rattle.integers.specs.Parts.{up}
use Rattle.integers.specs.Floor.{floor_mod}
use Rattle.integers.specs.Gcd.{gcd}
use Rattle.integers.proofs.Linear.{ints, ◌∴◌}
use Rattle.calendar.specs.Meaning.{Row, meant, empty}
use Rattle.calendar.specs.Operation.{Operation}
use Rattle.calendar.specs.Lists.{is_some, if_label}
use Rattle.calendar.specs.Compute.{result, cell_of}
use Rattle.calendar.specs.Limits.{in_range, pool_limit}
use Rattle.calendar.specs.Sound.{sound}
use Rattle.granules.proofs.Tests.{ltb_iff, decided}
use Rattle.cursors.proofs.Cursors.{cursor-at}
use Rattle.algebra.proofs.Pointwise.{group-period}
use Rattle.kinds.specs.declared.Kind.TheVariants.{Group}
use Rattle.kinds.specs.Operations.{operation_of}
use Rattle.fill_shared.proofs.Points.{label_small}
use Rattle.fill_shared.specs.Placed.{Fills}
use Rattle.fill_shared.proofs.Filling.{Lent, Filling, row_of, filling-more, filling-out, a-kept, filling-ends}
use Rattle.fill_shared.proofs.Cursors.{Cell, cells_are, cell-on, label-of-cell}
use Rattle.fill_unary.specs.Grouped.{label_at, group_at, Small, grouped, Grouped}
use Rattle.fill_unary.proofs.Groups.{group_of}

-- ---- the cells of a turn

module _ (x rise : ℤ) (start to : ℕ) (old : List ℤ) where
  -- the cells before `to` stay
  pub grouped-below : (n k : ℕ) (d : ℤ) → k < to → get_or (grouped x rise start to old n) k d ≡ get_or old k d
  unfolding grouped
  grouped-below zero k d h = refl
  grouped-below (suc n) k d h = get_or-set_other (grouped x rise start to old n) (to + n) k _ d (λ e. omega arith) ∙ grouped-below n k d h

  pub grouped-none : Grouped x rise start to old old 0
  unfolding grouped
  grouped-none = record { is-new = refl; within = λ i h. absurd (omega arith) }

  module _ (new : List ℤ) (n : ℕ) (g : Grouped x rise start to old new n) where
    -- one cell more, of the group l
    pub grouped-more : (l : Option ℤ) (z : ℤ) → l ≡ group_at x rise start old n → if_label l in_range ≡ true → z ≡ cell_of l → Grouped x rise start to old (set new (to + n) z) (n + 1)
    unfolding grouped
    grouped-more l z e r q = record {
      is-new =
          ap (λ (p : List ℤ). set p (to + n) z) g.is-new
          ∙ ap (set (grouped x rise start to old n) (to + n)) (q ∙ ap cell_of e)
          ∙ ap (grouped x rise start to old) (sym (add-one n));
      within = λ i h. by i (before i h);
    }
      where
        before : (i : ℕ) → i < n + 1 → (i < n) ⊎ (i ≡ n)
        before i m = ⊎_map (λ y. y) (λ y. omega arith) (decided (ltb_iff i n))

        by : (i : ℕ) → (i < n) ⊎ (i ≡ n) → if_label (group_at x rise start old i) in_range ≡ true
        by i (inl m) = g.within i m
        by i (inr q) = ap (λ (v : ℕ). if_label (group_at x rise start old v) in_range) q ∙ ap (λ (y : Option ℤ). if_label y in_range) (sym e) ∙ r

-- ---- the turn in the working row

-- the working row is whole turns, so there is room for one where a turn begins before its end
whole : (P m k t period : ℕ) → period ≡ P * m → t ≡ P * k → t < period → t + P ≤ period
whole P m k t period e f h =
    ⊎_elim
    (λ l. omega (arith, e, f, mul-le-mul_left {m = suc k} {n = m} P (omega (arith, l)), mul-suc P k))
    (λ l. absurd (omega (arith, e, f, h, mul-le-mul_left {m = m} {n = k} P (omega (arith, l)))))
    (decided (ltb_iff k m))

pub has-turn : (x : ℤ) (a : Lent) (at period : ℕ) (old new : List ℤ) (labelled : Bool) (t : ℕ) (z : ℤ)
    → Filling (Group x) a a at period old new labelled t → Cell a old a.start z (pos t) → t < period → t + (a.end - a.start) ≤ period
unfolding floor_mod
has-turn x a at period old new labelled t z h c m =
    let r = row_of a old in
    let P = up a.period in
    let e : P ≡ a.end - a.start = cells_are a old h.lends.is-fillable.sounds.0 (omega (arith, h.lends.a-end, h.lends.room)) in
    let i = (cursor-at r _ (pos t) c.is).index_is in
    let k : t % P ≡ 0 = i ∴ simp ints (omega arith) in
    rw e at (whole P (up x / gcd (up x) r.distance) (t / P) t period (h.lends.is-period ∙ group-period (up x) r) (omega (arith, k, div-add-mod t P)) m)

module _ (x : ℤ) (a : Lent) (at period : ℕ) (old new : List ℤ) (labelled : Bool) (t : ℕ) (z : ℤ)
    (h : Filling (Group x) a a at period old new labelled t) (c : Cell a old a.start z (pos t)) (room : t + (a.end - a.start) ≤ period) where
  abbrev row : Row
  row = row_of a old

  abbrev o : Operation Row
  o = operation_of (Group x) row row

  s : sound row ≡ true
  s = h.lends.is-fillable.sounds.0

  in-pool : a.end ≤ length old
  in-pool = omega (arith, h.lends.a-end, h.lends.room)

  -- the instant t + i
  module _ (i : ℕ) (m : i < a.end - a.start) where
    label_is : meant row (pos (t + i)) ≡ label_at z a.start new i
    label_is =
        let d : Cell a old (a.start + i) z (pos (t + i)) = cell-on a old s in-pool a.start z (pos t) c i (omega arith) in
        label-of-cell a old s in-pool (a.start + i) z (pos (t + i)) d new (filling-ends _ _ _ _ _ _ _ _ _ h).0 (a-kept _ _ _ _ _ _ _ _ _ h) empty

    pub group-is : group_at x z a.start new i ≡ result o (pos (t + i))
    group-is = sym (group_of (up x) row (pos (t + i)) _ label_is)

  pub turn_small : Small z a.start (a.end - a.start) new
  turn_small i m j e =
      let b : t + i ≤ pool_limit = omega (arith, h.lends.room, h.lends.few) in
      label_small a.period a.distance row.cells s (pos (t + i)) j (simp ints (omega arith)) (simp ints (omega arith)) (label_is i m ∙ e)

  turn_on : (n : ℕ) → n ≤ a.end - a.start → ((i : ℕ) → i < n → if_label (group_at x z a.start new i) in_range ≡ true)
      → (f : Bool) × Filling (Group x) a a at period old (grouped x z a.start (at + t) new n) f (t + n)
  unfolding grouped
  turn_on zero m w = (labelled, subst (λ (k : ℕ). Filling (Group x) a a at period old new labelled k) (omega arith) h)
  turn_on (suc n) m w =
      let d = turn_on n (omega arith) (λ i p. w i (omega arith)) in
      let l = group_at x z a.start new n in
      let f = is_some l || d.0 in (
        f,
        subst (λ (k : ℕ). Filling (Group x) a a at period old (grouped x z a.start (at + t) new (suc n)) f k) (omega arith)
            (filling-more _ _ _ _ _ _ _ _ _ d.1 (omega arith) l (group-is n (omega arith)) _ _ (w n (omega arith)) (ap (λ (k : ℕ). set (grouped x z a.start (at + t) new n) k (cell_of l)) (omega arith)) refl),
      )

  -- n of its cells
  turned-cells : (n : ℕ) → n ≤ a.end - a.start → (pool : List ℤ) → Grouped x z a.start (at + t) new pool n → (f : Bool) × Filling (Group x) a a at period old pool f (t + n)
  turned-cells n m pool g =
      let d = turn_on n m g.within in
      (d.0, subst (λ (l : List ℤ). Filling (Group x) a a at period old l d.0 (t + n)) (sym g.is-new) d.1)

  -- all of them
  pub turned : (pool : List ℤ) → Grouped x z a.start (at + t) new pool (a.end - a.start) → (f : Bool) × Filling (Group x) a a at period old pool f (t + (a.end - a.start))
  turned pool g = turned-cells (a.end - a.start) (omega arith) pool g

  -- the group of the cell behind them is outside the limits
  pub turn-outside : (i : ℕ) → i < a.end - a.start → (j : ℤ) → some j ≡ group_at x z a.start new i → in_range j ≡ false
      → (pool : List ℤ) → Grouped x z a.start (at + t) new pool i → Fills o at period old pool (Err LabelOutsideLimits)
  turn-outside i m j e r pool g =
      let d = turned-cells i (omega arith) pool g in
      filling-out _ _ _ _ _ _ _ _ _ d.1 (omega arith) (some j) (e ∙ group-is i m) pool refl r
