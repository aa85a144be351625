-- `fill_unary::grouping::fill_turn` meets its contract: each turn of the loop writes one cell, the group of whose label is known or is worked out.
-- Assumes nothing.
use borrow.Author.Rules.{rules}
use mathlib.Core.Path.{◌≡◌, refl, sym, ◌∙◌, ap, subst}
use mathlib.Core.Option.{Option, none, some, map}
use mathlib.Core.Bool.{Bool, true, false, ◌&&◌}
use mathlib.Core.List.{List}
use Prim.Native.Nat.{ℕ, ◌+◌, ◌≤◌, ◌<◌, ◌^◌}
use native.Mathlib.Omega.{arith}
use lib.IntN.{ℤ, pos, ◌+ℤ◌}
use lib.ListN.{length, get_or}
use lib.Signed.{◌≤ℤ◌, le_z}
use mir.Facts.{to_z-of_z, sfits_lit}
use mir.Syntax.{w32, w64}
use mir.Val.{SFits, to_z, of_z}
use Rattle.integers.specs.Parts.{up}
use Rattle.integers.specs.Floor.{ceil_div}
use Rattle.integers.proofs.Linear.{ints, ◌∴◌}
use Rattle.integers.proofs.Machine.{plain, test-eq}
use Rattle.calendar.specs.Meaning.{label_of, raise, empty}
use Rattle.calendar.specs.Lists.{if_label}
use Rattle.calendar.specs.Compute.{cell_of}
use Rattle.calendar.specs.Limits.{in_range, pool_limit}
use Rattle.granules.proofs.Tests.{and-iff, le_z-iff, true≢false}
use Rattle.cursors.specs.Found.{Within}
use Rattle.cursors.proofs.Cells.{label-empty, label-full, get_d_any}
use Rattle.fill_shared.specs.declared.Known.{Known}
use Rattle.fill_shared.proofs.Working.{range-fits}
use Rattle.fill_unary.specs.Grouped.{Knows, label_at, group_at, Grouped}
use Rattle.fill_unary.proofs.Turned.{grouped-below, grouped-none, grouped-more}
use Rattle.fill_unary.proofs.grouping.fill_turn.Goals as goal
use Rattle.fill_unary.proofs.grouping.fill_turn.Goals.{Start, At-loop-i, In-loop-i, Then-cell, Joined-not-covers, Joined-cell, After-group_of-known, After-in_range, Then-not-in_range, then-not-covers+else-not-in_range, else-not-covers, then-cell, else-cell}

abbrev factor : Start → ℤ
factor s = to_z w64 (of_z w64 s.args.x)

abbrev lift : Start → ℤ
lift s = to_z w64 (of_z w64 s.args.rise)

pub loop-i-init : goal.loop-i-init
loop-i-init c =
    let s = (goal.at.loop-i-init c).Start in
    let x = s.ranges.x in
    (grouped-none (factor s) (lift s) s.args.start s.args.to s.args.pool.now, simp plain s.requires.knows)

-- what is ensured
abbrev Ends : Start → ℤ → ℤ → List ℤ → Known → Type 0
Ends s x z pool r =
    let old = s.args.pool.now in
    (in_range r.number ≡ true → Knows x r × Grouped x z s.args.start s.args.to old pool s.args.count)
    × (in_range r.number ≡ false → (i : ℕ) × (i < s.args.count) × (some r.number ≡ group_at x z s.args.start old i) × Grouped x z s.args.start s.args.to old pool i)

ends : (s : Start) (pool : List ℤ) (r : Known) → Ends s (factor s) (lift s) pool r → Ends s s.args.x s.args.rise pool r
ends s pool r h =
    subst (λ (x : ℤ). Ends s x s.args.rise pool r) (to_z-of_z s.ranges.x)
    (subst (λ (z : ℤ). Ends s (factor s) z pool r) (to_z-of_z s.ranges.rise) h)

-- ---- a cell
abbrev base : In-loop-i → Start
base c = (goal.at.In-loop-i c).Start

index : (c : In-loop-i) → (c.args.start + c.loop-i.i < c.args.to) × (c.args.to + c.loop-i.i < length c.loop-i.pool) × (length c.loop-i.pool ≤ pool_limit)
index c =
    let p = c.requires.count_bound in
    (omega (arith, p.0, c.loop-i-test.true), omega (arith, p.1, c.loop-i-test.true), omega (arith, p.2))

abbrev cell : In-loop-i → ℤ
cell c = get_or c.loop-i.pool (c.args.start + c.loop-i.i) (pos 0)

-- the cell is as it was
cell-is : (c : In-loop-i) → get_or c.args.pool.now (c.args.start + c.loop-i.i) empty ≡ cell c
cell-is c =
    let s = base c in
    let k = s.args.start + c.loop-i.i in
    let h = index c in
    sym (grouped-below (factor s) (lift s) s.args.start s.args.to s.args.pool.now c.loop-i.i k empty h.0)
    ∙ ap (λ p. get_or p k empty) (sym c.loop-i.invariant.0.is-new)
    ∙ get_d_any c.loop-i.pool k empty (pos 0) (omega (arith, h.0, h.1))

-- its label and its group
abbrev label-at : In-loop-i → Option ℤ
label-at c = let s = base c in label_at (lift s) s.args.start s.args.pool.now c.loop-i.i

abbrev group_at_lem : In-loop-i → Option ℤ
group_at_lem c = let s = base c in group_at (factor s) (lift s) s.args.start s.args.pool.now c.loop-i.i

label_is : (c : In-loop-i) → label-at c ≡ raise (lift (base c)) (label_of (cell c))
label_is c = ap (λ (z : ℤ). raise (lift (base c)) (label_of z)) (cell-is c)

-- a label j
abbrev label : In-loop-i → ℤ
label c = cell c +ℤ lift (base c)

-- as the machine has it
abbrev J : In-loop-i → ℤ
J c = to_z w64 (of_z w64 (to_z w64 (of_z w64 (to_z w32 (of_z w32 (cell c)))) +ℤ lift (base c)))

-- what is known of the label
abbrev Numbered : In-loop-i → Known → Type 0
Numbered i k = (k.number ≡ ceil_div (label i) (up (factor (base i)))) × Knows (factor (base i)) k

-- the label that is written
abbrev Labels : (c : In-loop-i) → ℤ → Known → Type 0
Labels c z k = (l : Option ℤ) × (l ≡ group_at_lem c) × (if_label l in_range ≡ true) × (z ≡ cell_of l) × Knows (factor (base c)) k

-- a cell that has a label
module _ (i : In-loop-i) (f : SFits w32 (cell i)) (full : of_z w32 (cell i) ≡ 2147483648 → ⊥) where
  label-some : label-at i ≡ some (label i)
  label-some = label_is i ∙ ap (raise (lift (base i))) (label-full (cell i) (λ e. full (ap (of_z w32) e)))

  small : Within (2 ^ 40) (label i)
  small =
      let s = base i in
      s.requires.small i.loop-i.i i.loop-i-test.true (label i) (ap (λ (z : ℤ). label_at z s.args.start s.args.pool.now i.loop-i.i) (sym (to_z-of_z s.ranges.rise)) ∙ label-some)

  label-fits : SFits w64 (label i)
  label-fits = small ∴ simp ints (omega arith)

  label-read : J i ≡ label i
  label-read = let j = label-fits in simp plain

  is-group : (n : ℤ) → n ≡ ceil_div (label i) (up (factor (base i))) → some n ≡ group_at_lem i
  is-group n e = ap some e ∙ ap (map (λ j. ceil_div j (up (factor (base i))))) (sym label-some)

  -- its group is the one that is known
  covered : (k : Known) (b : Bool) → k ≡ i.loop-i.known → b ≡ le_z i.loop-i.known.low (J i) && le_z (J i) i.loop-i.known.high → b ≡ true → Numbered i k
  covered k b q c r =
      let h = i.loop-i.known in
      let e = c ∙ ap (λ (z : ℤ). le_z h.low z && le_z z h.high) label-read in
      let t = (and-iff (le_z h.low (label i)) (le_z (label i) h.high)).0 (sym e ∙ r) in
      let n = i.loop-i.invariant.1.numbers (label i) ((le_z-iff h.low (label i)).0 t.0) ((le_z-iff (label i) h.high).0 t.1) in
      subst (λ (k : Known). Numbered i k) (sym q) (sym n, i.loop-i.invariant.1)

  -- or it is worked out
  anew : (k g : Known) → k ≡ g → g.number ≡ ceil_div (J i) (up (factor (base i))) → ((j : ℤ) → g.low ≤ℤ j → j ≤ℤ g.high → ceil_div j (up (factor (base i))) ≡ g.number) → in_range g.number ≡ true → Numbered i k
  anew k g q e a r = subst (λ (k : Known). Numbered i k) (sym q) (e ∙ ap (λ (z : ℤ). ceil_div z (up (factor (base i)))) label-read, record { numbers = a; within = r })

  of-label : (k : Known) → Numbered i k → Labels i k.number k
  of-label k h = (some k.number, is-group _ h.0, h.1.within, refl, h.1)

-- a cell that has none
of_none : (i : In-loop-i) → SFits w32 (cell i) → of_z w32 (cell i) ≡ 2147483648 → Labels i empty i.loop-i.known
of_none i f q =
    let e = (test-eq w32 (cell i) empty f (sfits_lit tt)).0 q in
    (none, sym (ap (map _) (label_is i ∙ ap (raise _) (label-empty (cell i) e))), refl, refl, i.loop-i.invariant.1)

labels-as : (c : In-loop-i) {z z' : ℤ} {k k' : Known} → z' ≡ z → k' ≡ k → Labels c z k → Labels c z' k'
labels-as c p q h = (h.0, h.1, h.2, p ∙ h.3, rw q h.4)

abbrev of-cell : Then-cell → In-loop-i
of-cell c = (goal.at.Then-cell c).In-loop-i

cell-fits : (c : Then-cell) → SFits w32 (cell (of-cell c))
cell-fits c = search rules

pub overflow_add-j : goal.overflow_add-j
overflow_add-j c =
    let t = (goal.at.overflow_add-j c).Then-cell in
    let f = cell-fits t in
    simp plain (label-fits (of-cell t) f t.if-cell.true)

pub group_of-known-requires-clause-within : goal.group_of-known-requires-clause-within
group_of-known-requires-clause-within c =
    let t = (goal.at.group_of-known-requires-clause-within c).Then-cell in
    let f = cell-fits t in
    let j = label-fits (of-cell t) f t.if-cell.true in
    simp plain (small (of-cell t) f t.if-cell.true)

-- ---- a group that is outside the limits
outside : (c : Then-not-in_range) → let s = (goal.at.Then-not-in_range c).Start in Ends s s.args.x s.args.rise c.loop-i.pool c.group_of-known.result
outside c =
    let i = (goal.at.Then-not-in_range c).In-loop-i in
    let t = (goal.at.Then-not-in_range c).Then-cell in
    let f = cell-fits t in
    let j = label-fits i f t.if-cell.true in
    let n : SFits w64 c.group_of-known.result.number = search rules in
    let e = simp plain at c.group_of-known.ensures.of in
    let k = simp plain at c.in_range.ensures in
    let r = sym k ∙ c.if-not-in_range.true in
    ends (base i) _ _ (λ e. absurd (true≢false e r), λ u. (i.loop-i.i, i.loop-i-test.true, is-group i f t.if-cell.true _ e, i.loop-i.invariant.0))

pub returns-then-not-in_range-clause-inside : goal.returns-then-not-in_range-clause-inside
returns-then-not-in_range-clause-inside c = (outside (goal.at.returns-then-not-in_range-clause-inside c).Then-not-in_range).0

pub returns-then-not-in_range-clause-outside : goal.returns-then-not-in_range-clause-outside
returns-then-not-in_range-clause-outside c = (outside (goal.at.returns-then-not-in_range-clause-outside c).Then-not-in_range).1

-- ---- the label
numbered : (c : Joined-not-covers) → Numbered (goal.at.Joined-not-covers c).In-loop-i c.if-not-covers.known
numbered c =
    let i = (goal.at.Joined-not-covers c).In-loop-i in
    let f = cell-fits (goal.at.Joined-not-covers c).Then-cell in
    elim c.if-not-covers.branch [
      | then-not-covers+else-not-in_range w ↦
          let n : SFits w64 w.group_of-known.result.number = search rules in
          let k = simp plain at w.in_range.ensures in
          anew i f c.if-cell.true _ _ w.known-is w.group_of-known.ensures.of w.group_of-known.ensures.all (sym k ∙ w.if-not-in_range.false)
      | else-not-covers w ↦ covered i f c.if-cell.true _ _ w.known-is c.covers.ensures w.if-not-covers.false
    ]

pub overflow_cast-label : goal.overflow_cast-label
overflow_cast-label c = let n : SFits w64 c.if-not-covers.known.number = search rules in simp plain (range-fits _ (numbered (goal.at.overflow_cast-label c).Joined-not-covers).1.within)

labelled : (c : Joined-cell) → Labels (goal.at.Joined-cell c).In-loop-i (to_z w32 c.if-cell.label-bits) c.if-cell.known
labelled c =
    let i = (goal.at.Joined-cell c).In-loop-i in
    elim c.if-cell.branch [
      | then-cell w ↦
          let f : SFits w32 (cell i) = search rules in
          let h : Numbered i w.if-not-covers.known =
          elim w.if-not-covers.branch [
            | then-not-covers+else-not-in_range v ↦
                let n : SFits w64 v.group_of-known.result.number = search rules in
                let k = simp plain at v.in_range.ensures in
                anew i f w.if-cell.true _ _ v.known-is v.group_of-known.ensures.of v.group_of-known.ensures.all (sym k ∙ v.if-not-in_range.false)
            | else-not-covers v ↦ covered i f w.if-cell.true _ _ v.known-is w.covers.ensures v.if-not-covers.false
          ]
          in
          let n : SFits w64 w.if-not-covers.known.number = search rules in
          let r : SFits w32 w.if-not-covers.known.number = range-fits _ h.1.within in
          labels-as i (w.label-is ∙ simp plain) w.known-is (of-label i f w.if-cell.true _ h)
      | else-cell w ↦ labels-as i w.label-is w.known-is (of_none i (search rules) w.if-cell.false)
    ]

pub loop-i-preserved : goal.loop-i-preserved
loop-i-preserved c =
    let i = (goal.at.loop-i-preserved c).In-loop-i in
    let h = labelled c in
    (grouped-more _ _ _ _ _ _ _ i.loop-i.invariant.0 h.0 _ h.1 h.2 h.3, h.4)

-- ---- the end
pub returns-clause-inside : goal.returns-clause-inside
returns-clause-inside c =
    let l = (goal.at.returns-clause-inside c).At-loop-i in
    let s = (goal.at.At-loop-i l).Start in
    let e : l.loop-i.i ≡ s.args.count = omega arith in
    (ends s l.loop-i.pool l.loop-i.known ((λ u. (l.loop-i.invariant.1, subst (λ (n : ℕ). Grouped (factor s) (lift s) s.args.start s.args.to s.args.pool.now l.loop-i.pool n) e l.loop-i.invariant.0)), λ u. absurd (true≢false l.loop-i.invariant.1.within u))).0
