-- The end of a loop over one row: as the row has a label, the working row has one.
-- Assumes nothing.
use Rattle.calendar.specs.declared.Refusal.TheVariants.{NothingLabelled}
use Rattle.std.specs.Prelude.{Err, Ok}
use mathlib.Core.Path.{◌≡◌, ◌∙◌, ap, subst}
use mathlib.Core.Option.{map}
use mathlib.Core.Bool.{Bool, true, cond}
use mathlib.Core.List.{List}
use Prim.Native.Nat.{ℕ, ◌<◌, ◌≤◌}
use native.Mathlib.Omega.{arith}
use lib.IntN.{ℤ, pos}
use Rattle.integers.specs.Parts.{up}
use Rattle.integers.proofs.Linear.{ints, ◌∴◌}
use Rattle.integers.proofs.Order.{pos-up}
use Rattle.calendar.specs.Meaning.{Row, Has}
use Rattle.calendar.specs.Lists.{is_some}
use Rattle.calendar.specs.Distance.{size}
use Rattle.calendar.specs.Compute.{result}
use Rattle.granules.proofs.Calendars.{labelled-near}
use Rattle.granules.proofs.Sound.{sound-valid}
use Rattle.algebra.proofs.Right.{right}
use Rattle.kinds.specs.declared.Kind.{Kind}
use Rattle.kinds.specs.declared.Kind.TheVariants.{Bottom, Group, Shift, Alter, Combine, Anchor, Select, ByLabels, Renumber}
use Rattle.kinds.specs.Operations.{operation_of, operands}
use Rattle.fill_shared.specs.Fillable.{Fillable}
use Rattle.fill_shared.specs.Placed.{Fills}
use Rattle.fill_shared.proofs.Filling.{Lent, Filling, row_of, filling-done}

-- a labelled instant of the row has a label in the result
has-label : (k : Kind) (a b : Row) → operands k ≡ 1 → Fillable k a b → (i : ℤ) × Has (result (operation_of k a b)) i
unfolding result
has-label (Group x) a b e g = let v = sound-valid a g.sounds.0 in (_, (v.labelled.0, ap (map _) v.labelled.1))
has-label (Shift x) a b e g = let v = sound-valid a g.sounds.0 in (_, (v.labelled.0, ap (map _) v.labelled.1))
has-label (Renumber x) a b e g = let v = sound-valid a g.sounds.0 in (_, (v.labelled.0, ap (map _) v.labelled.1))
has-label Bottom a b e g = absurd (omega arith)
has-label (Alter w) a b e g = absurd (omega arith)
has-label Combine a b e g = absurd (omega arith)
has-label Anchor a b e g = absurd (omega arith)
has-label (Select w) a b e g = absurd (omega arith)
has-label (ByLabels w) a b e g = absurd (omega arith)

-- so an instant of the working row has one
label-in : (k : Kind) (a b : Row) → operands k ≡ 1 → Fillable k a b
    → (u : ℕ) × (u < (size (operation_of k a b)).period) × (is_some (result (operation_of k a b) (pos u)) ≡ true)
label-in k a b e g =
    let o = operation_of k a b in
    let r = right o g.ready in
    let h = has-label k a b e g in
    let n = labelled-near (result o) (size o).period (size o).distance r.repeats r.positive.0 h.0 h.1 (pos 0) in
    let p = pos-up n.2 in
    (up n.0, p ∴ n.3 ∴ simp ints (omega arith), ap is_some (ap (result o) p ∙ n.4))

module _ (k : Kind) (one : operands k ≡ 1) (a b : Lent) (at period : ℕ) (old new : List ℤ) (labelled : Bool) (t : ℕ) (h : Filling k a b at period old new labelled t) (done : period ≤ t) where
  is-labelled : labelled ≡ true
  is-labelled =
      let l = label-in k (row_of a old) (row_of b old) one h.lends.is-fillable in
      h.writes.is-labelled.1 (l.0, omega (arith, l.1, h.lends.is-period), l.2)

  pub labelled-done : Fills (operation_of k (row_of a old) (row_of b old)) at period old new (Ok tt)
  labelled-done =
      subst (λ (f : Bool). Fills (operation_of k (row_of a old) (row_of b old)) at period old new (cond f (Ok tt) (Err NothingLabelled))) is-labelled
      (filling-done k a b at period old new labelled t h done)
