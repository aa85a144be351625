-- An operation that has passed the checks before its working row is made.
-- Assumes nothing.
use Rattle.calendar.specs.declared.Refusal.TheVariants.{NothingLabelled, LabelOutsideLimits}
use Rattle.calendar.specs.declared.Refusal.{Refusal}
use Rattle.std.specs.Prelude.{Err, Ok, Result, ⊤}
use mathlib.Core.Path.{◌≡◌, refl, sym, ◌∙◌, ap, subst}
use mathlib.Core.Bool.{Bool, true, false, not, cond}
use Prim.Native.Nat.{ℕ}
use native.Mathlib.Omega.{arith}
use lib.Dec.{leb}
use Rattle.calendar.specs.Meaning.{Row}
use Rattle.calendar.specs.Operation.{Operation, map_operation}
use Rattle.calendar.specs.Size.{turn, span}
use Rattle.calendar.specs.Distance.{size}
use Rattle.calendar.specs.Compute.{working}
use Rattle.calendar.specs.Checks.{full_operands, aligned, emptied, unlabelled, labels_in_range}
use Rattle.calendar.specs.Sound.{sound}
use Rattle.calendar.specs.Least.{least}
use Rattle.calendar.specs.Refusals.{number_of}
use Rattle.calendar.specs.Reply.{Reply, require}
use Rattle.calendar.specs.Reply.Reply.{refused, answer}
use Rattle.calendar.specs.Outcome.{converted}
use Rattle.granules.proofs.Tests.{not_iff, false-iff}
use Rattle.granules.proofs.Sound.{sound-valid}
use Rattle.algebra.specs.Ready.{Operands, Ready}
use Rattle.algebra.specs.Factor.{Factor}
use Rattle.granules.proofs.Replies.{require-answer}
use Rattle.algebra.proofs.Operations.{operands-weaken}
use Rattle.algebra.proofs.OperandChecks.{full_operands-iff, aligned-iff}
use Rattle.algebra.proofs.EmptiedCheck.{emptied-iff}
use Rattle.algebra.proofs.Converted.{converted-checks}
use Rattle.operand_checks.specs.declared.Extent.{Extent}
use Rattle.operand_checks.specs.Admission.{extent, admission}
use Rattle.fill_shared.specs.Placed.{filled_as}

-- what the checks have shown
pub record Admitted (o : Operation Row) (room : ℕ) (x : Extent) : Type 0 where
  pub full : full_operands o ≡ true
  pub span-in : leb (span (map_operation turn o)) room ≡ true
  pub alike : aligned o ≡ true
  pub kept : not (emptied o) ≡ true
  pub period-in : leb (size o).period room ≡ true
  pub is : extent o ≡ x

pub admitted : (o : Operation Row) (room : ℕ) (x : Extent) → admission o room ≡ answer x → Admitted o room x
admitted o room x h =
    let r₇ = require-answer 7 (full_operands o) _ h in
    let r₈ = require-answer 8 (leb (span (map_operation turn o)) room) _ r₇.1 in
    let r₉ = require-answer 9 (aligned o) _ r₈.1 in
    let r₁₀ = require-answer 10 (not (emptied o)) _ r₉.1 in
    let period = require-answer 8 (leb (size o).period room) _ r₁₀.1 in
    record { full = r₇.0; span-in = r₈.0; alike = r₉.0; kept = r₁₀.0; period-in = period.0; is = cc period.1 }

-- a refusal of these checks is that of the operation
require-refused : {A B : Type 0} (m n : ℕ) (b : Bool) (x : Reply A) (y : Reply B) → (x ≡ refused n → y ≡ refused n) → require m b x ≡ refused n → require m b y ≡ refused n
require-refused m n true x y f e = f e
require-refused m n false x y f e = let z : m ≡ n = cc in ap refused z

pub refused-before : (o : Operation Row) (room n : ℕ) → admission o room ≡ refused n → converted o room ≡ refused n
refused-before o room n h =
    converted-checks o room
    ∙ require-refused 7 n (full_operands o) _ _
    (require-refused 8 n (leb (span (map_operation turn o)) room) _ _
    (require-refused 9 n (aligned o) _ _
    (require-refused 10 n (not (emptied o)) _ _
    (require-refused 8 n (leb (size o).period room) (answer (extent o)) _
    (λ e. let z : ◌≡◌ {A = ℕ} 0 1 = cc in absurd (omega arith)))))) h

-- ---- what the labels of the working row are

abbrev labels : Bool → Bool → Result ⊤ Refusal
labels u l = cond u (Err NothingLabelled) (cond l (Ok tt) (Err LabelOutsideLimits))

labels-none : (u l : Bool) → labels u l ≡ (Err NothingLabelled) → u ≡ true
labels-none true l e = refl
labels-none false true e = let z : ◌≡◌ {A = ℕ} 0 1 = cc in absurd (omega arith)
labels-none false false e = let z : ◌≡◌ {A = ℕ} 0 1 = cc in absurd (omega arith)

labels-out : (u l : Bool) → labels u l ≡ (Err LabelOutsideLimits) → (u ≡ false) × (l ≡ false)
labels-out true l e = let z : ◌≡◌ {A = ℕ} 0 1 = cc in absurd (omega arith)
labels-out false true e = let z : ◌≡◌ {A = ℕ} 0 1 = cc in absurd (omega arith)
labels-out false false e = (refl, refl)

labels_in : (u l : Bool) → labels u l ≡ (Ok tt) → (u ≡ false) × (l ≡ true)
labels_in true l e = let z : ◌≡◌ {A = ℕ} 0 1 = cc in absurd (omega arith)
labels_in false true e = (refl, refl)
labels_in false false e = let z : ◌≡◌ {A = ℕ} 0 1 = cc in absurd (omega arith)

-- ---- the checks behind

module _ (o : Operation Row) (room : ℕ) (x : Extent) (a : Admitted o room x) where
  pub ready : Operands (λ r. sound r ≡ true) o → Factor o → Ready o
  ready sounds factor =
      let valid = operands-weaken sound-valid o sounds in
      let full = (full_operands-iff o valid).0 a.full in
      let alike = (aligned-iff o valid).0 a.alike in
      record {
        valid = valid;
        factor = factor;
        full = full;
        aligned = alike;
        kept = (false-iff (emptied-iff o valid factor full alike)).0 ((not_iff (emptied o)).0 a.kept);
      }

  -- what is left of the checks
  rest : converted o room ≡ require 12 (not (unlabelled o)) (require 11 (labels_in_range o) (answer (least (working o))))
  rest = converted-checks o room ∙ simp (a.full, a.span-in, a.alike, a.kept, a.period-in)

  -- by what the labels are found to be
  module _ (r : Result ⊤ Refusal) (is : r ≡ filled_as o) where
    pub none-labelled : r ≡ (Err NothingLabelled) → converted o room ≡ refused 12
    none-labelled h = rest ∙ simp (labels-none (unlabelled o) (labels_in_range o) (sym is ∙ h))

    pub out_of_range : r ≡ (Err LabelOutsideLimits) → converted o room ≡ refused 11
    out_of_range h = let l = labels-out (unlabelled o) (labels_in_range o) (sym is ∙ h) in rest ∙ simp (l.0, l.1)

    pub labels-refused : (n : Refusal) → r ≡ Err n → converted o room ≡ refused (number_of n)
    labels-refused n h = by (unlabelled o) (labels_in_range o) refl refl
      where
        by : (u l : Bool) → unlabelled o ≡ u → labels_in_range o ≡ l → converted o room ≡ refused (number_of n)
        by true l p q =
            let f : filled_as o ≡ Err NothingLabelled = rw p refl in
            let e : ◌≡◌ {A = Result ⊤ Refusal} (Err NothingLabelled) (Err n) = sym f ∙ sym is ∙ h in
            let s : NothingLabelled ≡ n = cc in subst (λ (x : Refusal). converted o room ≡ refused (number_of x)) s (none-labelled (h ∙ ap Err (sym s)))
        by false true p q =
            let f : filled_as o ≡ (Ok tt) = rw (p, q) refl in
            let e : ◌≡◌ {A = Result ⊤ Refusal} (Ok tt) (Err n) = sym f ∙ sym is ∙ h in
            let z : ◌≡◌ {A = ℕ} 0 1 = cc in absurd (omega arith)
        by false false p q =
            let f : filled_as o ≡ Err LabelOutsideLimits = rw (p, q) refl in
            let e : ◌≡◌ {A = Result ⊤ Refusal} (Err LabelOutsideLimits) (Err n) = sym f ∙ sym is ∙ h in
            let s : LabelOutsideLimits ≡ n = cc in subst (λ (x : Refusal). converted o room ≡ refused (number_of x)) s (out_of_range (h ∙ ap Err (sym s)))

    pub all-labelled : r ≡ (Ok tt) → (unlabelled o ≡ false) × (labels_in_range o ≡ true) × (converted o room ≡ answer (least (working o)))
    all-labelled h = let l = labels_in (unlabelled o) (labels_in_range o) (sym is ∙ h) in (l.0, l.1, rest ∙ simp (l.0, l.1))
