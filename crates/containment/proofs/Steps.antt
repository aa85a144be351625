-- What the instant of a place says to a walk, and what that says of its labels.
-- Assumes nothing.
use mathlib.Core.Path.{◌≡◌, refl, ◌∙◌, ap, subst}
use mathlib.Core.Logic.{◌↔◌}
use mathlib.Core.Option.{Option, none, some}
use mathlib.Core.Bool.{Bool, true, false, cond}
use lib.IntN.{ℤ}
use Rattle.calendar.specs.Meaning.{Row, meant}
use Rattle.calendar.specs.Lists.{equal, is}
use Rattle.granules.proofs.Tests.{equal-iff, false-iff, is-iff}
use Rattle.containment.specs.declared.CursorPair.{CursorPair}
use Rattle.containment.specs.declared.Step.{Step}
use Rattle.containment.specs.declared.Step.TheVariants.{On, Done, Out}
use Rattle.containment.specs.Places.{at, step_at}

-- an answer, by the labels o in b and x in a of the instant, to a walk over the granule k of b
pub data Says (o x : Option ℤ) (k i : ℤ) : Step → Type 0 where
  past : o ≡ none → Says o x k i On
  within : o ≡ some k → x ≡ some i → Says o x k i On
  behind : (j : ℤ) → o ≡ some j → (j ≡ k → ⊥) → Says o x k i Done
  outside : o ≡ some k → (x ≡ some i → ⊥) → Says o x k i Out

abbrev said : Option ℤ → Option ℤ → ℤ → ℤ → Step
said o x k i = elim o [ none ↦ On | some j ↦ cond (equal j k) (cond (is i x) On Out) Done ]

says : (o x : Option ℤ) (k i : ℤ) → Says o x k i (said o x k i)
says none x k i = past refl
says (some j) x k i = by (equal j k) refl (is i x) refl
  where
    by : (s : Bool) → equal j k ≡ s → (t : Bool) → is i x ≡ t → Says (some j) x k i (cond s (cond t On Out) Done)
    by true f true g = within (ap some ((equal-iff j k).0 f)) ((is-iff i x).0 g)
    by true f false g = outside (ap some ((equal-iff j k).0 f)) ((false-iff (is-iff i x)).0 g)
    by false f t g = behind j refl ((false-iff (equal-iff j k)).0 f)

said-is : {o x : Option ℤ} {k i : ℤ} {s : Step} → Says o x k i s → said o x k i ≡ s
said-is {x} {k} {i} (past e) = ap (λ (o : Option ℤ). said o x k i) e
said-is {x} {k} {i} (within e f) =
    ap (λ (o : Option ℤ). said o x k i) e
    ∙ ap (λ (t : Bool). cond t (cond (is i x) On Out) Done) ((equal-iff k k).1 refl)
    ∙ ap (λ (t : Bool). cond t On Out) ((is-iff i x).1 f)
said-is {x} {k} {i} (behind j e f) =
    ap (λ (o : Option ℤ). said o x k i) e
    ∙ ap (λ (t : Bool). cond t (cond (is i x) On Out) Done) ((false-iff (equal-iff j k)).1 f)
said-is {x} {k} {i} (outside e f) =
    ap (λ (o : Option ℤ). said o x k i) e
    ∙ ap (λ (t : Bool). cond t (cond (is i x) On Out) Done) ((equal-iff k k).1 refl)
    ∙ ap (λ (t : Bool). cond t On Out) ((false-iff (is-iff i x)).1 f)

pub step-iff : (b a : Row) (p : CursorPair) (s : Step) → (step_at b a p ≡ s) ↔ Says (meant b (at b p)) (meant a (at b p)) p.k p.i s
unfolding step_at
step-iff b a p s = (λ e. subst (Says (meant b (at b p)) (meant a (at b p)) p.k p.i) e (says (meant b (at b p)) (meant a (at b p)) p.k p.i), said-is)
