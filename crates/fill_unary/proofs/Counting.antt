-- A step of renumber: the label of an instant is the last one before it, or the next.
-- Assumes nothing.
use mathlib.Core.Path.{◌≡◌, refl, sym, ◌∙◌, ap, subst}
use mathlib.Core.Option.{Option, none, some, map}
use mathlib.Core.List.{List}
use Prim.Native.Nat.{◌^◌}
use native.Mathlib.Omega.{arith}
use lib.IntN.{ℤ, pos, ◌+ℤ◌, ◌-ℤ◌}
use lib.Signed.{◌≤ℤ◌, ◌<ℤ◌}
use mir.Syntax.{w64}
use mir.Val.{SFits}
use Rattle.integers.proofs.Linear.{ints, ◌∴◌}
use Rattle.calendar.specs.Meaning.{Row, meant}
use Rattle.calendar.specs.Operation.Unary.{renumber}
use Rattle.calendar.specs.Operation.Operation.{unary}
use Rattle.calendar.specs.Limits.{pool_limit}
use Rattle.calendar.specs.Compute.{renumbered, anchored, result}
use Rattle.calendar.specs.Questions.{given}
use Rattle.granules.specs.Valid.{Valid}
use Rattle.cursors.specs.Found.{Sound, Within}
use Rattle.cursors.proofs.Numbers.{valid}
use Rattle.fill_unary.specs.Counts.{Counts}
use Rattle.fill_shared.proofs.Lasts.{anchored-here, anchored-skips}
use Rattle.fill_unary.proofs.Numbers.{number_bound}
use Rattle.fill_unary.proofs.Latest.{Latest, is-label, last-latest, latest-rises, latest-bound, next-number}

pub result-is : (x : ℤ) (a : Row) (t : ℤ) → result (unary (renumber x) a) t ≡ map (renumbered a x) (meant a t)
unfolding result
result-is x a t = refl

-- the label of t, as a number, and what is kept for the next instant
abbrev pub Step : Row → ℤ → ℤ → Option ℤ → ℤ → ℤ → Type 0
Step a x t label low number = (label ≡ result (unary (renumber x) a) t) × Counts a x (t +ℤ pos 1) low number

module _ {a : Row} (v : Valid a) {x t low number : ℤ} (k : Counts a x t low number) where
  -- t is behind the next instant by one
  behind : anchored a t ≡ anchored a (t +ℤ pos 1 -ℤ pos 1)
  behind = ap (anchored a) (simp ints (omega arith))

  latest : Latest a t low
  latest = subst (Latest a t) (sym k.is_last) (last-latest a v t)

  -- no label
  pub step_past : meant a t ≡ none → Step a x t none low number
  step_past e = (
    sym (result-is x a t ∙ ap (map (renumbered a x)) e),
    record { is_last = k.is_last ∙ sym (anchored-skips a t v e) ∙ behind; numbered = k.numbered },
  )

  here : (j n : ℤ) → meant a t ≡ some j → n ≡ renumbered a x j → Step a x t (some n) j n
  here j n e q = (
    ap some q ∙ sym (result-is x a t ∙ ap (map (renumbered a x)) e),
    record { is_last = sym (anchored-here a t j v e) ∙ behind; numbered = q },
  )

  -- the last label
  pub step_same : meant a t ≡ some low → Step a x t (some number) low number
  step_same e = here low number e k.numbered

  -- another
  pub step-next : (j : ℤ) → meant a t ≡ some j → (j ≡ low → ⊥) → Step a x t (some (number +ℤ pos 1)) j (number +ℤ pos 1)
  step-next j e other =
      let above : low <ℤ j = latest-rises a v t low latest j e ∴ other ∴ simp ints (omega arith) in
      here j (number +ℤ pos 1) e (ap (λ (z : ℤ). z +ℤ pos 1) k.numbered ∙ sym (next-number a v t low latest x j e above))

-- the label, its number and the next number fit
module _ (period distance : ℤ) (cells : List ℤ) (s : Sound period distance cells) {x t low number : ℤ} (k : Counts (given period distance cells) x t low number) where
  pub count_fits : Within 1000000000 x → pos 0 ≤ℤ t → t ≤ℤ pos pool_limit → SFits w64 low × SFits w64 number × SFits w64 (number +ℤ pos 1)
  count_fits b lo hi =
      let v = valid period distance cells s in
      let l = latest v k in
      let near = latest-bound period distance cells s t low l lo (hi ∴ simp ints (omega arith)) in
      number_bound (given period distance cells) v (2 ^ 30) x low (is-label l) (b ∴ simp ints (omega arith)) near
      ∴ near
      ∴ k.numbered
      ∴ simp ints (omega arith)
