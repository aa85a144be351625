-- Group, shift and renumber: the last label and its number, from one instant to the next.
-- Assumes nothing.
use mathlib.Core.Path.{◌≡◌, refl, sym, ◌∙◌, ap, subst}
use mathlib.Core.Option.{Option, none, some, map}
use mathlib.Core.List.{List}
use Prim.Native.Nat.{◌^◌}
use native.Mathlib.Omega.{arith}
use lib.IntN.{ℤ, pos, ◌+ℤ◌, ◌-ℤ◌}
use lib.Signed.{◌≤ℤ◌, ◌<ℤ◌}
use mir.Syntax.{w32}
use mir.Val.{SFits}
use Rattle.integers.specs.Parts.{up}
use Rattle.integers.proofs.Linear.{ints, ◌∴◌}
use Rattle.integers.proofs.Divide.{ceil-fits}
use Rattle.calendar.specs.Meaning.{Row, meant}
use Rattle.calendar.specs.Limits.{pool_limit}
use Rattle.calendar.specs.Compute.{anchored}
use Rattle.calendar.specs.Questions.{given}
use Rattle.granules.specs.Valid.{Valid}
use Rattle.cursors.specs.Found.{Sound, Within}
use Rattle.cursors.proofs.Numbers.{valid}
use Rattle.kinds.specs.Operations.{Numbers}
use Rattle.fill_shared.proofs.Lasts.{anchored-here, anchored-skips}
use Rattle.fill_unary.proofs.Numbers.{number_bound}
use Rattle.fill_unary.proofs.Latest.{Latest, is-label, last-latest, latest-rises, latest-bound, next-number}
use Rattle.match_unary.specs.declared.Unary.{Unary}
use Rattle.match_unary.specs.declared.Unary.TheVariants.{Group, Shift, Renumber}
use Rattle.match_unary.specs.declared.Counted.{Counted}
use Rattle.match_unary.specs.Numbered.{kind_of, number_in, next_number, Counts}

-- ---- an instant

module _ {by : Unary} {a : Row} (v : Valid a) {t : ℤ} {k : Counted} (c : Counts by a t k) where
  -- t is behind the next instant by one
  behind : anchored a t ≡ anchored a (t +ℤ pos 1 -ℤ pos 1)
  behind = ap (anchored a) (simp ints (omega arith))

  latest : Latest a t k.last
  latest = subst (Latest a t) (sym c.is_last) (last-latest a v t)

  -- no label
  pub counts_past : meant a t ≡ none → Counts by a (t +ℤ pos 1) k
  counts_past e = record { is_last = c.is_last ∙ sym (anchored-skips a t v e) ∙ behind; is_number = c.is_number }

  here : (j n : ℤ) → meant a t ≡ some j → n ≡ number_in by a j → Counts by a (t +ℤ pos 1) record { last = j; number = n }
  here j n e q = record { is_last = sym (anchored-here a t j v e) ∙ behind; is_number = q }

  -- the last label
  pub counts_same : (j : ℤ) → meant a t ≡ some j → j ≡ k.last → Counts by a (t +ℤ pos 1) k
  counts_same j e q = record { is_last = sym q ∙ sym (anchored-here a t j v e) ∙ behind; is_number = c.is_number }

next-is : (by : Unary) (a : Row) (v : Valid a) (t : ℤ) (k : Counted) → Counts by a t k → (j : ℤ) → meant a t ≡ some j → (j ≡ k.last → ⊥) → next_number by k.number j ≡ number_in by a j
next-is (Group x) a v t k c j e other = refl
next-is (Shift x) a v t k c j e other = refl
next-is (Renumber x) a v t k c j e other =
    let l = latest v c in
    let above : k.last <ℤ j = latest-rises a v t k.last l j e ∴ other ∴ simp ints (omega arith) in
    ap (λ (z : ℤ). z +ℤ pos 1) c.is_number ∙ sym (next-number a v t k.last l x j e above)

-- another label
pub counts-next : {by : Unary} {a : Row} (v : Valid a) {t : ℤ} {k : Counted} → Counts by a t k → (j n : ℤ) → meant a t ≡ some j → (j ≡ k.last → ⊥)
    → n ≡ next_number by k.number j → Counts by a (t +ℤ pos 1) record { last = j; number = n }
counts-next {by} {a} v {t} {k} c j n e other q = here v c j n e (q ∙ next-is by a v t k c j e other)

-- behind the instant its label is the last one
pub counts-label : {by : Unary} {a : Row} (v : Valid a) (t : ℤ) {k : Counted} → Counts by a (t +ℤ pos 1) k → map (λ j. k.number) (meant a t) ≡ map (number_in by a) (meant a t)
counts-label {by} {a} v t {k} c = on (meant a t) refl
  where
    on : (l : Option ℤ) → meant a t ≡ l → map (λ j. k.number) l ≡ map (number_in by a) l
    on none e = refl
    on (some j) e = ap some (c.is_number ∙ ap (number_in by a) (c.is_last ∙ ap (anchored a) (simp ints (omega arith)) ∙ anchored-here a t j v e))

-- ---- the numbers fit

number-within : (by : Unary) (a : Row) → Valid a → (t j : ℤ) → Numbers (kind_of by) → Latest a t j → Within (2 ^ 30) j → Within (2 ^ 40) (number_in by a j)
number-within (Group x) a v t j n l w = let f : SFits w32 j = w ∴ simp ints (omega arith) in ceil-fits (up x) f ∴ simp ints (omega arith)
number-within (Shift x) a v t j n l w = n ∴ w ∴ simp ints (omega arith)
number-within (Renumber x) a v t j n l w = number_bound a v (2 ^ 30) x j (is-label l) (n ∴ simp ints (omega arith)) w ∴ simp ints (omega arith)

module _ (by : Unary) (period distance : ℤ) (cells : List ℤ) (s : Sound period distance cells) (n : Numbers (kind_of by)) (t : ℤ) (low : pos 0 ≤ℤ t) (high : t ≤ℤ pos pool_limit) where
  abbrev row : Row
  row = given period distance cells

  pub last_within : Within (2 ^ 30) (anchored row (t -ℤ pos 1))
  last_within = latest-bound period distance cells s t _ (last-latest row (valid period distance cells s) t) low high

  pub counts-within : (k : Counted) → Counts by row t k → Within (2 ^ 40) k.number
  counts-within k c =
      let v = valid period distance cells s in
      let l = latest v c in
      subst (Within (2 ^ 40)) (sym c.is_number) (number-within by row v t k.last n l (latest-bound period distance cells s t k.last l low high))
