-- The least period of a row that is handed in, in terms of the meaning: when each reply is given.
-- Assumes nothing.
use mathlib.Core.Path.{◌≡◌, sym, ◌∙◌, ap, ap₂}
use mathlib.Core.Logic.Iff
use mathlib.Core.Logic.{◌↔◌}
use mathlib.Core.Bool.{Bool, true, false, cond}
use mathlib.Core.List.{List, [], ◌∷◌}
use Prim.Native.Nat.{ℕ, zero, suc, ◌/◌, ◌%◌, ◌≤◌}
use native.Mathlib.Omega.{arith}
use lib.Dec.{eqb}
use lib.IntN.{ℤ, pos}
use lib.ListN.{length}
use Rattle.calendar.specs.Meaning.{Calendar, Row, meant, LeastRow}
use Rattle.calendar.specs.Least.{least, repeats_after}
use Rattle.calendar.specs.Tries.{divisors, tried_of, common, tries}
use Rattle.calendar.specs.Limits.{pool_limit}
use Rattle.calendar.specs.Sound.{sound}
use Rattle.calendar.specs.Reply.Reply.{refused, answer}
use Rattle.granules.proofs.Sound.{sound-valid, sound-limits}
use Rattle.least_form.proofs.Common.{common-at-most}
use Rattle.granules.proofs.Least.{least-row, least-repeats}
use Rattle.granules.proofs.Replies.{no-refusal, no_answer, answer-iff, behind, refused-here}
use Rattle.questions.specs.Answers.{least_period}

-- two least rows of one calendar have one period
same-period : (c : Calendar) (r s : Row) → LeastRow c r → LeastRow c s → r.period ≡ s.period
same-period c r s l m =
    let a = l.least s.period s.distance m.positive.0 m.positive.1 (least-repeats c s m) in
    let b = m.least r.period r.distance l.positive.0 l.positive.1 (least-repeats c r l) in
    omega (arith, a, b)

-- refusal 13, and no other
pub least-13 : (r : Row) → (least_period r ≡ refused 13) ↔ (¬ (sound r ≡ true))
unfolding least_period
least-13 r = refused-here 13 (sound r) _ no-refusal Iff.rfl

-- the period of the least row that means what the row means, and the number tried
pub least-answer : (r : Row) (q : ℤ) (k : ℕ) → (least_period r ≡ answer (q, k))
    ↔ ((sound r ≡ true) × (((s : Row) × LeastRow (meant r) s × (q ≡ pos s.period)) × (k ≡ tries r)))
unfolding least_period
least-answer r q k = behind 13 (sound r) _ _ no_answer Iff.rfl (λ p. Iff.trans (answer-iff (pos (least r).period, tries r) (q, k)) (
    let own = least-row r (sound-valid r p) in (
      λ e. ((least r, own, sym (ap (λ (a : ℤ × ℕ). a.0) e)), sym (ap (λ (a : ℤ × ℕ). a.1) e)),
      λ (s, t). ap₂ (λ (q : ℤ) (k : ℕ). (q, k)) (ap pos (same-period (meant r) (least r) s.0 own s.1) ∙ sym s.2) (sym t),
    )))

-- ---- how many are tried at most

divisors-few : (g n : ℕ) → length (divisors g n) ≤ n
divisors-few g zero = omega arith
divisors-few g (suc n) = by (eqb (g % suc n) 0) (divisors-few g n)
  where
    by : (b : Bool) → length (divisors g n) ≤ n → length (cond b (suc n ∷ divisors g n) (divisors g n)) ≤ suc n
    by true h = omega arith
    by false h = omega arith

tried-few : (r : Row) (l : List ℕ) → tried_of r l ≤ length l
tried-few r [] = omega arith
tried-few r (m ∷ l) = by (repeats_after r (r.period / m)) (tried-few r l)
  where
    by : (b : Bool) → tried_of r l ≤ length l → elim b [ true ↦ 1 | false ↦ suc (tried_of r l) ] ≤ suc (length l)
    by true h = omega arith
    by false h = omega arith

-- no more than a period has instants
pub tried-within : (r : Row) (q : ℤ) (k : ℕ) → answer (q, k) ≡ least_period r → k ≤ pool_limit
unfolding tries
tried-within r q k e =
    let a = (least-answer r q k).0 (sym e) in
    let g = common r in
    omega (arith, a.1.1, tried-few r (divisors g g), divisors-few g g, common-at-most r (sound-valid r a.0), (sound-limits r a.0).1)
