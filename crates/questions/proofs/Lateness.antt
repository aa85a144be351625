-- Lateness on a granule of any row that is handed in, in terms of the meaning: when each reply is given. The order is
-- "13 .. then 14, 18, 15".
-- Assumes nothing.
use mathlib.Core.Path.{◌≡◌}
use mathlib.Core.Logic.Iff
use mathlib.Core.Logic.{◌↔◌}
use mathlib.Core.Bool.{Bool, true, ◌&&◌}
use native.Mathlib.Omega.{arith}
use lib.IntN.{ℤ, pos}
use Rattle.integers.specs.Parts.{up}
use Rattle.calendar.specs.Limits.{late_limit, between, in_range}
use Rattle.calendar.specs.Meaning.{Row, meant, Has}
use Rattle.calendar.specs.Sound.{sound}
use Rattle.calendar.specs.Reply.Reply.{refused, answer}
use Rattle.calendar.specs.Granules.{has}
use Rattle.calendar.specs.Questions.{granule_length}
use Rattle.granules.proofs.Sound.{sound-valid}
use Rattle.granules.proofs.Instants.{has-iff}
use Rattle.granules.proofs.Replies.{no-refusal, no_answer, refused-apart, answer-iff, behind, refused-here, not_behind}
use Rattle.floats.specs.Allowance as F
use Rattle.floats.specs.declared.Allowance.{Allowance}
use Rattle.questions.specs.Answers.{may_be_late}

module _ (r : Row) (z d : ℤ) (a : Allowance) where
  -- rule 14: neither "a given instant or label outside ±1,000,000,000" nor "lateness outside 0 to 1,048,576"
  abbrev InLimits : Type 0
  InLimits = in_range z && between (pos 0) (pos late_limit) d ≡ true

  pub late-13 : (may_be_late r z d a ≡ refused 13) ↔ (¬ (sound r ≡ true))
  unfolding may_be_late
  late-13 = refused-here 13 (sound r) _
      (not_behind 13 14 (in_range z && between (pos 0) (pos late_limit) d) _ (λ e. omega arith)
      (not_behind 13 18 (F.is_allowed a) _ (λ e. omega arith)
      (not_behind 13 15 (has r z) _ (λ e. omega arith) no-refusal)))
      Iff.rfl

  pub late-14 : (may_be_late r z d a ≡ refused 14) ↔ ((sound r ≡ true) × ¬ InLimits)
  unfolding may_be_late
  late-14 = behind 13 (sound r) _ _ (refused-apart (λ e. omega arith)) Iff.rfl (λ p.
      refused-here 14 (in_range z && between (pos 0) (pos late_limit) d) _
      (not_behind 14 18 (F.is_allowed a) _ (λ e. omega arith) (not_behind 14 15 (has r z) _ (λ e. omega arith) no-refusal))
      Iff.rfl)

  pub late-18 : (may_be_late r z d a ≡ refused 18) ↔ ((sound r ≡ true) × InLimits × ¬ (F.is_allowed a ≡ true))
  unfolding may_be_late
  late-18 = Iff.trans
      (behind 13 (sound r) _ _ (refused-apart (λ e. omega arith)) Iff.rfl (λ p.
      behind 14 (in_range z && between (pos 0) (pos late_limit) d) _ _ (refused-apart (λ e. omega arith)) Iff.rfl (λ l.
      refused-here 18 (F.is_allowed a) _ (not_behind 18 15 (has r z) _ (λ e. omega arith) no-refusal) Iff.rfl)))
      (λ (p, (l, n)). (p, l, n), λ (p, l, n). (p, (l, n)))

  pub late-15 : (may_be_late r z d a ≡ refused 15)
      ↔ ((sound r ≡ true) × InLimits × (F.is_allowed a ≡ true) × ¬ (Has (meant r) z))
  unfolding may_be_late
  late-15 = Iff.trans
      (behind 13 (sound r) _ _ (refused-apart (λ e. omega arith)) Iff.rfl (λ p.
      behind 14 (in_range z && between (pos 0) (pos late_limit) d) _ _ (refused-apart (λ e. omega arith)) Iff.rfl (λ l.
      behind 18 (F.is_allowed a) _ _ (refused-apart (λ e. omega arith)) Iff.rfl (λ w.
      refused-here 15 (has r z) _ no-refusal (has-iff r (sound-valid r p) z)))))
      (λ (p, (l, (w, n))). (p, l, w, n), λ (p, l, w, n). (p, (l, (w, n))))

  -- "Yes exactly if d is not above it"
  pub late-answer : (b : Bool) → (may_be_late r z d a ≡ answer b)
      ↔ ((sound r ≡ true) × InLimits × (F.is_allowed a ≡ true) × Has (meant r) z
      × (F.may_be_late (up d) (granule_length r z) a ≡ b))
  unfolding may_be_late
  late-answer b = Iff.trans
      (behind 13 (sound r) _ _ no_answer Iff.rfl (λ p.
      behind 14 (in_range z && between (pos 0) (pos late_limit) d) _ _ no_answer Iff.rfl (λ l.
      behind 18 (F.is_allowed a) _ _ no_answer Iff.rfl (λ w.
      behind 15 (has r z) _ _ no_answer (has-iff r (sound-valid r p) z)
      (λ k. answer-iff (F.may_be_late (up d) (granule_length r z) a) b)))))
      (λ (p, (l, (w, (k, e)))). (p, l, w, k, e), λ (p, l, w, k, e). (p, (l, (w, (k, e)))))
