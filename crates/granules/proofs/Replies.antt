-- Replies behind checks: when what stands behind a check is the reply, and when the check's own refusal is.
-- Assumes nothing.
use mathlib.Core.Path.{◌≡◌, refl, ap}
use mathlib.Core.Logic.{◌↔◌}
use mathlib.Core.Bool.{Bool, true, false, ◌&&◌}
use Prim.Native.Nat.{ℕ}
use native.Mathlib.Omega.{arith}
use Rattle.calendar.specs.Reply.{Reply, require}
use Rattle.calendar.specs.Reply.Reply.{refused, answer}
use Rattle.granules.proofs.Tests.{true≢false, both_iff}

-- ---- replies that differ

pub answer≢refused : {A : Type 0} {a : A} {n : ℕ} {x : Reply A} → x ≡ answer a → x ≡ refused n → ⊥
answer≢refused e f = let z : ◌≡◌ {A = ℕ} 0 1 = cc in omega arith

pub no-refusal : {A : Type 0} {a : A} {n : ℕ} → ¬ (◌≡◌ {A = Reply A} (answer a) (refused n))
no-refusal = answer≢refused refl

pub no_answer : {A : Type 0} {a : A} {n : ℕ} → ¬ (◌≡◌ {A = Reply A} (refused n) (answer a))
no_answer e = answer≢refused e refl

pub refused-apart : {A : Type 0} {m n : ℕ} → ¬ (m ≡ n) → ¬ (◌≡◌ {A = Reply A} (refused m) (refused n))
refused-apart {m} {n} h e = h (cc)

pub answer-iff : {A : Type 0} (a b : A) → ◌≡◌ {A = Reply A} (answer a) (answer b) ↔ (a ≡ b)
answer-iff a b = (λ e. cc, λ e. ap answer e)

-- ---- one check

pub passed : {A : Type 0} (n : ℕ) {b : Bool} (r : Reply A) → b ≡ true → require n b r ≡ r
passed n r e = ap (λ (b : Bool). require n b r) e

pub failed : {A : Type 0} (n : ℕ) {b : Bool} (r : Reply A) → b ≡ false → require n b r ≡ refused n
failed n r e = ap (λ (b : Bool). require n b r) e

-- an answer behind a check: it has passed
pub require-answer : {A : Type 0} {a : A} (n : ℕ) (b : Bool) (r : Reply A) → require n b r ≡ answer a
    → (b ≡ true) × (r ≡ answer a)
require-answer n true r e = (refl, e)
require-answer n false r e = absurd (no_answer e)

-- a reply that is not the check's own is given behind it, where P holds, which the check decides
pub behind : {A P Q : Type 0} (n : ℕ) (b : Bool) (r v : Reply A) → ¬ (refused n ≡ v)
    → (b ≡ true) ↔ P → (P → (r ≡ v) ↔ Q) → (require n b r ≡ v) ↔ (P × Q)
behind n true r v other d h = let p = d.0 refl in (λ e. (p, (h p).0 e), λ x. (h p).1 x.1)
behind n false r v other d h = (λ e. absurd (other e), λ x. absurd (true≢false (d.1 x.0) refl))

-- the check's own refusal, if none behind it has its number
pub refused-here : {A P : Type 0} (n : ℕ) (b : Bool) (r : Reply A) → ¬ (r ≡ refused n) → (b ≡ true) ↔ P
    → (require n b r ≡ refused n) ↔ (¬ P)
refused-here n true r other d = (λ e. absurd (other e), λ f. absurd (f (d.0 refl)))
refused-here n false r other d = (λ e x. true≢false (d.1 x) refl, λ f. refl)

-- no refusal under m, where none is behind a check of another number
pub not_behind : {A : Type 0} (m n : ℕ) (b : Bool) (r : Reply A) → ¬ (n ≡ m) → ¬ (r ≡ refused m)
    → ¬ (require n b r ≡ refused m)
not_behind m n true r apart other e = other e
not_behind m n false r apart other e = refused-apart apart e

-- ---- two checks of one number

two-checks : {A : Type 0} (n : ℕ) (b c : Bool) (r : Reply A) → require n b (require n c r) ≡ require n (b && c) r
two-checks n true c r = refl
two-checks n false c r = refl

pub refused-either : {A P Q : Type 0} (n : ℕ) (b c : Bool) (r : Reply A) → ¬ (r ≡ refused n)
    → (b ≡ true) ↔ P → (c ≡ true) ↔ Q → (require n b (require n c r) ≡ refused n) ↔ (¬ (P × Q))
refused-either n b c r other d e = rw two-checks (refused-here n (b && c) r other (both_iff d e))
