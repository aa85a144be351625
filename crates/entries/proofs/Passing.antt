-- What checks 4, 5 and 6 say of an entry that passes them.
-- Assumes nothing.
use mathlib.Core.Path.{◌≡◌, refl, sym, ◌∙◌, ap}
use mathlib.Core.Logic.{⊎_elim}
use mathlib.Core.Bool.{true, not, ◌&&◌, ◌||◌}
use Prim.Native.Nat.{ℕ, suc, ◌≤◌}
use native.Mathlib.Omega.{arith}
use lib.Dec.{leb, ltb}
use lib.IntN.{ℤ, pos, negsuc, neg_ℤ}
use lib.Signed.{◌≤ℤ◌}
use Rattle.integers.specs.Parts.{up}
use Rattle.integers.proofs.Linear.{ints}
use Rattle.calendar.specs.Operation.{Operation}
use Rattle.calendar.specs.Reply.Reply.{answer}
use Rattle.calendar.specs.Limits.{between, label_limit, million}
use Rattle.calendar.specs.Table.{Entry, zero?, earlier, named, factor, label, altering, picking}
use Rattle.granules.proofs.Tests.{true≢false, and-iff, or-iff, not_iff, false-iff, between-iff, ltb_iff, leb-iff, equal-iff}
use Rattle.granules.proofs.Replies.{require-answer}
use Rattle.algebra.proofs.Working.{in_range-iff}
use Rattle.kinds.specs.declared.Pick.{Pick}
use Rattle.kinds.specs.Limits.{PickLimits, Limits}
use Rattle.kinds.specs.declared.Alteration.{Alteration}
use Rattle.entries.specs.Entries.{kind_of}

-- ---- the limits of the numbers

pub factor-limits : (e : Entry) → factor e ≡ true → (pos 1 ≤ℤ e.x) × (e.x ≤ℤ million)
factor-limits e h = (between-iff (pos 1) million e.x).0 ((and-iff (between (pos 1) million e.x) _).0 h).0

pub label-limits : (e : Entry) → label e ≡ true → (neg_ℤ label_limit ≤ℤ e.x) × (e.x ≤ℤ label_limit)
label-limits e h = (in_range-iff e.x).0 ((and-iff _ _).0 h).0

pub altering-limits : (e : Entry) (w : Alteration) → w.x ≡ e.x → w.y ≡ e.y → w.z ≡ e.z → altering e ≡ true → Limits w
altering-limits e w p q r h =
    let a = (and-iff (between (pos 1) million e.x) _).0 h in
    let b = (and-iff (between (pos 1) e.x e.y) (between (neg_ℤ million) million e.z)).0 a.1 in
    let x = (between-iff (pos 1) million e.x).0 a.0 in
    let y = (between-iff (pos 1) e.x e.y).0 b.0 in
    let z = (between-iff (neg_ℤ million) million e.z).0 b.1 in
    record {
      x-low = rw p x.0;
      x-high = rw p x.1;
      y-low = rw q y.0;
      y-high = rw (p, q) y.1;
      z-low = rw r z.0;
      z-high = rw r z.1;
    }

pub picking-limits : (e : Entry) (p : Pick) → p.x ≡ e.x → p.y ≡ e.y → picking e ≡ true → PickLimits p
picking-limits e p q r h =
    let a = (and-iff (not (zero? e.x)) _).0 h in
    let b = (and-iff (between (neg_ℤ million) million e.x) _).0 a.1 in
    let c = (and-iff (between (pos 1) million e.y) (zero? e.z)).0 b.1 in
    let x = (between-iff (neg_ℤ million) million e.x).0 b.0 in
    let y = (between-iff (pos 1) million e.y).0 c.0 in
    record {
      not-zero = λ z. (false-iff (equal-iff (pos 0) e.x)).0 ((not_iff (zero? e.x)).0 a.0) (sym (sym q ∙ z));
      x-low = rw q x.0;
      x-high = rw q x.1;
      y-low = rw r y.0;
      y-high = rw r y.1;
    }

-- ---- an entry that passes the checks

-- it names the operation o, behind k others
pub record Passed (k : ℕ) (e : Entry) (o : Operation ℕ) : Type 0 where
  pub low : pos 0 ≤ℤ e.kind
  pub high : e.kind ≤ℤ pos 12
  pub numbers : (kind_of (up e.kind)).numbers e ≡ true
  pub is : (kind_of (up e.kind)).operation e ≡ o
  pub first-low : pos 0 ≤ℤ e.first
  pub first : up e.first ≤ k
  pub second-low : pos 0 ≤ℤ e.second
  pub second : up e.second ≤ k

-- an operand that has passed checks 5 and 6: earlier where the kind names it, or else 0
earlier-passed : (k : ℕ) (z : ℤ) → earlier k z ≡ true → (pos 0 ≤ℤ z) × (up z ≤ k)
earlier-passed k (pos n) e = let h = (ltb_iff n k).0 e in (simp ints (omega arith), omega arith)
earlier-passed k (negsuc n) e = absurd (true≢false e refl)

operand-passed : (k n m : ℕ) (z : ℤ) → ltb n (suc m) || earlier k z ≡ true → leb (suc m) n || zero? z ≡ true → (pos 0 ≤ℤ z) × (up z ≤ k)
operand-passed k n m z p q =
    ⊎_elim
    (λ l. ⊎_elim
    (λ h. absurd (let l = (ltb_iff n (suc m)).0 l in let h = (leb-iff (suc m) n).0 h in omega arith))
    (λ h. let is : pos 0 ≡ z = (equal-iff (pos 0) z).0 h in rw (← is) (simp ints (omega arith), omega arith))
    ((or-iff (leb (suc m) n) (zero? z)).0 q))
    (earlier-passed k z)
    ((or-iff (ltb n (suc m)) (earlier k z)).0 p)

pub passed : (k : ℕ) (e : Entry) (o : Operation ℕ) → named k e ≡ answer o → Passed k e o
unfolding named
passed k e o h =
    let m = kind_of (up e.kind) in
    let n = m.operands in
    let first = ltb n 1 || earlier k e.first in
    let second = ltb n 2 || earlier k e.second in
    let r₄ = require-answer 4 (between (pos 0) (pos 12) e.kind) _ h in
    let r₅ = require-answer 5 (first && second) _ r₄.1 in
    let r₆ = require-answer 6 ((leb 1 n || zero? e.first) && ((leb 2 n || zero? e.second) && m.numbers e)) _ r₅.1 in
    let p = (and-iff first second).0 r₅.0 in
    let q = (and-iff (leb 1 n || zero? e.first) _).0 r₆.0 in
    let r = (and-iff (leb 2 n || zero? e.second) (m.numbers e)).0 q.1 in
    let b = (between-iff (pos 0) (pos 12) e.kind).0 r₄.0 in
    let f = operand-passed k n 0 e.first p.0 q.0 in
    let s = operand-passed k n 1 e.second p.1 r.0 in
    record {
      low = b.0;
      high = b.1;
      numbers = r.1;
      is = cc r₆.1;
      first-low = f.0;
      first = f.1;
      second-low = s.0;
      second = s.1;
    }

-- its kind is n
pub passed-at : (k : ℕ) (e : Entry) (o : Operation ℕ) (n : ℕ) → e.kind ≡ pos n → Passed k e o → ((kind_of n).numbers e ≡ true) × ((kind_of n).operation e ≡ o)
passed-at k e o n q p = let u : up e.kind ≡ n = ap up q in (rw u at p.numbers, rw u at p.is)
