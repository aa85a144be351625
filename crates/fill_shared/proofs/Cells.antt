-- The cells of a pool: the rows of the operands, and the working row behind them.
-- Assumes nothing.
use mathlib.Core.Path.{◌≡◌, sym, ◌∙◌, ap, subst}
use mathlib.Core.List.{List, ◌++◌}
use Prim.Native.Nat.{ℕ, ◌+◌, ◌-◌, ◌≤◌}
use native.Mathlib.Omega.{arith}
use lib.Dec.{T}
use lib.IntN.{ℤ, pos, nat_abs}
use lib.Signed.{◌≤ℤ◌, non_neg}
use lib.ListN.{length, take, drop, length-drop, take-append-drop}
use lib.Seq.{length-take-le, take-append-le, drop-append-le}
use mir.Facts.{to_z-of_z, Fits-nat_abs}
use mir.Syntax.{w64}
use mir.Val.{Fits, SFits, to_z, of_z}
use Rattle.integers.specs.Parts.{up}
use Rattle.calendar.specs.Meaning.{Row}
use Rattle.calendar.specs.Questions.{given}
use Rattle.cursors.proofs.Cells.{cast-nat}
use Rattle.kinds.specs.declared.Operand.{Operand}
use Rattle.kinds.specs.Stands.{end, row_in}

-- ---- the rows of the operands

-- a number that is not below 0, as the machine casts it to an unsigned one
pub natural : {z : ℤ} → SFits w64 z → pos 0 ≤ℤ z → nat_abs (to_z w64 (of_z w64 z)) ≡ up z
natural {z} f h = ap nat_abs (to_z-of_z f) ∙ (cast-nat h).1

pub cast-natural : {z : ℤ} → SFits w64 z → pos 0 ≤ℤ z → T (non_neg (to_z w64 (of_z w64 z))) × Fits w64 (nat_abs (to_z w64 (of_z w64 z)))
cast-natural {z} f h = rw (to_z-of_z {w = w64} {z = z} f) ((cast-nat h).0, Fits-nat_abs tt f)

-- the row of an operand as it is lent: the cells from its first one to the cell e
abbrev pub lent : Operand → ℕ → List ℤ → Row
lent a e pool = given (to_z w64 (of_z w64 a.period)) (to_z w64 (of_z w64 a.distance)) (take (e - a.start) (drop a.start pool))

pub lent_is : (a : Operand) (e : ℕ) (pool : List ℤ) → e ≡ end a → SFits w64 a.period → SFits w64 a.distance → lent a e pool ≡ row_in pool a
lent_is a e pool x p n =
    let s : e - a.start ≡ up a.period = omega (arith, x) in
    rw (to_z-of_z p, to_z-of_z n, s)

pub same_rows : (P : Row → Row → Type 0) {a b c d : Row} → a ≡ c → b ≡ d → P a b → P c d
same_rows P {a} {b} {c} {d} e f p = subst (λ (x : Row). P c x) f (subst (λ (x : Row). P x b) e p)

-- a part of the front of a list
part-front : (n s : ℕ) (xs ys : List ℤ) → s + n ≤ length xs → take n (drop s (xs ++ ys)) ≡ take n (drop s xs)
part-front n s xs ys h = ap (take n) (drop-append-le s xs ys (omega arith)) ∙ take-append-le n (drop s xs) ys (simp length-drop (omega arith))

-- the cells from `at` on do not matter to a row before them
pub part-kept : (old more : List ℤ) (at s e : ℕ) → at ≤ length old → s ≤ e → e ≤ at → take (e - s) (drop s (take at old ++ more)) ≡ take (e - s) (drop s old)
part-kept old more at s e h f g =
    let front : s + (e - s) ≤ length (take at old) = omega (arith, length-take-le at old h) in
    part-front (e - s) s (take at old) more front
    ∙ sym (part-front (e - s) s (take at old) (drop at old) front)
    ∙ ap (λ (l : List ℤ). take (e - s) (drop s l)) (take-append-drop at old)

pub row_kept : (old more : List ℤ) (at : ℕ) (a : Operand) → at ≤ length old → end a ≤ at → row_in (take at old ++ more) a ≡ row_in old a
row_kept old more at a h e =
    let n : end a - a.start ≡ up a.period = omega arith in
    ap (given a.period a.distance) (rw n at (part-kept old more at a.start (end a) h (omega arith) e))
