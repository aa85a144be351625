-- A span that is within the room, and one that is not.
-- Assumes nothing.
use Rattle.std.specs.Prelude.{None, Some}
use mathlib.Core.Path.{◌≡◌, ap}
use mathlib.Core.Bool.{true, false}
use Prim.Native.Nat.{ℕ, ◌≤◌, ◌<◌, ◌^◌}
use native.Mathlib.Omega.{arith}
use borrow.Author.Tests.{le-leb, lt-leb}
use lib.Dec.{leb}
use lib.IntN.{ℤ, pos}
use mir.Syntax.{w64}
use mir.Val.{SFits}
use Rattle.integers.specs.Parts.{up}
use Rattle.integers.specs.Capped.{capped_at}
use Rattle.integers.proofs.Linear.{ints, ◌∴◌}
use Rattle.integers.proofs.Cap.{within-is, too-long-is}
use Rattle.calendar.specs.Limits.{pool_limit}
use Rattle.calendar.specs.Meaning.{Row}
use Rattle.calendar.specs.Size.{turn, span_of}
use Rattle.alignment.specs.Pass.{Spanned}
use Rattle.operand_checks.specs.Shared.{IsRoom}
use Rattle.operand_checks.proofs.Naturals.{up-mono}

-- a capped number, by a test
pub capped-past : (cap n : ℕ) → capped_at cap n ≡ None → leb n cap ≡ false
capped-past cap n e = lt-leb n cap (too-long-is e)

pub capped-passes : (cap n : ℕ) {m : ℕ} → capped_at cap n ≡ Some m → leb n cap ≡ true
capped-passes cap n e = le-leb n cap (within-is e).1

-- a number within the room is no longer than a pool
module _ {room : ℤ} (h : IsRoom room) (n : ℕ) {m : ℕ} (e : capped_at (up room) n ≡ Some m) where
  pub capped-limit : m ≤ pool_limit
  capped-limit = let w = within-is e in omega (arith, up-mono h.1)

  pub capped-half : m < 2 ^ 63
  capped-half = omega (arith, capped-limit)

  pub capped_fits : SFits w64 (pos m)
  capped_fits = capped-limit ∴ simp ints (omega arith)

pub capped-spanned : (a b : Row) {room : ℤ} {s : ℕ} → IsRoom room → capped_at (up room) (span_of (turn a) (turn b)) ≡ Some s → Spanned a b (pos s)
capped-spanned a b {room} {s} h e = record { is-span = ap pos (within-is e).0; at-most = capped-limit h (span_of (turn a) (turn b)) e ∴ simp ints (omega arith) }
