-- A stretch of a claimed row: what it is given, and what it tells.
use Rattle.std.specs.Prelude.{◌≡◌, Bool, true, ◌&&◌, List, ℕ, zero, suc, ◌+◌, ◌-◌, ◌≤◌, ◌<◌, ℤ, pos, ◌≤ℤ◌, ◌<ℤ◌, length}
use Rattle.std.proofs.Math.Option.{Option, none, some}
use Rattle.calendar.specs.Meaning.{Row, meant}
use Rattle.calendar.specs.Lists.{on_label, same_label}
use Rattle.calendar.specs.Limits.{pool_limit}
use Rattle.cursors.specs.Cursor.{cursor_at}
use Rattle.kinds.specs.declared.Operand.{Operand}
use Rattle.kinds.specs.Stands.{Stands}
use Rattle.match_stretches.specs.declared.Compared.{Compared}

-- `same`, and whether the row r has the label y at those of the n instants from t on that have a label in the row a, and none at the others
abbrev pub same_along : Bool → Option ℤ → Row → Row → ℕ → ℕ → Bool
same_along same y a r t zero = same
same_along same y a r t (suc n) = let u = pos (t + n) in same_along same y a r t n && same_label (meant r u) (on_label (meant a u) (λ j. y))

-- the row a that is followed and the claimed row r stand in the pool
pub record Room (a r : Operand) (size : ℕ) (pool : List ℤ) : Type 0 where
  pub followed : Stands pool a
  pub claim : Stands pool r
  pub few : length pool ≤ pool_limit
  pub in-room : size ≤ pool_limit

-- p is one of `size` instants, or the one behind them, with its cursors in the rows a and r
pub record Follows (a r : Row) (size : ℕ) (p : Compared) : Type 0 where
  pub in-room : p.t ≤ size
  pub cursor : p.cursor ≡ cursor_at a (pos p.t)
  pub claim : p.claim ≡ cursor_at r (pos p.t)

-- the instants from p up to q are compared, whose labels in a are not above h
pub record Passed (y : Option ℤ) (h : ℤ) (a r : Row) (size : ℕ) (p q : Compared) : Type 0 where
  pub follows : Follows a r size q
  pub on : p.t ≤ q.t
  pub same : q.same ≡ same_along p.same y a r p.t (q.t - p.t)
  pub below : (u : ℕ) (l : ℤ) → p.t ≤ u → u < q.t → meant a (pos u) ≡ some l → l ≤ℤ h

-- and q is the first whose label is above h, or is behind them all
pub record Stretched (y : Option ℤ) (h : ℤ) (a r : Row) (size : ℕ) (p q : Compared) : Type 0 where
  pub passed : Passed y h a r size p q
  pub stops : q.t < size → (l : ℤ) × (meant a (pos q.t) ≡ some l) × (h <ℤ l)

-- the instants up to q are compared, which have no label in a; q has one, or is behind them all
pub record Led (a r : Row) (size : ℕ) (q : Compared) : Type 0 where
  pub follows : Follows a r size q
  pub same : q.same ≡ same_along true none a r 0 q.t
  pub unlabelled : (u : ℕ) → u < q.t → meant a (pos u) ≡ none
  pub stops : q.t < size → (l : ℤ) × (meant a (pos q.t) ≡ some l)
