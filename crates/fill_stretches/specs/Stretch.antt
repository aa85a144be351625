-- A stretch of a working row: what it is given, and what it leaves.
use Rattle.std.specs.Prelude.{◌≡◌, true, List, ℕ, zero, suc, ◌+◌, ◌-◌, ◌≤◌, ◌<◌, ℤ, pos, ◌+ℤ◌, ◌≤ℤ◌, ◌<ℤ◌, length, set, take, drop}
use Rattle.std.proofs.Math.Option.{Option, none, some}
use Rattle.calendar.specs.Meaning.{Row, meant, empty}
use Rattle.calendar.specs.Limits.{pool_limit, in_range}
use Rattle.calendar.specs.Questions.{given}
use Rattle.cursors.specs.Found.{Sound}
use Rattle.cursors.specs.Cursor.{cursor_at}
use Rattle.fill_stretches.specs.declared.Reached.{Reached}

-- the cell of an instant with that label: c, or empty where there is none
abbrev pub cell_where : ℤ → Option ℤ → ℤ
cell_where c none = empty
cell_where c (some j) = c

-- the row whose cells stand from `start` up to `end`
abbrev pub row_from : ℕ → ℕ → ℤ → ℤ → List ℤ → Row
row_from start end period distance pool = given period distance (take (end - start) (drop start pool))

-- the pool once the cells of n instants from t on are written, by the labels of the row r; the cell of the instant 0 is the one at `at`
abbrev pub stretched : ℤ → Row → ℕ → ℕ → ℕ → List ℤ → List ℤ
stretched c r at t zero pool = pool
stretched c r at t (suc n) pool = set (stretched c r at t n pool) (at + (t + n)) (cell_where c (meant r (pos (t + n))))

-- the pool once the n cells from k on are c
abbrev pub written : ℤ → ℕ → ℕ → List ℤ → List ℤ
written c k zero pool = pool
written c k (suc n) pool = set (written c k n pool) (k + n) c

-- the row stands before the cell `at`, and from there on there is room for `size` instants
pub record Room (start end : ℕ) (period distance : ℤ) (at size : ℕ) (pool : List ℤ) : Type 0 where
  pub is-sound : Sound period distance (take (end - start) (drop start pool))
  pub starts : start ≤ end
  pub ends : end ≤ at
  pub room : at + size ≤ length pool
  pub few : length pool ≤ pool_limit

-- p is one of these instants, or the one behind them, with its cursor in the row r
pub record Follows (r : Row) (size : ℕ) (p : Reached) : Type 0 where
  pub in-room : p.t ≤ size
  pub cursor : p.cursor ≡ cursor_at r (pos p.t)

-- c is the label of a cell, and t an instant of a working row of that size, or the one behind it
pub record InReach (c : ℤ) (t size : ℕ) : Type 0 where
  pub label : in_range c ≡ true
  pub in-room : t ≤ size
  pub few : size ≤ pool_limit

-- e is the first instant from t on whose label is above h, or is `size`, where the label of an instant u is c + u
pub record Ends (c h : ℤ) (t size e : ℕ) : Type 0 where
  pub on : t ≤ e
  pub in-room : e ≤ size
  pub below : (u : ℕ) → t ≤ u → u < e → (c +ℤ pos u) ≤ℤ h
  pub stops : e < size → h <ℤ (c +ℤ pos e)

-- the cells of the instants from p up to q are written, whose labels in r are not above h; q is the first with one above it, or is behind them all
pub record Stretched (c h : ℤ) (r : Row) (at size : ℕ) (pool : List ℤ) (p q : Reached) (new : List ℤ) : Type 0 where
  pub follows : Follows r size q
  pub on : p.t ≤ q.t
  pub cells : new ≡ stretched c r at p.t (q.t - p.t) pool
  pub below : (u : ℕ) (l : ℤ) → p.t ≤ u → u < q.t → meant r (pos u) ≡ some l → l ≤ℤ h
  pub stops : q.t < size → (l : ℤ) × (meant r (pos q.t) ≡ some l) × (h <ℤ l)

-- the cells of the instants up to q are empty, which have no label in r; q has one, or is behind them all
pub record Led (r : Row) (at size : ℕ) (pool : List ℤ) (q : Reached) (new : List ℤ) : Type 0 where
  pub follows : Follows r size q
  pub cells : new ≡ stretched empty r at 0 q.t pool
  pub unlabelled : (u : ℕ) → u < q.t → meant r (pos u) ≡ none
  pub stops : q.t < size → (l : ℤ) × (meant r (pos q.t) ≡ some l)
