-- The operation that an entry names, over the rows that stand in the pool.
-- Assumes nothing.
use Rattle.calendar.specs.declared.Refusal.{Refusal}
use Rattle.std.specs.Prelude.{Result}
use mathlib.Core.Path.{◌≡◌, refl, sym, ◌∙◌, ap, ap₂, subst}
use mathlib.Core.Bool.{true}
use mathlib.Core.List.{List}
use Prim.Native.Nat.{ℕ, zero, suc, ◌-◌, ◌*◌, ◌+◌, ◌≤◌, ◌<◌}
use native.Mathlib.Omega.{arith}
use lib.IntN.{ℤ}
use lib.ListN.{length, get_or}
use Rattle.integers.proofs.Linear.{ints}
use Rattle.calendar.specs.Meaning.{Row, bottom_row}
use Rattle.calendar.specs.Operation.{Operation, map_operation}
use Rattle.calendar.specs.Sound.{sound}
use Rattle.calendar.specs.Limits.{pool_limit, heading_length}
use Rattle.calendar.specs.Outcome.{converted, at_rows}
use Rattle.algebra.specs.Ready.{Operands}
use Rattle.algebra.proofs.Operations.{operands-weaken}
use Rattle.algebra.proofs.Stored.{get_or-mem}
use Rattle.kinds.specs.declared.Kind.{Kind}
use Rattle.kinds.specs.declared.Kind.TheVariants.{Bottom, Group, Shift, Alter, Combine, Anchor, Select, ByLabels, Renumber}
use Rattle.kinds.specs.declared.Operand.{Operand}
use Rattle.kinds.specs.Operations.{operation_of, operands, SoundFirst}
use Rattle.kinds.specs.Stands.{row_in, Counted, CountedFirst}
use Rattle.entries.specs.declared.Named.{Named}
use Rattle.entries.specs.Naming.{Names}
use Rattle.fill_shared.specs.Placed.{over}
use Rattle.row_entry.specs.Stores.{Stores}
use Rattle.row_entry.specs.Entering.{operand_of, Before, Enterable, Became}
use Rattle.row_entry.proofs.Standing.{operand-ends, operand_row, operand-counted}

-- ---- kind by kind

-- the rows f of the operands are the rows g
rows_alike : (f g : ℕ → Row) (i j : ℕ) (k : Kind) → Operands (λ n. f n ≡ g n) (operation_of k i j) → operation_of k (f i) (f j) ≡ map_operation g (operation_of k i j)
rows_alike f g i j Bottom e = refl
rows_alike f g i j (Group x) e = ap (λ (r : Row). operation_of (Group x) r r) e
rows_alike f g i j (Shift x) e = ap (λ (r : Row). operation_of (Shift x) r r) e
rows_alike f g i j (Alter w) e = ap₂ (operation_of (Alter w)) e.0 e.1
rows_alike f g i j Combine e = ap₂ (operation_of Combine) e.0 e.1
rows_alike f g i j Anchor e = ap₂ (operation_of Anchor) e.0 e.1
rows_alike f g i j (Select x) e = ap₂ (operation_of (Select x)) e.0 e.1
rows_alike f g i j (ByLabels x) e = ap₂ (operation_of (ByLabels x)) e.0 e.1
rows_alike f g i j (Renumber x) e = ap (λ (r : Row). operation_of (Renumber x) r r) e

-- both, if there is an operand at all
abbrev First : ℕ → Type 0 → Type 0 → Type 0
First zero A B = Unit {0}
First (suc n) A B = A × B

-- what holds of an operand that is given twice holds twice
again : (P : ℕ → Type 0) (i j : ℕ) → j ≡ i → P i → P i × P j
again P i j e p = (p, subst P (sym e) p)

both : (P : ℕ → Type 0) (i j : ℕ) (k : Kind) → (operands k < 2 → j ≡ i) → Operands P (operation_of k i j) → First (operands k) (P i) (P j)
both P i j Bottom e h = tt
both P i j (Group x) e h = again P i j (e (omega arith)) h
both P i j (Shift x) e h = again P i j (e (omega arith)) h
both P i j (Alter w) e h = h
both P i j Combine e h = h
both P i j Anchor e h = h
both P i j (Select x) e h = h
both P i j (ByLabels x) e h = h
both P i j (Renumber x) e h = again P i j (e (omega arith)) h

sound-first : (n : ℕ) (a b : Row) → First n (sound a ≡ true) (sound b ≡ true) → SoundFirst n a b
sound-first zero a b h = h
sound-first (suc n) a b h = h

counted-first : (n : ℕ) (pool : List ℤ) (a b : Operand) → First n (Counted pool a) (Counted pool b) → CountedFirst n pool a b
counted-first zero pool a b h = h
counted-first (suc n) pool a b h = h

-- ---- in a pool

module _ (l : List Row) (k : ℕ) (headings : List ℕ) (pool : List ℤ) (used : ℕ) (many : length l ≡ k) (s : Stores l headings pool used)
    (n : Named) (o : Operation ℕ) (names : Names k o n)
    (a b : Operand) (a-is : a ≡ operand_of headings n.first) (b-is : b ≡ operand_of headings n.second) where
  abbrev row : ℕ → Row
  row j = row_in pool (operand_of headings j)

  earlier : Operands (λ j. j < length l) (operation_of n.kind n.first n.second)
  earlier = rw (names.is, many) names.earlier

  rows_are : over n.kind pool (operand_of headings n.first) (operand_of headings n.second) ≡ at_rows l o
  rows_are =
      rows_alike row (λ j. get_or l j bottom_row) n.first n.second n.kind (operands-weaken (λ j b. operand_row s j b) (operation_of n.kind n.first n.second) earlier)
      ∙ ap (at_rows l) names.is

  -- it is over the rows that the entry names
  pub over-is : over n.kind pool a b ≡ at_rows l o
  over-is = ap₂ (over n.kind pool) a-is b-is ∙ rows_are

  -- what holds of the operand of each row holds of both
  of-both : (P : ℕ → Type 0) → ((j : ℕ) → j < length l → P j) → First (operands n.kind) (P n.first) (P n.second)
  of-both P h = both P n.first n.second n.kind names.twice (operands-weaken h (operation_of n.kind n.first n.second) earlier)

  sounds : SoundFirst (operands n.kind) (row n.first) (row n.second)
  sounds =
      sound-first (operands n.kind) (row n.first) (row n.second)
      (of-both (λ j. sound (row j) ≡ true) (λ j b. ap sound (operand_row s j b) ∙ s.all_sound (get_or l j bottom_row) (get_or-mem l bottom_row j b)))

  counted : CountedFirst (operands n.kind) pool (operand_of headings n.first) (operand_of headings n.second)
  counted =
      counted-first (operands n.kind) pool (operand_of headings n.first) (operand_of headings n.second)
      (of-both (λ j. Counted pool (operand_of headings j)) (operand-counted s))

  before : (j : ℕ) → Before used (operand_of headings j)
  before j = record { period = simp ints (omega arith); ends = operand-ends s j }

  pub enterable : length pool ≤ pool_limit → heading_length * k + heading_length ≤ length headings → Enterable n.kind a b k used headings pool
  enterable limit heading =
      rw (a-is, b-is) (record {
        numbers = names.numbers;
        sounds = sounds;
        counted = counted;
        twice = λ h. ap (operand_of headings) (names.twice h);
        a-before = before n.first;
        b-before = before n.second;
        fits = s.fits;
        at-most = limit;
        has-heading = heading;
      })

  pub became-as : (c : Result ℕ Refusal) (numbers : List ℕ) (after : List ℤ)
      → Became k used headings pool (converted (over n.kind pool a b) (length pool - used)) c numbers after
      → Became k used headings pool (converted (at_rows l o) (length pool - used)) c numbers after
  became-as c numbers after = subst (λ (x : Operation Row). Became k used headings pool (converted x (length pool - used)) c numbers after) over-is
