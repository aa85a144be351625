-- Demand 3 applies to the two entries of an example.
use mathlib.Core.Path.{◌≡◌, refl, sym, ◌∙◌, ap}
use mathlib.Core.Logic.{◌↔◌}
use mathlib.Core.Option.{Option, some}
use mathlib.Core.List.{List, [], ◌∷◌, map}
use Prim.Native.Nat.{ℕ, zero, suc, ◌<◌}
use native.Mathlib.Omega.{arith}
use lib.IntN.{ℤ}
use lib.ListN.{length, get_or, get_elem?}
use Rattle.calendar.specs.Meaning.{Row, meant, Calendar, Same, Has}
use Rattle.calendar.specs.Outcome.{outcome, Outcome}
use Rattle.calendar.specs.Outcome.Outcome.{refused_at, rows}
use Rattle.laws.specs.Terms.{Term}
use Rattle.laws.specs.Laws.{Law, LabelLaw}
use Rattle.laws.specs.Matches.{calendar_at, EqualRows, row_at}
use Rattle.laws.specs.Example.{example_headings, example_pool, rows_in, Side, Example, Applies, LabelExample}
use Rattle.laws.proofs.Answered.{stored-length, stored-represents, answered}
use Rattle.laws.proofs.Demand3.{demand-3-rows, demand-3-labels, labels-through}

-- ---- rows by their numbers

element-some : (l : List Row) (k : ℕ) (r : Row) → get_elem? l k ≡ some r → (k < length l) × (row_at l k ≡ r)
element-some [] k r e = let z : ◌≡◌ {A = ℕ} 0 1 = cc in absurd (omega arith)
element-some (s ∷ l) zero r e = (omega arith, cc)
element-some (s ∷ l) (suc k) r e = let h = element-some l k r e in (omega arith, h.1)

-- the rows of the entries ks, one by one; behind the last of them, k with the row r
elements-some : (l : List Row) (k : ℕ) (r : Row) → get_elem? l k ≡ some r → (ks : List ℕ) (rs : List Row) → map (get_elem? l) ks ≡ map some rs
    → (n : ℕ) → get_elem? l (get_or ks n k) ≡ some (get_or rs n r)
elements-some l k r h [] [] e n = h
elements-some l k r h [] (s ∷ rs) e n = let z : ◌≡◌ {A = ℕ} 0 1 = cc in absurd (omega arith)
elements-some l k r h (j ∷ ks) [] e n = let z : ◌≡◌ {A = ℕ} 0 1 = cc in absurd (omega arith)
elements-some l k r h (j ∷ ks) (s ∷ rs) e zero = cc
elements-some l k r h (j ∷ ks) (s ∷ rs) e (suc n) = elements-some l k r h ks rs (cc) n

abbrev of_outcome : List ℕ → Outcome → List (Option Row)
of_outcome ks o = elim o [ refused_at m k ↦ [] | rows l ↦ map (get_elem? l) ks ]

rows_in-is : (t : List ℤ) (ks : List ℕ) → rows_in t ks ≡ of_outcome ks (outcome t example_headings example_pool)
unfolding rows_in
rows_in-is t ks = refl

-- ---- a side

-- the entry of the operand n, or the entry itself where there are not so many
abbrev entry_of : {s : Term} {rs : List Row} {r : Row} → Side s rs r → ℕ → ℕ
entry_of side n = get_or side.operands n side.entry

-- the rows that its table stores, and where its entries stand
record Placed {s : Term} {rs : List Row} {r : Row} (side : Side s rs r) : Type 0 where
  stored : List Row
  stores : outcome side.table example_headings example_pool ≡ rows stored
  entry_in : side.entry < length stored
  operand_in : (n : ℕ) → entry_of side n < length stored
  operand_row : (n : ℕ) → row_at stored (entry_of side n) ≡ get_or rs n r

placed : {s : Term} {rs : List Row} {r : Row} (side : Side s rs r) → Placed side
placed {rs} {r} side = by (outcome side.table example_headings example_pool) refl (sym (rows_in-is side.table (side.entry ∷ side.operands)) ∙ side.stored)
  where
    by : (o : Outcome) → outcome side.table example_headings example_pool ≡ o → of_outcome (side.entry ∷ side.operands) o ≡ map some (r ∷ rs) → Placed side
    by (refused_at m k) p e = let z : ◌≡◌ {A = ℕ} 0 1 = cc in absurd (omega arith)
    by (rows l) p e =
        let first : get_elem? l side.entry ≡ some r = cc in
        let all = elements-some l side.entry r first side.operands rs (cc) in
        record {
          stored = l;
          stores = p;
          entry_in = (element-some l side.entry r first).0;
          operand_in = λ n. (element-some l (entry_of side n) (get_or rs n r) (all n)).0;
          operand_row = λ n. (element-some l (entry_of side n) (get_or rs n r) (all n)).1;
        }

-- ---- both

pub applies : {s s' : Term} {law : Law s s'} {rs : List Row} {r : Row} → Example law rs r → Applies law
applies {rs} {r} e =
    let p = placed e.left in
    let q = placed e.right in
    let x = answered e.left.table example_headings example_pool p.stored p.stores in
    let y = answered e.right.table example_headings example_pool q.stored q.stores in
    let v : ℕ → Calendar = λ n. calendar_at x.meanings (entry_of e.left n) in
    let operand-x : (n : ℕ) → entry_of e.left n < length x.meanings = λ n. omega (arith, stored-length x, p.operand_in n) in
    let operand-y : (n : ℕ) → entry_of e.right n < length y.meanings = λ n. omega (arith, stored-length y, q.operand_in n) in
    let same : (n : ℕ) → Same (calendar_at y.meanings (entry_of e.right n)) (v n) = λ n.
    (demand-3-rows y x (entry_of e.right n) (entry_of e.left n) (operand-y n) (operand-x n)).1 (equal (q.operand_row n ∙ sym (p.operand_row n))) in
    record {
      x = x;
      y = y;
      k = e.left.entry;
      l = e.right.entry;
      k-answered = omega (arith, stored-length x, p.entry_in);
      l-answered = omega (arith, stored-length y, q.entry_in);
      v = v;
      left = e.left.matches x.meanings v (λ n t. refl);
      right = e.right.matches y.meanings v same;
    }
  where
    equal : {r s : Row} → r ≡ s → EqualRows r s
    equal e = (ap (λ (r : Row). r.period) e, ap (λ (r : Row). r.distance) e, ap (λ (r : Row). r.cells) e)

-- ---- a law of labels

-- the rows of both sides have the same labels
pub labels-alike : {s s' : Term} {law : LabelLaw s s'} {r r' : Row} → LabelExample law r r' → (j : ℤ) → Has (meant r) j ↔ Has (meant r') j
labels-alike {s} {s'} {law} {r} {r'} e =
    by (outcome e.table example_headings example_pool) refl (sym (rows_in-is e.table (e.left ∷ e.right ∷ [])) ∙ e.stored)
  where
    by : (o : Outcome) → outcome e.table example_headings example_pool ≡ o → of_outcome (e.left ∷ e.right ∷ []) o ≡ map some (r ∷ r' ∷ [])
        → (j : ℤ) → Has (meant r) j ↔ Has (meant r') j
    by (refused_at m k) p q = let z : ◌≡◌ {A = ℕ} 0 1 = cc in absurd (omega arith)
    by (rows l) p q =
        let left = element-some l e.left r (cc) in
        let right = element-some l e.right r' (cc) in
        let x = answered e.table example_headings example_pool l p in
        let in_left : e.left < length x.meanings = omega (arith, stored-length x) in
        let in_right : e.right < length x.meanings = omega (arith, stored-length x) in
        let means-left : Same (meant r) (calendar_at x.meanings e.left) = rw left.1 at (stored-represents x e.left in_left).least.means in
        let means-right : Same (meant r') (calendar_at x.meanings e.right) = rw right.1 at (stored-represents x e.right in_right).least.means in
        labels-through (calendar_at x.meanings e.left) (calendar_at x.meanings e.right) (meant r) (meant r') means-left means-right
        (demand-3-labels x x e.left e.right in_left in_right s s' law (λ n. calendar_at x.meanings (e.operand n))
        (e.left-matches x.meanings) (e.right-matches x.meanings))
