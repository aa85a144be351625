-- The rows of a pool with one more behind them.
-- Assumes nothing.
use Rattle.std.specs.Prelude.{Err, Ok, Result}
use mathlib.Core.Path.{◌≡◌, refl, sym, ◌∙◌, ap, ap₂, subst}
use mathlib.Core.Logic.{⊎_elim}
use mathlib.Core.Bool.{true}
use mathlib.Core.List.Memᴰ
use mathlib.Core.List.{List, [], ◌∷◌, ◌++◌, append_assoc, append-nil, Memᴰ}
use Prim.Native.Nat.{ℕ, ◌+◌, ◌-◌, ◌*◌, ◌≤◌}
use native.Mathlib.Omega.{arith}
use lib.IntN.{ℤ}
use lib.ListN.{length, take, drop, replicate, length-append, length-replicate}
use lib.Seq.{take_at, drop_at, drop-drop}
use Rattle.calendar.specs.Meaning.{Row}
use Rattle.calendar.specs.Operation.{Operation}
use Rattle.calendar.specs.Sound.{sound}
use Rattle.calendar.specs.Granules.{granules}
use Rattle.calendar.specs.Limits.{pool_limit, heading_length}
use Rattle.calendar.specs.declared.Refusal.{Refusal}
use Rattle.calendar.specs.Refusals.{number_of}
use Rattle.calendar.specs.Reply.{Reply, and_then}
use Rattle.calendar.specs.Reply.Reply.{refused, answer}
use Rattle.calendar.specs.Table.{Entry, entry_at, named}
use Rattle.calendar.specs.Outcome.{converted, judged, at_rows}
use Rattle.calendar.specs.Stored.{joined, headings_from}
use Rattle.calendar.specs.Lists.{filled}
use Rattle.granules.proofs.Sound.{sound-valid}
use Rattle.algebra.proofs.Stored.{entry-sound}
use Rattle.algebra.proofs.Steps.{judged-is}
use Rattle.row_entry.specs.Stores.{Stores, Entered}
use Rattle.row_entry.specs.Entering.{Added, Kept, Became}
use Rattle.row_entry.proofs.Cells.{drop-alike}
use Rattle.conversion.proofs.Headings.{headings-length}

-- ---- one behind the others

joined-behind : (l : List Row) (r : Row) → joined (l ++ (r ∷ [])) ≡ joined l ++ r.cells
joined-behind [] r = append-nil r.cells
joined-behind (s ∷ l) r = ap (λ (c : List ℤ). s.cells ++ c) (joined-behind l r) ∙ sym (append_assoc s.cells (joined l) r.cells)

-- a heading and what is behind it
abbrev headed : ℕ → Row → List ℕ → List ℕ
headed s r n = s ∷ r.period ∷ r.distance ∷ granules r ∷ n

headings-behind : (l : List Row) (r : Row) (s : ℕ) → ((r : Row) → Memᴰ r l → sound r ≡ true)
    → headings_from s (l ++ (r ∷ [])) ≡ headings_from s l ++ headed (s + length (joined l)) r []
headings-behind [] r s h = let e : s ≡ s + 0 = omega arith in ap (λ (n : ℕ). headed n r []) e
headings-behind (c ∷ l) r s h =
    let whole = (sound-valid c (h c (Memᴰ.head refl))).whole in
    let e : s + c.period + length (joined l) ≡ s + length (c.cells ++ joined l) = simp length-append (omega arith) in
    ap (headed s c) (headings-behind l r (s + c.period) (λ d m. h d (Memᴰ.tail m)) ∙ ap (λ (n : ℕ). headings_from (s + c.period) l ++ headed n r []) e)

-- ---- the rows l, and r behind them

module _ (l : List Row) (k used e : ℕ) (numbers headings : List ℕ) (before pool : List ℤ) (r : Row) (many : length l ≡ k)
    (s : Stores l numbers before used) (a : Added k used numbers before r e headings pool) (heading : heading_length * k + heading_length ≤ length numbers)
    (is-sound : sound r ≡ true) (fits : r.period ≤ length before - used) (same : length pool ≡ length before) where
  whole : length r.cells ≡ r.period
  whole = (sound-valid r is-sound).whole

  -- the headings
  abbrev old : List ℕ
  old = headings_from 0 l

  abbrev new : List ℕ
  new = headings_from 0 (l ++ (r ∷ []))

  abbrev left : ℕ
  left = length numbers - length old

  old-length : length old ≡ heading_length * k
  old-length = omega (arith, headings-length 0 l)

  old-is : take (heading_length * k) numbers ≡ old
  old-is = ap (take (heading_length * k)) s.numbers ∙ take_at old (replicate left 0) (heading_length * k) old-length

  rest-is : drop (heading_length * k + heading_length) numbers ≡ replicate (left - heading_length) 0
  rest-is =
      sym (drop-drop heading_length (heading_length * k) numbers) ∙ ap (drop heading_length) (ap (drop (heading_length * k)) s.numbers ∙ drop_at old (replicate left 0) (heading_length * k) old-length) ∙ drop-alike 0 left heading_length

  written : headings ≡ old ++ headed used r (replicate (left - heading_length) 0)
  written = a.heading ∙ ap₂ (λ (o n : List ℕ). o ++ headed used r n) old-is rest-is

  new_is : new ≡ old ++ headed used r []
  new_is = headings-behind l r 0 s.all_sound ∙ ap (λ (n : ℕ). old ++ headed n r []) (omega arith)

  zeros : left - heading_length ≡ length headings - length new
  zeros =
      let h = ap length written ∙ length-append old (headed used r (replicate (left - heading_length) 0)) in
      let n = ap length new_is ∙ length-append old (headed used r []) in
      omega (arith, length-replicate {A = ℕ} (left - heading_length) 0)

  numbers-are : headings ≡ filled (length headings) 0 new
  numbers-are =
      written ∙ sym (append_assoc old (headed used r []) (replicate (left - heading_length) 0)) ∙ ap₂ (λ (o : List ℕ) (n : ℕ). o ++ replicate n 0) (sym new_is) zeros

  -- the cells
  abbrev cells : List ℤ
  cells = joined (l ++ (r ∷ []))

  cells-length : length cells ≡ used + r.period
  cells-length = ap length (joined-behind l r) ∙ length-append (joined l) r.cells ∙ omega (arith, whole, s.ends)

  cells_are : take e pool ≡ cells
  cells_are = ap (λ (n : ℕ). take n pool) a.ends ∙ a.cells ∙ ap (λ (c : List ℤ). c ++ r.cells) s.cells ∙ sym (joined-behind l r)

  stored : Stores (l ++ (r ∷ [])) headings pool e
  stored = record {
    numbers = numbers-are;
    cells = cells_are;
    ends = a.ends ∙ sym cells-length;
    fits = omega (arith, a.ends, s.fits);
    all_sound = λ c m. ⊎_elim (s.all_sound c) (λ i. subst (λ (c : Row). sound c ≡ true) (sym (Memᴰ.eq_of_singleton i)) is-sound) (Memᴰ.append_cases l m);
  }

-- ---- what became of the entry

-- the rows l still stand, with the cells behind them open
kept-stores : (l : List Row) (used : ℕ) (numbers headings : List ℕ) (before pool : List ℤ) → Stores l numbers before used → length pool ≡ length before
    → Kept used numbers before headings pool → Stores l headings pool (length (joined l))
kept-stores l used numbers headings before pool s same kept =
    subst (Stores l headings pool) s.ends
    (record {
      numbers = subst (λ (n : List ℕ). n ≡ filled (length n) 0 (headings_from 0 l)) (sym kept.numbers) s.numbers;
      cells = kept.cells ∙ s.cells;
      ends = s.ends;
      fits = omega (arith, s.fits);
      all_sound = s.all_sound;
    })

-- it names the operation o
pub entered : (t : List ℤ) (k used : ℕ) (l : List Row) (numbers headings : List ℕ) (before pool : List ℤ) (x : Entry) (o : Operation ℕ) (c : Result ℕ Refusal) → length l ≡ k
    → Stores l numbers before used → heading_length * k + heading_length ≤ length numbers → length before ≤ pool_limit → x ≡ entry_at t k → named k x ≡ answer o
    → length pool ≡ length before → Became k used numbers before (converted (at_rows l o) (length before - used)) c headings pool → Entered t k l c headings pool
entered t k used l numbers headings before pool x o c many s heading limit is names same = by c
  where
    judged-so : judged l (length before - used) x ≡ converted (at_rows l o) (length before - used)
    judged-so =
        judged-is l (length before - used) x
        ∙ ap (λ (a : Reply (Operation ℕ)). and_then a (λ o. converted (at_rows l o) (length before - used))) (ap (λ (n : ℕ). named n x) many ∙ names)

    judged-same : judged l (length pool - length (joined l)) (entry_at t k) ≡ judged l (length before - used) x
    judged-same = ap₂ (judged l) (ap₂ ◌-◌ same (sym s.ends)) (sym is)

    by : (c : Result ℕ Refusal) → Became k used numbers before (converted (at_rows l o) (length before - used)) c headings pool → Entered t k l c headings pool
    by (Err n) (b, kept) = (judged-same ∙ judged-so ∙ b, kept-stores l used numbers headings before pool s same kept)
    by (Ok e) (r, b, a) =
        let h = entry-sound l (length before - used) x r s.all_sound (omega arith) (judged-so ∙ b) in
        (r, judged-same ∙ judged-so ∙ b, stored l k used e numbers headings before pool r many s a heading h.0 h.1 same)

-- it does not pass checks 4, 5 and 6, and both lists are as they were
pub refused-named : (t : List ℤ) (k used : ℕ) (l : List Row) (headings : List ℕ) (pool : List ℤ) (x : Entry) (n : Refusal) → length l ≡ k
    → Stores l headings pool used → x ≡ entry_at t k → named k x ≡ refused (number_of n) → Entered t k l (Err n) headings pool
refused-named t k used l headings pool x n many s is h = (
  judged-is l (length pool - length (joined l)) (entry_at t k)
      ∙ ap (λ (a : Reply (Operation ℕ)). and_then a (λ o. converted (at_rows l o) (length pool - length (joined l)))) (ap₂ named many (sym is) ∙ h),
  subst (Stores l headings pool) s.ends s,
)
