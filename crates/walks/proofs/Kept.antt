-- A row that the conversion answers is least, and means what the algebra says.
use mathlib.Core.Path.{◌≡◌, refl, sym, ◌∙◌, ap, subst, ap₂}
use mathlib.Core.List.Memᴰ
use mathlib.Core.List.{List, [], ◌∷◌, ◌++◌, map, Memᴰ}
use mathlib.Core.Logic.{⊎_elim}
use Prim.Native.Nat.{ℕ, ◌-◌, ◌≤◌, ◌<◌}
use native.Mathlib.Omega.{arith}
use lib.IntN.{ℤ}
use lib.ListN.{length, get_or, replicate, length-append, length-replicate}
use Rattle.calendar.specs.Meaning.{Row, bottom_row, Calendar, meant, IsCalendar, LeastRow}
use Rattle.calendar.specs.Limits.{pool_limit}
use Rattle.calendar.specs.Lists.{filled}
use Rattle.calendar.specs.Least.{least}
use Rattle.calendar.specs.Operation.{Operation, map_operation}
use Rattle.calendar.specs.Reply.{Reply, and_then}
use Rattle.calendar.specs.Reply.Reply.{refused, answer}
use Rattle.calendar.specs.Table.{Entry, named}
use Rattle.calendar.specs.Outcome.{converted, judged, at_rows}
use Rattle.granules.proofs.Sound.{sound-valid}
use Rattle.granules.proofs.Rows.{valid-calendar, valid-of-least}
use Rattle.granules.proofs.Least.{least-row, same-repeats}
use Rattle.granules.proofs.Equal.{least-row-unique}
use Rattle.algebra.specs.TableMeaning.{Meant, nothing, EntryJudged}
use Rattle.algebra.specs.Represents.{Represents, CountsLabels}
use Rattle.algebra.specs.Agrees.{RepresentsAll}
use Rattle.algebra.proofs.Stored.{entry-sound}
use Rattle.algebra.specs.TableMeaning.EntryJudged.{unread, read}
use Rattle.algebra.proofs.Operations.{operands-weaken}
use Rattle.algebra.proofs.Converted.{JudgedAs, converted-judged}
use Rattle.algebra.proofs.Named.{named-operation}
use Rattle.algebra.proofs.Steps.{judged-is}
use Rattle.algebra.proofs.Demand2.{represents-length, represents-at}
use Rattle.walks.specs.Demands.{meaning_of}
use Rattle.standing.proofs.Decides.{Least, AllLeast, all-least, whole_of}
use Rattle.standing.specs.Standing.{Standing}
use lib.Seq.{get_or-append-add}
use Rattle.calendar.specs.Granules.{granules}
use Rattle.conversion.specs.Shows.{row_at, distance_at, granules_at}
use Rattle.conversion.proofs.Headings.{row-left, granules-left}
use Rattle.conversion.proofs.LeftRows.{counts-labels}

-- ---- lists that are filled up

pub filled-again : {A : Type 0} (n : ℕ) (d : A) (l : List A) → filled n d l ≡ filled (length (filled n d l)) d l
filled-again n d l =
    let e : n - length l ≡ length (filled n d l) - length l = simp (length-append, length-replicate) (omega arith) in
    ap (λ (i : ℕ). l ++ replicate i d) e

-- ---- a least row is the least row of the calendar that it means

-- a least row of some calendar is its own least form
pub least-again : (c : Calendar) (r : Row) → IsCalendar c → LeastRow c r → least r ≡ r
least-again c r i l =
    let v = valid-of-least r c i l in
    least-row-unique (meant r) (least r) r (valid-calendar r v) (least-row r v)
    record { whole = l.whole; positive = l.positive; means = λ t. refl; least = λ P N a b h. l.least P N a b (same-repeats (meant r) c P N l.means h) }

pub least-means : (r : Row) → Least r → IsCalendar (meant r) × LeastRow (meant r) r
least-means r h =
    let v = sound-valid r h.0 in (
      valid-calendar r v,
      record { whole = v.whole; positive = v.positive; means = λ t. refl; least = λ P N a b q. subst (λ (n : ℕ). n ≤ P) h.1 ((least-row r v).least P N a b q) },
    )

represents : (r : Row) → Least r → Represents (meaning_of r) r
represents r h = let m = least-means r h in record { calendar = m.0; least = m.1; turn = refl }

pub counts-as : (l : List Row) (headings : List ℕ) (pool : List ℤ) → Standing l headings pool → (r : Row) → Memᴰ r l → Represents (meaning_of r) r
counts-as l headings pool s r m = represents r (all-least s r m)

represents-all : (l : List Row) → AllLeast l → RepresentsAll (map meaning_of l) l
represents-all [] h = tt
represents-all (r ∷ l) h = (represents r (h r (Memᴰ.head refl)), represents-all l (λ s m. h s (Memᴰ.tail m)))

-- ---- an entry behind least rows

-- the reply over rows is one over the calendars that they mean
abbrev pub JudgedOver : List Row → ℕ → Entry → Reply Row → Type 0
JudgedOver l room e (refused n) = EntryJudged (map meaning_of l) room e (refused n)
JudgedOver l room e (answer r) = (m : Meant) × EntryJudged (map meaning_of l) room e (answer m) × Represents m r

pub judged-means : (l : List Row) (room : ℕ) (e : Entry) → AllLeast l → JudgedOver l room e (judged l room e)
judged-means l room e h = subst (JudgedOver l room e) (sym (judged-is l room e)) (by (named (length l) e) refl)
  where
    ms : List Meant
    ms = map meaning_of l

    all : RepresentsAll ms l
    all = represents-all l h

    same : named (length ms) e ≡ named (length l) e
    same = ap (λ (k : ℕ). named k e) (represents-length ms l all)

    over : {o : Operation ℕ} (x : Reply Row) → named (length ms) e ≡ answer o → JudgedAs (map_operation (λ k. get_or ms k nothing) o) room x → JudgedOver l room e x
    over (refused n) p j = read p j
    over (answer r) p (m, j, q) = (m, read p j, q)

    by : (x : Reply (Operation ℕ)) → named (length l) e ≡ x → JudgedOver l room e (and_then x (λ o. converted (at_rows l o) room))
    by (refused n) p = unread (same ∙ p)
    by (answer o) p =
        let n = named-operation (length l) e o p in
        over (converted (at_rows l o) room) (same ∙ p)
        (converted-judged o (λ k. get_or ms k nothing) (λ k. get_or l k bottom_row) room (operands-weaken (represents-at ms l all) o n.1) n.0)

-- its row is least, and there is room for it
pub record Kept (l : List Row) (room : ℕ) (e : Entry) (r : Row) : Type 0 where
  pub is-least : Least r
  pub fits : r.period ≤ room
  pub meaning : Meant
  pub means : EntryJudged (map meaning_of l) room e (answer meaning)
  pub stands-for : Represents meaning r

pub kept : (l : List Row) (room : ℕ) (e : Entry) (r : Row) → AllLeast l → room ≤ pool_limit → judged l room e ≡ answer r → Kept l room e r
kept l room e r h limit j =
    let s = entry-sound l room e r (λ q m. (h q m).0) limit j in
    let (m, means, rep) = subst (JudgedOver l room e) j (judged-means l room e h) in
    record {
      is-least = (s.0, ap (λ (q : Row). q.period) (least-again m.calendar r rep.calendar rep.least));
      fits = s.1;
      meaning = m;
      means = means;
      stands-for = rep;
    }

-- the rows with it
pub least_more : (l : List Row) (r : Row) → AllLeast l → Least r → AllLeast (l ++ (r ∷ []))
least_more l r h k s m = ⊎_elim (h s) (λ i. subst Least (sym (Memᴰ.eq_of_singleton i)) k) (Memᴰ.append_cases l m)

-- ---- what stands, read by its heading

module _ (l : List Row) (headings : List ℕ) (pool : List ℤ) (s : Standing l headings pool) where
  pub standing-row : (k : ℕ) → k < length l → row_at headings pool k ≡ get_or l k bottom_row
  standing-row k h =
      ap₂ (λ (x : List ℕ) (y : List ℤ). row_at x y k) s.numbers s.cells ∙ row-left l (whole_of l (all-least s)) (length headings) (length pool) k h

  -- the fourth number is R of the row
  pub standing-counted : (k : ℕ) → k < length l → granules_at headings k ≡ granules (row_at headings pool k)
  standing-counted k h =
      ap (λ (x : List ℕ). granules_at x k) s.numbers
      ∙ granules-left l (whole_of l (all-least s)) (length headings) (length pool) k h
      ∙ sym (ap₂ (λ (x : List ℕ) (y : List ℤ). granules (row_at x y k)) s.numbers s.cells)

-- the last row
pub last-shown : (l : List Row) (r : Row) (headings : List ℕ) (pool : List ℤ) → Standing (l ++ (r ∷ [])) headings pool → row_at headings pool (length l) ≡ r
last-shown l r headings pool s =
    standing-row (l ++ (r ∷ [])) headings pool s (length l) (omega (arith, length-append l (r ∷ [])))
    ∙ ap (λ (i : ℕ). get_or (l ++ (r ∷ [])) i bottom_row) (omega arith)
    ∙ get_or-append-add l (r ∷ []) 0 bottom_row

-- its fourth number counts the labels of the calendar that it stands for
pub last-counts : (m : Meant) (l : List Row) (r : Row) (headings : List ℕ) (pool : List ℤ) → Standing (l ++ (r ∷ [])) headings pool → Represents m r
    → CountsLabels m.calendar (distance_at headings (length l)) (granules_at headings (length l))
last-counts m l r headings pool s rep =
    let shown = last-shown l r headings pool s in
    let count = standing-counted (l ++ (r ∷ [])) headings pool s (length l) (omega (arith, length-append l (r ∷ []))) in
    subst (λ (d : ℕ). CountsLabels m.calendar d (granules_at headings (length l))) (sym (ap (λ (q : Row). q.distance) shown))
    (subst (λ (n : ℕ). CountsLabels m.calendar r.distance n) (sym (count ∙ ap granules shown)) (counts-labels m r rep))
