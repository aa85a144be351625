-- What document 02 promises of a journal (Req 10).
use mathlib.Core.Path.{◌≡◌, refl, sym, ap, subst, ◌∙◌}
use mathlib.Core.Logic.{⊎_elim}
use mathlib.Core.Bool.{Bool, true, false, cond}
use mathlib.Core.Option.{none, some, some-injective, none-ne-some}
use mathlib.Core.List.{List, [], ◌++◌}
use Prim.Native.Nat.{ℕ, ◌≤◌, ◌<◌}
use native.Mathlib.Omega.{arith}
use lib.Dec.{eqb}
use lib.IntN.{ℤ}
use lib.ListN.{length, take}
use lib.Seq.{take-length}
use borrow.Author.Tests.{eqb-true, eqb-false}
use Rattle.granules.proofs.Tests.{true-or-false}
use Rattle.table_text.specs.Text.{bad_text, TextOf}
use Rattle.journal.specs.Journal.{record_of, opened}
use Rattle.journal.specs.Append.{Append, Appends, file_after}
use Rattle.journal.specs.Append.Append.{refused_at, writes}
use Rattle.journal.specs.Append.Appends.{nothing as by-nothing, bad as by-bad, good as by-good}
use Rattle.journal.specs.History.{Journal, current}
use Rattle.journal.specs.History.Journal.{new, append-cut}
use Rattle.journal.specs.Writing.{append_of}
use Rattle.journal.proofs.Bytes.{text-plain}
use Rattle.journal.proofs.Torn.{cut-append}
use Rattle.journal.proofs.Appending.{append-computed}

writes-inj : {v w : List ℕ} → writes v ≡ writes w → v ≡ w
writes-inj e = cc

refused≢writes : {n k : ℕ} {w : List ℕ} → refused_at n k ≡ writes w → ⊥
refused≢writes e = let z : ◌≡◌ {A = ℕ} 0 1 = cc in omega arith

-- what is written is the record of a table's text
pub record Writable (s w : List ℕ) : Type 0 where
  pub entries : List (List ℤ)
  pub text : TextOf entries s
  pub some_bytes : 1 ≤ length s
  pub whole : w ≡ record_of s

pub writable : {s w : List ℕ} → Appends s (writes w) → Writable s w
writable {s} {w} a = by a refl
  where
    by : {b : Append} → Appends s b → b ≡ writes w → Writable s w
    by (by-nothing h) e = absurd (refused≢writes e)
    by (by-bad h) e = absurd (refused≢writes e)
    by (by-good {es = es} p h) e = record { entries = es; text = h; some_bytes = p; whole = sym (writes-inj e) }

-- ---- "A cut after any byte of an append leaves either the former table (or the empty book, where there was none) or
-- the new one readable, and the new one exactly when its last byte is there." It holds of any file, whoever made it

pub cut-after : (book : List ℕ) {s w : List ℕ} → Appends s (writes w) → (k : ℕ) → k ≤ length w
    → opened (book ++ take k w) ≡ cond (eqb k (length w)) (some s) (opened book)
cut-after book {s} {w} a k h =
    let v = writable a in
    subst (λ (u : List ℕ). k ≤ length u → opened (book ++ take k u) ≡ cond (eqb k (length u)) (some s) (opened book)) (sym v.whole)
    (cut-append book s (text-plain v.entries s v.text) v.some_bytes v.text.short k)
    h

pub cut-whole : (book : List ℕ) {s w : List ℕ} → Appends s (writes w) → opened (file_after book (writes w)) ≡ some s
cut-whole book {s} {w} a =
    ap (λ (u : List ℕ). opened (book ++ u)) (sym (take-length w))
    ∙ cut-after book a (length w) (omega arith)
    ∙ ap (λ (t : Bool). cond t (some s) (opened book)) (same (length w))
  where
    same : (n : ℕ) → eqb n n ≡ true
    same n = ⊎_elim (λ e. e) (λ e. absurd (eqb-false n n e refl)) (true-or-false (eqb n n))

pub cut-torn : (book : List ℕ) {s w : List ℕ} → Appends s (writes w) → (k : ℕ) → k < length w
    → opened (book ++ take k w) ≡ opened book
cut-torn book {s} {w} a k h =
    cut-after book a k (omega arith) ∙ ap (λ (t : Bool). cond t (some s) (opened book)) (other k (length w) h)
  where
    other : (m n : ℕ) → m < n → eqb m n ≡ false
    other m n l = ⊎_elim (λ e. absurd (omega (arith, eqb-true m n e))) (λ e. e) (true-or-false (eqb m n))

-- ---- files that our writer made: opening finds the text of the last append that was not cut

nothing-in-nothing : opened [] ≡ none
unfolding opened
nothing-in-nothing = refl

pub opens-current : {book : List ℕ} (j : Journal book) → opened book ≡ current j
opens-current new = nothing-in-nothing
opens-current (append-cut {book = book} j {s = s} {w = w} a k h) =
    cut-after book a k h ∙ ap (cond (eqb k (length w)) (some s)) (opens-current j)

-- what is found is a table's text, of at least one byte
pub found-text : {book : List ℕ} → Journal book → (s : List ℕ) → opened book ≡ some s
    → (es : List (List ℤ)) × TextOf es s × (1 ≤ length s)
found-text j s e = by j (sym (opens-current j) ∙ e)
  where
    by : {book : List ℕ} (j : Journal book) → current j ≡ some s → (es : List (List ℤ)) × TextOf es s × (1 ≤ length s)
    by new e = absurd (none-ne-some s e)
    by (append-cut j {s = r} {w = w} a k h) e = ⊎_elim
        (λ q.
        let v = writable a in
        let same : r ≡ s = some-injective _ _ (rw q at e) in
        (v.entries, subst (TextOf v.entries) same v.text, subst (λ (u : List ℕ). 1 ≤ length u) same v.some_bytes))
        (λ q. by j (rw q at e))
        (true-or-false (eqb k (length w)))

-- ---- appending

-- the file after an append, as it is computed, is such a file again
pub append-keeps : {book : List ℕ} → Journal book → (s : List ℕ) → Journal (file_after book (append_of s))
append-keeps {book} j s = by (append_of s) (append-computed s)
  where
    by : (a : Append) → Appends s a → Journal (file_after book a)
    by (refused_at n k) a = j
    by (writes w) a = subst (λ (u : List ℕ). Journal (book ++ u)) (take-length w) (append-cut j a (length w) (omega arith))

-- a refusal is 19; "and the file isn't touched"
pub append-refused : (book : List ℕ) {s : List ℕ} {n k : ℕ} → Appends s (refused_at n k)
    → (n ≡ bad_text) × (file_after book (refused_at n k) ≡ book)
append-refused book {s} {n} {k} a = (by a refl, refl)
  where
    by : {b : Append} → Appends s b → b ≡ refused_at n k → n ≡ bad_text
    by (by-nothing h) e = cc
    by (by-bad h) e = cc
    by (by-good p h) e = absurd (refused≢writes (sym e))
