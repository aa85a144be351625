-- An append as it is computed is what it is to be, and nothing else is.
use mathlib.Core.Path.{◌≡◌, refl, sym, ap, subst, ◌∙◌}
use mathlib.Core.List.{List, [], ◌∷◌}
use Prim.Native.Nat.{ℕ, ◌≤◌}
use native.Mathlib.Omega.{arith}
use lib.ListN.{length}
use Rattle.table_text.specs.Text.{bad_text}
use Rattle.table_text.specs.Parse.{Reading, parse}
use Rattle.table_text.specs.Parse.Reading.{bad, table}
use Rattle.table_text.proofs.Texts.{text-back, text-read, bad-back, bad-read}
use Rattle.journal.specs.Append.{Append, Appends}
use Rattle.journal.specs.Append.Append.{refused_at}
use Rattle.journal.specs.Append.Appends.{nothing as by-nothing, bad as by-bad, good as by-good}
use Rattle.journal.specs.Writing.{append_read, append_of}

pub append-nothing : append_of [] ≡ refused_at bad_text 0
unfolding append_of
append-nothing = refl

pub append-some : (s : List ℕ) → 1 ≤ length s → append_of s ≡ append_read s (parse s)
unfolding append_of
append-some [] h = absurd (omega arith)
append-some (b ∷ s) h = refl

pub append-computed : (s : List ℕ) → Appends s (append_of s)
append-computed [] = subst (Appends []) (sym append-nothing) (by-nothing (omega arith))
append-computed (b ∷ s) = by (parse (b ∷ s)) refl
  where
    some : 1 ≤ length (b ∷ s)
    some = omega arith

    by : (r : Reading) → parse (b ∷ s) ≡ r → Appends (b ∷ s) (append_of (b ∷ s))
    by (bad k) e =
        subst (Appends (b ∷ s)) (sym (append-some (b ∷ s) some ∙ ap (append_read (b ∷ s)) e))
        (by-bad (bad-back (b ∷ s) k e))
    by (table t) e =
        let (es, h, q) = text-back (b ∷ s) t e in
        subst (Appends (b ∷ s)) (sym (append-some (b ∷ s) some ∙ ap (append_read (b ∷ s)) e)) (by-good some h)

nothing_read : parse [] ≡ table []
nothing_read = text-read [] [] (record { entries = tt; text = refl; short = omega arith })

pub append-only : {s : List ℕ} {a : Append} → Appends s a → a ≡ append_of s
append-only {s} (by-nothing h) = only s h
  where
    only : (s : List ℕ) → length s ≤ 0 → refused_at bad_text 0 ≡ append_of s
    only [] h = sym append-nothing
    only (b ∷ s) h = absurd (omega arith)
append-only {s} (by-bad {k = k} h) = only s (bad-read s k h)
  where
    only : (s : List ℕ) → parse s ≡ bad k → refused_at bad_text k ≡ append_of s
    only [] e = let q : table [] ≡ bad k = sym nothing_read ∙ e in let z : ◌≡◌ {A = ℕ} 0 1 = cc in absurd (omega arith)
    only (b ∷ s) e = sym (append-some (b ∷ s) (omega arith) ∙ ap (append_read (b ∷ s)) e)
append-only {s} (by-good {es = es} some h) = sym (append-some s some ∙ ap (append_read s) (text-read es s h))
