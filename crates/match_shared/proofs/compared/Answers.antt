-- `match_shared::compared` meets its contract: the label of the instant in the claimed row is compared, and the cursor steps on.
-- Assumes nothing.
use borrow.Author.Rules.{sfits_of}
use mathlib.Core.Path.{◌≡◌, sym, ◌∙◌, ap, subst}
use mathlib.Core.Bool.{true}
use lib.IntN.{ℤ, pos, ◌+ℤ◌}
use native.Mathlib.Omega.{arith}
use Rattle.integers.proofs.Linear.{ints}
use Rattle.calendar.specs.Meaning.{Row, meant}
use Rattle.calendar.specs.Sound.{sound}
use Rattle.cursors.specs.Found.{found}
use Rattle.cursors.specs.Cursor.{cursor_at, Standing}
use Rattle.kinds.specs.Stands.{row_in}
use Rattle.match_shared.proofs.Lent.{lent_row, lent_row_lem}
use Rattle.match_shared.proofs.Seen.{seen_more}
use Rattle.match_shared.proofs.compared.Goals as goal
use Rattle.match_shared.proofs.compared.Goals.{After-cells_of-cells, After-cursor_label-arg-1, After-cursor_label-own, After-cursor_next-cursor, After-struct_told-2-1}

row_is : (c : After-struct_told-2-1) → let e = (goal.at.After-struct_told-2-1 c).After-cursor_label-arg-1 in let s = (goal.at.After-cursor_label-arg-1 e).After-cells_of-cells in lent_row s.args.r e.cells_of-cells.result.now ≡ row_in s.args.pool.now s.args.r
row_is c =
    let e = (goal.at.After-struct_told-2-1 c).After-cursor_label-arg-1 in
    lent_row_lem e.args.r e.args.pool.now _ (sfits_of c.struct_told-1.given.1.0.1) (sfits_of c.struct_told-2-1.given.1.1.0.1) e.cells_of-cells.ensures

pub cursor_label-own-requires : goal.cursor_label-own-requires
cursor_label-own-requires c =
    let s = (goal.at.cursor_label-own-requires c).After-cells_of-cells in
    record { sound = (subst (λ (x : Row). (sound x ≡ true) × Standing x s.args.s.cursor) (sym (row_is c)) (s.requires.stands.is-sound, s.requires.standing)).0; standing = (subst (λ (x : Row). (sound x ≡ true) × Standing x s.args.s.cursor) (sym (row_is c)) (s.requires.stands.is-sound, s.requires.standing)).1 }

pub cursor_next-cursor-requires : goal.cursor_next-cursor-requires
cursor_next-cursor-requires c =
    let l = (goal.at.cursor_next-cursor-requires c).After-struct_told-2-1 in
    record { sound = (cursor_label-own-requires l).sound; standing = (cursor_label-own-requires l).standing }

-- the label of the instant in the row, and the cursor of the next
own-label : (c : After-cursor_label-own) → let s = (goal.at.After-cursor_label-own c).After-cells_of-cells in let r = row_in s.args.pool.now s.args.r in
    (u : ℤ) → s.args.s.cursor ≡ cursor_at r u → found c.cursor_label-own.result ≡ meant r u
own-label c =
    let s = (goal.at.After-cursor_label-own c).After-cells_of-cells in
    subst (λ (x : Row). (u : ℤ) → s.args.s.cursor ≡ cursor_at x u → found c.cursor_label-own.result ≡ meant x u) (row_is (goal.at.After-cursor_label-own c).After-struct_told-2-1) c.cursor_label-own.ensures

next-cursor : (c : After-cursor_next-cursor) → let s = (goal.at.After-cursor_next-cursor c).After-cursor_label-arg-1 in let r = row_in s.args.pool.now s.args.r in
    (u : ℤ) → s.args.s.cursor ≡ cursor_at r u → c.cursor_next-cursor.result ≡ cursor_at r (u +ℤ pos 1)
next-cursor c =
    let l = (goal.at.After-cursor_next-cursor c).After-struct_told-2-1 in
    let s = (goal.at.After-struct_told-2-1 l).After-cells_of-cells in
    subst (λ (x : Row). (u : ℤ) → s.args.s.cursor ≡ cursor_at x u → c.cursor_next-cursor.result ≡ cursor_at x (u +ℤ pos 1)) (row_is l) c.cursor_next-cursor.ensures

pub returns : goal.returns
returns c o t w h e i =
    let n = (goal.at.returns c).After-cursor_next-cursor in
    let l = (goal.at.After-cursor_next-cursor n).After-cursor_label-own in
    let s = (goal.at.After-cursor_label-own l).After-cells_of-cells in
    let r = row_in s.args.pool.now s.args.r in
    record {
      cursor = next-cursor n (pos t) w.cursor ∙ ap (cursor_at r) (simp ints (omega arith));
      seen = rw (c.any.ensures, c.still_same.ensures) (seen_more o r t s.args.s.labelled s.args.s.same w.seen h _ _ e (own-label l (pos t) w.cursor) i);
    }
