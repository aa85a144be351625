-- The turns of the loop that shifts labels. It writes the cells of all instants, and counts the labels outside the limits.
-- Assumes nothing.
use Rattle.calendar.specs.declared.Refusal.TheVariants.{LabelOutsideLimits}
use Rattle.std.specs.Prelude.{Err, Ok}
use mathlib.Core.Path.{◌≡◌, refl, sym, ◌∙◌, ap}
use mathlib.Core.Logic.{◌↔◌, ◌⊎◌, inl, inr, ⊎_elim}
use mathlib.Core.Option.{Option, none, some}
use mathlib.Core.Bool.{Bool, true, false}
use mathlib.Core.List.{List, ◌++◌, append_assoc}
use Prim.Native.Nat.{ℕ, ◌+◌, ◌≤◌, ◌<◌}
use native.Mathlib.Numerals.{add-one}
use native.Mathlib.Omega.{arith}
use lib.IntN.{ℤ, pos}
use lib.ListN.{length, get_or, set, take, drop}
use lib.Seq.{paste, paste-zero, paste-suc, length-paste}
use Rattle.integers.specs.Parts.{up}
use Rattle.calendar.specs.Meaning.{Row, meant, label_of, raise, empty}
use Rattle.calendar.specs.Operation.{Operation}
use Rattle.calendar.specs.Operation.Unary.{shift}
use Rattle.calendar.specs.Operation.Operation.{unary}
use Rattle.calendar.specs.Lists.{is_some, if_label}
use Rattle.calendar.specs.Distance.{size}
use Rattle.calendar.specs.Compute.{result, working, cell_of}
use Rattle.calendar.specs.Checks.{labels_in_range}
use Rattle.calendar.specs.Sound.{sound}
use Rattle.calendar.specs.Limits.{in_range, pool_limit}
use Rattle.granules.proofs.Tests.{true-or-false, true≢false, ltb_iff, decided}
use Rattle.granules.proofs.Rows.{meant-cell}
use Rattle.granules.proofs.Sound.{sound-valid}
use Rattle.pieces.proofs.Cells.{label-cell}
use Rattle.cursors.specs.Found.{Within}
use Rattle.cursors.proofs.Bounds.{cell-bound}
use Rattle.kinds.specs.declared.Operand.{Operand}
use Rattle.kinds.specs.Stands.{end, row_in}
use Rattle.fill_shared.specs.Placed.{filled_as, Fills}
use Rattle.fill_shared.proofs.Cells.{row_kept}
use Rattle.fill_shared.proofs.Working.{Writes, working-length, working-at, paste-before, writes-labelled, writes-all, out_of_range, filled-out}
use Rattle.fill_unary.proofs.Instants.{label-at, labelled-first}

-- the label of an instant
shift_of : (x : ℤ) (a : Row) (t : ℤ) (l : Option ℤ) → meant a t ≡ l → result (unary (shift x) a) t ≡ raise x l
unfolding result
shift_of x a t l e = ap (raise x) e

pub shift-period : (x : ℤ) (a : Row) → (size (unary (shift x) a)).period ≡ a.period
unfolding size
shift-period x a = refl

-- what the loop is given: a number and a sound row, with room for the working row behind it
pub record Shifts (x : ℤ) (a : Operand) (at period : ℕ) (old : List ℤ) : Type 0 where
  pub bound : Within 1000000000 x
  pub is-sound : sound (row_in old a) ≡ true
  pub is-period : period ≡ up a.period
  pub a-end : end a ≤ at
  pub room : at + period ≤ length old
  pub few : length old ≤ pool_limit

-- the cells of the instants before t are written; `outside` is above 0 exactly if some of their labels are outside the limits
pub record Shifted (o : Operation Row) (at : ℕ) (old new : List ℤ) (outside : ℕ) (t : ℕ) : Type 0 where
  pub at-most : t ≤ (size o).period
  pub is-new : new ≡ paste old at (working o).cells t
  pub counted : outside ≤ t
  pub is-outside : (0 < outside) ↔ ((u : ℕ) × (u < t) × (if_label (result o (pos u)) in_range ≡ false))

-- one cell more is counted if its label is outside the limits
abbrev pub Counts : ℤ → ℕ → ℕ → Type 0
Counts z outside now = ((if_label (label_of z) in_range ≡ false) × (now ≡ outside + 1)) ⊎ ((if_label (label_of z) in_range ≡ true) × (now ≡ outside))

module _ {x : ℤ} {a : Operand} {at period : ℕ} {old : List ℤ} (s : Shifts x a at period old) where
  abbrev r : Row
  r = row_in old a

  abbrev pub o : Operation Row
  o = unary (shift x) r

  size_is : (size o).period ≡ period
  size_is = shift-period x r ∙ sym s.is-period

  pub shifted_none : Shifted o at old old 0 0
  shifted_none = record {
    at-most = omega arith;
    is-new = paste-zero old at (working o).cells;
    counted = omega arith;
    is-outside = (λ h. absurd (omega arith), λ h. absurd (omega (arith, h.1)));
  }

  module _ {new : List ℤ} {outside : ℕ} {t : ℕ} (w : Shifted o at old new outside t) where
    pub shifted-length : length new ≡ length old
    shifted-length =
        let l : at + t ≤ length old = omega (arith, w.at-most, size_is, s.room) in
        let m : t ≤ length (working o).cells = omega (arith, w.at-most, working-length o) in
        ap length w.is-new ∙ length-paste old at (working o).cells t l m

    shifted-before : take at new ≡ take at old
    shifted-before = ap (take at) w.is-new ∙ paste-before old at (working o).cells t (omega (arith, s.room))

    -- the row stands as it stood
    kept : row_in new a ≡ r
    kept =
        ap (λ (l : List ℤ). row_in l a) (w.is-new ∙ append_assoc (take at old) (take t (working o).cells) (drop (at + t) old))
        ∙ row_kept old (take t (working o).cells ++ drop (at + t) old) at a (omega (arith, s.room)) s.a-end

    module _ (m : t < period) where
      -- the cells that a turn reads and writes
      pub shifted-index : (a.start + t < length new) × ((at + t < length new) × (length new ≤ pool_limit))
      shifted-index =
          let e = shifted-length in
          (omega (arith, s.room, s.a-end, s.is-period), (omega (arith, s.room), omega (arith, s.few)))

      label_is : meant r (pos t) ≡ label_of (get_or new (a.start + t) (pos 0))
      label_is =
          let h : t < up a.period = omega (arith, s.is-period) in
          ap (λ (y : Row). meant y (pos t)) (sym kept) ∙ label-at a.period a.distance (up a.period) a.start t new h h shifted-index.0

      pub shifted-bound : (j : ℤ) → label_of (get_or new (a.start + t) (pos 0)) ≡ some j → Within 1000000000 j
      shifted-bound j e =
          let h : t < up a.period = omega (arith, s.is-period) in
          cell-bound a.period a.distance r.cells s.is-sound t j (sym (meant-cell r t h) ∙ label_is ∙ e)

      -- one instant more, whose cell is z
      pub shifted-more : (z : ℤ) (now : ℕ) → label_of z ≡ raise x (label_of (get_or new (a.start + t) (pos 0))) → Counts z outside now
          → Shifted o at old (set new (at + t) z) now (t + 1)
      shifted-more z now e i = record {
        at-most = omega (arith, size_is);
        is-new =
            ap (λ (p : List ℤ). set p (at + t) z) w.is-new
            ∙ ap (set (paste old at cells t) (at + t)) (sym (label-cell z) ∙ ap cell_of (sym result-is) ∙ sym (working-at o t (omega (arith, size_is))))
            ∙ paste-suc old at cells t empty (omega (arith, s.room)) (omega (arith, working-length o, size_is))
            ∙ ap (paste old at cells) (sym (add-one t));
        counted = ⊎_elim (λ p. omega (arith, w.counted, p.1)) (λ p. omega (arith, w.counted, p.1)) i;
        is-outside = ⊎_elim
            (λ p. (λ q. (t, omega arith, ap test result-is ∙ p.0), λ y. omega (arith, p.1)))
            (λ p. (
              λ q. let y = w.is-outside.0 (omega (arith, p.1)) in (y.0, omega (arith, y.1), y.2),
              λ y. let h = w.is-outside.1 (y.0, earlier p.0 y.0 (decided (ltb_iff y.0 t)) y.1 y.2, y.2) in omega (arith, p.1),
            ))
            i;
      }
        where
          cells : List ℤ
          cells = (working o).cells

          test : Option ℤ → Bool
          test l = if_label l in_range

          result-is : result o (pos t) ≡ label_of z
          result-is = shift_of x r (pos t) (label_of (get_or new (a.start + t) (pos 0))) label_is ∙ sym e

          -- a label outside the limits is an earlier one
          earlier : test (label_of z) ≡ true → (u : ℕ) → (u < t) ⊎ (u < t → ⊥) → u < t + 1 → test (result o (pos u)) ≡ false → u < t
          earlier f u (inl h) l g = h
          earlier f u (inr h) l g =
              let q : u ≡ t = omega arith in
              absurd (true≢false f (ap test (sym result-is) ∙ ap (λ (v : ℕ). test (result o (pos v))) (sym q) ∙ g))

    module _ (m : period ≤ t) where
      done : (size o).period ≤ t
      done = omega (arith, size_is)

      out_at : (u : ℕ) → u < t → (l : Option ℤ) → l ≡ result o (pos u) → if_label l in_range ≡ false → ((Err LabelOutsideLimits) ≡ filled_as o) × (labels_in_range o ≡ false)
      out_at u h none e f = absurd (true≢false refl f)
      out_at u h (some j) e f = let b : u < (size o).period = omega (arith, w.at-most) in (filled-out o u b j e f, out_of_range o u b j e f)

      pub shifted-out : 0 < outside → Fills o at period old new (Err LabelOutsideLimits)
      shifted-out e =
          let y = w.is-outside.0 e in
          let q = out_at y.0 y.1 (result o (pos y.0)) refl y.2 in
          record { answer = q.0; lengths = shifted-length; before = shifted-before; row = λ z. absurd (true≢false z q.1) }

      -- a sound row has a label
      labelled : (u : ℕ) × (u < t) × (is_some (result o (pos u)) ≡ true)
      labelled =
          let l = labelled-first r (sound-valid r s.is-sound) in
          (l.0, omega (arith, l.2, s.is-period), ap is_some (shift_of x r (pos l.0) (some l.1) l.3))

      all-written : outside ≤ 0 → Writes o at old new true t
      all-written e = record {
        at-most = w.at-most;
        is-new = w.is-new;
        within = λ u h. ⊎_elim (λ y. y) (λ y. let n = w.is-outside.1 (u, h, y) in absurd (omega arith)) (true-or-false (if_label (result o (pos u)) in_range));
        is-labelled = (λ q. labelled, λ y. refl);
      }

      pub shifted-done : outside ≤ 0 → Fills o at period old new (Ok tt)
      shifted-done e =
          let room : at + (size o).period ≤ length old = omega (arith, size_is, s.room) in
          let h = all-written e in
          record {
            answer = writes-labelled o at old room new true t h done refl;
            lengths = shifted-length;
            before = shifted-before;
            row = λ z. writes-all o at old room new true t h done ∙ ap (λ (n : ℕ). take at old ++ ((working o).cells ++ drop (at + n) old)) size_is;
          }
