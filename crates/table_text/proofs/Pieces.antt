-- Words and lines are joined and split alike.
use mathlib.Core.Path.{◌≡◌, refl, sym, ap, ◌∙◌}
use mathlib.Core.Logic.{⊎_elim}
use mathlib.Core.Bool.{true, false}
use mathlib.Core.List.{List, [], ◌∷◌, ◌++◌}
use Prim.Native.Nat.{ℕ}
use lib.Dec.{eqb}
use borrow.Author.Tests.{eqb-true, eqb-false, eq-eqb, ne_eqb}
use Rattle.granules.proofs.Tests.{true-or-false}
use Rattle.table_text.specs.Words.{joined_by}
use Rattle.table_text.specs.Parse.{in_first, split}
use Rattle.table_text.proofs.Numbers.{Each}

-- the byte b does not stand in it
abbrev pub Without : ℕ → List ℕ → Type 0
Without b = Each (λ c. c ≡ b → ⊥)

-- P holds of each byte of each piece
abbrev pub EachPiece : (ℕ → Type 0) → List (List ℕ) → Type 0
EachPiece P [] = Unit {0}
EachPiece P (w ∷ l) = Each P w × EachPiece P l

abbrev pub EachWithout : ℕ → List (List ℕ) → Type 0
EachWithout b = EachPiece (λ c. c ≡ b → ⊥)

pub each_append : (P : ℕ → Type 0) (v w : List ℕ) → Each P v → Each P w → Each P (v ++ w)
each_append P [] w g h = h
each_append P (b ∷ v) w g h = (g.0, each_append P v w g.1 h)

pub each-joined : (P : ℕ → Type 0) (b : ℕ) → P b → (l : List (List ℕ)) → EachPiece P l → Each P (joined_by b l)
each-joined P b p [] h = tt
each-joined P b p (w ∷ []) h = h.0
each-joined P b p (w ∷ v ∷ l) h = each_append P w (b ∷ joined_by b (v ∷ l)) h.0 (p, each-joined P b p (v ∷ l) h.1)

-- ---- the clauses of split

pub split-nil : (b : ℕ) → split b [] ≡ [] ∷ []
unfolding split
split-nil b = refl

split-here : (b c : ℕ) (s : List ℕ) → eqb c b ≡ true → split b (c ∷ s) ≡ [] ∷ split b s
unfolding split
split-here b c s e = rw (e, split)

split-on : (b c : ℕ) (s : List ℕ) → eqb c b ≡ false → split b (c ∷ s) ≡ in_first c (split b s)
unfolding split
split-on b c s e = rw (e, split)

-- ---- split, then joined

-- there is always a first piece
pub record FirstPiece (b : ℕ) (s : List ℕ) : Type 0 where
  pub piece : List ℕ
  pub others : List (List ℕ)
  pub pieces : split b s ≡ piece ∷ others

pub first_piece : (b : ℕ) (s : List ℕ) → FirstPiece b s
first_piece b [] = record { piece = []; others = []; pieces = split-nil b }
first_piece b (c ∷ s) = ⊎_elim (λ e. here e) (λ e. on (first_piece b s) e) (true-or-false (eqb c b))
  where
    here : eqb c b ≡ true → FirstPiece b (c ∷ s)
    here e = record { piece = []; others = split b s; pieces = split-here b c s e }

    on : FirstPiece b s → eqb c b ≡ false → FirstPiece b (c ∷ s)
    on f e = record { piece = c ∷ f.piece; others = f.others; pieces = split-on b c s e ∙ ap (in_first c) f.pieces }

join-in-first : (b c : ℕ) (l : List (List ℕ)) (w : List ℕ) → joined_by b ((c ∷ w) ∷ l) ≡ c ∷ joined_by b (w ∷ l)
join-in-first b c [] w = refl
join-in-first b c (v ∷ l) w = refl

pub split-joined : (b : ℕ) (s : List ℕ) → joined_by b (split b s) ≡ s
split-joined b [] = ap (joined_by b) (split-nil b)
split-joined b (c ∷ s) = ⊎_elim (λ e. here (first_piece b s) (split-joined b s) e) (λ e. on (first_piece b s) (split-joined b s) e) (true-or-false (eqb c b))
  where
    here : FirstPiece b s → joined_by b (split b s) ≡ s → eqb c b ≡ true → joined_by b (split b (c ∷ s)) ≡ c ∷ s
    here f h e =
        ap (joined_by b) (split-here b c s e ∙ ap (λ (l : List (List ℕ)). [] ∷ l) f.pieces)
        ∙ ap (λ (r : List ℕ). b ∷ r) (ap (joined_by b) (sym f.pieces) ∙ h)
        ∙ ap (λ (d : ℕ). d ∷ s) (sym (eqb-true c b e))

    on : FirstPiece b s → joined_by b (split b s) ≡ s → eqb c b ≡ false → joined_by b (split b (c ∷ s)) ≡ c ∷ s
    on f h e =
        ap (joined_by b) (split-on b c s e ∙ ap (in_first c) f.pieces)
        ∙ join-in-first b c f.others f.piece
        ∙ ap (λ (r : List ℕ). c ∷ r) (ap (joined_by b) (sym f.pieces) ∙ h)

-- no piece has the byte
pub split-without : (b : ℕ) (s : List ℕ) → EachWithout b (split b s)
split-without b [] = rw (split-nil b) (tt, tt)
split-without b (c ∷ s) = ⊎_elim
    (λ e. rw (split-here b c s e) (tt, split-without b s))
    (λ e. rw (split-on b c s e) (in-first (split b s) (eqb-false c b e) (split-without b s)))
    (true-or-false (eqb c b))
  where
    in-first : (l : List (List ℕ)) → (c ≡ b → ⊥) → EachWithout b l → EachWithout b (in_first c l)
    in-first [] ne h = ((ne, tt), tt)
    in-first (w ∷ l) ne h = ((ne, h.0), h.1)

-- ---- joined, then split

pub split-seam : (b : ℕ) (w s : List ℕ) → Without b w → split b (w ++ (b ∷ s)) ≡ w ∷ split b s
split-seam b [] s h = split-here b b s (eq-eqb b b refl)
split-seam b (c ∷ w) s h = split-on b c (w ++ (b ∷ s)) (ne_eqb c b h.0) ∙ ap (in_first c) (split-seam b w s h.1)

pub split-last : (b : ℕ) (w : List ℕ) → Without b w → split b w ≡ w ∷ []
split-last b [] h = split-nil b
split-last b (c ∷ w) h = split-on b c w (ne_eqb c b h.0) ∙ ap (in_first c) (split-last b w h.1)

pub joined-split : (b : ℕ) (w : List ℕ) (l : List (List ℕ)) → EachWithout b (w ∷ l) → split b (joined_by b (w ∷ l)) ≡ w ∷ l
joined-split b w [] h = split-last b w h.0
joined-split b w (v ∷ l) h = split-seam b w (joined_by b (v ∷ l)) h.0 ∙ ap (λ (m : List (List ℕ)). w ∷ m) (joined-split b v l h.1)
