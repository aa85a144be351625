-- Selecting up, and combining with what is combined already.
use mathlib.Core.Path.{◌≡◌, sym, ◌∙◌, subst}
use mathlib.Core.Logic.{◌↔◌}
use mathlib.Core.Option.{some}
use lib.IntN.{ℤ}
use Rattle.calendar.specs.Meaning.{Calendar, Same, Has, Inside}
use Rattle.calendar.specs.Operation.Selection.{select-up}
use Rattle.calendar.specs.Operation.Binary.{combine, select}
use Rattle.calendar.specs.Operation.Operation.{binary}
use Rattle.calendar.specs.Algebra.{Result}
use Rattle.granules.proofs.Tests.{some_inj, label-ext}

-- a granule that holds one of b is kept whole, and so holds it again
pub select-up-twice : (a b p x y : Calendar)
    → Result (binary (select select-up) a b) p → Result (binary (select select-up) p b) x → Result (binary (select select-up) a b) y → Same x y
select-up-twice a b p x y P X Y t = label-ext λ i. (
  λ e. (Y t i).1 ((P t i).0 ((X t i).0 e).0),
  λ e. let (h, (k, has, inside)) = (Y t i).0 e in
      (X t i).1 ((P t i).1 (h, (k, has, inside)), (k, has, λ u q. (P u i).1 (inside u q, (k, has, inside)))),
)

-- what is combined lies in the granule of a with its label
pub combine-again : (a b p x y : Calendar) → Result (binary combine a b) p → Result (binary combine a p) x → Result (binary combine a b) y → Same x y
combine-again a b p x y P X Y t = label-ext λ i. (
  λ e. let (k, q, inside) = (X t i).0 e in
      (Y t i).1 (by t i k q inside),
  λ e. let (k, q, inside) = (Y t i).0 e in
      (X t i).1 (i, (P t i).1 (k, q, inside), λ u h. let (l, m, n) = (P u i).0 h in n u m),
)
  where
    by : (t i k : ℤ) → p t ≡ some k → Inside p k a i → (l : ℤ) × (b t ≡ some l) × Inside b l a i
    by t i k q inside =
        let (l, m, n) = (P t k).0 q in
        let e : k ≡ i = some_inj (sym (n t m) ∙ inside t q) in
        (l, m, subst (λ (j : ℤ). Inside b l a j) e n)

-- a granule of a that holds one of b is a label of both
pub up-combine : (a b x y : Calendar) → Result (binary (select select-up) a b) x → Result (binary combine a b) y → (j : ℤ) → Has x j ↔ Has y j
up-combine a b x y X Y j = (
  λ h. let (t, e) = h in
      let (q, (k, (u, l), inside)) = (X t j).0 e in
      (u, (Y u j).1 (k, l, inside)),
  λ h. let (t, e) = h in
      let (k, q, inside) = (Y t j).0 e in
      (t, (X t j).1 (inside t q, (k, (t, q), inside))),
)
