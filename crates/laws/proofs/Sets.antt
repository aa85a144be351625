-- Laws of union, intersection and difference.
use mathlib.Core.Path.{◌≡◌, sym, ◌∙◌, ap}
use mathlib.Core.Logic.{◌↔◌, ◌⊎◌, inl, inr, ⊎_elim, ⊎_map, ⊎_swap}
use mathlib.Core.Option.{Option, none, some}
use lib.IntN.{ℤ}
use Rattle.calendar.specs.Meaning.{Calendar, Has, Same}
use Rattle.calendar.specs.Operation.SetOperation.{union, intersection, difference}
use Rattle.calendar.specs.Operation.Binary.{by-labels}
use Rattle.calendar.specs.Operation.Operation.{binary}
use Rattle.calendar.specs.Algebra.{Result, Compatible}
use Rattle.granules.proofs.Tests.{none≢some, none_or_some, label-ext}

abbrev pub Union : Calendar → Calendar → Calendar → Type 0
Union a b = Result (binary (by-labels union) a b)

abbrev pub Intersection : Calendar → Calendar → Calendar → Type 0
Intersection a b = Result (binary (by-labels intersection) a b)

abbrev pub Difference : Calendar → Calendar → Calendar → Type 0
Difference a b = Result (binary (by-labels difference) a b)

-- ---- the labels of a result

pub has-union : (a b c : Calendar) → Union a b c → (j : ℤ) → Has c j ↔ (Has a j ⊎ Has b j)
has-union a b c C j = (
  λ h. ⊎_map (λ e. (h.0, e)) (λ e. (h.0, e)) ((C h.0 j).0 h.1),
  ⊎_elim (λ h. (h.0, (C h.0 j).1 (inl h.1))) (λ h. (h.0, (C h.0 j).1 (inr h.1))),
)

pub has-intersection : (a b c : Calendar) → Intersection a b c → (j : ℤ) → Has c j ↔ (Has a j × Has b j)
has-intersection a b c C j = (
  λ h. let e = (C h.0 j).0 h.1 in ((h.0, e.0), e.1),
  λ h. (h.0.0, (C h.0.0 j).1 (h.0.1, h.1)),
)

-- whether b has the label j of an instant of a
pub has-decided : (a b : Calendar) → Compatible a b → (t j : ℤ) → a t ≡ some j → Has b j ⊎ (¬ Has b j)
has-decided a b c t j e = by (none_or_some (b t))
  where
    by : (b t ≡ none) ⊎ ((k : ℤ) × (b t ≡ some k)) → Has b j ⊎ (¬ Has b j)
    by (inl n) = inr (λ h. none≢some (sym n ∙ (c.shared j (t, e) h t).0 e))
    by (inr h) = inl (t, h.1 ∙ ap {B = Option ℤ} some (sym (c.single t j h.0 e h.1)))

-- ---- the laws

pub union_comm : (a b x y : Calendar) → Union a b x → Union b a y → Same x y
union_comm a b x y X Y t = label-ext λ j. (λ e. (Y t j).1 (⊎_swap ((X t j).0 e)), λ e. (X t j).1 (⊎_swap ((Y t j).0 e)))

pub intersection-comm : (a b x y : Calendar) → Compatible a b → Intersection a b x → Intersection b a y → Same x y
intersection-comm a b x y c X Y t = label-ext λ j. (
  λ e. let h = (X t j).0 e in (Y t j).1 ((c.shared j (t, h.0) h.1 t).0 h.0, (t, h.0)),
  λ e. let h = (Y t j).0 e in (X t j).1 ((c.shared j h.1 (t, h.0) t).1 h.0, (t, h.0)),
)

pub union_assoc : (a b c ab bc x y : Calendar) → Union a b ab → Union ab c x → Union b c bc → Union a bc y → Same x y
union_assoc a b c ab bc x y AB X BC Y t = label-ext λ j. (
  λ e. (Y t j).1 (⊎_elim (λ p. ⊎_elim inl (λ q. inr ((BC t j).1 (inl q))) ((AB t j).0 p)) (λ p. inr ((BC t j).1 (inr p))) ((X t j).0 e)),
  λ e. (X t j).1 (⊎_elim (λ p. inl ((AB t j).1 (inl p))) (λ p. ⊎_elim (λ q. inl ((AB t j).1 (inr q))) inr ((BC t j).0 p)) ((Y t j).0 e)),
)

pub intersection-assoc : (a b c ab bc x y : Calendar) → Intersection a b ab → Intersection ab c x → Intersection b c bc → Intersection a bc y → Same x y
intersection-assoc a b c ab bc x y AB X BC Y t = label-ext λ j. (
  λ e. let h = (X t j).0 e in
      let k = (AB t j).0 h.0 in
      (Y t j).1 (k.0, (has-intersection b c bc BC j).1 (k.1, h.1)),
  λ e. let h = (Y t j).0 e in
      let k = (has-intersection b c bc BC j).0 h.1 in
      (X t j).1 ((AB t j).1 (h.0, k.0), k.1),
)

pub absorption : (a b ab x : Calendar) → Intersection a b ab → Union a ab x → Same x a
absorption a b ab x AB X t = label-ext λ j. (λ e. ⊎_elim (λ p. p) (λ p. ((AB t j).0 p).0) ((X t j).0 e), λ e. (X t j).1 (inl e))

pub distribution : (a b c bc ab ac x y : Calendar) → Union b c bc → Intersection a bc x → Intersection a b ab → Intersection a c ac → Union ab ac y → Same x y
distribution a b c bc ab ac x y BC X AB Ac Y t = label-ext λ j. (
  λ e. let h = (X t j).0 e in
      (Y t j).1 (⊎_elim (λ k. inl ((AB t j).1 (h.0, k))) (λ k. inr ((Ac t j).1 (h.0, k))) ((has-union b c bc BC j).0 h.1)),
  λ e. (X t j).1 (⊎_elim
      (λ p. let h = (AB t j).0 p in (h.0, (has-union b c bc BC j).1 (inl h.1)))
      (λ p. let h = (Ac t j).0 p in (h.0, (has-union b c bc BC j).1 (inr h.1)))
      ((Y t j).0 e)),
)

pub double-difference : (a b ab x y : Calendar) → Compatible a b → Difference a b ab → Difference a ab x → Intersection a b y → Same x y
double-difference a b ab x y c AB X Y t = label-ext λ j. (
  λ e. let h = (X t j).0 e in
      (Y t j).1 (h.0, ⊎_elim (λ k. k) (λ n. absurd (h.1 (t, (AB t j).1 (h.0, n)))) (has-decided a b c t j h.0)),
  λ e. let h = (Y t j).0 e in
      (X t j).1 (h.0, λ k. ((AB k.0 j).0 k.1).1 h.1),
)
