-- What a walk knows of the machine values of a function's parameters.
--     Known R          how a value of the type is spelled, that what it owns tells that, and that it is of its MIR type.        Knowns Rs     the same for each of a list
--     Spelled Rs ks a      the machine values of a, one list for each type.        Passed     all in a row
--     of_types          they are of their types
-- Assumes nothing; the laws of a type that a `Known` is made of assume `Logic`.
use mathlib.Core.List.{List, [], ◌∷◌}
use mir.Val.{Val}
use seplogic.Ra.Ura.{Ura}
use mir.Syntax.{Lifetime, w64}
use base.Fml.{Lft}
use types.Logic.{Logic}
use denote.Builtin.{i32, i64}
use denote.Enum.Declared as E
use denote.Enum.Enum.{Few}
use denote.Enum.Laws as EL
use denote.Signed.{sint_vals, sint_Tells, sint_Lawful}
use denote.Slice.{MutSlice, ShrSlice, shr_slice_vals, mut_slice_vals, mut_slice_Tells, mut_slice_Lawful, shr_slice_Tells, shr_slice_Lawful}
use denote.Struct.Declared as S
use denote.Struct.Laws as SL
use denote.RattleType.{RattleType, Denots, Valss, mirs, flat}
use denote.Laws.{Is, Tells, Typed, Typed-app, Spells, Tellss, Ises, Are, valss}

pub record Known (R : RattleType) : Type 0 where
  pub vals : R.Denot → List Val
  pub tells : Tells R (Is R) vals
  pub typed : (x : R.Denot) (vs : List Val) → Is R x vs → Typed R.mir vs

abbrev pub Knowns : List RattleType → Type 0
Knowns [] = Unit {0}
Knowns (R ∷ Rs) = Known R × Knowns Rs

abbrev pub spells : (Rs : List RattleType) → Knowns Rs → Spells Rs
spells [] ks = tt
spells (R ∷ Rs) ks = (ks.0.vals, spells Rs ks.1)

abbrev pub tells_all : (Rs : List RattleType) (ks : Knowns Rs) → Tellss Rs (Ises Rs) (spells Rs ks)
tells_all [] ks = tt
tells_all (R ∷ Rs) ks = (ks.0.tells, tells_all Rs ks.1)

abbrev pub Spelled : (Rs : List RattleType) → Knowns Rs → Denots Rs → Valss Rs
Spelled Rs ks a = valss Rs (spells Rs ks) a

abbrev pub Passed : (Rs : List RattleType) → Knowns Rs → Denots Rs → List Val
Passed Rs ks a = flat Rs (Spelled Rs ks a)

pub of_types : (Rs : List RattleType) → Knowns Rs → (a : Denots Rs) (vss : Valss Rs) → Are Rs (Ises Rs) a vss → Typed (mirs Rs) (flat Rs vss)
of_types [] ks a vss g = tt
of_types (R ∷ Rs) ks a vss g = Typed-app R.mir (mirs Rs) vss.0 (flat Rs vss.1) (ks.0.typed a.0 vss.0 g.0) (of_types Rs ks.1 a.1 vss.1 g.1)

-- ---- the types of parameters
module _ {M : Type 1} {𝓤 : Ura M} (𝓛 : Logic 𝓤) where
  abbrev pub number : Known i64
  number = record { vals = sint_vals w64; tells = sint_Tells w64; typed = (sint_Lawful 𝓛 w64).typed }

  abbrev pub cells : (ℓ : Lifetime) (κ : Lft) → Known (ShrSlice ℓ κ i32)
  cells ℓ κ = record { vals = shr_slice_vals; tells = shr_slice_Tells ℓ κ i32; typed = (shr_slice_Lawful 𝓛 ℓ κ i32).typed }

  abbrev pub list : (ℓ : Lifetime) (κ : Lft) → Known (MutSlice ℓ κ i64)
  list ℓ κ = record { vals = mut_slice_vals; tells = mut_slice_Tells ℓ κ i64; typed = (mut_slice_Lawful 𝓛 ℓ κ i64).typed }

  abbrev pub struct : (D : S.Declared) → SL.Laws D → Known (S.row D)
  struct D L = record { vals = SL.vals D L; tells = SL.tells D L; typed = (SL.lawful D L 𝓛).typed }

  abbrev pub enum : (D : E.Declared) → EL.Laws D → Few (E.shape D) → Known (E.row D)
  enum D L few = record { vals = EL.vals D L; tells = EL.tells D L; typed = (EL.lawful D L 𝓛 few).typed }
