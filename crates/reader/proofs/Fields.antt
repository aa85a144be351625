-- A reader and its fields: machine values, types, and what they own.
--     cells_ty, list_ty      the MIR types of a row's cells, and of a lent list
--     num z, slice x       the machine values of a number, and of a slice.        fields d, fields_then      those of the reader's fields, and more behind them
--     Row d, RowThen       the values of the reader's fields, and more behind them.        read      the reader of these values
--     row, reader          what is known of the machine values of a row's parameters, and of a reader
--     made                 the machine value of a reader that is made of its fields, in a local, is of the struct's type
--     Parts α d            what the reader's fields own.        PartsThen      the same, and more behind it
--     fields-last          what a reader and other parameters own, with the reader taken apart and its fields last.        fields-first     and back
--     both-last            the same of two readers
-- Assumes `Logic`.
use mathlib.Core.Path.{◌≡◌}
use mathlib.Core.List.{List, [], ◌∷◌}
use lib.IntN.{ℤ}
use lib.ListN.{length}
use seplogic.Ra.Ura.{Ura}
use mir.Syntax.{Lifetime, Ty, ty_int, ty_ref, imm, mut, w32, w64, erased}
use mir.Val.{Val, WT}
use base.Logic.{ent, via, guard_e, id⊢}
use base.Fml.{Fml, Lft}
use types.Logic.{Logic, sem}
use types.Kit.{‵, ◌⊛◌, ◌$◌, ◌∵◌, !, qed, by, move, use1, use2, split, done}
use denote.RattleType.{RattleType, Denots, Valss, owns}
use denote.Builtin.{i32, i64}
use denote.Ref.{Bor, NamedLft}
use denote.Signed.{sint_vals}
use denote.Slice.{ShrSlice, slice_val, slice_ty}
use denote.Steps.{only}
use denote.Struct.Field.{rows}
use denote.Struct.Rest.{own_open, own_shut}
use Rattle.hand_proofs.proofs.Params.{Known, number, cells, struct}
use Rattle.hand_proofs.proofs.Owned.{owns_then, last, unlast}
use Rattle.hand_proofs.proofs.Passed.{IsOf}
use Rattle.reader.specs.declared.Reader.{Reader}
use Rattle.reader.specs.contracts.Reader as T
use Rattle.reader.proofs.Reader.TheLaws as T'

abbrev pub cells_ty : Lifetime → Ty
cells_ty ℓ = slice_ty (ty_ref ℓ imm (ty_int w32))

abbrev pub list_ty : Lifetime → Ty
list_ty ℓ = slice_ty (ty_ref ℓ mut (ty_int w64))

abbrev pub num : ℤ → Val
num z = only (sint_vals w64 z)

abbrev pub slice : Bor (List ℤ) → Val
slice x = slice_val x.ref_ptr (length x.now)

-- the machine values of the fields, and the fields' values as parameters, with more behind them
abbrev pub fields_then : Reader → List Val → List Val
fields_then d vs = slice d.cells ∷ num d.period ∷ num d.distance ∷ vs

abbrev pub fields : Reader → List Val
fields d = fields_then d []

abbrev pub RowThen : {X : Type 0} → Reader → X → Bor (List ℤ) × (ℤ × (ℤ × X))
RowThen d x = (d.cells, (d.period, (d.distance, x)))

abbrev pub Row : Reader → Bor (List ℤ) × (ℤ × (ℤ × Unit {0}))
Row d = RowThen d tt

-- the reader of a row's parameters
abbrev pub read : {X : Type 0} → Bor (List ℤ) × (ℤ × (ℤ × X)) → Reader
read a = record { cells = a.0; period = a.1.0; distance = a.1.1.0 }

-- the rows and the machine values of the fields
abbrev Rows : NamedLft → List RattleType
Rows α = rows (T.the_type α).parts

abbrev Vals : (α : NamedLft) → Reader → Valss (Rows α)
Vals α d = (slice d.cells ∷ [], (num d.period ∷ [], (num d.distance ∷ [], tt)))

abbrev pub Parts : NamedLft → Reader → Fml
Parts α d = owns (Rows α) (Row d) (Vals α d)

-- what the fields own, and F behind it
abbrev pub PartsThen : NamedLft → Reader → Fml → Fml
PartsThen α d = owns_then (Rows α) (Row d) (Vals α d)

pub made : (d : Reader) → WT (slice d.cells) → WT (num d.period) → WT (num d.distance) → IsOf (T'.mir erased) (T'.lowered d)
made d s p n = (tt, (s, (p, (n, tt))))

module _ {M : Type 1} {𝓤 : Ura M} (𝓛 : Logic 𝓤) where
  -- the parameters of a row, and a reader
  abbrev pub row : (ℓ : Lifetime) (κ : Lft) {K : Type 0} → K → Known (ShrSlice ℓ κ i32) × (Known i64 × (Known i64 × K))
  row ℓ κ ks = (cells 𝓛 ℓ κ, (number 𝓛, (number 𝓛, ks)))

  abbrev pub reader : (α : NamedLft) → Known (T.the_row α)
  reader α = struct 𝓛 (T.the_type α) (T'.the_laws α)

  module _ (α : NamedLft) (d : Reader) where
    abbrev Own : Fml
    Own = (T.the_row α).own_val d (T'.lowered d ∷ [])

    apart : ent 𝓤 (sem 𝓛 Own) (sem 𝓛 (Parts α d))
    apart =
        via 𝓤 _ (own_open 𝓛 (T.the_type α) (T'.the_laws α) (Row d) (T'.lowered d))
        (guard_e 𝓤 (T'.lowered d ∷ [] ≡ T'.lowered d ∷ []) (sem 𝓛 (Parts α d)) (λ _. id⊢ 𝓤 (sem 𝓛 (Parts α d))))

    together : ent 𝓤 (sem 𝓛 (Parts α d)) (sem 𝓛 Own)
    together = own_shut 𝓛 (T.the_type α) (T'.the_laws α) (Row d)

  -- one reader in front of other parameters
  module _ (α : NamedLft) (d : Reader) (Ts : List RattleType) (a : Denots Ts) (vss : Valss Ts) where
    pub fields-last : ent 𝓤 (sem 𝓛 (owns (T.the_row α ∷ Ts) (d, a) (T'.lowered d ∷ [], vss))) (sem 𝓛 (owns_then Ts a vss (Parts α d)))
    fields-last = qed 𝓛 (‵ (Own α d) ∷ ‵ (owns Ts a vss) ∷ []) ∵ use1 𝓛 (‵ (Parts α d)) (apart α d) $ move ! (1 ∷ 0 ∷ []) $ by ! (last 𝓛 Ts a vss (Parts α d))

    pub fields-first : ent 𝓤 (sem 𝓛 (owns_then Ts a vss (Parts α d))) (sem 𝓛 (owns (T.the_row α ∷ Ts) (d, a) (T'.lowered d ∷ [], vss)))
    fields-first =
        qed 𝓛 (‵ (owns_then Ts a vss (Parts α d)) ∷ []) ∵ use1 𝓛 (‵ (owns Ts a vss) ⊛ ‵ (Parts α d)) (unlast 𝓛 Ts a vss (Parts α d)) $ split ! $
        move ! (1 ∷ []) $ use1 𝓛 (‵ (Own α d)) (together α d) $ done !

  -- two readers in front of other parameters
  module _ (α β : NamedLft) (d e : Reader) (Ts : List RattleType) (a : Denots Ts) (vss : Valss Ts) where
    abbrev Both : Fml
    Both = PartsThen α d (Parts β e)

    pub both-last : ent 𝓤 (sem 𝓛 (owns (T.the_row α ∷ T.the_row β ∷ Ts) (d, (e, a)) (T'.lowered d ∷ [], (T'.lowered e ∷ [], vss)))) (sem 𝓛 (owns_then Ts a vss Both))
    both-last =
        qed 𝓛 (‵ (Own α d) ∷ ‵ (Own β e) ∷ ‵ (owns Ts a vss) ∷ []) ∵ use1 𝓛 (‵ (Parts α d)) (apart α d) $ move ! (1 ∷ []) $ use1 𝓛 (‵ (Parts β e)) (apart β e) $
        move ! (1 ∷ 0 ∷ []) $ use2 𝓛 (‵ Both) (last 𝓛 (Rows α) (Row d) (Vals α d) (Parts β e)) $ move ! (1 ∷ 0 ∷ []) $ by ! (last 𝓛 Ts a vss Both)
