-- What a walk names of the logic, passed on by one module: a proof has one line for it.
pub use base.Fml.{Fml, GName, Lft, Share, fat, fauth, fbor, fdies, flft, fobor, fobs, froom, ftrue}
pub use base.Logic.{SProp, emp, ent, fst∗, id⊢, via}
pub use contract.Lifetimes.{Lfts}
pub use contract.Monad.{Fun}
pub use contract.Running.{tables}
unfoldable pub use contract.Running.{tables_of}
pub use denote.Builtin.{i32, i64, usize}
pub use denote.Exit.{yes}
pub use denote.Index.{closes_slice, elem_out, elem_put, opens_slice, place_is, row}
pub use denote.Laws.{Is, Typed, shows}
pub use denote.Lend.{Held}
pub use denote.Plain.{Nothing-Lawful, uint_Makes}
pub use denote.RattleType.{owns}
pub use denote.Ref.{NamedLft, Bor, MutBor}
pub use denote.Signature.{named_lft, plain}
pub use denote.Slice.{MutSlice, Room, ShrSlice, coded_holeys, finally, heres, mut_slice_Tells, shr_slice_copy, shr_slice_Tells, shr_slice_vals, mut_slice_vals, slice_val}
pub use denote.Steps.{nothing, only, owned}
pub use denote.Triple.Entry.{on_entry}
pub use denote.Triple.Spec.{Meets, triple_of}
pub use denote.Triple.Table.{cited, entered}
pub use denote.Triple.Walked.{Stays, ends_at, gave_slice, Goes-gave_slice, Goes-none, Goes-none_slice, Goes-slice, says, stay_none, stay_none_slice, stay_slice, walk_of}
pub use ghost.Atoms.{Atoms}
pub use base.Fraction.{full_share}
pub use seplogic.Ra.Ura.{Ura}
pub use lib.Dec.{T as Holds, lit<, ltb, ltb→lt, nltb→le}
pub use lib.IntN.{ℤ}
pub use lib.ListN.{length, set}
pub use mathlib.Core.List.{List, [], ◌∷◌}
pub use mathlib.Core.Path.{◌∙◌, ◌≡◌, ap, refl, subst, sym}
pub use mir.Syntax.{Ty, named, ty_int, w64}
pub use mir.Val.{Val, WT, has_ty, vint, vptr, vunit}
pub use native.Mathlib.Nat.{le_antisymm, lt_of_le_of_lt}
pub use native.Mathlib.Numerals.{add-one, add-one-dec}
pub use native.Mathlib.Omega.{arith}
pub use prog.Memory.{Memory}
pub use prog.Routine.{Routine}
pub use prog.Wp.{Env, Heap, Out, Tables, Wp, WpFn, after_block, after_seq, at_return}
unfoldable pub use prog.Wp.{after_turn}
pub use sound.WpLaws.{fm_of}
pub use types.Kit.{ !, Item, Sq, ◌$◌, ◌∵◌, ◌⊛◌, any_q, at_ret, by, done, drop, feq_i, feq_l, fjoin, frame, fsplit, join, keep, move, qed, raw, rewrite, runs, split, suffices, use1, use2, ‵, ⋆}
pub use types.Part.{agg}
pub use types.Run.{Below, again, alloc0, alloc1, and_then, assigns, assigns_last, bin, blocks, branches, enter, exec, first, forget, free0, from, hop, init, jumps, land, lit, look, loops, no_more, of_opd, params1, pass0, pass1, returns, skips, stop, store, store_raw, unit_lit}
