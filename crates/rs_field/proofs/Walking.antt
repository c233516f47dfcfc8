-- The parts of the logic that proofs by hand use: what a function owns, its steps, and its end.
pub use mathlib.Core.List.{List, [], ◌++◌, ◌∷◌}
pub use mathlib.Core.Path.{ap, refl, sym, ◌∙◌, ◌≡◌}
pub use Prim.Native.Nat.{ℕ, ◌*◌, ◌+◌, ◌-◌, ◌<◌, ◌^◌, ◌≤◌}
pub use native.Mathlib.Omega.{arith}
pub use lib.ListN.{drop as drop_list, length, length-drop, take, take-append-drop}
pub use lib.Seq.{drop-drop}
pub use base.Fml.{Lft, flft, ftrue, GName, fdead, fres}
pub use base.Fraction.{full_share}
pub use base.Logic.{emp, id⊢, wand, apply∗}
pub use mir.Syntax.{named, w64, a_type, dcons, dnil, Args}
pub use mir.Val.{Val, of_list, vcons, vnil, vstruct, vunit}
pub use contract.Monad.{fact, fact_i}
pub use contract.Running.{tables}
pub use Rattle.std.proofs.Math.Nat.{mul-le-mul_right}
pub use Rattle.std.proofs.raw_atomic.Walks.{proved}
pub use types.ByLocal.{alloc_all, env, free_all, get, lands_as, look_at, look_in_at, pass_all, sets, sets_last, through}
pub use types.Kit.{ !, at_ret, await, done, drop, feq_i, feq_l, fjoin, fjoin3, fpack, frame, fsplit, fsplit3, group}
pub use types.Kit.{join, keep, later, move, pick, qed, raw, rewrite, some, split, split3, suffices, use0, use1, use2, ‵}
pub use types.Kit.{◌$◌, ◌∵◌, ◌⊛◌, use3}
pub use types.Part.{agg, look_in, sub, whole}
pub use types.Run.{addr, and_then, bin, blocks, enter, exec, first, fld, from, hop, lit, load, no_more, of_opd, returns}
pub use types.Run.{stop, unit_lit}
pub use borrow.Table.Elements.{at, at_mul, length-take-le}
pub use denote.Array.{Array}
pub use denote.Builtin.{u8, usize, unit, RefOf}
pub use denote.Exit.{no, yes}
pub use denote.Follow.{follows_both}
pub use denote.Laws.{Is, shows}
pub use denote.Memory.{cell_at}
pub use denote.Plain.{uint_Makes, uint_Tells, uint_vals}
pub use denote.RattleType.{RattleType, Valss, flat, owns}
pub use denote.Ref.{MutBor, MutRef, mut_Tells, mut_vals, ShrRef, shr_vals, shr_Tells}
pub use denote.Shadow.{pure_i, pure_l}
pub use denote.Signature.{named_lft, plain, Slot}
pub use denote.Slice.{MutSlice, Room, mut_slice_at, mut_slice_vals, room, slice_val}
pub use denote.Steps.{closes, heard, nothing, only, opens, owned, peeks}
pub use denote.Struct.Declared.{fields, row, shape}
pub use denote.Struct.Struct.{within}
pub use denote.Struct.Tuple.{tuple_type}
pub use denote.Triple.Call.{calls_at}
pub use denote.Triple.Clauses.{lasts}
pub use denote.Triple.Spec.{triple_of}
pub use denote.Triple.Table.{framed}
pub use denote.Triple.Walked.{Goes-dropped, Goes-spent_ref, Stays, ends_at, says, stay_dropped, walk_of, stay_ref}
pub use denote.Triple.Walked.{Goes-ref}
