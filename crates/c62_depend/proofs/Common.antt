-- What several proofs of this crate use of the standard library and of the definitions.
pub use Rattle.c62_depend.specs.Height.{raised, raised_by, delay_in, delay_at, longest, path_within, AreHeightsFrom}
pub use Rattle.c62_depend.specs.Height.{IsHeight}
unfoldable pub use Rattle.c62_depend.specs.Height.{height}
pub use Rattle.c62_depend.specs.Latency.{greater, read_after_write, write_after_read, write_after_write, latency_of}
pub use Rattle.c62_depend.specs.Latency.{greatest_by, awaits, spares}
pub use Rattle.c62_depend.specs.Latency.{overwrites, access_after_store, store_after_load, before_branch, by_order}
pub use Rattle.c62_depend.specs.Latency.{between}
unfoldable pub use Rattle.c62_depend.specs.Latency.{by_registers, latency}
pub use Rattle.c62_depend.specs.Links.{linked}
unfoldable pub use Rattle.c62_depend.specs.Links.{followers}
pub use Rattle.c62_depend.specs.Lists.{links_of, AreLists}
pub use Rattle.c62_pair.specs.Numbers.{as_bound, number_if, number_awaited, number_spared, number_after_result}
pub use Rattle.c62_pair.specs.Numbers.{number_after_at_once}
pub use Rattle.c62_pair.specs.Numbers.{number_overwritten, number_of_registers, number_of_order}
pub use Rattle.c62_depend.specs.Plan.{IsShort, IsPlan, unnumbered, insns_of}
pub use Rattle.c62_pair.specs.RegSet.{reg_in, shares}
pub use Rattle.c62_depend.specs.Side.{branch_side, side_or, side_in, suits, side_at, suits_at}
unfoldable pub use Rattle.c62_depend.specs.Side.{side, stands_on}
pub use Rattle.c62_depend.specs.UnitChoices.{IsUnitChoice, AreUnitChoices}
pub use Rattle.c62_pair.specs.Uses.{insns_in}
pub use Rattle.c62_pair.specs.Writes.{is_write_with}
pub use Rattle.c62_depend.specs.declared.links.Link.{Link}
pub use Rattle.c62_pair.specs.declared.reg_set.RegSet.{RegSet}
pub use Rattle.c62_pair.specs.declared.uses.Uses.{Uses}
pub use Rattle.c62_op.proofs.Registers.{same_reg-is, same_reg-refl, same_side-is, same_side-refl, same_unit-refl}
pub use Rattle.c62_rules.specs.Dependence.{IsBound, ReadAfterWrite, WriteAfterRead, WriteAfterWrite, AfterStore}
pub use Rattle.c62_rules.specs.Dependence.{StoreAfterLoad, BeforeBranch, Bounds}
pub use Rattle.c62_rules.specs.Dependence.{Depends, IsLatency, are_exclusive, are_disjoint, IsGreatestBound}
pub use Rattle.c62_insn.specs.Insn.{op_of, operands_of, register_writes, reads_register, unit_of, cond_of}
pub use Rattle.c62_insn.specs.Insn.{is_condition_on}
pub use Rattle.c62_op.specs.Shape.{delay_of, is_load, changes_base, writes_of, is_store, is_branch, side_of}
pub use Rattle.c62_insn.specs.Stands.{may_stand}
pub use Rattle.c62_op.specs.Takes.{same_reg, same_side, takes}
pub use Rattle.c62_op.specs.Units.{all_units}
pub use Rattle.c62_insn.specs.UnitSet.{unit_in}
pub use Rattle.c62_insn.specs.declared.insn.Insn.{Insn}
pub use Rattle.c62_op.specs.declared.operands.Op.{Op}
pub use Rattle.c62_op.specs.declared.operands.Operands.{Operands}
pub use Rattle.c62_op.specs.declared.operands.Operands.TheVariants.{Three, ConstantFirst, ConstantSecond, Two, Field}
pub use Rattle.c62_op.specs.declared.operands.Operands.TheVariants.{Constant, Access}
pub use Rattle.c62_op.specs.declared.register.Reg.{Reg}
pub use Rattle.c62_op.specs.declared.register.Side.{Side}
pub use Rattle.c62_op.specs.declared.register.Unit.{Unit as FunctionalUnit}
pub use Rattle.c62_read.specs.Block.{branch_last, operations, is_block, Serial}
pub use Rattle.std.proofs.Common.{◌≡◌, ℕ, suc, ◌+◌, ◌<◌, ◌≤◌, ℤ, pos, ◌-ℤ◌, ◌≤ℤ◌, Bool, true, false, List, [], ◌∷◌}
pub use Rattle.std.proofs.Common.{Option, Some, None, refl, sym, ap}
pub use Rattle.std.proofs.Common.{◌∙◌, subst, arith, inl, inr, ◌⊎◌, length, zero, cond, ◌-◌, ◌*◌, max, set, ◌++◌, map}
pub use Rattle.std.proofs.Common.{get_or, negsuc, take, drop}
pub use Rattle.std.proofs.Common.{◌≢◌, ◌^◌, ◌%◌, min, w32, bit_or, bit_and, ◌+ℤ◌}
pub use Rattle.std.proofs.lemmas.Bool.{both_ways, false_from_ne_true, or_cases, or_left, or_right, and_parts, cond_both}
pub use Rattle.std.proofs.lemmas.Bool.{cases_eq, not-true}
pub use Rattle.std.proofs.lemmas.Bool.{cases_Bool, lt-ltb, le-ltb, ltb-true, cases_lt, leb-true, eqb-true}
pub use Rattle.std.proofs.lemmas.Bool.Decides.{nat_tests}
pub use Rattle.std.proofs.lemmas.Grind.{get_or-set_at, flat_map-append}
pub use Rattle.std.proofs.lemmas.Int.{ints, clamps}
pub use Rattle.std.proofs.lemmas.List.{get_or-set_other, length-map, append_assoc, length-append, get_or-append_right}
pub use Rattle.std.proofs.lemmas.List.{get_or-take, get_or-drop}
pub use Rattle.std.proofs.lemmas.List.{length-take-le, length-drop, get_or_append_left, get_or_push}
pub use Rattle.std.proofs.lemmas.List.Elements.{All-nil, All-cons, All-append, All-contains, All-head, All-tail}
pub use Rattle.std.proofs.lemmas.List.Elements.{All-weaker, Contains-append_left}
pub use Rattle.std.proofs.lemmas.List.Elements.{Contains-append_right}
pub use Rattle.std.proofs.lemmas.List.FromFn.{fill_by_all, map-range_with_len_more, get_or-map-range_with_len}
pub use Rattle.std.proofs.lemmas.List.FromFn.{length-map-range_with_len}
pub use Rattle.std.proofs.lemmas.Option.{same_Some, none-some, slice_get_read, slice_get-map, slice_get_within}
pub use Rattle.std.proofs.lemmas.Option.{slice_get_cases}
pub use Rattle.std.specs.Int.{int_max, bit_at, trailing_zeros}
pub use Rattle.std.specs.List.{list_any, flat_map, range_with_len, slice_range}
pub use Rattle.std.specs.Prelude.{Contains, All, ◌==◌, if◌then◌else◌, not, MatchOption, fold, int_lt, slice_get}
pub use Rattle.std.specs.Prelude.{slice_index, IfSome, IsTrue, is_some}
pub use Rattle.std.specs.Prelude.{◌↔◌, nat_lt, ◌&&◌, ◌||◌, nat_le, vec_len}
