-- What the proofs of this crate use of the standard library and of the definitions.
pub use Rattle.c62_depend.proofs.Plans.{many_insns, short_is}
pub use Rattle.c62_depend.proofs.DirectLists.{direct_followers_are, direct_latency, direct_latency_is}
pub use Rattle.c62_depend.proofs.DirectLists.{direct_latency_of, direct_needs_are, followers_pieces, needs_pieces}
pub use Rattle.c62_depend.specs.Direct.{DependsDirectly, IsDirect, direct_followers, direct_needs}
pub use Rattle.c62_depend.specs.Latency.{latency}
pub use Rattle.c62_depend.specs.Links.{linked}
pub use Rattle.c62_depend.specs.Plan.{IsPlan, IsShort, insns_of}
pub use Rattle.c62_depend.specs.Side.{side, stands_on}
pub use Rattle.c62_depend.specs.declared.links.Link.{Link}
pub use Rattle.c62_rules.proofs.Parts.{part-keeps, part-without}
pub use Rattle.c62_op.proofs.Registers.{same_reg-is, same_side-is, same_side-refl, same_unit-is, same_unit-refl}
pub use Rattle.c62_op.proofs.UnitOrder.{index_of-below, index_of-listed, same_index}
pub use Rattle.c62_rules.specs.Dependence.{Bounds, Depends, IsGreatestBound, IsLatency, WriteAfterWrite}
pub use Rattle.c62_rules.specs.PacketRules.{HasOneLanding, IsIssued, Issue, Issues, KeepsPacketRules, LandsIn, issued}
pub use Rattle.c62_rules.specs.declared.resource.CycleRule.{CycleRule}
pub use Rattle.c62_op.specs.Shape.{data_path_of, is_branch}
pub use Rattle.c62_op.specs.Units.{all_units, index_of}
pub use Rattle.c62_insn.specs.declared.insn.Insn.{Insn}
pub use Rattle.c62_op.specs.declared.register.Letter.TheVariants.{L}
pub use Rattle.c62_op.specs.declared.register.Reg.{Reg}
pub use Rattle.c62_op.specs.declared.register.Side.{Side}
pub use Rattle.c62_op.specs.declared.register.Side.TheVariants.{A, B}
pub use Rattle.c62_op.specs.declared.register.Unit.{Unit as FunctionalUnit}
pub use Rattle.c62_sheet.specs.Check.{Breaks, IsFirst, IsOpen, IsRefused, IsTold, LacksSome, turn_of}
pub use Rattle.c62_sheet.specs.Counts.{HasCount, IsPlacedOn, set_length}
pub use Rattle.c62_sheet.specs.Early.{IsAfterDirect, IsDirectEarly}
pub use Rattle.c62_sheet.specs.Index.{AreHigher, AreLower, IsIndex, is_missing, lacking, times}
pub use Rattle.c62_sheet.specs.Lawful.{IsAt, IsLawful, Spots, issue_at, issues, nothing_placed, placed, spot_at}
pub use Rattle.c62_sheet.specs.Lawful.{withdrawn}
pub use Rattle.c62_sheet.specs.Least.{FitsWithout, HasNoPick, HasNoSpot, IsAfter, IsBefore, IsComplete, IsEarly, IsLast}
pub use Rattle.c62_sheet.specs.Least.{IsLeast, IsPick, IsReady}
pub use Rattle.c62_sheet.specs.Least.{IsReadyOn, Precedes}
pub use Rattle.c62_sheet.specs.Packet.{BreaksFirst, Fits, KeepsAll}
pub use Rattle.c62_sheet.specs.Rows.{AreRows, FitsRow}
pub use Rattle.c62_sheet.specs.declared.entry.Rule.{Rule}
pub use Rattle.c62_sheet.specs.declared.entry.Rule.TheVariants.{Delay, InCycle, Limit, Missing, Placed}
pub use Rattle.c62_sheet.specs.declared.entry.Rule.TheVariants.{Unit as WrongUnit}
pub use Rattle.c62_sheet.specs.declared.entry.Spot.{Spot}
pub use Rattle.c62_row.specs.declared.row.Row.{Row}
pub use Rattle.c62_row.specs.declared.row.Uses.{Uses}
pub use Rattle.c62_row.specs.Row.{AreUses, IsUnused, IsWith, IsWithin, IsWithout, Tells}
pub use Rattle.c62_row.specs.Issued.{IsRowOf}
pub use Rattle.c62_row.proofs.Deciding.{any_row}
pub use Rattle.std.proofs.Common.{Bool, List, None, Option, Some, [], add-one, ap, arith, cond, drop, false, get_or}
pub use Rattle.std.proofs.Common.{get_or-set_other}
pub use Rattle.std.proofs.Common.{get_or-set_same, inl, inr, leb, length, length-set, ltb, map, max, pos, refl, rules}
pub use Rattle.std.proofs.Common.{subst, suc, sym, take, true}
pub use Rattle.std.proofs.Common.{zero, ℕ, ℤ, ◌*◌, ◌+ℤ◌, ◌+◌, ◌-ℤ◌, ◌-◌, ◌<◌, ◌∙◌, ◌∷◌, ◌≡◌, ◌≢◌, ◌≤◌, ◌⊎◌}
pub use Rattle.std.proofs.Math.Seq.{drop-cons, take-set-lt}
pub use Rattle.std.proofs.lemmas.Bool.{and_cases, cases_Bool, cases_eq, cases_lt, eq-eqb, eqb-true, false≢true}
pub use Rattle.std.proofs.lemmas.Bool.Decides.{nat_tests}
pub use Rattle.std.proofs.lemmas.Grind.{common_steps}
pub use Rattle.std.proofs.lemmas.Int.{by_lt_z, ints}
pub use Rattle.std.proofs.lemmas.List.{drop_all, ext_get_or, get_or-map, get_or-replicate, get_or_default, get_or_past}
pub use Rattle.std.proofs.lemmas.List.{length-map, length-replicate}
pub use Rattle.std.proofs.lemmas.List.{set-get_or, set-set, take-replicate, take-take, take_all, with_items_is}
pub use Rattle.std.proofs.lemmas.List.Elements.{All-contains, All-from_get_or, All-get_or}
pub use Rattle.std.proofs.lemmas.List.Sums.{count_by-le-length, get_or-le-sum_by, sum_by-append, sum_by-cons, sum_by-le}
pub use Rattle.std.proofs.lemmas.List.Sums.{sum_by-set, sum_by-take-le}
pub use Rattle.std.proofs.lemmas.List.Sums.{sum_by_more}
pub use Rattle.std.proofs.lemmas.Option.{none-some, same_Some, slice_get_cases, slice_get_within}
pub use Rattle.std.specs.Prelude.{Contains, IfSome, IsSome, IsTrue, MatchOption, count_by, eqb, find, is_none, is_some}
pub use Rattle.std.specs.Prelude.{not, option_map, slice_get}
pub use Rattle.std.specs.Prelude.{slice_index, slice_index_or, slice_set, sum_by, ◌&&◌, ◌==◌, ◌↔◌}
