-- What several proofs of this crate use of the standard library and of the definitions.
pub use Rattle.c62_op.specs.declared.operands.Operands.{Operands}
pub use Rattle.c62_line.specs.Line.{Says, Does, Jumps, Nothing, with_head, fault_in}
pub use Rattle.c62_line.specs.declared.fault.Cause.{Cause}
pub use Rattle.c62_line.specs.declared.fault.Cause.TheVariants.{TextTooLong, UnknownTarget}
pub use Rattle.c62_read.specs.Block.{branch_last, is_block}
pub use Rattle.c62_read.specs.Jump.{key_from}
pub use Rattle.c62_read.specs.Laws.{settled}
pub use Rattle.c62_read.specs.Program.{labels_of, is_among, Draft, aimed, Numbered, block_in, block_parts, Item}
pub use Rattle.c62_read.specs.Program.{Refusal, Runs, items_from, label_is}
pub use Rattle.c62_read.specs.Program.{label_items, numbered_of, target_number, Begins, BlockParts, blocks_from, cut}
pub use Rattle.c62_read.specs.Program.{glue, is_overfull, joined}
pub use Rattle.c62_read.specs.Program.{line_items, piece_of, says_items}
pub use Rattle.c62_read.specs.Text.{lines_of, is_line_feed}
pub use Rattle.c62_read.specs.Walk.{asked_of, Drafts, drafts_of, missed, own_labels, all_drafts, draft_of, first_line}
pub use Rattle.c62_read.specs.Walk.{is_whole, unless_missed, Asked}
pub use Rattle.c62_read.specs.Walk.{asked_in, is_unknown, no_drafts, number_among}
pub use Rattle.c62_read.specs.declared.block.SerialInsn.{SerialInsn}
pub use Rattle.c62_read.specs.declared.jump.Jump.{Jump}
pub use Rattle.c62_read.specs.declared.program.BlockReader.{BlockReader}
pub use Rattle.std.proofs.Common.{◌≡◌, arith, ◌∙◌, ap, length, sym, ℕ, List, [], refl, true, ◌∷◌, false, None, ◌≤◌}
pub use Rattle.std.proofs.Common.{Bool, Option, ◌+◌, ◌++◌, Some}
pub use Rattle.std.proofs.Common.{◌<◌, cond, eqb, ◌&&◌, take, inr, not, suc, drop, inl, get_or, ◌||◌, leb}
pub use Rattle.std.proofs.Common.{length-append, append_assoc, ltb, rules}
pub use Rattle.std.proofs.Common.{append-nil, Ok, Err, subst, Result}
pub use Rattle.std.proofs.lemmas.Bool.{and_parts, eqb-true, lt-ltb, or_left, cond_both, le-ltb, or_parts, or_right}
pub use Rattle.std.proofs.lemmas.Bool.Decides.{nat_tests}
pub use Rattle.std.proofs.lemmas.Fn.{filter_same}
pub use Rattle.std.proofs.lemmas.List.{length-map, map-append, take_rest, take-append-drop, nil_from_length}
pub use Rattle.std.proofs.lemmas.List.Concat.{flat_map-append}
pub use Rattle.std.proofs.lemmas.List.Folds.{list_all-append, list_any-append}
pub use Rattle.std.proofs.lemmas.Simd.{map-map}
pub use Rattle.std.specs.List.{list_all, list_any, filter, flat_map, All, position_or_len, slice_get}
pub use Rattle.std.specs.Option.{option_to_list}
pub use Rattle.std.specs.Prelude.{map, option_map, if◌then◌else◌, is_some}
pub use Rattle.std.specs.Str.{bytes_eq}
pub use Rattle.std.specs.Vec.Iter.{into_iter_items}
