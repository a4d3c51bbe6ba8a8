-- What several proofs of this crate use of the standard library, of the definitions and of other crates.
pub use Rattle.c62_op.proofs.UnitOrder.{index_of-below}
pub use Rattle.c62_insn.specs.Insn.{op_of, operands_of, unit_of}
pub use Rattle.c62_rules.specs.Length.{landing_end}
pub use Rattle.c62_insn.specs.Spelling.{spelling}
pub use Rattle.c62_op.specs.Takes.{takes}
pub use Rattle.c62_op.specs.Units.{index_of}
pub use Rattle.c62_insn.specs.declared.insn.Insn.{Insn}
pub use Rattle.c62_op.specs.declared.operands.Operands.{Operands}
pub use Rattle.c62_op.specs.declared.operands.Operands.TheVariants.{Block}
pub use Rattle.c62_op.specs.declared.register.Unit.{Unit as FunctionalUnit}
pub use Rattle.c62_line.proofs.LabelFields.{field_is, head_read}
pub use Rattle.c62_line.proofs.PauseLemmas.{IsShort}
pub use Rattle.c62_line.proofs.SaysLemmas.{IsProper, has_no_block}
pub use Rattle.c62_line.proofs.SpelledOperands.{label_parts}
pub use Rattle.c62_line.proofs.WrittenLines.{label_back}
pub use Rattle.c62_line.specs.Laws.{NamesTarget, parts_on, says_on, says_with}
pub use Rattle.c62_line.specs.Line.{Does, Jumps, Nothing, Parts, Pause, Says, head_of, label_field, line_of, parts_of}
pub use Rattle.c62_line.specs.Line.{rest_says as words_say}
pub use Rattle.c62_line.specs.declared.fault.Cause.{Cause}
pub use Rattle.c62_listing.specs.Listing.{all_lines, block_lines, cycle_lines, idle_lines, label_lines, label_text}
pub use Rattle.c62_listing.specs.Listing.{listing, name_in, parted_lines}
pub use Rattle.c62_listing.specs.Listing.{pause_line, text_of}
pub use Rattle.c62_listing_reader.specs.Begin.{front_of, has_colon, is_beside, is_gap, rest_of}
pub use Rattle.c62_listing_reader.specs.Faults.{IsRead, Refusal, after_label, and_then, contents, cycles_added}
pub use Rattle.c62_listing_reader.specs.Faults.{draft_of, drafts_in, goes_on}
pub use Rattle.c62_listing_reader.specs.Faults.{is_alone, is_filled, is_issue, is_misplaced, is_taken, line_says}
pub use Rattle.c62_listing_reader.specs.Faults.{most_bytes, precedes, read_lines}
pub use Rattle.c62_listing_reader.specs.Faults.{rest_says, unit_above, unit_said}
pub use Rattle.c62_listing_reader.specs.Fine.{IsFine, part_position, unit_index}
pub use Rattle.c62_packet.specs.Alike.{AreAlike}
pub use Rattle.c62_listing_reader.specs.Reading.{Refuses, draft_open}
pub use Rattle.c62_listing_reader.specs.Said.{Draft, Drafts, Part, Said, above_next, above_of, aim_by, all_drafts}
pub use Rattle.c62_listing_reader.specs.Said.{ended, front_spelling, is_text}
pub use Rattle.c62_listing_reader.specs.Said.{jump_to, labels_of, named, names_in, no_drafts, number_after, number_of}
pub use Rattle.c62_listing_reader.specs.Said.{opened, part_of}
pub use Rattle.c62_listing_reader.specs.Said.{parts_spelling, spelled_line, with_label, with_line, with_part}
pub use Rattle.c62_listing_reader.specs.Said.{with_pause, with_said, with_says}
pub use Rattle.c62_listing_reader.specs.Text.{Line, begin_filled, content, ends_in_return, is_empty, is_ended, lines_in}
pub use Rattle.c62_listing_reader.specs.declared.draft.OpenBlock.{OpenBlock}
pub use Rattle.c62_listing_reader.specs.declared.fault.LineFault.{LineFault}
pub use Rattle.c62_listing_reader.specs.declared.fault.ListFault.{ListFault}
pub use Rattle.c62_listing_reader.specs.declared.line.Above.{Above}
pub use Rattle.c62_listing_reader.specs.declared.line.Above.TheVariants.{Issue, Pause as PauseAbove, Start}
pub use Rattle.c62_listing_reader.specs.declared.line.Front.{Front}
pub use Rattle.c62_listing_reader.specs.declared.line.Front.TheVariants.{Beside, Empty, First}
pub use Rattle.c62_packet.specs.Packed.{IsInListingOrder, IsPacketBlock, Packed, StandAsWritten, issue_of}
pub use Rattle.c62_packet.specs.Packed.{listing_position}
pub use Rattle.c62_packet.specs.Packets.{labels_of as packet_labels}
pub use Rattle.c62_packet.specs.declared.placed.Placed.{Placed}
pub use Rattle.c62_read.specs.Block.{is_labelled, target_stands}
pub use Rattle.c62_read.specs.Program.{Name, is_among, label_is}
pub use Rattle.c62_read.specs.Text.{is_line_feed}
pub use Rattle.c62_read.specs.Walk.{is_instruction, is_unknown}
pub use Rattle.c62_token.specs.Number.{is_label}
pub use Rattle.c62_token.specs.Token.{begins, is_allowed, tokens}
pub use Rattle.std.proofs.Common.{Bool, List, None, Option, Some, [], ap, append-nil, append_assoc, arith, false}
pub use Rattle.std.proofs.Common.{get_or, length, length-append, map}
pub use Rattle.std.proofs.Common.{min, not, refl, subst, suc, sym, take, true, zero, ℕ, ◌%◌, ◌*◌, ◌++◌, ◌+◌, ◌-◌, ◌/◌}
pub use Rattle.std.proofs.Common.{◌<◌, ◌∙◌, ◌∷◌, ◌≡◌, ◌≤◌}
pub use Rattle.std.proofs.Math.ListN.{get_or-map}
pub use Rattle.std.proofs.lemmas.Bool.{and_from, and_parts, false≢true, le-ltb, lt-leb, ltb-false}
pub use Rattle.std.proofs.lemmas.Bool.Decides.{nat_tests}
pub use Rattle.std.proofs.lemmas.List.{length-map, map-append}
pub use Rattle.std.proofs.lemmas.List.Elements.{All-cons, All-nil, All-tail}
pub use Rattle.std.proofs.lemmas.List.Folds.{list_all-append}
pub use Rattle.std.proofs.lemmas.Option.{none-some, slice_get_within}
pub use Rattle.std.proofs.lemmas.Slice.Eq.{bytes_eq-Decides}
pub use Rattle.std.specs.List.{AllByRecursion, IsDistinct, flat_map, list_all, list_any, slice_get}
pub use Rattle.std.specs.List.Sorted.{IsNonDecreasingBy}
pub use Rattle.std.specs.Option.{option_to_list}
pub use Rattle.std.specs.Prelude.{All, Err, IsTrue, MatchResult, Ok, Result, codes, if◌then◌else◌, is_none, is_some}
pub use Rattle.std.specs.Prelude.{nat_eq, nat_le, nat_lt}
pub use Rattle.std.specs.Prelude.{replicate, ◌&&◌, ◌==◌, ◌||◌}
pub use Rattle.std.specs.Str.{bytes_eq}
