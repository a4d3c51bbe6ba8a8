-- What several proofs of this crate use of the standard library, of the definitions and of other crates.
pub use Rattle.std.proofs.Common.{Bool, List, None, Option, Some, [], ap, append-nil, append_assoc, arith, false}
pub use Rattle.std.proofs.Common.{length, length-append, map}
pub use Rattle.std.proofs.Common.{refl, subst, suc, sym, true, zero, ℕ, ◌%◌, ◌*◌, ◌++◌, ◌+◌, ◌-◌, ◌/◌, ◌<◌, ◌∙◌, ◌∷◌}
pub use Rattle.std.proofs.Common.{◌≡◌, ◌≤◌}
pub use Rattle.std.specs.Prelude.{All, Ok, codes, if◌then◌else◌, is_none, nat_le, nat_lt, replicate, ◌&&◌, ◌||◌}
pub use Rattle.std.specs.List.{AllByRecursion, AllZip, list_all, list_any, slice_get}
pub use Rattle.std.proofs.lemmas.Bool.Decides.{nat_tests}
pub use Rattle.std.proofs.lemmas.List.Elements.{All-tail}
pub use Rattle.c62_op.specs.Shape.{is_branch}
pub use Rattle.c62_op.specs.declared.operands.Operands.{Operands}
pub use Rattle.c62_insn.specs.Insn.{op_of, operands_of, unit_of}
pub use Rattle.c62_insn.specs.Spelling.{spelling}
pub use Rattle.c62_line.specs.Laws.{says_on}
pub use Rattle.c62_line.specs.Line.{Does, Jumps, Nothing, Parts, Pause, Says}
pub use Rattle.c62_read.specs.Program.{Name, label_is}
pub use Rattle.c62_packet.specs.Packed.{IsPacketBlock, Packed, is_branching as is_branching_placed, issue_of}
pub use Rattle.c62_packet.specs.declared.placed.Placed.{Placed}
pub use Rattle.c62_listing.specs.Listing.{all_lines, block_lines, cycle_lines, idle_lines, label_lines, listing}
pub use Rattle.c62_listing.specs.Listing.{name_in, parted_lines, pause_line}
pub use Rattle.c62_listing_reader.proofs.BackLemmas.{IsWritable}
pub use Rattle.c62_adopt_line.specs.Line.{Line, line_said, line_says}
pub use Rattle.c62_adopt_cut.specs.declared.clock.Stand.{Stand}
pub use Rattle.c62_adopt_cut.specs.Cut.{cuts_of, cycles_of, first_of, is_cut_behind, last_packet, stand_at, stand_of}
pub use Rattle.c62_adopt_cut.specs.Cut.{start_of}
pub use Rattle.c62_adopt_cut.specs.Blocks.{Draft, Drafts, Issue, all_drafts, begins_at, no_drafts, opened, with_line}
pub use Rattle.c62_adopt_cut.specs.Text.{cut_at, end_of}
