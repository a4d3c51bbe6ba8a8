use Rattle.std.proofs.Common.{◌≡◌, ◌++◌, drop}
use Rattle.std.specs.Prelude.{string_bytes}
use Rattle.c62_listing.specs.Listing.{name_in, parted_lines, text_of}
use Rattle.c62_listing.proofs.writer.push_parted.Given as goal

abbrev pub invariant-loop-block : goal.invariant-loop-block
invariant-loop-block l =
    string_bytes l.out ++ text_of (parted_lines (name_in l.blocks) (drop l.block-index l.rest))
    ≡ string_bytes l.fn.out ++ text_of (parted_lines (name_in l.blocks) l.rest)
