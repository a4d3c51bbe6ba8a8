use Rattle.std.proofs.Common.{arith}
use Rattle.std.proofs.lemmas.List.{length-map}
use Rattle.c62_listing_reader.specs.Said.{part_of}
use Rattle.c62_listing_reader.proofs.BlockLemmas.{in_order}
use Rattle.c62_listing_reader.proofs.reader.packet_block.Goals as goal

pub new-requires-clause-in_order : goal.new-requires-clause-in_order
new-requires-clause-in_order c = in_order c.args.block.placed.items c.args.block.as_written c.requires.ordered

pub new-requires-clause-few : goal.new-requires-clause-few
new-requires-clause-few c = let all = length-map c.args.block.placed.items part_of in omega (arith, all, c.requires.few)
