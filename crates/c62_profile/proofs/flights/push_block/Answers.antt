use Rattle.std.proofs.Common.{◌≤◌, sym, subst}
use Rattle.c62_profile.specs.Flights.{block_of, cycles_of}
use Rattle.c62_profile.proofs.Parts.{few_in_block}
use Rattle.c62_profile.proofs.flights.push_block.Goals as goal

pub push_counts-requires : goal.push_counts-requires
push_counts-requires c =
    subst (λ counts. cycles_of counts ≤ 1000000000000000) (sym c.counts_in.ensures)
    (few_in_block c.args.counts.now (block_of c.args.block.now) 1000000000000000 c.requires)
