use Rattle.std.proofs.Common.{◌≤◌, sym, subst}
use Rattle.c62_profile.specs.Flights.{block_of, cycles_of}
use Rattle.c62_profile.proofs.Parts.{few_in_block}
use Rattle.c62_json_report.proofs.flights.push_row.Goals as goal

pub push_told-requires : goal.push_told-requires
push_told-requires c =
    subst (λ counts. cycles_of counts ≤ 1000000000000000) (sym c.counts_in.ensures)
    (few_in_block c.args.counts.now (block_of c.args.block.now) 1000000000000000 c.requires)
