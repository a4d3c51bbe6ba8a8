use Rattle.std.proofs.Common.{rules}
use Rattle.c62_loop_match.specs.Parts.{region_of as region_read}
use Rattle.c62_check_loop.specs.Region.{IsRegionOf}
use Rattle.c62_check_loop.proofs.verdict.check_loop.Goals as goal

pub returns-in_ok-told-in-Some : goal.returns-in_ok-told-in-Some
returns-in_ok-told-in-Some c =
    let found : IsRegionOf c.args.blocks.now c.args.number (region_read c.in-Some.region) = search rules in
    (region_read c.in-Some.region, found, c.in_ok-told-in-Some.ensures)
