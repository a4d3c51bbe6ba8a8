use Rattle.std.proofs.Common.{◌∙◌, sym}
use Rattle.c62_command.specs.Promises.{trips_of}
use Rattle.c62_check_loops.specs.Granted.{is_granted_by}
use Rattle.c62_check_loops.proofs.Granting.{any_mapped}
use Rattle.c62_check_loops.proofs.granted.is_granted.Goals as goal

pub returns : goal.returns
returns c = c.any_grants.ensures
    ∙ sym (any_mapped trips_of (is_granted_by c.args.label.now c.args.least) c.args.trips.now)
