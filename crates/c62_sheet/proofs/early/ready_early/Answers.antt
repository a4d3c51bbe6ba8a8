use Rattle.c62_sheet.proofs.Common.{insns_of}
use Rattle.c62_sheet.proofs.Founding.{ready_early}
use Rattle.c62_sheet.proofs.early.ready_early.Goals as goal

pub returns : goal.returns
returns c = ready_early (insns_of c.args.plan.now) c.args.spots.now c.requires.lawful c.args.i c.direct_early.result
    c.requires.ready c.direct_early.ensures
