use Rattle.c62_loop_match.specs.Promise.{promises}
use Rattle.c62_loop_match.proofs.PastDecides.{keeps_longer}
use Rattle.c62_loop_match.proofs.collapse.keep_distances.Goals as goal

pub returns : goal.returns
returns c =
    keeps_longer (promises c.args.promise) c.args.works.now c.in_ok-longer.longer c.args.past.now c.in_ok-work.work
    c.args.schedule.now c.args.most c.args.deep c.args.beyond.now c.in_ok-longer.ensures c.in_ok-work.ensures
    c.keeps_all_past.result c.keeps_all_past.ensures
