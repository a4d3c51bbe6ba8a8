use Rattle.std.proofs.Common.{map, rules}
use Rattle.c62_rows.specs.Rows.{text_of}
use Rattle.c62_command.specs.Promises.{trips_of}
use Rattle.c62_check_loops.proofs.Telling.{told_next}
use Rattle.c62_check_loops.proofs.told.tell.Goals as goal

pub loop-number-preserved : goal.loop-number-preserved
loop-number-preserved c = (
  told_next (map trips_of c.args.trips.now) c.args.loops.now.promise c.args.loops.now.verdicts.items c.args.starts.now
      c.args.blocks.now (text_of c.args.read.now.rows) c.loop-number.number c.loop-number.told c.add.new.self
      c.in_ok-verdict.verdict c.loop-number.invariant.0 c.in_ok-verdict.ensures c.in_ok-add.ensures.verdicts
      c.in_ok-add.ensures.same c.in_ok-add.ensures.plain c.in_ok-add.ensures.good c.in_ok-add.ensures.fit,
  search rules,
)
