use Rattle.std.proofs.Common.{◌≡◌, length, map, rules}
use Rattle.c62_rows.specs.Rows.{text_of}
use Rattle.c62_command.specs.Promises.{trips_of}
use Rattle.c62_check_loops.specs.Fit.{are_all_rows}
use Rattle.c62_check_loops.specs.Told.{AreTold}
use Rattle.c62_check_loops.proofs.Telling.{loops_judged}
use Rattle.c62_check_loops.proofs.told.judge_loops.Goals as goal

pub returns : goal.returns
returns c =
    let promises = c.args.promises.now in
    let rows = c.args.read.now.rows in
    let blocks = c.args.program.now in
    let loops = c.in_ok-loops.loops.verdicts.items in
    let starts = c.in_ok-starts.starts.items in
    let told = c.in_ok-told.told in
    let counted : c.len.result ≡ length rows.rows.items = search rules in
    let is : AreTold (map trips_of promises.trips.items) c.promise_of-promise.result loops starts blocks
    (text_of rows) (length blocks) told
    = rw (
      c.deref-4.ensures.value,
      c.deref-5.ensures.value,
      c.blocks-blocks.ensures.same,
      c.in_ok-loops.ensures.promise,
    ) at c.in_ok-told.ensures in
    let as_many : length loops ≡ length blocks
    = rw c.blocks-blocks.ensures.same at c.in_ok-loops.ensures.told.counted in
    let stands : c.are_all_rows-all.result ≡ are_all_rows starts (length blocks) c.len.result
    = rw (c.deref-6.ensures.value, c.blocks-blocks.ensures.same) at c.are_all_rows-all.ensures in
    loops_judged (map trips_of promises.trips.items) promises.apart.items c.promise_of-promise.result loops starts
    blocks rows c.len.result told c.finished.result c.are_all_rows-all.result
    is as_many (rw c.deref.ensures.value at c.promise_of-promise.ensures) counted stands c.finished.ensures.verdicts
    c.finished.ensures.rows c.finished.ensures.same c.finished.ensures.plain
