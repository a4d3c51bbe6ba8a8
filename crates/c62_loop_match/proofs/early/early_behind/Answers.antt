use Rattle.std.proofs.Common.{arith, ◌≤◌, ◌-◌}
use Rattle.c62_pair.specs.Uses.{insns_in}
use Rattle.c62_loop_match.specs.Promise.{promises}
use Rattle.c62_loop_match.specs.Distances.{KeepsParted, KeepsPair}
use Rattle.c62_loop_match.proofs.Written.{none_written, one_back, one_earlier, written_are}
use Rattle.c62_loop_match.proofs.early.early_behind.Goals as goal

pub loop-i-init : goal.loop-i-init
loop-i-init c = (
  omega arith,
  (
    none_written c.args.path.now c.new-written.result c.args.j c.new-written.ensures,
    λ straights parts k low high.
        absurd (omega (arith, low, high)),
  ),
)

pub early_pair-requires-clause-written : goal.early_pair-requires-clause-written
early_pair-requires-clause-written c =
    written_are c.args.path.now c.joined-written.result (c.loop-i.i - 1) c.args.j
    (one_back c.args.path.now c.loop-i.written c.joined-written.result c.loop-i.i c.args.j c.index-path-i.result
    c.loop-i-test.true c.loop-i.invariant.0 c.requires.within c.joined-written.ensures
    c.loop-i.invariant.1.0)

pub loop-i-preserved : goal.loop-i-preserved
loop-i-preserved c =
    let before : c.loop-i.i ≤ c.args.j = c.loop-i.invariant.0 in
    let kept : KeepsPair (promises c.args.promise) (insns_in c.args.path.now) c.args.instances.now c.part_of-from.result
    c.part_of-to.result (c.loop-i.i - 1) c.args.j = c.in_default.ensures in (
      omega (arith, before),
      (
        one_back c.args.path.now c.loop-i.written c.joined-written.result c.loop-i.i c.args.j c.index-path-i.result
            c.loop-i-test.true c.loop-i.invariant.0 c.requires.within c.joined-written.ensures
            c.loop-i.invariant.1.0,
        λ straights parts. one_earlier
            (λ k. KeepsParted (promises c.args.promise) straights c.args.borders.trips (insns_in c.args.path.now)
            c.args.instances.now k c.args.j) c.loop-i.i c.args.j c.loop-i-test.true
            (record {
              from = c.part_of-from.result;
              to = c.part_of-to.result;
              first = c.part_of-from.ensures straights
                  parts;
              second = c.part_of-to.ensures straights parts;
              keeps = kept;
            })
            (c.loop-i.invariant.1.1 straights parts),
      ),
    )
