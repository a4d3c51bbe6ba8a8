use Rattle.std.proofs.Common.{rules, ◌≡◌, ◌<◌, length}
use Rattle.c62_pipeline.proofs.Lining.{stands_here}
use Rattle.c62_pipeline.proofs.origin.has_in.Goals as goal

pub returns-then-same_but_for_the_unit : goal.returns-then-same_but_for_the_unit
returns-then-same_but_for_the_unit c =
    let entries = c.args.entries.now in
    let entry = c.index-entries-number.result in
    let inside : c.loop-number.number < length entries = search rules in
    let line : entry.line ≡ c.args.line = search rules in
    stands_here entries c.args.insn.now c.loop-number.number entry c.args.line inside c.index-entries-number.is
    (c.same_but_for_the_unit.ensures.0 c.if-same_but_for_the_unit.true) line
