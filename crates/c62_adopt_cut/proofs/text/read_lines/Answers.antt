use Rattle.std.proofs.Common.{subst, sym}
use Rattle.c62_adopt_cut.specs.declared.text.Reader.{Reader}
use Rattle.c62_adopt_cut.specs.Clock.{IsClockOf}
use Rattle.c62_adopt_cut.proofs.ReadLemmas.{all_read, one_more, refused_at}
use Rattle.c62_adopt_cut.proofs.text.read_lines.Goals as goal

pub returns-in-Some-2 : goal.returns-in-Some-2
returns-in-Some-2 c =
    let far = c.loop-line.invariant in
    let refuses = rw c.in-Some-2.is at (c.in_ok-cause.ensures far.above far.clock) in
    let clock = subst (λ (reader : Reader). IsClockOf reader.clock far.above) (sym refuses.same) far.clock in
    let told = refused_at c.args.isa c.loop-line.reader c.add_line.new.self c.loop-line.number c.in-Some.line.now
    c.loop-line.rest.now c.in-Some.after.now
    c.args.text.now c.in-Some-2.cause far c.in-Some.ensures.found refuses in
    rw (← told) (rw c.at.ensures at (c.cut.ensures far.above clock))

pub loop-line-preserved : goal.loop-line-preserved
loop-line-preserved c =
    let far = c.loop-line.invariant in
    let adds = rw c.in_default-2.is at (c.in_ok-cause.ensures far.above far.clock) in
    one_more c.args.isa c.loop-line.reader c.add_line.new.self c.loop-line.number c.in-Some.line.now
    c.loop-line.rest.now
    c.in-Some.after.now c.args.text.now far
    c.in-Some.ensures.found c.in-Some.ensures.shorter adds

pub returns : goal.returns
returns c =
    let far = c.loop-line.invariant in
    let told = all_read c.args.isa c.loop-line.reader c.loop-line.number c.loop-line.rest.now c.args.text.now far
    c.in_default.ensures.found in
    rw (← told) (c.cut-2.ensures far.above far.clock)
