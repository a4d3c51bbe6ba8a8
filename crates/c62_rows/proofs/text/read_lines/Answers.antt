use Rattle.c62_rows.specs.Read.{reading_of}
use Rattle.c62_rows.proofs.ReadLemmas.{all_read, one_more, refused_at}
use Rattle.c62_rows.proofs.text.read_lines.Goals as goal

pub returns-in-Some-2 : goal.returns-in-Some-2
returns-in-Some-2 c =
    let refuses = rw c.in-Some-2.is at c.in_ok-cause.ensures in
    refused_at c.args.isa (reading_of c.loop-line.reader) c.loop-line.number c.in-Some.line.now c.loop-line.rest.now
    c.in-Some.after.now c.args.text.now
    c.in-Some-2.cause c.requires c.loop-line.invariant c.in-Some.ensures.found refuses

pub loop-line-preserved : goal.loop-line-preserved
loop-line-preserved c =
    let adds = rw c.in_default-2.is at c.in_ok-cause.ensures in
    one_more c.args.isa (reading_of c.loop-line.reader)
    (reading_of c.add_line.new.self) c.loop-line.number c.in-Some.line.now
    c.loop-line.rest.now
    c.in-Some.after.now c.args.text.now c.loop-line.invariant c.in-Some.ensures.found c.in-Some.ensures.shorter adds

pub returns : goal.returns
returns c =
    c.finished.ensures c.args.text.now
    (all_read c.args.isa (reading_of c.loop-line.reader) c.loop-line.number c.loop-line.rest.now c.args.text.now
    c.requires
    c.loop-line.invariant c.in_default.ensures.found)
