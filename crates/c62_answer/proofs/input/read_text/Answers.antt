use Rattle.std.proofs.Common.{arith, ◌+◌, ◌++◌, take}
use Rattle.std.proofs.lemmas.List.{length-append, length-take}
use Rattle.c62_answer.proofs.Known.{Consumes-then, read_nothing, front_taken}
use Rattle.c62_answer.proofs.input.read_text.Goals as goal

pub returns-then-count-eq0-clause-front : goal.returns-then-count-eq0-clause-front
returns-then-count-eq0-clause-front g c =
    read_nothing (g.R.Read.remaining c.args.reader.now) (g.R.Read.remaining c.loop-chunk.reader)
    (g.R.Read.remaining c.read_some.new.reader) c.loop-chunk.text.items c.read_some.new.buf c.in-Ok.count
    (c.args.limit + 1)
    c.loop-chunk.invariant.most c.loop-chunk.invariant.taken c.if-count-eq0.true c.in-Ok.ensures.bytes.0
    (c.in-Ok.ensures.bytes.1 c.if-count-eq0.true
    (omega (arith, c.read_some.auto.buf, length-take c.min-room.result c.loop-chunk.chunk)))

pub returns-in_err-extend_from_slice-clause-most : goal.returns-in_err-extend_from_slice-clause-most
returns-in_err-extend_from_slice-clause-most g c = (
  c.loop-chunk.text.items ++ take c.in-Ok.count c.read_some.new.buf,
  Consumes-then (g.R.Read.remaining c.args.reader.now) (g.R.Read.remaining c.loop-chunk.reader)
      (g.R.Read.remaining c.read_some.new.reader) c.loop-chunk.text.items (take c.in-Ok.count c.read_some.new.buf)
      c.loop-chunk.invariant.taken c.in-Ok.ensures.bytes.0,
  omega (
    arith,
    length-append c.loop-chunk.text.items (take c.in-Ok.count c.read_some.new.buf),
    c.in-Ok.ensures.bound,
    c.read_some.auto.buf,
    length-take c.min-room.result c.loop-chunk.chunk,
  ),
)

pub returns-clause-front : goal.returns-clause-front
returns-clause-front g c = front_taken (g.R.Read.remaining c.args.reader.now) (g.R.Read.remaining c.loop-chunk.reader)
    c.loop-chunk.text.items (c.args.limit + 1) (omega arith) c.loop-chunk.invariant.taken
