use Rattle.std.specs.Io.KnownBytes.{Keeps}
use Rattle.c62_trace.proofs.offering.offer.Given as goal

-- writes that were interrupted took nothing
abbrev pub invariant-loop : goal.invariant-loop
invariant-loop g l = Keeps (g.W.Write.contents l.initial.stream) (g.W.Write.contents l.stream)
