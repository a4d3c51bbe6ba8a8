use Rattle.c62_explain.specs.Picture.{AddsHelp}
use Rattle.c62_explain_packets.proofs.help.push_sharing.Given as goal

abbrev pub invariant-loop-other : goal.invariant-loop-other
invariant-loop-other l = AddsHelp l.number l.fn.out.items l.out.items
