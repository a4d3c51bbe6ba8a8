use Rattle.std.proofs.Common.{◌≡◌, ◌+◌, drop}
use Rattle.c62_profile.specs.Flights.{cycles_of}
use Rattle.c62_profile.proofs.blocks.cycles_of.Given as goal

abbrev pub invariant-loop-count : goal.invariant-loop-count
invariant-loop-count l = l.sum + cycles_of (drop l.count-index l.counts) ≡ cycles_of l.counts
