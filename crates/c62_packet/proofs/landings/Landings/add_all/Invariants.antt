use Rattle.std.proofs.Common.{take}
use Rattle.c62_packet.specs.Landed.{AreLandingsMore}
use Rattle.c62_packet.proofs.landings.Landings.add_all.Given as goal

abbrev pub invariant-loop-write : goal.invariant-loop-write
invariant-loop-write l = AreLandingsMore l.fn.self.cycles l.self.cycles (take l.write-index l.writes)
