use Rattle.std.proofs.Common.{◌≡◌, fold, map, drop}
use Rattle.c62_trace.specs.Event.{Landed}
use Rattle.c62_wave.specs.Wave.{with_told}
use Rattle.c62_wave.proofs.course.Course.land.Given as goal

abbrev pub invariant-loop-write : goal.invariant-loop-write
invariant-loop-write l =
    fold with_told l.self (map Landed (drop l.write-index l.writes)) ≡ fold with_told l.fn.self (map Landed l.writes)
