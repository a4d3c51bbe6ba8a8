use Rattle.std.proofs.Common.{◌≡◌, ◌+◌, drop}
use Rattle.std.specs.Prelude.{find, option_map}
use Rattle.c62_packet.specs.Clash.{is_met, landing_beside}
use Rattle.c62_packet.proofs.rules.landing_beside.Given as goal

abbrev pub invariant-loop-write : goal.invariant-loop-write
invariant-loop-write l =
    landing_beside l.all l.placed l.others ≡ option_map (λ write. l.placed.cycle + write.1)
    (find (is_met l.all l.placed l.others) (drop l.write-index l.write-items))
