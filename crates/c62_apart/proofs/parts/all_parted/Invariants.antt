use Rattle.std.proofs.Common.{◌≡◌, ◌++◌, drop, map}
use Rattle.c62_apart.specs.Touch.{parted}
use Rattle.c62_apart.proofs.parts.all_parted.Given as goal

abbrev pub invariant-loop-block : goal.invariant-loop-block
invariant-loop-block l =
    map (λ parts. parts.items) l.all.items ++ map parted (drop l.block-index l.blocks) ≡ map parted l.blocks
