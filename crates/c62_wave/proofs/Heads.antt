-- The text of the head.
use Rattle.std.proofs.Common.{◌≡◌, refl}
use Rattle.c62_wave.specs.declared.header.TheConstants.{HEADER}
use Rattle.c62_wave.specs.Head.{head}

pub head_is : HEADER.now ≡ head
unfolding head
head_is = refl
