use Rattle.std.specs.Prelude.{refl}
use Rattle.c62_op.proofs.Registers.{same_reg-is}
use Rattle.c62_place.proofs.shape.some_register.Goals as goal

pub returns : goal.returns
returns c = same_reg-is _ _ refl
