-- What is told in another form ends by the same limit.
use Rattle.std.proofs.Common.{◌≡◌, Bool, refl}
use Rattle.c62_command.specs.declared.command.Rendering.{Rendering}
use Rattle.c62_command.specs.declared.command.Rendering.TheVariants.{Text, Json}
use Rattle.c62_command.specs.CommandLine.{Ask, rendered}
use Rattle.c62_dumping.specs.Limit.{limit_note}

pub limit_told : (rendering : Rendering) (to_file : Bool) (ask : Ask) → limit_note to_file ask ≡ limit_note to_file (rendered rendering ask)
limit_told Text to_file ask = refl
limit_told Json to_file ask = refl
