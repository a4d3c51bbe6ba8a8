-- What is told in another form asks for the same files.
use Rattle.std.proofs.Common.{◌≡◌, ℕ, List, refl}
use Rattle.c62_command.specs.declared.command.Rendering.{Rendering}
use Rattle.c62_command.specs.declared.command.Rendering.TheVariants.{Text, Json}
use Rattle.c62_command.specs.CommandLine.{Ask, rendered}
use Rattle.c62_dumping.specs.Counts.{counts_asked}

pub counts_told : (rendering : Rendering) (ask : Ask) → counts_asked ask ≡ counts_asked (rendered rendering ask)
counts_told Text ask = refl
counts_told Json ask = refl
