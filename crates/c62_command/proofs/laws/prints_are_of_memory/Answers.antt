use Rattle.c62_command.proofs.Printing.{printed_of_memory}
use Rattle.c62_command.proofs.laws.prints_are_of_memory.Goals as goal

pub returns : goal.returns
returns c = printed_of_memory
