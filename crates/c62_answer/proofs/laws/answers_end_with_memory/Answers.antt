use Rattle.c62_answer.proofs.WithMemory.{ends_with_memory}
use Rattle.c62_answer.proofs.laws.answers_end_with_memory.Goals as goal

pub returns : goal.returns
returns c = ends_with_memory
