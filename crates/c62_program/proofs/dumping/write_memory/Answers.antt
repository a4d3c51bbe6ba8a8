use Rattle.c62_files.proofs.WrittenFiles.{none_begun}
use Rattle.c62_program.proofs.Dumps.{dump_trouble, on_err}
use Rattle.c62_program.proofs.dumping.write_memory.Goals as goal

pub returns-in_err-files-clause-begun : goal.returns-in_err-files-clause-begun
returns-in_err-files-clause-begun g c = on_err c.from_residual.result (none_begun _ _)

pub returns-clause-why : goal.returns-clause-why
returns-clause-why g c =
    dump_trouble _ _ _ _ _ _ c.in_ok-files.ensures (rw c.deref.ensures.value at c.in-Err.ensures.name)
    c.of_writing.ensures
