use Rattle.std.proofs.Common.{Some}
use Rattle.c62_program.specs.Program.{OnBytes}
use Rattle.c62_program.proofs.program.run_from.Goals as goal

pub returns-clause-ok : goal.returns-clause-ok
returns-clause-ok g c =
    OnBytes c.in_ok-bytes.bytes.items (Some c.run_tool-2.new.reader.now) c.in_ok-bytes.ensures.ok
    (rw c.as_slice-text.ensures.value at c.run_tool-2.ensures)
