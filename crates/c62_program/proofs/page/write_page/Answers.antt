use Rattle.c62_program.proofs.page.write_page.Goals as goal

pub returns-in-Version : goal.returns-in-Version
returns-in-Version g c = rw c.in-Version.is c.write_pieces.ensures

pub returns-in-Status : goal.returns-in-Status
returns-in-Status g c = rw c.in-Status.is (rw c.as_bytes.ensures.value at c.write_whole.ensures)

pub returns-in-Lint : goal.returns-in-Lint
returns-in-Lint g c = rw c.in-Lint.is (rw c.as_bytes-in-Lint.ensures.value at c.write_whole-in-Lint.ensures)

pub returns-in-Explain : goal.returns-in-Explain
returns-in-Explain g c = rw c.in-Explain.is (rw c.as_bytes-in-Explain.ensures.value at c.write_whole-in-Explain.ensures)

pub returns-in-Trace : goal.returns-in-Trace
returns-in-Trace g c = rw c.in-Trace.is (rw c.as_bytes-in-Trace.ensures.value at c.write_whole-in-Trace.ensures)
