use Rattle.c62_faulted.proofs.LineLemmas.{tells_lines}
use Rattle.c62_faulted.proofs.laws.tells_lines.Goals as goal

pub returns : goal.returns
returns c = λ program opening limit told chain final sound none finds runs.
    tells_lines program opening limit told chain final sound none finds runs
