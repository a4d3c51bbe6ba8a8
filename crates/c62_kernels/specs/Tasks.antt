-- What is to be issued in a pass of a kernel, by number.
use Rattle.std.specs.Prelude.{List, map}
use Rattle.c62_read.specs.declared.block.SerialInsn.{SerialInsn}
use Rattle.c62_kernels.specs.declared.task.Task.{Task}

-- the instructions of tasks
abbrev pub entries_of : List Task → List SerialInsn
entries_of tasks = map (λ task. task.entry) tasks
