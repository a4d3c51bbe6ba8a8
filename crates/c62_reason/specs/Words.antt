-- A reason in words (docs/CHECK.md, "Why an instruction comes too early").
use Rattle.std.specs.Prelude.{ℕ, List, ◌++◌, codes}
use Rattle.c62_op.specs.Name.{register_name}
use Rattle.c62_reason.specs.declared.reason.Reason.{Reason}
use Rattle.c62_reason.specs.declared.reason.Reason.TheVariants.{Reads, Overwrites, Writes, AccessesMemory, StoresMemory, Branches}

unfoldable pub reason_words : Reason → List ℕ
reason_words (Reads reg) = codes "reads " ++ register_name reg
reason_words (Overwrites reg) = codes "overwrites " ++ register_name reg
reason_words (Writes reg) = codes "writes " ++ register_name reg
reason_words AccessesMemory = codes "accesses memory"
reason_words StoresMemory = codes "stores memory"
reason_words Branches = codes "branches -"
