-- The instructions of a list of uses.
use Rattle.std.specs.Prelude.{List, map}
use Rattle.c62_insn.specs.declared.insn.Insn.{Insn}
use Rattle.c62_pair.specs.declared.uses.Uses.{Uses}

-- the instructions of a list of uses
abbrev pub insns_in : List Uses → List Insn
insns_in uses = map (λ one. one.insn) uses
