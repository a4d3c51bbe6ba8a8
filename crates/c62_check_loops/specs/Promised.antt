-- The promise of registers that are apart (docs/CHECK.md, "The command").
use Rattle.std.specs.Prelude.{◌≡◌, Bool, List}
use Rattle.std.specs.List.{list_any}
use Rattle.c62_op.specs.declared.register.Reg.{Reg}
use Rattle.c62_op.specs.Takes.{same_reg}
use Rattle.c62_pair.specs.RegSet.{reg_in}
use Rattle.c62_loop_match.specs.declared.promise.Promise.{Promise}

-- the register is one of these
abbrev pub is_among : List Reg → Reg → Bool
is_among regs reg = list_any (λ one. same_reg one reg) regs

-- the promise is of accesses from any two of these registers
abbrev pub IsPromiseOf : List Reg → Promise → Type 0
IsPromiseOf regs promise = (reg : Reg) → reg_in promise.bases reg ≡ is_among regs reg
