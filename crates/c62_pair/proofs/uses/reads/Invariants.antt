use Rattle.c62_pair.proofs.Common.{◌≡◌, take, ◌||◌, list_any, Reg, same_reg, cond_of, is_condition_on, reg_in}
use Rattle.c62_pair.proofs.uses.reads.Given as goal

abbrev pub invariant-loop-reg : goal.invariant-loop-reg
invariant-loop-reg l =
    (reg : Reg) → reg_in l.set reg ≡
    (list_any (λ read. same_reg read reg) (take l.reg-index l.reg-items) || is_condition_on reg
    (cond_of l.insn))
