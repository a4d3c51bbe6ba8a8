use Rattle.c62_pair.proofs.Common.{◌≡◌, take, list_any, Reg, reg_in, is_write_with}
use Rattle.c62_pair.proofs.uses.written.Given as goal

abbrev pub invariant-loop-write : goal.invariant-loop-write
invariant-loop-write l = (reg : Reg)
    → reg_in l.set reg ≡ list_any (is_write_with l.delay reg) (take l.write-index l.write-items)
