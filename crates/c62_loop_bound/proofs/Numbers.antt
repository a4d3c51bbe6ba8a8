-- The greatest number of all cases is that of the latency.
use Rattle.std.proofs.Common.{◌≡◌, Bool}
use Rattle.std.specs.Prelude.{max}
use Rattle.c62_pair.specs.declared.uses.Uses.{Uses}
use Rattle.c62_pair.specs.Numbers.{as_bound, number_of_registers, number_of_order}
use Rattle.c62_depend.specs.Latency.{latency_of}
use Rattle.c62_depend.proofs.Numbers.{all_is}

pub all_numbers : (p q : Uses) (exclusive disjoint : Bool)
    → as_bound (max (number_of_registers exclusive p q) (number_of_order disjoint p.insn q.insn)) ≡ latency_of exclusive
    disjoint p.insn q.insn
all_numbers p q exclusive disjoint = all_is p q exclusive disjoint
