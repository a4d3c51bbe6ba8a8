-- The steps and branches of the loop that sums words.
use Rattle.std.proofs.Common.{◌≡◌, ℕ}
use Rattle.std.proofs.Common.{[], ◌∷◌, refl}
use Rattle.std.proofs.Common.{arith}
use Rattle.std.specs.Prelude.{Contains}
use Rattle.std.proofs.lemmas.Bool.{false≢true}
use Rattle.c62_op.specs.declared.register.Reg.{Reg}
use Rattle.c62_op.proofs.Registers.{same_reg-is}
use Rattle.c62_meaning.proofs.Lookup.{In_from_Contains}
use Rattle.c62_loop.specs.Counter.{IsStep, StopsAtZero, IsTest, IsCounted}
use Rattle.c62_loop.specs.Whole.{IsControl}
use Rattle.c62_loop.specs.Sample.{a1, load, add, step, six_steps, branch, step_in, six_in}
use Rattle.c62_loop.specs.Sample.{branch_in}

pub step_counts : (line : ℕ) → IsStep a1 (record { insn = step; line = line })
step_counts line base word byte enough small = grind arith

pub step_stops : (line : ℕ) → StopsAtZero a1 (record { insn = step; line = line })
step_stops line = grind arith

pub branch_tests : (line : ℕ) → IsTest a1 0 (record { insn = branch; line = line })
branch_tests line base word byte = grind arith

pub step_counted : (line : ℕ) → IsCounted a1 0 (record { insn = step; line = line })
step_counted line = grind (arith, step_counts line)

pub branch_counted : (line : ℕ) → IsCounted a1 0 (record { insn = branch; line = line })
branch_counted line = grind (arith, branch_tests line)

pub load_counted : (line : ℕ) → IsCounted a1 0 (record { insn = load; line = line })
load_counted line = record { step = λ t. absurd (false≢true t); test = λ f t. absurd (false≢true t); other = λ f. refl }

pub add_counted : (line : ℕ) → IsCounted a1 0 (record { insn = add; line = line })
add_counted line = record { step = λ t. absurd (false≢true t); test = λ f t. absurd (false≢true t); other = λ f. refl }

pub one_write : (write : Reg × ℕ) → Contains ((a1, 0) ∷ []) write → write ≡ (a1, 0)
one_write write c = grind arith

pub no_write : (write : Reg × ℕ) → Contains [] write → write ≡ (a1, 0)
no_write write c = absurd (In_from_Contains write [] c)

pub step_control : (cycle : ℕ) → IsControl a1 0 (step_in cycle)
step_control cycle = grind (arith, step_counted 3, one_write, same_reg-is a1)

pub six_counts : (line : ℕ) → IsStep a1 (record { insn = six_steps; line = line })
six_counts line base word byte enough small = grind arith

pub six_counted : (line : ℕ) → IsCounted a1 0 (record { insn = six_steps; line = line })
six_counted line = grind (arith, six_counts line)

pub six_control : (cycle : ℕ) → IsControl a1 0 (six_in cycle)
six_control cycle = grind (arith, six_counted 5, one_write, same_reg-is a1)

pub branch_control : (cycle : ℕ) → IsControl a1 0 (branch_in cycle)
branch_control cycle = grind (arith, branch_counted 4, no_write, same_reg-is a1)
