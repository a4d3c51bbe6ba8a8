-- What the reader puts for what was written does the same.
use Rattle.c62_line.proofs.Common.{◌≡◌, ℕ, Bool, cond, Option, Some, None, refl, ap, subst, arith, nat_tests, Op}
use Rattle.c62_line.proofs.Common.{exchanged}
use Rattle.std.proofs.Math.IntN.{*ℤ_comm}
use Rattle.std.proofs.Math.Nat.{mul_comm}
use Rattle.std.proofs.lemmas.Nat.{and_comm, or_comm, xor_comm}
use Rattle.c62_op.specs.declared.operands.Op.TheVariants.{Cmpeq}
use Rattle.c62_op.specs.Meaning.{result_of}
use Rattle.c62_line.specs.Laws.{KeepEffects, KeepsEffect}

abbrev Keeps : Option Op → Op → ℕ → ℕ → Type 0
Keeps None op a b = Unit {0}
Keeps (Some turned) op a b = result_of op a b ≡ result_of turned b a

keeps : (op : Op) (a b : ℕ) → Keeps (exchanged op) op a b
keeps Cmpeq a b = ap (λ (same : Bool). cond same 1 0) (grind (arith, nat_tests))
keeps _ a b = grind (arith, and_comm, or_comm, xor_comm, *ℤ_comm, mul_comm)

pub exchanged_keeps : (op turned : Op) → KeepsEffect op turned
exchanged_keeps op turned is a b = subst (λ (t : Option Op). Keeps t op a b) is (keeps op a b)

pub pseudo_keeps : KeepEffects
pseudo_keeps = record
    { moves = λ a small. omega (arith, small); clears = λ a small. omega (arith, small); zero = λ a. refl }
