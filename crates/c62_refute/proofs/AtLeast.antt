-- Where so few cycles are refuted, each schedule takes more.
use Rattle.std.proofs.Common.{arith, ℕ, suc, ◌≤◌, List, inl, inr}
use Rattle.std.proofs.lemmas.Bool.{cases_lt}
use Rattle.c62_insn.specs.declared.insn.Insn.{Insn}
use Rattle.c62_refute.specs.Window.{IsRefuted, TakesAtLeast}

pub takes_more : (block : List Insn) (most least : ℕ) → IsRefuted block most → least ≤ suc most
    → TakesAtLeast block least
takes_more block most least none few set cycles seated = elim (cases_lt most cycles) [
  | inl more ↦ omega (arith, more, few)
  | inr enough ↦ absurd (none set cycles seated enough)
]

pub takes_none : (block : List Insn) → TakesAtLeast block 0
takes_none block set cycles seated = omega arith
