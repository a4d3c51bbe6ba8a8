use Rattle.std.proofs.Common.{◌≡◌, List, refl, ◌∙◌, ap}
use Rattle.std.specs.Prelude.{fold}
use Rattle.std.proofs.lemmas.List.Sums.{fold-append}
use Rattle.std.proofs.lemmas.List.Folds.{fold_along}
use Rattle.c62_read.specs.declared.block.SerialInsn.{SerialInsn}
use Rattle.c62_serial.specs.declared.serial.Exit.{Exit}
use Rattle.c62_serial.specs.declared.serial.Exit.TheVariants.{Next}
use Rattle.c62_serial.specs.State.{Machine}
use Rattle.c62_serial.specs.Serial.{Ran, after_insn, serial}
use Rattle.c62_serial.proofs.laws.runs_in_turn.Goals as goal

abbrev SameMachine : Ran → Ran → Type 0
SameMachine a b = a.machine ≡ b.machine

one_more : (a b : Ran) (entry : SerialInsn) → SameMachine a b → SameMachine (after_insn a entry) (after_insn b entry)
one_more a b entry e = ap
    (λ (machine : Machine). (after_insn (record { machine = machine; exit = Next }) entry).machine) e

-- the machine does not depend on the exit so far
from_any : (ran : Ran) (insns : List SerialInsn)
    → (fold after_insn ran insns).machine ≡ (serial insns ran.machine).machine
from_any ran insns = fold_along after_insn after_insn SameMachine one_more ran
    (record { machine = ran.machine; exit = Next }) insns refl

from_next : (ran : Ran) (insns : List SerialInsn) → ran.exit ≡ Next
    → fold after_insn ran insns ≡ serial insns ran.machine
from_next ran insns e = ap (λ (exit : Exit). fold after_insn (record { machine = ran.machine; exit = exit }) insns) e

pub returns : goal.returns
returns c = λ first rest machine. record {
  on = ap (λ (ran : Ran). ran.machine) (fold-append after_insn (record { machine = machine; exit = Next }) first rest)
      ∙ from_any (serial first machine) rest;
  unless_left = λ e. fold-append after_insn (record { machine = machine; exit = Next }) first rest
      ∙ from_next (serial first machine) rest e;
}
