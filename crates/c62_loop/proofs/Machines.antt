-- Machines, one instruction after the other.
use Rattle.std.proofs.Common.{◌≡◌, List, []}
use Rattle.std.proofs.Common.{◌∷◌, refl}
use Rattle.std.specs.Prelude.{fold, All}
use Rattle.std.proofs.lemmas.List.Elements.{All-contains}
use Rattle.c62_read.specs.declared.block.SerialInsn.{SerialInsn}
use Rattle.c62_serial.specs.declared.serial.Exit.TheVariants.{Next}
use Rattle.c62_serial.specs.State.{Machine, IsSound}
use Rattle.c62_serial.specs.Serial.{Ran, after_insn, after_entry, serial}
use Rattle.c62_serial.proofs.MachineLemmas.{sound_run}
use Rattle.c62_meaning.proofs.Lookup.{In, Contains_from_In}
use Rattle.std.proofs.Common.{arith}

abbrev pub machine_after : List SerialInsn → Machine → Machine
machine_after [] machine = machine
machine_after (entry ∷ path) machine = machine_after path (after_entry entry machine)

fold_machine : (path : List SerialInsn) (ran : Ran)
    → (fold after_insn ran path).machine ≡ machine_after path ran.machine
fold_machine [] ran = refl
fold_machine (entry ∷ path) ran = fold_machine path (after_insn ran entry)

pub serial_machine : (path : List SerialInsn) (machine : Machine)
    → (serial path machine).machine ≡ machine_after path machine
serial_machine path machine = fold_machine path (record { machine = machine; exit = Next })

pub sound_after : (path : List SerialInsn) (machine : Machine) → IsSound machine → IsSound (machine_after path machine)
sound_after path machine sound = grind (arith, serial_machine path machine, sound_run path machine sound)

pub In-All : {X : Type 0} (P : X → Type 0) (xs : List X) → All P xs → (x : X) → In x xs → P x
In-All P xs all x h = All-contains P xs x all (Contains_from_In x xs h)
