-- What is told of accesses that are to be apart, where a text is read and where it is refused.
use Rattle.std.proofs.Common.{inl, inr, ℕ, Bool, List, refl, ap}
use Rattle.std.specs.Prelude.{◌≢◌}
use Rattle.c62_op.specs.declared.register.Reg.{Reg}
use Rattle.c62_line.specs.declared.fault.Cause.TheVariants.{Memory}
use Rattle.c62_line.specs.declared.fault.ReadFault.{ReadFault}
use Rattle.c62_read.specs.Block.{Serial}
use Rattle.c62_read.specs.Program.{Fails, program_in}
use Rattle.c62_command.specs.declared.setting.Setting.{Setting}
use Rattle.c62_command.specs.declared.command.Course.{Course}
use Rattle.c62_answer.specs.Message.{fault_message}
use Rattle.c62_answer.specs.Texts.{SaysProgram}
use Rattle.c62_teach.specs.Apart.{IsUntold, WatchesRun, WatchesText}
use Rattle.c62_op.specs.declared.set.InstructionSet.{InstructionSet}

pub program_some : (isa : InstructionSet) (settings : List Setting) (course : Course) (apart : List Reg)
    (text lines : List ℕ) (meets : Bool)
    (program : List Serial)
    → SaysProgram isa text program → WatchesRun program settings course apart lines meets
    → WatchesText isa settings course apart text lines meets
program_some isa settings course apart text lines meets program says tells = inl (program, says, tells)

pub program_none : (isa : InstructionSet) (settings : List Setting) (course : Course) (apart : List Reg)
    (text lines : List ℕ) (meets : Bool)
    (fault : ReadFault)
    → fault.cause ≢ Memory → Fails fault (program_in isa text) → IsUntold lines meets
    → WatchesText isa settings course apart text lines meets
program_none isa settings course apart text lines meets fault known (inl memory) none =
    absurd (known (ap (λ (f : ReadFault). f.cause) memory))
program_none isa settings course apart text lines meets fault known (inr is) none =
    inr (fault_message fault.line fault.cause, rw is refl, none)
