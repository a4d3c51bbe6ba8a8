-- What is done for words that ask for a set of instructions, from what each step of it did.
use Rattle.std.proofs.Common.{◌≡◌, ℕ, List, Option, Some, None, refl, subst}
use Rattle.std.proofs.KnownBytes.{Keeps-refl}
use Rattle.clap.specs.Words.{Text}
use Rattle.c62_op.specs.declared.set.InstructionSet.{InstructionSet}
use Rattle.c62_isa.specs.Words.{asked_set, other_words}
use Rattle.c62_answer.specs.Message.{Tells}
use Rattle.c62_answer.specs.Run.{Streams, streams}
use Rattle.c62_drawing.specs.declared.run.Traced.{Traced}
use Rattle.c62_files.specs.Expand.{Holding}
use Rattle.c62_program.specs.declared.page.TheConstants.{ISA}
use Rattle.c62_program.specs.Sets.{IsSetRun, Misnamed, Named}
use Rattle.c62_program.specs.Labels.{IsReadRun}

pub misnamed : (before : Holding) (words : List Text) (input output old new : Option (List ℕ)) (status : ℕ)
    (traced : Traced)
    → asked_set words ≡ None → status ≡ 2 → Tells old new ISA.now
    → IsSetRun before before words (streams input output old) (streams input output new) status traced
misnamed before words input output old new status traced none is says = Misnamed none is says (Keeps-refl output) refl

pub named : (isa : InstructionSet) (before after : Holding) (words others : List Text) (old new : Streams) (status : ℕ)
    (traced : Traced)
    → asked_set words ≡ Some isa → others ≡ other_words words → IsReadRun isa before after others old new status traced
    → IsSetRun before after words old new status traced
named isa before after words others old new status traced some same run =
    Named isa some (subst (λ (o : List Text). IsReadRun isa before after o old new status traced) same run)
