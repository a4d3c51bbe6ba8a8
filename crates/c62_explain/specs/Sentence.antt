-- What is wrong, in one sentence for each fault (docs/FAULTS.md, "Faults and what is said of them").
use Rattle.std.specs.Prelude.{ℕ, List, codes}
use Rattle.c62_insn.specs.declared.fault.FormFault.{FormFault}
use Rattle.c62_insn.specs.declared.fault.FormFault.TheVariants.{NoUnit, BadSide, BadCondition, ConstantRange, TwoCrossed}
use Rattle.c62_line.specs.declared.fault.Cause.{Cause}
use Rattle.c62_line.specs.declared.fault.Cause.TheVariants.{NotAscii, LineTooLong, BadLabel, DuplicateLabel, UnknownMnemonic, BadUnit, BadOperand, Form}
use Rattle.c62_line.specs.declared.fault.Cause.TheVariants.{ParallelBar, Directive, UnknownTarget, TooManyInstructions, TooManyBlocks, TextTooLong, Memory}

abbrev pub form_sentence : FormFault → List ℕ
form_sentence BadCondition = codes "a condition is A1, A2, B0, B1 or B2"
form_sentence ConstantRange = codes "this constant is outside the ranges of the mnemonic"
form_sentence TwoCrossed = codes "both sources are on the side other than the destination's"
form_sentence BadSide = codes "a register or the unit is on the wrong side"
form_sentence NoUnit = codes "no unit, or not the written one, takes these operands"

abbrev pub sentence : Cause → List ℕ
sentence NotAscii = codes "this byte is neither printable ASCII nor a tab"
sentence LineTooLong = codes "a line has at most 255 bytes"
sentence BadLabel = codes "a colon ends a label, and what is before this one isn't a label"
sentence DuplicateLabel = codes "an earlier line has this label"
sentence UnknownMnemonic = codes "a mnemonic is wanted here"
sentence BadUnit = codes "the mnemonic doesn't run on this unit"
sentence BadOperand = codes "no form of the instruction goes on like this"
sentence (Form fault) = form_sentence fault
sentence ParallelBar = codes "serial text has no parallel bars"
sentence Directive = codes "serial text has no directives"
sentence UnknownTarget = codes "no line has this label"
sentence TooManyInstructions = codes "a block has at most 256 instructions"
sentence TooManyBlocks = codes "a text has at most 64 blocks"
sentence TextTooLong = codes "a text has at most 1,048,576 bytes"
sentence Memory = codes "memory ran out"
