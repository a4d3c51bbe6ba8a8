-- Words that are instructions, and so are neither labels without a colon nor names (docs/ADOPT.md, "Other spellings").
use Rattle.std.specs.Prelude.{Bool, false, ◌||◌, List, [], ◌∷◌, codes, is_some}
use Rattle.std.specs.List.{list_any}
use Rattle.c62_line.specs.Line.{mnemonic_front}
use Rattle.c62_line.specs.Mnemonic.{mnemonic_named}
use Rattle.c62_token.specs.Kind.{Word}
use Rattle.c62_token.specs.Number.{spells}
use Rattle.c62_adopt_line.specs.Plain.{names_branch}
use Rattle.c62_op.specs.declared.set.InstructionSet.{InstructionSet}

-- what is an instruction by itself on this family of processors, though c62 doesn't know it
abbrev pub bare_names : List Word
bare_names =
    codes "IDLE" ∷ codes "DINT" ∷ codes "RINT" ∷ codes "SWE" ∷ codes "SWENR" ∷ codes "SPKERNEL" ∷ codes "SPKERNELR" ∷ codes "SPMASK"
    ∷ codes "SPMASKR" ∷ []

abbrev pub is_instruction : InstructionSet → Word → Bool
is_instruction isa word = is_some (mnemonic_named isa word) || names_branch word || list_any (λ name. spells name word) bare_names

abbrev pub begins_operation : InstructionSet → List Word → Bool
begins_operation isa words = is_some (mnemonic_front isa words)

-- whether the first word is an instruction
abbrev pub begins_instruction : InstructionSet → List Word → Bool
begins_instruction isa [] = false
begins_instruction isa (word ∷ words) = is_instruction isa word
