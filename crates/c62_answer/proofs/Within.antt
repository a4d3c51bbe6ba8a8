-- Each instruction of a program's blocks is one of the set that its text is read in.
use Rattle.std.proofs.Common.{◌≡◌, ◌∙◌, ap, sym, refl, ℕ, true, List, [], ◌∷◌, map, Ok}
use Rattle.std.specs.Prelude.{◌&&◌}
use Rattle.std.specs.List.{list_all}
use Rattle.std.proofs.lemmas.List.Folds.{list_all-append, list_all-map}
use Rattle.c62_op.specs.Units.{is_taken_in}
use Rattle.c62_op.specs.declared.set.InstructionSet.{InstructionSet}
use Rattle.c62_read.specs.declared.block.SerialInsn.{SerialInsn}
use Rattle.c62_read.specs.Block.{Serial}
use Rattle.c62_read.specs.Program.{block_parts, numbered_of, program_in}
use Rattle.c62_read.specs.Laws.{instructions_of, is_of}
use Rattle.c62_read.proofs.SetLemmas.{stays_in_set}
use Rattle.c62_answer.proofs.Schedules.{passes}

all_are_of : (isa : InstructionSet) (blocks : List Serial)
    → list_all (λ (block : Serial). list_all (λ (entry : SerialInsn). passes (is_taken_in isa) entry.insn) block.insns)
    blocks
    ≡ list_all (is_of isa) (instructions_of (map block_parts blocks))
all_are_of isa [] = refl
all_are_of isa (block ∷ blocks) =
    ap (λ rest. list_all (λ (entry : SerialInsn). passes (is_taken_in isa) entry.insn) block.insns && rest)
    (all_are_of isa blocks)
    ∙ ap (λ here. here && list_all (is_of isa) (instructions_of (map block_parts blocks)))
    (sym (list_all-map (is_of isa) numbered_of block.insns))
    ∙ sym (list_all-append (is_of isa) (map numbered_of block.insns) (instructions_of (map block_parts blocks)))

pub program_is_of : (isa : InstructionSet) (text : List ℕ) (blocks : List Serial)
    → program_in isa text ≡ Ok (map block_parts blocks)
    → list_all (λ (block : Serial). list_all (λ (entry : SerialInsn). passes (is_taken_in isa) entry.insn) block.insns)
    blocks ≡ true
program_is_of isa text blocks e = all_are_of isa blocks ∙ stays_in_set isa text (map block_parts blocks) e
