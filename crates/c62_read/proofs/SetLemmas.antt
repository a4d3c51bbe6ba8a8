-- Each instruction of a program is one of the set that its text is read in.
use Rattle.c62_read.proofs.Common.{◌≡◌, ◌∙◌, ap, refl, ℕ, ◌+◌, true, List, [], ◌∷◌, Option, Result, Ok, Err}
use Rattle.c62_read.proofs.Common.{list_all, list_all-append, lines_of, Says, Does, Jumps, Nothing, Cause}
use Rattle.std.proofs.lemmas.Bool.{and_from}
use Rattle.c62_op.specs.declared.set.InstructionSet.{InstructionSet}
use Rattle.c62_op.specs.declared.set.InstructionSet.TheVariants.{Core, Full}
use Rattle.c62_op.specs.declared.operands.Op.TheVariants.{B as Branch}
use Rattle.c62_op.specs.declared.operands.Operands.TheVariants.{Block}
use Rattle.c62_op.specs.Units.{is_taken_in}
use Rattle.c62_line.specs.Line.{Pause, head_of, line_of, rest_says, with_head, with_rest}
use Rattle.c62_line.proofs.SaysLemmas.{AreTaken, IsProper, proper, said_taken}
use Rattle.c62_read.specs.Program.{Name}
use Rattle.c62_read.specs.Laws.{StaysInSet, block_named, instruction_at, instructions_in, is_of}
use Rattle.c62_read.proofs.ProgramLaws.{is_its_lines}

-- ---- of a line

-- what a line says is proper, and an instruction of the set
IsOfSet : InstructionSet → Result (Option Name × Says) Cause → Type 0
IsOfSet isa (Ok (label, says)) = IsProper says × AreTaken isa says
IsOfSet isa (Err cause) = Unit {0}

line_is_of : (isa : InstructionSet) (line : List ℕ) → IsOfSet isa (line_of isa line)
unfolding line_of IsOfSet
line_is_of isa line = by_head (head_of line)
  where
    by_rest : (label : Option Name) (words : List Name) (said : Result Says Cause) → rest_says isa words ≡ said
        → IsOfSet isa (with_rest label said)
    by_rest label words (Ok says) e = (proper isa words says e, said_taken isa words says e)
    by_rest label words (Err cause) e = tt

    by_head : (head : Result (Option Name × List Name) Cause) → IsOfSet isa (with_head isa head)
    by_head (Ok (label, words)) = by_rest label words (rest_says isa words) refl
    by_head (Err cause) = tt

-- a branch to a block is of each set
branch_is_of : (isa : InstructionSet) (k : ℕ) → is_taken_in isa Branch (Block k) ≡ true
branch_is_of Core k = refl
branch_is_of Full k = refl

says_is_of : (isa : InstructionSet) (aim : Name → ℕ) (number : ℕ) (said : Result (Option Name × Says) Cause)
    → IsOfSet isa said
    → list_all (is_of isa) (instruction_at aim number said) ≡ true
unfolding IsOfSet
says_is_of isa aim number (Ok (label, Nothing)) is = refl
says_is_of isa aim number (Ok (label, Pause n)) is = refl
says_is_of isa aim number (Ok (label, Does parts)) is = and_from _ true is.1 refl
says_is_of isa aim number (Ok (label, Jumps parts target)) is =
    and_from _ true (ap (λ op. is_taken_in isa op (Block (aim target))) is.0.0 ∙ branch_is_of isa (aim target)) refl
says_is_of isa aim number (Err cause) is = refl

lines_are_of : (isa : InstructionSet) (aim : Name → ℕ) (number : ℕ) (lines : List (List ℕ))
    → list_all (is_of isa) (instructions_in isa aim number lines) ≡ true
lines_are_of isa aim number [] = refl
lines_are_of isa aim number (line ∷ lines) =
    list_all-append (is_of isa) (instruction_at aim number (line_of isa line))
    (instructions_in isa aim (number + 1) lines)
    ∙ and_from _ _ (says_is_of isa aim number (line_of isa line) (line_is_of isa line))
    (lines_are_of isa aim (number + 1) lines)

-- ---- of a program

pub stays_in_set : (isa : InstructionSet) (text : List ℕ) → StaysInSet isa text
stays_in_set isa text blocks e =
    ap (list_all (is_of isa)) (is_its_lines isa text blocks e) ∙ lines_are_of isa (block_named blocks) 1 (lines_of text)
