-- How the faults are found in one walk over the lines, by what the reader has of those before (c62_read, Walk).
use Rattle.std.specs.Prelude.{ℕ, ◌+◌, Bool, true, false, List, [], ◌∷◌, ◌++◌, Option, Some, None, Result, Ok, Err}
use Rattle.c62_line.specs.declared.fault.Cause.{Cause}
use Rattle.c62_line.specs.declared.fault.Cause.TheVariants.{UnknownTarget}
use Rattle.c62_line.specs.Line.{fault_in}
use Rattle.c62_read.specs.declared.program.TextReader.{TextReader}
use Rattle.c62_read.specs.Program.{Name, Refusal, fault_if, first_of}
use Rattle.c62_read.specs.Walk.{Drafts, Step, add_line, is_unknown}
use Rattle.c62_lint.specs.Faults.{at_number}
use Rattle.c62_op.specs.declared.set.InstructionSet.{InstructionSet}

-- what is wrong with the line of a step: a branch to none of these labels comes before the counts
abbrev pub step_fault : List Name → Step → Option Cause
step_fault labels step = first_of (fault_if (is_unknown labels step.says) UnknownTarget ∷ fault_in step.drafts ∷ [])

abbrev pub kept_or : Drafts → Bool → Result Drafts Cause → Drafts
kept_or old true made = old
kept_or old false (Err cause) = old
kept_or old false (Ok drafts) = drafts

-- the blocks behind the step: those before it, where the line is faulty
abbrev pub step_drafts : List Name → Step → Drafts → Drafts
step_drafts labels step old = kept_or old (is_unknown labels step.says) step.drafts

-- the faults of these lines, of which the first has this number, behind these blocks
unfoldable pub walked_faults : InstructionSet → List Name → ℕ → List (List ℕ) → Drafts → List Refusal
walked_faults isa labels number [] drafts = []
walked_faults isa labels number (line ∷ lines) drafts =
    at_number number (step_fault labels (add_line isa number line drafts))
    ++ walked_faults isa labels (number + 1) lines (step_drafts labels (add_line isa number line drafts) drafts)
