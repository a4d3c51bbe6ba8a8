-- What is told of a text's code.
use Rattle.std.specs.Prelude.{◌≡◌, ◌≤◌, ℕ, ◌+◌, List, ◌∷◌, Result, Err}
use Rattle.c62_adopt_code.specs.declared.fault.CodeCause.{CodeCause}
use Rattle.c62_adopt_code.specs.declared.fault.CodeFault.{CodeFault}
use Rattle.c62_adopt_code.specs.declared.fault.CodeFault.TheVariants.{At, Memory}
use Rattle.c62_adopt_code.specs.declared.code.Site.{Site}
use Rattle.c62_adopt_code.specs.Code.{Refusal, below, code_below}
use Rattle.c62_op.specs.declared.set.InstructionSet.{InstructionSet}

-- memory may run out before any answer
abbrev pub FailsWith : {T : Type 0} → CodeFault → Result T Refusal → Type 0
FailsWith (At line cause) says = says ≡ Err (line, cause)
FailsWith Memory says = Unit {0}

-- what the lines come to that stand here, below what was taken
abbrev pub comes_to : InstructionSet → Site → List ℕ → ℕ → List (List ℕ) → Result (List ℕ) Refusal
comes_to isa site front number lines = below front (code_below isa site.home.now site.section.now site.way number lines)

-- a line is taken: all lines below it come to the same
pub record TakesLine (isa : InstructionSet) (number : ℕ) (line : List ℕ) (old : Site) (front more : List ℕ) (new : Site) : Type 0 where
  pub young : new.way.age ≤ 6
  pub so_far : (lines : List (List ℕ)) → comes_to isa new more (number + 1) lines ≡ comes_to isa old front number (line ∷ lines)

-- the line is refused
abbrev pub RefusesLine : InstructionSet → ℕ → List ℕ → Site → CodeFault → Type 0
RefusesLine isa number line old fault =
    (lines : List (List ℕ)) → FailsWith fault (code_below isa old.home.now old.section.now old.way number (line ∷ lines))
