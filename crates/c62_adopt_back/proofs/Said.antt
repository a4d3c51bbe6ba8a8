-- What the line of a listing's instruction says.
use Rattle.c62_adopt_back.proofs.Common.{nat_tests, arith, ◌≡◌, ℕ, ◌+◌, Option, Some, None, true, refl, is_branch}
use Rattle.c62_adopt_back.proofs.Common.{Operands, op_of, operands_of}
use Rattle.c62_adopt_back.proofs.Common.{says_on, Does, Jumps, Parts, Says, Name, Placed, is_branching_placed, issue_of}
use Rattle.c62_adopt_back.proofs.Common.{Stand, Drafts, opened}
use Rattle.c62_adopt_back.proofs.Common.{end_of, if◌then◌else◌}
use Rattle.c62_op.specs.declared.operands.Operands.TheVariants.{Block}
use Rattle.c62_op.specs.Shape.{writes_of}
use Rattle.c62_line.specs.Laws.{parts_on, says_with}
use Rattle.c62_read.specs.Walk.{is_instruction}
use Rattle.c62_rules.specs.Length.{landing_end}
use Rattle.c62_adopt_cut.specs.Cut.{cycles_said, is_branching, is_filled}
use Rattle.c62_adopt_cut.specs.Blocks.{add_issue, issue_at, with_says}
use Rattle.c62_adopt_cut.specs.Text.{ends_behind, is_too_late}
use Rattle.c62_packet.specs.declared.limits.TheConstants.{MOST_CYCLES}

-- ---- by its parts and its target

abbrev pub said_with : Parts → Option Name → Says
said_with parts None = Does parts
said_with parts (Some target) = Jumps parts target

-- what is known of it by these
pub record IsSaid (parts : Parts) (target : Option Name) (says : Says) : Type 0 where
  pub cycle : cycles_said says ≡ 1
  pub filled : is_filled says ≡ true
  pub instruction : is_instruction says ≡ true
  pub branching : is_branching says ≡ is_branch parts.op
  pub late : (stand : Stand) → is_too_late stand says ≡ ends_behind MOST_CYCLES stand parts
  pub adds : (number : ℕ) (stand : Stand) (drafts : Drafts)
      → with_says number stand says drafts ≡ add_issue (issue_at stand number parts target) (opened stand.start drafts)

pub is_said : (parts : Parts) (target : Option Name) → IsSaid parts target (said_with parts target)
is_said parts None = record {
  cycle = refl;
  filled = refl;
  instruction = refl;
  branching = refl;
  late = λ stand. refl;
  adds = λ number stand drafts. refl;
}
is_said parts (Some target) = record {
  cycle = refl;
  filled = refl;
  instruction = refl;
  branching = refl;
  late = λ stand. refl;
  adds = λ number stand drafts. refl;
}

-- ---- of a packet's instruction

-- a branch to a block is written with the label of the block
abbrev pub unaimed : Operands → Operands
unaimed (Block number) = Block 0
unaimed operands = operands

abbrev pub target_with : (ℕ → Name) → Operands → Option Name
target_with name (Block number) = Some (name number)
target_with name operands = None

abbrev pub parts_written : Placed → Parts
parts_written p = record (parts_on p.insn p.unit) { operands = unaimed (operands_of p.insn) }

abbrev pub target_written : (ℕ → Name) → Placed → Option Name
target_written name p = target_with name (operands_of p.insn)

with_is : (name : ℕ → Name) (p : Placed) (operands : Operands) → operands_of p.insn ≡ operands
    → says_with name (parts_on p.insn p.unit) operands
    ≡ said_with (record (parts_on p.insn p.unit) { operands = unaimed operands }) (target_with name operands)
with_is name p operands is = grind arith

pub says_is : (name : ℕ → Name) (p : Placed)
    → says_on name p.insn p.unit ≡ said_with (parts_written p) (target_written name p)
says_is name p = with_is name p (operands_of p.insn) refl

-- ---- when it has landed

unaimed_end : (p : Placed) (operands : Operands) → operands_of p.insn ≡ operands
    → writes_of (op_of p.insn) (unaimed operands)
    ≡ writes_of (op_of p.insn) operands
unaimed_end p operands is = grind arith

-- a branch takes effect six cycles behind its issue, and all else has landed with the instruction
pub lands_at : (p : Placed) (start : ℕ) → end_of (parts_written p) (start + p.cycle)
    ≡ (if is_branching_placed p then start + p.cycle + 6 else start + landing_end (issue_of p))
lands_at p start = grind (arith, nat_tests, unaimed_end p (operands_of p.insn) refl)
