-- The packet rules and the length of a block ask only which instructions are issued, and neither under which numbers nor
-- in which order (docs/MACHINE.md, "Packet rules" and "Length of a block").
use Rattle.std.specs.Prelude.{◌≡◌, ℕ, ◌≤◌, List, count_by, IsPermutation}
use Rattle.c62_op.specs.Shape.{is_branch}
use Rattle.c62_insn.specs.Insn.{op_of}
use Rattle.c62_rules.specs.PacketRules.{Issue, Issues, IsIssued, issued, KeepsPacketRules}
use Rattle.c62_rules.specs.Length.{length_of}

-- what is issued under a number is issued among the others too, under a number of its own
pub record IsPart (issues others : Issues) : Type 0 where
  pub number : ℕ → ℕ
  pub issued : (i : ℕ) (p : Issue) → IsIssued issues i p → IsIssued others (number i) p
  pub apart : (i j : ℕ) (p q : Issue) → IsIssued issues i p → IsIssued issues j q → number i ≡ number j → i ≡ j

-- part of what keeps the rules keeps them
abbrev pub PartKeepsRules : Issues → Issues → Type 0
PartKeepsRules issues others = IsPart issues others → KeepsPacketRules others → KeepsPacketRules issues

-- the same instructions keep the rules under whatever numbers they are issued
abbrev pub AnyOrderKeepsRules : Issues → Issues → Type 0
AnyOrderKeepsRules issues others = IsPermutation (issued issues) (issued others) → KeepsPacketRules issues → KeepsPacketRules others

-- at most one of them is a branch
abbrev pub HasFewBranches : List Issue → Type 0
HasFewBranches issues = count_by (λ p. is_branch (op_of p.insn)) issues ≤ 1

-- the same instructions take as long in whatever order they are listed
abbrev pub AnyOrderIsAsLong : List Issue → List Issue → Type 0
AnyOrderIsAsLong issues others = IsPermutation issues others → HasFewBranches issues → length_of others ≡ length_of issues
