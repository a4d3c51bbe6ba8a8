-- Which instructions may share cycles: the rules of execute packets (docs/MACHINE.md, "Packet rules"; SPRU189, "Resource
-- Constraints").
use Rattle.std.specs.Prelude.{◌≡◌, ◌≢◌, ◌⊎◌, ◌↔◌, ℕ, ◌+◌, ◌≤◌, Contains, Some}
use Rattle.c62_op.specs.declared.register.Reg.{Reg}
use Rattle.c62_op.specs.declared.register.Cond.{Cond as Condition}
use Rattle.c62_insn.specs.Insn.{cond_of, register_writes}
use Rattle.c62_rules.specs.Capacity.{AreEnough}
pub use Rattle.c62_rules.specs.Issues.{Issue, Issues, IsIssued, issued}

-- the instruction writes this register, and the write lands in this cycle
abbrev pub LandsIn : Issue → Reg → ℕ → Type 0
LandsIn p reg cycle = (delay : ℕ) × Contains (register_writes p.insn) (reg, delay) × (p.cycle + delay ≡ cycle)

-- What excuses two writes of one register that land together: their instructions stand under opposite conditions on one
-- register, and each write of it lands before both are issued, or before neither.
pub record MayLandTogether (issues : Issues) (p q : Issue) : Type 0 where
  pub one : Condition
  pub other : Condition
  pub is_one : cond_of p.insn ≡ Some one
  pub is_other : cond_of q.insn ≡ Some other
  pub same : one.reg ≡ other.reg
  pub opposite : one.negated ≢ other.negated
  pub stays : (k : ℕ) (r : Issue) (t : ℕ) → IsIssued issues k r → LandsIn r one.reg t → (p.cycle ≤ t) ↔ (q.cycle ≤ t)

-- P5: no two writes of one register land in one cycle, executed or not, unless that is excused. The two writes of one
-- instruction never do, as they have different delays.
abbrev pub HasOneLanding : Issues → Type 0
HasOneLanding issues =
    (i j : ℕ) (p q : Issue) (reg : Reg) (cycle : ℕ) → IsIssued issues i p → IsIssued issues j q → LandsIn p reg cycle → LandsIn q reg cycle
    → (i ≡ j) ⊎ MayLandTogether issues p q

-- the packet rules: of each resource there is enough in each cycle (P1 to P4), and P5
pub record KeepsPacketRules (issues : Issues) : Type 0 where
  pub enough : (cycle : ℕ) → AreEnough cycle issues
  pub landing : HasOneLanding issues
