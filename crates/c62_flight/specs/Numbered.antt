-- The numbers under which branches name labels are names and nothing else.
use Rattle.std.specs.Prelude.{◌≡◌, ℕ, List, [], ◌∷◌, length}
use Rattle.c62_op.specs.declared.operands.Operands.{Operands}
use Rattle.c62_op.specs.declared.operands.Operands.TheVariants.{Block}
use Rattle.c62_insn.specs.Insn.{op_of, operands_of, cond_of}
use Rattle.c62_serial.specs.State.{Machine}
use Rattle.c62_packet.specs.declared.placed.Placed.{Placed}
use Rattle.c62_flight.specs.declared.stop.Stop.{Stop}
use Rattle.c62_flight.specs.Text.{Text, row_of, aim_of}
use Rattle.c62_flight.specs.Flight.{Flies}

-- the same, or labels of these texts by whatever numbers, at rows of one number
abbrev pub SameOperands : Text → Text → Operands → Operands → Type 0
SameOperands text other (Block number) (Block another) = aim_of text number ≡ aim_of other another
SameOperands text other one two = one ≡ two

-- whatever the cycles
pub record IsSamePlaced (text other : Text) (p q : Placed) : Type 0 where
  pub op : op_of p.insn ≡ op_of q.insn
  pub operands : SameOperands text other (operands_of p.insn) (operands_of q.insn)
  pub cond : cond_of p.insn ≡ cond_of q.insn
  pub unit : p.unit ≡ q.unit
  pub line : p.line ≡ q.line

abbrev pub AreSamePlaced : Text → Text → List Placed → List Placed → Type 0
AreSamePlaced text other [] [] = Unit {0}
AreSamePlaced text other (p ∷ ps) (q ∷ qs) = IsSamePlaced text other p q × AreSamePlaced text other ps qs
AreSamePlaced text other _ _ = ⊥

-- texts that are the same but for these numbers
pub record IsSameText (text other : Text) : Type 0 where
  pub count : length text.rows ≡ length other.rows
  pub idle : (number : ℕ) → (row_of text number).idle ≡ (row_of other number).idle
  pub insns : (number : ℕ) → AreSamePlaced text other (row_of text number).insns (row_of other number).insns

abbrev pub FlyTheSame : Text → Text → Type 0
FlyTheSame text other = IsSameText text other → (first limit : ℕ) (opening : Machine) (stop : Stop) (cycles : ℕ) (final : Machine)
    → Flies text first limit opening stop cycles final → Flies other first limit opening stop cycles final
