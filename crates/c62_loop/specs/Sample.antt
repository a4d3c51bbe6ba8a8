-- A loop that sums words, and its packets of one cycle a word: five branches and five loads are in flight when the kernel is begun.
use Rattle.std.specs.Prelude.{refl, ℕ, pos, false, List, [], ◌∷◌, Some, None}
use Rattle.std.proofs.lemmas.Bool.{ltb-true}
use Rattle.c62_op.specs.declared.register.Side.TheVariants.{A, B}
use Rattle.c62_op.specs.declared.register.Letter.TheVariants.{L, S, D}
use Rattle.c62_op.specs.declared.register.Reg.{Reg}
use Rattle.c62_op.specs.declared.operands.Op.TheVariants.{B as Branch, Add, Sub, Ldw}
use Rattle.c62_op.specs.declared.operands.Operands.TheVariants.{Three, ConstantSecond, Access, Block}
use Rattle.c62_op.specs.declared.operands.AddressForm.TheVariants.{PostIncrement}
use Rattle.c62_op.specs.declared.operands.Offset.TheVariants.{Constant as ByConstant}
use Rattle.c62_insn.specs.declared.insn.Insn.{Insn}
use Rattle.c62_packet.specs.declared.placed.Placed.{Placed}
use Rattle.c62_flight.specs.Text.{Row}
use Rattle.c62_loop.specs.Loop.{Region, Pipelined}
use Rattle.c62_loop.specs.Stage.{Schedule}
use Rattle.c62_loop.specs.Whole.{Control}

abbrev pub a1 : Reg
a1 = record { side = A; number = 1; in_range = ltb-true 1 16 refl }

abbrev pub a2 : Reg
a2 = record { side = A; number = 2; in_range = ltb-true 2 16 refl }

abbrev pub a3 : Reg
a3 = record { side = A; number = 3; in_range = ltb-true 3 16 refl }

abbrev pub a4 : Reg
a4 = record { side = A; number = 4; in_range = ltb-true 4 16 refl }

-- LDW .D1 *A4++,A2
abbrev pub load : Insn
load = record { op = Ldw; operands = Access a2 a4 PostIncrement (ByConstant (pos 1)); cond = None; unit = Some (record { letter = D; side = A }); well_formed = refl }

-- ADD .L1 A2,A3,A3
abbrev pub add : Insn
add = record { op = Add; operands = Three a2 a3 a3; cond = None; unit = Some (record { letter = L; side = A }); well_formed = refl }

-- [A1] SUB .S1 A1,1,A1
abbrev pub step : Insn
step = record { op = Sub; operands = ConstantSecond a1 (pos 1) a1; cond = Some (record { reg = a1; negated = false }); unit = Some (record { letter = S; side = A }); well_formed = refl }

-- SUB .S1 A1,6,A1
abbrev pub six_steps : Insn
six_steps = record { op = Sub; operands = ConstantSecond a1 (pos 6) a1; cond = None; unit = Some (record { letter = S; side = A }); well_formed = refl }

-- [A1] B .S2 to the label of number 0
abbrev pub branch : Insn
branch = record { op = Branch; operands = Block 0; cond = Some (record { reg = a1; negated = false }); unit = Some (record { letter = S; side = B }); well_formed = refl }

-- ---- the serial loop, each instruction on a line

abbrev pub sum : Region
sum = record {
  before = [];
  body = record { insn = load; line = 1 } ∷ record { insn = add; line = 2 } ∷ record { insn = step; line = 3 } ∷ record { insn = branch; line = 4 } ∷ [];
  behind = [];
  counter = a1;
  number = 0;
}

-- ---- its packets, with the lines of the serial loop

abbrev pub load_in : ℕ → Placed
load_in cycle = record { insn = load; line = 1; cycle = cycle; unit = record { letter = D; side = A } }

abbrev pub add_in : ℕ → Placed
add_in cycle = record { insn = add; line = 2; cycle = cycle; unit = record { letter = L; side = A } }

abbrev pub step_in : ℕ → Placed
step_in cycle = record { insn = step; line = 3; cycle = cycle; unit = record { letter = S; side = A } }

abbrev pub six_in : ℕ → Placed
six_in cycle = record { insn = six_steps; line = 5; cycle = cycle; unit = record { letter = S; side = A } }

abbrev pub branch_in : ℕ → Placed
branch_in cycle = record { insn = branch; line = 4; cycle = cycle; unit = record { letter = S; side = B } }

abbrev pub row : List Placed → Row
row insns = record { insns = insns; idle = 0 }

-- the counter lowered by six, five rows of a load, a step and a branch, the kernel, and five additions
abbrev pub pipelined_sum : Pipelined
pipelined_sum = record {
  text = record {
    rows = row (six_in 0 ∷ [])
        ∷ row (step_in 0 ∷ load_in 0 ∷ branch_in 0 ∷ []) ∷ row (step_in 0 ∷ load_in 0 ∷ branch_in 0 ∷ []) ∷ row (step_in 0 ∷ load_in 0 ∷ branch_in 0 ∷ [])
        ∷ row (step_in 0 ∷ load_in 0 ∷ branch_in 0 ∷ []) ∷ row (step_in 0 ∷ load_in 0 ∷ branch_in 0 ∷ [])
        ∷ row (add_in 0 ∷ step_in 0 ∷ load_in 0 ∷ branch_in 0 ∷ [])
        ∷ row (add_in 0 ∷ []) ∷ row (add_in 0 ∷ []) ∷ row (add_in 0 ∷ []) ∷ row (add_in 0 ∷ []) ∷ row (add_in 0 ∷ []) ∷ [];
    aims = 6 ∷ [];
  };
  first = 0;
  prolog = 6;
  kernel = 1;
  epilog = 5;
  label = 0;
}

-- what is where
abbrev pub sum_schedule : Schedule
sum_schedule = record {
  before = [];
  stages = record { early = load_in 1 ∷ load_in 2 ∷ load_in 3 ∷ load_in 4 ∷ load_in 5 ∷ []; kernel = load_in 6; late = [] }
      ∷ record { early = []; kernel = add_in 6; late = add_in 6 ∷ add_in 7 ∷ add_in 8 ∷ add_in 9 ∷ add_in 10 ∷ [] } ∷ [];
  behind = [];
  interval = 1;
}

abbrev pub sum_control : Control
sum_control = record {
  early = six_in 0 ∷ branch_in 1 ∷ step_in 1 ∷ branch_in 2 ∷ step_in 2 ∷ branch_in 3 ∷ step_in 3 ∷ branch_in 4 ∷ step_in 4 ∷ branch_in 5 ∷ step_in 5 ∷ [];
  kernel = branch_in 6 ∷ step_in 6 ∷ [];
}
