-- The eight functional units in the order in which a packet is listed (docs/MACHINE.md, "Register files and units";
-- SPRU189, "Functional Units").
use Rattle.std.specs.Prelude.{ℕ, Bool, List, [], ◌∷◌}
use Rattle.std.specs.List.{list_any}
use Rattle.c62_op.specs.declared.register.Side.{Side}
use Rattle.c62_op.specs.declared.register.Side.TheVariants.{A, B}
use Rattle.c62_op.specs.declared.register.Letter.{Letter}
use Rattle.c62_op.specs.declared.register.Letter.TheVariants.{L, S, M, D}
use Rattle.c62_op.specs.declared.register.Unit.{Unit as FunctionalUnit}
use Rattle.c62_op.specs.declared.operands.Op.{Op}
use Rattle.c62_op.specs.declared.operands.Operands.{Operands}
use Rattle.c62_op.specs.declared.set.InstructionSet.{InstructionSet}
use Rattle.c62_op.specs.Takes.{takes_in}

-- .L1 .S1 .M1 .D1 .L2 .S2 .M2 .D2
abbrev pub all_units : List FunctionalUnit
all_units =
    record { letter = L; side = A } ∷ record { letter = S; side = A } ∷ record { letter = M; side = A } ∷ record { letter = D; side = A }
    ∷ record { letter = L; side = B } ∷ record { letter = S; side = B } ∷ record { letter = M; side = B } ∷ record { letter = D; side = B } ∷ []

-- the index of the unit of this letter on this side in .L1 .S1 .M1 .D1 .L2 .S2 .M2 .D2
abbrev pub index_on : Letter → Side → ℕ
index_on L A = 0
index_on S A = 1
index_on M A = 2
index_on D A = 3
index_on L B = 4
index_on S B = 5
index_on M B = 6
index_on D B = 7

abbrev pub index_of : FunctionalUnit → ℕ
index_of unit = index_on unit.letter unit.side

-- some unit takes the operands by a form of the set
abbrev pub is_taken_in : InstructionSet → Op → Operands → Bool
is_taken_in isa op operands = list_any (takes_in isa op operands) all_units
