-- Small texts and how their runs end.
use Rattle.std.specs.Prelude.{◌≡◌, refl, ℕ, ◌%◌, ◌^◌, pos, true, false, List, [], ◌∷◌, slice_index, codes, Some, None, IsFalse}
use Rattle.std.proofs.lemmas.Bool.{ltb-true}
use Rattle.c62_op.specs.declared.register.Side.{Side}
use Rattle.c62_op.specs.declared.register.Side.TheVariants.{A, B}
use Rattle.c62_op.specs.declared.register.Letter.{Letter}
use Rattle.c62_op.specs.declared.register.Letter.TheVariants.{L, S, M, D}
use Rattle.c62_op.specs.declared.register.Reg.{Reg}
use Rattle.c62_op.specs.declared.operands.Op.TheVariants.{B as Branch, Mvk, Add, Sub, Mpyu, Ldw}
use Rattle.c62_op.specs.declared.operands.Operands.TheVariants.{Three, Constant, Access, Block, Register as ByRegister}
use Rattle.c62_op.specs.declared.operands.AddressForm.TheVariants.{Plus}
use Rattle.c62_op.specs.declared.operands.Offset.TheVariants.{Constant as ByConstant}
use Rattle.c62_insn.specs.declared.insn.Insn.{Insn}
use Rattle.c62_serial.specs.State.{Machine, IsSound, word_in}
use Rattle.c62_serial.specs.Memory.{number_of, bytes_from}
use Rattle.c62_packet.specs.declared.placed.Placed.{Placed}
use Rattle.c62_packet.specs.Packed.{Packed, packed_of}
use Rattle.c62_flight.specs.declared.stop.Stop.{Stop}
use Rattle.c62_flight.specs.declared.stop.Stop.TheVariants.{End, Register, Clash, Branches, Limit}
use Rattle.c62_flight.specs.Text.{Row, Text, is_address}
use Rattle.c62_flight.specs.Flight.{Flies}

-- ---- instructions, of a line

abbrev pub a1 : Reg
a1 = record { side = A; number = 1; in_range = ltb-true 1 16 refl }

abbrev pub a2 : Reg
a2 = record { side = A; number = 2; in_range = ltb-true 2 16 refl }

abbrev pub a3 : Reg
a3 = record { side = A; number = 3; in_range = ltb-true 3 16 refl }

abbrev pub a4 : Reg
a4 = record { side = A; number = 4; in_range = ltb-true 4 16 refl }

abbrev pub b3 : Reg
b3 = record { side = B; number = 3; in_range = ltb-true 3 16 refl }

abbrev pub stands : Letter → Side → ℕ → Insn → Placed
stands letter side line insn = record { insn = insn; line = line; cycle = 0; unit = record { letter = letter; side = side } }

-- MVK .S1 3,A1
abbrev pub three_a1 : ℕ → Placed
three_a1 line = stands S A line (record { op = Mvk; operands = Constant (pos 3) a1; cond = None; unit = Some (record { letter = S; side = A }); well_formed = refl })

-- MVK .S1 5,A2
abbrev pub five_a2 : ℕ → Placed
five_a2 line = stands S A line (record { op = Mvk; operands = Constant (pos 5) a2; cond = None; unit = Some (record { letter = S; side = A }); well_formed = refl })

-- [A1] MVK .S1 5,A2
abbrev pub if_five_a2 : ℕ → Placed
if_five_a2 line = stands S A line (record { op = Mvk; operands = Constant (pos 5) a2; cond = Some (record { reg = a1; negated = false }); unit = Some (record { letter = S; side = A }); well_formed = refl })

-- MPYU .M1 A1,A1,A2
abbrev pub square : ℕ → Placed
square line = stands M A line (record { op = Mpyu; operands = Three a1 a1 a2; cond = None; unit = Some (record { letter = M; side = A }); well_formed = refl })

-- ADD .L1 A2,A3,A2
abbrev pub add : ℕ → Placed
add line = stands L A line (record { op = Add; operands = Three a2 a3 a2; cond = None; unit = Some (record { letter = L; side = A }); well_formed = refl })

-- [A1] SUB .S1 A1,A4,A1
abbrev pub if_less : ℕ → Placed
if_less line = stands S A line (record { op = Sub; operands = Three a1 a4 a1; cond = Some (record { reg = a1; negated = false }); unit = Some (record { letter = S; side = A }); well_formed = refl })

-- LDW .D1T1 *A1,A2
abbrev pub load : ℕ → Placed
load line = stands D A line (record { op = Ldw; operands = Access a2 a1 Plus (ByConstant (pos 0)); cond = None; unit = Some (record { letter = D; side = A }); well_formed = refl })

-- B .S2 to the label of a number
abbrev pub branch : ℕ → ℕ → Placed
branch line number = stands S B line (record { op = Branch; operands = Block number; cond = None; unit = Some (record { letter = S; side = B }); well_formed = refl })

-- [A1] B .S2 and [!A1] B .S1
abbrev pub if_branch : ℕ → ℕ → Placed
if_branch line number = stands S B line (record { op = Branch; operands = Block number; cond = Some (record { reg = a1; negated = false }); unit = Some (record { letter = S; side = B }); well_formed = refl })

abbrev pub if_not_branch : ℕ → ℕ → Placed
if_not_branch line number = stands S A line (record { op = Branch; operands = Block number; cond = Some (record { reg = a1; negated = true }); unit = Some (record { letter = S; side = A }); well_formed = refl })

-- B .S2 B3
abbrev pub leave : ℕ → Placed
leave line = stands S B line (record { op = Branch; operands = ByRegister b3; cond = None; unit = Some (record { letter = S; side = B }); well_formed = refl })

-- ---- rows

abbrev pub packet : List Placed → Row
packet insns = record { insns = insns; idle = 0 }

-- NOP of more than a cycle
abbrev pub nop : ℕ → Row
nop more = record { insns = []; idle = more }

abbrev pub text_of : List Row → List ℕ → Text
text_of rows aims = record { rows = rows; aims = aims }

-- from row 0 on a text runs so, and leaves some machine
abbrev pub Runs : Text → ℕ → Machine → Stop → ℕ → Type 0
Runs text limit opening stop cycles = (final : Machine) × Flies text 0 limit opening stop cycles final

-- ---- texts

-- `B L`, a NOP, `MVK`, and `L:` at the end
abbrev pub over_mvk : ℕ → Text
over_mvk more = text_of (packet (branch 1 0 ∷ []) ∷ nop more ∷ packet (three_a1 3 ∷ []) ∷ []) (3 ∷ [])

-- `[A1] B L`, NOP 9, and `L:` at the end
abbrev pub if_over : Text
if_over = text_of (packet (if_branch 1 0 ∷ []) ∷ nop 8 ∷ []) (2 ∷ [])

-- MPYU that writes A2 a cycle later, `[A1] MVK` that writes it in that cycle
abbrev pub maybe_clash : Text
maybe_clash = text_of (packet (square 1 ∷ []) ∷ packet (if_five_a2 2 ∷ []) ∷ []) []

-- `[!A1] B M` with `[A1] B L`, NOP 9, `L: MVK`, and `M:` at the end
abbrev pub one_or_other : Text
one_or_other = text_of (packet (if_not_branch 1 0 ∷ if_branch 2 1 ∷ []) ∷ nop 8 ∷ packet (five_a2 4 ∷ []) ∷ []) (3 ∷ 2 ∷ [])

-- `B L1`, `B L2`, NOP 4, `L1: MVK`, `MVK`, `L2: MVK`
abbrev pub in_the_slots : Text
in_the_slots = text_of (packet (branch 1 0 ∷ []) ∷ packet (branch 2 1 ∷ []) ∷ nop 3 ∷ packet (three_a1 4 ∷ []) ∷ packet (three_a1 5 ∷ []) ∷ packet (five_a2 6 ∷ []) ∷ []) (3 ∷ 5 ∷ [])

-- `L: B L` six times, a label on the last alone: from cycle 6 on a loop of one cycle, with six branches in flight
abbrev pub six_in_flight : Text
six_in_flight = text_of (packet (branch 1 0 ∷ []) ∷ packet (branch 2 0 ∷ []) ∷ packet (branch 3 0 ∷ []) ∷ packet (branch 4 0 ∷ []) ∷ packet (branch 5 0 ∷ []) ∷ packet (branch 6 0 ∷ []) ∷ []) (5 ∷ [])

-- `B END`, `B L`, NOP 9, `L: MVK`, and `END:` behind it
abbrev pub end_and_back : Text
end_and_back = text_of (packet (branch 1 0 ∷ []) ∷ packet (branch 2 1 ∷ []) ∷ nop 8 ∷ packet (three_a1 4 ∷ []) ∷ []) (4 ∷ 3 ∷ [])

-- `[A1] B L` with `[A1] SUB A1,A4,A1` five times, and `L:` a packet with ADD beside both: a loop of one cycle
abbrev pub one_cycle_loop : Text
one_cycle_loop = text_of (packet (if_less 1 ∷ if_branch 2 0 ∷ []) ∷ packet (if_less 3 ∷ if_branch 4 0 ∷ []) ∷ packet (if_less 5 ∷ if_branch 6 0 ∷ []) ∷ packet (if_less 7 ∷ if_branch 8 0 ∷ []) ∷ packet (if_less 9 ∷ if_branch 10 0 ∷ []) ∷ packet (add 11 ∷ if_less 12 ∷ if_branch 13 0 ∷ []) ∷ []) (5 ∷ [])

-- A1 is 7, A2 is 0, A3 and A4 are 1
abbrev pub counting : ℕ → List ℕ → List ℕ → List ℕ → Machine
counting a0 others memory faults = record { base = 0; registers = a0 ∷ 7 ∷ 0 ∷ 1 ∷ 1 ∷ others; memory = memory; faults = faults }

-- `B .S2 B3`, NOP 9 and MVK, which is row 2
abbrev pub go_on : Text
go_on = text_of (packet (leave 1 ∷ []) ∷ nop 8 ∷ packet (five_a2 3 ∷ []) ∷ []) []

-- `B L`, NOP 9, `L: MVK`, and its blocks with the lines of the text
abbrev pub two_rows : Text
two_rows = text_of (packet (branch 1 1 ∷ []) ∷ nop 8 ∷ packet (three_a1 3 ∷ []) ∷ []) (0 ∷ 2 ∷ [])

abbrev pub two_blocks : List Packed
two_blocks = packed_of None 6 (branch 1 1 ∷ []) ∷ packed_of (Some (codes "L")) 1 (three_a1 3 ∷ []) ∷ []

-- a machine in which A1 holds this word
abbrev pub with_a1 : ℕ → ℕ → List ℕ → List ℕ → List ℕ → Machine
with_a1 word a0 others memory faults = record { base = 0; registers = a0 ∷ word ∷ others; memory = memory; faults = faults }

-- so it runs from each sound machine with that word in A1
abbrev pub RunsWithA1 : ℕ → Text → Stop → ℕ → Type 0
RunsWithA1 word text stop cycles = (a0 : ℕ) (others memory faults : List ℕ) → IsSound (with_a1 word a0 others memory faults)
    → Runs text 100 (with_a1 word a0 others memory faults) stop cycles

-- how they end
pub record SamplesFly (opening : Machine) : Type 0 where
  pub empty : Runs (text_of [] []) 0 opening End 0
  pub one_packet : Runs (text_of (packet (three_a1 1 ∷ []) ∷ []) []) 9 opening End 1
  pub no_cycle : Runs (text_of (packet (three_a1 1 ∷ []) ∷ []) []) 0 opening Limit 0
  pub last_cycle : Runs (text_of (nop 8 ∷ []) []) 1 opening End 9
  pub five_slots : Runs (over_mvk 4) 100 opening End 6
  pub nop_ended : Runs (over_mvk 8) 100 opening End 6
  pub last_slot : Runs (over_mvk 3) 100 opening End 6
  pub last_line : Runs (text_of (packet (branch 1 0 ∷ []) ∷ []) (0 ∷ [])) 7 opening Limit 7
  pub two_labels : Runs in_the_slots 100 opening End 8
  pub end_and_back : Runs end_and_back 100 opening End 8
  pub in_flight : Runs six_in_flight 9 opening Limit 9
  pub register : IsFalse (is_address (text_of (packet (leave 1 ∷ []) ∷ nop 8 ∷ []) []) (word_in opening b3))
      → Runs (text_of (packet (leave 1 ∷ []) ∷ nop 8 ∷ []) []) 100 opening (Register (word_in opening b3)) 6
  pub third_row : word_in opening b3 ≡ 2147483712 → Runs go_on 100 opening End 7
  pub row_behind : word_in opening b3 ≡ 2147483744 → Runs go_on 100 opening End 6
  pub no_row : word_in opening b3 ≡ 2147483776 → Runs go_on 100 opening (Register 2147483776) 6
  pub within_row : word_in opening b3 ≡ 2147483716 → Runs go_on 100 opening (Register 2147483716) 6
  pub small_word : word_in opening b3 ≡ 64 → Runs go_on 100 opening (Register 64) 6
  pub clash : Runs (text_of (packet (square 1 ∷ []) ∷ packet (five_a2 2 ∷ []) ∷ nop 8 ∷ []) []) 100 opening (Clash a2 1 2) 2
  pub clash_behind : Runs (text_of (packet (square 1 ∷ square 2 ∷ []) ∷ []) []) 100 opening (Clash a2 1 2) 1
  pub branches : Runs (text_of (packet (branch 1 0 ∷ branch 2 0 ∷ []) ∷ []) (0 ∷ [])) 100 opening (Branches 1 2) 1
  pub branches_first : Runs (text_of (packet (branch 1 0 ∷ branch 2 0 ∷ five_a2 3 ∷ five_a2 4 ∷ []) ∷ []) (0 ∷ [])) 100 opening (Branches 1 2) 1

-- the text runs so from each sound machine with that word in A1, and then this holds of A2
abbrev pub LeavesInA2 : ℕ → Text → ℕ → (List ℕ → ℕ) → Type 0
LeavesInA2 word text cycles value = (a0 : ℕ) (others memory faults : List ℕ) → IsSound (with_a1 word a0 others memory faults)
    → (final : Machine) × Flies text 0 100 (with_a1 word a0 others memory faults) End cycles final × (word_in final a2 ≡ value memory)

-- from A1 7 on the loop goes round eight times
abbrev pub LoopFlies : Type 0
LoopFlies = (a0 : ℕ) (others memory faults : List ℕ) → IsSound (counting a0 others memory faults)
    → (final : Machine) × Flies one_cycle_loop 0 100 (counting a0 others memory faults) End 13 final × (word_in final a1 ≡ 0) × (word_in final a2 ≡ 8)

-- where it hangs on A1
pub record SamplesHang : Type 0 where
  pub nop_whole : RunsWithA1 0 if_over End 10
  pub nop_cut : RunsWithA1 1 if_over End 6
  pub no_clash : RunsWithA1 0 maybe_clash End 2
  pub clash : RunsWithA1 1 maybe_clash (Clash a2 1 2) 2
  pub other : RunsWithA1 0 one_or_other End 6
  pub one : RunsWithA1 1 one_or_other End 7
  pub product_lands : LeavesInA2 3 (text_of (packet (square 1 ∷ []) ∷ []) []) 1 (λ memory. 9)
  pub load_lands : LeavesInA2 8 (text_of (packet (load 1 ∷ []) ∷ []) []) 1 (λ memory. number_of (bytes_from (slice_index memory) 8 4) % 2 ^ 32)
