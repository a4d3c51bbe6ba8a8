-- What is told of a block of a text that belongs to no loop (docs/CHECK.md, "Other blocks").
use Rattle.std.specs.Prelude.{◌≡◌, ℕ, ◌+◌, ◌≤◌, Bool, true, false, length, Some}
use Rattle.std.specs.List.{list_all}
use Rattle.c62_insn.specs.Insn.{operands_of}
use Rattle.c62_read.specs.Block.{Serial}
use Rattle.c62_packet.specs.declared.fault.BlockFault.{BlockFault}
use Rattle.c62_packet.specs.Packed.{Packed, IsPacketBlock}
use Rattle.c62_packet.specs.Fault.{IsFault}
use Rattle.c62_flight.specs.Text.{Text, aim_of}
use Rattle.c62_check.specs.declared.verdict.Verdict.{Verdict as Answer}
use Rattle.c62_check.specs.Verdict.{IsVerdict, is_same as is_same_block}
use Rattle.c62_check_rest.specs.declared.verdict.RestVerdict.{RestVerdict}
use Rattle.c62_check_rest.specs.declared.verdict.RestVerdict.TheVariants.{Checked, Faulty, Undrained, Unchecked}
use Rattle.c62_check_rest.specs.Starts.{Starts, start_at, goes_to}
use Rattle.c62_check_rest.specs.Rows.{issued_by, end_of, are_over_by, have_slots, last_idle}
use Rattle.c62_check_rest.specs.Named.{IsNamed}

-- The rows last as long as their packets. With a branch none begins behind its delay slots, and where the block's branch goes to a block,
-- that is entered at the row of the label of this number.
pub record Fits (starts : Starts) (text : Text) (first count label : ℕ) (block : Serial) (packed : Packed) : Type 0 where
  pub within : first + count ≤ length text.rows
  pub lasts : packed.cycles ≤ end_of text first count
  pub slots : have_slots (end_of text first count) (last_idle text first count) packed.placed ≡ true
  pub aims : list_all (λ entry. goes_to starts (aim_of text label) (operands_of entry.insn)) block.insns ≡ true

-- What the rows issue is a block of packets, and this is told of it and the block, whose branch has the number of a label of the rows.
pub record IsChecked (starts : Starts) (text : Text) (first count : ℕ) (block : Serial) (answer : Answer) : Type 0 where
  pub label : ℕ
  pub named : Serial
  pub is_named : IsNamed label block named
  pub packed : Packed
  pub holds : packed.placed ≡ issued_by text first count
  pub is_block : IsPacketBlock packed
  pub found : IsVerdict named packed answer
  pub fits : is_same_block answer ≡ true → Fits starts text first count label block packed

-- what the rows issue is no block of packets, written with some number of cycles
pub record IsFaulty (text : Text) (first count : ℕ) (fault : BlockFault) : Type 0 where
  pub cycles : ℕ
  pub faulty : IsFault cycles (issued_by text first count) fault

-- this is told of the block and its rows
abbrev pub IsToldOf : Starts → Text → (first count : ℕ) → Serial → RestVerdict → Type 0
IsToldOf starts text first count block (Checked answer) = IsChecked starts text first count block answer
IsToldOf starts text first count block (Faulty fault) = IsFaulty text first count fault
IsToldOf starts text first count block Undrained = are_over_by (end_of text first count) (issued_by text first count) ≡ false
IsToldOf starts text first count block Unchecked = Unit {0}

-- the rows of the block of this number: from that at which it is entered up to that at which the next one is
pub record IsTold (starts : Starts) (text : Text) (number : ℕ) (block : Serial) (verdict : RestVerdict) : Type 0 where
  pub first : ℕ
  pub count : ℕ
  pub begins : start_at starts number ≡ Some first
  pub ends : start_at starts (number + 1) ≡ Some (first + count)
  pub told : IsToldOf starts text first count block verdict

-- where there are no such rows nothing is told
abbrev pub IsRest : Starts → Text → ℕ → Serial → RestVerdict → Type 0
IsRest starts text number block Unchecked = Unit {0}
IsRest starts text number block verdict = IsTold starts text number block verdict

abbrev pub is_same : RestVerdict → Bool
is_same (Checked answer) = is_same_block answer
is_same verdict = false
