-- What rows of packets issue that are begun one behind the other (docs/CHECK.md, "Other blocks").
use Rattle.std.specs.Prelude.{◌≡◌, ℕ, ◌+◌, ◌-◌, ◌≤◌, nat_le, Bool, true, List, length, None, Result, if◌then◌else◌}
use Rattle.std.specs.List.{list_all}
use Rattle.c62_packet.specs.declared.placed.Placed.{Placed}
use Rattle.c62_packet.specs.declared.limits.TheConstants.{MOST_CYCLES}
use Rattle.c62_packet.specs.declared.fault.BlockFault.{BlockFault}
use Rattle.c62_packet.specs.Packed.{Packed, packed_of, issue_of, is_branching, IsInListingOrder, StandAsWritten}
use Rattle.c62_packet.specs.Fault.{IsPackedOrFaulty}
use Rattle.c62_read.specs.declared.limits.TheConstants.{MOST_INSTRUCTIONS}
use Rattle.c62_rules.specs.Length.{landing_end}
use Rattle.c62_flight.specs.Text.{Text, row_of}
use Rattle.c62_flight.specs.Issued.{issued_on}
use Rattle.c62_flight.specs.Laid.{straight, straight_end}
use Rattle.c62_check_rest.specs.declared.laid.Laid.{Laid}

-- so many rows from one on
abbrev pub issued_by : Text → (first count : ℕ) → List Placed
issued_by text first count = issued_on text (straight text first 0 count)

-- the cycle in which they are over
abbrev pub end_of : Text → (first count : ℕ) → ℕ
end_of text first count = straight_end text first 0 count

-- the text has them, they issue this, and are over then
pub record IsLaidOut (text : Text) (first count : ℕ) (laid : Laid) : Type 0 where
  pub within : first + count ≤ length text.rows
  pub issued : laid.issued.items ≡ issued_by text first count
  pub end : laid.end ≡ end_of text first count

-- the cycle after its last landing, and of a branch that in which it takes effect
abbrev pub over_in : Placed → ℕ
over_in p = if is_branching p then p.cycle + 6 else landing_end (issue_of p)

-- all that it writes has landed by a cycle, and a branch has taken effect
abbrev pub is_over_by : ℕ → Placed → Bool
is_over_by end p = nat_le (over_in p) end

abbrev pub are_over_by : ℕ → List Placed → Bool
are_over_by end placed = list_all (is_over_by end) placed

-- Of rows that are over then, the last of which takes so many cycles behind its first, none begins behind the delay slots of a branch.
abbrev pub has_slots : (end idle : ℕ) → Placed → Bool
has_slots end idle p = if is_branching p then nat_le end (p.cycle + 6 + idle) else true

abbrev pub have_slots : (end idle : ℕ) → List Placed → Bool
have_slots end idle placed = list_all (has_slots end idle) placed

-- how many cycles the last of these rows takes behind its first
abbrev pub last_idle : Text → (first count : ℕ) → ℕ
last_idle text first count = (row_of text (first + count - 1)).idle

-- these may stand in a block of so many cycles
pub record MayBeBlock (cycles : ℕ) (placed : List Placed) : Type 0 where
  pub few : length placed ≤ MOST_INSTRUCTIONS
  pub short : cycles ≤ MOST_CYCLES
  pub in_order : IsInListingOrder placed
  pub as_written : StandAsWritten placed

-- with some number of cycles they are this block, or it has this fault
pub record IsMade (placed : List Placed) (made : Result Packed BlockFault) : Type 0 where
  pub cycles : ℕ
  pub is : IsPackedOrFaulty (packed_of None cycles placed) made
