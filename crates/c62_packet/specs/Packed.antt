-- A block of execute packets (docs/LISTING.md, "Packets" and "Length of a block"; SPRU189, "Parallel Operations").
use Rattle.std.specs.Prelude.{◌≡◌, ℕ, ◌+◌, ◌*◌, ◌≤◌, Bool, List, length, map, All, count_by, Option, Some}
use Rattle.std.specs.List.Sorted.{IsNonDecreasingBy}
use Rattle.c62_op.specs.Units.{index_of}
use Rattle.c62_op.specs.Shape.{is_branch}
use Rattle.c62_insn.specs.Insn.{op_of, unit_of}
use Rattle.c62_rules.specs.PacketRules.{Issue, Issues, KeepsPacketRules}
use Rattle.c62_rules.specs.Length.{landing_end, length_of}
use Rattle.c62_read.specs.declared.limits.TheConstants.{MOST_INSTRUCTIONS}
use Rattle.c62_packet.specs.declared.limits.TheConstants.{MOST_CYCLES}
use Rattle.c62_packet.specs.declared.placed.Placed.{Placed}

-- a block's label, its cycles, and its instructions where they are placed
pub record Packed : Type 0 where
  pub label : Option (List ℕ)
  pub cycles : ℕ
  pub placed : List Placed

abbrev pub packed_of : Option (List ℕ) → ℕ → List Placed → Packed
packed_of label cycles placed = record { label = label; cycles = cycles; placed = placed }

abbrev pub issue_of : Placed → Issue
issue_of p = record { insn = p.insn; cycle = p.cycle; unit = p.unit }

abbrev pub issues_of : List Placed → List Issue
issues_of placed = map issue_of placed

-- the same as the packet rules see them
abbrev pub issued : List Placed → Issues
issued placed = map (λ p. Some (issue_of p)) placed

-- the position in a listing: by cycle, and in a cycle by unit, of which there are eight
abbrev pub listing_position : Placed → ℕ
listing_position p = 8 * p.cycle + index_of p.unit

abbrev pub IsInListingOrder : List Placed → Type 0
IsInListingOrder placed = IsNonDecreasingBy listing_position placed

-- each instruction's written unit is the one that it stands on
abbrev pub StandAsWritten : List Placed → Type 0
StandAsWritten placed = All (λ p. unit_of p.insn ≡ Some p.unit) placed

abbrev pub is_branching : Placed → Bool
is_branching p = is_branch (op_of p.insn)

-- at most one of these is a branch
abbrev pub HaveOneBranch : List Placed → Type 0
HaveOneBranch placed = count_by is_branching placed ≤ 1

-- nothing lands in this cycle or after it: what writes nothing lands in its issue cycle
abbrev pub AreDrained : ℕ → List Placed → Type 0
AreDrained cycles placed = All (λ p. landing_end (issue_of p) ≤ cycles) placed

-- what always holds of a packet block
pub record IsPacketBlock (block : Packed) : Type 0 where
  pub in_order : IsInListingOrder block.placed
  pub as_written : StandAsWritten block.placed
  pub rules : KeepsPacketRules (issued block.placed)
  pub one_branch : HaveOneBranch block.placed
  pub few : length block.placed ≤ MOST_INSTRUCTIONS
  pub own_length : block.cycles ≡ length_of (issues_of block.placed)
  pub short : block.cycles ≤ MOST_CYCLES
  pub drained : AreDrained block.cycles block.placed
