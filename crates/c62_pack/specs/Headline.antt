-- The headline of the project, of every board (README, "What is proved").
use Rattle.std.specs.Prelude.{◌≡◌, ℕ, ◌≤ℤ◌, ◌+ℤ◌, ℤ, pos}
use Rattle.c62_rules.specs.PacketRules.{KeepsPacketRules}
use Rattle.c62_rules.specs.Dependence.{Bounds}
use Rattle.c62_depend.specs.Plan.{insns_of}
use Rattle.c62_sheet.specs.declared.entry.Spot.{Spot}
use Rattle.c62_sheet.specs.Lawful.{IsAt, issues}
use Rattle.c62_sheet.specs.Least.{IsComplete}
use Rattle.c62_sheet.specs.Journal.{replayed, IsLegal}
use Rattle.c62_board.specs.State.{BoardState, IsSound, nothing_of}
use Rattle.c62_packet.specs.Packed.{Packed}
use Rattle.c62_meaning.specs.Laws.{AreSerial}
use Rattle.c62_pack.specs.Packets.{ArePackets}

-- Every packet is one that the rules allow, every dependence between placed instructions keeps its distance, and the
-- board is its journal replayed from nothing. And with its whole block placed, its packets leave what the block leaves
-- run serially, from every sound machine.
pub record HoldsHeadline (board : BoardState) : Type 0 where
  pub rules : KeepsPacketRules (issues (insns_of board.plan) board.spots)
  pub distances : (i j : ℕ) (bound : ℤ) (s t : Spot) → Bounds (insns_of board.plan) i j bound → IsAt board.spots i s → IsAt board.spots j t
      → (pos s.cycle +ℤ bound) ≤ℤ pos t.cycle
  pub legal : IsLegal (insns_of board.plan) (nothing_of board.plan) board.journal
  pub replays : replayed (nothing_of board.plan) board.journal ≡ board.spots
  pub serial : IsComplete (insns_of board.plan) board.spots → (block : Packed) → ArePackets board.plan board.spots block
      → AreSerial board.plan.insns block.placed

-- so it is of every board
abbrev pub Headline : BoardState → Type 0
Headline board = IsSound board → HoldsHeadline board
