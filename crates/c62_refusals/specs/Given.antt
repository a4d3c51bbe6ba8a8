-- What calls are made on.
use Rattle.std.specs.Prelude.{◌≡◌, ◌≢◌, ℕ, ◌-◌, ◌≤◌, List, [], ◌∷◌, All, length, map, take, Some, Ok, Contains, min}
use Rattle.c62_op.specs.declared.set.InstructionSet.TheVariants.{Core}
use Rattle.c62_read.specs.Block.{Serial}
use Rattle.c62_read.specs.Program.{program_in, block_parts}
use Rattle.c62_board.specs.declared.turn.Turn.{Turn}
use Rattle.c62_board.specs.declared.turn.Turn.TheVariants.{Memory}
use Rattle.c62_board.specs.State.{BoardState, Has}
use Rattle.c62_work.specs.Turns.{TakesTurns}
use Rattle.c62_packet.specs.Packed.{Packed}
use Rattle.c62_pack.specs.Packets.{ArePackets}
use Rattle.c62_refusals.specs.declared.given.TheConstants.{BUDGET, BEGUN}

-- the text says this program
abbrev pub SaysProgram : List ℕ → List Serial → Type 0
SaysProgram text program = program_in Core text ≡ Ok (map block_parts program)

-- a block of the program, and none is longer
pub record IsLongest (program : List Serial) (block : Serial) : Type 0 where
  pub among : Contains program block
  pub longest : All (λ other. length other.insns ≤ length block.insns) program

-- a longest block of the text
pub record IsLongestIn (text : List ℕ) (block : Serial) : Type 0 where
  pub program : List Serial
  pub says : SaysProgram text program
  pub longest : IsLongest program block

-- an empty board of a longest block of the text
pub record IsEmptyBoard (text : List ℕ) (board : BoardState) : Type 0 where
  pub plan : Serial
  pub of_text : IsLongestIn text plan
  pub empty : Has plan [] BUDGET board

-- both sides took all their turns
pub record IsTurned (empty board : BoardState) : Type 0 where
  pub last : Turn
  pub enough : last ≢ Memory
  pub turns : TakesTurns empty last board

-- a board of a longest block, after all turns
pub record IsWholeBoard (text : List ℕ) (board : BoardState) : Type 0 where
  pub empty : BoardState
  pub begins : IsEmptyBoard text empty
  pub turned : IsTurned empty board

-- the first entries of a whole journal, without the last
abbrev pub begun_entries : {T : Type 0} → List T → List T
begun_entries entries = take (min BEGUN (length entries - 1)) entries

-- a board of a longest block, after the first entries of its whole journal
pub record IsBegunBoard (text : List ℕ) (board : BoardState) : Type 0 where
  pub whole : BoardState
  pub turned : IsWholeBoard text whole
  pub begun : Has whole.plan (begun_entries whole.journal) BUDGET board

-- the packets of a block's board after all turns
pub record IsPackedByTurns (block : Serial) (packed : Packed) : Type 0 where
  pub empty : BoardState
  pub begins : Has block [] BUDGET empty
  pub board : BoardState
  pub turned : IsTurned empty board
  pub packets : ArePackets board.plan board.spots packed

-- block by block
abbrev pub ArePackedByTurns : List Serial → List Packed → Type 0
ArePackedByTurns [] [] = Unit {0}
ArePackedByTurns (block ∷ blocks) (packed ∷ packets) = IsPackedByTurns block packed × ArePackedByTurns blocks packets
ArePackedByTurns _ _ = ⊥

-- the packets of the text's blocks
pub record ArePacketsIn (text : List ℕ) (packets : List Packed) : Type 0 where
  pub program : List Serial
  pub says : SaysProgram text program
  pub packed : ArePackedByTurns program packets
