-- What is adopted as it stands flies as its packets run (docs/EXEC.md, "What holds").
use Rattle.std.specs.Prelude.{ℕ, false, List, length}
use Rattle.c62_read.specs.Program.{Name}
use Rattle.c62_serial.specs.State.{Machine, IsSound}
use Rattle.c62_serial.specs.Chain.{Standing, IsChain}
use Rattle.c62_packet.specs.Packed.{Packed}
use Rattle.c62_packet.specs.Alike.{AreAlike}
use Rattle.c62_listing.specs.Listing.{listing}
use Rattle.c62_listing_reader.specs.Laws.{AreShown}
use Rattle.c62_flight.specs.Text.{Text}
use Rattle.c62_flight.specs.Laid.{packet_blocks, cycles_taken, FliesAs, IsOutside}
use Rattle.c62_adopt.specs.Answer.{IsAdopted, code_in, code_read}
use Rattle.c62_adopt_back.specs.Laws.{AreParted}
use Rattle.c62_rows.specs.Text.{IsText}
use Rattle.c62_op.specs.declared.set.InstructionSet.{InstructionSet}

-- From every sound machine the text flies as the chain of these packets runs: it leaves the same registers, memory and faulted lines, and
-- takes as many cycles or more. A chain that leaves by a branch to a register does so where that holds no row's address.
abbrev pub FliesAsRun : Text → List Packed → Type 0
FliesAsRun flying packets = (opening : Machine) (limit : ℕ) (standing : Standing) → IsSound opening
    → IsChain (length packets) (packet_blocks packets) opening limit standing → IsOutside flying standing.position
    → FliesAs flying 0 opening standing.position standing.machine (cycles_taken packets standing.numbers)

-- the text is one for `exec`, too
pub record ReadsInFlight (isa : InstructionSet) (text : List ℕ) : Type 0 where
  pub flying : Text
  pub labels : List (Name × ℕ)
  pub is_text : IsText isa (code_in (code_read isa text)) flying labels

-- it is, and flies as these packets run
pub record IsReadAndFlies (isa : InstructionSet) (text : List ℕ) (packets : List Packed) : Type 0 where
  pub reads : ReadsInFlight isa text
  pub flies : (flying : Text) (labels : List (Name × ℕ)) → IsText isa (code_in (code_read isa text)) flying labels → FliesAsRun flying packets

-- so it is of what `adopt` takes as it stands
abbrev pub AdoptedFlies : InstructionSet → List ℕ → Type 0
AdoptedFlies isa text = (packets : List Packed) → IsAdopted isa false text packets 0 → IsReadAndFlies isa text packets

-- a listing is one for `exec`, and flies as what it lists runs
pub record IsListedAndFlies (isa : InstructionSet) (packets : List Packed) : Type 0 where
  pub others : List Packed
  pub alike : AreAlike packets others
  pub flies : IsReadAndFlies isa (listing packets) others

-- where each block without a label is the first, or stands behind one with a branch
abbrev pub ListingsFly : InstructionSet → List Packed → Type 0
ListingsFly isa packets = AreShown isa packets → AreParted packets → IsListedAndFlies isa packets
