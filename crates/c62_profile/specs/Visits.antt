-- How often each block of a chain is run, and what the chain takes (docs/REPORT.md, "The profile").
use Rattle.std.specs.Prelude.{◌≡◌, ℕ, ◌*◌, ◌<◌, ◌==◌, List, [], length, sum_by, count_by, slice_index_or}
use Rattle.std.specs.List.{range_with_len}
use Rattle.c62_read.specs.Block.{Serial}
use Rattle.c62_serial.specs.State.{Machine}
use Rattle.c62_serial.specs.declared.chain.Chain.{Chain}
use Rattle.c62_serial.specs.Chain.{Blocks, Standing, IsChain, chain_of, serial_blocks, block_of as serial_block_of}
use Rattle.c62_packet.specs.Packed.{Packed}
use Rattle.c62_pipe.specs.Chain.{packet_blocks, block_of}
use Rattle.c62_profile.specs.declared.tally.Tally.{Tally}

-- how often the block of this number is among those that were run
abbrev pub times : ℕ → List ℕ → ℕ
times number numbers = count_by (λ other. other == number) numbers

abbrev pub visits_at : List ℕ → ℕ → ℕ
visits_at visits number = slice_index_or visits number 0

-- so often each of so many blocks was run
pub record AreVisits (count : ℕ) (numbers visits : List ℕ) : Type 0 where
  pub one_each : length visits ≡ count
  pub each : (number : ℕ) → number < count → visits_at visits number ≡ times number numbers

-- The chain under a limit is this one and leaves this machine. The tally tells how often each block was run, and what all took
-- together where each run of a block takes its cost.
pub record Counts (count : ℕ) (Does : Blocks) (cost : ℕ → ℕ) (opening : Machine) (limit : ℕ) (chain : Chain) (final : Machine) (tally : Tally)
    : Type 0 where
  pub standing : Standing
  pub whole : IsChain count Does opening limit standing
  pub told : chain ≡ chain_of standing
  pub left : final ≡ standing.machine
  pub taken : tally.taken ≡ sum_by cost standing.numbers
  pub visits : AreVisits count standing.numbers tally.visits.items

-- what a block of packets takes: its cycles
abbrev pub cycles_each : List Packed → ℕ → ℕ
cycles_each packets number = (block_of packets number).cycles

-- and what a block of a program takes: its instructions
abbrev pub insns_each : List Serial → ℕ → ℕ
insns_each program number = length (serial_block_of program number).insns

abbrev pub CountsPackets : List Packed → Machine → ℕ → Chain → Machine → Tally → Type 0
CountsPackets packets opening limit chain final tally = Counts (length packets) (packet_blocks packets) (cycles_each packets) opening limit chain final tally

abbrev pub CountsProgram : List Serial → Machine → ℕ → Chain → Machine → Tally → Type 0
CountsProgram program opening limit chain final tally = Counts (length program) (serial_blocks program) (insns_each program) opening limit chain final tally

-- ---- the law

-- how often all blocks were run together
abbrev pub all_runs : ℕ → Tally → ℕ
all_runs count tally = sum_by (visits_at tally.visits.items) (range_with_len 0 count)

-- what they took together, row by row
abbrev pub all_sums : ℕ → (ℕ → ℕ) → Tally → ℕ
all_sums count cost tally = sum_by (λ number. visits_at tally.visits.items number * cost number) (range_with_len 0 count)

-- The rows add up to what the report tells: to its blocks, and to what these took.
pub record AddsUp (count : ℕ) (cost : ℕ → ℕ) (chain : Chain) (tally : Tally) : Type 0 where
  pub runs : all_runs count tally ≡ chain.blocks
  pub sums : all_sums count cost tally ≡ tally.taken
