-- Chains of packet blocks: how they go on, and that those of a program are the program's.
use Rattle.std.proofs.Common.{◌≡◌, ℕ, ◌+◌, ◌*◌, ◌<◌, ◌≤◌, List, [], ◌∷◌, ◌++◌, length, refl, ◌∙◌, sym, ap, subst}
use Rattle.std.proofs.Common.{get_or, arith}
use Rattle.std.specs.Prelude.{sum_by}
use Rattle.std.proofs.lemmas.List.{get_or_read, length-append}
use Rattle.std.proofs.lemmas.List.Sums.{sum_by-append}
use Rattle.std.proofs.lemmas.Option.{slice_get-get_or}
use Rattle.c62_read.specs.Block.{Serial}
use Rattle.c62_serial.specs.declared.serial.Exit.{Exit}
use Rattle.c62_serial.specs.declared.chain.End.TheVariants.{End as FellThrough, Limit}
use Rattle.c62_serial.specs.declared.chain.Chain.{Chain}
use Rattle.c62_serial.specs.State.{Machine, IsSound}
use Rattle.c62_serial.specs.Serial.{Ran}
use Rattle.c62_serial.specs.Chain.{Standing, At, Position, position_at, position_after, Leads, IsStopped}
use Rattle.c62_serial.specs.Chain.{IsChain, IsDetermined, chain_of, serial_blocks, no_block as no_serial_block}
use Rattle.c62_serial.specs.Chain.{block_of as serial_block_of}
use Rattle.c62_serial.proofs.MachineLemmas.{sound_run}
use Rattle.c62_serial.proofs.ChainLemmas.{leads_nowhere, leads_on, at_block, past_end, chain_along}
use Rattle.c62_packet.specs.Packed.{Packed}
use Rattle.c62_meaning.specs.Meaning.{IsMeaning}
use Rattle.c62_meaning.proofs.SerialPackets.{are_serial, one_meaning}
use Rattle.c62_pipe.specs.Chain.{no_block, block_of, packet_blocks, cycles_taken, RunsPackets, IsBlockPacked}
use Rattle.c62_pipe.specs.Chain.{ArePacked, RunsAsProgram}
use Rattle.c62_packet.specs.declared.limits.TheConstants.{MOST_CYCLES}
use Rattle.std.proofs.lemmas.Bool.Decides.{nat_tests}

-- ---- the run of a chain

-- where a run stands after some blocks
pub record Turn (packets : List Packed) (opening machine : Machine) (number blocks cycles limit : ℕ) : Type 0 where
  pub numbers : List ℕ
  pub stands : Leads (length packets) (packet_blocks packets) opening (position_at (length packets) 0) numbers machine
      (position_at (length packets) number)
  pub counted : length numbers ≡ blocks
  pub taken : cycles ≡ cycles_taken packets numbers
  pub few : cycles ≤ MOST_CYCLES * blocks
  pub within : blocks ≤ limit

pub first_turn : (packets : List Packed) (machine : Machine) (limit : ℕ) → Turn packets machine machine 0 0 0 limit
first_turn packets machine limit = grind (arith, nat_tests, leads_nowhere)

-- the blocks so far, with one more
pub record More (packets : List Packed) (opening next : Machine) (number blocks cycles : ℕ) (exit : Exit) : Type 0 where
  pub numbers : List ℕ
  pub stands : Leads (length packets) (packet_blocks packets) opening (position_at (length packets) 0) numbers next
      (position_after (length packets) number exit)
  pub counted : length numbers ≡ blocks
  pub taken : cycles ≡ cycles_taken packets numbers
  pub few : cycles ≤ MOST_CYCLES * blocks

pub block_more : (packets all : List Packed) (opening machine next : Machine) (blocks number cycles limit taken : ℕ)
    (block : Packed) (exit : Exit)
    → all ≡ packets → number < length all → block ≡ get_or all number block
    → Turn packets opening machine number blocks cycles limit
    → IsMeaning block.placed block.cycles machine (record { machine = next; exit = exit }) → taken ≡ block.cycles
    → taken ≤ MOST_CYCLES
    → More packets opening next number (blocks + 1) (cycles + taken) exit
block_more packets all opening machine next blocks number cycles limit taken block exit e h found turn did t small =
    let inside : number < length packets = rw (← e) h in
    let same : block ≡ block_of packets number = rw (← e) (get_or_read all number block h found no_block) in
    let P : Position → Type 0 = λ position. Leads (length packets) (packet_blocks packets) opening
    (position_at (length packets) 0) turn.numbers machine position in
    let here = subst P (at_block (length packets) number inside) turn.stands in
    let Q : Packed → Type 0 = λ b. IsMeaning b.placed b.cycles machine (record { machine = next; exit = exit }) in
    let is : IsMeaning (block_of packets number).placed (block_of packets number).cycles machine
    (record { machine = next; exit = exit }) = subst Q same did in
    let more : cycles_taken packets (turn.numbers ++ number ∷ []) ≡ cycles_taken packets turn.numbers +
    (block_of packets number).cycles
    = sum_by-append (λ n. (block_of packets n).cycles) turn.numbers (number ∷ [])
    ∙ (let z : sum_by (λ n. (block_of packets n).cycles) (number ∷ []) ≡ (block_of packets number).cycles =
    omega arith in ap (λ n. cycles_taken packets turn.numbers + n) z) in
    let one : taken ≡ (block_of packets number).cycles = t ∙ ap (λ (b : Packed). b.cycles) same in
    let was : cycles ≡ cycles_taken packets turn.numbers = turn.taken in
    let few : cycles ≤ MOST_CYCLES * blocks = turn.few in
    record {
      numbers = turn.numbers ++ number ∷ [];
      stands = leads_on (length packets) (packet_blocks packets) opening machine (position_at (length packets) 0)
          turn.numbers number (record { machine = next; exit = exit }) here is;
      counted = omega (arith, length-append turn.numbers (number ∷ []), turn.counted);
      taken = omega arith;
      few = omega arith;
    }

-- a run that ended is the chain
pub packets_end : (packets : List Packed) (opening machine : Machine) (numbers : List ℕ) (position : Position)
    (limit cycles : ℕ) (chain : Chain)
    → Leads (length packets) (packet_blocks packets) opening (position_at (length packets) 0) numbers machine position
    → IsStopped limit (length numbers) position
    → chain ≡ chain_of (record { numbers = numbers; machine = machine; position = position })
    → cycles ≡ cycles_taken packets numbers
    → RunsPackets packets opening limit chain cycles machine
packets_end packets opening machine numbers position limit cycles chain leads stopped told taken = record {
  standing = record { numbers = numbers; machine = machine; position = position };
  whole = record { stands = leads; stopped = stopped };
  told = told;
  taken = taken;
  left = refl;
}

-- a run that stands past the last block has ended
pub packets_fall_through : (packets all : List Packed) (opening machine : Machine) (number blocks cycles limit : ℕ)
    → all ≡ packets → length all ≤ number
    → Turn packets opening machine number blocks cycles limit
    → RunsPackets packets opening limit (record { blocks = blocks; stop = FellThrough }) cycles machine
packets_fall_through packets all opening machine number blocks cycles limit e past turn = grind (
  arith,
  nat_tests,
  packets_end,
  past_end,
)

-- a run that stands at a block when the limit is reached has ended
pub packets_at_limit : (packets all : List Packed) (opening machine : Machine) (number cycles limit : ℕ) → all ≡ packets
    → number < length all
    → Turn packets opening machine number limit cycles limit
    → RunsPackets packets opening limit (record { blocks = limit; stop = Limit }) cycles machine
packets_at_limit packets all opening machine number cycles limit e h turn =
    let inside : number < length packets = rw (← e) h in
    let P : Position → Type 0 = λ position. Leads (length packets) (packet_blocks packets) opening
    (position_at (length packets) 0) turn.numbers machine position in
    packets_end packets opening machine turn.numbers (At number) limit cycles (record { blocks = limit; stop = Limit })
    (subst P (at_block (length packets) number inside) turn.stands) turn.counted (rw turn.counted refl) turn.taken

-- a block has one meaning, which leaves a sound machine
pub packets_determined : (packets : List Packed) → IsDetermined (length packets) (packet_blocks packets)
packets_determined packets = record {
  one = λ number before ran other below sound first second.
      one_meaning (block_of packets number).placed (block_of packets number).cycles before ran other first second;
  sound = λ number before ran below sound does. does.leaves.state.sound;
}

-- ---- packets of a program

packed_at : (program : List Serial) (packets : List Packed) (number : ℕ) → ArePacked program packets
    → number < length program
    → IsBlockPacked (serial_block_of program number) (block_of packets number)
packed_at program packets number h l =
    let n : length packets ≡ length program = h.count in
    h.each number (serial_block_of program number) (block_of packets number)
    (slice_get-get_or program number no_serial_block l)
    (slice_get-get_or packets number no_block (omega arith))

-- what a block's packets mean is what the block does
same_block : (program : List Serial) (packets : List Packed) (number : ℕ) (before : Machine) (ran : Ran)
    → ArePacked program packets → number < length program → IsSound before
    → (packet_blocks packets number before ran → serial_blocks program number before ran)
    × (serial_blocks program number before ran → packet_blocks packets number before ran)
same_block program packets number before ran h l sound =
    let p = packed_at program packets number h l in
    let both = are_serial (serial_block_of program number).insns (block_of packets number).placed p.branch_last p.holds
    before ran sound in
    let P : ℕ → Type 0 = λ cycles. IsMeaning (block_of packets number).placed cycles before ran in (
      (λ m. both.0 (subst P p.cycles m)),
      (λ e. subst P (sym p.cycles) (both.1 e)),
    )

pub run_alike : (program : List Serial) (packets : List Packed) (opening final : Machine) (limit : ℕ) (chain : Chain)
    → ArePacked program packets → IsSound opening
    → RunsAsProgram program packets opening limit chain final
run_alike program packets opening final limit chain h sound =
    let Packs : ℕ → Standing
    → Type 0 = λ count standing. IsChain count (packet_blocks packets) opening limit standing in
    record {
      packed = λ run. (
        cycles_taken packets run.standing.numbers,
        record {
          standing = run.standing;
          whole = subst (λ count. Packs count run.standing) (sym h.count)
              (chain_along (length program) (serial_blocks program) (packet_blocks packets) opening limit run.standing
              (λ number before ran l s does. (
                let P : Ran → Type 0 = λ left. IsSound left.machine in subst P (sym does)
                    (sound_run (serial_block_of program number).insns before s),
                (same_block program packets number before ran h l s).1 does,
              ))
              sound run.whole);
          told = run.told;
          taken = refl;
          left = run.left;
        },
      );
      serial = λ cycles run. record {
        standing = run.standing;
        whole = chain_along (length program) (packet_blocks packets) (serial_blocks program) opening limit run.standing
            (λ number before ran l s does.
            (does.leaves.state.sound, (same_block program packets number before ran h l s).0 does))
            sound (subst (λ count. Packs count run.standing) h.count run.whole);
        told = run.told;
        left = run.left;
      };
    }
