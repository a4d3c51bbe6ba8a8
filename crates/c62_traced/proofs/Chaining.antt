-- The events of a chain of packet blocks, a block more.
use Rattle.std.proofs.Common.{◌≡◌, ◌∙◌, ℕ, ◌+◌, ◌*◌, ◌<◌, ◌≤◌, List, [], ◌∷◌, ◌++◌, length, length-append, get_or}
use Rattle.std.proofs.Common.{refl, sym, ap, subst, append_assoc, arith}
use Rattle.std.specs.Prelude.{sum_by}
use Rattle.std.proofs.lemmas.List.{append-nil, get_or_read}
use Rattle.std.proofs.lemmas.List.Sums.{sum_by-append, sum_by-cons}
use Rattle.c62_serial.specs.declared.serial.Exit.{Exit}
use Rattle.c62_serial.specs.declared.chain.Chain.{Chain}
use Rattle.c62_serial.specs.declared.chain.End.TheVariants.{End as FellThrough, Limit, Register as ToRegister}
use Rattle.c62_serial.specs.State.{Machine}
use Rattle.c62_serial.specs.Serial.{Ran}
use Rattle.c62_serial.specs.Chain.{At, Ended, IsStopped, Leads, Position, chain_of, position_after, position_at}
use Rattle.c62_serial.proofs.ChainLemmas.{at_block, leads_nowhere, leads_on, past_end}
use Rattle.c62_packet.specs.declared.limits.TheConstants.{MOST_CYCLES}
use Rattle.c62_packet.specs.Packed.{Packed}
use Rattle.c62_pipe.specs.Chain.{Does, block_of, cycles_taken, no_block, packet_blocks}
use Rattle.c62_trace.specs.Event.{Entry}
use Rattle.c62_traced.specs.Trace.{behind, log_of}
use Rattle.c62_traced.specs.Chain.{IsBlockLog, LeadOn, IsChainLog}

-- the events of a block of this number, where it begins in a cycle
abbrev log_at : (packets : List Packed) (machine : Machine) (start number : ℕ) (ran : Ran)
    → Does (block_of packets number) machine ran.machine ran.exit → List Entry
log_at packets machine start number ran does =
    log_of (behind start) (block_of packets number).placed machine does.did
    (block_of packets number).cycles

taken_more : (packets : List Packed) (numbers : List ℕ) (number : ℕ)
    → cycles_taken packets (numbers ++ number ∷ []) ≡ cycles_taken packets numbers + (block_of packets number).cycles
taken_more packets numbers number =
    sum_by-append (λ n. (block_of packets n).cycles) numbers (number ∷ [])
    ∙ (let z : sum_by (λ n. (block_of packets n).cycles) (number ∷ []) ≡ (block_of packets number).cycles = omega
    arith in
    ap (λ n. cycles_taken packets numbers + n) z)

-- those of a block more
lead_more : (packets : List Packed) (machine final : Machine) (start : ℕ) (numbers : List ℕ)
    (log : List Entry) (number : ℕ) (ran : Ran)
    → LeadOn packets machine start numbers final log
    → (does : Does (block_of packets number) final ran.machine ran.exit)
    → LeadOn packets machine start (numbers ++ number ∷ []) ran.machine
    (log ++ log_at packets final (start + cycles_taken packets numbers) number ran does)
lead_more packets machine final start [] log number ran tells does =
    let none : start ≡ start + 0 = omega arith in
    let P : Machine → List Entry → Type 0 = λ m before. (does : Does (block_of packets number) m ran.machine ran.exit)
    → LeadOn packets machine start (number ∷ []) ran.machine
    (before ++ log_at packets m (start + cycles_taken packets []) number ran does) in
    let here : P machine [] = (λ does. (
      ran,
      does,
      [],
      (refl, refl),
      ap (λ n. log_at packets machine n number ran does) (sym none)
          ∙ sym (append-nil (log_at packets machine start number ran does)),
    )) in
    subst (λ m. P m log) (sym tells.0) (subst (λ before. P machine before) (sym tells.1) here) does
lead_more packets machine final start (first ∷ numbers) log number ran tells does =
    let mine : List Entry = log_at packets machine start first tells.0 tells.1 in
    let later : start + (block_of packets first).cycles + cycles_taken packets numbers
    ≡ start + cycles_taken packets (first ∷ numbers) =
    omega (arith, sum_by-cons (λ n. (block_of packets n).cycles) first numbers) in (
      tells.0,
      tells.1,
      tells.2 ++ log_at packets final (start + (block_of packets first).cycles + cycles_taken packets numbers)
          number ran does,
      lead_more packets tells.0.machine final (start + (block_of packets first).cycles) numbers tells.2 number ran
          tells.3 does,
      ap (λ told. told ++ log_at packets final (start + cycles_taken packets (first ∷ numbers)) number ran does)
          tells.4
          ∙ append_assoc mine tells.2 (log_at packets final (start + cycles_taken packets (first ∷ numbers)) number
          ran does)
          ∙ ap (λ n. mine ++ (tells.2 ++ log_at packets final n number ran does)) (sym later),
    )

-- so far a run stands there, and the events of its blocks were told
pub record IsToldTo {T : Type 0} (tells : T → T → List Entry → Type 0) (packets : List Packed)
    (opening machine : Machine) (position : Position) (blocks cycles limit : ℕ) (old new : T) : Type 0 where
  pub numbers : List ℕ
  pub stands : Leads (length packets) (packet_blocks packets) opening (position_at (length packets) 0) numbers machine
      position
  pub counted : length numbers ≡ blocks
  pub within : blocks ≤ limit
  pub taken : cycles ≡ cycles_taken packets numbers
  pub few : cycles ≤ MOST_CYCLES * blocks
  pub log : List Entry
  pub leads : LeadOn packets opening 0 numbers machine log
  pub told : tells old new log

-- Some events were told, which are those of such a block.
pub record IsToldBlock {T : Type 0} (tells : T → T → List Entry → Type 0) (block : Packed) (start : ℕ)
    (opening final : Machine) (exit : Exit) (old new : T) : Type 0 where
  pub log : List Entry
  pub is : IsBlockLog block start opening final exit log
  pub told : tells old new log

-- Some were told, which are those of such a chain.
pub record IsToldChain {T : Type 0} (tells : T → T → List Entry → Type 0) (packets : List Packed)
    (opening : Machine) (limit : ℕ) (chain : Chain) (cycles : ℕ) (final : Machine) (old new : T) : Type 0 where
  pub log : List Entry
  pub is : IsChainLog packets opening limit chain cycles final log
  pub told : tells old new log

module _ {T : Type 0} (tells : T → T → List Entry → Type 0) (packets : List Packed) (opening : Machine) where
  pub told_first : (limit : ℕ) (watch : T) → tells watch watch []
      → IsToldTo tells packets opening opening (position_at (length packets) 0) 0 0 limit watch watch
  told_first limit watch nothing = record {
    numbers = [];
    stands = leads_nowhere (length packets) (packet_blocks packets) opening (position_at (length packets) 0);
    counted = refl;
    within = omega arith;
    taken = refl;
    few = omega arith;
    log = [];
    leads = (refl, refl);
    told = nothing;
  }

  pub told_block : (more : (old middle new : T) (told others : List Entry) → tells old middle told
      → tells middle new others → tells old new (told ++ others))
      (all : List Packed) (machine next : Machine)
      (number blocks cycles limit taken : ℕ) (block : Packed) (exit : Exit) (old middle new : T)
      → all ≡ packets → number < length all → block ≡ get_or all number block
      → IsToldTo tells packets opening machine (position_at (length packets) number) blocks cycles limit old middle
      → blocks < limit → IsToldBlock tells block cycles machine next exit middle new → taken ≡ block.cycles
      → taken ≤ MOST_CYCLES
      → IsToldTo tells packets opening next (position_after (length packets) number exit) (blocks + 1) (cycles + taken)
      limit old new
  told_block more all machine next number blocks cycles limit taken block exit old middle new e h found so_far below ran
      t small =
      let inside : number < length packets = rw (← e) h in
      let same : block ≡ block_of packets number = rw (← e) (get_or_read all number block h found no_block) in
      let here = subst (λ (position : Position). Leads (length packets) (packet_blocks packets) opening
      (position_at (length packets) 0) so_far.numbers machine position) (at_block (length packets) number inside)
      so_far.stands in
      let runs : IsBlockLog (block_of packets number) cycles machine next exit ran.log =
      subst (λ (b : Packed). IsBlockLog b cycles machine next exit ran.log) same ran.is in
      let left : Ran = record { machine = next; exit = exit } in
      let one : taken ≡ (block_of packets number).cycles = t ∙ ap (λ (b : Packed). b.cycles) same in
      let more_taken : cycles_taken packets (so_far.numbers ++ number ∷ []) ≡ cycles_taken packets so_far.numbers
      + (block_of packets number).cycles = taken_more packets so_far.numbers number in
      let past : cycles ≡ cycles_taken packets so_far.numbers = so_far.taken in
      let start : 0 + cycles_taken packets so_far.numbers ≡ cycles = omega arith in
      let few : cycles ≤ MOST_CYCLES * blocks = so_far.few in
      record {
        numbers = so_far.numbers ++ number ∷ [];
        stands = leads_on (length packets) (packet_blocks packets) opening machine (position_at (length packets) 0)
            so_far.numbers number left here runs.does;
        counted = omega (arith, length-append so_far.numbers (number ∷ []), so_far.counted);
        within = omega (arith, below);
        taken = omega arith;
        few = omega arith;
        log = so_far.log ++ ran.log;
        leads = subst (λ told. LeadOn packets opening 0 (so_far.numbers ++ number ∷ []) next (so_far.log ++ told))
            (sym runs.is)
            (subst (λ n. LeadOn packets opening 0 (so_far.numbers ++ number ∷ []) next
            (so_far.log ++ log_at packets machine n number left runs.does)) start
            (lead_more packets opening machine 0 so_far.numbers so_far.log number left so_far.leads runs.does));
        told = more old middle new so_far.log ran.log so_far.told ran.told;
      }

  told_all : (machine : Machine) (position : Position) (blocks cycles limit : ℕ) (chain : Chain) (old new : T)
      → (so_far : IsToldTo tells packets opening machine position blocks cycles limit old new)
      → IsStopped limit (length so_far.numbers) position
      → chain ≡ chain_of (record { numbers = so_far.numbers; machine = machine; position = position })
      → IsToldChain tells packets opening limit chain cycles machine old new
  told_all machine position blocks cycles limit chain old new so_far stopped told = record {
    log = so_far.log;
    is = record {
      runs = record {
        standing = record { numbers = so_far.numbers; machine = machine; position = position };
        whole = record { stands = so_far.stands; stopped = stopped };
        told = told;
        taken = so_far.taken;
        left = refl;
      };
      leads = so_far.leads;
    };
    told = so_far.told;
  }

  -- the run ended by a branch to the value of a register
  pub told_left : (machine : Machine) (word blocks cycles limit : ℕ) (old new : T)
      → IsToldTo tells packets opening machine (Ended (ToRegister word)) blocks cycles limit old new
      → IsToldChain tells packets opening limit (record { blocks = blocks; stop = ToRegister word }) cycles machine
      old new
  told_left machine word blocks cycles limit old new so_far =
      told_all machine (Ended (ToRegister word)) blocks cycles limit
      (record { blocks = blocks; stop = ToRegister word }) old new so_far
      (omega (arith, so_far.counted, so_far.within)) (rw so_far.counted refl)

  -- no block follows
  pub told_past : (all : List Packed) (machine : Machine) (number blocks cycles limit : ℕ) (old new : T)
      → all ≡ packets → length all ≤ number
      → IsToldTo tells packets opening machine (position_at (length packets) number) blocks cycles limit old new
      → IsToldChain tells packets opening limit (record { blocks = blocks; stop = FellThrough }) cycles machine old new
  told_past all machine number blocks cycles limit old new e past so_far =
      let beyond : length packets ≤ number = rw (← e) past in
      let ended : IsToldTo tells packets opening machine (Ended FellThrough) blocks cycles limit old new =
      subst (λ (p : Position). IsToldTo tells packets opening machine p blocks cycles limit old new)
      (past_end (length packets) number beyond) so_far in
      told_all machine (Ended FellThrough) blocks cycles limit
      (record { blocks = blocks; stop = FellThrough }) old new ended
      (omega (arith, ended.counted, ended.within)) (rw ended.counted refl)

  -- or none may
  pub told_limit : (all : List Packed) (machine : Machine) (number cycles limit : ℕ) (old new : T)
      → all ≡ packets → number < length all
      → IsToldTo tells packets opening machine (position_at (length packets) number) limit cycles limit old new
      → IsToldChain tells packets opening limit (record { blocks = limit; stop = Limit }) cycles machine old new
  told_limit all machine number cycles limit old new e h so_far =
      let inside : number < length packets = rw (← e) h in
      let there : IsToldTo tells packets opening machine (At number) limit cycles limit old new =
      subst (λ (p : Position). IsToldTo tells packets opening machine p limit cycles limit old new)
      (at_block (length packets) number inside) so_far in
      told_all machine (At number) limit cycles limit
      (record { blocks = limit; stop = Limit }) old new there there.counted (rw there.counted refl)

  -- what was told
  pub chain_told : (limit : ℕ) (chain : Chain) (cycles : ℕ) (final : Machine) (old new : T)
      → IsToldChain tells packets opening limit chain cycles final old new
      → (log : List Entry) × IsChainLog packets opening limit chain cycles final log × tells old new log
  chain_told limit chain cycles final old new told = (told.log, told.is, told.told)
