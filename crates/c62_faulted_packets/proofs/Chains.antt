-- The faults of a chain of packet blocks, a block more.
use Rattle.std.proofs.Common.{◌≡◌, ◌∙◌, ℕ, ◌+◌, ◌<◌, ◌≤◌, List, [], ◌∷◌, ◌++◌, length, length-append, get_or, refl}
use Rattle.std.proofs.Common.{sym, ap}
use Rattle.std.proofs.Common.{subst, ⊎_elim, append_assoc, arith}
use Rattle.std.proofs.lemmas.Bool.{cases_lt}
use Rattle.std.proofs.lemmas.List.{append-nil, get_or_read}
use Rattle.std.proofs.lemmas.List.Sums.{fold-append}
use Rattle.c62_serial.specs.declared.serial.Exit.{Exit}
use Rattle.c62_serial.specs.declared.chain.End.TheVariants.{End as FellThrough, Register as ToRegister}
use Rattle.c62_serial.specs.State.{Machine}
use Rattle.c62_serial.specs.Serial.{Ran}
use Rattle.c62_serial.specs.Chain.{At, Ended, IsStopped, Leads, Position, position_after, position_at}
use Rattle.c62_serial.proofs.ChainLemmas.{at_block, leads_nowhere, leads_on, past_end}
use Rattle.c62_packet.specs.Packed.{Packed}
use Rattle.c62_pipe.specs.Chain.{Does, block_of, no_block, packet_blocks}
use Rattle.c62_faulted.specs.declared.fault.Fault.{Fault}
use Rattle.c62_faulted.specs.Faulted.{with_fault, with_faults}
use Rattle.c62_faulted_packets.specs.Done.{faults_done}
use Rattle.c62_faulted_packets.specs.Chain.{FaultOn, FindsPacketFaults, RunsNoted}

-- the faults of a block more
pub come_more : (packets : List Packed) (machine final : Machine) (numbers : List ℕ) (faults : List Fault) (number : ℕ)
    (ran : Ran)
    → FaultOn packets machine numbers final faults
    → (does : Does (block_of packets number) final ran.machine ran.exit)
    → FaultOn packets machine (numbers ++ number ∷ []) ran.machine
    (faults ++ faults_done does.did (block_of packets number).placed)
come_more packets machine final [] faults number ran come does =
    let P : Machine → List Fault → Type 0 = λ m before. FaultOn packets m (number ∷ []) ran.machine
    (before ++ faults_done does.did (block_of packets number).placed) in
    let here : FaultOn packets final (number ∷ []) ran.machine (faults_done does.did (block_of packets number).placed) =
    (ran, does, [], (refl, refl), sym (append-nil (faults_done does.did (block_of packets number).placed))) in
    subst (λ m. P m faults) come.0 (subst (λ before. P final before) (sym come.1) here)
come_more packets machine final (first ∷ numbers) faults number ran come does =
    let mine : List Fault = faults_done come.1.did (block_of packets first).placed in
    let last : List Fault = faults_done does.did (block_of packets number).placed in (
      come.0,
      come.1,
      come.2 ++ last,
      come_more packets come.0.machine final numbers come.2 number ran come.3 does,
      ap (λ fs. fs ++ last) come.4 ∙ append_assoc mine come.2 last,
    )

-- so far a run stands there, and these faults were noted
pub record IsNoted (packets : List Packed) (opening machine : Machine) (position : Position) (blocks limit : ℕ)
    (told : List Fault) : Type 0 where
  pub numbers : List ℕ
  pub stands : Leads (length packets) (packet_blocks packets) opening (position_at (length packets) 0) numbers machine
      position
  pub counted : length numbers ≡ blocks
  pub within : blocks ≤ limit
  pub faults : List Fault
  pub come : FaultOn packets opening numbers machine faults
  pub first : told ≡ with_faults [] faults

pub noted_first : (packets : List Packed) (machine : Machine) (limit : ℕ) (told : List Fault) → told ≡ []
    → IsNoted packets machine machine (position_at (length packets) 0) 0 limit told
noted_first packets machine limit told none = record {
  numbers = [];
  stands = leads_nowhere (length packets) (packet_blocks packets) machine (position_at (length packets) 0);
  counted = refl;
  within = omega arith;
  faults = [];
  come = (refl, refl);
  first = none;
}

pub noted_block : (packets all : List Packed) (opening machine next : Machine) (number blocks limit : ℕ)
    (block : Packed) (exit : Exit) (told more : List Fault)
    → all ≡ packets → number < length all → block ≡ get_or all number block
    → IsNoted packets opening machine (position_at (length packets) number) blocks limit told
    → blocks < limit → RunsNoted block machine next exit told more
    → IsNoted packets opening next (position_after (length packets) number exit) (blocks + 1) limit more
noted_block packets all opening machine next number blocks limit block exit told more e h found noted below ran =
    let inside : number < length packets = rw (← e) h in
    let same : block ≡ block_of packets number = rw (← e) (get_or_read all number block h found no_block) in
    let here = subst (λ (position : Position). Leads (length packets) (packet_blocks packets) opening
    (position_at (length packets) 0) noted.numbers machine position) (at_block (length packets) number inside)
    noted.stands in
    let runs : RunsNoted (block_of packets number) machine next exit told more =
    subst (λ (b : Packed). RunsNoted b machine next exit told more) same ran in
    let left : Ran = record { machine = next; exit = exit } in
    let faults : List Fault = faults_done runs.does.did (block_of packets number).placed in
    record {
      numbers = noted.numbers ++ number ∷ [];
      stands = leads_on (length packets) (packet_blocks packets) opening machine (position_at (length packets) 0)
          noted.numbers number left here runs.does;
      counted = omega (arith, length-append noted.numbers (number ∷ []), noted.counted);
      within = omega (arith, below);
      faults = noted.faults ++ faults;
      come = come_more packets opening machine noted.numbers noted.faults number left noted.come runs.does;
      first = runs.noted ∙ ap (λ before. with_faults before faults) noted.first
          ∙ sym (fold-append with_fault [] noted.faults faults);
    }

noted_all : (packets : List Packed) (opening machine : Machine) (position : Position) (blocks limit : ℕ)
    (told : List Fault)
    → (noted : IsNoted packets opening machine position blocks limit told)
    → IsStopped limit (length noted.numbers) position → FindsPacketFaults packets opening limit told
noted_all packets opening machine position blocks limit told noted stopped = record {
  standing = record { numbers = noted.numbers; machine = machine; position = position };
  whole = record { stands = noted.stands; stopped = stopped };
  faults = noted.faults;
  come = noted.come;
  first = noted.first;
}

-- the run ended by a branch to the value of a register
pub noted_left : (packets : List Packed) (opening machine : Machine) (word blocks limit : ℕ) (told : List Fault)
    → IsNoted packets opening machine (Ended (ToRegister word)) blocks limit told
    → FindsPacketFaults packets opening limit told
noted_left packets opening machine word blocks limit told noted =
    noted_all packets opening machine (Ended (ToRegister word)) blocks limit told noted
    (omega (arith, noted.counted, noted.within))

-- no block follows, or none may
pub noted_over : (packets all : List Packed) (opening machine : Machine) (number blocks limit : ℕ) (told : List Fault)
    → all ≡ packets
    → IsNoted packets opening machine (position_at (length packets) number) blocks limit told
    → (number < length all → limit ≤ blocks)
    → FindsPacketFaults packets opening limit told
noted_over packets all opening machine number blocks limit told e noted over =
    ⊎_elim {C = FindsPacketFaults packets opening limit told}
    (λ inside. let same : blocks ≡ limit = let late : limit ≤ blocks = over (rw e inside) in omega (arith, noted.within)
    in
    noted_all packets opening machine (At number) blocks limit told
    (moved (At number) (at_block (length packets) number inside)) (noted.counted ∙ same))
    (λ past. noted_all packets opening machine (Ended FellThrough) blocks limit told
    (moved (Ended FellThrough) (past_end (length packets) number past))
    (omega (arith, noted.counted, noted.within)))
    (cases_lt number (length packets))
  where
    moved : (position : Position) → position_at (length packets) number ≡ position
        → IsNoted packets opening machine position blocks limit told
    moved position same = record {
      numbers = noted.numbers;
      stands = subst (λ (p : Position). Leads (length packets) (packet_blocks packets) opening
          (position_at (length packets) 0) noted.numbers machine p) same noted.stands;
      counted = noted.counted;
      within = noted.within;
      faults = noted.faults;
      come = noted.come;
      first = noted.first;
    }
