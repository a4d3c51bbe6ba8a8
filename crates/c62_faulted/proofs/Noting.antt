-- Faults of a run, an instruction and a block more.
use Rattle.std.proofs.Common.{◌≡◌, ℕ, ◌+◌, ◌<◌, ◌≤◌, List, [], ◌∷◌, ◌++◌, length, length-append, get_or, Option, Some}
use Rattle.std.proofs.Common.{None, refl, sym, ◌∙◌, ap, subst, ⊎_elim, append_assoc, arith}
use Rattle.std.specs.Prelude.{fold}
use Rattle.std.specs.Option.{option_to_list}
use Rattle.std.proofs.lemmas.Bool.{cases_lt}
use Rattle.std.proofs.lemmas.List.{append-nil, get_or_read}
use Rattle.std.proofs.lemmas.List.Sums.{fold-append}
use Rattle.c62_insn.specs.declared.effect.Target.{Target}
use Rattle.c62_insn.specs.declared.effect.Target.TheVariants.{Block as ToBlock, Register as ToWord}
use Rattle.c62_read.specs.declared.block.SerialInsn.{SerialInsn}
use Rattle.c62_read.specs.Block.{Serial}
use Rattle.c62_serial.specs.declared.serial.Exit.{Exit}
use Rattle.c62_serial.specs.declared.serial.Exit.TheVariants.{Next, Block, Register}
use Rattle.c62_serial.specs.State.{Machine}
use Rattle.c62_serial.specs.Serial.{Ran, after_entry, exit_after, serial}
use Rattle.c62_serial.specs.declared.chain.End.TheVariants.{End as FellThrough, Register as ToRegister}
use Rattle.c62_serial.specs.Chain.{At, Ended, IsStopped, Leads, Position, block_of, no_block, position_at}
use Rattle.c62_serial.specs.Chain.{position_after, serial_blocks}
use Rattle.c62_serial.proofs.ChainLemmas.{at_block, leads_nowhere, leads_on, past_end}
use Rattle.c62_faulted.specs.declared.fault.Fault.{Fault}
use Rattle.c62_faulted.specs.Faulted.{FindsFaults, fault_in, faults_in, faults_on, with_fault, with_faults}

-- ---- an instruction

pub noted_more : (faults now : List Fault) (machine next : Machine) (entry : SerialInsn) (rest : List SerialInsn)
    → now ≡ with_faults faults (option_to_list (fault_in machine entry)) → next ≡ after_entry entry machine
    → with_faults now (faults_in next rest) ≡ with_faults faults (faults_in machine (entry ∷ rest))
noted_more faults now machine next entry rest is moved =
    ap (λ told. with_faults told (faults_in next rest)) is
    ∙ ap (λ m. with_faults (with_faults faults (option_to_list (fault_in machine entry))) (faults_in m rest)) moved
    ∙ sym (fold-append with_fault faults (option_to_list (fault_in machine entry))
    (faults_in (after_entry entry machine) rest))

-- ---- a block

pub chain_noted : (program : List Serial) (count : ℕ) (opening machine : Machine) (position : Position)
    (numbers : List ℕ) (number : ℕ)
    → Leads count (serial_blocks program) opening position numbers machine (At number)
    → faults_on program opening (numbers ++ number ∷ []) ≡ faults_on program opening numbers ++ faults_in machine
    (block_of program number).insns
unfolding Leads
chain_noted program count opening machine position [] number leads =
    ap (λ m. faults_in m (block_of program number).insns ++ []) (sym leads.0)
    ∙ append-nil (faults_in machine (block_of program number).insns)
chain_noted program count opening machine position (first ∷ numbers) number leads =
    let rest = chain_noted program count leads.1.machine machine (position_after count first leads.1.exit) numbers
    number leads.3 in
    let same : leads.1 ≡ serial (block_of program first).insns opening = leads.2 in
    let P : Ran → List ℕ → List Fault = λ ran ns. faults_in opening (block_of program first).insns ++ faults_on program
    ran.machine ns in
    sym (ap (λ ran. P ran (numbers ++ number ∷ [])) same)
    ∙ ap (λ fs. faults_in opening (block_of program first).insns ++ fs) rest
    ∙ sym (append_assoc (faults_in opening (block_of program first).insns) (faults_on program leads.1.machine numbers)
    (faults_in machine (block_of program number).insns))
    ∙ ap (λ ran. P ran numbers ++ faults_in machine (block_of program number).insns) same

-- so far a run stands there, and these faults were found
pub record IsNoted (program : List Serial) (opening machine : Machine) (position : Position) (blocks limit : ℕ)
    (faults : List Fault) : Type 0 where
  pub numbers : List ℕ
  pub stands : Leads (length program) (serial_blocks program) opening (position_at (length program) 0) numbers machine
      position
  pub counted : length numbers ≡ blocks
  pub within : blocks ≤ limit
  pub told : faults ≡ with_faults [] (faults_on program opening numbers)

pub noted_first : (program : List Serial) (machine : Machine) (limit : ℕ) (faults : List Fault) → faults ≡ []
    → IsNoted program machine machine (position_at (length program) 0) 0 limit faults
noted_first program machine limit faults none = record {
  numbers = [];
  stands = leads_nowhere (length program) (serial_blocks program) machine (position_at (length program) 0);
  counted = refl;
  within = omega arith;
  told = none;
}

pub noted_block : (program all : List Serial) (opening machine next : Machine) (number blocks limit : ℕ)
    (block : Serial) (exit : Exit) (faults more : List Fault)
    → all ≡ program → number < length all → block ≡ get_or all number block
    → IsNoted program opening machine (position_at (length program) number) blocks limit faults
    → blocks < limit → next ≡ (serial block.insns machine).machine → exit ≡ (serial block.insns machine).exit
    → more ≡ with_faults faults (faults_in machine block.insns)
    → IsNoted program opening next (position_after (length program) number exit) (blocks + 1) limit more
noted_block program all opening machine next number blocks limit block exit faults more e h found noted below moved left
    adds =
    let inside : number < length program = rw (← e) h in
    let same : block ≡ block_of program number = rw (← e) (get_or_read all number block h found no_block) in
    let ran : Ran = record { machine = next; exit = exit } in
    let did : ran ≡ serial (block_of program number).insns machine = rw (← same) (rw (moved, left) refl) in
    let P : Position → Type 0 = λ position. Leads (length program) (serial_blocks program) opening
    (position_at (length program) 0) noted.numbers machine position in
    let here = subst P (at_block (length program) number inside) noted.stands in
    record {
      numbers = noted.numbers ++ number ∷ [];
      stands = leads_on (length program) (serial_blocks program) opening machine (position_at (length program) 0)
          noted.numbers number ran here did;
      counted = omega (arith, length-append noted.numbers (number ∷ []), noted.counted);
      within = omega (arith, below);
      told = adds ∙ ap (λ (b : Serial). with_faults faults (faults_in machine b.insns)) same
          ∙ ap (λ told. with_faults told (faults_in machine (block_of program number).insns)) noted.told
          ∙ sym (fold-append with_fault [] (faults_on program opening noted.numbers)
          (faults_in machine (block_of program number).insns))
          ∙ ap (λ fs. with_faults [] fs)
          (sym (chain_noted program (length program) opening machine (position_at (length program) 0)
          noted.numbers number here));
    }

noted_all : (program : List Serial) (opening machine : Machine) (position : Position) (blocks limit : ℕ)
    (faults : List Fault)
    → (noted : IsNoted program opening machine position blocks limit faults)
    → IsStopped limit (length noted.numbers) position → FindsFaults program opening limit faults
noted_all program opening machine position blocks limit faults noted stopped = record {
  standing = record { numbers = noted.numbers; machine = machine; position = position };
  whole = record { stands = noted.stands; stopped = stopped };
  told = noted.told;
}

-- the run ended by a branch to the value of a register
pub noted_left : (program : List Serial) (opening machine : Machine) (word blocks limit : ℕ) (faults : List Fault)
    → IsNoted program opening machine (Ended (ToRegister word)) blocks limit faults
    → FindsFaults program opening limit faults
noted_left program opening machine word blocks limit faults noted =
    noted_all program opening machine (Ended (ToRegister word)) blocks limit faults noted
    (omega (arith, noted.counted, noted.within))

-- no block follows, or none may
pub noted_over : (program all : List Serial) (opening machine : Machine) (number blocks limit : ℕ) (faults : List Fault)
    → all ≡ program
    → IsNoted program opening machine (position_at (length program) number) blocks limit faults
    → (number < length all → limit ≤ blocks)
    → FindsFaults program opening limit faults
noted_over program all opening machine number blocks limit faults e noted over =
    ⊎_elim {C = FindsFaults program opening limit faults}
    (λ inside. let same : blocks ≡ limit = let late : limit ≤ blocks = over (rw e inside) in omega (arith, noted.within)
    in
    noted_all program opening machine (At number) blocks limit faults
    (moved (At number) (at_block (length program) number inside)) (noted.counted ∙ same))
    (λ past. noted_all program opening machine (Ended FellThrough) blocks limit faults
    (moved (Ended FellThrough) (past_end (length program) number past))
    (omega (arith, noted.counted, noted.within)))
    (cases_lt number (length program))
  where
    moved : (position : Position) → position_at (length program) number ≡ position
        → IsNoted program opening machine position blocks limit faults
    moved position same = record {
      numbers = noted.numbers;
      stands = subst (λ (p : Position). Leads (length program) (serial_blocks program) opening
          (position_at (length program) 0) noted.numbers machine p) same noted.stands;
      counted = noted.counted;
      within = noted.within;
      told = noted.told;
    }
