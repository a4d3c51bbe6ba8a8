-- A run that is looked at, a block more.
use Rattle.std.proofs.Common.{◌≡◌, ℕ, ◌+◌, ◌<◌, ◌≤◌, Bool, true, false, List, [], ◌∷◌, ◌++◌, length, length-append}
use Rattle.std.proofs.Common.{get_or}
use Rattle.std.proofs.Common.{refl, sym, ◌∙◌, ap, subst, ⊎_elim, append_assoc, arith}
use Rattle.std.proofs.lemmas.Bool.{cases_lt}
use Rattle.std.proofs.lemmas.List.{append-nil, get_or_read}
use Rattle.std.proofs.lemmas.List.Sums.{fold-append}
use Rattle.c62_op.specs.declared.register.Reg.{Reg}
use Rattle.c62_read.specs.Block.{Serial}
use Rattle.c62_serial.specs.declared.serial.Exit.{Exit}
use Rattle.c62_serial.specs.State.{Machine}
use Rattle.c62_serial.specs.Serial.{Ran, serial}
use Rattle.c62_serial.specs.declared.chain.End.TheVariants.{End as FellThrough, Register as ToRegister}
use Rattle.c62_serial.specs.Chain.{At, Ended, IsStopped, Leads, Position, block_of, no_block, position_at}
use Rattle.c62_serial.specs.Chain.{position_after, serial_blocks}
use Rattle.c62_serial.proofs.ChainLemmas.{at_block, leads_nowhere, leads_on, past_end}
use Rattle.c62_apart.specs.declared.marks.Mark.{Mark}
use Rattle.c62_apart.specs.declared.marks.Meeting.{Meeting}
use Rattle.c62_apart.specs.declared.touch.Touch.{Touch}
use Rattle.c62_apart.specs.declared.visit.Visit.{Visit}
use Rattle.c62_apart.specs.Marks.{IsWatched, Sees}
use Rattle.c62_apart.specs.Met.{FindsMeetings}
use Rattle.c62_apart.specs.Touch.{touches_in, touches_on}
use Rattle.c62_apart.specs.Visit.{first_visit, is_joined, is_loop, next_visit, visit_on}

-- the touches of one block more
touched_more : (program : List Serial) (regs : List Reg) (count : ℕ) (last : Visit) (opening machine : Machine)
    (position : Position) (numbers : List ℕ) (number : ℕ)
    → Leads count (serial_blocks program) opening position numbers machine (At number)
    → touches_on program regs last opening (numbers ++ number ∷ []) ≡ touches_on program regs last opening numbers
    ++ touches_in regs (next_visit program (visit_on program last numbers) number) machine
    (block_of program number).insns
unfolding Leads
touched_more program regs count last opening machine position [] number leads =
    ap (λ m. touches_in regs (next_visit program last number) m (block_of program number).insns ++ []) (sym leads.0)
    ∙ append-nil (touches_in regs (next_visit program last number) machine (block_of program number).insns)
touched_more program regs count last opening machine position (first ∷ numbers) number leads =
    let next : Visit = next_visit program last first in
    let rest = touched_more program regs count next leads.1.machine machine
    (position_after count first leads.1.exit) numbers number leads.3 in
    let same : leads.1 ≡ serial (block_of program first).insns opening = leads.2 in
    let here : List Touch = touches_in regs next opening (block_of program first).insns in
    let there : List Touch = touches_in regs (next_visit program (visit_on program next numbers) number) machine
    (block_of program number).insns in
    let P : Ran → List ℕ → List Touch = λ ran ns. here ++ touches_on program regs next ran.machine ns in
    sym (ap (λ ran. P ran (numbers ++ number ∷ [])) same)
    ∙ ap (λ ts. here ++ ts) rest
    ∙ sym (append_assoc here (touches_on program regs next leads.1.machine numbers) there)
    ∙ ap (λ ran. P ran numbers ++ there) same

-- so far a run stands there, and so much was seen of it
pub record IsSeen (program : List Serial) (regs : List Reg) (opening machine : Machine) (position : Position)
    (blocks limit : ℕ) (visit : Visit) (marks : List Mark) (met : List Meeting) : Type 0 where
  pub numbers : List ℕ
  pub stands : Leads (length program) (serial_blocks program) opening (position_at (length program) 0) numbers machine
      position
  pub counted : length numbers ≡ blocks
  pub within : blocks ≤ limit
  pub visited : visit ≡ visit_on program (first_visit (length program)) numbers
  pub stay : visit.stay ≤ blocks
  pub iteration : visit.iteration ≤ blocks
  pub watched : IsWatched (touches_on program regs (first_visit (length program)) opening numbers) visit.stay marks met

pub seen_first : (program : List Serial) (regs : List Reg) (machine : Machine) (limit : ℕ) (visit : Visit)
    (marks : List Mark) (met : List Meeting) → visit ≡ first_visit (length program) → IsWatched [] 0 marks met
    → IsSeen program regs machine machine (position_at (length program) 0) 0 limit visit marks met
seen_first program regs machine limit visit marks met is watched = record {
  numbers = [];
  stands = leads_nowhere (length program) (serial_blocks program) machine (position_at (length program) 0);
  counted = refl;
  within = omega arith;
  visited = is;
  stay = rw is (omega arith);
  iteration = rw is (omega arith);
  watched = rw is watched;
}

-- what a visit grows by
visit_grows : (program : List Serial) (last visit : Visit) (number blocks : ℕ) → visit ≡ next_visit program last number
    → last.stay ≤ blocks → last.iteration ≤ blocks
    → (last.stay ≤ visit.stay) × (visit.stay ≤ blocks + 1) × (visit.iteration ≤ blocks + 1)
visit_grows program last visit number blocks is stay iteration = either (is_joined program last.number number) refl
  where
    either : (b : Bool) → is_joined program last.number number ≡ b
        → (last.stay ≤ visit.stay) × (visit.stay ≤ blocks + 1) × (visit.iteration ≤ blocks + 1)
    either true e = rw (is, e) (omega arith, omega (arith, stay), omega (arith, iteration))
    either false e = by_loop (is_loop program number) refl
      where
        by_loop : (b : Bool) → is_loop program number ≡ b
            → (last.stay ≤ visit.stay) × (visit.stay ≤ blocks + 1) × (visit.iteration ≤ blocks + 1)
        by_loop true f = rw (is, e, f) (omega arith, omega (arith, stay), omega arith)
        by_loop false f = rw (is, e, f) (omega arith, omega (arith, stay), omega arith)

pub seen_block : (program all : List Serial) (regs : List Reg) (opening machine next : Machine)
    (number blocks limit : ℕ) (block : Serial) (exit : Exit) (last visit : Visit)
    (marks now : List Mark) (met more : List Meeting)
    → all ≡ program → number < length all → block ≡ get_or all number block
    → IsSeen program regs opening machine (position_at (length program) number) blocks limit last marks met
    → blocks < limit → visit ≡ next_visit all last number
    → next ≡ (serial block.insns machine).machine → exit ≡ (serial block.insns machine).exit
    → Sees visit.stay (touches_in regs visit machine block.insns) marks met now more
    → IsSeen program regs opening next (position_after (length program) number exit) (blocks + 1) limit visit now more
seen_block program all regs opening machine next number blocks limit block exit last visit marks now met more e h found
    seen below visits moved left sees =
    let inside : number < length program = rw (← e) h in
    let same : block ≡ block_of program number = rw (← e) (get_or_read all number block h found no_block) in
    let ran : Ran = record { machine = next; exit = exit } in
    let did : ran ≡ serial (block_of program number).insns machine = rw (← same) (rw (moved, left) refl) in
    let P : Position → Type 0 = λ position. Leads (length program) (serial_blocks program) opening
    (position_at (length program) 0) seen.numbers machine position in
    let here = subst P (at_block (length program) number inside) seen.stands in
    let is : visit ≡ next_visit program last number = rw e at visits in
    let grows = visit_grows program last visit number blocks is seen.stay seen.iteration in
    let first : Visit = first_visit (length program) in
    let then : visit ≡ next_visit program (visit_on program first seen.numbers) number =
    is ∙ ap (λ v. next_visit program v number) seen.visited in
    let touched : touches_on program regs first opening (seen.numbers ++ number ∷ [])
    ≡ touches_on program regs first opening seen.numbers ++ touches_in regs visit machine block.insns =
    touched_more program regs (length program) first opening machine (position_at (length program) 0)
    seen.numbers number here
    ∙ ap (λ v. touches_on program regs first opening seen.numbers ++ touches_in regs v machine
    (block_of program number).insns) (sym then)
    ∙ ap (λ (b : Serial). touches_on program regs first opening seen.numbers ++ touches_in regs visit machine
    b.insns) (sym same) in
    record {
      numbers = seen.numbers ++ number ∷ [];
      stands = leads_on (length program) (serial_blocks program) opening machine (position_at (length program) 0)
          seen.numbers number ran here did;
      counted = omega (arith, length-append seen.numbers (number ∷ []), seen.counted);
      within = omega (arith, below);
      visited = then ∙ sym (fold-append (next_visit program) first seen.numbers (number ∷ []));
      stay = grows.1;
      iteration = grows.2;
      watched = subst (λ ts. IsWatched ts visit.stay now more) (sym touched)
          (sees (touches_on program regs first opening seen.numbers) last.stay grows.0 seen.watched);
    }

seen_all : (program : List Serial) (regs : List Reg) (opening machine : Machine) (position : Position)
    (blocks limit : ℕ) (visit : Visit) (marks : List Mark) (met : List Meeting)
    → (seen : IsSeen program regs opening machine position blocks limit visit marks met)
    → IsStopped limit (length seen.numbers) position → FindsMeetings program regs opening limit met
seen_all program regs opening machine position blocks limit visit marks met seen stopped = record {
  standing = record { numbers = seen.numbers; machine = machine; position = position };
  whole = record { stands = seen.stands; stopped = stopped };
  are = seen.watched.told;
}

-- the run ended by a branch to the value of a register
pub seen_left : (program : List Serial) (regs : List Reg) (opening machine : Machine) (word blocks limit : ℕ)
    (visit : Visit) (marks : List Mark) (met : List Meeting)
    → IsSeen program regs opening machine (Ended (ToRegister word)) blocks limit visit marks met
    → FindsMeetings program regs opening limit met
seen_left program regs opening machine word blocks limit visit marks met seen =
    seen_all program regs opening machine (Ended (ToRegister word)) blocks limit visit marks met seen
    (omega (arith, seen.counted, seen.within))

-- no block follows, or none may
pub seen_over : (program all : List Serial) (regs : List Reg) (opening machine : Machine) (number blocks limit : ℕ)
    (visit : Visit) (marks : List Mark) (met : List Meeting)
    → all ≡ program
    → IsSeen program regs opening machine (position_at (length program) number) blocks limit visit marks met
    → (number < length all → limit ≤ blocks)
    → FindsMeetings program regs opening limit met
seen_over program all regs opening machine number blocks limit visit marks met e seen over =
    ⊎_elim {C = FindsMeetings program regs opening limit met}
    (λ inside. let same : blocks ≡ limit = let late : limit ≤ blocks = over (rw e inside) in omega (arith, seen.within)
    in
    seen_all program regs opening machine (At number) blocks limit visit marks met
    (moved (At number) (at_block (length program) number inside)) (seen.counted ∙ same))
    (λ past. seen_all program regs opening machine (Ended FellThrough) blocks limit visit marks met
    (moved (Ended FellThrough) (past_end (length program) number past))
    (omega (arith, seen.counted, seen.within)))
    (cases_lt number (length program))
  where
    moved : (position : Position) → position_at (length program) number ≡ position
        → IsSeen program regs opening machine position blocks limit visit marks met
    moved position same = record {
      numbers = seen.numbers;
      stands = subst (λ (p : Position). Leads (length program) (serial_blocks program) opening
          (position_at (length program) 0) seen.numbers machine p) same seen.stands;
      counted = seen.counted;
      within = seen.within;
      visited = seen.visited;
      stay = seen.stay;
      iteration = seen.iteration;
      watched = seen.watched;
    }
