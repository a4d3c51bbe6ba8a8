-- Chains: how they go on, that one has one outcome where its blocks have one, and that what holds of each block holds
-- of it.
use Rattle.std.proofs.Common.{◌≡◌, ◌≢◌, ℕ, ◌+◌, ◌<◌, ◌≤◌, Bool, true, false, List, [], ◌∷◌, ◌++◌, length, refl, ◌∙◌}
use Rattle.std.proofs.Common.{sym, ap, subst, get_or, arith}
use Rattle.std.specs.Prelude.{nat_lt, if◌then◌else◌}
use Rattle.std.proofs.lemmas.Bool.Decides.{nat_tests}
use Rattle.std.proofs.lemmas.List.{get_or_read, length-append}
use Rattle.c62_read.specs.Block.{Serial}
use Rattle.c62_serial.specs.declared.serial.Exit.{Exit}
use Rattle.c62_serial.specs.declared.serial.Exit.TheVariants.{Next, Block, Register}
use Rattle.c62_serial.specs.declared.chain.End.TheVariants.{End as FellThrough, Limit}
use Rattle.c62_serial.specs.declared.chain.Chain.{Chain}
use Rattle.c62_serial.specs.State.{Machine, Contents, IsSound}
use Rattle.c62_serial.specs.Serial.{Ran, serial}
use Rattle.c62_serial.proofs.MachineLemmas.{sound_run}
use Rattle.c62_serial.specs.Chain.{Blocks, Standing, Ended, At, Position, position_at, position_after, Leads, IsStopped}
use Rattle.c62_serial.specs.Chain.{IsChain, IsDetermined, chain_of, RunsProgram, LacksRoom, no_block, block_of}
use Rattle.c62_serial.specs.Chain.{serial_blocks}

-- ---- one block more

-- a chain that has not begun
pub leads_nowhere : (count : ℕ) (Does : Blocks) (machine : Machine) (position : Position)
    → Leads count Does machine position [] machine position
unfolding Leads
leads_nowhere count Does machine position = (refl, refl)

pub leads_on : (count : ℕ) (Does : Blocks) (opening machine : Machine) (position : Position) (numbers : List ℕ)
    (number : ℕ) (ran : Ran)
    → Leads count Does opening position numbers machine (At number) → Does number machine ran
    → Leads count Does opening position (numbers ++ number ∷ []) ran.machine (position_after count number ran.exit)
unfolding Leads
leads_on count Does opening machine position [] number ran leads does =
    (sym leads.1, ran, rw (← leads.0) does, (refl, refl))
leads_on count Does opening machine position (first ∷ numbers) number ran leads does = (
  leads.0,
  leads.1,
  leads.2,
  leads_on count Does leads.1.machine machine (position_after count first leads.1.exit)
      numbers number ran leads.3 does,
)

-- where a block of this number is, the chain stands at it
pub at_block : (count number : ℕ) → number < count → position_at count number ≡ At number
at_block count number h = let e : nat_lt number count ≡ true = grind (arith, nat_tests) in rw e refl

pub past_end : (count number : ℕ) → count ≤ number → position_at count number ≡ Ended FellThrough
past_end count number h = let e : nat_lt number count ≡ false = grind (arith, nat_tests) in rw e refl

-- ---- a chain stays among its blocks

-- a block of this chain, or an end
abbrev pub IsPosition : ℕ → Position → Type 0
IsPosition count (At number) = number < count
IsPosition count (Ended stop) = Unit {0}

pub is_position_at : (count number : ℕ) → IsPosition count (position_at count number)
is_position_at count number = either (nat_lt number count) refl
  where
    either : (b : Bool) → nat_lt number count ≡ b → IsPosition count (if b then At number else Ended FellThrough)
    either true e = grind (arith, nat_tests)
    either false e = tt

pub is_position_after : (count number : ℕ) (exit : Exit) → IsPosition count (position_after count number exit)
is_position_after count number Next = is_position_at count (number + 1)
is_position_after count number (Block target) = is_position_at count target
is_position_after count number (Register value) = tt

at_its_block : (count number : ℕ) (position : Position) → IsPosition count position → position ≡ At number
    → number < count
at_its_block count number position h e = let P : Position → Type 0 = λ other. IsPosition count other in subst P e h

-- ---- one outcome

number_at : Position → ℕ
number_at (At number) = number
number_at (Ended stop) = 0

same_number : (position : Position) (one other : ℕ) → position ≡ At one → position ≡ At other → one ≡ other
unfolding number_at
same_number position one other e f = ap number_at (sym e ∙ f)

within : (limit blocks : ℕ) (position : Position) → IsStopped limit blocks position → blocks ≤ limit
within limit blocks (At number) h = omega (arith, h)
within limit blocks (Ended stop) h = h

at_limit : (limit blocks number : ℕ) (position : Position) → IsStopped limit blocks position → position ≡ At number
    → blocks ≡ limit
at_limit limit blocks number position h e = let P : Position
    → Type 0 = λ other. IsStopped limit blocks other in subst P e h

stops_later : (limit done : ℕ) (position : Position) (number : ℕ) (numbers : List ℕ)
    → IsStopped limit (done + length (number ∷ numbers)) position → IsStopped limit (done + 1 + length numbers) position
stops_later limit done position number numbers h =
    let e : done + length (number ∷ numbers) ≡ done + 1 + length numbers = omega arith in
    let P : ℕ → Type 0 = λ blocks. IsStopped limit blocks position in subst P e h

abbrev longer : ℕ → Standing → Standing
longer number standing = record
    { numbers = number ∷ standing.numbers; machine = standing.machine; position = standing.position }

same_end : (count : ℕ) (Does : Blocks) → IsDetermined count Does
    → (opening : Machine) (position : Position) (limit done : ℕ)
    → (numbers others : List ℕ) (final final' : Machine) (last last' : Position) → IsSound opening
    → IsPosition count position
    → Leads count Does opening position numbers final last → IsStopped limit (done + length numbers) last
    → Leads count Does opening position others final' last' → IsStopped limit (done + length others) last'
    → (let standing : Standing = record { numbers = numbers; machine = final; position = last } in standing) ≡ record
    { numbers = others; machine = final'; position = last' }
unfolding Leads
same_end count Does determined opening position limit done [] [] final final' last last' sound at leads stop leads'
    stop' = rw (leads.0, leads'.0, leads.1, leads'.1) refl
same_end count Does determined opening position limit done [] (n' ∷ ns') final final' last last' sound at leads stop
    leads' stop' =
    let e : done + 0 ≡ limit = at_limit limit (done + 0) n' last stop (leads.1 ∙ leads'.0) in
    let f : done + length (n' ∷ ns') ≤ limit = within limit (done + length (n' ∷ ns')) last' stop' in
    absurd (omega arith)
same_end count Does determined opening position limit done (n ∷ ns) [] final final' last last' sound at leads stop
    leads' stop' =
    let e : done + 0 ≡ limit = at_limit limit (done + 0) n last' stop' (leads'.1 ∙ leads.0) in
    let f : done + length (n ∷ ns) ≤ limit = within limit (done + length (n ∷ ns)) last stop in
    absurd (omega arith)
same_end count Does determined opening position limit done (n ∷ ns) (n' ∷ ns') final final' last last' sound at leads
    stop leads' stop' =
    let h : n < count = at_its_block count n position at leads.0 in
    let e : n' ≡ n = same_number position n' n leads'.0 leads.0 in
    let DoesIt : ℕ → Type 0 = λ number. Does number opening leads'.1 in
    let f : leads'.1 ≡ leads.1 = determined.one n opening leads'.1 leads.1 h sound (subst DoesIt e leads'.2) leads.2 in
    let FromNumber : ℕ → Type 0 = λ number. Leads count Does leads'.1.machine
    (position_after count number leads'.1.exit) ns' final' last' in
    let FromRan : Ran → Type 0 = λ ran. Leads count Does ran.machine (position_after count n ran.exit) ns' final' last'
    in
    let rest = same_end count Does determined leads.1.machine (position_after count n leads.1.exit) limit (done + 1) ns
    ns' final final' last last'
    (determined.sound n opening leads.1 h sound leads.2) (is_position_after count n leads.1.exit) leads.3
    (stops_later limit done last n ns stop)
    (subst FromRan f (subst FromNumber e leads'.3)) (stops_later limit done last' n' ns' stop') in
    ap (longer n) rest ∙ ap
    (λ (number : ℕ). longer number (record { numbers = ns'; machine = final'; position = last' })) (sym e)

-- the chain under a limit is one, where each block has one outcome
pub one_chain : (count : ℕ) (Does : Blocks) (opening : Machine) (limit : ℕ) (one other : Standing)
    → IsDetermined count Does → IsSound opening
    → IsChain count Does opening limit one → IsChain count Does opening limit other → one ≡ other
one_chain count Does opening limit one other determined sound h k =
    let Stopped : Position → ℕ → Type 0 = λ position blocks. IsStopped limit blocks position in
    same_end count Does determined opening (position_at count 0) limit 0 one.numbers other.numbers one.machine
    other.machine one.position other.position sound (is_position_at count 0)
    h.stands (subst (Stopped one.position) (omega arith) h.stopped) k.stands
    (subst (Stopped other.position) (omega arith) k.stopped)

-- ---- what holds of each block holds of the chain

-- what blocks do is also what others do
pub leads_along : (count : ℕ) (Does Other : Blocks) (opening final : Machine) (position last : Position)
    (numbers : List ℕ)
    → ((number : ℕ) (before : Machine) (ran : Ran) → number < count → IsSound before → Does number before ran
    → IsSound ran.machine × Other number before ran)
    → IsSound opening → IsPosition count position → Leads count Does opening position numbers final last
    → Leads count Other opening position numbers final last
unfolding Leads
leads_along count Does Other opening final position last [] also sound at leads = leads
leads_along count Does Other opening final position last (number ∷ numbers) also sound at leads =
    let both = also number opening leads.1 (at_its_block count number position at leads.0) sound leads.2 in (
      leads.0,
      leads.1,
      both.1,
      leads_along count Does Other leads.1.machine final
          (position_after count number leads.1.exit) last numbers also both.0
          (is_position_after count number leads.1.exit) leads.3,
    )

pub chain_along : (count : ℕ) (Does Other : Blocks) (opening : Machine) (limit : ℕ) (standing : Standing)
    → ((number : ℕ) (before : Machine) (ran : Ran) → number < count → IsSound before → Does number before ran
    → IsSound ran.machine × Other number before ran)
    → IsSound opening → IsChain count Does opening limit standing → IsChain count Other opening limit standing
chain_along count Does Other opening limit standing also sound chain = record {
  stands = leads_along count Does Other opening standing.machine (position_at count 0) standing.position
      standing.numbers also sound (is_position_at count 0) chain.stands;
  stopped = chain.stopped;
}

-- ---- a program's run

-- the blocks of a program leave one outcome
pub serial_determined : (program : List Serial) → IsDetermined (length program) (serial_blocks program)
serial_determined program = record {
  one = λ number before ran other h sound e f. e ∙ sym f;
  sound = λ number before ran h sound e. (let P : Ran
      → Type 0 = λ left. IsSound left.machine in subst P (sym e)
      (sound_run (block_of program number).insns before sound));
}

-- where a run stands after some blocks
pub record Turn (program : List Serial) (opening machine : Machine) (number blocks limit : ℕ) : Type 0 where
  pub numbers : List ℕ
  pub stands : Leads (length program) (serial_blocks program) opening (position_at (length program) 0) numbers machine
      (position_at (length program) number)
  pub counted : length numbers ≡ blocks
  pub within : blocks ≤ limit

pub first_turn : (program : List Serial) (machine : Machine) (limit : ℕ) → Turn program machine machine 0 0 limit
first_turn program machine limit = record {
  numbers = [];
  stands = leads_nowhere (length program) (serial_blocks program) machine
      (position_at (length program) 0);
  counted = refl;
  within = omega arith;
}

abbrev ran_of : Machine → Exit → Ran
ran_of machine exit = record { machine = machine; exit = exit }

-- a block more
pub block_more : (program all : List Serial) (opening machine next : Machine) (blocks number limit : ℕ) (block : Serial)
    (exit : Exit)
    → all ≡ program → number < length all → block ≡ get_or all number block
    → Turn program opening machine number blocks limit
    → next ≡ (serial block.insns machine).machine → exit ≡ (serial block.insns machine).exit
    → (numbers : List ℕ) × (length numbers ≡ blocks + 1)
    × Leads (length program) (serial_blocks program) opening (position_at (length program) 0) numbers next
    (position_after (length program) number exit)
block_more program all opening machine next blocks number limit block exit e h found turn moved left =
    let count : ℕ = length program in
    let inside : number < length program = rw (← e) h in
    let same : block ≡ block_of program number = rw (← e) (get_or_read all number block h found no_block) in
    let did : ran_of next exit ≡ serial (block_of program number).insns machine = rw (← same) (rw (moved, left) refl) in
    let P : Position → Type 0 = λ position. Leads (length program) (serial_blocks program) opening
    (position_at (length program) 0) turn.numbers machine position in
    let here = subst P (at_block (length program) number inside) turn.stands in (
      turn.numbers ++ number ∷ [],
      omega (arith, length-append turn.numbers (number ∷ []), turn.counted),
      leads_on (length program) (serial_blocks program) opening machine (position_at (length program) 0) turn.numbers
          number (ran_of next exit) here did,
    )

-- a run that ended is the program's chain
pub program_ends : (program : List Serial) (opening machine : Machine) (numbers : List ℕ) (position : Position)
    (limit : ℕ) (chain : Chain)
    → Leads (length program) (serial_blocks program) opening (position_at (length program) 0) numbers machine position
    → IsStopped limit (length numbers) position
    → chain ≡ chain_of (record { numbers = numbers; machine = machine; position = position })
    → RunsProgram program opening limit chain machine
program_ends program opening machine numbers position limit chain leads stopped told = record {
  standing = record { numbers = numbers; machine = machine; position = position };
  whole = record { stands = leads; stopped = stopped };
  told = told;
  left = refl;
}

-- a run that stands past the last block has ended
pub program_falls_through : (program all : List Serial) (opening machine : Machine) (number blocks limit : ℕ)
    → all ≡ program → length all ≤ number
    → Turn program opening machine number blocks limit
    → RunsProgram program opening limit (record { blocks = blocks; stop = FellThrough }) machine
program_falls_through program all opening machine number blocks limit e past turn =
    let beyond : length program ≤ number = rw (← e) past in
    let P : Position → Type 0 = λ position. Leads (length program) (serial_blocks program) opening
    (position_at (length program) 0) turn.numbers machine position in
    program_ends program opening machine turn.numbers (Ended FellThrough) limit
    (record { blocks = blocks; stop = FellThrough })
    (subst P (past_end (length program) number beyond) turn.stands) (omega (arith, turn.counted, turn.within))
    (rw turn.counted refl)

-- a run that stands at a block when the limit is reached has ended
pub program_at_limit : (program all : List Serial) (opening machine : Machine) (number limit : ℕ) → all ≡ program
    → number < length all
    → Turn program opening machine number limit limit
    → RunsProgram program opening limit (record { blocks = limit; stop = Limit }) machine
program_at_limit program all opening machine number limit e h turn =
    let inside : number < length program = rw (← e) h in
    let P : Position → Type 0 = λ position. Leads (length program) (serial_blocks program) opening
    (position_at (length program) 0) turn.numbers machine position in
    program_ends program opening machine turn.numbers (At number) limit (record { blocks = limit; stop = Limit })
    (subst P (at_block (length program) number inside) turn.stands) turn.counted (rw turn.counted refl)

-- a run for whose next block there is no room
pub program_lacks_room : (program all : List Serial) (opening : Machine) (number blocks limit : ℕ) (block : Serial)
    (left : Contents) → all ≡ program
    → number < length all → block ≡ get_or all number block → Turn program opening left.machine number blocks limit
    → blocks ≢ limit
    → left.room < length block.insns → LacksRoom program opening limit left
program_lacks_room program all opening number blocks limit block left e h found turn below full =
    let inside : number < length program = rw (← e) h in
    let same : block ≡ block_of program number = rw (← e) (get_or_read all number block h found no_block) in
    let P : Position → Type 0 = λ position. Leads (length program) (serial_blocks program) opening
    (position_at (length program) 0) turn.numbers left.machine position in
    record {
      number = number;
      start = record {
        numbers = turn.numbers;
        stands = subst P (at_block (length program) number inside) turn.stands;
        fewer = omega (arith, turn.counted, turn.within, below);
      };
      room = rw (← same) full;
    }
