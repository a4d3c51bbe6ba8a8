-- What is in flight while a pipe runs, at its start and where an instruction is issued.
use Rattle.std.proofs.Common.{◌≡◌, ℕ, ◌+◌, ◌*◌, ◌<◌, ◌≤◌, List, [], ◌∷◌, ◌++◌, length, length-append, get_or, take}
use Rattle.std.proofs.Common.{drop, Option, None, refl, sym, ◌∙◌, ap, subst, inl, inr, ⊎_elim, arith}
use Rattle.std.specs.Prelude.{fold}
use Rattle.std.specs.List.{flat_map}
use Rattle.std.specs.List.Sorted.{IsStrictlyIncreasing}
use Rattle.std.proofs.lemmas.Bool.{cond-false, cond_both, and_right, le-ltb}
use Rattle.std.proofs.lemmas.List.{take_more, drop_more, take-append-drop, append-nil}
use Rattle.std.proofs.lemmas.List.Sums.{fold-append}
use Rattle.std.proofs.lemmas.Grind.{flat_map-append}
use Rattle.c62_op.specs.declared.register.Reg.{Reg}
use Rattle.c62_insn.specs.declared.effect.Access.{Access as MemoryAccess}
use Rattle.c62_op.specs.Units.{index_of as unit_index}
use Rattle.c62_op.proofs.UnitOrder.{index_of-below}
use Rattle.c62_serial.specs.State.{Machine, IsSound, word_in, byte_in}
use Rattle.c62_serial.specs.Faults.{after_fault, with_fault_if}
use Rattle.c62_serial.specs.Effect.{Act, is_fault}
use Rattle.c62_serial.specs.Serial.{after_access}
use Rattle.c62_serial.proofs.FaultLemmas.{joined_rises}
use Rattle.c62_serial.proofs.MemoryLemmas.{stores}
use Rattle.c62_packet.specs.declared.placed.Placed.{Placed}
use Rattle.c62_packet.specs.Packed.{listing_position}
use Rattle.c62_meaning.specs.Landing.{Landing, latest}
use Rattle.c62_meaning.specs.Packet.{memory_landings, access_landings, access_time, word_before}
use Rattle.c62_meaning.specs.Packet.{byte_before}
use Rattle.c62_meaning.proofs.Lookup.{In, Contains_from_In, In-append_right, In-append_cases, last_value}
use Rattle.c62_meaning.proofs.Lookup.{last_value-append}
use Rattle.c62_meaning.proofs.Acting.{act_same}
use Rattle.c62_meaning.proofs.Landings.{access-last}
use Rattle.c62_meaning.proofs.Runs.{the_run, the_run_runs}
use Rattle.c62_meaning.proofs.Faulted.{lines_after}
use Rattle.c62_pipe.specs.Flight.{Store, Flight, due, with_writes, FitsSlots, stores_of, act_at, issued}
use Rattle.c62_pipe.specs.Flight.{stored}
use Rattle.c62_pipe.proofs.Order.{Ascends, ascends, parts_at}
use Rattle.c62_pipe.proofs.Slots.{due_of, due_in, length-writes, due_writes, act_soon, few_due, fits}

-- Before a cycle, or within it after some instructions of its packet: what the first of these instructions have done.
-- All
-- positions below `upto` are over.
pub record Flying (block : List Placed) (opening : Machine) (cycle next upto : ℕ) (flight : Flight)
    (machine : Machine) : Type 0 where
  pub within : next ≤ length block
  pub sound : IsSound machine
  pub base : machine.base ≡ opening.base
  pub words : (reg : Reg) → word_in machine reg ≡ word_before block opening (the_run block opening) cycle reg
  pub bytes : (a : ℕ) → byte_in machine a ≡ byte_before block opening (the_run block opening) cycle a
  pub pending : (a : ℕ)
      → get_or (fold stored machine.memory flight.stores) a 0 ≡ last_value a
      (flat_map (memory_landings (the_run block opening)) (take next block)) (byte_in opening a)
  pub slots : length flight.slots ≡ 5
  pub flying : (t : ℕ) → cycle ≤ t → t < cycle + 5
      → due flight.slots t ≡ due_in (the_run block opening) t (take next block)
  pub space : (t : ℕ) → cycle ≤ t → t < cycle + 5 → 8 * t + length (due flight.slots t) ≤ upto + 32
  pub few : 8 * cycle + length flight.stores ≤ upto
  pub low : upto ≤ 8 * cycle + 8
  pub ahead : (p : Placed) → In p (drop next block) → upto ≤ listing_position p
  pub early : (p : Placed) → In p (take next block) → p.cycle ≤ cycle
  pub lines : machine.faults ≡ lines_after (the_run block opening) opening.faults (take next block)

pub position_of : (p : Placed) → (8 * p.cycle ≤ listing_position p) × (listing_position p < 8 * p.cycle + 8)
position_of p = let b : unit_index p.unit < 8 = index_of-below p.unit in (omega arith, omega arith)

-- ---- the start

nothing_before : (cell : ℕ) (ls : List Landing) → latest cell 0 ls ≡ None
nothing_before cell [] = refl
nothing_before cell (x ∷ xs) = cond-false _ _ _ (and_right _ _ (le-ltb x.time 0 (omega arith))) ∙ nothing_before cell xs

pub start : (block : List Placed) (opening : Machine) (flight : Flight) → IsSound opening → length flight.slots ≡ 5
    → ((t : ℕ) → due flight.slots t ≡ [])
    → flight.stores ≡ [] → Flying block opening 0 0 0 flight opening
start block opening flight sound size none empty = grind (arith, nothing_before)

-- ---- an instruction is issued

flat_more : {X : Type 0} → (f : Placed → List X) (ps : List Placed) (p : Placed)
    → flat_map f (ps ++ p ∷ []) ≡ flat_map f ps ++ f p
flat_more f ps p = flat_map-append f ps (p ∷ []) ∙ ap (λ ys. flat_map f ps ++ ys) (append-nil (f p))

pub In-drop : (block : List Placed) (n : ℕ) (p : Placed) → In p (drop n block) → In p block
In-drop block n p h = subst (λ ps. In p ps) (take-append-drop n block)
    (In-append_right p (take n block) (drop n block) h)

-- what the next instruction does
pub does : (block : List Placed) (opening : Machine) (cycle next upto : ℕ) (flight : Flight) (machine : Machine)
    (p : Placed)
    → Flying block opening cycle next upto flight machine → In p block → p.cycle ≡ cycle
    → act_at p machine ≡ the_run block opening p
does block opening cycle next upto flight machine p h i e = grind (
  arith,
  act_same p.insn machine.base opening.base (word_in machine) (word_before block opening (the_run block opening)
      p.cycle) (byte_in machine) (byte_before block opening (the_run block opening) p.cycle) h.base,
  the_run_runs block opening p (Contains_from_In p block i),
)

pub length-stored : (memory : List ℕ) (ss : List Store) → length memory ≡ 65536 → length (fold stored memory ss) ≡ 65536
length-stored memory [] l = l
length-stored memory (s ∷ ss) l = grind (arith, length-stored (stored memory s) ss, stores memory s.0 s.1 s.2 l)

stored_access : (memory : List ℕ) (o : Option MemoryAccess) → fold stored memory (stores_of o) ≡ after_access memory o
stored_access memory o = grind arith

few_stores : (o : Option MemoryAccess) → length (stores_of o) ≤ 1
few_stores o = grind arith

-- what its issue asks
pub record IsReady (cycle : ℕ) (p : Placed) (machine : Machine) (flight : Flight) : Type 0 where
  pub few : length flight.stores < 8
  pub fits : FitsSlots (with_writes cycle p.line (act_at p machine).writes flight.slots)

pub is_ready : (block : List Placed) (opening : Machine) (cycle next upto : ℕ) (flight : Flight) (machine : Machine)
    (p : Placed)
    → Flying block opening cycle next upto flight machine → In p (drop next block) → p.cycle ≡ cycle
    → IsReady cycle p machine flight
is_ready block opening cycle next upto flight machine p h i e = grind (
  arith,
  position_of p,
  fits cycle p.line (act_at p machine).writes flight.slots h.slots (act_soon p.insn machine.base (word_in machine)
      (byte_in machine)),
  act_soon p.insn machine.base (word_in machine) (byte_in machine),
  few_due,
)

pub issue_step : (block : List Placed) (opening : Machine) (cycle next upto : ℕ) (flight : Flight) (machine : Machine)
    (p : Placed) → Ascends block
    → Flying block opening cycle next upto flight machine → next < length block → get_or block next p ≡ p
    → p.cycle ≡ cycle
    → Flying block opening cycle (next + 1) (listing_position p + 1) (issued cycle p.line (act_at p machine) flight)
    (with_fault_if p.line (is_fault (act_at p machine).access) machine)
issue_step block opening cycle next upto flight machine p ascends h l found e =
    let did = the_run block opening in
    let more : take (next + 1) block ≡ take next block ++ p ∷ [] = take_more block next p l
    ∙ ap (λ z. take next block ++ z ∷ []) found in
    let rest : drop next block ≡ p ∷ drop (next + 1) block = drop_more block next p l
    ∙ ap (λ z. z ∷ drop (next + 1) block) found in
    let inside : In p (drop next block) = subst (λ ps. In p ps) (sym rest) (inl refl) in
    let whole : In p block = In-drop block next p inside in
    let same : act_at p machine ≡ the_run block opening p = does block opening cycle next upto flight machine p h whole
    e in
    let later : (q : Placed) → In q (drop (next + 1) block)
    → listing_position p < listing_position q = λ q k. (subst Ascends rest (parts_at block next ascends).back).0
    q k in
    let back : (q : Placed) → In q (drop (next + 1) block)
    → In q (drop next block) = λ q k. subst (λ ps. In q ps) (sym rest) (inr k) in
    record {
      within = omega arith;
      sound = record {
        registers = h.sound.registers;
        memory = h.sound.memory;
        rising = cond_both (is_fault (act_at p machine).access) _ machine.faults IsStrictlyIncreasing
            (λ _. joined_rises p.line machine.faults h.sound.rising) (λ _. h.sound.rising);
      };
      base = h.base;
      words = h.words;
      bytes = h.bytes;
      pending = λ a.
          ap (λ m. get_or m a 0) (fold-append stored machine.memory flight.stores (stores_of (act_at p machine).access)
          ∙ stored_access (fold stored machine.memory flight.stores) (act_at p machine).access)
          ∙ access-last (access_time p) (act_at p machine).access (fold stored machine.memory flight.stores) a
          (length-stored machine.memory flight.stores h.sound.memory)
          ∙ ap (λ (x : Act). last_value a (access_landings (access_time p) x.access)
          (get_or (fold stored machine.memory flight.stores) a 0)) same
          ∙ ap (λ v. last_value a (memory_landings (the_run block opening) p) v) (h.pending a)
          ∙ sym (last_value-append a (flat_map (memory_landings (the_run block opening)) (take next block))
          (memory_landings (the_run block opening) p) (byte_in opening a))
          ∙ ap (λ ls. last_value a ls (byte_in opening a))
          (sym (flat_more (memory_landings (the_run block opening)) (take next block) p)
          ∙ ap (λ ps. flat_map (memory_landings (the_run block opening)) ps) (sym more));
      slots = length-writes cycle p.line (act_at p machine).writes flight.slots ∙ h.slots;
      flying = λ t from below.
          due_writes cycle p.line t (act_at p machine).writes flight.slots h.slots from below
          (act_soon p.insn machine.base (word_in machine) (byte_in machine))
          ∙ ap (λ slot. slot ++ due_of t cycle p.line (act_at p machine).writes) (h.flying t from below)
          ∙ ap (λ (x : Act). due_in (the_run block opening) t (take next block) ++ due_of t cycle p.line x.writes) same
          ∙ ap (λ c. due_in (the_run block opening) t (take next block) ++ due_of t c p.line
          (the_run block opening p).writes) (sym e)
          ∙ sym (flat_more (λ z. due_of t z.cycle z.line (the_run block opening z).writes) (take next block) p)
          ∙ ap (λ ps. due_in (the_run block opening) t ps) (sym more);
      space = λ t from below.
          let grown : due (with_writes cycle p.line (act_at p machine).writes flight.slots) t ≡ due flight.slots t ++
          due_of t cycle p.line (act_at p machine).writes
          = due_writes cycle p.line t (act_at p machine).writes flight.slots h.slots from below
          (act_soon p.insn machine.base (word_in machine) (byte_in machine)) in
          let size : length (due (with_writes cycle p.line (act_at p machine).writes flight.slots) t) ≡ length
          (due flight.slots t) + length (due_of t cycle p.line (act_at p machine).writes)
          = ap length grown ∙ length-append (due flight.slots t) (due_of t cycle p.line (act_at p machine).writes) in
          let one : length (due_of t cycle p.line (act_at p machine).writes) ≤ 1 = few_due t cycle p.line p.insn
          machine.base
          (word_in machine) (byte_in machine) in
          let was : 8 * t + length (due flight.slots t) ≤ upto + 32 = h.space t from below in
          let after : upto ≤ listing_position p = h.ahead p inside in
          omega arith;
      few =
          let size : length (flight.stores ++ stores_of (act_at p machine).access) ≡ length flight.stores + length
          (stores_of (act_at p machine).access) = length-append flight.stores
          (stores_of (act_at p machine).access) in
          let one : length (stores_of (act_at p machine).access) ≤ 1 = few_stores (act_at p machine).access in
          let was : 8 * cycle + length flight.stores ≤ upto = h.few in
          let after : upto ≤ listing_position p = h.ahead p inside in
          omega arith;
      low = (let below : listing_position p < 8 * p.cycle + 8 = (position_of p).1 in omega arith);
      ahead = λ q k. (let less : listing_position p < listing_position q = later q k in omega arith);
      early = λ q k. ⊎_elim {C = q.cycle ≤ cycle} (λ a. h.early q a) (λ a. last_early q a)
          (In-append_cases q (take next block) (p ∷ []) (subst (λ ps. In q ps) more k));
      lines =
          ap (λ b. after_fault machine.faults p.line b) (ap (λ (x : Act). is_fault x.access) same)
          ∙ ap (λ ls. after_fault ls p.line (is_fault (the_run block opening p).access)) h.lines
          ∙ sym (fold-append _ opening.faults (take next block) (p ∷ []))
          ∙ ap (λ ps. lines_after (the_run block opening) opening.faults ps) (sym more);
    }
  where
    last_early : (q : Placed) → In q (p ∷ []) → q.cycle ≤ cycle
    last_early q h = grind arith
