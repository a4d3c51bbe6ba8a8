-- A block of packets from one cycle to the next.
use Rattle.std.proofs.Common.{◌≡◌, ℕ, ◌+◌, ◌-◌, ◌*◌, ◌%◌, ◌<◌, ◌≤◌, List, [], ◌∷◌, ◌++◌, length}
use Rattle.std.proofs.Common.{get_or, take, drop, Option, refl, sym, ◌∙◌, ap, subst, ◌⊎◌, inl, inr}
use Rattle.std.proofs.Common.{arith}
use Rattle.std.specs.Prelude.{◌↔◌, Contains}
use Rattle.std.proofs.Math.ListN.{drop_of_length-le}
use Rattle.std.proofs.lemmas.List.{take_more, drop_more, take_all}
use Rattle.std.proofs.lemmas.List.Sums.{fold-append}
use Rattle.std.proofs.lemmas.List.Elements.{All-contains}
use Rattle.c62_op.specs.declared.register.Reg.{Reg}
use Rattle.c62_insn.specs.declared.effect.Target.{Target}
use Rattle.c62_insn.specs.Insn.{register_writes, greatest_delay}
use Rattle.c62_rules.specs.Length.{landing_end}
use Rattle.c62_serial.specs.declared.serial.Exit.{Exit}
use Rattle.c62_serial.specs.declared.serial.Exit.TheVariants.{Next}
use Rattle.c62_serial.specs.State.{Machine, Contents, IsSound}
use Rattle.c62_serial.specs.Faults.{with_fault_if}
use Rattle.c62_serial.specs.Effect.{Act, act_of, is_fault}
use Rattle.c62_serial.specs.Serial.{exit_after}
use Rattle.c62_packet.specs.declared.placed.Placed.{Placed}
use Rattle.c62_packet.specs.Packed.{Packed, IsPacketBlock, issue_of, listing_position}
use Rattle.c62_meaning.specs.Packet.{word_before}
use Rattle.c62_meaning.specs.Packet.{byte_before}
use Rattle.c62_meaning.specs.Meaning.{HasFaulted, exit_by, IsMeaning}
use Rattle.c62_meaning.proofs.Lookup.{In, Contains_from_In}
use Rattle.c62_meaning.proofs.Landings.{act_writes}
use Rattle.c62_meaning.proofs.Runs.{the_run, the_run_runs}
use Rattle.c62_meaning.proofs.Faulted.{lines_after, lines_hold}
use Rattle.c62_pipe.specs.Flight.{Flight, IsIdle, due}
use Rattle.c62_pipe.specs.Flight.{act_at, issued, at_end, after_end}
use Rattle.c62_pipe.proofs.Order.{Ascends, ascends, parts_at}
use Rattle.c62_pipe.proofs.Slots.{due_of, due_in}
use Rattle.c62_pipe.proofs.Slots.{due_none}
use Rattle.c62_pipe.proofs.Flying.{Flying, position_of, start, In-drop, does, IsReady, is_ready, issue_step}
use Rattle.c62_pipe.proofs.CycleEnds.{end_step}

-- Before a cycle of a block, or within it after some instructions of its packet.
pub record Running (block : List Placed) (opening : Machine) (cycle next : ℕ) (flight : Flight) (machine : Machine)
    (exit : Exit) (room : ℕ) : Type 0 where
  pub upto : ℕ
  pub flying : Flying block opening cycle next upto flight machine
  pub leads : exit ≡ exit_by (the_run block opening) (take next block)
  pub enough : length block ≤ next + room

-- ---- the end of the block

pub finish : (block : Packed) (opening : Machine) (cycle : ℕ) (flight : Flight) (machine : Machine) (exit : Exit)
    (room : ℕ)
    → Running block.placed opening cycle (length block.placed) flight machine exit room → cycle ≡ block.cycles
    → IsMeaning block.placed block.cycles opening (record { machine = machine; exit = exit })
finish block opening cycle flight machine exit room h e = record {
  did = the_run block.placed opening;
  run = the_run_runs block.placed opening;
  leaves = record {
    state = record {
      sound = h.flying.sound;
      base = h.flying.base;
      words = λ reg. h.flying.words reg
          ∙ ap (λ c. word_before block.placed opening (the_run block.placed opening) c reg) e;
      bytes = λ a l. h.flying.bytes a ∙ ap (λ c. byte_before block.placed opening (the_run block.placed opening) c a) e;
      faults = λ line.
          let P : List ℕ → Type 0 = λ lines. Contains lines line ↔ (Contains opening.faults line
          ⊎ HasFaulted block.placed (the_run block.placed opening) line) in
          subst P (sym (h.flying.lines ∙ ap (λ ps. lines_after (the_run block.placed opening) opening.faults ps) all))
          (lines_hold (the_run block.placed opening) opening.faults block.placed line);
    };
    exit = h.leads ∙ ap (λ ps. exit_by (the_run block.placed opening) ps) all;
  };
}
  where
    all : take (length block.placed) block.placed ≡ block.placed
    all = take_all (length block.placed) block.placed (omega arith)

-- a write lands within the greatest delay
within_greatest : (ws : List (Reg × ℕ)) (w : Reg × ℕ) → In w ws → w.1 ≤ greatest_delay ws
within_greatest [] w h = absurd h
within_greatest (x ∷ xs) w h = grind (arith, within_greatest xs w)

-- all of these landed before t
all_landed : (block : List Placed) (opening : Machine) (t : ℕ) (ps : List Placed)
    → ((p : Placed) → In p ps → landing_end (issue_of p) ≤ t) → ((p : Placed) → In p ps → In p block)
    → due_in (the_run block opening) t ps ≡ []
all_landed block opening t [] late sub = refl
all_landed block opening t (p ∷ ps) late sub =
    let word : Reg → ℕ = word_before block opening (the_run block opening) p.cycle in
    let byte : ℕ → ℕ = byte_before block opening (the_run block opening) p.cycle in
    let end : landing_end (issue_of p) ≤ t = late p (inl refl) in
    let here : due_of t p.cycle p.line (the_run block opening p).writes ≡ []
    = ap (λ (x : Act). due_of t p.cycle p.line x.writes)
    (the_run_runs block opening p (Contains_from_In p block (sub p (inl refl))))
    ∙ due_none t p.cycle p.line (act_of p.insn opening.base word byte).writes
    (λ w k f. let d : w.0.1 ≤ greatest_delay (register_writes p.insn) = within_greatest (register_writes p.insn) w.0
    (act_writes p.insn opening.base word byte w k) in omega arith) in
    ap (λ slot. slot ++ due_in (the_run block opening) t ps) here
    ∙ all_landed block opening t ps (λ q k. late q (inr k)) (λ q k. sub q (inr k))

-- nothing is in flight
pub idle : (block : Packed) (opening : Machine) (cycle : ℕ) (flight : Flight) (machine : Machine) (exit : Exit)
    (room : ℕ) → IsPacketBlock block
    → Running block.placed opening cycle (length block.placed) flight machine exit room → cycle ≡ block.cycles
    → flight.stores ≡ [] → IsIdle flight
idle block opening cycle flight machine exit room is h e none = record {
  size = h.flying.slots;
  slots = λ c.
      let t : ℕ = cycle + (c % 5 + 5 - cycle % 5) % 5 in
      let from : cycle ≤ t = omega arith in
      let below : t < cycle + 5 = omega arith in
      let slot : t % 5 ≡ c % 5 = omega arith in
      let at : due flight.slots t ≡ due flight.slots c = ap (λ n. get_or flight.slots n []) slot in
      let landed : due_in (the_run block.placed opening) t block.placed ≡ [] = all_landed block.placed opening t
      block.placed
      (λ p k. let d : landing_end (issue_of p) ≤ block.cycles = All-contains
      (λ p. landing_end (issue_of p) ≤ block.cycles) block.placed p is.drained
      (Contains_from_In p block.placed k) in omega arith)
      (λ p k. k) in
      sym at ∙ h.flying.flying t from below
      ∙ ap (λ ps. due_in (the_run block.placed opening) t ps)
      (take_all (length block.placed) block.placed (omega arith)) ∙ landed;
  stores = none;
}

-- ---- the steps of the run

pub next_in : (block : List Placed) (next : ℕ) (p : Placed) → next < length block → get_or block next p ≡ p
    → In p (drop next block)
next_in block next p l found = subst (λ ps. In p ps) (sym (drop_more block next p l)) (inl found)

pub ahead : (block : List Placed) (opening : Machine) (cycle next : ℕ) (flight : Flight) (machine : Machine)
    (exit : Exit) (room : ℕ) (p : Placed)
    → Running block opening cycle next flight machine exit room → next < length block → get_or block next p ≡ p
    → cycle ≤ p.cycle
ahead block opening cycle next flight machine exit room p h l found =
    let f : 8 * cycle + length flight.stores ≤ h.upto = h.flying.few in
    let g : h.upto ≤ listing_position p = h.flying.ahead p (next_in block next p l found) in
    let b : listing_position p < 8 * p.cycle + 8 = (position_of p).1 in omega arith

-- all that is not issued comes later, where the next instruction does
late_next : (block : List Placed) (cycle next : ℕ) (p : Placed) → Ascends block → next < length block
    → get_or block next p ≡ p → cycle < p.cycle
    → (q : Placed) → In q (drop next block) → cycle < q.cycle
late_next block cycle next p ascends l found later q k = grind (
  arith,
  drop_more block next p l,
  parts_at block next ascends,
  position_of p,
  position_of q,
)

pub begins : (block : Packed) (opening : Contents) (flight : Flight) (state : Contents) → IsSound opening.machine
    → length flight.slots ≡ 5 → ((t : ℕ) → due flight.slots t ≡ [])
    → flight.stores ≡ [] → state.machine ≡ opening.machine → length block.placed ≤ state.room
    → Running block.placed opening.machine 0 0 flight state.machine Next state.room
begins block opening flight state sound size none empty same enough = grind (
  arith,
  start block.placed opening.machine flight sound size none empty,
)

-- a cycle ends before the next instruction's
pub waits : (block : Packed) (opening : Machine) (cycle next : ℕ) (flight flight' : Flight) (state state' : Contents)
    (exit : Exit) (p : Placed) → IsPacketBlock block
    → Running block.placed opening cycle next flight state.machine exit state.room → next < length block.placed
    → get_or block.placed next p ≡ p → cycle < p.cycle
    → flight' ≡ after_end cycle flight → state' ≡ record state { machine = at_end cycle flight state.machine }
    → Running block.placed opening (cycle + 1) next flight' state'.machine exit state'.room
waits block opening cycle next flight flight' state state' exit p is h l found later e f = grind (
  arith,
  end_step block.placed opening cycle next h.upto flight state.machine (ascends block is) h.flying (late_next
      block.placed cycle next p (ascends block is) l found later),
  ascends block is,
  late_next block.placed cycle next p (ascends block is) l found later,
)

-- a cycle ends when all is issued
pub drains : (block : Packed) (opening : Machine) (cycle : ℕ) (flight flight' : Flight) (state state' : Contents)
    (exit : Exit) → IsPacketBlock block
    → Running block.placed opening cycle (length block.placed) flight state.machine exit state.room
    → flight' ≡ after_end cycle flight → state' ≡ record state { machine = at_end cycle flight state.machine }
    → Running block.placed opening (cycle + 1) (length block.placed) flight' state'.machine exit state'.room
drains block opening cycle flight flight' state state' exit is h e f = grind (
  arith,
  drop_of_length-le block.placed,
  end_step block.placed opening cycle (length block.placed) h.upto flight state.machine (ascends block is) h.flying,
  ascends block is,
)

-- the next instruction is issued
pub goes_on : (block : Packed) (opening : Machine) (cycle next : ℕ) (flight flight' : Flight) (state state' : Contents)
    (exit exit' : Exit) (target : Option Target) (p : Placed) → IsPacketBlock block
    → Running block.placed opening cycle next flight state.machine exit state.room → next < length block.placed
    → get_or block.placed next p ≡ p → p.cycle ≡ cycle
    → flight' ≡ issued cycle p.line (act_at p state.machine) flight
    → state'.machine ≡ with_fault_if p.line (is_fault (act_at p state.machine).access) state.machine
    → state.room ≤ state'.room + 1
    → target ≡ (act_at p state.machine).target → exit' ≡ exit_after exit target
    → Running block.placed opening cycle (next + 1) flight' state'.machine exit' state'.room
goes_on block opening cycle next flight flight' state state' exit exit' target p is h l found now e f rooms t x = grind (
  arith,
  next_in block.placed next p l found,
  take_more block.placed next p l,
  does block.placed opening cycle next h.upto flight state.machine p h.flying,
  In-drop block.placed next p,
  issue_step block.placed opening cycle next h.upto flight state.machine p (ascends block is) h.flying l found now,
  ascends block is,
  fold-append,
)

pub ready : (block : Packed) (opening : Machine) (cycle next : ℕ) (flight : Flight) (state : Contents) (exit : Exit)
    (p : Placed)
    → Running block.placed opening cycle next flight state.machine exit state.room → next < length block.placed
    → get_or block.placed next p ≡ p → p.cycle ≡ cycle → IsReady cycle p state.machine flight
ready block opening cycle next flight state exit p h l found now =
    is_ready block.placed opening cycle next h.upto flight state.machine p h.flying
    (next_in block.placed next p l found) now

-- an instruction is issued before the block is over
pub in_time : (block : Packed) (next : ℕ) (p : Placed) → IsPacketBlock block → next < length block.placed
    → get_or block.placed next p ≡ p → p.cycle < block.cycles
in_time block next p is l found = grind arith
