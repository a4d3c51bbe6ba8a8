-- Each block of packets has one meaning, and packets of a placed block are serial.
use Rattle.std.proofs.Common.{◌≡◌, ℕ, suc, true, List, [], ◌∷◌, length, map, get_or, refl, sym, ◌∙◌, subst}
use Rattle.std.proofs.Common.{inl, inr, pos, ◌-ℤ◌, arith}
use Rattle.std.specs.Prelude.{fold}
use Rattle.std.specs.List.{flat_map, range_with_len}
use Rattle.std.proofs.lemmas.Int.{ints}
use Rattle.std.proofs.lemmas.List.FromFn.{get_or-map-range_with_len, length-map-range_with_len}
use Rattle.std.proofs.lemmas.Option.{slice_get-get_or}
use Rattle.c62_op.specs.Shape.{delay_of}
use Rattle.c62_insn.specs.Insn.{op_of}
use Rattle.c62_rules.specs.Dependence.{BeforeBranch}
use Rattle.c62_read.specs.declared.block.SerialInsn.{SerialInsn}
use Rattle.c62_read.specs.Block.{branch_last, operations}
use Rattle.c62_serial.specs.declared.serial.Exit.{Exit}
use Rattle.c62_serial.specs.declared.serial.Exit.TheVariants.{Next}
use Rattle.c62_serial.specs.State.{Machine, IsSound}
use Rattle.c62_serial.specs.Effect.{Act, is_fault}
use Rattle.c62_serial.specs.Serial.{Ran, exit_after, serial}
use Rattle.c62_serial.proofs.BranchLemmas.{branch_ends}
use Rattle.c62_serial.proofs.MachineLemmas.{same_machine}
use Rattle.c62_serial.proofs.RegisterLemmas.{index_within}
use Rattle.c62_packet.specs.declared.placed.Placed.{Placed}
use Rattle.c62_meaning.specs.Landing.{value_before}
use Rattle.c62_meaning.specs.Packet.{Did, register_landings, byte_before, IsRun}
use Rattle.c62_meaning.specs.Meaning.{HasFaulted, exit_by, LeavesState, Leaves, IsMeaning}
use Rattle.c62_meaning.specs.Laws.{HasOneMeaning, IsPlacingBy, IsPlacing, IsPacked, cycles_of, AreSerial}
use Rattle.c62_meaning.specs.Instances.{MetBounds}
use Rattle.c62_meaning.proofs.Lookup.{In, In_from_Contains}
use Rattle.c62_meaning.proofs.SameRuns.{Numbered, ran_at, IsBlock, IsOrdered}
use Rattle.c62_meaning.proofs.Runs.{the_run, the_run_runs, one_run, same_words, same_bytes}
use Rattle.c62_meaning.proofs.Ends.{AllStand, BranchLast, LandBeforeBranch, exit_end, over}
use Rattle.c62_meaning.proofs.Faulted.{lines_after, lines_rise, lines_hold}
use Rattle.c62_meaning.proofs.Instances.{no_entry, no_placed, numbered, serial_is, block_at, stand_at, insn_at}
use Rattle.c62_meaning.proofs.Instances.{order_at, all_agree, state_over}

-- ---- what a run leaves

-- a run leaves one machine
pub state_one : (block : List Placed) (cycles : ℕ) (opening : Machine) (did : Did) (one other : Machine)
    → LeavesState block cycles opening did one → LeavesState block cycles opening did other → one ≡ other
state_one block cycles opening did one other p q = same_machine one other p.sound q.sound (record {
  base = p.base ∙ sym q.base;
  words = λ reg. p.words reg ∙ sym (q.words reg);
  bytes = λ a l. p.bytes a l ∙ sym (q.bytes a l);
  faults = λ line. ((λ c. (q.faults line).1 ((p.faults line).0 c)), (λ c. (p.faults line).1 ((q.faults line).0 c)));
})

-- and one exit
leaves_one : (block : List Placed) (cycles : ℕ) (opening : Machine) (did : Did) (one other : Ran)
    → Leaves block cycles opening did one → Leaves block cycles opening did other → one ≡ other
leaves_one block cycles opening did one other p q = grind (
  arith,
  state_one block cycles opening did one.machine other.machine p.state q.state,
)

exit_same : (did did' : Did) (ps : List Placed) (exit : Exit) → ((p : Placed) → In p ps → did p ≡ did' p)
    → fold (λ exit p. exit_after exit (did p).target) exit ps ≡ fold (λ exit p. exit_after exit (did' p).target) exit ps
exit_same did did' [] exit h = refl
exit_same did did' (p ∷ ps) exit h = grind (arith, exit_same did did' ps (exit_after exit (did' p).target))

faulted_same : (block : List Placed) (did did' : Did) (line : ℕ) → ((p : Placed) → In p block → did p ≡ did' p)
    → HasFaulted block did line → HasFaulted block did' line
faulted_same block did did' line same h = record {
  placed = h.placed;
  inside = h.inside;
  of_line = h.of_line;
  faults = subst (λ (a : Act). is_fault a.access ≡ true) (same h.placed (In_from_Contains h.placed block h.inside))
      h.faults;
}

-- what does the same leaves the same
pub state_same : (block : List Placed) (cycles : ℕ) (opening : Machine) (did did' : Did) (final : Machine)
    → ((p : Placed) → In p block → did p ≡ did' p)
    → LeavesState block cycles opening did final → LeavesState block cycles opening did' final
state_same block cycles opening did did' final same h = record {
  sound = h.sound;
  base = h.base;
  words = λ reg. h.words reg ∙ same_words block opening did did' cycles reg (λ p i l. same p i);
  bytes = λ a l. h.bytes a l ∙ same_bytes block opening did did' cycles a (λ p i l. same p i);
  faults = λ line. (
    (λ c. elim ((h.faults line).0 c) [ inl q ↦ inl q | inr q ↦ inr (faulted_same block did did' line same q) ]),
    (λ c. (h.faults line).1
        (elim c [ inl q ↦ inl q | inr q ↦ inr (faulted_same block did' did line (λ p i. sym (same p i)) q) ])),
  );
}

pub leaves_same : (block : List Placed) (cycles : ℕ) (opening : Machine) (did did' : Did) (ran : Ran)
    → ((p : Placed) → In p block → did p ≡ did' p)
    → Leaves block cycles opening did ran → Leaves block cycles opening did' ran
leaves_same block cycles opening did did' ran same h = grind (
  arith,
  state_same block cycles opening did did' ran.machine same h.state,
  exit_same did did' block Next same,
)

-- a meaning is what the run of the block leaves
pub meaning_leaves : (block : List Placed) (cycles : ℕ) (opening : Machine) (ran : Ran) (did : Did)
    → IsRun block opening did → IsMeaning block cycles opening ran
    → Leaves block cycles opening did ran
meaning_leaves block cycles opening ran did run m =
    leaves_same block cycles opening m.did did ran
    (λ p h. one_run block opening m.did did m.run run (suc p.cycle) p h (omega arith)) m.leaves

pub one_meaning : (block : List Placed) (cycles : ℕ) (opening : Machine) (one other : Ran)
    → IsMeaning block cycles opening one → IsMeaning block cycles opening other → one ≡ other
one_meaning block cycles opening one other p q =
    leaves_one block cycles opening p.did one other p.leaves (meaning_leaves block cycles opening other p.did p.run q)

-- ---- every block has a meaning

abbrev pub made : List Placed → ℕ → Machine → Did → Machine
made block cycles opening did = record {
  base = opening.base;
  registers = map (λ cell. value_before cell cycles (flat_map (register_landings did) block)
      (get_or opening.registers cell 0)) (range_with_len 0 (length opening.registers));
  memory = map (λ a. byte_before block opening did cycles a) (range_with_len 0 (length opening.memory));
  faults = lines_after did opening.faults block;
}

made_sound : (block : List Placed) (cycles : ℕ) (opening : Machine) (did : Did) → IsSound opening
    → IsSound (made block cycles opening did)
made_sound block cycles opening did sound = record {
  registers = length-map-range_with_len _ 0 (length opening.registers) ∙ sound.registers;
  memory = length-map-range_with_len _ 0 (length opening.memory) ∙ sound.memory;
  rising = lines_rise did opening.faults block sound.rising;
}

pub made_leaves : (block : List Placed) (cycles : ℕ) (opening : Machine) (did : Did) → IsSound opening
    → LeavesState block cycles opening did (made block cycles opening did)
made_leaves block cycles opening did sound = grind (
  arith,
  made_sound block cycles opening did sound,
  index_within,
  get_or-map-range_with_len,
  lines_hold did opening.faults block,
)

pub has_one_meaning : (block : List Placed) (cycles : ℕ) (opening : Machine) → IsSound opening
    → HasOneMeaning block cycles opening
has_one_meaning block cycles opening sound =
    let did = the_run block opening in
    let ran : Ran = record { machine = made block cycles opening did; exit = exit_by did block } in
    let m : IsMeaning block cycles opening ran = record {
      did = did;
      run = the_run_runs block opening;
      leaves = record
          { state = made_leaves block cycles opening did sound; exit = refl };
    } in
    record { ran = ran; is = m; only = λ other h. one_meaning block cycles opening other ran h m }

-- ---- packets are serial

-- what keeps all bounds keeps those of registers and memory
data_placing : (insns : List SerialInsn) (placed : List Placed) (opening : Machine) → IsPlacing insns placed
    → IsPlacingBy (MetBounds insns opening) insns placed
data_placing insns placed opening h = grind arith

-- and that of a branch
land_at : (insns : List SerialInsn) (placed : List Placed) (opening : Machine) → IsPlacing insns placed
    → LandBeforeBranch (numbered insns placed opening)
land_at insns placed opening h j k lt l branching =
    let n : length placed ≡ length insns = h.count in
    let bound = h.keeps j k (get_or placed j no_placed) (get_or placed k no_placed)
    (pos (delay_of (op_of (get_or insns j no_entry).insn)) -ℤ pos 5)
    (slice_get-get_or placed j no_placed (omega arith)) (slice_get-get_or placed k no_placed (omega arith))
    (record {
      first = (get_or insns j no_entry).insn;
      second = (get_or insns k no_entry).insn;
      is_first = insn_at insns
          j (omega arith);
      is_second = insn_at insns k l;
      before = lt;
      applies = BeforeBranch branching refl;
    }) in
    omega (arith, ints, bound)

branch_at : (insns : List SerialInsn) (placed : List Placed) (opening : Machine) → branch_last (operations insns) ≡ true
    → BranchLast (numbered insns placed opening)
branch_at insns placed opening last i l t = branch_ends insns i no_entry last l t

-- a run of packets is one of instances, all of which have landed when the branch takes effect
serial_leaves : (block : List Placed) (b : Numbered) (did : Did) → IsBlock block b → AllStand b → IsOrdered b
    → LandBeforeBranch b → BranchLast b → IsSound b.opening
    → IsRun block b.opening did → Leaves block (cycles_of block) b.opening did (ran_at b b.count)
serial_leaves block b did is stand order lands last sound run = record {
  state = state_over block b did is stand order sound run (cycles_of block) (over block b is stand lands last);
  exit = sym (exit_end block b did is (all_agree block b did is stand order sound run) last);
}

pub are_serial : (insns : List SerialInsn) (block : List Placed) → branch_last (operations insns) ≡ true
    → IsPacked insns block → AreSerial insns block
are_serial insns block last packed opening ran sound =
    let b = numbered insns packed.placed opening in
    let did = the_run block opening in
    let placing : IsPlacingBy (MetBounds insns opening) insns packed.placed = data_placing insns packed.placed opening
    packed.placing in
    let leaves : Leaves block (cycles_of block) opening did (ran_at b (length insns))
    = serial_leaves block b did (block_at insns packed.placed block opening placing.count packed.members)
    (stand_at insns packed.placed opening placing)
    (order_at insns packed.placed opening placing) (land_at insns packed.placed opening packed.placing)
    (branch_at insns packed.placed opening last) sound (the_run_runs block opening) in
    let e : ran_at b (length insns) ≡ serial insns opening = serial_is insns packed.placed opening in (
      (λ m. leaves_one block (cycles_of block) opening did ran (ran_at b (length insns))
          (meaning_leaves block (cycles_of block) opening ran did (the_run_runs block opening) m) leaves ∙ e),
      (λ q. record {
        did = did;
        run = the_run_runs block opening;
        leaves = subst
            (λ r. Leaves block (cycles_of block) opening did r) (e ∙ sym q) leaves;
      }),
    )
