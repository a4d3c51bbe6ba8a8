-- Instances of a path are serial.
use Rattle.std.proofs.Common.{◌≡◌, ℕ, zero, suc, ◌+◌, ◌<◌, ◌≤◌, List, [], ◌∷◌, length, map, take, get_or, Some, None}
use Rattle.std.proofs.Common.{refl, sym, ◌∙◌, ap, subst, arith}
use Rattle.std.specs.Prelude.{◌↔◌, Contains}
use Rattle.std.specs.List.{slice_get}
use Rattle.std.proofs.lemmas.List.{take_all, get_or_default, get_or-map, length-map}
use Rattle.std.proofs.lemmas.List.Elements.{All-contains}
use Rattle.std.proofs.lemmas.List.Sums.{fold_more}
use Rattle.std.proofs.lemmas.Option.{slice_get-get_or, get_or_from_slice_get, slice_get_within}
use Rattle.c62_op.specs.declared.register.Letter.TheVariants.{L}
use Rattle.c62_op.specs.declared.register.Side.TheVariants.{A}
use Rattle.c62_op.specs.declared.register.Reg.{Reg}
use Rattle.c62_op.specs.declared.operands.Op.TheVariants.{B as Branch}
use Rattle.c62_op.specs.declared.operands.Operands.TheVariants.{Block}
use Rattle.c62_insn.specs.declared.insn.Insn.{Insn}
use Rattle.c62_rules.specs.Length.{landing_end}
use Rattle.c62_read.specs.declared.block.SerialInsn.{SerialInsn}
use Rattle.c62_serial.specs.declared.serial.Exit.TheVariants.{Next}
use Rattle.c62_serial.specs.State.{Machine, IsSound}
use Rattle.c62_serial.specs.Effect.{Act}
use Rattle.c62_serial.specs.Serial.{Ran, act_in, after_insn, serial}
use Rattle.c62_packet.specs.declared.placed.Placed.{Placed}
use Rattle.c62_packet.specs.Packed.{issue_of}
use Rattle.c62_meaning.specs.Packet.{Did, write_landing, word_before, byte_before, IsRun}
use Rattle.c62_meaning.specs.Meaning.{LeavesState}
use Rattle.c62_meaning.specs.Landed.{HasLanded}
use Rattle.c62_meaning.specs.Laws.{IsPlacingBy}
use Rattle.c62_meaning.specs.Instances.{DataBounds, MetBounds, Accesses, AreInstancesFrom, AreAsSerial}
use Rattle.c62_meaning.specs.Instances.{InstancesAreSerialFrom, InstancesAreSerial}
use Rattle.c62_meaning.proofs.Lookup.{In, In_from_Contains, Contains_from_In}
use Rattle.c62_meaning.proofs.SameRuns.{Numbered, ran_at, machine_at, serial_act, reg_writes, IsBlock, IsOrdered}
use Rattle.c62_meaning.proofs.SameRuns.{base_at, RunsAt, IsOver, sound_at, agrees, word_end, byte_end}
use Rattle.c62_meaning.proofs.Acting.{same_act}
use Rattle.c62_meaning.proofs.CellOrder.{AccessesAt, ordered}
use Rattle.c62_meaning.proofs.Ends.{AllStand, AllAgree, drained}
use Rattle.c62_meaning.proofs.Faulted.{faults_end}

-- ---- by number

pub in_map : {X Y : Type 0} (f : X → Y) (x : X) (xs : List X) → In x xs → In (f x) (map f xs)
in_map f x [] h = absurd h
in_map f x (y ∷ ys) h = grind (arith, in_map f x ys)

-- a run of instances that come in order, cell by cell
module _ (block : List Placed) (b : Numbered) (did : Did) (is : IsBlock block b) (stand : AllStand b)
    (order : IsOrdered b) (sound : IsSound b.opening)
    (run : IsRun block b.opening did) where
  runs : RunsAt block b did
  runs i l =
      run (b.at i) (Contains_from_In (b.at i) block (is.all i l))
      ∙ sym (same_act (b.entry i).insn (b.at i).insn b.opening.base (word_before block b.opening did (b.at i).cycle)
      (byte_before block b.opening did (b.at i).cycle) (stand i l).insn)

  pub all_agree : AllAgree b did
  all_agree i l = agrees block b did is order sound runs (suc (b.at i).cycle) i l (omega arith)

  -- once all has landed
  pub state_over : (t : ℕ) → IsOver b t → LeavesState block t b.opening did (machine_at b b.count)
  state_over t end = record {
    sound = sound_at b sound b.count;
    base = base_at b b.count;
    words = λ reg. sym (word_end block b did t reg is order sound runs end);
    bytes = λ a l. sym (byte_end block b did t a is order sound runs end);
    faults = λ line. faults_end block b did line is stand all_agree;
  }

  landing_in : (reg : Reg) (cycle i : ℕ) (h : HasLanded did (b.at i) reg cycle) → i < b.count
      → In (write_landing (b.at i).cycle ((reg, h.delay), h.value)) (reg_writes b i)
  landing_in reg cycle i h l =
      in_map (write_landing (b.at i).cycle) ((reg, h.delay), h.value) (serial_act b i).writes
      (subst (λ (a : Act). In ((reg, h.delay), h.value) a.writes) (all_agree i l)
      (In_from_Contains ((reg, h.delay), h.value) (did (b.at i)).writes h.writes))

  apart : (reg : Reg) (cycle i j : ℕ) → i < j → j < b.count → HasLanded did (b.at i) reg cycle
      → HasLanded did (b.at j) reg cycle → ⊥
  apart reg cycle i j lt l h k =
      let later : (b.at i).cycle + h.delay < (b.at j).cycle + k.delay
      = order.reg_order i j (write_landing (b.at i).cycle ((reg, h.delay), h.value))
      (write_landing (b.at j).cycle ((reg, k.delay), k.value)) lt l
      (landing_in reg cycle i h (omega (arith, lt, l))) (landing_in reg cycle j k l) refl in
      omega (arith, later, h.lands, k.lands)

  pub one_at : (reg : Reg) (cycle i j : ℕ) → i < b.count → j < b.count → HasLanded did (b.at i) reg cycle
      → HasLanded did (b.at j) reg cycle → i ≡ j
  one_at reg cycle i j l u h k = grind (arith, apart reg cycle i j, apart reg cycle j i)

-- ---- by place in a list

pub no_insn : Insn
no_insn = record { op = Branch; operands = Block 0; cond = None; unit = None; well_formed = refl }

abbrev pub no_entry : SerialInsn
no_entry = record { insn = no_insn; line = 0 }

abbrev pub no_placed : Placed
no_placed = record { insn = no_insn; line = 0; cycle = 0; unit = record { letter = L; side = A } }

abbrev pub numbered : List SerialInsn → List Placed → Machine → Numbered
numbered insns placed opening = record {
  entry = λ i. get_or insns i no_entry;
  at = λ i. get_or placed i no_placed;
  count = length insns;
  opening = opening;
}

ran_is : (insns : List SerialInsn) (placed : List Placed) (opening : Machine) (i : ℕ) → i ≤ length insns
    → ran_at (numbered insns placed opening) i ≡ serial (take i insns) opening
ran_is insns placed opening zero l = refl
ran_is insns placed opening (suc i) l =
    let e : i + 1 ≡ suc i = omega arith in
    ap (λ (r : Ran). after_insn r (get_or insns i no_entry)) (ran_is insns placed opening i (omega arith))
    ∙ sym (subst (λ k. serial (take k insns) opening ≡ after_insn (serial (take i insns) opening)
    (get_or insns i no_entry)) e
    (fold_more after_insn (record { machine = opening; exit = Next }) insns i no_entry (omega arith)))

pub serial_is : (insns : List SerialInsn) (placed : List Placed) (opening : Machine)
    → ran_at (numbered insns placed opening) (length insns) ≡ serial insns opening
serial_is insns placed opening =
    ran_is insns placed opening (length insns) (omega arith)
    ∙ ap (λ xs. serial xs opening) (take_all (length insns) insns (omega arith))

pub block_at : (insns : List SerialInsn) (placed block : List Placed) (opening : Machine) → length placed ≡ length insns
    → ((p : Placed) → Contains block p ↔ Contains placed p)
    → IsBlock block (numbered insns placed opening)
block_at insns placed block opening n h = record {
  all = λ i l.
      let u : i < length placed = omega arith in
      In_from_Contains (get_or placed i no_placed) block
      ((h (get_or placed i no_placed)).1
      (i, u, get_or_default placed i (get_or placed i no_placed) no_placed u));
  only = λ p k.
      let c = (h p).0 (Contains_from_In p block k) in
      let u : c.0 < length placed = c.1 in
      let l : c.0 < length insns = omega arith in
      (c.0, l, sym c.2 ∙ get_or_default placed c.0 p no_placed u);
}

pub stand_at : (insns : List SerialInsn) (placed : List Placed) (opening : Machine)
    → IsPlacingBy (MetBounds insns opening) insns placed → AllStand (numbered insns placed opening)
stand_at insns placed opening h i l =
    let n : length placed ≡ length insns = h.count in
    h.stands i (get_or insns i no_entry) (get_or placed i no_placed) (slice_get-get_or insns i no_entry l)
    (slice_get-get_or placed i no_placed (omega arith))

pub insn_at : (insns : List SerialInsn) (i : ℕ) → i < length insns
    → slice_get (map (λ (entry : SerialInsn). entry.insn) insns) i ≡ Some (get_or insns i no_entry).insn
insn_at insns i l =
    let u : i < length (map (λ (entry : SerialInsn). entry.insn) insns) = rw length-map l in
    slice_get-get_or (map (λ (entry : SerialInsn). entry.insn) insns) i no_insn u
    ∙ ap (λ (x : Insn). Some x) (get_or-map (λ (entry : SerialInsn). entry.insn) insns i no_entry no_insn l)

-- what meets by number meets in the path
accesses_in : (path : List SerialInsn) (placed : List Placed) (opening : Machine) (i address : ℕ) → i < length path
    → AccessesAt (numbered path placed opening) i address
    → Accesses path opening i address
accesses_in path placed opening i address l h = record {
  entry = get_or path i no_entry;
  is = slice_get-get_or path i no_entry l;
  access = h.access;
  accesses = ap (λ (ran : Ran). (act_in ran.machine (get_or path i no_entry)).access)
      (sym (ran_is path placed opening i (omega (arith, l)))) ∙ h.accesses;
  good = h.good;
  covers = (h.low, h.high);
}

pub order_at : (path : List SerialInsn) (placed : List Placed) (opening : Machine)
    → IsPlacingBy (MetBounds path opening) path placed → IsOrdered (numbered path placed opening)
order_at path placed opening h = ordered (numbered path placed opening) (record {
  path = map (λ (entry : SerialInsn). entry.insn) path;
  stands = λ i l. insn_at path i l;
  keeps = λ j k bound lt l applies is meet.
      let n : length placed ≡ length path = h.count in
      h.keeps j k (get_or placed j no_placed) (get_or placed k no_placed) bound
      (slice_get-get_or placed j no_placed (omega arith)) (slice_get-get_or placed k no_placed (omega arith))
      (record {
        bounds = record {
          bounds = record {
            first = (get_or path j no_entry).insn;
            second = (get_or path k no_entry).insn;
            is_first =
                insn_at path j (omega arith);
            is_second = insn_at path k l;
            before = lt;
            applies = applies;
          };
          of_data = is;
        };
        met = λ m. (let at = meet m in (
          at.0,
          accesses_in path placed opening j at.0 (omega (arith, lt, l)) at.1,
          accesses_in path placed
              opening k at.0 l at.2,
        ));
      });
})

-- what keeps all bounds of memory keeps those of what meets
met_placing : (path : List SerialInsn) (placed : List Placed) (opening : Machine) → IsPlacingBy DataBounds path placed
    → IsPlacingBy (MetBounds path opening) path placed
met_placing path placed opening h = grind arith

module _ (opening : Machine) (path : List SerialInsn) (issued : List Placed)
    (instances : AreInstancesFrom opening path issued) (did : Did) (sound : IsSound opening)
    (run : IsRun issued opening did) where
  abbrev placed : List Placed
  placed = instances.placed

  abbrev b : Numbered
  b = numbered path placed opening

  is : IsBlock issued b
  is = block_at path placed issued opening instances.placing.count instances.members

  stand : AllStand b
  stand = stand_at path placed opening instances.placing

  order : IsOrdered b
  order = order_at path placed opening instances.placing

  within : (i : ℕ) (p : Placed) → slice_get placed i ≡ Some p → i < length path
  within i p at = grind (arith, slice_get_within)

  landed : (reg : Reg) (cycle i : ℕ) (p : Placed) → slice_get placed i ≡ Some p → HasLanded did p reg cycle
      → HasLanded did (get_or placed i no_placed) reg cycle
  landed reg cycle i p at h = grind (arith, get_or_from_slice_get)

  pub are_as_serial : AreAsSerial path issued placed opening did
  are_as_serial = record {
    acts = λ i entry p at_i at_p.
        (let l : i < length path = slice_get_within path i entry at_i in
        sym (ap did (get_or_from_slice_get placed i p no_placed at_p))
        ∙ all_agree issued b did is stand order sound run i l
        ∙ ap (λ (ran : Ran). act_in ran.machine (get_or path i no_entry)) (ran_is path placed opening i (omega arith))
        ∙ ap (λ (x : SerialInsn). act_in (serial (take i path) opening).machine x)
        (get_or_from_slice_get path i entry no_entry at_i));
    one_by_one = λ i j p q reg cycle at_i at_j h k.
        one_at issued b did is stand order sound run reg cycle i j (within i p at_i) (within j q at_j)
        (landed reg cycle i p at_i h) (landed reg cycle j q at_j k);
    leaves = λ cycles late. subst (λ (ran : Ran). LeavesState issued cycles opening did ran.machine)
        (serial_is path placed opening)
        (state_over issued b did is stand order sound run cycles
        (drained issued b cycles is stand
        (λ p h. All-contains (λ q. landing_end (issue_of q) ≤ cycles) issued p late
        (Contains_from_In p issued h))));
  }

pub instances_are_serial_from : (opening : Machine) (path : List SerialInsn) (issued : List Placed)
    → InstancesAreSerialFrom opening path issued
instances_are_serial_from opening path issued = are_as_serial opening path issued

pub instances_are_serial : (path : List SerialInsn) (issued : List Placed) → InstancesAreSerial path issued
instances_are_serial path issued instances opening did sound run =
    instances_are_serial_from opening path issued
    (record {
      placed = instances.placed;
      placing = met_placing path instances.placed opening instances.placing;
      members = instances.members;
    }) did sound run
