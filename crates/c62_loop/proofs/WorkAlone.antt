-- The path of a pipelining without its control.
use Rattle.std.proofs.Common.{Bool, true, ◌≡◌, ℕ, ◌+◌, ◌-◌, ◌^◌, ◌<◌, ◌≤◌, false, List, ◌++◌, map, length, get_or, take}
use Rattle.std.proofs.Common.{Some, refl, sym, ◌∙◌, ap, subst, ◌⊎◌, inl, inr, ⊎_elim, arith}
use Rattle.std.specs.Prelude.{slice_get, option_map}
use Rattle.std.proofs.lemmas.Bool.{cases_lt}
use Rattle.std.proofs.lemmas.Option.{same_Some, slice_get-map, slice_get-get_or, slice_get_within}
use Rattle.std.proofs.lemmas.List.{length-map}
use Rattle.c62_op.specs.declared.register.Reg.{Reg}
use Rattle.c62_insn.specs.declared.insn.Insn.{Insn}
use Rattle.c62_insn.specs.Insn.{reads_register}
use Rattle.c62_rules.specs.Exclusive.{writes_in}
use Rattle.c62_read.specs.declared.block.SerialInsn.{SerialInsn}
use Rattle.c62_serial.specs.State.{Machine, IsSound, with_word}
use Rattle.c62_serial.specs.Effect.{Act}
use Rattle.c62_serial.specs.Serial.{act_in, serial}
use Rattle.c62_serial.proofs.MachineLemmas.{sound_run}
use Rattle.c62_packet.specs.declared.placed.Placed.{Placed}
use Rattle.c62_meaning.specs.Instances.{Accesses, Meet}
use Rattle.c62_meaning.proofs.Lookup.{In}
use Rattle.c62_meaning.proofs.Instances.{no_placed}
use Rattle.c62_loop.specs.Counter.{touches, steps_in, IsCounted, work_of}
use Rattle.c62_loop.specs.Loop.{Region, loop_path, trips_of, Pipelined, interval}
use Rattle.c62_loop.specs.Whole.{insns_in, work_path, entry_of, IsControl}
use Rattle.c62_loop.proofs.Lists.{in_take, at_place, get_front, get_back, taken_whole, taken_more, from_mapped}
use Rattle.c62_loop.proofs.Lists.{in_mapped}
use Rattle.c62_loop.proofs.Machines.{machine_after, serial_machine}
use Rattle.c62_loop.proofs.Apart.{acts_alike, free_commutes, apart}
use Rattle.c62_loop.proofs.Counting.{after_both, serial_both, in_work, no_work}
use Rattle.c62_loop.proofs.Between.{IsUnread}
use Rattle.c62_loop.proofs.Standing.{stand_count}
use Rattle.c62_loop.proofs.Core.{Core}
use Rattle.c62_loop.proofs.PassControl.{control_of}
use Rattle.c62_loop.proofs.Asked.{unread_by_work}
use Rattle.c62_loop.proofs.Steered.{each_control, control_counts}
use Rattle.std.proofs.lemmas.Bool.Decides.{nat_tests}

-- number i of a path is number a without the control
abbrev pub Alone : List Placed → List Placed → ℕ → ℕ → Type 0
Alone before control i a = ((a ≡ i) × (i < length before))
    ⊎ ((k : ℕ) × (i ≡ length before + (length control + k)) × (a ≡ length before + k))

pub insn_same : (xs ys : List SerialInsn) (i k : ℕ) → slice_get xs i ≡ slice_get ys k
    → slice_get (insns_in xs) i ≡ slice_get (insns_in ys) k
insn_same xs ys i k e = grind (arith, slice_get-map)

module _ (promised : Insn → Insn → Bool) (region : Region) (loop : Pipelined) (most passes : ℕ)
    (m : Core promised region loop most passes) (some : 0 < passes) (opening : Machine) (sound : IsSound opening)
    (begins : trips_of region opening ≡ most + passes) (small : most + passes < 2 ^ 32) where
  abbrev counter : Reg
  counter = region.counter

  abbrev trips : ℕ
  trips = most + passes

  abbrev control : List Placed
  control = control_of m.control (interval loop) passes

  abbrev entries : List SerialInsn
  entries = map entry_of control

  abbrev work : List SerialInsn
  work = work_of counter (loop_path region trips)

  abbrev path : List SerialInsn
  path = region.before ++ (entries ++ work)

  -- without the control
  abbrev alone : List SerialInsn
  alone = work_path region trips

  abbrev before : List Placed
  before = m.before

  -- where the instructions above the label lead
  abbrev start : Machine
  start = (serial region.before opening).machine

  sound_start : IsSound start
  sound_start = sound_run region.before opening sound

  pub same_before : length before ≡ length region.before
  same_before = stand_count region.before before m.stand_before

  same_length : length entries ≡ length control
  same_length = length-map control entry_of

  pub is_control : (p : Placed) → In p control → IsControl counter loop.label p
  is_control = each_control counter loop most passes m.control m.steering some

  abbrev insns : List Insn
  insns = insns_in path

  control_at : (i k : ℕ) → i ≡ length before + k → k < length control → slice_get path i ≡ slice_get entries k
  control_at i k e l = grind (arith, same_before, same_length, get_back region.before, get_front)

  pub work_at : (i k : ℕ) → i ≡ length before + (length control + k) → slice_get path i ≡ slice_get work k
  work_at i k e =
      let b : length before ≡ length region.before = same_before in
      let c : length entries ≡ length control = same_length in
      get_back region.before (entries ++ work) i (length control + k) (omega arith)
      ∙ get_back entries work (length control + k) k (omega arith)

  pub insn_of_control : (i k : ℕ) (p : Placed) → i ≡ length before + k → slice_get control k ≡ Some p
      → slice_get insns i ≡ Some p.insn
  insn_of_control i k p e at =
      insn_same path entries i k (control_at i k e (slice_get_within control k p at))
      ∙ slice_get-map (λ (entry : SerialInsn). entry.insn) entries k
      ∙ ap (λ o. option_map (λ (entry : SerialInsn). entry.insn) o)
      (slice_get-map entry_of control k ∙ ap (λ o. option_map entry_of o) at)

  -- ---- the path without the control

  entry_alone : (i a : ℕ) → Alone before control i a → slice_get path i ≡ slice_get alone a
  entry_alone i a (inl (e, l)) = grind (arith, same_before, get_front region.before)
  entry_alone i a (inr (k, e, f)) = grind (arith, same_before, work_at i k e, get_back region.before)

  pub insn_alone : (i a : ℕ) → Alone before control i a → slice_get insns i ≡ slice_get (insns_in alone) a
  insn_alone i a h = insn_same path alone i a (entry_alone i a h)

  pub is_work : (entry : SerialInsn) → In entry work → touches counter entry ≡ false
  is_work entry h = (in_work counter (loop_path region trips) entry h).1

  touched : (entry : SerialInsn) → In entry entries → touches counter entry ≡ true
  touched entry h =
      let r = in_mapped entry_of control entry h in
      subst (λ z. touches counter z ≡ true) (sym r.2) (is_control r.0 r.1).touch

  counted : (entry : SerialInsn) → In entry entries → IsCounted counter loop.label entry
  counted entry h =
      let r = in_mapped entry_of control entry h in
      subst (λ z. IsCounted counter loop.label z) (sym r.2) (is_control r.0 r.1).counted

  abbrev left : ℕ
  left = trips - steps_in counter entries

  -- behind the control the machine is that without it, but for the counter
  behind_control : (k : ℕ) → (serial (entries ++ take k work) start).machine ≡ with_word counter left
      (serial (take k work) start).machine
  behind_control k =
      serial_machine (entries ++ take k work) start
      ∙ after_both entries (take k work) start
      ∙ ap (λ (machine : Machine). machine_after (take k work) machine)
      (apart counter loop.label entries trips start counted
      (control_counts counter loop most passes m.control m.steering some) sound_start begins small
      ∙ ap (λ (p : List SerialInsn). with_word counter left (machine_after p start)) (no_work counter entries touched))
      ∙ free_commutes counter (take k work) (λ e h. is_work e (in_take k work e h)) left start
      ∙ ap (λ (machine : Machine). with_word counter left machine) (sym (serial_machine (take k work) start))

  machine_alone : (i a k : ℕ) → i ≡ length before + (length control + k) → a ≡ length before + k
      → (serial (take i path) opening).machine ≡ with_word counter left (serial (take a alone) opening).machine
  machine_alone i a k e f = grind (arith, nat_tests, same_before, same_length, taken_more, serial_both, behind_control)

  -- each acts as it does without the control
  acts_alone : (i a : ℕ) (entry : SerialInsn) → Alone before control i a → slice_get path i ≡ Some entry
      → act_in (serial (take i path) opening).machine entry ≡ act_in (serial (take a alone) opening).machine entry
  acts_alone i a entry (inl (e, l)) at =
      let b : length before ≡ length region.before = same_before in
      let here : slice_get region.before i ≡ Some entry
      = sym (get_front region.before (entries ++ work) i (omega arith)) ∙ at in
      ap (λ (xs : List SerialInsn). act_in (serial xs opening).machine entry)
      (taken_whole region.before (entries ++ work) i entry here
      ∙ sym (taken_whole region.before work i entry here)
      ∙ ap (λ (n : ℕ). take n alone) (sym e))
  acts_alone i a entry (inr (k, e, f)) at =
      let here : slice_get work k ≡ Some entry = sym (work_at i k e) ∙ at in
      ap (λ (machine : Machine). act_in machine entry) (machine_alone i a k e f)
      ∙ acts_alike counter entry (is_work entry (at_place work k entry here)) left
      (serial (take a alone) opening).machine

  accesses_alone : (i a address : ℕ) → Alone before control i a → Accesses path opening i address
      → Accesses alone opening a address
  accesses_alone i a address is h = record {
    entry = h.entry;
    is = sym (entry_alone i a is) ∙ h.is;
    access = h.access;
    accesses = ap (λ (act : Act). act.access) (sym (acts_alone i a h.entry is h.is)) ∙ h.accesses;
    good = h.good;
    covers = h.covers;
  }

  pub meet_alone : (i j a b : ℕ) → Alone before control i a → Alone before control j b → Meet path opening i j
      → Meet alone opening a b
  meet_alone i j a b e f (address, one, other) =
      (address, accesses_alone i a address e one, accesses_alone j b address f other)

  -- ---- what stands between

  pub in_order : (i j a b : ℕ) → Alone before control i a → Alone before control j b → i < j → a < b
  in_order i j a b h k lt = grind arith

  abbrev Between : ℕ → ℕ → ℕ → Insn → Type 0
  Between a b j insn = ((n : ℕ) × (a ≤ n) × (n < b) × (slice_get (insns_in alone) n ≡ Some insn))
      ⊎ ((reg : Reg) → writes_in reg (Some insn) ≡ true → IsUnread (slice_get insns j) reg)

  -- the control writes only what the work doesn't read
  control_between : (k j b n : ℕ) (insn : Insn) → k ≡ length before + n → n < length control → k < j
      → Alone before control j b
      → slice_get insns k ≡ Some insn → (reg : Reg) → writes_in reg (Some insn) ≡ true
      → IsUnread (slice_get insns j) reg
  control_between k j b n insn e l u (inl (f, v)) at reg writes last is_last = absurd (omega arith)
  control_between k j b n insn e l u (inr (t, f, g)) at reg writes last is_last =
      let p : Placed = get_or control n no_placed in
      let at_p : slice_get control n ≡ Some p = slice_get-get_or control n no_placed l in
      let one : p.insn ≡ insn = same_Some p.insn insn (sym (insn_of_control k n p e at_p) ∙ at) in
      let r = from_mapped (λ (entry : SerialInsn). entry.insn) work t last
      (sym (insn_same path work j t (work_at j t f)) ∙ is_last) in
      subst (λ x. reads_register x reg ≡ false) (sym r.2)
      (unread_by_work counter loop.label p r.0 (is_control p (at_place control n p at_p))
      (is_work r.0 (at_place work t r.0 r.1)) reg (subst (λ x. writes_in reg (Some x) ≡ true) (sym one) writes))

  pub between : (i j a b : ℕ) → Alone before control i a → Alone before control j b → (k : ℕ) (insn : Insn) → i ≤ k
      → k < j
      → slice_get insns k ≡ Some insn → Between a b j insn
  between i j a b is_i is_j k insn low high at =
      ⊎_elim {C = Between a b j insn} (λ (l : k < length before). inl (
        k,
        above is_i,
        ahead l is_j,
        sym
            (insn_alone k k (inl (refl, l))) ∙ at,
      ))
      (λ (l : length before ≤ k). ⊎_elim {C = Between a b j insn}
      (λ (u : k < length before + length control). grind (arith, control_between k j b (k - length before) insn))
      (λ (u : length before + length control ≤ k). inl (
        k - length control,
        later is_i u,
        sooner is_j u,
        sym
            (insn_alone k (k - length control)
            (inr (k - length before - length control, omega arith, omega arith))) ∙ at,
      ))
      (cases_lt k (length before + length control)))
      (cases_lt k (length before))
    where
      above : Alone before control i a → a ≤ k
      above h = grind arith

      ahead : k < length before → Alone before control j b → k < b
      ahead l h = grind arith

      later : Alone before control i a → length before + length control ≤ k → a ≤ k - length control
      later h u = grind arith

      sooner : Alone before control j b → length before + length control ≤ k → k - length control < b
      sooner h u = grind arith
