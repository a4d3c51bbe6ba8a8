-- What the counter of a pipelined loop holds behind each of its control, and where that leads.
use Rattle.std.proofs.Common.{◌≡◌, ℕ, ◌+◌, ◌-◌, ◌^◌, ◌<◌, ◌≤◌, true, false, List, ◌++◌, length, take, Some, None, refl}
use Rattle.std.proofs.Common.{sym, ◌∙◌, ap, arith}
use Rattle.std.specs.Prelude.{slice_get}
use Rattle.std.proofs.lemmas.Bool.{false≢true}
use Rattle.std.proofs.lemmas.List.{get_or-set_same}
use Rattle.c62_op.specs.declared.register.Reg.{Reg}
use Rattle.c62_op.specs.Shape.{is_branch}
use Rattle.c62_insn.specs.Insn.{op_of}
use Rattle.c62_insn.specs.declared.effect.Target.{Target}
use Rattle.c62_insn.specs.declared.effect.Target.TheVariants.{Block as ToBlock}
use Rattle.c62_read.specs.declared.block.SerialInsn.{SerialInsn}
use Rattle.c62_serial.specs.State.{Machine, IsSound, word_in, byte_in, with_word}
use Rattle.c62_serial.proofs.MachineLemmas.{sound_run}
use Rattle.c62_serial.specs.Effect.{Act}
use Rattle.c62_serial.specs.Serial.{act_in, serial}
use Rattle.c62_serial.proofs.RegisterLemmas.{index_within}
use Rattle.c62_serial.proofs.BranchLemmas.{goes_branch}
use Rattle.c62_packet.specs.declared.placed.Placed.{Placed}
use Rattle.c62_meaning.specs.Packet.{Did}
use Rattle.c62_meaning.proofs.Lookup.{In}
use Rattle.c62_loop.specs.Along.{ActSerially}
use Rattle.c62_loop.specs.Counter.{steps_on, touches, IsCounted, steps_in, work_of}
use Rattle.c62_loop.specs.Loop.{Region, loop_path, trips_of, IsCountedLoop, Pipelined, IsMatch}
use Rattle.c62_loop.proofs.Lists.{in_take, at_place, get_back, front_at, taken_whole, taken_more}
use Rattle.c62_loop.proofs.Machines.{machine_after, serial_machine, In-All}
use Rattle.c62_loop.proofs.Apart.{apart}
use Rattle.c62_loop.proofs.Counting.{serial_both, counts_front, in_work, no_work, path_counted}
use Rattle.std.proofs.lemmas.Bool.Decides.{nat_tests}

module _ (region : Region) (loop : Pipelined) (trips passes : ℕ) (counted : IsCountedLoop region) (opening : Machine)
    (m : IsMatch region loop trips passes opening) (sound : IsSound opening)
    (begins : trips_of region opening ≡ trips) (small : trips < 2 ^ 32) where
  abbrev counter : Reg
  counter = region.counter

  abbrev work : List SerialInsn
  work = work_of counter (loop_path region trips)

  abbrev path : List SerialInsn
  path = region.before ++ (m.control ++ work)

  -- where the instructions above the label lead
  abbrev start : Machine
  start = (serial region.before opening).machine

  sound_start : IsSound start
  sound_start = sound_run region.before opening sound

  abbrev placed : List Placed
  placed = m.instances.placed

  pub touched : (entry : SerialInsn) → In entry m.control → touches counter entry ≡ true
  touched = In-All (λ entry. touches counter entry ≡ true) m.control m.touch

  pub is_counted : (entry : SerialInsn) → In entry m.control → IsCounted counter loop.label entry
  is_counted = In-All (IsCounted counter loop.label) m.control m.counted

  -- steps and branches leave the machine as it was, but for the counter
  controlled : (i : ℕ) → machine_after (take i m.control) start ≡ with_word counter
      (trips - steps_in counter (take i m.control)) start
  controlled i =
      apart counter loop.label (take i m.control) trips start (λ e h. is_counted e (in_take i m.control e h))
      (counts_front counter i trips m.control m.counts) sound_start begins small
      ∙ ap (λ (p : List SerialInsn). with_word counter (trips - steps_in counter (take i m.control))
      (machine_after p start))
      (no_work counter (take i m.control) (λ e h. touched e (in_take i m.control e h)))

  holds : (i : ℕ) → word_in (serial (take i m.control) start).machine counter ≡ trips - steps_in counter
      (take i m.control)
  holds i = grind (arith, nat_tests, serial_machine, controlled, get_or-set_same, sound_start, index_within)

  -- none above the label is a branch,
  pub before_straight : (entry : SerialInsn) → In entry region.before → is_branch (op_of entry.insn) ≡ false
  before_straight = In-All (λ entry. is_branch (op_of entry.insn) ≡ false) region.before counted.straight_before

  -- nor is work
  pub work_straight : (entry : SerialInsn) → In entry work → is_branch (op_of entry.insn) ≡ false
  work_straight entry h = grind (arith, in_work, path_counted region counted trips entry)

  -- ---- where the control leads

  module _ (did : Did) (acts : ActSerially path placed opening did) where
    -- each of the control does what it does behind the instructions above the label
    act_at : (i : ℕ) (entry : SerialInsn) (p : Placed) → slice_get m.control i ≡ Some entry
        → slice_get placed (length region.before + i) ≡ Some p
        → did p ≡ act_in (serial (take i m.control) start).machine entry
    act_at i entry p at_i at_p =
        acts (length region.before + i) entry p
        (get_back region.before (m.control ++ work) (length region.before + i) i refl
        ∙ front_at m.control work i entry at_i) at_p
        ∙ ap (λ (front : List SerialInsn). act_in (serial front opening).machine entry)
        (taken_more region.before (m.control ++ work) i
        ∙ ap (λ (front : List SerialInsn). region.before ++ front) (taken_whole m.control work i entry at_i))
        ∙ ap (λ (machine : Machine). act_in machine entry) (serial_both region.before (take i m.control) opening)

    -- a branch goes to the label while the counter isn't 0
    pub goes_on : (i : ℕ) (entry : SerialInsn) (p : Placed) → slice_get m.control i ≡ Some entry
        → slice_get placed (length region.before + i) ≡ Some p → steps_on counter entry ≡ false
        → steps_in counter (take i m.control) < trips → (did p).target ≡ Some (ToBlock loop.label)
    goes_on i entry p at_i at_p f l =
        let h : In entry m.control = at_place m.control i entry at_i in
        grind (arith, nat_tests, holds i, act_at i entry p at_i at_p, is_counted entry h, touched entry h)

    pub stays : (i : ℕ) (entry : SerialInsn) (p : Placed) → slice_get m.control i ≡ Some entry
        → slice_get placed (length region.before + i) ≡ Some p → steps_on counter entry ≡ false
        → trips ≤ steps_in counter (take i m.control) → (did p).target ≡ None
    stays i entry p at_i at_p f l =
        let h : In entry m.control = at_place m.control i entry at_i in
        grind (arith, holds i, act_at i entry p at_i at_p, is_counted entry h, touched entry h)

    -- a step goes nowhere
    pub steps_stay : (i : ℕ) (entry : SerialInsn) (p : Placed) → slice_get m.control i ≡ Some entry
        → slice_get placed (length region.before + i) ≡ Some p → steps_on counter entry ≡ true
        → (did p).target ≡ None
    steps_stay i entry p at_i at_p t = grind (
      arith,
      nat_tests,
      act_at i entry p at_i at_p,
      at_place m.control i entry at_i,
      holds i,
      is_counted entry,
    )

    -- what is no branch goes nowhere
    pub straight : (i : ℕ) (entry : SerialInsn) (p : Placed) → slice_get path i ≡ Some entry
        → slice_get placed i ≡ Some p
        → is_branch (op_of entry.insn) ≡ false → (target : Target) → (did p).target ≡ Some target → ⊥
    straight i entry p at_i at_p none target e =
        false≢true (sym none
        ∙ goes_branch entry.insn (serial (take i path) opening).machine.base
        (word_in (serial (take i path) opening).machine)
        (byte_in (serial (take i path) opening).machine) target
        (ap (λ (a : Act). a.target) (sym (acts i entry p at_i at_p)) ∙ e))
