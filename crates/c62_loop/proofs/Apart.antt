-- The counter and its branches stand apart from the work of a path.
use Rattle.std.proofs.Common.{◌≡◌, ◌≢◌, ℕ, suc, ◌+◌, ◌-◌, ◌^◌, ◌<◌, ◌≤◌, Bool, true, false, not, cond, List, []}
use Rattle.std.proofs.Common.{◌∷◌, length, get_or, set, take, refl, sym, ◌∙◌, ap, subst, inl, inr, ⊎_elim, arith}
use Rattle.std.specs.Prelude.{fold}
use Rattle.std.specs.List.{list_any}
use Rattle.std.proofs.lemmas.Bool.{cases_Bool, cond-true, cond-false, or_left, or_right}
use Rattle.std.proofs.lemmas.List.{set-get_or, set_comm, get_or-set_same, get_or-set_other}
use Rattle.c62_op.specs.declared.register.Reg.{Reg}
use Rattle.c62_op.proofs.Registers.{same_register, same_reg-refl}
use Rattle.c62_insn.specs.Insn.{register_writes, reads_register}
use Rattle.c62_read.specs.declared.block.SerialInsn.{SerialInsn}
use Rattle.c62_serial.specs.State.{Machine, IsSound, index_of, machine_of, word_in, byte_in, with_word}
use Rattle.c62_serial.specs.Serial.{after_write, after_entry, act_in}
use Rattle.c62_serial.proofs.RegisterLemmas.{index_within}
use Rattle.c62_serial.proofs.MachineLemmas.{sound_act}
use Rattle.c62_meaning.proofs.Lookup.{In}
use Rattle.c62_meaning.proofs.Acting.{act_same}
use Rattle.c62_meaning.proofs.Landings.{act_writes}
use Rattle.c62_loop.specs.Counter.{size_of, steps_on, touches, IsCounted, steps_in, CountsFrom, work_of}
use Rattle.c62_loop.specs.Counter.{CounterStandsApart}
use Rattle.c62_loop.proofs.Machines.{machine_after, serial_machine, In-All}
use Rattle.std.proofs.lemmas.Bool.Decides.{nat_tests}

-- ---- registers that are set

set_again : (xs : List ℕ) (i a b : ℕ) → set (set xs i a) i b ≡ set xs i b
set_again [] i a b = refl
set_again (x ∷ xs) i a b = grind (arith, set_again xs)

pub any_in : {X : Type 0} (f : X → Bool) (x : X) (xs : List X) → In x xs → f x ≡ true → list_any f xs ≡ true
any_in f x [] h e = absurd h
any_in f x (y ∷ xs) h e = grind (arith, any_in f x xs)

module _ (counter : Reg) where
  abbrev Elsewhere : List ((Reg × ℕ) × ℕ) → Type 0
  Elsewhere writes = (w : (Reg × ℕ) × ℕ) → In w writes → index_of w.0.0 ≡ index_of counter → ⊥

  set_writes : (writes : List ((Reg × ℕ) × ℕ)) (registers : List ℕ) (v : ℕ) → Elsewhere writes
      → fold after_write (set registers (index_of counter) v) writes ≡ set (fold after_write registers writes)
      (index_of counter) v
  set_writes [] registers v h = refl
  set_writes (w ∷ writes) registers v h =
      ap (λ (rs : List ℕ). fold after_write rs writes)
      (set_comm registers (index_of counter) (index_of w.0.0) v w.1 (λ e. h w (inl refl) (sym e)))
      ∙ set_writes writes (set registers (index_of w.0.0) w.1) v (λ x k. h x (inr k))

  pub kept : (writes : List ((Reg × ℕ) × ℕ)) (registers : List ℕ) → Elsewhere writes
      → get_or (fold after_write registers writes) (index_of counter) 0 ≡ get_or registers (index_of counter) 0
  kept [] registers h = refl
  kept (w ∷ writes) registers h =
      kept writes (set registers (index_of w.0.0) w.1) (λ x k. h x (inr k))
      ∙ get_or-set_other registers (index_of w.0.0) (index_of counter) w.1 0 (λ e. h w (inl refl) (sym e))

  -- ---- what doesn't touch the counter

  module _ (entry : SerialInsn) (free : touches counter entry ≡ false) where
    unread : (reg : Reg) → reads_register entry.insn reg ≡ true → index_of reg ≢ index_of counter
    unread reg reads e =
        let same : reg ≡ counter = same_register reg counter e in
        grind (arith, or_right (steps_on counter entry))

    unwritten : (w : Reg × ℕ) → In w (register_writes entry.insn) → index_of w.0 ≢ index_of counter
    unwritten w h e =
        let same : w.0 ≡ counter = same_register w.0 counter e in
        grind (arith, same_reg-refl w.0, or_left, any_in)

    elsewhere : (machine : Machine) → Elsewhere (act_in machine entry).writes
    elsewhere machine w h = unwritten w.0 (act_writes entry.insn machine.base (word_in machine) (byte_in machine) w h)

    pub value_kept : (machine : Machine) → word_in (after_entry entry machine) counter ≡ word_in machine counter
    value_kept machine = kept (act_in machine entry).writes machine.registers (elsewhere machine)

    pub acts_alike : (v : ℕ) (machine : Machine) → act_in (with_word counter v machine) entry ≡ act_in machine entry
    acts_alike v machine =
        act_same entry.insn machine.base machine.base (word_in (with_word counter v machine)) (word_in machine)
        (byte_in machine) (byte_in machine) refl
        (λ reg h. get_or-set_other machine.registers (index_of counter) (index_of reg) v 0 (unread reg h)) (λ a h. refl)

    pub commutes : (v : ℕ) (machine : Machine)
        → after_entry entry (with_word counter v machine) ≡ with_word counter v (after_entry entry machine)
    commutes v machine = grind (arith, nat_tests, acts_alike, set_writes, elsewhere)

  pub free_commutes : (path : List SerialInsn) → ((e : SerialInsn) → In e path → touches counter e ≡ false)
      → (v : ℕ) (machine : Machine)
      → machine_after path (with_word counter v machine) ≡ with_word counter v (machine_after path machine)
  free_commutes [] free v machine = refl
  free_commutes (entry ∷ path) free v machine = grind (arith, free_commutes path, commutes entry)

  -- ---- the work of a path

  pub work_with : (entry : SerialInsn) (path : List SerialInsn) → touches counter entry ≡ false
      → work_of counter (entry ∷ path) ≡ entry ∷ work_of counter path
  work_with entry path free = ap (λ b. cond (not b) (entry ∷ work_of counter path) (work_of counter path)) free

  pub work_without : (entry : SerialInsn) (path : List SerialInsn) → touches counter entry ≡ true
      → work_of counter (entry ∷ path) ≡ work_of counter path
  work_without entry path t = ap (λ b. cond (not b) (entry ∷ work_of counter path) (work_of counter path)) t

  pub work_commutes : (path : List SerialInsn) (v : ℕ) (machine : Machine)
      → machine_after (work_of counter path) (with_word counter v machine) ≡ with_word counter v
      (machine_after (work_of counter path) machine)
  work_commutes [] v machine = refl
  work_commutes (entry ∷ path) v machine =
      ⊎_elim {C = machine_after (work_of counter (entry ∷ path)) (with_word counter v machine) ≡ with_word counter v
      (machine_after (work_of counter (entry ∷ path)) machine)}
      (λ t. grind (arith, nat_tests, work_commutes path v machine))
      (λ f. grind (arith, nat_tests, work_commutes path v (after_entry entry machine), work_with, commutes))
      (cases_Bool (touches counter entry))

  -- ---- a path, instruction by instruction

  abbrev Apart : List SerialInsn → ℕ → Machine → Type 0
  Apart path value machine = machine_after path machine ≡ with_word counter (value - steps_in counter path)
      (machine_after (work_of counter path) machine)

  pub step_more : (entry : SerialInsn) (path : List SerialInsn) → steps_on counter entry ≡ true
      → steps_in counter (entry ∷ path) ≡ size_of entry + steps_in counter path
  step_more entry path t = cond-true _ _ _ t

  pub no_more : (entry : SerialInsn) (path : List SerialInsn) → steps_on counter entry ≡ false
      → steps_in counter (entry ∷ path) ≡ steps_in counter path
  no_more entry path f = cond-false _ _ _ f

  counts_behind : (entry : SerialInsn) (path : List SerialInsn) (value : ℕ) → steps_on counter entry ≡ false
      → CountsFrom counter value (entry ∷ path) → CountsFrom counter value path
  counts_behind entry path value f counts i other at t =
      elim (counts (suc i) other at t) [
        | inl l ↦ grind (arith, no_more entry (take i path) f)
        | inr z ↦ inr z
      ]

  counts_less : (entry : SerialInsn) (path : List SerialInsn) (value : ℕ) → steps_on counter entry ≡ true
      → CountsFrom counter value (entry ∷ path) → CountsFrom counter (value - size_of entry) path
  counts_less entry path value t counts i other at s =
      elim (counts (suc i) other at s) [
        | inl l ↦ grind (arith, step_more entry (take i path) t)
        | inr z ↦ inr z
      ]

  touched : (entry : SerialInsn) → steps_on counter entry ≡ true → touches counter entry ≡ true
  touched entry t = or_left _ _ t

  module _ (number : ℕ) where
    -- one instruction before a path that does so
    module _ (entry : SerialInsn) (path : List SerialInsn) (value : ℕ) (machine : Machine)
        (is_counted : IsCounted counter number entry) (counts : CountsFrom counter value (entry ∷ path))
        (sound : IsSound machine) (is : word_in machine counter ≡ value) (small : value < 2 ^ 32)
        (rest : (v : ℕ) (m : Machine) → CountsFrom counter v path → IsSound m → word_in m counter ≡ v → v < 2 ^ 32
        → Apart path v m) where
      sound_next : IsSound (after_entry entry machine)
      sound_next = sound_act entry.line (act_in machine entry) machine sound

      -- what leaves the machine as it was
      same : steps_on counter entry ≡ false → touches counter entry ≡ true → after_entry entry machine ≡ machine
          → Apart (entry ∷ path) value machine
      same f t e =
          ap (λ (m : Machine). machine_after path m) e
          ∙ rest value machine (counts_behind entry path value f counts) sound is small
          ∙ ap (λ n. with_word counter (value - n) (machine_after (work_of counter path) machine))
          (sym (no_more entry path f))
          ∙ ap (λ (p : List SerialInsn). with_word counter (value - steps_in counter (entry ∷ path))
          (machine_after p machine)) (sym (work_without entry path t))

      -- what leaves it but for the counter
      less : (left : ℕ) → steps_on counter entry ≡ true → left ≡ value - size_of entry
          → after_entry entry machine ≡ with_word counter left machine → Apart (entry ∷ path) value machine
      less left t l e =
          let inside : index_of counter < length machine.registers =
          grind (arith, index_within counter) in
          let next : IsSound (with_word counter left machine) = subst (λ (m : Machine). IsSound m) e sound_next in
          let there : word_in (with_word counter left machine) counter ≡ value - size_of entry = get_or-set_same
          machine.registers (index_of counter) left 0 inside ∙ l in
          let fewer : value - size_of entry - steps_in counter path ≡ value - steps_in counter (entry ∷ path)
          = (let s : steps_in counter (entry ∷ path) ≡ size_of entry + steps_in counter path = step_more entry path t in
          omega arith) in
          ap (λ (m : Machine). machine_after path m) e
          ∙ rest (value - size_of entry) (with_word counter left machine) (counts_less entry path value t counts) next
          there (omega arith)
          ∙ ap (λ (m : Machine). with_word counter (value - size_of entry - steps_in counter path) m)
          (work_commutes path left machine)
          ∙ ap (λ (rs : List ℕ). machine_of (machine_after (work_of counter path) machine).base rs
          (machine_after (work_of counter path) machine).memory
          (machine_after (work_of counter path) machine).faults)
          (set_again (machine_after (work_of counter path) machine).registers (index_of counter) left
          (value - size_of entry - steps_in counter path))
          ∙ ap (λ n. with_word counter n (machine_after (work_of counter path) machine)) fewer
          ∙ ap (λ (p : List SerialInsn). with_word counter (value - steps_in counter (entry ∷ path))
          (machine_after p machine)) (sym (work_without entry path (touched entry t)))

      -- a step that finds less than it takes stops at 0
      at_zero : steps_on counter entry ≡ true → value < size_of entry → Apart (entry ∷ path) value machine
      at_zero t few =
          elim (counts 0 entry refl t) [
            | inl l ↦ (let u : 0 + size_of entry ≤ value = l in absurd (omega arith))
            | inr stops ↦ grind (arith, less 0 t, set-get_or machine.registers (index_of counter) 0)
          ]

      above_zero : steps_on counter entry ≡ true → size_of entry ≤ value → Apart (entry ∷ path) value machine
      above_zero t enough = grind (arith, less (value - size_of entry) t)

      tests : steps_on counter entry ≡ false → touches counter entry ≡ true → Apart (entry ∷ path) value machine
      tests f t = grind (arith, nat_tests, same f t)

      free : steps_on counter entry ≡ false → touches counter entry ≡ false → Apart (entry ∷ path) value machine
      free f u =
          rest value (after_entry entry machine) (counts_behind entry path value f counts) sound_next
          (value_kept entry u machine ∙ is) small
          ∙ ap (λ n. with_word counter (value - n) (machine_after (work_of counter path) (after_entry entry machine)))
          (sym (no_more entry path f))
          ∙ ap (λ (p : List SerialInsn). with_word counter (value - steps_in counter (entry ∷ path))
          (machine_after p machine)) (sym (work_with entry path u))

      one_more : Apart (entry ∷ path) value machine
      one_more =
          ⊎_elim {C = Apart (entry ∷ path) value machine}
          (λ t. grind (arith, at_zero t, above_zero t))
          (λ f. ⊎_elim {C = Apart (entry ∷ path) value machine} (λ t. tests f t) (λ u. free f u)
          (cases_Bool (touches counter entry)))
          (cases_Bool (steps_on counter entry))

    pub apart : (path : List SerialInsn) (value : ℕ) (machine : Machine)
        → ((e : SerialInsn) → In e path → IsCounted counter number e) → CountsFrom counter value path
        → IsSound machine
        → word_in machine counter ≡ value → value < 2 ^ 32 → Apart path value machine
    apart [] value machine counted counts sound is small = grind (
      arith,
      set-get_or machine.registers (index_of counter) 0,
    )
    apart (entry ∷ path) value machine counted counts sound is small =
        one_more entry path value machine (counted entry (inl refl)) counts sound is small
        (λ v m c s e l. apart path v m (λ x h. counted x (inr h)) c s e l)

    pub stands_apart : (path : List SerialInsn) (opening : Machine) → CounterStandsApart counter number path opening
    stands_apart path opening counted counts sound small =
        serial_machine path opening
        ∙ apart path (word_in opening counter) opening (In-All (IsCounted counter number) path counted) counts sound
        refl small
        ∙ ap (λ (m : Machine). with_word counter (word_in opening counter - steps_in counter path) m)
        (sym (serial_machine (work_of counter path) opening))
