-- What an act leaves of a machine, register by register and byte by byte; machines that hold the same are one.
use Rattle.std.proofs.Common.{◌≡◌, ◌≢◌, ◌⊎◌, ℕ, ◌+◌, ◌-◌, ◌<◌, ◌≤◌, Bool, true, false, List, [], ◌∷◌, length, Option}
use Rattle.std.proofs.Common.{Some, None, refl, inl, inr, ◌∙◌, sym, ap, subst, get_or, arith}
use Rattle.std.specs.Prelude.{◌↔◌, fold, Contains, unwrap_or, nat_lt, nat_le, if◌then◌else◌}
use Rattle.std.specs.Option.{option_or}
use Rattle.std.specs.List.Sorted.{IsStrictlyIncreasing}
use Rattle.std.proofs.lemmas.Bool.{cases_lt, false≢true}
use Rattle.std.proofs.lemmas.Bool.Decides.{nat_tests}
use Rattle.std.proofs.lemmas.List.{length-set, get_or-set_same, get_or-set_other}
use Rattle.std.proofs.lemmas.Grind.{same_number_lists}
use Rattle.c62_op.specs.declared.register.Reg.{Reg}
use Rattle.c62_insn.specs.declared.effect.Access.{Access as MemoryAccess}
use Rattle.c62_op.specs.Takes.{same_reg}
use Rattle.c62_op.proofs.Registers.{same_reg-is, same_reg-refl}
use Rattle.c62_read.specs.declared.block.SerialInsn.{SerialInsn}
use Rattle.c62_serial.specs.declared.serial.Exit.TheVariants.{Next}
use Rattle.c62_serial.specs.State.{Machine, IsSound, index_of}
use Rattle.c62_serial.specs.Memory.{is_good, written}
use Rattle.c62_serial.specs.Faults.{after_fault}
use Rattle.c62_serial.specs.Effect.{Act, is_fault}
use Rattle.c62_serial.specs.Serial.{Ran, after_write, after_store, after_access, after_act, after_insn, act_in, serial}
use Rattle.c62_serial.specs.Laws.{HoldsTheSame, ActsOnEach, last_written, stored_by, stored_at}
use Rattle.c62_serial.proofs.RegisterLemmas.{apart, index_within, register_at}
use Rattle.c62_serial.proofs.MemoryLemmas.{stores}
use Rattle.c62_serial.proofs.FaultLemmas.{joined_rises, joined_holds, same_rising}

-- ---- a run keeps a machine sound

length-after_writes : (writes : List ((Reg × ℕ) × ℕ)) (registers : List ℕ)
    → length (fold after_write registers writes) ≡ length registers
length-after_writes [] registers = refl
length-after_writes (write ∷ writes) registers =
    length-after_writes writes (after_write registers write) ∙ length-set registers (index_of write.0.0) write.1

length-written : (address size value : ℕ) (memory : List ℕ) → length memory ≡ 65536
    → length (written address size value memory) ≡ length memory
length-written address size value memory l = either (is_good address size) refl
  where
    either : (b : Bool) → is_good address size ≡ b → length (written address size value memory) ≡ length memory
    either true good = (stores memory address size value l good).size_stays
    either false bad = rw bad refl

length-after_store : (memory : List ℕ) (value : Option ℕ) (address size : ℕ) → length memory ≡ 65536
    → length (after_store memory value address size) ≡ length memory
length-after_store memory None address size l = refl
length-after_store memory (Some value) address size l = length-written address size value memory l

length-after_access : (memory : List ℕ) (access : Option MemoryAccess) → length memory ≡ 65536
    → length (after_access memory access) ≡ length memory
length-after_access memory None l = refl
length-after_access memory (Some access) l = length-after_store memory access.value access.address access.size l

rises-after_fault : (lines : List ℕ) (line : ℕ) (fault : Bool) → IsStrictlyIncreasing lines
    → IsStrictlyIncreasing (after_fault lines line fault)
rises-after_fault lines line true rising = joined_rises line lines rising
rises-after_fault lines line false rising = rising

pub sound_act : (line : ℕ) (act : Act) (machine : Machine) → IsSound machine → IsSound (after_act line act machine)
sound_act line act machine sound = record {
  registers = length-after_writes act.writes machine.registers ∙ sound.registers;
  memory = length-after_access machine.memory act.access sound.memory ∙ sound.memory;
  rising = rises-after_fault machine.faults line (is_fault act.access) sound.rising;
}

sound_from : (insns : List SerialInsn) (ran : Ran) → IsSound ran.machine → IsSound (fold after_insn ran insns).machine
sound_from [] ran sound = sound
sound_from (entry ∷ insns) ran sound = sound_from insns (after_insn ran entry)
    (sound_act entry.line (act_in ran.machine entry) ran.machine sound)

pub sound_run : (insns : List SerialInsn) (machine : Machine) → IsSound machine → IsSound (serial insns machine).machine
sound_run insns machine sound = sound_from insns (record { machine = machine; exit = Next }) sound

-- ---- machines that hold the same

pub same_machine : (one other : Machine) → IsSound one → IsSound other → HoldsTheSame one other → one ≡ other
same_machine one other sound sound' same = made same.base registers memory faults
  where
    register : (k : ℕ) → k < length one.registers → get_or one.registers k 0 ≡ get_or other.registers k 0
    register k h =
        let found = register_at k (rw (← sound.registers) h) in
        let P : ℕ → Type 0 = λ index. get_or one.registers index 0 ≡ get_or other.registers index 0 in
        subst P found.1 (same.words found.0)

    registers : one.registers ≡ other.registers
    registers = same_number_lists one.registers other.registers (sound.registers ∙ sym sound'.registers) register

    memory : one.memory ≡ other.memory
    memory = same_number_lists one.memory other.memory (sound.memory
        ∙ sym sound'.memory) (λ k h. same.bytes k (rw (← sound.memory) h))

    faults : one.faults ≡ other.faults
    faults = same_rising one.faults other.faults sound.rising sound'.rising same.faults

    made : one.base ≡ other.base → one.registers ≡ other.registers → one.memory ≡ other.memory
        → one.faults ≡ other.faults → one ≡ other
    made b e f g =
        ap (λ (base : ℕ). record one { base = base }) b
        ∙ ap (λ (xs : List ℕ). record one { base = other.base; registers = xs }) e
        ∙ ap (λ (xs : List ℕ). record other { memory = xs; faults = one.faults }) f
        ∙ ap (λ (xs : List ℕ). record other { faults = xs }) g

-- ---- an act, register by register and byte by byte

in_turn : (one other : Option ℕ) (word : ℕ)
    → unwrap_or (option_or one other) word ≡ unwrap_or one (unwrap_or other word)
in_turn None other word = refl
in_turn (Some value) other word = refl

after_one : (reg : Reg) (write : (Reg × ℕ) × ℕ) (registers : List ℕ) → length registers ≡ 32
    → get_or (after_write registers write) (index_of reg) 0 ≡ unwrap_or
    (if same_reg write.0.0 reg then Some write.1 else None) (get_or registers (index_of reg) 0)
after_one reg write registers l = either (same_reg write.0.0 reg) refl
  where
    Left : Bool → Type 0
    Left b = get_or (after_write registers write) (index_of reg) 0 ≡ unwrap_or (if b then Some write.1 else None)
        (get_or registers (index_of reg) 0)

    other : same_reg write.0.0 reg ≡ false → reg ≢ write.0.0
    other e f = false≢true (sym e
        ∙ (let P : Reg → Type 0 = λ r. same_reg r reg ≡ true in subst P f (same_reg-refl reg)))

    either : (b : Bool) → same_reg write.0.0 reg ≡ b → Left (same_reg write.0.0 reg)
    either true e =
        let f : write.0.0 ≡ reg = same_reg-is write.0.0 reg e in
        rw e (rw (← f) (get_or-set_same registers (index_of write.0.0) write.1 0 (rw l (index_within write.0.0))))
    either false e = rw e
        (get_or-set_other registers (index_of write.0.0) (index_of reg) write.1 0 (apart reg write.0.0 (other e)))

last_word : (reg : Reg) (writes : List ((Reg × ℕ) × ℕ)) (registers : List ℕ) → length registers ≡ 32
    → get_or (fold after_write registers writes) (index_of reg) 0 ≡ unwrap_or (last_written reg writes)
    (get_or registers (index_of reg) 0)
last_word reg [] registers l = refl
last_word reg (write ∷ writes) registers l =
    last_word reg writes (after_write registers write) (length-set registers (index_of write.0.0) write.1 ∙ l)
    ∙ ap (λ (word : ℕ). unwrap_or (last_written reg writes) word) (after_one reg write registers l)
    ∙ sym (in_turn (last_written reg writes) (if same_reg write.0.0 reg then Some write.1 else None)
    (get_or registers (index_of reg) 0))

byte_written : (address start size value : ℕ) (memory : List ℕ) → length memory ≡ 65536
    → get_or (written start size value memory) address 0 ≡ unwrap_or (stored_by start size (Some value) address)
    (get_or memory address 0)
byte_written address start size value memory l = either (is_good start size) refl
  where
    Left : Type 0
    Left = get_or (written start size value memory) address 0 ≡ unwrap_or (stored_by start size (Some value) address)
        (get_or memory address 0)

    by_side : is_good start size ≡ true → (address < start) ⊎ (start ≤ address) → (address < start + size)
        ⊎ (start + size ≤ address) → Left
    by_side good (inl below) _ =
        let e : nat_le start address ≡ false = grind (arith, nat_tests) in
        let f = (stores memory start size value l good).outside address (inl below) in
        rw (good, e) (rw good at f)
    by_side good (inr from) (inl inside) =
        let e : nat_le start address ≡ true = grind (arith, nat_tests) in
        let g : nat_lt address (start + size) ≡ true = grind (arith, nat_tests) in
        let sum : start + (address - start) ≡ address = omega arith in
        let f = (stores memory start size value l good).inside (address - start) (omega arith) in
        rw (good, e, g) (rw (good, sum) at f)
    by_side good (inr from) (inr past) =
        let e : nat_le start address ≡ true = grind (arith, nat_tests) in
        let g : nat_lt address (start + size) ≡ false = grind (arith, nat_tests) in
        let f = (stores memory start size value l good).outside address (inr past) in
        rw (good, e, g) (rw good at f)

    either : (b : Bool) → is_good start size ≡ b → Left
    either true good = by_side good (cases_lt address start) (cases_lt address (start + size))
    either false bad = rw bad refl

byte_stored : (address start size : ℕ) (value : Option ℕ) (memory : List ℕ) → length memory ≡ 65536
    → get_or (after_store memory value start size) address 0 ≡ unwrap_or (stored_by start size value address)
    (get_or memory address 0)
byte_stored address start size None memory l = refl
byte_stored address start size (Some value) memory l = byte_written address start size value memory l

byte_after : (address : ℕ) (access : Option MemoryAccess) (memory : List ℕ) → length memory ≡ 65536
    → get_or (after_access memory access) address 0 ≡ unwrap_or (stored_at access address) (get_or memory address 0)
byte_after address None memory l = refl
byte_after address (Some access) memory l = byte_stored address access.address access.size access.value memory l

faulted_after : (lines : List ℕ) (line : ℕ) (fault : Bool) (other : ℕ)
    → Contains (after_fault lines line fault) other ↔ (((fault ≡ true) × (other ≡ line)) ⊎ Contains lines other)
faulted_after lines line true other =
    (λ c. elim ((joined_holds lines line other).0 c) [ inl e ↦ inl (refl, e) | inr r ↦ inr r ], back)
  where
    back : ((true ≡ true) × (other ≡ line)) ⊎ Contains lines other → Contains (after_fault lines line true) other
    back (inl e) = (joined_holds lines line other).1 (inl e.1)
    back (inr r) = (joined_holds lines line other).1 (inr r)
faulted_after lines line false other = (λ c. inr c, back)
  where
    back : ((false ≡ true) × (other ≡ line)) ⊎ Contains lines other → Contains lines other
    back (inl e) = absurd (false≢true e.0)
    back (inr r) = r

pub acts_on_each : (line : ℕ) (act : Act) (machine : Machine) → IsSound machine → ActsOnEach line act machine
acts_on_each line act machine sound = record {
  words = λ reg. last_word reg act.writes machine.registers sound.registers;
  bytes = λ address. byte_after address act.access machine.memory sound.memory;
  faults = λ other. faulted_after machine.faults line (is_fault act.access) other;
}
