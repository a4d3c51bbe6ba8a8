-- The lines that a run leaves as faulted are those of its faults.
use Rattle.std.proofs.Common.{◌≡◌, ◌∙◌, ◌⊎◌, inl, inr, ℕ, Bool, true, false, List, [], ◌∷◌, ◌++◌, length, Option, Some}
use Rattle.std.proofs.Common.{None, refl, sym, ap, subst, arith}
use Rattle.std.specs.Prelude.{◌↔◌, ◌%◌, ◌+◌, ◌==◌, ◌||◌, not, nat_le, Contains, fold, option_map, option_and_then}
use Rattle.std.specs.Prelude.{is_some, IsTrue, if◌then◌else◌}
use Rattle.std.specs.Option.{option_to_list}
use Rattle.std.proofs.lemmas.Bool.Decides.{nat_tests}
use Rattle.std.proofs.lemmas.List.Sums.{fold-append}
use Rattle.c62_insn.specs.declared.effect.Access.{Access}
use Rattle.c62_read.specs.declared.block.SerialInsn.{SerialInsn}
use Rattle.c62_read.specs.Block.{Serial}
use Rattle.c62_serial.specs.declared.chain.Chain.{Chain}
use Rattle.c62_serial.specs.declared.serial.Exit.{Exit}
use Rattle.c62_serial.specs.declared.state.TheConstants.{MEMORY_BYTES}
use Rattle.c62_serial.specs.State.{Machine, IsSound}
use Rattle.c62_serial.specs.Memory.{is_good}
use Rattle.c62_serial.specs.Faults.{after_fault, joined}
use Rattle.c62_serial.specs.Effect.{is_fault}
use Rattle.c62_serial.specs.Serial.{Ran, act_in, after_entry, after_insn, serial}
use Rattle.c62_serial.specs.Chain.{Leads, Position, RunsProgram, Standing, block_of, position_after, position_at}
use Rattle.c62_serial.specs.Chain.{serial_blocks}
use Rattle.c62_serial.proofs.ChainLemmas.{one_chain, serial_determined}
use Rattle.c62_serial.proofs.FaultLemmas.{joined_holds}
use Rattle.c62_faulted.specs.declared.fault.Cause.{Cause}
use Rattle.c62_faulted.specs.declared.fault.Cause.TheVariants.{Misaligned, PastEnd}
use Rattle.c62_faulted.specs.declared.fault.Fault.{Fault}
use Rattle.c62_faulted.specs.Faulted.{FindsFaults, cause_of, fault_by, fault_in, fault_of, faults_in, faults_on}
use Rattle.c62_faulted.specs.Faulted.{has_line, with_faults}
use Rattle.c62_faulted.specs.Laws.{HasItsCause}
use Rattle.c62_faulted.proofs.FirstLemmas.{line_all}

-- ---- causes

pub its_cause : (address size : ℕ) → HasItsCause address size
its_cause address size = either (address % size == 0) refl (nat_le (address + size) MEMORY_BYTES) refl
  where
    either : (b : Bool) → address % size == 0 ≡ b → (c : Bool) → nat_le (address + size) MEMORY_BYTES ≡ c
        → HasItsCause address size
    either false e c f = rw e (λ same. grind (arith, nat_tests, e, same))
    either true e true f = rw (e, f) refl
    either true e false f = rw (e, f) (grind (arith, nat_tests, e), grind (arith, nat_tests, f))

-- ---- lines that join

abbrev after_all : List ℕ → List Fault → List ℕ
after_all lines faults = fold (λ before fault. joined fault.line before) lines faults

caused : (lines : List ℕ) (entry : SerialInsn) (access : Access)
    → after_fault lines entry.line (not (is_good access.address access.size))
    ≡ after_all lines (option_to_list (option_map (fault_of entry access) (cause_of access.address access.size)))
caused lines entry access = either (access.address % access.size == 0) refl
    (nat_le (access.address + access.size) MEMORY_BYTES) refl
  where
    either : (b : Bool) → access.address % access.size == 0 ≡ b → (c : Bool)
        → nat_le (access.address + access.size) MEMORY_BYTES ≡ c
        → after_fault lines entry.line (not (is_good access.address access.size))
        ≡ after_all lines (option_to_list
        (option_map (fault_of entry access) (cause_of access.address access.size)))
    either false e c f = rw e refl
    either true e true f = rw (e, f) refl
    either true e false f = rw (e, f) refl

accessed : (lines : List ℕ) (entry : SerialInsn) (access : Option Access)
    → after_fault lines entry.line (is_fault access) ≡ after_all lines (option_to_list (fault_by entry access))
accessed lines entry None = refl
accessed lines entry (Some access) = caused lines entry access

in_block : (insns : List SerialInsn) (ran : Ran)
    → (fold after_insn ran insns).machine.faults ≡ after_all ran.machine.faults (faults_in ran.machine insns)
in_block [] ran = refl
in_block (entry ∷ insns) ran =
    let join : List ℕ → Fault → List ℕ = λ before fault. joined fault.line before in
    in_block insns (after_insn ran entry)
    ∙ ap (λ (lines : List ℕ). after_all lines (faults_in (after_entry entry ran.machine) insns))
    (accessed ran.machine.faults entry (act_in ran.machine entry).access)
    ∙ sym (fold-append join ran.machine.faults (option_to_list (fault_in ran.machine entry))
    (faults_in (after_entry entry ran.machine) insns))

in_chain : (program : List Serial) (count : ℕ) (opening machine : Machine) (position last : Position) (numbers : List ℕ)
    → Leads count (serial_blocks program) opening position numbers machine last
    → machine.faults ≡ after_all opening.faults (faults_on program opening numbers)
unfolding Leads
in_chain program count opening machine position last [] leads = ap (λ (m : Machine). m.faults) leads.0
in_chain program count opening machine position last (number ∷ numbers) leads =
    let join : List ℕ → Fault → List ℕ = λ before fault. joined fault.line before in
    let ran : Ran = serial (block_of program number).insns opening in
    let FromRan : Ran → Type 0 = λ r. Leads count (serial_blocks program) r.machine (position_after count number r.exit)
    numbers machine last in
    let rest = in_chain program count ran.machine machine (position_after count number ran.exit) last numbers
    (subst FromRan leads.2 leads.3) in
    rest
    ∙ ap (λ (lines : List ℕ). after_all lines (faults_on program ran.machine numbers))
    (in_block (block_of program number).insns (record { machine = opening; exit = Exit.Next }))
    ∙ sym (fold-append join opening.faults (faults_in opening (block_of program number).insns)
    (faults_on program ran.machine numbers))

-- ---- members

either_way : {A B C : Type 0} → (A ↔ (B ⊎ C)) → (P : Type 0) → A ↔ (B ⊎ C)
either_way h P = h

holds_all : (lines : List ℕ) (faults : List Fault) (line : ℕ)
    → Contains (after_all lines faults) line ↔ (Contains lines line ⊎ IsTrue (has_line line faults))
holds_all lines [] line = (λ c. inl c, λ h. first h)
  where
    first : Contains lines line ⊎ IsTrue false → Contains lines line
    first (inl c) = c
    first (inr e) = absurd cc
holds_all lines (fault ∷ faults) line =
    let rest = holds_all (joined fault.line lines) faults line in
    let one = joined_holds lines fault.line line in
    (λ c. out (rest.0 c) one.0, λ h. into h rest.1 one.1)
  where
    here : line ≡ fault.line → IsTrue (has_line line (fault ∷ faults))
    here e = let f : (line == fault.line) ≡ true = grind (arith, nat_tests, e) in rw f refl

    behind : IsTrue (has_line line faults) → IsTrue (has_line line (fault ∷ faults))
    behind h = grind (arith, h)

    out : Contains (joined fault.line lines) line ⊎ IsTrue (has_line line faults)
        → (Contains (joined fault.line lines) line → (line ≡ fault.line) ⊎ Contains lines line)
        → Contains lines line ⊎ IsTrue (has_line line (fault ∷ faults))
    out (inr h) one = inr (behind h)
    out (inl c) one = first (one c)
      where
        first : (line ≡ fault.line) ⊎ Contains lines line → Contains lines line
            ⊎ IsTrue (has_line line (fault ∷ faults))
        first (inl e) = inr (here e)
        first (inr d) = inl d

    into : Contains lines line ⊎ IsTrue (has_line line (fault ∷ faults))
        → (Contains (joined fault.line lines) line ⊎ IsTrue (has_line line faults)
        → Contains (after_all (joined fault.line lines) faults) line)
        → ((line ≡ fault.line) ⊎ Contains lines line → Contains (joined fault.line lines) line)
        → Contains (after_all lines (fault ∷ faults)) line
    into (inl c) rest one = rest (inl (one (inr c)))
    into (inr h) rest one = by_line (line == fault.line) refl
      where
        by_line : (b : Bool) → (line == fault.line) ≡ b → Contains (after_all lines (fault ∷ faults)) line
        by_line true e = let same : line ≡ fault.line = grind (arith, nat_tests, e) in rest (inl (one (inl same)))
        by_line false e = rest (inr (rw e at h))

-- ---- a run

pub tells_lines : (program : List Serial) (opening : Machine) (limit : ℕ) (told : List Fault) (chain : Chain)
    (final : Machine)
    → IsSound opening → opening.faults ≡ [] → FindsFaults program opening limit told
    → RunsProgram program opening limit chain final
    → (line : ℕ) → IsTrue (has_line line told) ↔ Contains final.faults line
tells_lines program opening limit told chain final sound none finds runs line =
    let same = one_chain (length program) (serial_blocks program) opening limit finds.standing runs.standing
    (serial_determined program) sound
    finds.whole runs.whole in
    let faults = faults_on program opening finds.standing.numbers in
    let machine : final ≡ finds.standing.machine = runs.left
    ∙ sym (ap (λ (standing : Standing). standing.machine) same) in
    let lines : final.faults ≡ after_all [] faults =
    ap (λ (m : Machine). m.faults) machine
    ∙ in_chain program (length program) opening finds.standing.machine (position_at (length program) 0)
    finds.standing.position
    finds.standing.numbers finds.whole.stands
    ∙ ap (λ (before : List ℕ). after_all before faults) none in
    let all : has_line line told ≡ has_line line faults = ap (λ (fs : List Fault). has_line line fs) finds.told
    ∙ line_all line [] faults in
    let holds = holds_all [] faults line in
    (λ h. rw lines (holds.1 (inr (rw all at h))), λ c. rw all (only (holds.0 (rw lines at c))))
  where
    only : {P : Type 0} → Contains [] line ⊎ P → P
    only (inl c) = let e = c.1 in absurd (omega (arith, e))
    only (inr p) = p
