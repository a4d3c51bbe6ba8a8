-- Instances past the end leave memory as it was, and all that they don't write.
use Rattle.std.proofs.Common.{◌≡◌, ℕ, Bool, true, false, List, [], ◌∷◌, ◌++◌, refl, sym, ◌∙◌, ap}
use Rattle.std.proofs.Common.{subst, ◌⊎◌, inl, inr}
use Rattle.std.specs.Prelude.{Contains}
use Rattle.std.proofs.lemmas.List.{append_assoc}
use Rattle.c62_op.specs.declared.register.Reg.{Reg}
use Rattle.c62_op.specs.Shape.{is_store}
use Rattle.c62_op.proofs.Registers.{same_register}
use Rattle.c62_insn.specs.Insn.{op_of, operands_of, register_writes}
use Rattle.c62_read.specs.declared.block.SerialInsn.{SerialInsn}
use Rattle.c62_serial.specs.State.{Machine, word_in, byte_in}
use Rattle.c62_serial.specs.Faults.{after_fault}
use Rattle.c62_serial.specs.Effect.{is_fault}
use Rattle.c62_serial.specs.Serial.{after_access, after_entry, act_in, serial}
use Rattle.c62_serial.proofs.FaultLemmas.{joined_holds}
use Rattle.c62_meaning.proofs.Lookup.{In, In_from_Contains, Contains_from_In}
use Rattle.c62_meaning.proofs.Landings.{act_writes}
use Rattle.c62_loop.specs.Loop.{Region, serial_path, Pipelined}
use Rattle.c62_loop.specs.Past.{is_access, IsSameBut, with_past, PipelinedPastTheEnd}
use Rattle.c62_loop.proofs.Machines.{machine_after, serial_machine, In-All}
use Rattle.c62_loop.proofs.Apart.{kept}
use Rattle.c62_loop.proofs.Counting.{after_both}
use Rattle.c62_loop.proofs.Pipelined.{pipelined_is_serial}
use Rattle.std.proofs.lemmas.Bool.Decides.{nat_tests}
use Rattle.std.proofs.Common.{arith}

-- ---- an instruction that is no store

stores_nothing : (entry : SerialInsn) (machine : Machine) → is_store (op_of entry.insn) ≡ false
    → after_access machine.memory (act_in machine entry).access ≡ machine.memory
stores_nothing entry machine f = grind (arith, nat_tests)

fault_kept : (lines : List ℕ) (line other : ℕ) (b : Bool) → Contains lines other
    → Contains (after_fault lines line b) other
fault_kept lines line other true c = (joined_holds lines line other).1 (inr c)
fault_kept lines line other false c = c

fault_new : (lines : List ℕ) (line other : ℕ) (b : Bool) → Contains (after_fault lines line b) other
    → ((other ≡ line) × (b ≡ true)) ⊎ Contains lines other
fault_new lines line other true c = grind (arith, joined_holds lines line other)
fault_new lines line other false c = inr c

-- what faults is an access
accesses : (entry : SerialInsn) (machine : Machine) → is_fault (act_in machine entry).access ≡ true
    → is_access (operands_of entry.insn) ≡ true
accesses entry machine = grind (arith, nat_tests)

word_kept : (entry : SerialInsn) (machine : Machine) (reg : Reg)
    → ((delay : ℕ) → Contains (register_writes entry.insn) (reg, delay) → ⊥)
    → word_in (after_entry entry machine) reg ≡ word_in machine reg
word_kept entry machine reg none =
    kept reg (act_in machine entry).writes machine.registers
    (λ w h e.
    let same : w.0.0 ≡ reg = same_register w.0.0 reg e in
    let inside : In w.0 (register_writes entry.insn) = act_writes entry.insn machine.base (word_in machine)
    (byte_in machine) w h in
    none w.0.1 (subst (λ (r : Reg). Contains (register_writes entry.insn) (r, w.0.1)) same
    (Contains_from_In w.0 (register_writes entry.insn) inside)))

-- ---- one after the other

first_of : (entry : SerialInsn) (past : List SerialInsn) → Contains (entry ∷ past) entry
first_of entry past = Contains_from_In entry (entry ∷ past) (inl refl)

later_of : (entry other : SerialInsn) (past : List SerialInsn) → Contains past other → Contains (entry ∷ past) other
later_of entry other past c = Contains_from_In other (entry ∷ past) (inr (In_from_Contains other past c))

same_but : (past : List SerialInsn) (machine : Machine)
    → ((entry : SerialInsn) → In entry past → is_store (op_of entry.insn) ≡ false)
    → IsSameBut past machine (machine_after past machine)
same_but [] machine none = grind (arith, kept)
same_but (entry ∷ past) machine none =
    let rest : IsSameBut past (after_entry entry machine) (machine_after past (after_entry entry machine)) = same_but
    past (after_entry entry machine) (λ e h. none e (inr h)) in
    record {
      base = rest.base;
      memory = rest.memory ∙ stores_nothing entry machine (none entry (inl refl));
      words = λ reg h. rest.words reg (λ e delay c w. h e delay (later_of entry e past c) w)
          ∙ word_kept entry machine reg (λ delay w. h entry delay (first_of entry past) w);
      kept = λ line c. rest.kept line
          (fault_kept machine.faults entry.line line (is_fault (act_in machine entry).access) c);
      faults = λ line c. elim (rest.faults line c) [
        | inl old ↦ elim (fault_new machine.faults entry.line line (is_fault (act_in machine entry).access) old) [
          | inl e ↦ inr (entry, first_of entry past, sym e.0, accesses entry machine e.1)
          | inr older ↦ inl older
        ]
        | inr new ↦ inr (new.0, later_of entry new.0 past new.1, new.2, new.3)
      ];
    }

-- ---- the loop

longer_path : (region : Region) (past : List SerialInsn) (trips : ℕ)
    → serial_path (with_past region past) trips ≡ serial_path region trips ++ past
longer_path region past trips = grind (arith, nat_tests, append_assoc)

pub pipelined_past_the_end : (region : Region) (past : List SerialInsn) (loop : Pipelined) (trips passes : ℕ)
    → PipelinedPastTheEnd region past loop trips passes
pipelined_past_the_end region past loop trips passes none counted is opening m sound begins small = (
  (serial (serial_path (with_past region past) trips) opening).machine,
  subst (λ (after : Machine). IsSameBut past (serial (serial_path region trips) opening).machine after) (sym left)
      (same_but past (serial (serial_path region trips) opening).machine
      (In-All (λ entry. is_store (op_of entry.insn) ≡ false) past none)),
  pipelined_is_serial (with_past region past) loop trips passes counted is opening m sound begins small,
)
  where
    left : (serial (serial_path (with_past region past) trips) opening).machine ≡ machine_after past
        (serial (serial_path region trips) opening).machine
    left =
        serial_machine (serial_path (with_past region past) trips) opening
        ∙ ap (λ xs. machine_after xs opening) (longer_path region past trips)
        ∙ after_both (serial_path region trips) past opening
        ∙ ap (λ (machine : Machine). machine_after past machine)
        (sym (serial_machine (serial_path region trips) opening))
