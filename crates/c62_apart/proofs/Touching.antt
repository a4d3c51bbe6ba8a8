-- The touches of a visit.
use Rattle.std.proofs.Common.{◌≡◌, ℕ, zero, suc, ◌+◌, ◌-◌, ◌≤◌, ◌<◌, Bool, true, false, List, [], ◌∷◌, ◌++◌, length}
use Rattle.std.proofs.Common.{map, drop, get_or, Option, Some, None, refl, sym, ◌∙◌, ap, append_assoc, arith}
use Rattle.std.specs.Prelude.{◌&&◌, fold, All}
use Rattle.std.specs.List.{AllByRecursion}
use Rattle.std.proofs.lemmas.Bool.Decides.{nat_tests}
use Rattle.std.proofs.lemmas.List.Elements.{All-append, All-from_recursion, All-nil}
use Rattle.c62_op.specs.declared.register.Reg.{Reg}
use Rattle.c62_insn.specs.declared.effect.Access.{Access}
use Rattle.c62_insn.specs.Insn.{operands_of}
use Rattle.std.proofs.Math.Seq.{drop-cons}
use Rattle.std.proofs.lemmas.List.{get_or-map}
use Rattle.c62_insn.specs.declared.effect.Target.{Target}
use Rattle.c62_insn.specs.declared.effect.Target.TheVariants.{Block as ToBlock, Register as ToWord}
use Rattle.c62_read.specs.Block.{Serial}
use Rattle.c62_read.specs.declared.block.SerialInsn.{SerialInsn}
use Rattle.c62_serial.specs.declared.state.TheConstants.{MEMORY_BYTES}
use Rattle.c62_serial.specs.State.{Machine}
use Rattle.c62_serial.specs.Memory.{is_good}
use Rattle.c62_serial.specs.declared.serial.Exit.{Exit}
use Rattle.c62_serial.specs.declared.serial.Exit.TheVariants.{Next}
use Rattle.c62_serial.specs.Serial.{Ran, act_in, after_entry, after_insn, exit_after, serial}
use Rattle.c62_apart.specs.declared.touch.Touch.{Touch}
use Rattle.c62_apart.specs.declared.visit.Visit.{Visit}
use Rattle.c62_apart.specs.Touch.{alone, base_in, is_among, later_exit, touches_by, touches_from, touches_in}
use Rattle.c62_apart.specs.Touch.{touches_of, touches_with}

-- ---- an instruction more

pub touched_next : (regs : List Reg) (visit : Visit) (touches now : List Touch) (machine next : Machine)
    (entry : SerialInsn) (rest : List SerialInsn)
    → now ≡ touches ++ touches_of regs visit machine entry → next ≡ after_entry entry machine
    → now ++ touches_in regs visit next rest ≡ touches ++ touches_in regs visit machine (entry ∷ rest)
touched_next regs visit touches now machine next entry rest is moved =
    ap (λ all. all ++ touches_in regs visit next rest) is
    ∙ ap (λ m. (touches ++ touches_of regs visit machine entry) ++ touches_in regs visit m rest) moved
    ∙ append_assoc touches (touches_of regs visit machine entry)
    (touches_in regs visit (after_entry entry machine) rest)

-- ---- what holds of all

-- they are of the visit's stay, and within memory
pub record IsWithin (stay : ℕ) (touch : Touch) : Type 0 where
  pub stays : touch.visit.stay ≡ stay
  pub within : touch.byte < MEMORY_BYTES

from_within : (visit : Visit) (line : ℕ) (base : Reg) (address count : ℕ) → address + count ≤ MEMORY_BYTES
    → AllByRecursion (IsWithin visit.stay) (touches_from visit line base address count)
from_within visit line base address zero h = tt
from_within visit line base address (suc count) h = (
  record { stays = refl; within = omega (arith, h) },
  from_within visit line base (address + 1) count
      (omega (arith, h)),
)

by_within : (regs : List Reg) (visit : Visit) (line : ℕ) (base : Reg) (access : Access)
    → All (IsWithin visit.stay) (touches_by regs visit line base access)
by_within regs visit line base access = either (is_among regs base && is_good access.address access.size) refl
  where
    either : (b : Bool) → (is_among regs base && is_good access.address access.size) ≡ b
        → All (IsWithin visit.stay) (touches_by regs visit line base access)
    either false e = rw e (All-nil (IsWithin visit.stay))
    either true e = let fits : access.address + access.size ≤ MEMORY_BYTES = grind (arith, nat_tests, e) in
        rw e (All-from_recursion (IsWithin visit.stay) (touches_from visit line base access.address access.size)
        (from_within visit line base access.address access.size fits))

with_within : (regs : List Reg) (visit : Visit) (line : ℕ) (base : Option Reg) (access : Option Access)
    → All (IsWithin visit.stay) (touches_with regs visit line base access)
with_within regs visit line None access = All-nil (IsWithin visit.stay)
with_within regs visit line (Some base) None = All-nil (IsWithin visit.stay)
with_within regs visit line (Some base) (Some access) = by_within regs visit line base access

pub all_within : (regs : List Reg) (visit : Visit) (machine : Machine) (insns : List SerialInsn)
    → All (IsWithin visit.stay) (touches_in regs visit machine insns)
all_within regs visit machine [] = All-nil (IsWithin visit.stay)
all_within regs visit machine (entry ∷ insns) =
    All-append (IsWithin visit.stay) (touches_of regs visit machine entry)
    (touches_in regs visit (after_entry entry machine) insns)
    (with_within regs visit entry.line (base_in (operands_of entry.insn)) (act_in machine entry).access)
    (all_within regs visit (after_entry entry machine) insns)

-- ---- a byte more

pub touched_byte : (visit : Visit) (line : ℕ) (base : Reg) (byte offset size : ℕ) (touches now all : List Touch)
    (touch : Touch)
    → offset < size
    → touches ++ touches_from visit line base (byte + offset) (size - offset) ≡ all
    → touch ≡ record { visit = visit; line = line; base = base; byte = byte + offset }
    → now ≡ touches ++ touch ∷ []
    → now ++ touches_from visit line base (byte + (offset + 1)) (size - (offset + 1)) ≡ all
touched_byte visit line base byte offset size touches now all touch h before is adds =
    let less : size - offset ≡ suc (size - (offset + 1)) = omega (arith, h) in
    let next : byte + offset + 1 ≡ byte + (offset + 1) = omega arith in
    rw (adds, is, ← next)
    (append_assoc touches (record { visit = visit; line = line; base = base; byte = byte + offset } ∷ [])
    (touches_from visit line base (byte + offset + 1) (size - (offset + 1)))
    ∙ rw less at before)

-- ---- an instruction as a block of its own

exits : (before : Exit) (target : Option Target) → later_exit before (exit_after Next target) ≡ exit_after before target
exits before None = refl
exits before (Some (ToBlock number)) = refl
exits before (Some (ToWord word)) = refl

pub part_at : (parts : List Serial) (insns : List SerialInsn) (k : ℕ) (part : Serial) (entry : SerialInsn)
    → parts ≡ map alone insns → k < length insns → part ≡ get_or parts k part → entry ≡ get_or insns k entry
    → part ≡ alone entry
part_at parts insns k part entry same inside found here =
    found
    ∙ ap (λ (ps : List Serial). get_or ps k part) same
    ∙ get_or-map alone insns k entry part inside
    ∙ ap alone (sym here)

pub ran_next : (machine next : Machine) (before exit : Exit) (part : Serial) (entry : SerialInsn)
    (rest : List SerialInsn) (all : Ran)
    → part ≡ alone entry
    → fold after_insn (record { machine = machine; exit = before }) (entry ∷ rest) ≡ all
    → next ≡ (serial part.insns machine).machine → exit ≡ later_exit before (serial part.insns machine).exit
    → fold after_insn (record { machine = next; exit = exit }) rest ≡ all
ran_next machine next before exit part entry rest all is ran moved left =
    let m : next ≡ after_entry entry machine = moved ∙ ap (λ (p : Serial). (serial p.insns machine).machine) is in
    let e : exit ≡ exit_after before (act_in machine entry).target =
    left ∙ ap (λ (p : Serial). later_exit before (serial p.insns machine).exit) is ∙ exits before
    (act_in machine entry).target in
    ap (λ (m : Machine). fold after_insn (record { machine = m; exit = exit }) rest) m
    ∙ ap (λ (e : Exit). fold after_insn (record { machine = after_entry entry machine; exit = e }) rest) e
    ∙ ran

pub moved_next : (machine next : Machine) (part : Serial) (entry : SerialInsn) → part ≡ alone entry
    → next ≡ (serial part.insns machine).machine → next ≡ after_entry entry machine
moved_next machine next part entry is moved = moved ∙ ap (λ (p : Serial). (serial p.insns machine).machine) is

pub drop_more : (insns : List SerialInsn) (k : ℕ) (entry : SerialInsn) → k < length insns → entry ≡ get_or insns k entry
    → drop k insns ≡ entry ∷ drop (k + 1) insns
drop_more insns k entry inside is =
    let next : k + 1 ≡ suc k = omega arith in
    rw next (drop-cons insns k entry inside ∙ ap (λ (e : SerialInsn). e ∷ drop (suc k) insns) (sym is))
