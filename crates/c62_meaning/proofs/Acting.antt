-- What an instruction does depends on what it reads alone.
use Rattle.std.proofs.Common.{◌≡◌, ℕ, ◌+◌, ◌<◌, ◌≤◌, true, List, [], ◌∷◌, ◌++◌, map, Option}
use Rattle.std.proofs.Common.{Some, None, refl, sym, ◌∙◌, ap, ⊎_elim, arith}
use Rattle.std.specs.Prelude.{option_map, if◌then◌else◌}
use Rattle.std.specs.List.{zip, list_any}
use Rattle.std.specs.Option.{option_to_list}
use Rattle.std.proofs.lemmas.Bool.{cases_Bool, cond-true, cond-false, or_left, or_right}
use Rattle.c62_op.specs.declared.register.Reg.{Reg}
use Rattle.c62_op.specs.declared.register.Cond.{Cond as Condition}
use Rattle.c62_op.specs.declared.register.Unit.{Unit as FunctionalUnit}
use Rattle.c62_op.specs.declared.operands.Op.{Op}
use Rattle.c62_op.specs.declared.operands.Operands.{Operands}
use Rattle.c62_insn.specs.declared.effect.Access.{Access as MemoryAccess}
use Rattle.c62_insn.specs.declared.insn.Insn.{Insn}
use Rattle.c62_op.specs.Takes.{same_reg, takes}
use Rattle.c62_op.specs.Shape.{is_load, is_store, reads_of, writes_of}
use Rattle.c62_insn.specs.Insn.{IsSameInsn, op_of, operands_of, cond_of, operand_reads}
use Rattle.c62_insn.specs.Insn.{is_condition_on, reads_register}
use Rattle.c62_insn.specs.Effect.{runs_of, values_of, access_of, target_of}
use Rattle.c62_insn.proofs.InsnLemmas.{has_unit}
use Rattle.c62_serial.specs.Memory.{is_good, place_from, placed_from}
use Rattle.c62_serial.specs.Effect.{Act, no_act, runs, operand_values, loaded, act_on, act_of}
use Rattle.std.proofs.lemmas.Bool.Decides.{nat_tests}

abbrev pub Reads : Insn → Reg → Type 0
Reads insn reg = reads_register insn reg ≡ true

-- the access of the instruction by its place, where memory begins at this address and registers have these words
abbrev pub access_at : Insn → ℕ → (Reg → ℕ) → Option MemoryAccess
access_at insn base word = placed_from base (access_of (op_of insn) (operands_of insn) (operand_values word insn))

-- a load of the instruction, where registers have these words, reads the byte at a place
pub record LoadsByte (insn : Insn) (base : ℕ) (word : Reg → ℕ) (address : ℕ) : Type 0 where
  pub access : MemoryAccess
  pub runs : runs word insn ≡ true
  pub accesses : access_at insn base word ≡ Some access
  pub loads : access.value ≡ None
  pub good : is_good access.address access.size ≡ true
  pub low : access.address ≤ address
  pub high : address < access.address + access.size

runs_same : (c : Option Condition) (word word' : Reg → ℕ)
    → ((reg : Reg) → is_condition_on reg c ≡ true → word reg ≡ word' reg)
    → runs_of c (option_map (λ cond. word cond.reg) c) ≡ runs_of c (option_map (λ cond. word' cond.reg) c)
runs_same c word word' h = grind arith

words_same : (regs : List Reg) (word word' : Reg → ℕ)
    → ((reg : Reg) → list_any (λ read. same_reg read reg) regs ≡ true → word reg ≡ word' reg)
    → map word regs ≡ map word' regs
words_same [] word word' h = refl
words_same (x ∷ xs) word word' h = grind (arith, words_same xs word word')

on_same : (insn : Insn) (base : ℕ) (word : Reg → ℕ) (byte byte' : ℕ → ℕ) → runs word insn ≡ true
    → ((a : ℕ) → LoadsByte insn base word a → byte a ≡ byte' a)
    → act_on insn base (operand_values word insn) byte ≡ act_on insn base (operand_values word insn) byte'
on_same insn base word byte byte' t h = grind (arith, nat_tests)

pub act_same : (insn : Insn) (base base' : ℕ) (word word' : Reg → ℕ) (byte byte' : ℕ → ℕ) → base ≡ base'
    → ((reg : Reg) → Reads insn reg → word reg ≡ word' reg)
    → ((a : ℕ) → LoadsByte insn base' word' a → byte a ≡ byte' a)
    → act_of insn base word byte ≡ act_of insn base' word' byte'
act_same insn base base' word word' byte byte' same_base same_word same_byte =
    let c : runs word insn ≡ runs word' insn = runs_same (cond_of insn) word word'
    (λ reg h. same_word reg (or_right _ _ h)) in
    let m : operand_values word insn ≡ operand_values word' insn = words_same (operand_reads insn) word word'
    (λ reg h. same_word reg (or_left _ _ h)) in
    ap (λ b. if b then act_on insn base (operand_values word insn) byte else no_act) c
    ∙ ap (λ reads. if runs word' insn then act_on insn base reads byte else no_act) m
    ∙ ap (λ from. if runs word' insn then act_on insn from (operand_values word' insn) byte else no_act) same_base
    ∙ ⊎_elim {C = (if runs word' insn then act_on insn base' (operand_values word' insn) byte else no_act)
    ≡ act_of insn base' word'
    byte'}
    (λ t. cond-true _ _ no_act t ∙ on_same insn base' word' byte byte' t same_byte ∙ sym (cond-true _ _ no_act t))
    (λ t. cond-false _ _ no_act t ∙ sym (cond-false _ _ no_act t))
    (cases_Bool (runs word' insn))

-- what an instruction of these parts does
abbrev act_by : Op → Operands → Option Condition → ℕ → (Reg → ℕ) → (ℕ → ℕ) → Act
act_by op operands cond base word byte =
    if runs_of cond (option_map (λ c. word c.reg) cond) then record {
      writes = zip (writes_of op operands)
          (values_of op operands (map word (reads_of op operands)) ++ option_to_list
          (loaded byte op (placed_from base (access_of op operands (map word (reads_of op operands))))));
      access = placed_from base (access_of op operands (map word (reads_of op operands)));
      target = target_of operands (map word (reads_of op operands));
    } else no_act

-- it does not depend on the written unit
pub same_act : (one other : Insn) (base : ℕ) (word : Reg → ℕ) (byte : ℕ → ℕ) → IsSameInsn one other
    → act_of one base word byte ≡ act_of other base word byte
same_act one other base word byte h = grind arith

-- ---- loads and stores

-- an access with no value to store is a load's
access_loads : (op : Op) (operands : Operands) (u : FunctionalUnit) (reads : List ℕ) (access : MemoryAccess)
    → takes op operands u ≡ true
    → access_of op operands reads ≡ Some access → access.value ≡ None → is_load op ≡ true
access_loads op operands u reads access h e v = grind arith

-- an access by its place is one by its address
pub unplaced : (base : ℕ) (found : Option MemoryAccess) (access : MemoryAccess) → placed_from base found ≡ Some access
    → (raw : MemoryAccess) × (found ≡ Some raw) × (record raw { address = place_from base raw.address } ≡ access)
unplaced base found access e = grind arith

pub is_loads : (insn : Insn) (base : ℕ) (word : Reg → ℕ) (a : ℕ) → LoadsByte insn base word a
    → is_load (op_of insn) ≡ true
is_loads insn base word a h =
    let u = has_unit insn in
    let r = unplaced base (access_of (op_of insn) (operands_of insn) (operand_values word insn)) h.access h.accesses in
    access_loads (op_of insn) (operands_of insn) u.0 (operand_values word insn) r.0 u.1 r.1
    (ap (λ (m : MemoryAccess). m.value) r.2 ∙ h.loads)

pub is_stores : (insn : Insn) (base : ℕ) (word : Reg → ℕ) (access : MemoryAccess) (value : ℕ)
    → access_at insn base word ≡ Some access → access.value ≡ Some value → is_store (op_of insn) ≡ true
is_stores insn base word access value e v = grind arith

pub load_not_store : (op : Op) → is_load op ≡ true → is_store op ≡ true → ⊥
load_not_store op a b = grind arith
