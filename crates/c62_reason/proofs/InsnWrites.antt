-- What instructions write, and when.
use Rattle.std.proofs.Common.{arith, ◌≡◌, ◌≢◌, ℕ, zero, suc, Bool, true, false, List, [], ◌∷◌, ◌++◌, Option, Some}
use Rattle.std.proofs.Common.{get_or, refl, sym, ap, subst, ◌∙◌, inl, inr, ◌⊎◌}
use Rattle.std.specs.Prelude.{Contains, if◌then◌else◌, ◌||◌, slice_get}
use Rattle.std.specs.List.{list_any}
use Rattle.std.proofs.lemmas.Bool.{cases_eq}
use Rattle.std.proofs.lemmas.Option.{same_Some, slice_get-get_or}
use Rattle.c62_op.specs.declared.register.Reg.{Reg}
use Rattle.c62_op.specs.declared.register.Cond.{Cond as Condition}
use Rattle.c62_op.specs.declared.operands.Op.{Op}
use Rattle.c62_op.specs.declared.operands.Op.TheVariants.{B, Ldb, Ldbu, Ldh, Ldhu, Ldw, Stb, Sth, Stw}
use Rattle.c62_op.specs.declared.operands.Operands.{Operands}
use Rattle.c62_op.specs.declared.operands.Operands.TheVariants.{Three, ConstantFirst, ConstantSecond, Two, Field}
use Rattle.c62_op.specs.declared.operands.Operands.TheVariants.{Constant, Access, Block, Register}
use Rattle.c62_op.specs.Takes.{has_kind, same_reg}
use Rattle.c62_op.proofs.Registers.{same_reg-refl}
use Rattle.c62_op.specs.Shape.{is_branch, is_load, is_store, delay_of, changes_base, offset_reads, reads_of, writes_of}
use Rattle.c62_op.proofs.TakenTests.{taken_kind}
use Rattle.c62_insn.specs.declared.insn.Insn.{Insn}
use Rattle.c62_insn.specs.Insn.{op_of, operands_of, cond_of, register_writes, reads_register, is_condition_on}
use Rattle.c62_insn.proofs.InsnLemmas.{has_unit, writes_delay_of, writes_distinct}

-- ---- what instructions write

pub load_delay : (op : Op) → is_load op ≡ true → delay_of op ≡ 4
load_delay Ldb h = refl
load_delay Ldbu h = refl
load_delay Ldh h = refl
load_delay Ldhu h = refl
load_delay Ldw h = refl
load_delay _ h = cc

pub store_delay : (op : Op) → is_store op ≡ true → delay_of op ≡ 0
store_delay Stb h = refl
store_delay Sth h = refl
store_delay Stw h = refl
store_delay _ h = cc

abbrev is_access : Operands → Bool
is_access (Access _ _ _ _) = true
is_access _ = false

store_accesses : (op : Op) (operands : Operands) → is_store op ≡ true → has_kind op operands ≡ true
    → is_access operands ≡ true
store_accesses op (Access reg base form offset) h kind = refl
store_accesses Stb _ h kind = cc
store_accesses Sth _ h kind = cc
store_accesses Stw _ h kind = cc
store_accesses _ _ h kind = cc

not_store : (op : Op) (operands : Operands) (b : Bool) → is_store op ≡ b → has_kind op operands ≡ true
    → is_access operands ≡ false → b ≡ false
not_store op operands false e kind h = refl
not_store op operands true e kind h = (let a = store_accesses op operands e kind in absurd cc)

-- a base that is written at once, or a result, which a store has none of
abbrev IsWrite : Op → Operands → Option Condition → Reg → ℕ → Type 0
IsWrite op operands cond reg delay =
    ((delay ≡ 0) × (list_any (λ read. same_reg read reg) (reads_of op operands) || is_condition_on reg cond ≡ true))
    ⊎ ((delay ≡ delay_of op) × (is_store op ≡ false))

one_of : (x w : Reg × ℕ) → Contains (x ∷ []) w → w ≡ x
one_of x w (zero, within, e) = sym e
one_of x w (suc k, within, e) = absurd (omega (arith, within))

two_of : (c l : Bool) (x y w : Reg × ℕ) → Contains ((if c then x ∷ [] else []) ++ (if l then y ∷ [] else [])) w
    → (w ≡ x) ⊎ ((w ≡ y) × (l ≡ true))
two_of true true x y w (zero, within, e) = inl (sym e)
two_of true true x y w (suc zero, within, e) = inr (sym e, refl)
two_of true true x y w (suc (suc k), within, e) = absurd (omega (arith, within))
two_of true false x y w h = inl (one_of x w h)
two_of false true x y w h = inr (one_of y w h, refl)
two_of false false x y w (k, within, e) = absurd (omega (arith, within))

reads_base : (s : Bool) (reg base : Reg) (rest : List Reg) (b : Bool)
    → list_any (λ read. same_reg read base) ((if s then reg ∷ [] else []) ++ base ∷ rest) || b ≡ true
reads_base true reg base rest b = (let same = same_reg-refl base in grind (arith, same))
reads_base false reg base rest b = (let same = same_reg-refl base in grind (arith, same))

result_is : (op : Op) (operands : Operands) (cond : Option Condition) (d reg : Reg) (delay : ℕ)
    → has_kind op operands ≡ true → is_access operands ≡ false
    → Contains {X = Reg × ℕ} ((d, delay_of op) ∷ []) (reg, delay) → IsWrite op operands cond reg delay
result_is op operands cond d reg delay kind other h =
    inr (
      ap (λ (w : Reg × ℕ). w.1) (one_of (d, delay_of op) (reg, delay) h),
      not_store op operands (is_store op) refl
          kind other,
    )

write_by : (op : Op) (operands : Operands) (cond : Option Condition) (reg : Reg) (delay : ℕ)
    → has_kind op operands ≡ true → Contains (writes_of op operands) (reg, delay)
    → IsWrite op operands cond reg delay
write_by op (Three a b d) cond reg delay kind h = result_is op (Three a b d) cond d reg delay kind refl h
write_by op (ConstantFirst k a d) cond reg delay kind h = result_is op (ConstantFirst k a d) cond d reg delay kind refl
    h
write_by op (ConstantSecond a k d) cond reg delay kind h = result_is op (ConstantSecond a k d) cond d reg delay kind
    refl h
write_by op (Two a d) cond reg delay kind h = result_is op (Two a d) cond d reg delay kind refl h
write_by op (Field a k m d) cond reg delay kind h = result_is op (Field a k m d) cond d reg delay kind refl h
write_by op (Constant k d) cond reg delay kind h = result_is op (Constant k d) cond d reg delay kind refl h
write_by op (Access r base form offset) cond reg delay kind h =
    elim (two_of (changes_base form) (is_load op) (base, 0) (r, delay_of op) (reg, delay) h) [
      | inl e ↦
          inl (
            ap (λ (w : Reg × ℕ). w.1) e,
            subst (λ (x : Reg). list_any (λ read. same_reg read x) (reads_of op (Access r base form offset)) ||
                is_condition_on x cond ≡ true)
                (sym (ap (λ (w : Reg × ℕ). w.0) e))
                (reads_base (is_store op) r base (offset_reads offset) (is_condition_on base cond)),
          )
      | inr e ↦ inr (ap (λ (w : Reg × ℕ). w.1) e.0, no_store op e.1 (is_store op) refl)
    ]
  where
    no_store : (op : Op) → is_load op ≡ true → (b : Bool) → is_store op ≡ b → b ≡ false
    no_store op h false e = refl
    no_store op h true e = (let a = load_delay op h in let b = store_delay op e in absurd (omega (arith, a, b)))
write_by op (Block k) cond reg delay kind h = (let within = h.1 in absurd (omega (arith, within)))
write_by op (Register r) cond reg delay kind h = (let within = h.1 in absurd (omega (arith, within)))

kind_of : (insn : Insn) → has_kind (op_of insn) (operands_of insn) ≡ true
kind_of insn = let unit = has_unit insn in taken_kind (op_of insn) (operands_of insn) unit.0 unit.1

write_is : (insn : Insn) (reg : Reg) (delay : ℕ) → Contains (register_writes insn) (reg, delay)
    → ((delay ≡ 0) × (reads_register insn reg ≡ true))
    ⊎ ((delay ≡ delay_of (op_of insn)) × (is_store (op_of insn) ≡ false))
write_is insn reg delay h = write_by (op_of insn) (operands_of insn) (cond_of insn) reg delay (kind_of insn) h

-- a load or store reads what it writes at once: its base
pub access_reads : (insn : Insn) (reg : Reg) → (is_load (op_of insn) ≡ true) ⊎ (is_store (op_of insn) ≡ true)
    → Contains (register_writes insn) (reg, 0)
    → reads_register insn reg ≡ true
access_reads insn reg access h = elim (write_is insn reg 0 h) [
  | inl base ↦ base.1
  | inr result ↦ elim access [
    | inl load ↦ (let e = load_delay (op_of insn) load in let delay = result.0 in absurd (omega (arith, e, delay)))
    | inr store ↦ (let e = result.1 in absurd cc)
  ]
]

-- a store writes at once
pub stored_at_once : (insn : Insn) (reg : Reg) (delay : ℕ) → is_store (op_of insn) ≡ true
    → Contains (register_writes insn) (reg, delay) → delay ≡ 0
stored_at_once insn reg delay store h =
    let small = writes_delay_of insn reg delay h in
    let none = store_delay (op_of insn) store in
    omega (arith, small, none)

targets : (op : Op) (operands : Operands) (w : Reg × ℕ) → is_branch op ≡ true → has_kind op operands ≡ true
    → Contains (writes_of op operands) w → ⊥
targets B (Block k) w h kind c = (let within = c.1 in absurd (omega (arith, within)))
targets B (Register r) w h kind c = (let within = c.1 in absurd (omega (arith, within)))
targets B _ w h kind c = absurd cc
targets _ _ w h kind c = absurd cc

-- a branch writes nothing
pub no_writes : (insn : Insn) (w : Reg × ℕ) → is_branch (op_of insn) ≡ true → Contains (register_writes insn) w → ⊥
no_writes insn w branch h = targets (op_of insn) (operands_of insn) w branch (kind_of insn) h

-- of two writes with different delays one is that of a base
pub one_is_read : (insn : Insn) (r s : Reg) (d e : ℕ) → Contains (register_writes insn) (r, d)
    → Contains (register_writes insn) (s, e) → d ≢ e
    → ((d ≡ 0) × (reads_register insn r ≡ true)) ⊎ ((e ≡ 0) × (reads_register insn s ≡ true))
one_is_read insn r s d e one other apart = elim (write_is insn r d one) [
  | inl base ↦ inl base
  | inr result ↦ elim (write_is insn s e other) [
    | inl base ↦ inr base
    | inr second ↦ absurd (apart (result.0 ∙ sym second.0))
  ]
]

-- two writes with one delay are of one register
pub one_register : (insn : Insn) (r s : Reg) (d : ℕ) → Contains (register_writes insn) (r, d)
    → Contains (register_writes insn) (s, d) → r ≡ s
one_register insn r s d one other = elim (cases_eq one.0 other.0) [
  | inl same ↦
      ap (λ (w : Reg × ℕ). w.0) (sym (at one)
      ∙ (ap (λ (k : ℕ). get_or (register_writes insn) k (r, d)) same ∙ from other))
  | inr apart ↦
      absurd (writes_distinct insn r s one.0 other.0 d d (read_at one) (read_at other) apart refl)
]
  where
    read_at : {w : Reg × ℕ} (c : Contains (register_writes insn) w) → slice_get (register_writes insn) c.0 ≡ Some w
    read_at {w} c = slice_get-get_or (register_writes insn) c.0 w c.1 ∙ ap (λ (v : Reg × ℕ). Some v) c.2

    at : (c : Contains (register_writes insn) (r, d)) → get_or (register_writes insn) c.0 (r, d) ≡ (r, d)
    at c = c.2

    from : (c : Contains (register_writes insn) (s, d)) → get_or (register_writes insn) c.0 (r, d) ≡ (s, d)
    from c = same_Some (get_or (register_writes insn) c.0 (r, d)) (s, d)
        (sym (slice_get-get_or (register_writes insn) c.0 (r, d) c.1) ∙ read_at c)
