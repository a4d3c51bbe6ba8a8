-- There is one reason.
use Rattle.std.proofs.Common.{arith, ◌≡◌, ℕ, ◌+◌, ◌<◌, ◌≤◌, ℤ, pos, ◌-ℤ◌, true, false, List, refl, sym, ap, subst, ◌∙◌}
use Rattle.std.proofs.Common.{inl, inr}
use Rattle.std.specs.Prelude.{Contains}
use Rattle.std.proofs.lemmas.Int.{ints}
use Rattle.std.proofs.lemmas.Bool.{cases_eq}
use Rattle.std.proofs.lemmas.Option.{same_Some}
use Rattle.c62_op.specs.declared.register.Reg.{Reg}
use Rattle.c62_op.specs.declared.operands.Op.{Op}
use Rattle.c62_op.specs.declared.operands.Op.TheVariants.{B}
use Rattle.c62_op.specs.Shape.{is_branch, is_load, is_store}
use Rattle.c62_insn.specs.declared.insn.Insn.{Insn}
use Rattle.c62_insn.specs.Insn.{op_of, register_writes, reads_register}
use Rattle.c62_rules.specs.Dependence.{IsBound}
use Rattle.c62_rules.specs.Dependence.IsBound.{ReadAfterWrite, WriteAfterRead, WriteAfterWrite, AfterStore}
use Rattle.c62_rules.specs.Dependence.IsBound.{StoreAfterLoad, BeforeBranch}
use Rattle.c62_reason.specs.declared.reason.Reason.{Reason}
use Rattle.c62_reason.specs.declared.reason.Reason.TheVariants.{Reads, Overwrites, Writes, AccessesMemory, StoresMemory}
use Rattle.c62_reason.specs.declared.reason.Reason.TheVariants.{Branches}
use Rattle.c62_reason.specs.Reason.{reason_of, place_of, AsksFor, HasOneReason}
use Rattle.c62_reason.proofs.InsnWrites.{load_delay, store_delay, one_is_read, one_register}
use Rattle.c62_reason.proofs.AskingReasons.{read_of, overwritten_of, both_of}

-- ---- the cases that ask for no register

branch_loads_not : (op : Op) → is_branch op ≡ true → is_load op ≡ true → ⊥
branch_loads_not B h l = cc
branch_loads_not _ h l = cc

branch_stores_not : (op : Op) → is_branch op ≡ true → is_store op ≡ true → ⊥
branch_stores_not B h l = cc
branch_stores_not _ h l = cc

loads_not_stores : (op : Op) → is_load op ≡ true → is_store op ≡ true → ⊥
loads_not_stores op h l = (let a = load_delay op h in let b = store_delay op l in omega (arith, a, b))

module _ (p q : Insn) where
  pub branches_told : is_branch (op_of q) ≡ true
      → (block : List Insn) (i j : ℕ) (cycles : ℤ) (bound : IsBound block i j p q cycles)
      → 3 < place_of (reason_of bound)
      → reason_of bound ≡ Branches
  branches_told branch block i j cycles (ReadAfterWrite r d a b c) late = absurd (omega (arith, late))
  branches_told branch block i j cycles (WriteAfterRead r d a b c) late = absurd (omega (arith, late))
  branches_told branch block i j cycles (WriteAfterWrite r f s a b ex c) late = absurd (omega (arith, late))
  branches_told branch block i j cycles (AfterStore a (inl load) c d) late = absurd
      (branch_loads_not (op_of q) branch load)
  branches_told branch block i j cycles (AfterStore a (inr store) c d) late = absurd
      (branch_stores_not (op_of q) branch store)
  branches_told branch block i j cycles (StoreAfterLoad a b c d) late = absurd (branch_stores_not (op_of q) branch b)
  branches_told branch block i j cycles (BeforeBranch a b) late = refl

  pub accesses_told : is_branch (op_of q) ≡ false → is_store (op_of p) ≡ true
      → (block : List Insn) (i j : ℕ) (cycles : ℤ) (bound : IsBound block i j p q cycles)
      → 3 < place_of (reason_of bound) → reason_of bound ≡ AccessesMemory
  accesses_told straight store block i j cycles (ReadAfterWrite r d a b c) late = absurd (omega (arith, late))
  accesses_told straight store block i j cycles (WriteAfterRead r d a b c) late = absurd (omega (arith, late))
  accesses_told straight store block i j cycles (WriteAfterWrite r f s a b ex c) late = absurd (omega (arith, late))
  accesses_told straight store block i j cycles (AfterStore a b c d) late = refl
  accesses_told straight store block i j cycles (StoreAfterLoad a b c d) late = absurd
      (loads_not_stores (op_of p) a store)
  accesses_told straight store block i j cycles (BeforeBranch a b) late = absurd cc

  pub stores_told : is_branch (op_of q) ≡ false → is_store (op_of p) ≡ false
      → (block : List Insn) (i j : ℕ) (cycles : ℤ) (bound : IsBound block i j p q cycles)
      → 3 < place_of (reason_of bound) → reason_of bound ≡ StoresMemory
  stores_told straight store block i j cycles (ReadAfterWrite r d a b c) late = absurd (omega (arith, late))
  stores_told straight store block i j cycles (WriteAfterRead r d a b c) late = absurd (omega (arith, late))
  stores_told straight store block i j cycles (WriteAfterWrite r f s a b ex c) late = absurd (omega (arith, late))
  stores_told straight store block i j cycles (AfterStore a b c d) late = absurd cc
  stores_told straight store block i j cycles (StoreAfterLoad a b c d) late = refl
  stores_told straight store block i j cycles (BeforeBranch a b) late = absurd cc

-- ---- there is no second one

module _ (block : List Insn) (i j : ℕ) (p q : Insn) (cycles : ℤ) where
  abbrev IsAsked : Reason → Type 0
  IsAsked reason = AsksFor block i j p q cycles reason

  one_read : (r s : Reg) → IsAsked (Reads r) → IsAsked (Reads s) → r ≡ s
  one_read r s a b =
      let (d, one, (reads, c)) = read_of block i j p q cycles r a in
      let (e, other, (also, f)) = read_of block i j p q cycles s b in
      let same : e ≡ d = omega (arith, ints, c, f) in
      one_register p r s d one (subst (λ (n : ℕ). Contains (register_writes p) (s, n)) same other)

  one_overwritten : (r s : Reg) → IsAsked (Overwrites r) → IsAsked (Overwrites s) → r ≡ s
  one_overwritten r s a b =
      let (d, one, (reads, c)) = overwritten_of block i j p q cycles r a in
      let (e, other, (also, f)) = overwritten_of block i j p q cycles s b in
      let same : e ≡ d = omega (arith, ints, c, f) in
      one_register q r s d one (subst (λ (n : ℕ). Contains (register_writes q) (s, n)) same other)

  -- where the later one writes two registers that the earlier one writes, it reads the one that it writes at once
  asks_first : (r : Reg) (f s : ℕ) → Contains (register_writes p) (r, f) → cycles ≡ pos (f + 1) -ℤ pos s → s ≡ 0
      → reads_register q r ≡ true → IsAsked (Reads r)
  asks_first r f s one e none reads =
      (let is : cycles ≡ pos (f + 1) = omega (arith, ints, e, none) in (ReadAfterWrite r f one reads is, refl))

  one_written : ((reg : Reg) → IsAsked (Reads reg) → ⊥) → (r s : Reg) → IsAsked (Writes r) → IsAsked (Writes s) → r ≡ s
  one_written unread r s a b =
      let (f, one, g, other, e) = both_of block i j p q cycles r a in
      let (h, first, k, second, c) = both_of block i j p q cycles s b in
      elim (cases_eq g k) [
        | inl same ↦ one_register q r s g other
            (subst (λ (n : ℕ). Contains (register_writes q) (s, n)) (sym same) second)
        | inr apart ↦ elim (one_is_read q r s g k other second apart) [
          | inl reads ↦ absurd (unread r (asks_first r f g one e reads.0 reads.1))
          | inr reads ↦ absurd (unread s (asks_first s h k first c reads.0 reads.1))
        ]
      ]

  one_asked : (one other : Reason) → IsAsked one → IsAsked other
      → ((reason : Reason) → IsAsked reason → place_of one ≤ place_of reason)
      → ((reason : Reason) → IsAsked reason → place_of other ≤ place_of reason) → one ≡ other
  one_asked one other a b least lowest =
      let low = least other b in
      let high = lowest one a in
      by_place one other a b least (omega (arith, low, high))
    where
      by_place : (one other : Reason) → IsAsked one → IsAsked other
          → ((reason : Reason) → IsAsked reason → place_of one ≤ place_of reason) → place_of one ≡ place_of other
          → one ≡ other
      by_place (Reads r) (Reads s) a b least e = ap (λ (x : Reg). Reads x) (one_read r s a b)
      by_place (Overwrites r) (Overwrites s) a b least e = ap (λ (x : Reg). Overwrites x) (one_overwritten r s a b)
      by_place (Writes r) (Writes s) a b least e =
          ap (λ (x : Reg). Writes x)
          (one_written (λ reg asks. (let late = least (Reads reg) asks in omega (arith, late))) r s a b)
      by_place AccessesMemory AccessesMemory a b least e = refl
      by_place StoresMemory StoresMemory a b least e = refl
      by_place Branches Branches a b least e = refl
      by_place _ _ a b least e = absurd (omega (arith, e))

pub one_reason : (block : List Insn) (i j : ℕ) (cycles : ℤ) → HasOneReason block i j cycles
one_reason block i j cycles one other a b =
    let first : b.first ≡ a.first = same_Some b.first a.first (sym b.is_first ∙ a.is_first) in
    let second : b.second ≡ a.second = same_Some b.second a.second (sym b.is_second ∙ a.is_second) in
    one_asked block i j a.first a.second cycles one other a.asks
    (subst (λ (x : Insn). AsksFor block i j x a.second cycles other) first
    (subst (λ (y : Insn). AsksFor block i j b.first y cycles other) second b.asks))
    a.earliest
    (subst (λ (x : Insn). (reason : Reason) → AsksFor block i j x a.second cycles reason
    → place_of other ≤ place_of reason) first
    (subst (λ (y : Insn). (reason : Reason) → AsksFor block i j b.first y cycles reason
    → place_of other ≤ place_of reason) second b.earliest))
