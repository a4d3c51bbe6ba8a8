-- The reasons that ask for a register.
use Rattle.std.proofs.Common.{arith, ◌≡◌, ℕ, ◌+◌, ◌<◌, ◌≤◌, ℤ, pos, ◌-ℤ◌, true, List, Some, refl, sym, ap, subst, ◌∙◌}
use Rattle.std.proofs.Common.{◌⊎◌}
use Rattle.std.specs.Prelude.{All, Contains, slice_get}
use Rattle.std.proofs.lemmas.Int.{ints}
use Rattle.std.proofs.lemmas.List.Elements.{All-contains}
use Rattle.std.proofs.lemmas.Option.{same_Some}
use Rattle.c62_op.specs.declared.register.Reg.{Reg}
use Rattle.c62_op.specs.Shape.{is_load, is_store}
use Rattle.c62_insn.specs.declared.insn.Insn.{Insn}
use Rattle.c62_insn.specs.Insn.{op_of, register_writes}
use Rattle.c62_rules.specs.Dependence.{IsBound}
use Rattle.c62_rules.specs.Dependence.IsBound.{ReadAfterWrite, WriteAfterRead, WriteAfterWrite, AfterStore}
use Rattle.c62_rules.specs.Dependence.IsBound.{StoreAfterLoad, BeforeBranch}
use Rattle.c62_depend.specs.Latency.{latency}
use Rattle.c62_depend.proofs.Latencies.{greatest_from}
use Rattle.c62_reason.specs.declared.reason.Reason.{Reason}
use Rattle.c62_reason.specs.declared.reason.Reason.TheVariants.{Reads, Overwrites, Writes, AccessesMemory, StoresMemory}
use Rattle.c62_reason.specs.declared.reason.Reason.TheVariants.{Branches}
use Rattle.c62_reason.specs.Reason.{reason_of, place_of, AsksFor, IsRead, IsSpared, IsOverwritten, IsReason}
use Rattle.c62_reason.proofs.InsnWrites.{access_reads, stored_at_once, no_writes}

-- ---- the case that asks

-- both write this register, which would keep them so many cycles apart
abbrev pub BothWrite : Insn → Insn → ℤ → Reg → Type 0
BothWrite p q cycles reg =
    (first : ℕ) × Contains (register_writes p) (reg, first) × (second : ℕ) × Contains (register_writes q) (reg, second)
    × (cycles ≡ pos (first + 1) -ℤ pos second)

-- such a write of this register
abbrev pub HasWrite : (Reg × ℕ → Type 0) → List (Reg × ℕ) → Reg → Type 0
HasWrite Is writes reg = (delay : ℕ) × Contains writes (reg, delay) × Is (reg, delay)

module _ (block : List Insn) (i j : ℕ) (p q : Insn) (cycles : ℤ) where
  abbrev Asks : Reason → Type 0
  Asks reason = AsksFor block i j p q cycles reason

  pub has_bound : slice_get block i ≡ Some p → slice_get block j ≡ Some q → latency block i j ≡ Some cycles
      → IsBound block i j p q cycles
  has_bound at_p at_q e =
      let greatest = (greatest_from block i j (Some cycles) (sym e)).applies in
      subst (λ (x : Insn). IsBound block i j x q cycles) (same_Some greatest.first p (sym greatest.is_first ∙ at_p))
      (subst (λ (y : Insn). IsBound block i j greatest.first y cycles)
      (same_Some greatest.second q (sym greatest.is_second ∙ at_q)) greatest.applies)

  pub read_of : (reg : Reg) → Asks (Reads reg) → HasWrite (IsRead q cycles) (register_writes p) reg
  read_of reg (ReadAfterWrite r d a b c, e) =
      let same : r ≡ reg = cc in
      subst (λ (x : Reg). HasWrite (IsRead q cycles) (register_writes p) x) same (d, a, (b, c))
  read_of reg (WriteAfterRead r d a b c, e) = absurd cc
  read_of reg (WriteAfterWrite r f s a b ex c, e) = absurd cc
  read_of reg (AfterStore a b c d, e) = absurd cc
  read_of reg (StoreAfterLoad a b c d, e) = absurd cc
  read_of reg (BeforeBranch a b, e) = absurd cc

  pub asks_read : (reg : Reg) → HasWrite (IsRead q cycles) (register_writes p) reg → Asks (Reads reg)
  asks_read reg (d, a, (b, c)) = (ReadAfterWrite reg d a b c, refl)

  pub none_read : All (λ write. IsRead q cycles write → ⊥) (register_writes p) → (reg : Reg) → Asks (Reads reg) → ⊥
  none_read none reg asks =
      let found = read_of reg asks in
      All-contains (λ write. IsRead q cycles write → ⊥) (register_writes p) (reg, found.0) none found.1 found.2

  pub overwritten_of : (reg : Reg) → Asks (Overwrites reg) → HasWrite (IsSpared p cycles) (register_writes q) reg
  overwritten_of reg (ReadAfterWrite r d a b c, e) = absurd cc
  overwritten_of reg (WriteAfterRead r d a b c, e) =
      let same : r ≡ reg = cc in
      subst (λ (x : Reg). HasWrite (IsSpared p cycles) (register_writes q) x) same (d, a, (b, c))
  overwritten_of reg (WriteAfterWrite r f s a b ex c, e) = absurd cc
  overwritten_of reg (AfterStore a b c d, e) = absurd cc
  overwritten_of reg (StoreAfterLoad a b c d, e) = absurd cc
  overwritten_of reg (BeforeBranch a b, e) = absurd cc

  pub asks_spared : (reg : Reg) → HasWrite (IsSpared p cycles) (register_writes q) reg → Asks (Overwrites reg)
  asks_spared reg (d, a, (b, c)) = (WriteAfterRead reg d a b c, refl)

  pub none_spared : All (λ write. IsSpared p cycles write → ⊥) (register_writes q) → (reg : Reg) → Asks (Overwrites reg)
      → ⊥
  none_spared none reg asks =
      let found = overwritten_of reg asks in
      All-contains (λ write. IsSpared p cycles write → ⊥) (register_writes q) (reg, found.0) none found.1 found.2

  pub both_write : (reg : Reg) → HasWrite (IsOverwritten q cycles) (register_writes p) reg → BothWrite p q cycles reg
  both_write reg (f, one, ((r, s), other, (same, e))) =
      (f, one, s, subst (λ (x : Reg). Contains (register_writes q) (x, s)) same other, e)

  pub none_both : All (λ write. IsOverwritten q cycles write → ⊥) (register_writes p) → (reg : Reg)
      → BothWrite p q cycles reg → ⊥
  none_both none reg (f, one, s, other, e) =
      All-contains (λ write. IsOverwritten q cycles write
      → ⊥) (register_writes p) (reg, f) none one ((reg, s), other, (refl, e))

  pub both_of : (reg : Reg) → Asks (Writes reg) → BothWrite p q cycles reg
  both_of reg (ReadAfterWrite r d a b c, e) = absurd cc
  both_of reg (WriteAfterRead r d a b c, e) = absurd cc
  both_of reg (WriteAfterWrite r f s a b ex c, e) =
      let same : r ≡ reg = cc in
      subst (λ (x : Reg). BothWrite p q cycles x) same (f, a, s, b, c)
  both_of reg (AfterStore a b c d, e) = absurd cc
  both_of reg (StoreAfterLoad a b c d, e) = absurd cc
  both_of reg (BeforeBranch a b, e) = absurd cc

  -- no register is read that the earlier one writes, nor one written that it reads
  module _ (unread : (reg : Reg) → Asks (Reads reg) → ⊥) (free : (reg : Reg) → Asks (Overwrites reg) → ⊥) where
    after_store : (reg : Reg) → BothWrite p q cycles reg → is_store (op_of p) ≡ true → (is_load (op_of q) ≡ true)
        ⊎ (is_store (op_of q) ≡ true) → cycles ≡ pos 1 → ⊥
    after_store reg (f, one, s, other, e) store access is =
        let first : f ≡ 0 = stored_at_once p reg f store one in
        let second : s ≡ 0 = omega (arith, ints, e, is, first) in
        let reads = access_reads q reg access (subst (λ (n : ℕ). Contains (register_writes q) (reg, n)) second other) in
        unread reg (ReadAfterWrite reg f one reads (is ∙ ap (λ (n : ℕ). pos (n + 1)) (sym first)), refl)

    asks_written : (reg : Reg) → BothWrite p q cycles reg → IsBound block i j p q cycles → Asks (Writes reg)
    asks_written reg both (ReadAfterWrite r d a b c) = absurd (unread r (ReadAfterWrite r d a b c, refl))
    asks_written reg both (WriteAfterRead r d a b c) = absurd (free r (WriteAfterRead r d a b c, refl))
    asks_written reg (f, one, s, other, e) (WriteAfterWrite r g t a b ex c) =
        (WriteAfterWrite reg f s one other ex e, refl)
    asks_written reg both (AfterStore store access apart c) = absurd (after_store reg both store access c)
    asks_written reg (f, one, s, other, e) (StoreAfterLoad load store apart c) =
        let second : s ≡ 0 = stored_at_once q reg s store other in
        absurd (omega (arith, ints, e, c, second))
    asks_written reg (f, one, s, other, e) (BeforeBranch branch c) = absurd (no_writes q (reg, s) branch other)

    -- nor one that both write
    module _ (unwritten : (reg : Reg) → BothWrite p q cycles reg → ⊥) (told : Reason)
        (order : (bound : IsBound block i j p q cycles) → 3 < place_of (reason_of bound) → reason_of bound ≡ told) where
      asks_order : IsBound block i j p q cycles → Asks told
      asks_order (ReadAfterWrite r d a b c) = absurd (unread r (ReadAfterWrite r d a b c, refl))
      asks_order (WriteAfterRead r d a b c) = absurd (free r (WriteAfterRead r d a b c, refl))
      asks_order (WriteAfterWrite r f s a b ex c) = absurd (unwritten r (f, a, s, b, c))
      asks_order (AfterStore a b c d) = (AfterStore a b c d, order (AfterStore a b c d) (omega arith))
      asks_order (StoreAfterLoad a b c d) = (StoreAfterLoad a b c d, order (StoreAfterLoad a b c d) (omega arith))
      asks_order (BeforeBranch a b) = (BeforeBranch a b, order (BeforeBranch a b) (omega arith))

      told_too : (other : Reason) → 3 < place_of other → Asks other → place_of told ≤ place_of other
      told_too other late asks =
          let same : reason_of asks.0 ≡ told = order asks.0 (subst (λ (r : Reason). 3 < place_of r) (sym asks.1) late)
          in
          let e : place_of told ≡ place_of other = ap place_of (sym same ∙ asks.1) in
          omega (arith, e)

      earliest_order : (other : Reason) → Asks other → place_of told ≤ place_of other
      earliest_order (Reads reg) asks = absurd (unread reg asks)
      earliest_order (Overwrites reg) asks = absurd (free reg asks)
      earliest_order (Writes reg) asks = absurd (unwritten reg (both_of reg asks))
      earliest_order AccessesMemory asks = told_too AccessesMemory (omega arith) asks
      earliest_order StoresMemory asks = told_too StoresMemory (omega arith) asks
      earliest_order Branches asks = told_too Branches (omega arith) asks

    earliest_written : (other : Reason) → Asks other → 3 ≤ place_of other
    earliest_written (Reads reg) asks = absurd (unread reg asks)
    earliest_written (Overwrites reg) asks = absurd (free reg asks)
    earliest_written (Writes reg) asks = omega arith
    earliest_written AccessesMemory asks = omega arith
    earliest_written StoresMemory asks = omega arith
    earliest_written Branches asks = omega arith

  earliest_overwritten : ((reg : Reg) → Asks (Reads reg) → ⊥) → (other : Reason) → Asks other → 2 ≤ place_of other
  earliest_overwritten unread (Reads reg) asks = absurd (unread reg asks)
  earliest_overwritten unread (Overwrites reg) asks = omega arith
  earliest_overwritten unread (Writes reg) asks = omega arith
  earliest_overwritten unread AccessesMemory asks = omega arith
  earliest_overwritten unread StoresMemory asks = omega arith
  earliest_overwritten unread Branches asks = omega arith

  earliest_read : (other : Reason) → 1 ≤ place_of other
  earliest_read (Reads reg) = omega arith
  earliest_read (Overwrites reg) = omega arith
  earliest_read (Writes reg) = omega arith
  earliest_read AccessesMemory = omega arith
  earliest_read StoresMemory = omega arith
  earliest_read Branches = omega arith

  -- ---- the reason, where the two stand in the block

  module _ (at_p : slice_get block i ≡ Some p) (at_q : slice_get block j ≡ Some q) where
    reason_by : (reason : Reason) → Asks reason → ((other : Reason) → Asks other → place_of reason ≤ place_of other)
        → IsReason block i j cycles reason
    reason_by reason asks earliest = record
        { first = p; second = q; is_first = at_p; is_second = at_q; asks = asks; earliest = earliest }

    pub read_reason : (reg : Reg) → Asks (Reads reg) → IsReason block i j cycles (Reads reg)
    read_reason reg asks = reason_by (Reads reg) asks (λ other _. earliest_read other)

    pub overwritten_reason : (reg : Reg) → ((r : Reg) → Asks (Reads r) → ⊥) → Asks (Overwrites reg)
        → IsReason block i j cycles (Overwrites reg)
    overwritten_reason reg unread asks = reason_by (Overwrites reg) asks (earliest_overwritten unread)

    pub written_reason : (reg : Reg) → ((r : Reg) → Asks (Reads r) → ⊥) → ((r : Reg) → Asks (Overwrites r) → ⊥)
        → BothWrite p q cycles reg → latency block i j ≡ Some cycles
        → IsReason block i j cycles (Writes reg)
    written_reason reg unread free both e = reason_by (Writes reg)
        (asks_written unread free reg both (has_bound at_p at_q e)) (earliest_written unread free)

    pub order_reason : (told : Reason) → ((r : Reg) → Asks (Reads r) → ⊥) → ((r : Reg) → Asks (Overwrites r) → ⊥)
        → ((r : Reg) → BothWrite p q cycles r → ⊥)
        → ((bound : IsBound block i j p q cycles) → 3 < place_of (reason_of bound) → reason_of bound ≡ told)
        → latency block i j ≡ Some cycles → IsReason block i j cycles told
    order_reason told unread free unwritten order e =
        reason_by told (asks_order unread free unwritten told order (has_bound at_p at_q e))
        (earliest_order unread free unwritten told order)
