-- Dependences by registers are direct, or kept by others.
use Rattle.c62_depend.proofs.Common.{◌≡◌, ℕ, zero, suc, ◌+◌, ◌-◌, ◌<◌, ◌≤◌, ℤ, pos, ◌-ℤ◌, ◌+ℤ◌, ◌≤ℤ◌, Bool, true, false}
use Rattle.c62_depend.proofs.Common.{List, Option, Some, None, refl, arith, ints, inl, inr, ◌&&◌, not, IsTrue, Contains}
use Rattle.c62_depend.proofs.Common.{slice_get, Reg, Insn, register_writes, reads_register, cond_of, IsBound}
use Rattle.c62_depend.proofs.Common.{ReadAfterWrite, WriteAfterRead, WriteAfterWrite, Bounds, are_exclusive, both_ways}
use Rattle.c62_depend.proofs.Common.{false_from_ne_true, or_cases, or_left, or_right, and_parts, cond}
use Rattle.c62_op.specs.declared.register.Cond.{Cond as Condition}
use Rattle.std.specs.Prelude.{is_none}
use Rattle.std.proofs.lemmas.List.Folds.{list_any_at}
use Rattle.c62_rules.specs.Dependence.{writes_in, exclusive_by, condition_in}
use Rattle.c62_depend.proofs.WrittenLemmas.{a_write}
use Rattle.c62_depend.specs.Direct.{always_writes, is_settled_by, is_open, uses_register, meet_in}
use Rattle.c62_depend.proofs.Relays.{Relay, relay}

-- ---- registers

-- an instruction that always writes the register
record Settles (block : List Insn) (low high : ℕ) (reg : Reg) : Type 0 where
  pub by : ℕ
  pub after : low ≤ by
  pub before : by < high
  pub insn : Insn
  pub at : slice_get block by ≡ Some insn
  pub free : cond_of insn ≡ None
  pub delay : ℕ
  pub writes : Contains (register_writes insn) (reg, delay)

free_of : (o : Option Condition) → is_none o ≡ true → o ≡ None
free_of None h = refl
free_of (Some cond) h = cc

-- an instruction that always writes a register
always_at : (block : List Insn) (low high by : ℕ) (reg : Reg) (o : Option Insn) → slice_get block by ≡ o → low ≤ by
    → by < high
    → always_writes reg o ≡ true → Settles block low high reg
always_at block low high by reg None at after before h = cc
always_at block low high by reg (Some insn) at after before h =
    let parts = and_parts (is_none (cond_of insn)) (writes_in reg (Some insn)) h in
    let write = a_write reg (register_writes insn) parts.1 in
    record {
      by = by;
      after = after;
      before = before;
      insn = insn;
      at = at;
      free = free_of (cond_of insn) parts.0;
      delay = write.0;
      writes = write.1;
    }

settled_by : (block : List Insn) (low high count : ℕ) (reg : Reg) → low + count ≤ high
    → is_settled_by block low count reg ≡ true → Settles block low high reg
settled_by block low high zero reg within h = cc
settled_by block low high (suc count) reg within h =
    elim (or_cases (is_settled_by block low count reg) (always_writes reg (slice_get block (low + count))) h) [
      | inl earlier ↦ settled_by block low high count reg (omega arith) earlier
      | inr last ↦ always_at block low high (low + count) reg (slice_get block (low + count)) refl (omega arith)
          (omega arith) last
    ]

-- what has no condition is exclusive to nothing
free_first : (block : List Insn) (i j : ℕ) (insn : Insn) → slice_get block i ≡ Some insn → cond_of insn ≡ None
    → are_exclusive block i j ≡ false
free_first block i j insn at free = rw (at, free) refl

free_second : (block : List Insn) (i j : ℕ) (insn : Insn) → slice_get block j ≡ Some insn → cond_of insn ≡ None
    → are_exclusive block i j ≡ false
free_second block i j insn at free = rw (at, free) (none_exclusive (condition_in (slice_get block i)))
  where
    none_exclusive : (a : Option Condition) → exclusive_by block i j a None ≡ false
    none_exclusive None = refl
    none_exclusive (Some cond) = refl

module _ (block : List Insn) (i j : ℕ) (p q : Insn) (b : ℤ) (at_i : slice_get block i ≡ Some p)
    (at_j : slice_get block j ≡ Some q) (before : i < j) where
  -- a register in which the two do not meet openly is settled between
  settles : (reg : Reg) → is_open block i j reg ≡ false → Settles block (i + 1) j reg
  settles reg closed = settled_by block (i + 1) j (j - (i + 1)) reg (omega arith)
      (known (is_settled_by block (i + 1) (j - (i + 1)) reg) closed)
    where
      known : (t : Bool) → not t ≡ false → t ≡ true
      known true h = refl
      known false h = cc

  bounds : (low high : ℕ) (one other : Insn) (bound : ℤ) → slice_get block low ≡ Some one
      → slice_get block high ≡ Some other → low < high
      → IsBound block low high one other bound → Bounds block low high bound
  bounds low high one other bound first second order applies = record {
    first = one;
    second = other;
    is_first = first;
    is_second = second;
    before = order;
    applies = applies;
  }

  -- an earlier use with a number of cycles before the write between, and a later one with a number behind it
  by_settling : (reg : Reg) (s : Settles block (i + 1) j reg) (one other : ℤ) → IsBound block i s.by p s.insn one
      → IsBound block s.by j s.insn q other
      → b ≤ℤ (one +ℤ other) → Relay block i j b
  by_settling reg s one other first second sum =
      let after : i + 1 ≤ s.by = s.after in
      relay block i s.by j b one other (omega arith) s.before (bounds i s.by p s.insn one at_i s.at (omega arith) first)
      (bounds s.by j s.insn q other s.at at_j s.before second) sum

  pub by_read : (reg : Reg) (delay : ℕ) → Contains (register_writes p) (reg, delay) → IsTrue (reads_register q reg)
      → b ≡ pos (delay + 1)
      → is_open block i j reg ≡ false → Relay block i j b
  by_read reg delay writes reads e closed =
      let s = settles reg closed in
      by_settling reg s (pos (delay + 1) -ℤ pos s.delay) (pos (s.delay + 1))
      (WriteAfterWrite reg delay s.delay writes s.writes (free_second block i s.by s.insn s.at s.free) refl)
      (ReadAfterWrite reg s.delay s.writes reads refl) (omega (arith, ints, e))

  pub by_spared : (reg : Reg) (delay : ℕ) → Contains (register_writes q) (reg, delay) → IsTrue (reads_register p reg)
      → b ≡ pos 0 -ℤ pos delay
      → is_open block i j reg ≡ false → Relay block i j b
  by_spared reg delay writes reads e closed =
      let s = settles reg closed in
      by_settling reg s (pos 0 -ℤ pos s.delay) (pos (s.delay + 1) -ℤ pos delay)
      (WriteAfterRead reg s.delay s.writes reads refl)
      (WriteAfterWrite reg s.delay delay s.writes writes (free_first block s.by j s.insn s.at s.free) refl)
      (omega (arith, ints, e))

  pub by_writes : (reg : Reg) (one other : ℕ) → Contains (register_writes p) (reg, one)
      → Contains (register_writes q) (reg, other)
      → b ≡ pos (one + 1) -ℤ pos other → is_open block i j reg ≡ false → Relay block i j b
  by_writes reg one other first second e closed =
      let s = settles reg closed in
      by_settling reg s (pos (one + 1) -ℤ pos s.delay) (pos (s.delay + 1) -ℤ pos other)
      (WriteAfterWrite reg one s.delay first s.writes (free_second block i s.by s.insn s.at s.free) refl)
      (WriteAfterWrite reg s.delay other s.writes second (free_first block s.by j s.insn s.at s.free) refl)
      (omega (arith, ints, e))

  -- where the two do not meet openly, no register in which they meet is open
  pub closed_first : (reg : Reg) (delay : ℕ) → meet_in (is_open block i j) p q ≡ false
      → Contains (register_writes p) (reg, delay)
      → uses_register q reg ≡ true → is_open block i j reg ≡ false
  closed_first reg delay apart writes uses = false_from_ne_true (is_open block i j reg) (λ is.
      both_ways (meet_in (is_open block i j) p q) apart (or_left _ _
      (list_any_at (λ (write : Reg × ℕ). is_open block i j write.0 && uses_register q write.0) (register_writes p)
      writes.0 (reg, delay) writes.1
      (rw (writes.2, is, uses) refl))))

  pub closed_second : (reg : Reg) (delay : ℕ) → meet_in (is_open block i j) p q ≡ false
      → Contains (register_writes q) (reg, delay)
      → IsTrue (reads_register p reg) → is_open block i j reg ≡ false
  closed_second reg delay apart writes reads = false_from_ne_true (is_open block i j reg) (λ is.
      both_ways (meet_in (is_open block i j) p q) apart (or_right _ _
      (list_any_at (λ (write : Reg × ℕ). is_open block i j write.0 && reads_register p write.0) (register_writes q)
      writes.0 (reg, delay) writes.1
      (rw (writes.2, is, reads) refl))))
