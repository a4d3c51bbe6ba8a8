-- The dependences put what the instructions do in order, cell by cell.
use Rattle.std.proofs.Common.{◌≡◌, ℕ, ◌+◌, ◌*◌, ◌<◌, ◌≤◌, List, Some, false, refl, sym, ◌∙◌, ap, subst, inl, inr, ℤ}
use Rattle.std.proofs.Common.{pos, ◌+ℤ◌, ◌-ℤ◌, ◌≤ℤ◌, arith}
use Rattle.std.specs.Prelude.{slice_get, Contains, true}
use Rattle.std.proofs.lemmas.Int.{ints}
use Rattle.std.proofs.lemmas.Bool.{false_from_ne_true}
use Rattle.c62_op.specs.declared.register.Reg.{Reg}
use Rattle.c62_insn.specs.declared.insn.Insn.{Insn}
use Rattle.c62_op.specs.Shape.{is_store}
use Rattle.c62_op.specs.Units.{index_of as unit_index}
use Rattle.c62_insn.specs.Insn.{op_of, register_writes}
use Rattle.c62_op.proofs.UnitOrder.{index_of-below}
use Rattle.c62_rules.specs.Dependence.{IsBound, are_exclusive, are_disjoint, ReadAfterWrite, WriteAfterRead}
use Rattle.c62_rules.specs.Dependence.{WriteAfterWrite, AfterStore, StoreAfterLoad}
use Rattle.c62_op.proofs.Registers.{same_register}
use Rattle.c62_insn.specs.declared.effect.Access.{Access as MemoryAccess}
use Rattle.c62_rules.proofs.Exclusive.{exclusive-is}
use Rattle.c62_rules.proofs.DisjointAccesses.{disjoint-is}
use Rattle.c62_rules.proofs.Ranges.{Covers, apart_bytes}
use Rattle.c62_serial.specs.Memory.{is_good, place_from}
use Rattle.c62_meaning.proofs.NotBoth.{writes_runs, word_kept, not_both}
use Rattle.c62_serial.specs.State.{index_of, word_in, byte_in}
use Rattle.c62_meaning.specs.Landing.{Landing}
use Rattle.c62_meaning.specs.Packet.{access_time}
use Rattle.c62_meaning.specs.Instances.{IsOfData, IsOfMemory}
use Rattle.c62_meaning.proofs.Lookup.{In, Contains_from_In}
use Rattle.c62_meaning.proofs.Acting.{Reads, LoadsByte, access_at, is_loads}
use Rattle.c62_meaning.proofs.Landings.{from_In-writes, from_In-access, act_writes, act_accesses, stores_byte}
use Rattle.c62_meaning.proofs.SameRuns.{Numbered, machine_at, serial_act, reg_writes, byte_writes, IsOrdered, base_at}
use Rattle.c62_meaning.proofs.Places.{placed_covers}
use Rattle.c62_serial.proofs.MemoryLemmas.{is_within}

-- an instruction loads or stores a byte in the serial run
pub record AccessesAt (b : Numbered) (i address : ℕ) : Type 0 where
  pub access : MemoryAccess
  pub accesses : (serial_act b i).access ≡ Some access
  pub good : is_good access.address access.size ≡ true
  pub low : access.address ≤ address
  pub high : address < access.address + access.size

-- two meet at one
abbrev pub MeetAt : Numbered → ℕ → ℕ → Type 0
MeetAt b i j = (address : ℕ) × AccessesAt b i address × AccessesAt b j address

-- whatever bounds the distance of two instructions of a path by registers, or by memory where they meet, is kept
pub record KeepsData (b : Numbered) : Type 0 where
  pub path : List Insn
  pub stands : (i : ℕ) → i < b.count → slice_get path i ≡ Some (b.entry i).insn
  pub keeps : (j k : ℕ) (bound : ℤ) → j < k → k < b.count
      → (applies : IsBound path j k (b.entry j).insn (b.entry k).insn bound) → IsOfData applies
      → (IsOfMemory applies → MeetAt b j k) → (pos (b.at j).cycle +ℤ bound) ≤ℤ pos (b.at k).cycle

-- of a landing in a register, the write that made it
record IsWrite (b : Numbered) (j : ℕ) (v : Landing) : Type 0 where
  reg : Reg
  delay : ℕ
  inside : Contains (register_writes (b.entry j).insn) (reg, delay)
  cell : v.cell ≡ index_of reg
  time : v.time ≡ (b.at j).cycle + delay

write_of : (b : Numbered) (j : ℕ) (v : Landing) → In v (reg_writes b j) → IsWrite b j v
write_of b j v h =
    let r = from_In-writes (b.at j).cycle (serial_act b j).writes v h in
    record {
      reg = r.0.0.0;
      delay = r.0.0.1;
      inside = Contains_from_In r.0.0 (register_writes (b.entry j).insn)
          (act_writes (b.entry j).insn (machine_at b j).base (word_in (machine_at b j))
          (byte_in (machine_at b j)) r.0 r.1);
      cell = r.2;
      time = r.3;
    }

-- of a byte stored, that its instruction is a store, and when it is made
store_of : (b : Numbered) (j : ℕ) (v : Landing) → In v (byte_writes b j) → (is_store (op_of (b.entry j).insn) ≡ true)
    × (v.time ≡ 8 * (b.at j).cycle + unit_index (b.at j).unit)
store_of b j v h = grind (
  arith,
  from_In-access (access_time (b.at j)) (serial_act b j).access v h,
  stores_byte (b.entry j).insn (machine_at b j).base (word_in (machine_at b j)) (byte_in (machine_at b j))
      (access_time (b.at j)) v,
)

-- exclusive ones do not both write
exclusive_order : (b : Numbered) (h : KeepsData b) (j k : ℕ) (v w : Landing) → j < k → k < b.count
    → In v (reg_writes b j) → In w (reg_writes b k) → are_exclusive h.path j k ≡ true → ⊥
exclusive_order b h j k v w l u c d both =
    let p = from_In-writes (b.at j).cycle (serial_act b j).writes v c in
    let q = from_In-writes (b.at k).cycle (serial_act b k).writes w d in
    let x = exclusive-is h.path j k (b.entry j).insn (b.entry k).insn l (h.stands j (omega (arith, l, u)))
    (h.stands k u) both in
    not_both b h.path j k (omega (arith, l)) x
    (λ i m low high writes same.
    let reg : m.0 ≡ x.one.reg = same_register m.0 x.one.reg same in
    x.unwritten i m.1 (b.entry i).insn low high (h.stands i (omega (arith, high, u)))
    (subst (λ (r : Reg). Contains (register_writes (b.entry i).insn) (r, m.1)) reg writes))
    (writes_runs (b.entry j).insn (machine_at b j).base (word_in (machine_at b j)) (byte_in (machine_at b j)) p.0 p.1)
    (writes_runs (b.entry k).insn (machine_at b k).base (word_in (machine_at b k)) (byte_in (machine_at b k)) q.0 q.1)

reg_order : (b : Numbered) → KeepsData b → (j k : ℕ) (v w : Landing) → j < k → k < b.count → In v (reg_writes b j)
    → In w (reg_writes b k) → v.cell ≡ w.cell → v.time < w.time
reg_order b h j k v w l u c d e =
    let p = write_of b j v c in
    let q = write_of b k w d in
    let same : q.reg ≡ p.reg = same_register q.reg p.reg (sym q.cell ∙ sym e ∙ p.cell) in
    let inside : Contains (register_writes (b.entry k).insn) (p.reg, q.delay) = subst
    (λ r. Contains (register_writes (b.entry k).insn) (r, q.delay)) same q.inside in
    let free : are_exclusive h.path j k ≡ false = false_from_ne_true (are_exclusive h.path j k)
    (exclusive_order b h j k v w l u c d) in
    let bound : (pos (b.at j).cycle +ℤ (pos (p.delay + 1) -ℤ pos q.delay)) ≤ℤ pos (b.at k).cycle
    = h.keeps j k (pos (p.delay + 1) -ℤ pos q.delay) l u
    (WriteAfterWrite p.reg p.delay q.delay p.inside inside free refl) tt (λ m. absurd m) in
    let s : v.time ≡ (b.at j).cycle + p.delay = p.time in
    let t : w.time ≡ (b.at k).cycle + q.delay = q.time in
    omega (arith, ints)

reg_read : (b : Numbered) → KeepsData b → (j k : ℕ) (v : Landing) (reg : Reg) → j < k → k < b.count
    → In v (reg_writes b j) → Reads (b.entry k).insn reg → v.cell ≡ index_of reg → v.time < (b.at k).cycle
reg_read b h j k v reg l u c reads e =
    let p = write_of b j v c in
    let same : reg ≡ p.reg = same_register reg p.reg (sym e ∙ p.cell) in
    let read : Reads (b.entry k).insn p.reg = subst (λ r. Reads (b.entry k).insn r) same reads in
    let bound : (pos (b.at j).cycle +ℤ pos (p.delay + 1)) ≤ℤ pos (b.at k).cycle
    = h.keeps j k (pos (p.delay + 1)) l u (ReadAfterWrite p.reg p.delay p.inside read refl) tt (λ m. absurd m) in
    let s : v.time ≡ (b.at j).cycle + p.delay = p.time in
    omega (arith, ints)

reg_kept : (b : Numbered) → KeepsData b → (j k : ℕ) (w : Landing) (reg : Reg) → j < k → k < b.count
    → Reads (b.entry j).insn reg → In w (reg_writes b k) → w.cell ≡ index_of reg → (b.at j).cycle ≤ w.time
reg_kept b h j k w reg l u reads d e =
    let q = write_of b k w d in
    let same : reg ≡ q.reg = same_register reg q.reg (sym e ∙ q.cell) in
    let read : Reads (b.entry j).insn q.reg = subst (λ r. Reads (b.entry j).insn r) same reads in
    let bound : (pos (b.at j).cycle +ℤ (pos 0 -ℤ pos q.delay)) ≤ℤ pos (b.at k).cycle
    = h.keeps j k (pos 0 -ℤ pos q.delay) l u (WriteAfterRead q.reg q.delay q.inside read refl) tt (λ m. absurd m) in
    let t : w.time ≡ (b.at k).cycle + q.delay = q.time in
    omega (arith, ints)

-- the instruction, with these words in registers, makes an access that covers the byte at an address
record Touches (insn : Insn) (base : ℕ) (word : Reg → ℕ) (address : ℕ) : Type 0 where
  access : MemoryAccess
  accesses : access_at insn base word ≡ Some access
  within : access.address + access.size ≤ 65536
  low : access.address ≤ address
  high : address < access.address + access.size

stored_touches : (b : Numbered) (j : ℕ) (v : Landing) → In v (byte_writes b j)
    → Touches (b.entry j).insn (machine_at b j).base (word_in (machine_at b j)) v.cell
stored_touches b j v h = grind (
  arith,
  from_In-access (access_time (b.at j)) (serial_act b j).access v h,
  act_accesses (b.entry j).insn (machine_at b j).base (word_in (machine_at b j)) (byte_in (machine_at b j)),
  is_within,
)

loaded_touches : (b : Numbered) (k address : ℕ)
    → LoadsByte (b.entry k).insn (machine_at b k).base (word_in (machine_at b k)) address
    → Touches (b.entry k).insn (machine_at b k).base (word_in (machine_at b k)) address
loaded_touches b k address h = grind arith

stored_at : (b : Numbered) (j : ℕ) (v : Landing) → In v (byte_writes b j) → AccessesAt b j v.cell
stored_at b j v h = grind (arith, from_In-access (access_time (b.at j)) (serial_act b j).access v h)

loaded_at : (b : Numbered) (k address : ℕ)
    → LoadsByte (b.entry k).insn (machine_at b k).base (word_in (machine_at b k)) address
    → AccessesAt b k address
loaded_at b k address h = grind arith

-- disjoint accesses touch no byte together
not_the_same : (b : Numbered) (h : KeepsData b) (j k a : ℕ) → j < k → k < b.count
    → Touches (b.entry j).insn (machine_at b j).base (word_in (machine_at b j)) a
    → Touches (b.entry k).insn (machine_at b k).base (word_in (machine_at b k)) a → are_disjoint h.path j k ≡ true → ⊥
not_the_same b h j k a l u p q both =
    let x = disjoint-is h.path j k (b.entry j).insn (b.entry k).insn l (h.stands j (omega (arith, l, u))) (h.stands k u)
    both in
    let c : Covers (place_from (machine_at b j).base (word_in (machine_at b j) x.one.base)) x.one p.access
    = placed_covers (b.entry j).insn (machine_at b j).base (word_in (machine_at b j)) x.one p.access
    x.is_one p.accesses in
    let d : Covers (place_from (machine_at b k).base (word_in (machine_at b k) x.other.base)) x.other q.access
    = placed_covers (b.entry k).insn (machine_at b k).base (word_in (machine_at b k)) x.other q.access x.is_other
    q.accesses in
    let kept : word_in (machine_at b k) x.one.base ≡ word_in (machine_at b j) x.one.base
    = word_kept b j k x.one.base (omega (arith, l))
    (λ i m low high writes same.
    let reg : m.0 ≡ x.one.base = same_register m.0 x.one.base same in
    x.unwritten i m.1 (b.entry i).insn low high (h.stands i (omega (arith, high, u)))
    (subst (λ (r : Reg). Contains (register_writes (b.entry i).insn) (r, m.1)) reg writes)) in
    let begins : (machine_at b k).base ≡ (machine_at b j).base = base_at b k ∙ sym (base_at b j) in
    let base : place_from (machine_at b k).base (word_in (machine_at b k) x.other.base) ≡
    place_from (machine_at b j).base (word_in (machine_at b j) x.one.base) = ap
    (λ (r : Reg). place_from (machine_at b k).base (word_in (machine_at b k) r)) (sym x.same)
    ∙ ap (λ (v : ℕ). place_from (machine_at b k).base v) kept
    ∙ ap (λ (v : ℕ). place_from v (word_in (machine_at b j) x.one.base)) begins in
    apart_bytes (place_from (machine_at b j).base (word_in (machine_at b j) x.one.base)) x.one x.other p.access
    q.access a x.apart c
    (subst (λ (v : ℕ). Covers v x.other q.access) base d)
    p.within q.within p.low p.high q.low q.high

pub ordered : (b : Numbered) → KeepsData b → IsOrdered b
ordered b h = record {
  reg_order = reg_order b h;
  reg_read = reg_read b h;
  reg_kept = reg_kept b h;
  byte_order = λ j k v w l u c d e.
      let p = store_of b j v c in
      let q = store_of b k w d in
      let free : are_disjoint h.path j k ≡ false = false_from_ne_true (are_disjoint h.path j k)
      (not_the_same b h j k v.cell l u (stored_touches b j v c)
      (subst (λ (a : ℕ). Touches (b.entry k).insn (machine_at b k).base (word_in (machine_at b k)) a) (sym e)
      (stored_touches b k w d))) in
      let bound : (pos (b.at j).cycle +ℤ pos 1) ≤ℤ pos (b.at k).cycle = h.keeps j k (pos 1) l u
      (AfterStore p.0 (inr q.0) free refl) tt
      (λ m. (v.cell, stored_at b j v c, subst (λ (a : ℕ). AccessesAt b k a) (sym e) (stored_at b k w d))) in
      let s : v.time ≡ 8 * (b.at j).cycle + unit_index (b.at j).unit = p.1 in
      let t : w.time ≡ 8 * (b.at k).cycle + unit_index (b.at k).unit = q.1 in
      let rank : unit_index (b.at j).unit < 8 = index_of-below (b.at j).unit in
      omega (arith, ints);
  byte_read = λ j k v l u c loads.
      let p = store_of b j v c in
      let free : are_disjoint h.path j k ≡ false = false_from_ne_true (are_disjoint h.path j k)
      (not_the_same b h j k v.cell l u (stored_touches b j v c) (loaded_touches b k v.cell loads)) in
      let bound : (pos (b.at j).cycle +ℤ pos 1) ≤ℤ pos (b.at k).cycle
      = h.keeps j k (pos 1) l u
      (AfterStore p.0 (inl (is_loads (b.entry k).insn (machine_at b k).base (word_in (machine_at b k)) v.cell loads))
      free refl) tt
      (λ m. (v.cell, stored_at b j v c, loaded_at b k v.cell loads)) in
      let s : v.time ≡ 8 * (b.at j).cycle + unit_index (b.at j).unit = p.1 in
      let rank : unit_index (b.at j).unit < 8 = index_of-below (b.at j).unit in
      omega (arith, ints);
  byte_kept = λ j k w l u loads d.
      let q = store_of b k w d in
      let free : are_disjoint h.path j k ≡ false = false_from_ne_true (are_disjoint h.path j k)
      (not_the_same b h j k w.cell l u (loaded_touches b j w.cell loads) (stored_touches b k w d)) in
      let bound : (pos (b.at j).cycle +ℤ pos 0) ≤ℤ pos (b.at k).cycle
      = h.keeps j k (pos 0) l u
      (StoreAfterLoad (is_loads (b.entry j).insn (machine_at b j).base (word_in (machine_at b j)) w.cell loads) q.0
      free refl) tt
      (λ m. (w.cell, loaded_at b j w.cell loads, stored_at b k w d)) in
      let t : w.time ≡ 8 * (b.at k).cycle + unit_index (b.at k).unit = q.1 in
      omega (arith, ints);
}
