-- What is asked of the cycles of steps and branches.
use Rattle.std.proofs.Common.{◌≡◌, ℕ, ◌+◌, ◌<◌, ◌≤◌, ℤ, pos, ◌+ℤ◌, ◌≤ℤ◌, Bool, true, false, List, []}
use Rattle.std.proofs.Common.{◌∷◌, ◌++◌, Some, refl, sym, ◌∙◌, ap, subst, inl, inr, arith}
use Rattle.std.specs.Prelude.{Contains}
use Rattle.std.specs.List.{list_any}
use Rattle.std.proofs.lemmas.Bool.{or_left, or_right, false≢true}
use Rattle.std.proofs.lemmas.Int.{ints}
use Rattle.c62_op.specs.declared.register.Reg.{Reg}
use Rattle.c62_op.specs.Takes.{same_reg}
use Rattle.c62_op.proofs.Registers.{same_reg-refl, same_reg-is}
use Rattle.c62_insn.specs.declared.insn.Insn.{Insn}
use Rattle.c62_insn.specs.Insn.{IsSameInsn, register_writes, reads_register}
use Rattle.c62_rules.specs.Exclusive.{writes_in}
use Rattle.c62_rules.specs.Dependence.{IsBound}
use Rattle.c62_rules.specs.Dependence.IsBound.{ReadAfterWrite, WriteAfterRead, WriteAfterWrite, AfterStore}
use Rattle.c62_rules.specs.Dependence.IsBound.{StoreAfterLoad, BeforeBranch}
use Rattle.c62_read.specs.declared.block.SerialInsn.{SerialInsn}
use Rattle.c62_packet.specs.declared.placed.Placed.{Placed}
use Rattle.c62_meaning.specs.Cut.{moved}
use Rattle.c62_meaning.specs.Laws.{StandsAs}
use Rattle.c62_meaning.specs.Instances.{IsOfData}
use Rattle.c62_meaning.proofs.Lookup.{In, In_from_Contains, Contains_from_In, In-append_left, In-append_right}
use Rattle.c62_meaning.proofs.Lookup.{In-append_cases}
use Rattle.c62_loop.specs.Counter.{touches, steps_on}
use Rattle.c62_loop.specs.Stage.{cycles_in}
use Rattle.c62_loop.specs.Whole.{Control, entry_of, IsControl, IsInTurn, ComesBehind, ComeBehind}
use Rattle.c62_loop.specs.Whole.IsAsked.{Lands, Reads}
use Rattle.c62_loop.proofs.Apart.{any_in}
use Rattle.c62_loop.proofs.PassControl.{control_from, control_of, in_pass}

found_any : {X : Type 0} (f : X → Bool) (xs : List X) → list_any f xs ≡ true → (x : X) × In x xs × (f x ≡ true)
found_any f [] e = absurd (false≢true e)
found_any f (x ∷ xs) e = grind (arith, found_any f xs)

same_writes : (one other : Insn) → IsSameInsn one other → register_writes one ≡ register_writes other
same_writes one other h = grind arith

same_reads : (one other : Insn) (reg : Reg) → IsSameInsn one other → reads_register one reg ≡ reads_register other reg
same_reads one other reg h = grind arith

module _ (counter : Reg) where
  module _ (label : ℕ) where
    writes_on : (p : Placed) (delay : ℕ) (reg : Reg) → IsControl counter label p
        → Contains (register_writes p.insn) (reg, delay) → (delay ≡ 0) × (reg ≡ counter)
        × (steps_on counter (entry_of p) ≡ true)
    writes_on p delay reg is w =
        let e : (reg, delay) ≡ (counter, 0) = is.writes (reg, delay) w in
        let r : reg ≡ counter = ap (λ (x : Reg × ℕ). x.0) e in (
          ap (λ (x : Reg × ℕ). x.1) e,
          r,
          any_in (λ (write : Reg × ℕ). same_reg write.0 counter) (reg, delay) (register_writes p.insn)
              (In_from_Contains (reg, delay) (register_writes p.insn) w)
              (subst (λ z. same_reg reg z ≡ true) r (same_reg-refl reg)),
        )

    -- two that come in turn keep each bound
    pub turn_keeps : (block : List Insn) (i j : ℕ) (p q : Placed) (bound : ℤ) → IsControl counter label p
        → IsControl counter label q → IsInTurn counter p q
        → (b : IsBound block i j p.insn q.insn bound) → IsOfData b → (pos p.cycle +ℤ bound) ≤ℤ pos q.cycle
    turn_keeps block i j p q bound is_p is_q turn (ReadAfterWrite reg delay w r e) h =
        let d = writes_on p delay reg is_p w in
        let z : delay ≡ 0 = d.0 in
        let l : p.cycle < q.cycle = turn.step d.2 in
        subst (λ b. (pos p.cycle +ℤ b) ≤ℤ pos q.cycle) (sym e) (omega (arith, ints, z, l))
    turn_keeps block i j p q bound is_p is_q turn (WriteAfterRead reg delay w r e) h =
        let d = writes_on q delay reg is_q w in
        let l : p.cycle ≤ q.cycle = turn.order in
        subst (λ b. (pos p.cycle +ℤ b) ≤ℤ pos q.cycle) (sym e) (omega (arith, ints, l))
    turn_keeps block i j p q bound is_p is_q turn (WriteAfterWrite reg first second v w x e) h =
        let d = writes_on p first reg is_p v in
        let z : first ≡ 0 = d.0 in
        let l : p.cycle < q.cycle = turn.step d.2 in
        subst (λ b. (pos p.cycle +ℤ b) ≤ℤ pos q.cycle) (sym e) (omega (arith, ints, z, l))
    turn_keeps block i j p q bound is_p is_q turn (AfterStore s l x e) h = absurd (false≢true (sym is_p.no_store ∙ s))
    turn_keeps block i j p q bound is_p is_q turn (StoreAfterLoad s l x e) h = grind arith
    turn_keeps block i j p q bound is_p is_q turn (BeforeBranch b e) h = absurd h

    -- nothing is asked between one and work
    pub work_free : (block : List Insn) (i j : ℕ) (p : Placed) (entry : SerialInsn) (bound : ℤ)
        → IsControl counter label p → touches counter entry ≡ false
        → (b : IsBound block i j p.insn entry.insn bound) → IsOfData b → ⊥
    work_free block i j p entry bound is free (ReadAfterWrite reg delay w r e) h =
        let d = writes_on p delay reg is w in
        false≢true (sym free ∙ or_right (steps_on counter entry) _
        (subst (λ z. reads_register entry.insn z ≡ true) d.1 r))
    work_free block i j p entry bound is free (WriteAfterRead reg delay w r e) h = writes_none entry free reg delay
        (is.reads reg r) w
      where
        writes_none : (entry : SerialInsn) → touches counter entry ≡ false → (reg : Reg) (delay : ℕ) → reg ≡ counter
            → Contains (register_writes entry.insn) (reg, delay) → ⊥
        writes_none entry free reg delay same w =
            false≢true (sym free ∙ or_left _ (reads_register entry.insn counter)
            (any_in (λ (write : Reg × ℕ). same_reg write.0 counter) (reg, delay) (register_writes entry.insn)
            (In_from_Contains (reg, delay) (register_writes entry.insn) w)
            (subst (λ z. same_reg reg z ≡ true) same (same_reg-refl reg))))
    work_free block i j p entry bound is free (WriteAfterWrite reg first second v w x e) h =
        let d = writes_on p first reg is v in
        false≢true (sym free ∙ or_left _ (reads_register entry.insn counter)
        (any_in (λ (write : Reg × ℕ). same_reg write.0 counter) (reg, second) (register_writes entry.insn)
        (In_from_Contains (reg, second) (register_writes entry.insn) w)
        (subst (λ z. same_reg reg z ≡ true) d.1 (same_reg-refl reg))))
    work_free block i j p entry bound is free (AfterStore s l x e) h = false≢true (sym is.no_store ∙ s)
    work_free block i j p entry bound is free (StoreAfterLoad s l x e) h = false≢true (sym is.no_load ∙ s)
    work_free block i j p entry bound is free (BeforeBranch b e) h = h

    -- what one writes, work doesn't read
    pub unread_by_work : (p : Placed) (entry : SerialInsn) → IsControl counter label p → touches counter entry ≡ false
        → (reg : Reg) → writes_in reg (Some p.insn) ≡ true → reads_register entry.insn reg ≡ false
    unread_by_work p entry is free reg writes =
        let r = found_any (λ (write : Reg × ℕ). same_reg write.0 reg) (register_writes p.insn) writes in
        let of_counter : r.0 ≡ (counter, 0)
        = is.writes r.0 (Contains_from_In r.0 (register_writes p.insn) r.1) in
        grind (arith, same_reg-is r.0.0 reg r.2, unread (reads_register entry.insn counter))
      where
        unread : (b : Bool) → reads_register entry.insn counter ≡ b → reads_register entry.insn counter ≡ false
        unread false e = e
        unread true e = absurd (false≢true (sym free ∙ or_right (steps_on counter entry) _ e))

    -- ---- behind those above the label

    -- one that comes behind an instruction above the label keeps each bound
    pub begin_keeps : (block : List Insn) (i j : ℕ) (entry : SerialInsn) (p q : Placed) (bound : ℤ) → StandsAs entry p
        → IsControl counter label q → ComesBehind counter p q
        → (b : IsBound block i j entry.insn q.insn bound) → IsOfData b → (pos p.cycle +ℤ bound) ≤ℤ pos q.cycle
    begin_keeps block i j entry p q bound stands is_q behind (ReadAfterWrite reg delay w r e) h =
        let lands : Contains (register_writes p.insn) (counter, delay)
        = grind (arith, same_writes entry.insn p.insn stands.insn) in
        let l : p.cycle + (delay + 1) ≤ q.cycle = behind (delay + 1) (Lands delay lands refl) in
        subst (λ b. (pos p.cycle +ℤ b) ≤ℤ pos q.cycle) (sym e) (omega (arith, ints, l))
    begin_keeps block i j entry p q bound stands is_q behind (WriteAfterRead reg delay w r e) h =
        let d = writes_on q delay reg is_q w in
        let reads : reads_register p.insn counter ≡ true
        = grind (arith, same_reads entry.insn p.insn counter stands.insn) in
        let l : p.cycle + 0 ≤ q.cycle = behind 0 (Reads reads d.2 refl) in
        subst (λ b. (pos p.cycle +ℤ b) ≤ℤ pos q.cycle) (sym e) (omega (arith, ints, l))
    begin_keeps block i j entry p q bound stands is_q behind (WriteAfterWrite reg first second v w x e) h =
        let d = writes_on q second reg is_q w in
        let z : second ≡ 0 = d.0 in
        let lands : Contains (register_writes p.insn) (counter, first)
        = subst (λ r. Contains (register_writes p.insn) (r, first)) d.1
        (subst (λ ws. Contains ws (reg, first)) (same_writes entry.insn p.insn stands.insn) v) in
        let l : p.cycle + (first + 1) ≤ q.cycle = behind (first + 1) (Lands first lands refl) in
        subst (λ b. (pos p.cycle +ℤ b) ≤ℤ pos q.cycle) (sym e) (omega (arith, ints, z, l))
    begin_keeps block i j entry p q bound stands is_q behind (AfterStore s (inl l) x e) h =
        absurd (false≢true (sym is_q.no_load ∙ l))
    begin_keeps block i j entry p q bound stands is_q behind (AfterStore s (inr l) x e) h =
        absurd (false≢true (sym is_q.no_store ∙ l))
    begin_keeps block i j entry p q bound stands is_q behind (StoreAfterLoad l s x e) h =
        absurd (false≢true (sym is_q.no_store ∙ s))
    begin_keeps block i j entry p q bound stands is_q behind (BeforeBranch b e) h = absurd h

  behind_later : (k : ℕ) (p q : Placed) → ComesBehind counter p q → ComesBehind counter p (moved k q)
  behind_later k p q h needs (Lands delay w e) =
      let l : p.cycle + needs ≤ q.cycle = h needs (Lands delay w e) in omega arith
  behind_later k p q h needs (Reads r s e) =
      let l : p.cycle + needs ≤ q.cycle = h needs (Reads r s e) in omega arith

  -- where those of the first pass come behind, so do all
  pub behind_each : (control : Control) (interval : ℕ) (before : List Placed)
      → ComeBehind counter before (control.early ++ control.kernel) → (passes : ℕ) (p q : Placed) → In p before
      → In q (control_of control interval passes) → ComesBehind counter p q
  behind_each control interval before begins passes p q g h =
      elim (In-append_cases q control.early (control_from control.kernel interval 0 passes) h) [
        | inl n ↦ first q (In-append_left q control.early control.kernel n)
        | inr n ↦ (let r = in_pass control.kernel interval 0 passes q n in
            subst (λ z. ComesBehind counter p z) (sym r.4)
            (behind_later (cycles_in interval (0 + r.0)) p r.2
            (first r.2 (In-append_right r.2 control.early control.kernel r.3))))
      ]
    where
      first : (x : Placed) → In x (control.early ++ control.kernel) → ComesBehind counter p x
      first x k = begins p x (Contains_from_In p before g) (Contains_from_In x (control.early ++ control.kernel) k)
