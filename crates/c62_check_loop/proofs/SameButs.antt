-- What is told to be the same but for registers does the same but for these.
use Rattle.std.proofs.Common.{◌≡◌, ℕ, ◌+◌, ◌-◌, ◌^◌, ◌<◌, ◌≤◌, Bool, true, false, not, ◌&&◌, List, Some}
use Rattle.std.proofs.Common.{refl, sym, ◌∙◌, ap, subst}
use Rattle.std.proofs.Common.{◌⊎◌, inl, inr, arith}
use Rattle.std.specs.Prelude.{Contains, All}
use Rattle.std.proofs.lemmas.Bool.{false≢true, cases_Bool}
use Rattle.c62_op.specs.declared.register.Reg.{Reg}
use Rattle.c62_op.specs.declared.operands.Operands.{Operands}
use Rattle.c62_op.specs.declared.operands.Operands.TheVariants.{Access}
use Rattle.c62_op.specs.Shape.{is_store}
use Rattle.c62_op.specs.Takes.{same_reg}
use Rattle.c62_op.proofs.Registers.{same_reg-refl}
use Rattle.c62_insn.specs.declared.insn.Insn.{Insn}
use Rattle.c62_insn.specs.Insn.{op_of, operands_of, register_writes}
use Rattle.c62_rules.specs.Exclusive.{writes_in}
use Rattle.c62_pair.specs.declared.reg_set.RegSet.{RegSet}
use Rattle.c62_pair.specs.RegSet.{reg_in}
use Rattle.c62_read.specs.declared.block.SerialInsn.{SerialInsn}
use Rattle.c62_serial.specs.State.{Machine, IsSound}
use Rattle.c62_serial.specs.Serial.{serial}
use Rattle.c62_meaning.proofs.Lookup.{In, In_from_Contains, Contains_from_In}
use Rattle.c62_flight.specs.Text.{Text}
use Rattle.c62_flight.specs.Cut.{IsCut}
use Rattle.c62_loop.specs.Counter.{work_of}
use Rattle.c62_loop.specs.Loop.{Region, Pipelined, serial_path, trips_of, last_row, cycles_of}
use Rattle.c62_loop.specs.Past.{is_access, IsSameBut as IsSameAfter, with_past}
use Rattle.c62_loop.specs.Whole.{AreApart}
use Rattle.c62_loop.specs.Collapsed.{IsCollapsing}
use Rattle.c62_loop.proofs.Apart.{any_in}
use Rattle.c62_loop.proofs.Counting.{in_work}
use Rattle.c62_loop.proofs.Machines.{In-All}
use Rattle.c62_loop.proofs.PastParts.{past_inside}
use Rattle.c62_loop.proofs.Collapsed.{collapsed_for_all_trips}
use Rattle.c62_loop_match.specs.Collapse.{Collapsed}
use Rattle.c62_check_loop.specs.Told.{data_in, IsNamed, AreNamed, IsSameBut}
use Rattle.c62_check_loop.specs.Laws.{loads_into, may_fault, IsSameButFor, SameButIsSerial}
use Rattle.c62_check_loop.proofs.Sames.{one_trip_more}

-- the work past the last iteration is of the loop's block
of_block : (promised : Insn → Insn → Bool) (region : Region) (past : List SerialInsn) (loop : Pipelined) (most : ℕ)
    → IsCollapsing promised region past loop most → (entry : SerialInsn) → In entry past → In entry region.body
of_block promised region past loop most m entry h =
    (in_work region.counter region.body entry
    (past_inside (work_of region.counter region.body) m.schedule.stages m.beyond
    (λ one k. m.each one (Contains_from_In one m.beyond k)) entry
    (subst (λ xs. In entry xs) m.past_is h))).0

loads : (but : RegSet) (operands : Operands) (store : Bool) → is_access operands ≡ true → store ≡ false
    → ((reg : Reg) → data_in operands ≡ Some reg → reg_in but reg ≡ true)
    → (not store && loads_into but operands) ≡ true
loads but (Access register base form offset) store h f named =
    ap (λ b. not b && reg_in but register) f ∙ named register refl
loads but _ store h f named = cc

named_after : (but : RegSet) (block past : List SerialInsn) (before after : Machine) → AreNamed but past
    → ((entry : SerialInsn) → In entry past → In entry block)
    → ((entry : SerialInsn) → In entry past → is_store (op_of entry.insn) ≡ false)
    → IsSameAfter past before after → IsSameButFor but block before after
named_after but block past before after named within none same = record {
  base = same.base;
  memory = same.memory;
  words = λ reg f. same.words reg (λ entry delay c w. false≢true
      (sym f ∙ (each entry (In_from_Contains entry past c)).writes reg
      (any_in (λ (write : Reg × ℕ). same_reg write.0 reg) (reg, delay) (register_writes entry.insn)
      (In_from_Contains (reg, delay) (register_writes entry.insn) w) (same_reg-refl reg))));
  kept = same.kept;
  faults = λ line c. elim (same.faults line c) [
    | inl old ↦ inl old
    | inr new ↦ (let h : In new.0 past = In_from_Contains new.0 past new.1 in inr (
      new.0,
      Contains_from_In new.0 block (within new.0 h),
      loads but (operands_of new.0.insn) (is_store (op_of new.0.insn)) new.3 (none new.0 h) (each new.0 h).loads,
      new.2,
    ))
  ];
}
  where
    each : (entry : SerialInsn) → In entry past → IsNamed but entry.insn
    each entry h = In-All (λ (e : SerialInsn). IsNamed but e.insn) past named entry h

leaves : (promised : Insn → Insn → Bool) (region : Region) (past : List SerialInsn) (loop : Pipelined) (most : ℕ)
    (but : RegSet) → Collapsed promised region past loop most → AreNamed but past → (opening : Machine) (count : ℕ)
    → IsSound opening → trips_of region opening ≡ count → most + 1 ≤ count → count < 2 ^ 32
    → AreApart promised (with_past region past) count opening
    → (after : Machine) × IsSameButFor but region.body (serial (serial_path region count) opening).machine after
    × ((more : ℕ) → IsCut loop.text loop.first (cycles_of loop (count - most) + more) opening (last_row loop)
    (cycles_of loop (count - most)) after)
leaves promised region past loop most but collapsed named opening count sound counter enough few apart =
    let all : most + (count - most) ≡ count = omega (arith, enough) in
    let some : 0 < count - most = omega (arith, enough) in
    let r = collapsed_for_all_trips promised region past loop most collapsed.counts collapsed.stands
    collapsed.collapses opening (count - most) sound some (counter ∙ sym all) (subst (λ n. n < 2 ^ 32) (sym all) few)
    (subst (λ n. AreApart promised (with_past region past) n opening) (sym all) apart) in (
      r.0,
      subst (λ n. IsSameButFor but region.body (serial (serial_path region n) opening).machine r.0) all
          (named_after but region.body past (serial (serial_path region (most + (count - most))) opening).machine r.0
          named (of_block promised region past loop most collapsed.collapses)
          (In-All (λ (e : SerialInsn). is_store (op_of e.insn) ≡ false) past collapsed.collapses.no_store) r.1),
      r.2,
    )

pub same_but_is_serial : (promised : Insn → Insn → Bool) (region : Region) (packets : Text)
    (trips cycles first last : ℕ) (but : RegSet) → SameButIsSerial promised region packets trips cycles first last but
same_but_is_serial promised region packets trips cycles first last but same = record {
  loop = same.loop;
  past = same.past;
  relined = same.relined;
  first_is = same.first_is;
  last_is = same.last_is;
  takes = λ count. cycles_of same.loop (count - same.most);
  one_more = λ count enough. one_trip_more same.loop same.most count (omega (arith, enough, same.trips_are))
      ∙ ap (λ n. cycles_of same.loop (count - same.most) + n) (sym same.cycles_are);
  leaves = λ opening count sound counter enough few apart.
      leaves promised region same.past same.loop same.most but same.collapsed same.named opening count sound counter
      (omega (arith, enough, same.trips_are)) few apart;
}
