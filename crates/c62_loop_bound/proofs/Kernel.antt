-- A branch, a step and the work of an iteration stand in the rows of a kernel, each for itself, on units that take
-- them.
use Rattle.std.proofs.Common.{arith, Bool, true, false, ◌||◌, ◌≡◌, ℕ, suc, ◌<◌, ◌≤◌, List}
use Rattle.std.proofs.Common.{[]}
use Rattle.std.proofs.Common.{◌∷◌, ◌++◌, length, map, Option, Some, refl, sym, ap, ◌∙◌, subst, inl, inr}
use Rattle.std.proofs.Common.{⊎_elim}
use Rattle.std.specs.Prelude.{All}
use Rattle.std.specs.List.{list_any}
use Rattle.std.proofs.lemmas.Bool.{cases_lt, cases_Bool, cond-false, false≢true}
use Rattle.std.proofs.lemmas.List.{get_or_past}
use Rattle.std.proofs.lemmas.Option.{none-some, same_Some}
use Rattle.c62_op.specs.declared.register.Reg.{Reg}
use Rattle.c62_op.specs.declared.register.Unit.{Unit as FunctionalUnit}
use Rattle.c62_op.specs.declared.register.Cond.{Cond as Condition}
use Rattle.c62_op.specs.declared.operands.Op.{Op}
use Rattle.c62_op.specs.declared.operands.Operands.{Operands}
use Rattle.c62_op.specs.Shape.{reads_of, writes_of}
use Rattle.c62_op.specs.Takes.{takes, same_reg}
use Rattle.c62_insn.specs.declared.insn.Insn.{Insn}
use Rattle.c62_insn.specs.Insn.{IsSameInsn, op_of, operands_of, cond_of, unit_of, is_condition_on}
use Rattle.c62_insn.proofs.InsnLemmas.{has_written_unit}
use Rattle.c62_read.specs.declared.block.SerialInsn.{SerialInsn}
use Rattle.c62_packet.specs.declared.placed.Placed.{Placed}
use Rattle.c62_meaning.proofs.Lookup.{In, In_from_Contains, Contains_from_In, In-append_left, In-append_right}
use Rattle.c62_meaning.proofs.Lookup.{from_In-flat_map}
use Rattle.c62_flight.specs.Text.{Text, Row, row_of, no_row}
use Rattle.c62_flight.specs.Issued.{Visit, issue_in, issued_in, issued_on}
use Rattle.c62_rows.specs.Rows.{IsRow}
use Rattle.c62_loop.specs.Counter.{steps_on, touches}
use Rattle.c62_loop.specs.Loop.{Region, Pipelined, IsCountedLoop}
use Rattle.c62_loop.specs.Stage.{Stage}
use Rattle.c62_loop.specs.Whole.{entry_of, steps_of, IsControl, IsPipelining}
use Rattle.c62_loop.proofs.LaterRows.{kernel_rows}
use Rattle.c62_loop.proofs.Lists.{at_place, in_mapped}
use Rattle.c62_loop_match.specs.declared.promise.Promise.{Promise}
use Rattle.c62_loop_match.specs.Promise.{promises}
use Rattle.c62_loop_bound.proofs.Sums.{AreOnce}
use Rattle.c62_loop_bound.proofs.Once.{kernels_once, stage_entry}

-- what holds of all of a list holds of what lies in it
all_of : {X : Type 0} (P : X → Type 0) (xs : List X) (x : X) → All P xs → In x xs → P x
all_of P xs x all h = let c = Contains_from_In x xs h in subst P c.2 (all c.0 x c.1)

-- ---- units

-- an instruction whose unit is written stands on one that takes it
written_takes : (insn : Insn) (unit : FunctionalUnit) → unit_of insn ≡ Some unit
    → takes (op_of insn) (operands_of insn) unit ≡ true
written_takes insn unit written =
    let found = has_written_unit insn in
    elim found.2 [
      | inl none ↦ absurd (none-some unit (sym none ∙ written))
      | inr some ↦ subst (λ u. takes (op_of insn) (operands_of insn) u ≡ true)
          (same_Some found.0 unit (sym some ∙ written)) found.1
    ]

module _ (text : Text) (rows : All IsRow text.rows) where
  row_written : (number : ℕ) (p : Placed) → In p (row_of text number).insns → unit_of p.insn ≡ Some p.unit
  row_written number p h =
      ⊎_elim {C = unit_of p.insn ≡ Some p.unit}
      (λ (l : number < length text.rows). all_of (λ (q : Placed). unit_of q.insn ≡ Some q.unit)
      (row_of text number).insns p
      (rows number no_row l).units h)
      (λ (l : length text.rows ≤ number). absurd
      (subst (λ (row : Row). In p row.insns) (get_or_past text.rows number no_row l) h))
      (cases_lt number (length text.rows))

  pub issued_takes : (visits : List Visit) (p : Placed) → In p (issued_on text visits)
      → takes (op_of p.insn) (operands_of p.insn) p.unit ≡ true
  issued_takes visits p h =
      let v = from_In-flat_map (issued_in text) p visits h in
      let q = in_mapped (issue_in v.0.start) (row_of text v.0.row).insns p v.2 in
      let there : takes (op_of q.0.insn) (operands_of q.0.insn) q.0.unit ≡ true = written_takes q.0.insn q.0.unit
      (row_written v.0.row q.0 q.1) in
      subst (λ (z : Placed). takes (op_of z.insn) (operands_of z.insn) z.unit ≡ true) (sym q.2) there

-- ---- control

-- where steps lower the counter there is one
step_in : (counter : Reg) (n : ℕ) (ps : List Placed) → steps_of counter ps ≡ suc n
    → (p : Placed) × In p ps × (steps_on counter (entry_of p) ≡ true)
step_in counter n [] e = absurd (omega (arith, e))
step_in counter n (p ∷ ps) e =
    elim (cases_Bool (steps_on counter (entry_of p))) [
      | inl t ↦ (p, inl refl, t)
      | inr f ↦ (let rest : steps_of counter (p ∷ ps) ≡ steps_of counter ps = cond-false _ _ _ f in
          let r = step_in counter n ps (sym rest ∙ e) in (r.0, inr r.1, r.2))
    ]

-- what is the same touches the same
abbrev touches_by : Reg → Op → Operands → Option Condition → Bool
touches_by counter op operands cond =
    list_any (λ write. same_reg write.0 counter) (writes_of op operands)
    || (list_any (λ read. same_reg read counter) (reads_of op operands) || is_condition_on counter cond)

touches_same : (counter : Reg) (x y : SerialInsn) → IsSameInsn x.insn y.insn → touches counter x ≡ touches counter y
touches_same counter x y same =
    ap (λ op. touches_by counter op (operands_of x.insn) (cond_of x.insn)) same.op
    ∙ ap (λ operands. touches_by counter (op_of y.insn) operands (cond_of x.insn)) same.operands
    ∙ ap (λ cond. touches_by counter (op_of y.insn) (operands_of y.insn) cond) same.cond

module _ (promise : Promise) (region : Region) (counted : IsCountedLoop region) (loop : Pipelined) (most : ℕ)
    (m : IsPipelining (promises promise) region loop most) where
  abbrev counter : Reg
  counter = region.counter

  abbrev pub kernels : List Placed
  kernels = map (λ (s : Stage). s.kernel) m.schedule.stages

  -- a step or a branch of the kernel
  pub record Chosen (steps : Bool) : Type 0 where
    pub placed : Placed
    pub member : In placed m.control.kernel
    pub is : steps_on counter (entry_of placed) ≡ steps
    pub control : IsControl counter loop.label placed

  pub branch : Chosen false
  branch =
      let r = m.steering.kernel_pass in
      let h = at_place m.control.kernel r.0 r.1 r.2 in
      record {
        placed = r.1;
        member = h;
        is = r.3;
        control = all_of (IsControl counter loop.label) m.control.kernel r.1 m.steering.kernel h;
      }

  pub step : Chosen true
  step =
      let r = step_in counter 0 m.control.kernel m.steering.one_step in
      record {
        placed = r.0;
        member = r.1;
        is = r.2;
        control = all_of (IsControl counter loop.label) m.control.kernel r.0 m.steering.kernel r.1;
      }

  -- all of these
  abbrev pub picks : List Placed
  picks = branch.placed ∷ step.placed ∷ kernels

  in_kernel : (p : Placed) → In p (m.control.kernel ++ kernels) → In p (kernel_rows loop)
  in_kernel p h = In_from_Contains p (kernel_rows loop)
      ((m.kernel p).1 (Contains_from_In p (m.control.kernel ++ kernels) h))

  pub picks_issued : (p : Placed) → In p picks → In p (kernel_rows loop)
  picks_issued p (inl e) = subst (λ z. In z (kernel_rows loop)) e
      (in_kernel branch.placed (In-append_left branch.placed m.control.kernel kernels branch.member))
  picks_issued p (inr (inl e)) = subst (λ z. In z (kernel_rows loop)) e
      (in_kernel step.placed (In-append_left step.placed m.control.kernel kernels step.member))
  picks_issued p (inr (inr h)) = in_kernel p (In-append_right p m.control.kernel kernels h)

  -- no stage holds what touches the counter
  not_kernel : (p : Placed) → touches counter (entry_of p) ≡ true → In p kernels → ⊥
  not_kernel p touched h =
      let r = stage_entry promise region counted loop most m p h in
      let same : touches counter r.0 ≡ touches counter (entry_of p) = touches_same counter r.0 (entry_of p) r.1.insn in
      false≢true (sym r.2 ∙ same ∙ touched)

  pub picks_once : AreOnce picks
  picks_once = (
    λ h. elim h [
      | inl e ↦ false≢true (sym branch.is ∙ ap (λ (z : Placed). steps_on counter (entry_of z)) (sym e) ∙ step.is)
      | inr k ↦ not_kernel branch.placed branch.control.touch k
    ],
    (λ h. not_kernel step.placed step.control.touch h, kernels_once promise region counted loop most m),
  )
