-- What is asked of steps and tests holds of them by their form.
use Rattle.std.proofs.Common.{◌≡◌, ℕ, zero, suc, true, false}
use Rattle.std.proofs.Common.{◌||◌, List, [], ◌∷◌, sym, ◌∙◌, ap, subst, inl}
use Rattle.std.proofs.Common.{inr, arith}
use Rattle.std.specs.Prelude.{Contains, All}
use Rattle.std.specs.List.{list_any, list_all}
use Rattle.std.proofs.lemmas.Bool.{or_cases, and_parts}
use Rattle.std.proofs.lemmas.Bool.{false≢true}
use Rattle.c62_op.specs.declared.register.Reg.{Reg}
use Rattle.c62_op.specs.declared.operands.Op.TheVariants.{B as Branch}
use Rattle.c62_op.specs.Shape.{is_branch, is_load, is_store, reads_of, writes_of}
use Rattle.c62_op.specs.Takes.{same_reg}
use Rattle.c62_op.proofs.Registers.{same_reg-is, same_reg-refl}
use Rattle.c62_insn.specs.Insn.{op_of, operands_of, cond_of, operand_reads, register_writes, is_condition_on}
use Rattle.c62_insn.specs.Insn.{reads_register}
use Rattle.c62_packet.specs.declared.placed.Placed.{Placed}
use Rattle.c62_meaning.proofs.Lookup.{In, In_from_Contains}
use Rattle.c62_loop.specs.Counter.{steps_on}
use Rattle.c62_loop.specs.Whole.{entry_of, IsControl}
use Rattle.c62_loop_match.specs.Form.{is_guarded, runs_above_zero, lowers, is_step, goes_to, is_test}
use Rattle.c62_loop_match.specs.Steering.{is_control}
use Rattle.c62_loop_match.proofs.Forms.{guarded_above, guarded_on, only_counter, lowers_are, goes_is, step_reads}
use Rattle.c62_loop_match.proofs.Forms.{step_writes, no_access, is_step-counts, is_test-tests}

module _ (counter : Reg) where
  one_write : (writes : List (Reg × ℕ)) → writes ≡ (counter, 0) ∷ [] → (write : Reg × ℕ) → Contains writes write
      → write ≡ (counter, 0)
  one_write writes is write c = only (In_from_Contains write ((counter, 0) ∷ []) (subst (λ ws. Contains ws write) is c))
    where
      only : In write ((counter, 0) ∷ []) → write ≡ (counter, 0)
      only (inl e) = sym e
      only (inr h) = absurd h

  step_control : (label : ℕ) (p : Placed) → is_step counter p.insn ≡ true → IsControl counter label p
  step_control label p e =
      let parts = and_parts (runs_above_zero counter (cond_of p.insn))
      (lowers counter (op_of p.insn) (operands_of p.insn)) e in
      let form = lowers_are counter (op_of p.insn) (operands_of p.insn) parts.1 in
      let writes = step_writes counter (op_of p.insn) (operands_of p.insn) form in
      let on : steps_on counter (entry_of p) ≡ true = ap
      (λ (ws : List (Reg × ℕ)). list_any (λ (write : Reg × ℕ). same_reg write.0 counter) ws) writes
      ∙ own counter in
      record {
        touch = ap (λ b. b || reads_register p.insn counter) on;
        counted = record {
          step = λ t. is_step-counts counter (entry_of p) e;
          test = λ f t. absurd (false≢true (sym f ∙ on));
          other = λ f. absurd (false≢true (sym f ∙ ap (λ b. b || reads_register p.insn counter) on));
        };
        writes = one_write (register_writes p.insn) writes;
        reads = λ reg t. elim
            (or_cases (list_any (λ (read : Reg). same_reg read reg) (operand_reads p.insn))
            (is_condition_on reg (cond_of p.insn)) t) [
              | inl h ↦ only_source reg
                  (sym (ap (λ (rs : List Reg). list_any (λ (read : Reg). same_reg read reg) rs)
                  (step_reads counter (op_of p.insn) (operands_of p.insn) form)) ∙ h)
              | inr h ↦ only_counter counter reg (cond_of p.insn) parts.0 h
            ];
        no_load = (no_access counter (op_of p.insn) (operands_of p.insn) form).0;
        no_store = (no_access counter (op_of p.insn) (operands_of p.insn) form).1;
      }
    where
      own : (reg : Reg) → list_any (λ (write : Reg × ℕ). same_reg write.0 reg) ((reg, 0) ∷ []) ≡ true
      own reg = ap (λ b. b || false) (same_reg-refl reg)

      only_source : (reg : Reg) → list_any (λ (read : Reg). same_reg read reg) (counter ∷ []) ≡ true → reg ≡ counter
      only_source reg h = elim (or_cases (same_reg counter reg) false h)
          [ inl k ↦ sym (same_reg-is counter reg k) | inr k ↦ absurd (false≢true k) ]

  test_control : (label : ℕ) (p : Placed) → is_test counter label p.insn ≡ true → IsControl counter label p
  test_control label p e =
      let parts = and_parts (is_guarded counter (cond_of p.insn)) (goes_to label (op_of p.insn) (operands_of p.insn)) e
      in
      let form = goes_is label (op_of p.insn) (operands_of p.insn) parts.1 in
      let writes : register_writes p.insn ≡ [] = ap (λ o. writes_of o (operands_of p.insn)) form.is_branch
      ∙ ap (λ o. writes_of Branch o) form.to in
      let reads : operand_reads p.insn ≡ [] = ap (λ o. reads_of o (operands_of p.insn)) form.is_branch
      ∙ ap (λ o. reads_of Branch o) form.to in
      let off : steps_on counter (entry_of p) ≡ false = ap
      (λ (ws : List (Reg × ℕ)). list_any (λ (write : Reg × ℕ). same_reg write.0 counter) ws) writes in
      let tested : reads_register p.insn counter ≡ true = ap
      (λ (rs : List Reg). list_any (λ (read : Reg). same_reg read counter) rs || is_condition_on counter
      (cond_of p.insn)) reads ∙ guarded_on counter (cond_of p.insn) parts.0 in
      record {
        touch = ap (λ b. b || reads_register p.insn counter) off ∙ tested;
        counted = record {
          step = λ t. absurd (false≢true (sym off ∙ t));
          test = λ f t. is_test-tests counter label (entry_of p) e;
          other = λ f. absurd (false≢true (sym f ∙ ap (λ b. b || reads_register p.insn counter) off ∙ tested));
        };
        writes = λ write c. absurd (In_from_Contains write [] (subst (λ ws. Contains ws write) writes c));
        reads = λ reg t. elim
            (or_cases (list_any (λ (read : Reg). same_reg read reg) (operand_reads p.insn))
            (is_condition_on reg (cond_of p.insn)) t) [
              | inl h ↦ absurd (false≢true
                  (sym (ap (λ (rs : List Reg). list_any (λ (read : Reg). same_reg read reg) rs) reads) ∙ h))
              | inr h ↦ only_counter counter reg (cond_of p.insn) (guarded_above counter (cond_of p.insn) parts.0) h
            ];
        no_load = ap is_load form.is_branch;
        no_store = ap is_store form.is_branch;
      }

  pub all-control : (label : ℕ) (ps : List Placed) → list_all (is_control counter label) ps ≡ true
      → All (IsControl counter label) ps
  all-control label [] e k d l = absurd (omega arith)
  all-control label (p ∷ ps) e zero d l =
      elim (or_cases (is_step counter p.insn) (is_test counter label p.insn) (and_parts _ _ e).0)
      [ inl h ↦ step_control label p h | inr h ↦ test_control label p h ]
  all-control label (p ∷ ps) e (suc k) d l = all-control label ps (and_parts _ _ e).1 k d (omega arith)
