-- Chains part by part, and where blocks go on.
use Rattle.std.proofs.Common.{◌≡◌, ℕ, suc, ◌-◌, Bool, true, false, List, [], ◌∷◌, ◌++◌, length, Option}
use Rattle.std.proofs.Common.{refl, sym, ◌∙◌, ap, subst, inl, inr, arith}
use Rattle.std.specs.Prelude.{fold, slice_get, not, if◌then◌else◌}
use Rattle.std.specs.List.{list_all}
use Rattle.std.proofs.lemmas.Bool.{and_parts}
use Rattle.std.proofs.lemmas.Bool.Decides.{nat_tests}
use Rattle.c62_op.specs.declared.register.Reg.{Reg}
use Rattle.c62_op.specs.declared.operands.Operands.{Operands}
use Rattle.c62_op.specs.declared.operands.Operands.TheVariants.{Block as BlockOperand, Register as RegisterOperand}
use Rattle.c62_op.specs.Shape.{is_branch}
use Rattle.c62_insn.specs.declared.insn.Insn.{Insn}
use Rattle.c62_insn.specs.Insn.{op_of, operands_of}
use Rattle.c62_insn.specs.Effect.{target_of}
use Rattle.c62_read.specs.declared.block.SerialInsn.{SerialInsn}
use Rattle.c62_read.specs.Block.{Serial, branch_last, operations, is_labelled, target_stands}
use Rattle.c62_serial.specs.declared.serial.Exit.{Exit}
use Rattle.c62_serial.specs.declared.serial.Exit.TheVariants.{Next, Block, Register}
use Rattle.c62_serial.specs.declared.chain.End.{End}
use Rattle.c62_serial.specs.State.{Machine, word_in, byte_in}
use Rattle.c62_serial.specs.Effect.{act_on, no_act, runs, operand_values}
use Rattle.c62_serial.specs.Serial.{Ran, after_insn, exit_after, serial}
use Rattle.c62_serial.specs.Chain.{Position, At, Ended, Leads, position_after, serial_blocks, block_of}
use Rattle.c62_serial.proofs.BranchLemmas.{goes_branch}
use Rattle.c62_check_loop.specs.Region.{last_of, is_branch_entry}
use Rattle.c62_meaning.proofs.Lookup.{In}

-- ---- chains

module _ (program : List Serial) where
  abbrev pub Goes : Machine → Position → List ℕ → Machine → Position → Type 0
  Goes machine position numbers final last =
      Leads (length program) (serial_blocks program) machine position numbers final last

  -- one behind the other
  pub goes_both : (machine middle final : Machine) (position between last : Position) (xs ys : List ℕ)
      → Goes machine position xs middle between → Goes middle between ys final last
      → Goes machine position (xs ++ ys) final last
  unfolding Leads
  goes_both machine middle final position between last [] ys one other =
      subst (λ m. Goes m position ys final last) one.0 (subst (λ p. Goes middle p ys final last) one.1 other)
  goes_both machine middle final position between last (x ∷ xs) ys one other = (
    one.0,
    one.1,
    one.2,
    goes_both one.1.machine middle final (position_after (length program) x one.1.exit) between last xs ys one.3 other,
  )

  -- one block
  pub goes_one : (machine : Machine) (number : ℕ)
      → Goes machine (At number) (number ∷ []) (serial (block_of program number).insns machine).machine
      (position_after (length program) number (serial (block_of program number).insns machine).exit)
  unfolding Leads
  goes_one machine number = (refl, serial (block_of program number).insns machine, refl, (refl, refl))

  same_at : (x y : ℕ) (position : Position) → position ≡ At x → position ≡ At y → x ≡ y
  same_at x y position e f = let g : At x ≡ At y = sym e ∙ f in cc

  -- what a run that ends does behind a part that it begins with
  pub goes_rest : (machine middle final : Machine) (position between : Position) (stop : End) (xs ys : List ℕ)
      → Goes machine position xs middle between → Goes machine position ys final (Ended stop)
      → (zs : List ℕ) × (ys ≡ xs ++ zs) × Goes middle between zs final (Ended stop)
  unfolding Leads
  goes_rest machine middle final position between stop [] ys one all = (
    ys,
    refl,
    subst (λ m. Goes m between ys final (Ended stop)) (sym one.0)
        (subst (λ p. Goes machine p ys final (Ended stop)) (sym one.1) all),
  )
  goes_rest machine middle final position between stop (x ∷ xs) [] one all =
      absurd (let e : Ended stop ≡ At x = all.1 ∙ one.0 in cc)
  goes_rest machine middle final position between stop (x ∷ xs) (y ∷ ys) one all =
      let same : x ≡ y = same_at x y position one.0 all.0 in
      let ran : one.1 ≡ all.1 = one.2 ∙ ap (λ n. serial (block_of program n).insns machine) same ∙ sym all.2 in
      let more = goes_rest one.1.machine middle final (position_after (length program) x one.1.exit) between stop xs ys
      one.3
      (subst (λ (n : ℕ). Goes one.1.machine (position_after (length program) n one.1.exit) ys final (Ended stop))
      (sym same)
      (subst (λ (r : Ran). Goes r.machine (position_after (length program) y r.exit) ys final (Ended stop)) (sym ran)
      all.3)) in (
        more.0,
        ap (λ n. n ∷ ys) (sym same) ∙ ap (λ ns. x ∷ ns) more.1,
        more.2,
      )

-- ---- straight blocks

last_more : (x y : SerialInsn) (zs : List SerialInsn) → last_of (x ∷ y ∷ zs) ≡ last_of (y ∷ zs)
last_more x y zs =
    let e : length (x ∷ y ∷ zs) - 1 ≡ suc (length (y ∷ zs) - 1) = omega arith in
    ap (λ n. slice_get (x ∷ y ∷ zs) n) e

none_branch : (xs : List SerialInsn) → branch_last (operations xs) ≡ true → is_branch_entry (last_of xs) ≡ false
    → (entry : SerialInsn) → In entry xs → is_branch (op_of entry.insn) ≡ false
none_branch [] last straight entry h = absurd h
none_branch (x ∷ []) last straight entry (inl e) = subst (λ (z : SerialInsn). is_branch (op_of z.insn) ≡ false) e straight
none_branch (x ∷ []) last straight entry (inr h) = absurd h
none_branch (x ∷ y ∷ zs) last straight entry h =
    let parts = and_parts (not (is_branch (op_of x.insn))) (branch_last (operations (y ∷ zs))) last in
    let rest = none_branch (y ∷ zs) parts.1 (ap is_branch_entry (sym (last_more x y zs)) ∙ straight) entry in
    by_place parts.0 rest h
  where
    by_place : not (is_branch (op_of x.insn)) ≡ true
        → (In entry (y ∷ zs) → is_branch (op_of entry.insn) ≡ false) → In entry (x ∷ y ∷ zs)
        → is_branch (op_of entry.insn) ≡ false
    by_place first rest (inl e) = subst (λ (z : SerialInsn). is_branch (op_of z.insn) ≡ false) e (grind arith)
    by_place first rest (inr h) = rest h

-- without a branch a block falls through
falls_through : (xs : List SerialInsn) (ran : Ran)
    → ((entry : SerialInsn) → In entry xs → is_branch (op_of entry.insn) ≡ false)
    → (fold after_insn ran xs).exit ≡ ran.exit
falls_through [] ran none = refl
falls_through (x ∷ xs) ran none = grind (
  arith,
  nat_tests,
  falls_through xs (after_insn ran x),
  goes_branch x.insn ran.machine.base (word_in ran.machine) (byte_in ran.machine),
)

pub straight_exit : (xs : List SerialInsn) (machine : Machine) → branch_last (operations xs) ≡ true
    → is_branch_entry (last_of xs) ≡ false → (serial xs machine).exit ≡ Next
straight_exit xs machine last straight =
    falls_through xs (record { machine = machine; exit = Next }) (none_branch xs last straight)

-- all but the last are no branches
pub front_straight : (xs : List SerialInsn) (x : SerialInsn) → branch_last (operations (xs ++ (x ∷ []))) ≡ true
    → (entry : SerialInsn) → In entry xs → is_branch (op_of entry.insn) ≡ false
front_straight [] x last entry h = absurd h
front_straight (y ∷ []) x last entry (inl e) =
    subst (λ (z : SerialInsn). is_branch (op_of z.insn) ≡ false) e (grind arith)
front_straight (y ∷ []) x last entry (inr h) = absurd h
front_straight (y ∷ z ∷ xs) x last entry (inl e) =
    subst (λ (z : SerialInsn). is_branch (op_of z.insn) ≡ false) e (grind arith)
front_straight (y ∷ z ∷ xs) x last entry (inr h) =
    front_straight (z ∷ xs) x
    (and_parts (not (is_branch (op_of y.insn))) (branch_last (operations ((z ∷ xs) ++ (x ∷ [])))) last).1 entry h

-- ---- blocks that branches name

module _ (labels : List (Option (List ℕ))) where
  -- where a run goes on there is a label
  abbrev pub is_named : Exit → Bool
  is_named (Block number) = is_labelled (slice_get labels number)
  is_named Next = true
  is_named (Register word) = true

  by_operands : (operands : Operands) (reads : List ℕ) (exit : Exit) → target_stands labels operands ≡ true
      → is_named exit ≡ true → is_named (exit_after exit (target_of operands reads)) ≡ true
  by_operands (BlockOperand number) reads exit stands old = stands
  by_operands (RegisterOperand reg) reads exit stands old = refl
  by_operands operands reads exit stands old = old

  by_runs : (insn : Insn) (base : ℕ) (word : Reg → ℕ) (byte : ℕ → ℕ) (exit : Exit) (b : Bool)
      → target_stands labels (operands_of insn) ≡ true → is_named exit ≡ true
      → is_named (exit_after exit (if b then act_on insn base (operand_values word insn) byte else no_act).target)
      ≡ true
  by_runs insn base word byte exit true stands old =
      by_operands (operands_of insn) (operand_values word insn) exit stands old
  by_runs insn base word byte exit false stands old = old

  all_named : (insns : List SerialInsn) (ran : Ran)
      → list_all (λ entry. target_stands labels (operands_of entry.insn)) insns ≡ true → is_named ran.exit ≡ true
      → is_named (fold after_insn ran insns).exit ≡ true
  all_named [] ran all old = old
  all_named (entry ∷ insns) ran all old =
      let parts = and_parts (target_stands labels (operands_of entry.insn))
      (list_all (λ e. target_stands labels (operands_of e.insn)) insns) all in
      all_named insns (after_insn ran entry) parts.1
      (by_runs entry.insn ran.machine.base (word_in ran.machine) (byte_in ran.machine) ran.exit
      (runs (word_in ran.machine) entry.insn) parts.0 old)

  pub exit_named : (insns : List SerialInsn) (machine : Machine)
      → list_all (λ entry. target_stands labels (operands_of entry.insn)) insns ≡ true
      → is_named (serial insns machine).exit ≡ true
  exit_named insns machine all = all_named insns (record { machine = machine; exit = Next }) all refl
