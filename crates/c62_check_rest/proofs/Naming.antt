-- A block whose branch names a label by another number does the same, and goes to that number.
use Rattle.std.proofs.Common.{◌≡◌, ℕ, Bool, true, false, List, [], ◌∷◌, ◌++◌, length, map}
use Rattle.std.proofs.Common.{Option, Some, None, refl, sym, ap, subst, ◌∙◌}
use Rattle.std.specs.Prelude.{fold, option_map, IsTrue, if◌then◌else◌}
use Rattle.std.specs.List.{list_all, zip}
use Rattle.std.specs.Option.{option_to_list}
use Rattle.std.proofs.lemmas.Bool.{and_parts}
use Rattle.std.proofs.lemmas.List.{length-map}
use Rattle.std.proofs.lemmas.Simd.{map-map}
use Rattle.c62_op.specs.declared.register.Reg.{Reg}
use Rattle.c62_op.specs.declared.register.Cond.{Cond as Condition}
use Rattle.c62_op.specs.declared.operands.Op.{Op}
use Rattle.c62_op.specs.declared.operands.Operands.{Operands}
use Rattle.c62_op.specs.declared.operands.Operands.TheVariants.{Block as BlockOperand, Register as RegisterOperand}
use Rattle.c62_op.specs.Shape.{reads_of, writes_of}
use Rattle.c62_insn.specs.declared.effect.Target.{Target}
use Rattle.c62_insn.specs.declared.effect.Target.TheVariants.{Block as ToBlock, Register as ToRegister}
use Rattle.c62_insn.specs.Insn.{op_of, operands_of, cond_of, aimed_operands}
use Rattle.c62_insn.specs.Effect.{runs_of, values_of, access_of, target_of}
use Rattle.c62_read.specs.declared.block.SerialInsn.{SerialInsn}
use Rattle.c62_read.specs.Block.{is_block, operations}
use Rattle.c62_read.specs.Program.{Numbered, aimed, numbered_of}
use Rattle.c62_read.proofs.BlockLemmas.{aimed_block}
use Rattle.c62_serial.specs.declared.serial.Exit.{Exit}
use Rattle.c62_serial.specs.declared.serial.Exit.TheVariants.{Next, Block, Register}
use Rattle.c62_serial.specs.State.{Machine, word_in, byte_in}
use Rattle.c62_serial.specs.Memory.{placed_from}
use Rattle.c62_serial.specs.Effect.{Act, no_act, act_of, loaded}
use Rattle.c62_serial.specs.Serial.{Ran, serial, after_insn, after_act, act_in, with_access, with_writes, exit_after}
use Rattle.c62_check_rest.specs.Starts.{Starts, start_at, is_row, goes_to}

-- it is a block
pub named_block : (label : ℕ) (insns old : List SerialInsn)
    → map numbered_of insns ≡ map (aimed label) (map numbered_of old) → IsTrue (is_block old)
    → IsTrue (is_block insns)
named_block label insns old same whole =
    let count : length (map numbered_of old) ≡ length old = length-map old numbered_of in
    let ops : map (λ (e : Numbered). e.parts.op) (map numbered_of old) ≡ operations old
    = map-map (λ (e : Numbered). e.parts.op) numbered_of old in
    aimed_block label insns old same (rw (count, ops) whole)

-- ---- what instructions do, of their parts

abbrev act_by : Op → Operands → Option Condition → ℕ → (Reg → ℕ) → (ℕ → ℕ) → Act
act_by op operands cond base word byte =
    if runs_of cond (option_map (λ c. word c.reg) cond) then record {
      writes = zip (writes_of op operands)
          (values_of op operands (map word (reads_of op operands)) ++ option_to_list
          (loaded byte op (placed_from base (access_of op operands (map word (reads_of op operands))))));
      access = placed_from base (access_of op operands (map word (reads_of op operands)));
      target = target_of operands (map word (reads_of op operands));
    } else no_act

module _ (label : ℕ) where
  abbrev named_target : Target → Target
  named_target (ToBlock number) = ToBlock label
  named_target (ToRegister word) = ToRegister word

  abbrev pub named_exit : Exit → Exit
  named_exit Next = Next
  named_exit (Block number) = Block label
  named_exit (Register word) = Register word

  record IsActNamed (a b : Act) : Type 0 where
    pub writes : b.writes ≡ a.writes
    pub access : b.access ≡ a.access
    pub target : b.target ≡ option_map named_target a.target

  none_named : IsActNamed no_act no_act
  none_named = record { writes = refl; access = refl; target = refl }

  by_named : (b : Bool) (a c : Act) → IsActNamed a c → IsActNamed (if b then a else no_act) (if b then c else no_act)
  by_named true a c h = h
  by_named false a c h = none_named

  parts_named : (op : Op) (operands : Operands) (cond : Option Condition) (base : ℕ) (word : Reg → ℕ) (byte : ℕ → ℕ)
      → IsActNamed (act_by op operands cond base word byte)
      (act_by op (aimed_operands label operands) cond base word byte)
  parts_named op (BlockOperand number) cond base word byte =
      by_named (runs_of cond (option_map (λ c. word c.reg) cond)) _ _
      (record { writes = refl; access = refl; target = refl })
  parts_named op (RegisterOperand reg) cond base word byte =
      by_named (runs_of cond (option_map (λ c. word c.reg) cond)) _ _
      (record { writes = refl; access = refl; target = refl })
  parts_named op operands cond base word byte =
      by_named (runs_of cond (option_map (λ c. word c.reg) cond)) _ _
      (record { writes = refl; access = refl; target = refl })

  act_named : (entry named : SerialInsn) → numbered_of named ≡ aimed label (numbered_of entry)
      → (base : ℕ) (word : Reg → ℕ) (byte : ℕ → ℕ)
      → IsActNamed (act_of entry.insn base word byte) (act_of named.insn base word byte)
  act_named entry named same base word byte =
      let op : op_of named.insn ≡ op_of entry.insn = ap (λ (n : Numbered). n.parts.op) same in
      let operands : operands_of named.insn ≡ aimed_operands label (operands_of entry.insn)
      = ap (λ (n : Numbered). n.parts.operands) same in
      let cond : cond_of named.insn ≡ cond_of entry.insn = ap (λ (n : Numbered). n.parts.cond) same in
      let all : act_by (op_of named.insn) (operands_of named.insn) (cond_of named.insn) base word byte
      ≡ act_by (op_of entry.insn) (aimed_operands label (operands_of entry.insn)) (cond_of entry.insn) base word byte
      = ap (λ (o : Op). act_by o (operands_of named.insn) (cond_of named.insn) base word byte) op
      ∙ (ap (λ (o : Operands). act_by (op_of entry.insn) o (cond_of named.insn) base word byte) operands
      ∙ ap (λ (c : Option Condition). act_by (op_of entry.insn) (aimed_operands label (operands_of entry.insn)) c base
      word
      byte) cond) in
      subst (λ (a : Act). IsActNamed (act_of entry.insn base word byte) a) (sym all)
      (parts_named (op_of entry.insn) (operands_of entry.insn) (cond_of entry.insn) base word byte)

  -- ---- what they leave

  abbrev pub ran_named : Ran → Ran
  ran_named ran = record { machine = ran.machine; exit = named_exit ran.exit }

  exit_named : (exit : Exit) (target : Option Target)
      → exit_after (named_exit exit) (option_map named_target target) ≡ named_exit (exit_after exit target)
  exit_named exit None = refl
  exit_named exit (Some (ToBlock number)) = refl
  exit_named exit (Some (ToRegister word)) = refl

  step_named : (ran : Ran) (entry named : SerialInsn) → numbered_of named ≡ aimed label (numbered_of entry)
      → after_insn (ran_named ran) named ≡ ran_named (after_insn ran entry)
  step_named ran entry named same =
      let line : named.line ≡ entry.line = ap (λ (n : Numbered). n.line) same in
      let h = act_named entry named same ran.machine.base (word_in ran.machine) (byte_in ran.machine) in
      let a : Act = act_in ran.machine entry in
      let b : Act = act_in ran.machine named in
      let machines : after_act named.line b ran.machine ≡ after_act entry.line a ran.machine
      = ap (λ (l : ℕ). after_act l b ran.machine) line
      ∙ (ap (λ ws. with_writes ws (with_access entry.line b.access ran.machine)) h.writes
      ∙ ap (λ x. with_writes a.writes (with_access entry.line x ran.machine)) h.access) in
      let exits : exit_after (named_exit ran.exit) b.target ≡ named_exit (exit_after ran.exit a.target)
      = ap (λ t. exit_after (named_exit ran.exit) t) h.target ∙ exit_named ran.exit a.target in
      ap (λ (m : Machine). ran_of m (exit_after (named_exit ran.exit) b.target)) machines
      ∙ ap (λ (e : Exit). ran_of (after_act entry.line a ran.machine) e) exits
    where
      ran_of : Machine → Exit → Ran
      ran_of machine exit = record { machine = machine; exit = exit }

  all_named : (insns named : List SerialInsn) → map numbered_of named ≡ map (aimed label) (map numbered_of insns)
      → (ran : Ran) → fold after_insn (ran_named ran) named ≡ ran_named (fold after_insn ran insns)
  all_named [] [] same ran = refl
  all_named [] (n ∷ named) same ran = absurd cc
  all_named (e ∷ insns) [] same ran = absurd cc
  all_named (e ∷ insns) (n ∷ named) same ran =
      let first : numbered_of n ≡ aimed label (numbered_of e) = cc in
      let rest : map numbered_of named ≡ map (aimed label) (map numbered_of insns) = cc in
      ap (λ (r : Ran). fold after_insn r named) (step_named ran e n first)
      ∙ all_named insns named rest (after_insn ran e)

  -- serially the machine is the same, and where the block goes has the other number
  pub serial_named : (insns named : List SerialInsn) → map numbered_of named ≡ map (aimed label) (map numbered_of insns)
      → (opening : Machine) → serial named opening ≡ ran_named (serial insns opening)
  serial_named insns named same opening = all_named insns named same (record { machine = opening; exit = Next })

-- ---- where it goes

module _ (starts : Starts) (row : ℕ) where
  abbrev pub exit_fits : Exit → Bool
  exit_fits (Block number) = is_row (start_at starts number) row
  exit_fits Next = true
  exit_fits (Register word) = true

  by_runs : (exit : Exit) (b : Bool) (a : Act) → exit_fits exit ≡ true → exit_fits (exit_after exit a.target) ≡ true
      → exit_fits (exit_after exit (if b then a else no_act).target) ≡ true
  by_runs exit true a old new = new
  by_runs exit false a old new = old

  step_fits : (exit : Exit) (op : Op) (operands : Operands) (cond : Option Condition) (base : ℕ) (word : Reg → ℕ)
      (byte : ℕ → ℕ)
      → goes_to starts row operands ≡ true → exit_fits exit ≡ true
      → exit_fits (exit_after exit (act_by op operands cond base word byte).target) ≡ true
  step_fits exit op (BlockOperand number) cond base word byte goes old =
      by_runs exit (runs_of cond (option_map (λ c. word c.reg) cond)) _ old goes
  step_fits exit op (RegisterOperand reg) cond base word byte goes old =
      by_runs exit (runs_of cond (option_map (λ c. word c.reg) cond)) _ old refl
  step_fits exit op operands cond base word byte goes old =
      by_runs exit (runs_of cond (option_map (λ c. word c.reg) cond)) _ old old

  -- where all branches to blocks go to ones that are entered at the row, so does the block
  pub serial_fits : (insns : List SerialInsn) (ran : Ran)
      → list_all (λ entry. goes_to starts row (operands_of entry.insn)) insns ≡ true → exit_fits ran.exit ≡ true
      → exit_fits (fold after_insn ran insns).exit ≡ true
  serial_fits [] ran all old = old
  serial_fits (entry ∷ insns) ran all old =
      let parts = and_parts (goes_to starts row (operands_of entry.insn))
      (list_all (λ e. goes_to starts row (operands_of e.insn)) insns) all in
      serial_fits insns (after_insn ran entry) parts.1
      (step_fits ran.exit (op_of entry.insn) (operands_of entry.insn) (cond_of entry.insn) ran.machine.base
      (word_in ran.machine)
      (byte_in ran.machine) parts.0 old)
