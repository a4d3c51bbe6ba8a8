-- What a register holds behind instructions that set it to a constant.
use Rattle.std.proofs.Common.{◌≡◌, ℕ, ℤ, ◌<◌, ◌^◌, Bool, true, false, List, [], ◌∷◌, Option, Some, None}
use Rattle.std.proofs.Common.{refl, sym, ◌∙◌, ap, subst, ⊎_elim, arith}
use Rattle.std.specs.Prelude.{fold, map, ◌++◌, option_map, pos, negsuc, unwrap_or, if◌then◌else◌}
use Rattle.std.specs.List.{list_any, zip}
use Rattle.std.specs.Option.{option_to_list}
use Rattle.std.proofs.lemmas.Bool.{cases_Bool, cond-true, cond-false}
use Rattle.std.proofs.lemmas.Bool.Decides.{nat_tests}
use Rattle.clap.specs.Words.{Text as Name}
use Rattle.c62_op.specs.declared.register.Reg.{Reg}
use Rattle.c62_op.specs.declared.register.Cond.{Cond as Condition}
use Rattle.c62_op.specs.declared.operands.Op.{Op}
use Rattle.c62_op.specs.declared.operands.Operands.{Operands}
use Rattle.c62_op.specs.Word.{word}
use Rattle.c62_op.specs.Shape.{reads_of, writes_of}
use Rattle.c62_op.specs.Takes.{same_reg}
use Rattle.c62_op.proofs.Registers.{same_register, same_reg-refl}
use Rattle.c62_insn.specs.Insn.{op_of, operands_of, cond_of, register_writes}
use Rattle.c62_insn.specs.Effect.{runs_of, values_of, access_of, target_of}
use Rattle.c62_rules.specs.Exclusive.{writes_in}
use Rattle.c62_read.specs.declared.block.SerialInsn.{SerialInsn}
use Rattle.c62_read.specs.Block.{Serial}
use Rattle.c62_serial.specs.State.{Machine, IsSound, index_of, word_in, byte_in}
use Rattle.c62_serial.specs.Serial.{Ran, act_in, after_entry, after_insn, serial}
use Rattle.c62_serial.specs.declared.serial.Exit.TheVariants.{Next}
use Rattle.c62_serial.specs.Memory.{placed_from}
use Rattle.c62_serial.specs.Effect.{Act, no_act, loaded}
use Rattle.c62_serial.specs.Laws.{last_written}
use Rattle.c62_serial.proofs.MachineLemmas.{acts_on_each, sound_act}
use Rattle.c62_meaning.proofs.Lookup.{In}
use Rattle.c62_meaning.proofs.Landings.{act_writes}
use Rattle.c62_loop.proofs.Apart.{any_in, kept}
use Rattle.c62_loop.specs.Loop.{Region, trips_of}
use Rattle.c62_check_loop.specs.Region.{IsRegionOf, above, counter_of}
use Rattle.c62_check_loops.specs.Constant.{moved_by, constant_after, constant_at, constant_by, constant_of, LeavesConstant}
use Rattle.c62_check_loops.specs.Granted.{is_enough}
use Rattle.c62_check_loops.specs.Laws.{AreSure}

-- an instruction that doesn't write the register
unwritten_kept : (reg : Reg) (entry : SerialInsn) (machine : Machine) → writes_in reg (Some entry.insn) ≡ false
    → word_in (after_entry entry machine) reg ≡ word_in machine reg
unwritten_kept reg entry machine free = kept reg (act_in machine entry).writes machine.registers elsewhere
  where
    unwritten : (w : Reg × ℕ) → In w (register_writes entry.insn) → index_of w.0 ≡ index_of reg → ⊥
    unwritten w h e =
        let same : w.0 ≡ reg = same_register w.0 reg e in
        grind (arith, same_reg-refl w.0, any_in)

    elsewhere : (w : (Reg × ℕ) × ℕ) → In w (act_in machine entry).writes → index_of w.0.0 ≡ index_of reg → ⊥
    elsewhere w h = unwritten w.0 (act_writes entry.insn machine.base (word_in machine) (byte_in machine) w h)

-- a word is below 2^32
word_small : (z : ℤ) → word z < 2 ^ 32
word_small (pos a) = omega arith
word_small (negsuc a) = omega arith

-- what an instruction of these parts does
abbrev act_by : Op → Operands → Option Condition → ℕ → (Reg → ℕ) → (ℕ → ℕ) → Act
act_by op operands cond base words bytes =
    if runs_of cond (option_map (λ c. words c.reg) cond) then record {
      writes = zip (writes_of op operands)
          (values_of op operands (map words (reads_of op operands)) ++ option_to_list
          (loaded bytes op (placed_from base (access_of op operands (map words (reads_of op operands))))));
      access = placed_from base (access_of op operands (map words (reads_of op operands)));
      target = target_of operands (map words (reads_of op operands));
    } else no_act

-- what an instruction of these parts moves is left in the register that it writes
moved_written : (op : Op) (operands : Operands) (cond : Option Condition) (reg : Reg) (constant base : ℕ)
    (words : Reg → ℕ) (bytes : ℕ → ℕ) → moved_by op operands cond ≡ Some constant
    → list_any (λ write. same_reg write.0 reg) (writes_of op operands) ≡ true
    → last_written reg (act_by op operands cond base words bytes).writes ≡ Some constant
moved_written op operands cond reg constant base words bytes is writes = grind arith

moved_small : (op : Op) (operands : Operands) (cond : Option Condition) (constant : ℕ) → moved_by op operands cond ≡ Some constant
    → constant < 2 ^ 32
moved_small op operands cond constant is = grind (arith, word_small)

module _ (reg : Reg) where
  -- this is held, if anything is known
  abbrev Holds : Option ℕ → Machine → Type 0
  Holds None machine = Unit {0}
  Holds (Some constant) machine = word_in machine reg ≡ constant

  abbrev IsSmall : Option ℕ → Type 0
  IsSmall None = Unit {0}
  IsSmall (Some constant) = constant < 2 ^ 32

  moved_holds : (entry : SerialInsn) (machine : Machine) (moved : Option ℕ) → IsSound machine
      → writes_in reg (Some entry.insn) ≡ true
      → moved_by (op_of entry.insn) (operands_of entry.insn) (cond_of entry.insn) ≡ moved
      → Holds moved (after_entry entry machine)
  moved_holds entry machine None sound writes is = tt
  moved_holds entry machine (Some constant) sound writes is =
      let act = acts_on_each entry.line (act_in machine entry) machine sound in
      act.words reg
      ∙ ap (λ (o : Option ℕ). unwrap_or o (word_in machine reg))
      (moved_written (op_of entry.insn) (operands_of entry.insn) (cond_of entry.insn) reg constant machine.base
      (word_in machine) (byte_in machine) is writes)

  kept_holds : (entry : SerialInsn) (machine : Machine) (held : Option ℕ) → writes_in reg (Some entry.insn) ≡ false
      → Holds held machine → Holds held (after_entry entry machine)
  kept_holds entry machine None free holds = tt
  kept_holds entry machine (Some constant) free holds = unwritten_kept reg entry machine free ∙ holds

  holds_next : (entry : SerialInsn) (machine : Machine) (held : Option ℕ) → IsSound machine → Holds held machine
      → Holds (constant_after reg held entry) (after_entry entry machine)
  holds_next entry machine held sound holds =
      ⊎_elim {C = Holds (constant_after reg held entry) (after_entry entry machine)}
      (λ t. subst (λ (o : Option ℕ). Holds o (after_entry entry machine)) (sym (cond-true _ _ held t))
      (moved_holds entry machine _ sound t refl))
      (λ f. subst (λ (o : Option ℕ). Holds o (after_entry entry machine)) (sym (cond-false _ _ held f))
      (kept_holds entry machine held f holds))
      (cases_Bool (writes_in reg (Some entry.insn)))

  holds_after : (insns : List SerialInsn) (ran : Ran) (held : Option ℕ) → IsSound ran.machine → Holds held ran.machine
      → Holds (fold (constant_after reg) held insns) (fold after_insn ran insns).machine
  holds_after [] ran held sound holds = holds
  holds_after (entry ∷ insns) ran held sound holds =
      holds_after insns (after_insn ran entry) (constant_after reg held entry)
      (sound_act entry.line (act_in ran.machine entry) ran.machine sound)
      (holds_next entry ran.machine held sound holds)

  moved_is_small : (op : Op) (operands : Operands) (cond : Option Condition) (moved : Option ℕ)
      → moved_by op operands cond ≡ moved → IsSmall moved
  moved_is_small op operands cond None is = tt
  moved_is_small op operands cond (Some constant) is = moved_small op operands cond constant is

  small_next : (entry : SerialInsn) (held : Option ℕ) → IsSmall held → IsSmall (constant_after reg held entry)
  small_next entry held small =
      ⊎_elim {C = IsSmall (constant_after reg held entry)}
      (λ t. subst IsSmall (sym (cond-true _ _ held t))
      (moved_is_small (op_of entry.insn) (operands_of entry.insn) (cond_of entry.insn) _ refl))
      (λ f. subst IsSmall (sym (cond-false _ _ held f)) small)
      (cases_Bool (writes_in reg (Some entry.insn)))

  small_after : (insns : List SerialInsn) (held : Option ℕ) → IsSmall held
      → IsSmall (fold (constant_after reg) held insns)
  small_after [] held small = small
  small_after (entry ∷ insns) held small =
      small_after insns (constant_after reg held entry) (small_next entry held small)

pub constants_are_left : (reg : Reg) (insns : List SerialInsn) → LeavesConstant reg insns
constants_are_left reg insns constant is = (
  subst (IsSmall reg) is (small_after reg insns None tt),
  λ machine sound. subst (λ (o : Option ℕ). Holds reg o (serial insns machine).machine) is
      (holds_after reg insns (record { machine = machine; exit = Next }) None sound tt),
)

-- From every sound machine a loop makes the trips that its constant tells.
pub trips_known : (blocks : List Serial) (number : ℕ) (region : Region) (constant : ℕ)
    → IsRegionOf blocks number region → constant_at blocks number ≡ Some constant
    → (constant < 2 ^ 32) × ((machine : Machine) → IsSound machine → trips_of region machine ≡ constant)
trips_known blocks number region constant of is =
    constants_are_left region.counter region.before constant
    (ap (constant_of region.counter) of.before
    ∙ ap (λ (o : Option Reg). constant_by o (above blocks number)) of.tests ∙ is)

pub are_sure : (trips : List (Name × ℕ)) (blocks : List Serial) (number : ℕ) (region : Region) (label : Name)
    (constant : Option ℕ) (least : ℕ) → IsRegionOf blocks number region → constant_at blocks number ≡ constant
    → is_enough trips label constant least ≡ true → AreSure trips region label constant least
are_sure trips blocks number region label None least of is enough = enough
are_sure trips blocks number region label (Some constant) least of is enough =
    let known = trips_known blocks number region constant of is in
    record { enough = grind (arith, nat_tests, enough); word = known.0; makes = known.1 }
