-- What instructions do that are the same but for the numbers of labels.
use Rattle.std.proofs.Common.{◌≡◌, ℕ, zero, suc, cond, List, [], ◌∷◌, ◌++◌, map, Option}
use Rattle.std.proofs.Common.{Some, None, refl, ◌∙◌, ap}
use Rattle.std.specs.Prelude.{option_map, if◌then◌else◌}
use Rattle.std.specs.List.{flat_map, zip}
use Rattle.std.specs.Option.{option_to_list}
use Rattle.c62_op.specs.declared.register.Reg.{Reg}
use Rattle.c62_op.specs.declared.register.Cond.{Cond as Condition}
use Rattle.c62_op.specs.declared.operands.Op.{Op}
use Rattle.c62_op.specs.declared.operands.Operands.{Operands}
use Rattle.c62_op.specs.Shape.{reads_of, writes_of}
use Rattle.c62_insn.specs.declared.effect.Target.{Target}
use Rattle.c62_insn.specs.declared.effect.Target.TheVariants.{Block as ToBlock, Register as ToRegister}
use Rattle.c62_insn.specs.Effect.{runs_of, values_of, access_of, target_of}
use Rattle.c62_serial.specs.State.{Machine}
use Rattle.c62_serial.specs.Memory.{placed_from}
use Rattle.c62_serial.specs.Effect.{Act, no_act, act_of, loaded}
use Rattle.c62_packet.specs.declared.placed.Placed.{Placed}
use Rattle.c62_meaning.specs.Landing.{Landing}
use Rattle.c62_meaning.specs.Packet.{Did, register_landings, memory_landings}
use Rattle.c62_meaning.specs.Packet.{word_before, byte_before}
use Rattle.c62_meaning.proofs.Acting.{act_same}
use Rattle.c62_meaning.proofs.Runs.{acts_to, the_run}
use Rattle.c62_flight.specs.Text.{Text, row_of, aim_of}
use Rattle.c62_flight.specs.Issued.{Visit, issue_in, issued_in, issued_on}
use Rattle.c62_flight.specs.Numbered.{SameOperands, IsSamePlaced, AreSamePlaced, IsSameText}
use Rattle.std.proofs.lemmas.Bool.Decides.{nat_tests}
use Rattle.std.proofs.Common.{arith}

module _ (text other : Text) where
  -- ---- what instructions do

  abbrev pub TargetAlike : Option Target → Option Target → Type 0
  TargetAlike None None = Unit {0}
  TargetAlike (Some (ToBlock number)) (Some (ToBlock another)) = aim_of text number ≡ aim_of other another
  TargetAlike (Some (ToRegister word)) (Some (ToRegister another)) = word ≡ another
  TargetAlike _ _ = ⊥

  pub record ActAlike (a b : Act) : Type 0 where
    pub writes : a.writes ≡ b.writes
    pub access : a.access ≡ b.access
    pub target : TargetAlike a.target b.target

  abbrev act_by : Op → Operands → Option Condition → ℕ → (Reg → ℕ) → (ℕ → ℕ) → Act
  act_by op operands cond base word byte =
      if runs_of cond (option_map (λ c. word c.reg) cond) then record {
        writes = zip (writes_of op operands)
            (values_of op operands (map word (reads_of op operands)) ++ option_to_list
            (loaded byte op (placed_from base (access_of op operands (map word (reads_of op operands))))));
        access = placed_from base (access_of op operands (map word (reads_of op operands)));
        target = target_of operands (map word (reads_of op operands));
      } else no_act

  no_alike : ActAlike no_act no_act
  no_alike = record { writes = refl; access = refl; target = tt }

  act_parts : (op : Op) (one two : Operands) (cond : Option Condition) (base : ℕ) (word : Reg → ℕ) (byte : ℕ → ℕ)
      → SameOperands text other one two
      → ActAlike (act_by op one cond base word byte) (act_by op two cond base word byte)
  act_parts op one two cond base word byte h = grind arith

  act_alike : (p q : Placed) (base : ℕ) (word word' : Reg → ℕ) (byte byte' : ℕ → ℕ) → IsSamePlaced text other p q
      → ((reg : Reg) → word reg ≡ word' reg) → ((a : ℕ) → byte a ≡ byte' a)
      → ActAlike (act_of p.insn base word byte) (act_of q.insn base word' byte')
  act_alike p q base word word' byte byte' same words bytes = grind (arith, nat_tests, act_same, act_parts)

  -- ---- lists of what stands alike

  pub record Alike (p q : Placed) : Type 0 where
    pub same : IsSamePlaced text other p q
    pub cycle : p.cycle ≡ q.cycle

  abbrev pub AllAlike : List Placed → List Placed → Type 0
  AllAlike [] [] = Unit {0}
  AllAlike (p ∷ ps) (q ∷ qs) = Alike p q × AllAlike ps qs
  AllAlike _ _ = ⊥

  abbrev pub DoAlike : Did → Did → Type 0
  DoAlike did did' = (p q : Placed) → Alike p q → ActAlike (did p) (did' q)

  append_alike : (ps qs rs ts : List Placed) → AllAlike ps qs → AllAlike rs ts → AllAlike (ps ++ rs) (qs ++ ts)
  append_alike [] qs rs ts h k = grind arith
  append_alike (p ∷ ps) qs rs ts h k = grind (arith, append_alike ps)

  issued_row : (cycle : ℕ) (ps qs : List Placed) → AreSamePlaced text other ps qs
      → AllAlike (map (issue_in cycle) ps) (map (issue_in cycle) qs)
  issued_row cycle [] qs h = grind arith
  issued_row cycle (p ∷ ps) qs h = grind (arith, issued_row cycle ps)

  pub issued_alike : IsSameText text other → (path : List Visit) → AllAlike (issued_on text path) (issued_on other path)
  issued_alike same [] = tt
  issued_alike same (visit ∷ path) =
      append_alike (issued_in text visit) (issued_in other visit) (issued_on text path) (issued_on other path)
      (issued_row visit.start (row_of text visit.row).insns (row_of other visit.row).insns (same.insns visit.row))
      (issued_alike same path)

  landings_alike : (f g : Placed → List Landing) (ps qs : List Placed) → AllAlike ps qs
      → ((p q : Placed) → Alike p q → f p ≡ g q) → flat_map f ps ≡ flat_map g qs
  landings_alike f g [] qs h same = grind arith
  landings_alike f g (p ∷ ps) qs h same = grind (arith, landings_alike f g ps)

  pub words_alike : (ps qs : List Placed) (s : Machine) (did did' : Did) (t : ℕ) (reg : Reg) → AllAlike ps qs
      → DoAlike did did' → word_before ps s did t reg ≡ word_before qs s did' t reg
  words_alike ps qs s did did' t reg h acts = grind (
    arith,
    landings_alike (register_landings did) (register_landings did') ps qs h,
  )

  pub bytes_alike : (ps qs : List Placed) (s : Machine) (did did' : Did) (t a : ℕ) → AllAlike ps qs → DoAlike did did'
      → byte_before ps s did t a ≡ byte_before qs s did' t a
  bytes_alike ps qs s did did' t a h acts = grind (
    arith,
    landings_alike (memory_landings did) (memory_landings did') ps qs h,
  )

  acts_alike : (ps qs : List Placed) (s : Machine) (k : ℕ) → AllAlike ps qs → DoAlike (acts_to ps s k) (acts_to qs s k)
  unfolding acts_to
  acts_alike ps qs s zero h p q a = no_alike
  acts_alike ps qs s (suc k) h p q a =
      act_alike p q s.base (word_before ps s (acts_to ps s k) p.cycle) (word_before qs s (acts_to qs s k) q.cycle)
      (byte_before ps s (acts_to ps s k) p.cycle) (byte_before qs s (acts_to qs s k) q.cycle) a.same
      (λ reg. words_alike ps qs s (acts_to ps s k) (acts_to qs s k) p.cycle reg h (acts_alike ps qs s k h)
      ∙ ap (λ t. word_before qs s (acts_to qs s k) t reg) a.cycle)
      (λ x. bytes_alike ps qs s (acts_to ps s k) (acts_to qs s k) p.cycle x h (acts_alike ps qs s k h)
      ∙ ap (λ t. byte_before qs s (acts_to qs s k) t x) a.cycle)

  pub runs_alike : (ps qs : List Placed) (s : Machine) → AllAlike ps qs → DoAlike (the_run ps s) (the_run qs s)
  unfolding the_run
  runs_alike ps qs s h p q a = grind (arith, acts_alike ps qs s (suc p.cycle) h p q a)
