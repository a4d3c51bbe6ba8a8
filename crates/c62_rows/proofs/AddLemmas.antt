-- What adding a line comes to.
use Rattle.std.proofs.Common.{arith, ◌≡◌, inl, inr, ℕ, ◌<◌, List, length, Option, Some, None, Bool, true, false, Ok}
use Rattle.std.proofs.Common.{Err, refl, sym, ap, ◌∙◌, subst}
use Rattle.std.specs.Prelude.{MatchOption, All, Result, IfOk}
use Rattle.std.proofs.lemmas.Bool.Decides.{nat_tests}
use Rattle.std.specs.declared.alloc.AllocError.{AllocError}
use Rattle.c62_insn.specs.declared.insn.Insn.{Insn}
use Rattle.c62_insn.specs.Insn.{op_of, operands_of, cond_of, unit_of, aimed_operands}
use Rattle.c62_line.specs.Line.{Says, Does, Jumps, parts_of, said_of}
use Rattle.c62_read.specs.Program.{Name, Numbered, aimed}
use Rattle.c62_packet.specs.declared.placed.Placed.{Placed}
use Rattle.c62_adopt_line.specs.declared.fault.LineFault.{LineFault}
use Rattle.c62_adopt_line.specs.declared.fault.LineFault.TheVariants.{Memory}
use Rattle.c62_adopt_line.specs.Laws.{HasUnit}
use Rattle.c62_adopt_line.specs.Line.{Line, line_says, line_written, Fails}
use Rattle.c62_adopt_line.proofs.WholeLines.{line_whole}
use Rattle.c62_rows.specs.declared.reader.Reader.{Reader}
use Rattle.c62_rows.specs.declared.word.Said.{Said as SaidRead}
use Rattle.c62_rows.specs.declared.fault.RowsCause.{RowsCause}
use Rattle.c62_rows.specs.declared.fault.RowsCause.TheVariants.{Line as OfLine}
use Rattle.c62_rows.specs.Rows.{with_insn, MayJoin, IsBreach}
use Rattle.c62_rows.specs.Word.{Said, row_says, said_with, of_label, or_label, label_in, zeroed}
use Rattle.c62_rows.specs.Reading.{Reading, number_of, is_target, with_target, with_named, numbered, insns_above}
use Rattle.c62_rows.specs.Reading.{hindrance, at_line}
use Rattle.c62_rows.specs.Reading.{IsPlaced, on_current, AddsInsn, Breaks, SaysBreach, RefusesLine}
use Rattle.c62_rows.specs.Reading.{is_given, is_beyond, is_one_more}
use Rattle.c62_rows.specs.Read.{reading_of, said_read, IsReady, AddsShort, AddsSaid, RefusesSaid, AddsShortLine}
use Rattle.c62_rows.specs.Read.{TellsOfInsn, TellsOfSays, TellsOfSaid, TellsOfLine}
use Rattle.c62_rows.proofs.SmallLemmas.{at_ready}
use Rattle.c62_rows.proofs.SoundLemmas.{free_room, room_at}
use Rattle.c62_rows.specs.declared.reader.TheConstants.{MOST_TARGETS}
use Rattle.c62_op.specs.declared.set.InstructionSet.{InstructionSet}

abbrev pub InsnTold : Numbered → Reading → Reading → Option RowsCause → Type 0
InsnTold entry old new told = MatchOption told (AddsInsn entry old new) (Breaks entry old)

abbrev pub SaysTold : ℕ → Option Name → Says → Reading → Reading → Option RowsCause → Type 0
SaysTold number word says old new told = MatchOption told (AddsShort number word says old new)
    (SaysBreach number word says old)

-- ---- instructions

pub breaks_told : (entry : Numbered) (old : Reading) (placed : Placed) (cause : RowsCause) → IsPlaced entry placed
    → IsBreach (insns_above old) placed cause
    → Breaks entry old cause
breaks_told entry old placed cause is breach = record { placed = placed; is = is; breach = breach }

pub adds_told : (entry : Numbered) (old new : Reading) (placed : Placed) → IsPlaced entry placed
    → MayJoin (insns_above old) placed
    → new ≡ on_current (with_insn placed) old → AddsInsn entry old new
adds_told entry old new placed is joins adds = record { placed = placed; is = is; joins = joins; adds = adds }

pub worded_told : (number : ℕ) (word : Option Name) (insn : Insn) (old mid new : Reading) (told : Option RowsCause)
    → mid ≡ with_named word number old
    → InsnTold (numbered number (parts_of insn)) mid new told → SaysTold number word (Does (parts_of insn)) old new told
worded_told number word insn old mid new None there adds =
    record { short = tt; adds = subst (λ (m : Reading). AddsInsn (numbered number (parts_of insn)) m new) there adds }
worded_told number word insn old mid new (Some cause) there breaks =
    subst (λ (m : Reading). Breaks (numbered number (parts_of insn)) m cause) there breaks

aimed_as : (number place : ℕ) (insn goes : Insn) → op_of goes ≡ op_of insn
    → operands_of goes ≡ aimed_operands place (operands_of insn)
    → cond_of goes ≡ cond_of insn → unit_of goes ≡ unit_of insn
    → numbered number (parts_of goes) ≡ aimed place (numbered number (parts_of insn))
aimed_as number place insn goes op operands cond unit i =
    record { parts = record { op = op i; operands = operands i; cond = cond i; unit = unit i }; line = number }

jump_as : (number : ℕ) (word : Option Name) (insn : Insn) (target : Name) (entry : Numbered) (old mid new : Reading)
    (told : Option RowsCause)
    → entry ≡ aimed (number_of target old) (numbered number (parts_of insn)) → mid ≡ with_target target number old
    → InsnTold entry mid new told → SaysTold number word (Jumps (parts_of insn) target) old new told
jump_as number word insn target entry old mid new None entries there adds =
    record {
      short = tt;
      adds = subst (λ (e : Numbered). AddsInsn e (with_target target number old) new) entries
          (subst (λ (m : Reading). AddsInsn entry m new) there adds);
    }
jump_as number word insn target entry old mid new (Some cause) entries there breaks =
    subst (λ (e : Numbered). Breaks e (with_target target number old) cause) entries
    (subst (λ (m : Reading). Breaks entry m cause) there breaks)

pub jumps_told : (number place : ℕ) (word : Option Name) (insn goes : Insn) (target : Name) (old mid new : Reading)
    (told : Option RowsCause)
    → place ≡ number_of target old → mid ≡ with_target target number old
    → op_of goes ≡ op_of insn → operands_of goes ≡ aimed_operands place (operands_of insn) → cond_of goes ≡ cond_of insn
    → unit_of goes ≡ unit_of insn
    → InsnTold (numbered number (parts_of goes)) mid new told
    → SaysTold number word (Jumps (parts_of insn) target) old new told
jumps_told number place word insn goes target old mid new told is there op operands cond unit tells =
    jump_as number word insn target (numbered number (parts_of goes)) old mid new told
    (aimed_as number place insn goes op operands cond unit
    ∙ ap (λ (k : ℕ). aimed k (numbered number (parts_of insn))) is) there tells

-- naming a label leaves the packet that is open
pub target_insns : (target : Name) (number : ℕ) (old mid : Reading) → mid ≡ with_target target number old
    → All (λ p. p.cycle ≡ 0) (insns_above old) → All (λ p. p.cycle ≡ 0) (insns_above mid)
target_insns target number old mid there zero = subst (λ (r : Reading). All (λ p. p.cycle ≡ 0) (insns_above r))
    (sym there) (by (is_target target old) refl)
  where
    by : (b : Bool) → is_target target old ≡ b → All (λ p. p.cycle ≡ 0) (insns_above (with_target target number old))
    by true e = rw e zero
    by false e = rw e zero

-- and so does what takes the word of one
pub named_insns : (word : Option Name) (number : ℕ) (old mid : Reading) → mid ≡ with_named word number old
    → All (λ p. p.cycle ≡ 0) (insns_above old) → All (λ p. p.cycle ≡ 0) (insns_above mid)
named_insns None number old mid there zero = subst (λ (r : Reading). All (λ p. p.cycle ≡ 0) (insns_above r)) (sym there)
    zero
named_insns (Some name) number old mid there zero =
    subst (λ (r : Reading). All (λ p. p.cycle ≡ 0) (insns_above r)) (sym there)
    (target_insns name number old (with_target name number old) refl zero)

-- ---- lines

pub said_told : (number : ℕ) (said : Said) (old mid new : Reading) (told : Option RowsCause) → hindrance said old ≡ None
    → mid ≡ at_line said.line old
    → SaysTold number said.word said.line.says mid new told
    → MatchOption told (AddsSaid number said old new) (RefusesSaid number said old)
said_told number said old mid new None free there adds =
    record { free = free; adds = subst (λ (m : Reading). AddsShort number said.word said.line.says m new) there adds }
said_told number said old mid new (Some cause) free there breaks =
    inr (free, subst (λ (m : Reading). SaysBreach number said.word said.line.says m cause) there breaks)

pub line_told : (isa : InstructionSet) (number : ℕ) (bytes : List ℕ) (said : Said) (old new : Reading)
    (told : Option RowsCause)
    → row_says isa bytes ≡ Ok said
    → MatchOption told (AddsSaid number said old new) (RefusesSaid number said old)
    → MatchOption told (AddsShortLine isa number bytes old new) (RefusesLine isa number bytes old)
line_told isa number bytes said old new None says adds =
    record {
      adds = record { said = said; says = says; free = adds.free; adds = adds.adds.adds };
      short =
          adds.adds.short;
    }
line_told isa number bytes said old new (Some cause) says refuses = inr
    (record { said = said; says = says; hindered = refuses })

pub fault_told : (isa : InstructionSet) (number : ℕ) (bytes : List ℕ) (fault : LineFault) (cause : RowsCause)
    (old : Reading)
    → row_says isa bytes ≡ Err fault → cause ≡ OfLine fault
    → RefusesLine isa number bytes old cause
fault_told isa number bytes fault cause old says is = inl (record { fault = fault; says = says; told = is })

-- ---- the same of what the steps answer

module _ (isa : InstructionSet) (old new : Reader) (result : Result (Option RowsCause) AllocError) where
  pub worded_ok : (mid : Reader) (number : ℕ) (word : Option Name) (insn : Insn)
      → reading_of mid ≡ with_named word number (reading_of old)
      → IfOk result (TellsOfInsn (numbered number (parts_of insn)) mid new)
      → IfOk result (TellsOfSays number word (Does (parts_of insn)) old new)
  worded_ok mid number word insn there tells = on result tells
    where
      on : (r : Result (Option RowsCause) AllocError) → IfOk r (TellsOfInsn (numbered number (parts_of insn)) mid new)
          → IfOk r (TellsOfSays number word (Does (parts_of insn)) old new)
      on (Ok told) is = worded_told number word insn (reading_of old) (reading_of mid) (reading_of new) told there is
      on (Err e) is = tt

  pub jumps_ok : (mid : Reader) (number place : ℕ) (word : Option Name) (insn goes : Insn) (target : Name)
      → place ≡ number_of target (reading_of old)
      → reading_of mid ≡ with_target target number (reading_of old)
      → op_of goes ≡ op_of insn → operands_of goes ≡ aimed_operands place (operands_of insn)
      → cond_of goes ≡ cond_of insn → unit_of goes ≡ unit_of insn
      → IfOk result (TellsOfInsn (numbered number (parts_of goes)) mid new)
      → IfOk result (TellsOfSays number word (Jumps (parts_of insn) target) old new)
  jumps_ok mid number place word insn goes target is there op operands cond unit tells = on result tells
    where
      on : (r : Result (Option RowsCause) AllocError) → IfOk r (TellsOfInsn (numbered number (parts_of goes)) mid new)
          → IfOk r (TellsOfSays number word (Jumps (parts_of insn) target) old new)
      on (Ok told) tells_now = jumps_told number place word insn goes target (reading_of old) (reading_of mid)
          (reading_of new) told is there op operands cond unit tells_now
      on (Err e) tells_now = tt

  pub said_ok : (mid : Reader) (number : ℕ) (said : Said) → hindrance said (reading_of old) ≡ None
      → reading_of mid ≡ at_line said.line (reading_of old)
      → IfOk result (TellsOfSays number said.word said.line.says mid new)
      → IfOk result (TellsOfSaid number said old new)
  said_ok mid number said free there tells = on result tells
    where
      on : (r : Result (Option RowsCause) AllocError) → IfOk r (TellsOfSays number said.word said.line.says mid new)
          → IfOk r (TellsOfSaid number said old new)
      on (Ok told) is = said_told number said (reading_of old) (reading_of mid) (reading_of new) told free there is
      on (Err e) is = tt

  pub line_ok : (number : ℕ) (bytes : List ℕ) (said : Said) → row_says isa bytes ≡ Ok said
      → IfOk result (TellsOfSaid number said old new)
      → IfOk result (TellsOfLine isa number bytes old new)
  line_ok number bytes said says tells = on result tells
    where
      on : (r : Result (Option RowsCause) AllocError) → IfOk r (TellsOfSaid number said old new)
          → IfOk r (TellsOfLine isa number bytes old new)
      on (Ok told) is = line_told isa number bytes said (reading_of old) (reading_of new) told says is
      on (Err e) is = tt

pub fault_refuses : (isa : InstructionSet) (number : ℕ) (bytes : List ℕ) (fault : LineFault) (cause : RowsCause)
    (old : Reading)
    → Fails fault (row_says isa bytes)
    → (fault ≡ Memory → ⊥) → cause ≡ OfLine fault → RefusesLine isa number bytes old cause
fault_refuses isa number bytes fault cause old (inl memory) known is = absurd (known memory)
fault_refuses isa number bytes fault cause old (inr says) known is = fault_told isa number bytes fault cause old says is

-- ---- what the steps ask

pub room_for : (name : Name) (reading : Reading) → is_beyond name reading ≡ false → is_target name reading ≡ false
    → length reading.targets < MOST_TARGETS
room_for name reading room none = grind (arith, nat_tests, none, room)

whole_unit : (isa : InstructionSet) (bytes : List ℕ) (word : Option Name) (line : Line) (said : Said)
    → line_says isa bytes ≡ Ok line
    → said_with word (Ok line) ≡ Ok said
    → HasUnit said.line.says
whole_unit isa bytes word line said is says =
    let same : line ≡ said.line = grind (arith, says) in
    subst (λ (l : Line). HasUnit l.says) same (line_whole isa bytes line is).unit

label_unit : (isa : InstructionSet) (bytes : List ℕ) (said : Said) (fault : LineFault) (label : Option Name)
    (r : Result Line LineFault)
    → line_says isa (zeroed bytes) ≡ r
    → of_label isa bytes fault label ≡ Ok said → HasUnit said.line.says
label_unit isa bytes said fault None r is says = absurd cc
label_unit isa bytes said fault (Some name) (Ok line) is says =
    whole_unit isa (zeroed bytes) (Some name) line said is (ap (said_with (Some name)) (sym is) ∙ says)
label_unit isa bytes said fault (Some name) (Err other) is says = absurd (grind (arith, is, says))

said_unit : (isa : InstructionSet) (bytes : List ℕ) (said : Said) (r : Result Line LineFault) → line_says isa bytes ≡ r
    → or_label isa bytes r ≡ Ok said → HasUnit said.line.says
said_unit isa bytes said (Ok line) is says = whole_unit isa bytes None line said is says
said_unit isa bytes said (Err fault) is says =
    label_unit isa bytes said fault (label_in fault bytes) (line_says isa (zeroed bytes))
    refl says

pub unit_there : (isa : InstructionSet) (bytes : List ℕ) (said : SaidRead) → row_says isa bytes ≡ Ok (said_read said)
    → HasUnit (said_of said.line.what)
unfolding row_says
unit_there isa bytes said says = said_unit isa bytes (said_read said) (line_says isa bytes) refl says

pub label_free : (said : Said) (reading : Reading) → hindrance said reading ≡ None
    → is_given said.line.label reading ≡ false
unfolding hindrance
label_free said reading free = grind (arith, nat_tests, free)

pub ready_there : (said : SaidRead) (old mid : Reading) → mid ≡ at_line (line_written said.line) old → IsReady old
    → IsReady mid
ready_there said old mid there ready = subst IsReady (sym there) (at_ready (line_written said.line) old ready)

room_there : (said : Said) (old mid : Reading) → mid ≡ at_line said.line old → hindrance said old ≡ None
    → is_one_more said.word said.line.says mid ≡ false
room_there said old mid there free =
    subst (λ (r : Reading). is_one_more said.word said.line.says r ≡ false) (sym there)
    (room_at said old (free_room said old free))

pub label_new : (said : SaidRead) (reading : Reading) → hindrance (said_read said) reading ≡ None
    → is_given said.line.label reading ≡ false
label_new said reading free = label_free (said_read said) reading free

pub room_new : (said : SaidRead) (old mid : Reading) → mid ≡ at_line (line_written said.line) old
    → hindrance (said_read said) old ≡ None
    → is_one_more said.word (said_of said.line.what) mid ≡ false
room_new said old mid there free = room_there (said_read said) old mid there free
