-- A line is read in one way, or refused in one way.
use Rattle.std.proofs.Common.{arith, ◌≡◌, ◌⊎◌, inl, inr, ℕ, List, ◌∷◌, Option, Some, None, Ok, Err, refl, sym, ap, ◌∙◌}
use Rattle.std.proofs.Common.{subst}
use Rattle.std.proofs.lemmas.Bool.{cases_lt, false≢true}
use Rattle.c62_insn.specs.declared.insn.Insn.{Insn}
use Rattle.c62_insn.proofs.SameLemmas.{same_parts}
use Rattle.c62_rules.specs.declared.resource.CycleRule.{CycleRule}
use Rattle.c62_rules.specs.PacketRules.{Issues}
use Rattle.c62_rules.specs.Capacity.{AreEnough, IsFirstBroken, rank_of}
use Rattle.c62_rules.proofs.Places.{same-rank}
use Rattle.c62_line.specs.Line.{Says, Nothing, Pause, Does, Jumps, parts_of}
use Rattle.c62_read.specs.Program.{Name, Numbered, aimed}
use Rattle.c62_packet.specs.declared.placed.Placed.{Placed}
use Rattle.c62_packet.specs.Packed.{issued}
use Rattle.c62_adopt_line.specs.declared.fault.LineFault.{LineFault}
use Rattle.c62_rows.specs.declared.fault.RowsCause.{RowsCause}
use Rattle.c62_rows.specs.declared.fault.RowsCause.TheVariants.{Line as OfLine, TooManyTargets, Rule, TwoBranches}
use Rattle.c62_rows.specs.Rows.{with_insn, MayJoin, IsBreach}
use Rattle.c62_rows.specs.Word.{Said, row_says}
use Rattle.c62_rows.specs.Reading.{Reading, insns_above, on_current, with_named, with_target, number_of, numbered}
use Rattle.c62_rows.specs.Reading.{hindrance, at_line}
use Rattle.c62_rows.specs.Reading.{IsPlaced, AddsInsn, Breaks, AddsSays, SaysBreach, AddsLine, RefusesLine}
use Rattle.c62_op.specs.declared.set.InstructionSet.{InstructionSet}

-- ---- an instruction

pub same_insn : (a b : Insn) → parts_of a ≡ parts_of b → a ≡ b
same_insn a b e = grind (arith, same_parts a b)

same_placed : (entry : Numbered) (p q : Placed) → IsPlaced entry p → IsPlaced entry q → p ≡ q
same_placed entry p q one other =
    let insn : p.insn ≡ q.insn = same_insn p.insn q.insn (one.parts ∙ sym other.parts) in
    grind (arith, insn, one.line, other.line, one.cycle, other.cycle, one.unit, other.unit)

pub one_insn : (entry : Numbered) (old new other : Reading) → AddsInsn entry old new → AddsInsn entry old other
    → new ≡ other
one_insn entry old new other a b =
    a.adds ∙ ap (λ (p : Placed). on_current (with_insn p) old) (same_placed entry a.placed b.placed a.is b.is)
    ∙ sym b.adds

-- ---- what stands against one

first_rule : (rule next : CycleRule) (issues : Issues) → IsFirstBroken rule 0 issues → IsFirstBroken next 0 issues
    → rank_of rule ≡ rank_of next
first_rule rule next issues one two = elim (cases_lt (rank_of rule) (rank_of next)) [
  | inl lower ↦ absurd (omega (arith, two.first rule lower one.broken.resource one.broken.of_rule, one.broken.over))
  | inr higher ↦ elim (cases_lt (rank_of next) (rank_of rule)) [
    | inl lower ↦ absurd (omega (arith, one.first next lower two.broken.resource two.broken.of_rule, two.broken.over))
    | inr least ↦ (let e : rank_of rule ≡ rank_of next = omega (arith, higher, least) in e)
  ]
]

broken_not_enough : (rule : CycleRule) (issues : Issues) → IsFirstBroken rule 0 issues → AreEnough 0 issues → ⊥
broken_not_enough rule issues broken enough = absurd (omega (arith, broken.broken.over, enough broken.broken.resource))

may_not_break : (above : List Placed) (p : Placed) (cause : RowsCause) → MayJoin above p → IsBreach above p cause → ⊥
may_not_break above p (Rule rule) joins breach = broken_not_enough rule (issued (p ∷ above)) breach joins.enough
may_not_break above p TwoBranches joins breach = false≢true (sym joins.branches ∙ breach.1)
may_not_break above p (OfLine fault) joins breach = breach
may_not_break above p TooManyTargets joins breach = breach

one_breach : (above : List Placed) (p : Placed) (cause other : RowsCause) → IsBreach above p cause
    → IsBreach above p other → cause ≡ other
one_breach above p (Rule rule) (Rule next) a b = ap Rule
    (same-rank rule next (first_rule rule next (issued (p ∷ above)) a b))
one_breach above p (Rule rule) TwoBranches a b = absurd (broken_not_enough rule (issued (p ∷ above)) a b.0)
one_breach above p TwoBranches (Rule next) a b = absurd (broken_not_enough next (issued (p ∷ above)) b a.0)
one_breach above p TwoBranches TwoBranches a b = refl
one_breach above p (OfLine fault) other a b = absurd a
one_breach above p TooManyTargets other a b = absurd a
one_breach above p (Rule rule) (OfLine fault) a b = absurd b
one_breach above p (Rule rule) TooManyTargets a b = absurd b
one_breach above p TwoBranches (OfLine fault) a b = absurd b
one_breach above p TwoBranches TooManyTargets a b = absurd b

insn_not_broken : (entry : Numbered) (old new : Reading) (cause : RowsCause) → AddsInsn entry old new
    → Breaks entry old cause → ⊥
insn_not_broken entry old new cause adds breaks =
    may_not_break (insns_above old) adds.placed cause adds.joins
    (subst (λ (p : Placed). IsBreach (insns_above old) p cause)
    (same_placed entry breaks.placed adds.placed breaks.is adds.is) breaks.breach)

one_break : (entry : Numbered) (old : Reading) (cause other : RowsCause) → Breaks entry old cause
    → Breaks entry old other → cause ≡ other
one_break entry old cause other a b =
    one_breach (insns_above old) b.placed cause other
    (subst (λ (p : Placed). IsBreach (insns_above old) p cause) (same_placed entry a.placed b.placed a.is b.is)
    a.breach) b.breach

-- ---- what is said

one_says : (number : ℕ) (word : Option Name) (says : Says) (old new other : Reading) → AddsSays number word says old new
    → AddsSays number word says old other → new ≡ other
one_says number word Nothing old new other a b = a ∙ sym b
one_says number word (Pause n) old new other a b = a ∙ sym b
one_says number word (Does parts) old new other a b = one_insn (numbered number parts) (with_named word number old) new
    other a b
one_says number word (Jumps parts target) old new other a b =
    one_insn (aimed (number_of target old) (numbered number parts)) (with_target target number old) new other a b

says_not_broken : (number : ℕ) (word : Option Name) (says : Says) (old new : Reading) (cause : RowsCause)
    → AddsSays number word says old new
    → SaysBreach number word says old cause → ⊥
says_not_broken number word Nothing old new cause adds breach = breach
says_not_broken number word (Pause n) old new cause adds breach = breach
says_not_broken number word (Does parts) old new cause adds breach =
    insn_not_broken (numbered number parts) (with_named word number old) new cause adds breach
says_not_broken number word (Jumps parts target) old new cause adds breach =
    insn_not_broken (aimed (number_of target old) (numbered number parts)) (with_target target number old) new cause
    adds breach

one_says_breach : (number : ℕ) (word : Option Name) (says : Says) (old : Reading) (cause other : RowsCause)
    → SaysBreach number word says old cause
    → SaysBreach number word says old other → cause ≡ other
one_says_breach number word Nothing old cause other a b = absurd a
one_says_breach number word (Pause n) old cause other a b = absurd a
one_says_breach number word (Does parts) old cause other a b = one_break (numbered number parts)
    (with_named word number old) cause other a b
one_says_breach number word (Jumps parts target) old cause other a b =
    one_break (aimed (number_of target old) (numbered number parts)) (with_target target number old) cause other a b

-- ---- lines

same_said : (isa : InstructionSet) (bytes : List ℕ) (said other : Said) → row_says isa bytes ≡ Ok said
    → row_says isa bytes ≡ Ok other → said ≡ other
same_said isa bytes said other a b = grind (arith, a, b)

not_both : (isa : InstructionSet) (bytes : List ℕ) (said : Said) (fault : LineFault) → row_says isa bytes ≡ Ok said
    → row_says isa bytes ≡ Err fault
    → ⊥
not_both isa bytes said fault a b = absurd (grind (arith, a, b))

pub one_line : (isa : InstructionSet) (number : ℕ) (bytes : List ℕ) (old new other : Reading)
    → AddsLine isa number bytes old new
    → AddsLine isa number bytes old other → new ≡ other
one_line isa number bytes old new other a b =
    let same : b.said ≡ a.said = same_said isa bytes b.said a.said b.says a.says in
    let adds : AddsSays number a.said.word a.said.line.says (at_line a.said.line old) other =
    subst (λ (s : Said). AddsSays number s.word s.line.says (at_line s.line old) other) same b.adds in
    one_says number a.said.word a.said.line.says (at_line a.said.line old) new other a.adds adds

abbrev Hinders : ℕ → Said → Reading → RowsCause → Type 0
Hinders number said old cause =
    (hindrance said old ≡ Some cause)
    ⊎ ((hindrance said old ≡ None) × SaysBreach number said.word said.line.says (at_line said.line old) cause)

said_not_hindered : (number : ℕ) (said : Said) (old new : Reading) (cause : RowsCause) → hindrance said old ≡ None
    → AddsSays number said.word said.line.says (at_line said.line old) new → Hinders number said old cause → ⊥
said_not_hindered number said old new cause free adds (inl hindered) = absurd (grind (arith, free, hindered))
said_not_hindered number said old new cause free adds (inr breach) =
    says_not_broken number said.word said.line.says (at_line said.line old) new cause adds breach.1

pub line_not_refused : (isa : InstructionSet) (number : ℕ) (bytes : List ℕ) (old new : Reading) (cause : RowsCause)
    → AddsLine isa number bytes old new
    → RefusesLine isa number bytes old cause → ⊥
line_not_refused isa number bytes old new cause adds (inl faulty) = not_both isa bytes adds.said faulty.fault adds.says
    faulty.says
line_not_refused isa number bytes old new cause adds (inr hindered) =
    let same : hindered.said ≡ adds.said = same_said isa bytes hindered.said adds.said hindered.says adds.says in
    said_not_hindered number adds.said old new cause adds.free adds.adds
    (subst (λ (s : Said). Hinders number s old cause) same hindered.hindered)

one_hindrance : (number : ℕ) (said : Said) (old : Reading) (cause other : RowsCause) → Hinders number said old cause
    → Hinders number said old other
    → cause ≡ other
one_hindrance number said old cause other (inl a) (inl b) = grind (arith, a, b)
one_hindrance number said old cause other (inl a) (inr b) = absurd (grind (arith, a, b.0))
one_hindrance number said old cause other (inr a) (inl b) = absurd (grind (arith, a.0, b))
one_hindrance number said old cause other (inr a) (inr b) =
    one_says_breach number said.word said.line.says (at_line said.line old) cause other a.1 b.1

pub one_line_refusal : (isa : InstructionSet) (number : ℕ) (bytes : List ℕ) (old : Reading) (cause other : RowsCause)
    → RefusesLine isa number bytes old cause
    → RefusesLine isa number bytes old other → cause ≡ other
one_line_refusal isa number bytes old cause other (inl a) (inl b) =
    let same : a.fault ≡ b.fault = grind (arith, a.says, b.says) in
    a.told ∙ ap OfLine same ∙ sym b.told
one_line_refusal isa number bytes old cause other (inl a) (inr b) =
    absurd (not_both isa bytes b.said a.fault b.says a.says)
one_line_refusal isa number bytes old cause other (inr a) (inl b) =
    absurd (not_both isa bytes a.said b.fault a.says b.says)
one_line_refusal isa number bytes old cause other (inr a) (inr b) =
    let same : b.said ≡ a.said = same_said isa bytes b.said a.said b.says a.says in
    one_hindrance number a.said old cause other a.hindered
    (subst (λ (s : Said). Hinders number s old other) same b.hindered)
