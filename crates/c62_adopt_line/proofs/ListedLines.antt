-- What is read of the lines of a listing.
use Rattle.c62_adopt_line.proofs.Common.{◌≡◌, ℕ, ◌≤◌, ◌<◌, true, false, Bool, cond, not, eqb, ◌&&◌, List, [], ◌∷◌, ◌++◌}
use Rattle.c62_adopt_line.proofs.Common.{Option, Some, None, refl, sym, ap, ◌∙◌, arith, nat_tests, Word, tokens, begins}
use Rattle.c62_adopt_line.proofs.Common.{is_blank, grow, length, codes, subst, append_assoc}
use Rattle.std.proofs.Common.{Ok, Err, length-append, ltb, Result}
use Rattle.std.specs.Prelude.{is_some, replicate}
use Rattle.std.specs.Fmt.{decimal, digits}
use Rattle.std.specs.List.{list_all, list_any}
use Rattle.std.proofs.lemmas.Bool.{agree_below_at, and_parts, not-true}
use Rattle.std.proofs.lemmas.List.Folds.{list_any-append}
use Rattle.c62_op.specs.declared.register.Letter.{Letter}
use Rattle.c62_op.specs.declared.register.Letter.TheVariants.{L}
use Rattle.c62_op.specs.declared.register.Unit.{Unit as FunctionalUnit}
use Rattle.c62_op.specs.declared.operands.Operands.{Operands}
use Rattle.c62_op.specs.declared.operands.Operands.TheVariants.{Three, Block}
use Rattle.c62_op.specs.Takes.{takes, takes_in}
use Rattle.c62_op.proofs.TakenTests.{taken_whole}
use Rattle.c62_insn.specs.declared.insn.Insn.{Insn}
use Rattle.c62_insn.specs.Insn.{op_of, operands_of}
use Rattle.c62_insn.specs.Spelling.{unit_letter, side_digit, path_spelling, operands_spelling, spelling}
use Rattle.c62_token.proofs.SpelledTokens.{all_weaker, tokens_behind}
use Rattle.c62_adopt_line.specs.Laws.{EmptyReads, HasUnit, InstructionReads, IsPlain, LabelReads, PauseReads}
use Rattle.c62_adopt_line.specs.Laws.{has_one_dot, has_return}
use Rattle.c62_adopt_line.proofs.SerialLines.{line_steps, no_bars, reads_as_serial, undotted_none}
use Rattle.c62_adopt_line.specs.Plain.{undotted}
use Rattle.c62_adopt_line.specs.Line.{behind_colon, line_says, statement_says}
use Rattle.c62_token.specs.Token.{is_allowed}
use Rattle.c62_line.specs.declared.fault.Cause.{Cause}
use Rattle.c62_line.specs.declared.fault.Cause.TheVariants.{NotAscii, LineTooLong, ParallelBar}
use Rattle.c62_line.specs.Line.{Parts, Nothing, Pause, head_of, is_bars, is_star, label_field, label_front, line_of}
use Rattle.c62_line.specs.Line.{rest_says, with_head, without_colon}
use Rattle.c62_line.specs.Laws.{NamesTarget, parts_on, says_on, says_with}
use Rattle.c62_line.proofs.SpelledLine.{spelled_back}
use Rattle.c62_line.proofs.WrittenLines.{label_back, pause_back}
use Rattle.c62_line.proofs.SpelledOperands.{label_parts}
use Rattle.c62_line.specs.declared.limits.TheConstants.{MOST_LINE}
use Rattle.c62_adopt_line.proofs.PlainOperands.{is_plain, ArePlain, are_plain, joined, word_plain}
use Rattle.c62_adopt_line.proofs.PlainInsns.{front_of, back_of, spelled_parts, front_plain, back_plain, no_dot}
use Rattle.c62_adopt_line.proofs.PlainInsns.{one_between, lacks, lacks_between}
use Rattle.c62_adopt_line.proofs.FrontWords.{return_behind, dotted_no_return, insn_front}
use Rattle.c62_op.specs.declared.set.InstructionSet.{InstructionSet}

-- ---- instructions

letter_joins : (letter : Letter) (rest : List ℕ)
    → tokens (46 ∷ (unit_letter letter ++ rest)) ≡ grow 46 (tokens (unit_letter letter ++ rest))
letter_joins L rest = refl
letter_joins _ rest = refl

behind_letter : (l s p o : List ℕ) → l ++ s ++ p ++ codes " " ++ o ≡ l ++ (s ++ p ++ codes " " ++ o)
behind_letter l s p o = simp append_assoc refl

unit_no_return : (name : ℕ → Word) (insn : Insn) (unit : FunctionalUnit)
    → has_return (tokens (46 ∷ back_of name insn unit)) ≡ false
unit_no_return name insn unit =
    let rest = side_digit unit.side ++ path_spelling unit.side (operands_of insn) ++ codes " " ++ operands_spelling name
    (op_of insn) unit.letter (operands_of insn) in
    ap (λ (text : List ℕ). has_return (tokens (46 ∷ text)))
    (behind_letter (unit_letter unit.letter) (side_digit unit.side) (path_spelling unit.side (operands_of insn))
    (operands_spelling name (op_of insn) unit.letter (operands_of insn)))
    ∙ ap has_return (letter_joins unit.letter rest) ∙ dotted_no_return (tokens (unit_letter unit.letter ++ rest))

no_return_in : (blanks : List ℕ) (name : ℕ → Word) (insn : Insn) (unit : FunctionalUnit)
    → list_all is_blank blanks ≡ true
    → has_return (tokens (blanks ++ (front_of insn ++ 46 ∷ back_of name insn unit))) ≡ false
no_return_in blanks name insn unit blank =
    let front = insn_front insn in
    let back = back_of name insn unit in
    ap has_return (tokens_behind blanks (front_of insn ++ 46 ∷ back) blank ∙ front.splits (46 ∷ back))
    ∙ return_behind front.words (tokens (46 ∷ back)) front.none ∙ unit_no_return name insn unit

blanks_plain : (blanks : List ℕ) → list_all is_blank blanks ≡ true → ArePlain blanks
blanks_plain blanks blank = are_plain blanks
    (all_weaker is_blank is_plain blanks (λ b here. grind (arith, nat_tests)) blank)

spelled_plain : (blanks : List ℕ) (name : ℕ → Word) (insn : Insn) (unit : FunctionalUnit)
    → list_all is_blank blanks ≡ true
    → takes (op_of insn) (operands_of insn) unit ≡ true → NamesTarget name (operands_of insn)
    → IsPlain (blanks ++ spelling name insn unit)
spelled_plain blanks name insn unit blank taking names =
    let back = back_of name insn unit in
    let front_is = joined (blanks_plain blanks blank) (front_plain insn) in
    let back_is = back_plain name insn unit taking names in
    let whole : blanks ++ spelling name insn unit ≡ (blanks ++ front_of insn) ++ 46 ∷ back =
    ap (λ (text : List ℕ). blanks ++ text) (spelled_parts name insn unit)
    ∙ sym (append_assoc blanks (front_of insn) (46 ∷ back)) in
    subst IsPlain (sym whole) (record {
      no_colon = lacks_between 58 refl refl (blanks ++ front_of insn) back front_is back_is;
      one_dot = one_between (blanks ++ front_of insn) back front_is.all back_is.all;
      no_round = lacks_between 40 refl refl (blanks ++ front_of insn) back front_is back_is;
      no_return = ap (λ (text : List ℕ). has_return (tokens text)) (append_assoc blanks (front_of insn) (46 ∷ back))
          ∙ no_return_in blanks name insn unit blank;
    })

says_unit : (name : ℕ → Word) (parts : Parts) (operands : Operands) → is_some parts.unit ≡ true
    → HasUnit (says_with name parts operands)
says_unit name parts (Block number) unit = unit
says_unit name parts (Three a b d) unit = unit
says_unit name parts _ unit = unit

says_something : (name : ℕ → Word) (parts : Parts) (operands : Operands) → says_with name parts operands ≡ Nothing → ⊥
says_something name parts (Block number) is = absurd cc
says_something name parts (Three a b d) is = absurd cc
says_something name parts _ is = absurd cc

hundred : List ℕ
hundred = replicate 100 32

spelled_short : (isa : InstructionSet) (name : ℕ → Word) (insn : Insn) (unit : FunctionalUnit)
    → takes_in isa (op_of insn) (operands_of insn) unit ≡ true
    → NamesTarget name (operands_of insn) → length (spelling name insn unit) ≤ 155
unfolding hundred
spelled_short isa name insn unit taking names =
    let line = hundred ++ spelling name insn unit in
    let whole = taken_whole isa (op_of insn) (operands_of insn) unit taking in
    let plain = spelled_plain hundred name insn unit refl whole names in
    let read = spelled_back isa name insn unit hundred taking names refl (omega arith) in
    let short = (line_steps isa line (says_on name insn unit) plain.no_colon read).is_short in
    let few : length line ≤ MOST_LINE = grind (arith, nat_tests) in
    omega (arith, length-append hundred (spelling name insn unit))

pub instruction_reads : (isa : InstructionSet) (name : ℕ → Word) (insn : Insn) (unit : FunctionalUnit)
    → InstructionReads isa name insn unit
instruction_reads isa name insn unit taking names =
    let says = says_on name insn unit in
    let has_unit = says_unit name (parts_on insn unit) (operands_of insn) refl in
    let some = says_something name (parts_on insn unit) (operands_of insn) in
    let short = spelled_short isa name insn unit taking names in
    let first = codes "   " ++ spelling name insn unit in
    let other = codes " " ++ spelling name insn unit in
    let whole = taken_whole isa (op_of insn) (operands_of insn) unit taking in
    let first_plain = spelled_plain (codes "   ") name insn unit refl whole names in
    let other_plain = spelled_plain (codes " ") name insn unit refl whole names in
    let first_read = spelled_back isa name insn unit (codes "   ") taking names refl (omega arith) in
    let other_read = spelled_back isa name insn unit (codes " ") taking names refl (omega arith) in (
      (reads_as_serial isa first first_plain).alone says first_read has_unit,
      (reads_as_serial isa other other_plain).beside says other_read has_unit some (omega arith),
    )

-- ---- pauses

abbrev is_plain_line : List ℕ → Bool
is_plain_line line =
    not (list_any (λ b. eqb b 58) line) && has_one_dot line && not (list_any (λ b. eqb b 40) line) && not
    (has_return (tokens line))

plain_line : (line : List ℕ) → is_plain_line line ≡ true → IsPlain line
plain_line line is =
    let one = and_parts _ _ is in
    let two = and_parts _ _ one.0 in
    let three = and_parts _ _ two.0 in
    record {
      no_colon = not-true _ three.0;
      one_dot = three.1;
      no_round = not-true _ two.1;
      no_return = not-true _ one.1;
    }

pause_plain : (n : ℕ) → n < 10 → is_plain_line (codes "   NOP " ++ decimal n) ≡ true
unfolding digits
pause_plain n small = agree_below_at (λ (k : ℕ). is_plain_line (codes "   NOP " ++ decimal k)) (λ (k : ℕ). true) 10 n
    refl small

pub pause_reads : (isa : InstructionSet) (n : ℕ) → PauseReads isa n
pause_reads isa n some few =
    let line = codes "   NOP " ++ decimal n in
    let plain = plain_line line (pause_plain n (omega arith)) in
    (reads_as_serial isa line plain).alone (Pause n) (pause_back isa n (codes "   ") some few refl (omega arith)) tt

-- ---- labels

-- what stands against no line that has a label
record HasHead (allowed long star bars : Bool) : Type 0 where
  all_allowed : allowed ≡ true
  is_short : long ≡ false
  no_comment : star ≡ false
  no_bar : bars ≡ false

head_by : (isa : InstructionSet) (allowed long star bars : Bool) (rest : Result (Option Word × List Word) Cause)
    (label : Word)
    → with_head isa (cond (not allowed) (Err NotAscii)
    (cond long (Err LineTooLong) (cond star (Ok (None, [])) (cond bars (Err ParallelBar) rest))))
    ≡ Ok (Some label, Nothing) → HasHead allowed long star bars
unfolding rest_says
head_by isa false long star bars rest label is = absurd cc
head_by isa true true star bars rest label is = absurd cc
head_by isa true false true bars rest label is = absurd (grind arith)
head_by isa true false false true rest label is = absurd cc
head_by isa true false false false rest label is = record
    { all_allowed = refl; is_short = refl; no_comment = refl; no_bar = refl }

label_head : (isa : InstructionSet) (line : List ℕ) (label : Word) → line_of isa line ≡ Ok (Some label, Nothing)
    → HasHead (list_all is_allowed line) (ltb MOST_LINE (length line)) (begins is_star line) (is_bars (tokens line))
unfolding line_of head_of
label_head isa line label is =
    head_by isa (list_all is_allowed line) (ltb MOST_LINE (length line)) (begins is_star line) (is_bars (tokens line))
    (without_colon (label_front (tokens line))) label is

nothing_behind : (text : List ℕ) → list_any (λ b. eqb b 58) text ≡ false → behind_colon (text ++ codes ":") ≡ []
nothing_behind [] none = refl
nothing_behind (b ∷ text) none =
    let other : eqb b 58 ≡ false = grind (arith, nat_tests) in rw other (nothing_behind text (grind (arith, nat_tests)))

nothing_said : (isa : InstructionSet) → statement_says isa false [] ≡ Ok Nothing
unfolding statement_says
nothing_said isa = refl

pub label_reads : (isa : InstructionSet) (label : Word) → LabelReads isa label
unfolding line_says
label_reads isa label is =
    let line = label ++ codes ":" in
    let back = label_back isa label is in
    let head = label_head isa line label back.0 in
    let plain = word_plain label (label_parts label is).1 in
    let dots : undotted true line ≡ line =
    undotted_none line (list_any-append (λ b. eqb b 46) label (codes ":") ∙ rw (no_dot label plain.all) refl) in
    rw (
      head.all_allowed,
      head.is_short,
      head.no_comment,
      no_bars line head.no_bar,
      dots,
      back.1,
      nothing_behind label (lacks 58 refl label plain.all),
      nothing_said isa,
    ) refl

pub empty_reads : (isa : InstructionSet) → EmptyReads isa
unfolding line_says statement_says label_field label_front
empty_reads isa = refl
