-- The line that spells an instruction reads as it.
use Rattle.c62_line.proofs.Common.{◌≡◌, ℕ, ◌≤◌, Bool, true, false, cond, List, [], ◌∷◌, ◌++◌, length, Option, Some}
use Rattle.c62_line.proofs.Common.{None, Ok, refl, ap, ◌∙◌}
use Rattle.c62_line.proofs.Common.{append_assoc, arith, codes, list_all, nat_tests, Side, A, B, Letter, L, Reg, Op, Add}
use Rattle.c62_line.proofs.Common.{Operands, Access, Insn}
use Rattle.c62_line.proofs.Common.{op_of, mnemonic_of, register_name, begins, is_blank, is_word_byte, tokens, Kind}
use Rattle.c62_line.proofs.Common.{Open, Close, Mark, Plain, Cross}
use Rattle.c62_line.proofs.Common.{Path, Word, is_dot, Says, is_bars, is_star}
use Rattle.c62_op.specs.declared.register.Cond.{Cond as Condition}
use Rattle.c62_op.specs.declared.register.Unit.{Unit as FunctionalUnit}
use Rattle.c62_insn.specs.Insn.{operands_of, cond_of}
use Rattle.c62_insn.specs.Spelling.{condition_spelling, unit_spelling, path_spelling, side_digit, unit_letter}
use Rattle.c62_insn.proofs.TakenLemmas.{faultless_in}
use Rattle.c62_op.proofs.TakenTests.{taken_in, taken_whole}
use Rattle.c62_token.specs.declared.kind.Kind.TheVariants.{Not, Name}
use Rattle.c62_line.specs.Mnemonic.{mnemonic_named}
use Rattle.c62_token.specs.Number.{decimal_of, magnitude_of, number_of, register_of, signed_of}
use Rattle.c62_token.specs.Number.{pointer_of, suffixed_of, signed_suffixed, suffixed_magnitude}
use Rattle.c62_token.specs.Kind.{kind_of, mark_of, single_mark}
use Rattle.c62_line.specs.Unit.{letter_of, mark_of as written_mark, side_numbered, unit_front, unit_split}
use Rattle.c62_line.specs.Line.{condition_front, condition_of, instruction_of, line_of, rest_says}
use Rattle.c62_line.specs.Laws.{LineReadsBack, says_on}
use Rattle.c62_token.proofs.SpelledTokens.{all_weaker, allowed_text}
use Rattle.c62_line.proofs.HeadLemmas.{head_plain, line_by_head, no_colon}
use Rattle.c62_token.proofs.SpelledTokens.{IsToken, IsPiece, any_end, blank_piece, both, is_text, led_token, mark_piece}
use Rattle.c62_token.proofs.SpelledTokens.{no_piece, tokens_are}
use Rattle.c62_token.proofs.SpelledTokens.{tokens_behind, word_end, word_piece, word_token}
use Rattle.c62_token.proofs.SpelledNumbers.{register_kind, register_piece}
use Rattle.c62_line.proofs.NameLemmas.{named}
use Rattle.c62_line.proofs.SpelledOperands.{behind, mark_on, unit_written_fits}
use Rattle.c62_op.specs.declared.set.InstructionSet.{InstructionSet}

-- ---- a line without a label

-- a word begins with neither a star nor a bar nor a dot
pub record BeginsPlainly (w : Word) : Type 0 where
  pub star : (rest : List ℕ) → begins is_star (w ++ rest) ≡ false
  pub bars : (words : List Word) → is_bars (w ∷ words) ≡ false
  pub dot : begins is_dot w ≡ false

pub word_plain : (w : Word) → 1 ≤ length w → list_all is_word_byte w ≡ true → BeginsPlainly w
word_plain [] some words = absurd (omega arith)
word_plain (b ∷ w) some words =
    record {
      star = λ rest. grind (arith, nat_tests);
      bars = λ rest. grind (arith, nat_tests);
      dot = grind
          (arith, nat_tests);
    }

blanks_piece : (blanks : List ℕ) → list_all is_blank blanks ≡ true → length blanks ≤ 100
    → IsPiece any_end blanks [] [] 100
blanks_piece blanks blank few =
    let plain = all_weaker is_blank is_text blanks (λ b here. grind (arith, nat_tests)) blank in
    record { splits = λ rest end. tokens_behind blanks rest blank; plain = plain; told = refl; short = few }

blanks_no_star : (blanks rest : List ℕ) → list_all is_blank blanks ≡ true → begins is_star rest ≡ false
    → begins is_star (blanks ++ rest) ≡ false
blanks_no_star [] rest blank other = other
blanks_no_star (b ∷ blanks) rest blank other = grind (arith, nat_tests)

-- a line of blanks and a piece says what the tokens of the piece do
pub piece_says : (isa : InstructionSet)
    (blanks : List ℕ) {text : List ℕ} {words : List Word} {kinds : List Kind} {most : ℕ} (says : Says)
    → IsPiece word_end text words kinds most → most ≤ 155 → list_all is_blank blanks ≡ true → length blanks ≤ 100
    → begins is_star text ≡ false
    → is_bars words ≡ false → rest_says isa words ≡ Ok says → line_of isa (blanks ++ text) ≡ Ok (None, says)
piece_says isa blanks {text = text} {words = words} says piece few blank blanks_few star bars read =
    let line = both (blanks_piece blanks blank blanks_few) piece (λ rest end. tt) in
    let words_are = tokens_are line in
    line_by_head isa (blanks ++ text) None (tokens (blanks ++ text)) says
    (head_plain (blanks ++ text) (allowed_text (blanks ++ text) line.plain) (omega (arith, line.short))
    (blanks_no_star blanks text blank star)
    (ap is_bars words_are ∙ bars) (no_colon (blanks ++ text) line.plain)) (ap (rest_says isa) words_are ∙ read)

-- ---- mnemonics

record IsMnemonic (w : Word) : Type 0 where
  plain : BeginsPlainly w
  kind : kind_of w ≡ Name
  token : IsToken w
  few : length w ≤ 7

mnemonic_is : (op : Op) → IsMnemonic (mnemonic_of op)
unfolding kind_of mark_of single_mark register_of number_of signed_of magnitude_of decimal_of
    pointer_of suffixed_of signed_suffixed suffixed_magnitude
mnemonic_is Add = record {
  plain = word_plain _ (omega arith) refl;
  kind = refl;
  token = word_token _ (omega arith) refl;
  few = omega
      arith;
}
mnemonic_is _ = record {
  plain = word_plain _ (omega arith) refl;
  kind = refl;
  token = word_token _ (omega arith) refl;
  few = omega
      arith;
}

-- ---- units

abbrev mark_text : Mark → List ℕ
mark_text Plain = []
mark_text Cross = codes "X"
mark_text (Path path) = codes "T" ++ side_digit path

path_is : (side : Side) (operands : Operands) → path_spelling side operands ≡ mark_text (mark_on side operands)
path_is side (Access reg base form offset) = refl
path_is side operands = grind arith

-- a unit's word reads as it, and is a piece
record IsUnit (letter : Letter) (side : Side) (mark : Mark) (w : List ℕ) : Type 0 where
  read : (words : List Word) → unit_front (w ∷ words)
      ≡ Some (Some (record { unit = record { letter = letter; side = side }; mark = mark }), words)
  piece : IsPiece word_end w (w ∷ []) (kind_of w ∷ []) 5

unit_is : (letter : Letter) (side : Side) (mark : Mark)
    → IsUnit letter side mark (codes "." ++ unit_letter letter ++ side_digit side ++ mark_text mark)
unfolding unit_front unit_split letter_of side_numbered written_mark
unit_is L A (Path A) = record
    { read = λ words. refl; piece = word_piece _ _ 5 (led_token 46 _ _ refl refl refl refl) refl (omega arith) }
unit_is _ A (Path A) = record
    { read = λ words. refl; piece = word_piece _ _ 5 (led_token 46 _ _ refl refl refl refl) refl (omega arith) }
unit_is _ B (Path A) = record
    { read = λ words. refl; piece = word_piece _ _ 5 (led_token 46 _ _ refl refl refl refl) refl (omega arith) }
unit_is _ _ _ = record
    { read = λ words. refl; piece = word_piece _ _ 5 (led_token 46 _ _ refl refl refl refl) refl (omega arith) }

spelled_unit : (operands : Operands) (unit : FunctionalUnit)
    → IsUnit unit.letter unit.side (mark_on unit.side operands) (unit_spelling operands unit)
spelled_unit operands unit = rw (path_is unit.side operands)
    (unit_is unit.letter unit.side (mark_on unit.side operands))

-- ---- the condition

abbrev condition_words : Option Condition → List Word
condition_words None = []
condition_words (Some c) = (codes "[" ∷ []) ++ cond c.negated (codes "!" ∷ []) [] ++ (register_name c.reg ∷ []) ++
    (codes "]" ∷ [])

bang_piece : (negated : Bool)
    → IsPiece any_end (cond negated (codes "!") []) (cond negated (codes "!" ∷ []) []) (cond negated (Not ∷ []) [])
    1
unfolding kind_of mark_of single_mark
bang_piece true = mark_piece 33 Not refl refl refl
bang_piece false = no_piece any_end 1

condition_piece : (cond : Option Condition) → (kinds : List Kind)
    × IsPiece any_end (condition_spelling cond) (condition_words cond) kinds 15
unfolding kind_of mark_of single_mark
condition_piece None = (_, no_piece any_end 15)
condition_piece (Some c) =
    let bracket = both (mark_piece 91 Open refl refl refl) (bang_piece c.negated) (λ rest end. tt) in
    let end = both (mark_piece 93 Close refl refl refl) blank_piece (λ rest end. tt) in
    (_, both (both bracket (register_piece c.reg) (λ rest end. tt)) end (λ rest end. refl))

front_by : (reg : Reg) (negated : Bool) (words : List Word)
    → condition_front (condition_words (Some (record { reg = reg; negated = negated })) ++ words)
    ≡ Some (Some (record { reg = reg; negated = negated }), words)
unfolding condition_front condition_of kind_of mark_of single_mark
front_by reg true words = rw (register_kind reg) refl
front_by reg false words = rw (register_kind reg) refl

front_back : (cond : Option Condition) (op : Op) (words : List Word)
    → condition_front (condition_words cond ++ (mnemonic_of op ∷ words)) ≡ Some (cond, mnemonic_of op ∷ words)
unfolding condition_front condition_of
front_back None op words = rw (mnemonic_is op).kind refl
front_back (Some c) op words = front_by c.reg c.negated (mnemonic_of op ∷ words)

-- ---- the line

-- neither a dot nor bars nor a star stands first
plain_first : (isa : InstructionSet) (cond : Option Condition) (op : Op) (words : List Word) (rest : List ℕ)
    → (begins is_star (condition_spelling cond ++ (mnemonic_of op ++ rest)) ≡ false)
    × (is_bars (condition_words cond ++ (mnemonic_of op ∷ words)) ≡ false)
    × (rest_says isa (condition_words cond ++ (mnemonic_of op ∷ words)) ≡ instruction_of isa
    (condition_words cond ++ (mnemonic_of op ∷ words)))
unfolding rest_says
plain_first isa None op words rest = let plain = (mnemonic_is op).plain in
    (plain.star rest, plain.bars words, rw plain.dot refl)
plain_first isa (Some c) op words rest = (refl, refl, refl)

regrouped : (c m u o : List ℕ)
    → c ++ m ++ codes " " ++ u ++ codes " " ++ o ≡ c ++ (m ++ (codes " " ++ (u ++ (codes " " ++ o))))
regrouped c m u o = simp append_assoc refl

-- the line that spells an instruction reads as it
pub spelled_back : (isa : InstructionSet) (name : ℕ → List ℕ) (insn : Insn) (unit : FunctionalUnit) (blanks : List ℕ)
    → LineReadsBack isa name insn unit blanks
unfolding instruction_of mnemonic_named
spelled_back isa name insn unit blanks taking names blank few =
    let op : Op = op_of insn in
    let operands : Operands = operands_of insn in
    let cond : Option Condition = cond_of insn in
    let here = behind isa name op operands cond unit taking names (faultless_in isa insn unit taking) in
    let words : List Word = unit_spelling operands unit ∷ here.words in
    let plain = plain_first isa cond op words _ in
    let unit_on = both (spelled_unit operands unit).piece (both blank_piece here.piece (λ rest end. tt))
    (λ rest end. refl) in
    let mnemonic = word_piece (mnemonic_of op) Name 7 (mnemonic_is op).token (mnemonic_is op).kind (mnemonic_is op).few
    in
    let line = both (condition_piece cond).1
    (both mnemonic (both blank_piece unit_on (λ rest end. tt)) (λ rest end. refl)) (λ rest end. tt) in
    let fits = unit_written_fits op operands unit (taken_whole isa op operands unit taking) in
    rw regrouped (piece_says isa blanks (says_on name insn unit) line (omega arith) blank few plain.0 plain.1
    (plain.2 ∙ rw (
      front_back cond op words,
      named op,
      taken_in isa op operands unit taking,
      (spelled_unit operands unit).read here.words,
      fits,
    ) here.read))
