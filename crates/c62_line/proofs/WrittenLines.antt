-- Lines of a pause and of a label read back.
use Rattle.std.specs.Prelude.{map}
use Rattle.c62_token.specs.Kind.{read_in}
use Rattle.c62_line.proofs.Common.{kinds_in, Number, ◌≡◌, ℕ, ◌+◌, ◌≤◌, true, eqb, List, [], ◌∷◌, ◌++◌, length, Some}
use Rattle.c62_line.proofs.Common.{None, Ok, refl, ap, ◌∙◌, arith}
use Rattle.c62_line.proofs.Common.{false, length-append, pos, codes, decimal, list_all, le-leb, le-ltb, nat_tests}
use Rattle.c62_line.proofs.Common.{decimal_digit, list_all-append}
use Rattle.c62_line.proofs.Common.{is_allowed, Word, Nothing, Pause}
use Rattle.c62_token.specs.declared.kind.Kind.TheVariants.{Name}
use Rattle.c62_token.specs.Number.{is_label}
use Rattle.c62_line.specs.declared.limits.TheConstants.{MOST_LINE}
use Rattle.c62_line.specs.Mnemonic.{mnemonic_named, operation_named, pseudo_named}
use Rattle.c62_line.specs.Unit.{unit_front}
use Rattle.c62_line.specs.Line.{behind_unit, condition_front, condition_of, head_of, instruction_of, label_front}
use Rattle.c62_line.specs.Line.{pause_of, rest_says, label_field}
use Rattle.c62_line.specs.Laws.{LabelReadsBack, PauseReadsBack}
use Rattle.c62_token.proofs.SpelledTokens.{allowed_text, blank_piece, both, word_piece, word_token}
use Rattle.c62_line.proofs.HeadLemmas.{line_by_head}
use Rattle.c62_line.proofs.PauseLemmas.{nop_kind}
use Rattle.c62_token.proofs.SpelledNumbers.{number_piece}
use Rattle.c62_line.proofs.SpelledOperands.{label_parts, label_piece, label_some}
use Rattle.c62_line.proofs.SpelledLine.{piece_says, word_plain}
use Rattle.c62_op.specs.declared.set.InstructionSet.{InstructionSet}

-- ---- a pause

nop_says : (isa : InstructionSet) (n : ℕ) → 1 ≤ n → n ≤ 9 → kinds_in isa (decimal n ∷ []) ≡ Number (pos n) ∷ []
    → rest_says isa (codes "NOP" ∷ decimal n ∷ []) ≡ Ok (Pause n)
unfolding rest_says condition_front condition_of instruction_of behind_unit pause_of mnemonic_named operation_named
    pseudo_named unit_front
nop_says isa n some small told =
    let other : eqb (48 + n) 46 ≡ false = grind (arith, nat_tests) in
    let none : unit_front (decimal n ∷ []) ≡ Some (None, decimal n ∷ []) = rw (decimal_digit n (omega arith), other)
    refl in
    rw (nop_kind, none) (ap (pause_of None) told ∙ rw (le-leb 1 n some, le-leb n 9 small) refl)

pub pause_back : (isa : InstructionSet) (n : ℕ) (blanks : List ℕ) → PauseReadsBack isa n blanks
pause_back isa n blanks some small blank few =
    let nop = word_piece (codes "NOP") Name 3 (word_token (codes "NOP") (omega arith) refl) nop_kind (omega arith) in
    let number = number_piece (pos n) (le-leb n 4294967295 (omega arith)) in
    let line = both (both nop blank_piece (λ rest end. refl)) number (λ rest end. tt) in
    piece_says isa blanks (Pause n) line (omega arith) blank few refl refl
    (nop_says isa n some small (ap (map (read_in isa)) number.told))

-- ---- a label

label_head : (label : Word) → is_label label ≡ true → head_of (label ++ 58 ∷ []) ≡ Ok (Some label, [])
unfolding head_of label_front
label_head label is =
    let spelled = label_piece label is in
    let plain = word_plain label (label_some label is) (label_parts label is).1 in
    let allowed : list_all is_allowed (label ++ 58 ∷ []) ≡ true = rw (list_all-append, allowed_text label spelled.plain)
    refl in
    let short : length (label ++ 58 ∷ []) ≤ MOST_LINE = omega (arith, spelled.short, length-append label (58 ∷ [])) in
    let few = le-ltb MOST_LINE (length (label ++ 58 ∷ [])) short in
    rw (allowed, few, plain.star (58 ∷ []), spelled.splits (58 ∷ []) refl, plain.bars (codes ":" ∷ []), is) refl

pub label_back : (isa : InstructionSet) (label : Word) → LabelReadsBack isa label
unfolding label_field label_front rest_says
label_back isa label is = (
  line_by_head isa (label ++ 58 ∷ []) (Some label) [] Nothing (label_head label is) refl,
  rw ((label_piece label is).splits (58 ∷ []) refl, is, label_field) refl,
)
