-- Lines that are spelled as a listing spells them have no fault.
use Rattle.c62_listing_reader.proofs.Common.{arith, ◌≡◌, ℕ, ◌≤◌, List, [], ◌∷◌, ◌++◌, length, map, Option, Some, None}
use Rattle.c62_listing_reader.proofs.Common.{Bool, true, false, not}
use Rattle.c62_listing_reader.proofs.Common.{refl, ap, append_assoc, Ok, codes, list_all, list_any, and_parts}
use Rattle.c62_listing_reader.proofs.Common.{ltb-false, nat_tests, bytes_eq-Decides}
use Rattle.c62_listing_reader.proofs.Common.{bytes_eq, FunctionalUnit, Insn, Operands, op_of, operands_of, spelling}
use Rattle.c62_listing_reader.proofs.Common.{takes, is_allowed}
use Rattle.c62_listing_reader.proofs.Common.{is_line_feed, Says, Pause, line_of, label_field, Name, NamesTarget}
use Rattle.c62_listing_reader.proofs.Common.{parts_on, says_with, says_on}
use Rattle.c62_listing_reader.proofs.Common.{field_is, head_read, pause_line, text_of, Front, First, Beside, Above}
use Rattle.c62_listing_reader.proofs.Common.{Line, lines_in, content}
use Rattle.c62_listing_reader.proofs.Common.{ends_in_return, is_empty, is_ended, front_of, rest_of, Said, Drafts}
use Rattle.c62_listing_reader.proofs.Common.{parts_spelling, front_spelling}
use Rattle.c62_listing_reader.proofs.Common.{spelled_line, is_text}
use Rattle.c62_line.proofs.SpelledLine.{spelled_back}
use Rattle.c62_line.proofs.WrittenLines.{pause_back}
use Rattle.c62_listing_reader.specs.Faults.{line_says}
use Rattle.c62_listing_reader.proofs.DraftLines.{does_text}
use Rattle.c62_listing_reader.proofs.ListedLemmas.{unreturned}
use Rattle.c62_listing_reader.proofs.TextLemmas.{before_feed, fed}
use Rattle.c62_listing_reader.proofs.ToldLemmas.{IsTold}
use Rattle.c62_listing_reader.proofs.ToldLines.{bars_field, line_parts}
use Rattle.c62_line.specs.declared.limits.TheConstants.{MOST_LINE}
use Rattle.c62_op.specs.declared.set.InstructionSet.{InstructionSet}
use Rattle.c62_op.specs.Takes.{takes_in}

-- ---- the lines of a text that is made of lines

abbrev pub are_allowed : List ℕ → Bool
are_allowed bytes = list_all is_allowed bytes

no_feed : (bytes : List ℕ) → are_allowed bytes ≡ true → list_any is_line_feed bytes ≡ false
no_feed [] all = refl
no_feed (b ∷ bytes) all = grind (arith, nat_tests, no_feed bytes)

no_return : (bytes : List ℕ) → are_allowed bytes ≡ true → ends_in_return bytes ≡ false
no_return [] all = refl
no_return (b ∷ []) all = grind (arith, nat_tests)
no_return (b ∷ c ∷ bytes) all = grind (arith, no_return (c ∷ bytes))

pub fed_content : (bytes : List ℕ) → are_allowed bytes ≡ true → content (fed bytes) ≡ bytes
fed_content bytes all = unreturned bytes (no_return bytes all)

pub fed_ended : (bytes : List ℕ) → are_allowed bytes ≡ true → is_ended (fed bytes) ≡ true
fed_ended bytes all = ap not (no_return bytes all)

pub lines_back : (lines : List (List ℕ)) → list_all are_allowed lines ≡ true → lines_in (text_of lines) ≡ map fed lines
lines_back [] all = refl
lines_back (line ∷ lines) all =
    let parts = and_parts (are_allowed line) (list_all are_allowed lines) all in
    rw (
      append_assoc line (codes "\n") (text_of lines),
      before_feed line (text_of lines) (no_feed line parts.0),
      lines_back lines parts.1,
    ) refl

pub contents_back : (lines : List (List ℕ)) → list_all are_allowed lines ≡ true → map content (map fed lines) ≡ lines
contents_back [] all = refl
contents_back (line ∷ lines) all = grind (arith, nat_tests, fed_content line, contents_back lines)

-- ---- what has no fault, is told

pub untold : (isa : InstructionSet) (labels : List Name) (drafts : Drafts) (above : Above) (line : Line)
    (below : List Line) (said : Said)
    → IsTold isa labels drafts above line below said
    → line_says isa labels drafts above line below ≡ Ok said
unfolding line_says
untold isa labels drafts above line below said is = grind (arith, nat_tests)

-- ---- what reading asks of bytes

-- a line that is read may be read, and its label field has its label
pub record IsRead (line : List ℕ) (label : Option Name) : Type 0 where
  pub allowed : are_allowed line ≡ true
  pub fits : length line ≤ MOST_LINE
  pub field : label_field line ≡ label

pub line_read : (isa : InstructionSet) (line : List ℕ) (label : Option Name) (says : Says)
    → line_of isa line ≡ Ok (label, says)
    → IsRead line label
line_read isa line label says h =
    let parts = line_parts isa line label says h in
    let read = head_read line label parts.words parts.head in
    record {
      allowed = read.allowed;
      fits = ltb-false MOST_LINE (length line) read.short;
      field = field_is line label
          parts.words parts.head;
    }

-- ---- the lines of a block but its label

pub record IsPlain (isa : InstructionSet) (bytes : List ℕ) (front : Front) (says : Says) : Type 0 where
  pub allowed : are_allowed bytes ≡ true
  pub fits : length bytes ≤ MOST_LINE
  pub begins : front ≡ front_of bytes
  pub line : line_of isa (rest_of front bytes) ≡ Ok (None, says)
  pub field : label_field bytes ≡ None
  pub spelled : is_text bytes (spelled_line front None says) ≡ true
  pub filled : is_empty bytes ≡ false

pub same_bytes : (bytes : List ℕ) → bytes_eq bytes bytes ≡ true
same_bytes bytes = (bytes_eq-Decides bytes bytes).1 refl

pub pause_plain : (isa : InstructionSet) (n : ℕ) → 1 ≤ n → n ≤ 9 → IsPlain isa (pause_line n) First (Pause n)
pause_plain isa n some few =
    let line : line_of isa (pause_line n) ≡ Ok (None, Pause n) =
    pause_back isa n (codes "   ") some few refl (omega arith) in
    let read = line_read isa (pause_line n) None (Pause n) line in
    record {
      allowed = read.allowed;
      fits = read.fits;
      begins = refl;
      line = line;
      field = read.field;
      spelled = same_bytes (pause_line n);
      filled = refl;
    }

says_spelled : (name : ℕ → List ℕ) (front : Front) (insn : Insn) (unit : FunctionalUnit) (operands : Operands)
    → operands_of insn ≡ operands
    → spelled_line front None (says_with name (parts_on insn unit) operands) ≡ Some
    (front_spelling front ++ parts_spelling name (parts_on insn unit) unit)
says_spelled name front insn unit operands is =
    grind (arith, nat_tests, does_text (λ _. []) name (parts_on insn unit) unit)

line_spelled : (name : ℕ → List ℕ) (front : Front) (insn : Insn) (unit : FunctionalUnit)
    → is_text (front_spelling front ++ spelling name insn unit) (spelled_line front None (says_on name insn unit)) ≡
    true
line_spelled name front insn unit =
    rw (says_spelled name front insn unit (operands_of insn) refl)
    (same_bytes (front_spelling front ++ spelling name insn unit))

pub first_plain : (isa : InstructionSet) (name : ℕ → List ℕ) (insn : Insn) (unit : FunctionalUnit)
    → takes_in isa (op_of insn) (operands_of insn) unit ≡ true
    → NamesTarget name (operands_of insn)
    → IsPlain isa (codes "   " ++ spelling name insn unit) First (says_on name insn unit)
first_plain isa name insn unit taking names =
    let bytes : List ℕ = codes "   " ++ spelling name insn unit in
    let line : line_of isa bytes ≡ Ok (None, says_on name insn unit) =
    spelled_back isa name insn unit (codes "   ") taking
    names refl (omega arith) in
    let read = line_read isa bytes None (says_on name insn unit) line in
    record {
      allowed = read.allowed;
      fits = read.fits;
      begins = refl;
      line = line;
      field = read.field;
      spelled = line_spelled name First insn unit;
      filled = refl;
    }

pub beside_plain : (isa : InstructionSet) (name : ℕ → List ℕ) (insn : Insn) (unit : FunctionalUnit)
    → takes_in isa (op_of insn) (operands_of insn) unit ≡ true
    → NamesTarget name (operands_of insn)
    → IsPlain isa (codes "|| " ++ spelling name insn unit) Beside (says_on name insn unit)
beside_plain isa name insn unit taking names =
    let text : List ℕ = spelling name insn unit in
    let line : line_of isa (codes " " ++ text) ≡ Ok (None, says_on name insn unit) =
    spelled_back isa name insn unit (codes " ") taking names refl (omega arith) in
    let longer : line_of isa (codes "   " ++ text) ≡ Ok (None, says_on name insn unit) =
    spelled_back isa name insn unit (codes "   ") taking names refl (omega arith) in
    let read = line_read isa (codes " " ++ text) None (says_on name insn unit) line in
    let long = line_read isa (codes "   " ++ text) None (says_on name insn unit) longer in
    record {
      allowed = read.allowed;
      fits = long.fits;
      begins = refl;
      line = line;
      field = bars_field text;
      spelled = line_spelled name Beside insn unit;
      filled = refl;
    }
