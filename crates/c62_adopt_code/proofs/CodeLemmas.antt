-- A text's code is taken line by line.
use Rattle.std.proofs.Common.{◌≡◌, ◌≤◌, ◌<◌, ◌+◌, ◌∙◌, ◌++◌, ap, sym, refl, ℕ, List, ◌∷◌, [], length, Ok, Err, Bool}
use Rattle.std.proofs.Common.{Result, arith, append_assoc, append-nil, take}
use Rattle.std.specs.Str.{bytes_eq}
use Rattle.c62_read.specs.Text.{lines_of}
use Rattle.c62_adopt_line.specs.Line.{line_says}
use Rattle.c62_adopt_cut.specs.Text.{most_bytes}
use Rattle.c62_adopt_code.specs.declared.code.Site.{Site}
use Rattle.c62_adopt_code.specs.declared.fault.CodeFault.{CodeFault}
use Rattle.c62_adopt_code.specs.declared.fault.CodeFault.TheVariants.{At, Memory}
use Rattle.c62_adopt_code.specs.declared.fault.CodeCause.{CodeCause}
use Rattle.c62_adopt_code.specs.Role.{role_of}
use Rattle.c62_adopt_code.specs.Code.{Refusal, below, code_below, code_line, lines_coded, line_taken, plain_code}
use Rattle.c62_adopt_code.specs.Code.{section_behind, shortened, text_of, way_behind, with_first}
use Rattle.c62_adopt_code.specs.Told.{FailsWith, RefusesLine, TakesLine, comes_to}
use Rattle.c62_op.specs.declared.set.InstructionSet.{InstructionSet}

below_more : (front line : List ℕ) (read : Result (List (List ℕ)) Refusal)
    → below (front ++ text_of (line ∷ [])) read ≡ below front (with_first line read)
below_more front line (Err refusal) = refl
below_more front line (Ok lines) = simp (append_assoc, append-nil) refl

pub taken_so : (isa : InstructionSet) (home section : List ℕ) (way : _) (number : ℕ) (line front : List ℕ) (is : Bool)
    (lines : List (List ℕ))
    → line_taken (bytes_eq home section) line section way ≡ Ok is
    → below (front ++ text_of (code_line is line ∷ []))
    (code_below isa home (section_behind (role_of line) section) (way_behind (line_says isa (code_line is line)) way)
    (number + 1) lines)
    ≡ below front (code_below isa home section way number (line ∷ lines))
unfolding code_below
taken_so isa home section way number line front is lines taking =
    rw taking (below_more front (code_line is line)
    (code_below isa home (section_behind (role_of line) section) (way_behind (line_says isa (code_line is line)) way)
    (number + 1) lines))

pub refused_so : (isa : InstructionSet) (home section : List ℕ) (way : _) (number : ℕ) (line : List ℕ)
    (cause : CodeCause)
    (lines : List (List ℕ))
    → line_taken (bytes_eq home section) line section way ≡ Err cause
    → code_below isa home section way number (line ∷ lines) ≡ Err (number, cause)
unfolding code_below
refused_so isa home section way number line cause lines refusing = rw refusing refl

-- ---- a text

-- the lines above were taken, and what is left comes to the same as the whole
pub record IsCodedSoFar (isa : InstructionSet) (site : Site) (number : ℕ) (rest code text : List ℕ) : Type 0 where
  pub young : site.way.age ≤ 6
  pub so_far : comes_to isa site code number (lines_of rest) ≡ below [] (lines_coded isa (lines_of text))
  pub counted : number + length rest ≤ length text + 1

pub one_more : (isa : InstructionSet) (old new : Site) (number : ℕ) (line rest after front more text : List ℕ)
    → IsCodedSoFar isa old number rest front text
    → lines_of rest ≡ line ∷ lines_of after → length after < length rest → TakesLine isa number line old front more new
    → IsCodedSoFar isa new (number + 1) after more text
one_more isa old new number line rest after front more text far first shorter takes = record {
  young = takes.young;
  so_far = takes.so_far (lines_of after) ∙ ap (comes_to isa old front number) (sym first) ∙ far.so_far;
  counted = omega (arith, far.counted);
}

pub all_taken : (isa : InstructionSet) (site : Site) (number : ℕ) (rest code text : List ℕ)
    → IsCodedSoFar isa site number rest code text
    → lines_of rest ≡ []
    → plain_code isa text ≡ Ok (take most_bytes code)
unfolding plain_code code_below
all_taken isa site number rest code text far none =
    ap shortened (sym far.so_far ∙ ap (comes_to isa site code number) none ∙ ap Ok (append-nil code))

refused_below : (front : List ℕ) (read : Result (List (List ℕ)) Refusal) (refusal : Refusal)
    (whole : Result (List ℕ) Refusal)
    → below front read ≡ whole → read ≡ Err refusal → shortened whole ≡ Err refusal
refused_below front read refusal whole same is = ap shortened (sym same)
    ∙ ap (λ (r : Result (List (List ℕ)) Refusal). shortened (below front r)) is

pub refused_there : (isa : InstructionSet) (site : Site) (number : ℕ) (line rest after code text : List ℕ)
    (fault : CodeFault)
    → IsCodedSoFar isa site number rest code text
    → lines_of rest ≡ line ∷ lines_of after → RefusesLine isa number line site fault
    → FailsWith fault (plain_code isa text)
unfolding plain_code
refused_there isa site number line rest after code text (At n cause) far first refuses =
    refused_below code (code_below isa site.home.now site.section.now site.way number (line ∷ lines_of after))
    (n, cause)
    (below [] (lines_coded isa (lines_of text)))
    (ap (comes_to isa site code number) (sym first) ∙ far.so_far) (refuses (lines_of after))
refused_there isa site number line rest after code text Memory far first refuses = tt
