-- Lines without directives and comments are their own code.
use Rattle.std.proofs.Common.{◌≡◌, ℕ, ◌+◌, Bool, true, false, List, [], ◌∷◌, refl, ap, Ok, Result}
use Rattle.std.specs.Prelude.{not, if◌then◌else◌}
use Rattle.std.specs.List.{list_all}
use Rattle.std.specs.Str.{bytes_eq}
use Rattle.std.proofs.lemmas.Bool.{and_parts}
use Rattle.c62_adopt_line.specs.Line.{line_says}
use Rattle.c62_adopt_code.specs.declared.way.Way.{Way}
use Rattle.c62_adopt_code.specs.Statement.{is_readable}
use Rattle.c62_adopt_code.specs.Role.{Role, Remark, Silent, Acts, Begins, Pads, Tells, Unknown, Refused, role_of}
use Rattle.c62_adopt_code.specs.Code.{Refusal, and_taken, code_below, code_line, home_of, home_or, lines_coded}
use Rattle.c62_adopt_code.specs.Code.{section_behind, taken, text_section, way_behind, with_first}
use Rattle.c62_adopt_code.specs.Way.{first_way}
use Rattle.c62_adopt_code.specs.Laws.{AreOwnCode, is_plain, is_plain_role}
use Rattle.c62_op.specs.declared.set.InstructionSet.{InstructionSet}

home_role : (role : Role) (later : List ℕ → List ℕ) → is_plain_role role ≡ true → later text_section ≡ text_section
    → home_or role text_section (later (section_behind role text_section)) ≡ text_section
home_role Silent later plain same = same
home_role Acts later plain same = refl
home_role Remark later plain same = absurd cc
home_role (Begins labelled name) later plain same = absurd cc
home_role Pads later plain same = absurd cc
home_role Tells later plain same = absurd cc
home_role Unknown later plain same = absurd cc
home_role Refused later plain same = absurd cc

home_own : (lines : List (List ℕ)) → list_all is_plain lines ≡ true → home_of text_section lines ≡ text_section
home_own [] all = refl
home_own (line ∷ lines) all =
    let parts = and_parts (is_plain line) (list_all is_plain lines) all in
    home_role (role_of line) (λ section. home_of section lines) parts.0 (home_own lines parts.1)

module _ (isa : InstructionSet) (line : List ℕ) (lines : List (List ℕ)) (way : Way) (number : ℕ) where
  code_role : (unread : Bool) (role : Role) → is_plain_role role ≡ true
      → ((next : Way) (behind : ℕ) → code_below isa text_section text_section next behind lines ≡ Ok lines)
      → and_taken number (if unread then Ok true else taken (bytes_eq text_section text_section) text_section way role)
      (λ is. with_first (code_line is line)
      (code_below isa text_section (section_behind role text_section)
      (way_behind (line_says isa (code_line is line)) way)
      (number + 1) lines))
      ≡ Ok (line ∷ lines)
  code_role true Silent plain later = ap (with_first line) (later (way_behind (line_says isa line) way) (number + 1))
  code_role false Silent plain later = ap (with_first line) (later (way_behind (line_says isa line) way) (number + 1))
  code_role true Acts plain later = ap (with_first line) (later (way_behind (line_says isa line) way) (number + 1))
  code_role false Acts plain later = ap (with_first line) (later (way_behind (line_says isa line) way) (number + 1))
  code_role unread Remark plain later = absurd cc
  code_role unread (Begins labelled name) plain later = absurd cc
  code_role unread Pads plain later = absurd cc
  code_role unread Tells plain later = absurd cc
  code_role unread Unknown plain later = absurd cc
  code_role unread Refused plain later = absurd cc

below_own : (isa : InstructionSet) (lines : List (List ℕ)) (way : Way) (number : ℕ) → list_all is_plain lines ≡ true
    → code_below isa text_section text_section way number lines ≡ Ok lines
unfolding code_below
below_own isa [] way number all = refl
below_own isa (line ∷ lines) way number all =
    let parts = and_parts (is_plain line) (list_all is_plain lines) all in
    code_role isa line lines way number (not (is_readable line)) (role_of line) parts.0
    (λ next behind. below_own isa lines next behind parts.1)

pub own_code : (isa : InstructionSet) (lines : List (List ℕ)) → AreOwnCode isa lines
own_code isa lines all = rw (home_own lines all) (below_own isa lines first_way 1 all)
