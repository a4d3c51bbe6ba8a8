-- What a line is for (docs/ADOPT.md, "Directives", "Sections" and "Alignment").
use Rattle.std.specs.Prelude.{ℕ, ℤ, pos, int_le, Bool, true, false, ◌==◌, ◌&&◌, ◌||◌, if◌then◌else◌, List, [], ◌∷◌, take, codes, Option, Some, None, is_some}
use Rattle.std.specs.List.{list_any, position}
use Rattle.std.specs.Option.{option_map_or}
use Rattle.c62_token.specs.Kind.{Word}
use Rattle.c62_token.specs.Number.{number_of, spells}
use Rattle.c62_token.specs.Token.{begins, is_blank, is_word_byte, tokens}
use Rattle.c62_line.specs.Unit.{is_dot}
use Rattle.c62_adopt_line.specs.Line.{behind_bars, from_solid}
use Rattle.c62_adopt_line.specs.Directive.{lays_nothing, names_section}
use Rattle.c62_adopt_code.specs.declared.quote.Quote.TheVariants.{Outside}
use Rattle.c62_adopt_code.specs.declared.role.Role.{Role as RoleRead}
use Rattle.c62_adopt_code.specs.declared.role.Role.TheVariants as read
use Rattle.c62_adopt_code.specs.Statement.{behind_label, front_of, is_remark, label_of}
use Rattle.c62_adopt_code.specs.Quote.{parts}

-- a comment; nothing, or a label alone; an instruction, or what is meant as one; a directive that begins this section, and whether it
-- has a label; an alignment whose padding may take cycles; another directive that is known, or one that isn't; and one that is never
-- taken
pub data Role : Type 0 where
  Remark : Role
  Silent : Role
  Acts : Role
  Begins : Bool → List ℕ → Role
  Pads : Role
  Tells : Role
  Unknown : Role
  Refused : Role

abbrev pub role_read : RoleRead → Role
role_read read.Remark = Remark
role_read read.Silent = Silent
role_read read.Acts = Acts
role_read (read.Begins labelled name) = Begins labelled name.now
role_read read.Pads = Pads
role_read read.Tells = Tells
role_read read.Unknown = Unknown
role_read read.Refused = Refused

-- ---- sections

-- what stands behind a directive's name
abbrev pub behind_name : List ℕ → List ℕ
behind_name [] = []
behind_name (b ∷ bytes) = if b == 46 || is_word_byte b then behind_name bytes else b ∷ bytes

abbrev pub up_to : (ℕ → Bool) → List ℕ → List ℕ
up_to ends bytes = option_map_or (λ end. take end bytes) (position ends bytes) bytes

-- a name between quotes, or one that ends before a comma, a blank or a comment
abbrev pub name_written : List ℕ → List ℕ
name_written [] = []
name_written (b ∷ bytes) =
    if b == 34 then up_to (λ c. c == 34) bytes
    else up_to (λ c. c == 44 || c == 59 || is_blank c) (b ∷ bytes)

-- the section that a directive names
abbrev pub section_named : List ℕ → List ℕ
section_named bytes = name_written (from_solid (behind_name (from_solid bytes)))

abbrev pub begins_named : Bool → List ℕ → Role
begins_named labelled [] = Refused
begins_named labelled (b ∷ name) = Begins labelled (b ∷ name)

-- the first subsection is the section itself, and the others are laid down behind it
abbrev pub is_whole : List Word → Bool
is_whole [] = true
is_whole (word ∷ []) = spells (codes "0") word
is_whole _ = false

-- ---- alignments

-- Up to a fetch packet of 32 bytes GNU's assembler pads with NOPs beside what stands above, which take no cycle. It counts in powers of two
-- behind `.align` and `.p2align`, in bytes behind `.balign`. TI's counts in bytes behind `.align`, where up to five there is nothing to pad.
abbrev pub most_for : Word → Option ℤ
most_for name =
    if spells (codes ".align") name || spells (codes ".p2align") name then Some (pos 5)
    else (if spells (codes ".balign") name then Some (pos 32) else None)

abbrev pub is_small : ℤ → Option ℤ → Bool
is_small most None = false
is_small most (Some k) = int_le k most

-- nothing but the number: what else stands there may be what is padded with
abbrev pub pads_none : ℤ → List Word → Bool
pads_none most [] = true
pads_none most (word ∷ []) = is_small most (number_of word)
pads_none most _ = false

-- ---- directives

-- what lays data down, which sections without instructions may have
abbrev pub data_names : List Word
data_names =
    codes ".word" ∷ codes ".half" ∷ codes ".short" ∷ codes ".int" ∷ codes ".long" ∷ codes ".byte" ∷ codes ".char" ∷ codes ".string" ∷ codes ".ascii"
    ∷ codes ".asciz" ∷ codes ".cstring" ∷ codes ".space" ∷ codes ".skip" ∷ codes ".zero" ∷ codes ".fill" ∷ codes ".field" ∷ codes ".float"
    ∷ codes ".double" ∷ codes ".uword" ∷ codes ".uhalf" ∷ codes ".ushort" ∷ codes ".uint" ∷ codes ".ulong" ∷ codes ".uchar" ∷ codes ".ubyte"
    ∷ codes ".4byte" ∷ codes ".2byte" ∷ codes ".8byte" ∷ codes ".quad" ∷ codes ".bits" ∷ codes ".bss" ∷ codes ".comm" ∷ codes ".lcomm" ∷ codes ".scomm"
    ∷ codes ".uleb128" ∷ codes ".sleb128" ∷ []

abbrev pub is_data : Word → Bool
is_data word = list_any (λ name. spells name word) data_names

abbrev pub aligning : Option ℤ → List Word → Role → Role
aligning None words other = other
aligning (Some most) words other = if pads_none most words then Tells else Pads

abbrev pub other_directive : List Word → Role
other_directive [] = Unknown
other_directive (name ∷ words) = aligning (most_for name) words (if is_data name || lays_nothing (name ∷ words) then Tells else Unknown)

abbrev pub is_bare : List Word → Bool
is_bare [] = true
is_bare _ = false

abbrev pub section_directive : Bool → List ℕ → List Word → Role
section_directive labelled bytes [] = Unknown
section_directive labelled bytes (name ∷ words) =
    if spells (codes ".text") name then (if is_whole words then Begins labelled (codes ".text") else Refused)
    else (if spells (codes ".data") name then Begins labelled (codes ".data")
    else (if spells (codes ".bss") name && is_bare words then Begins labelled (codes ".bss")
    else (if names_section name then begins_named labelled (section_named bytes)
    else other_directive (name ∷ words))))

-- ---- a line

-- what stands behind the label, where there is one
unfoldable pub statement_role : Bool → List ℕ → List Word → Role
statement_role labelled bytes [] = Silent
statement_role labelled bytes (word ∷ words) =
    if begins is_dot word then (if parts Outside bytes then Refused else section_directive labelled bytes (word ∷ words))
    else Acts

abbrev pub unbarred : List ℕ → Option (List ℕ) → Role
unbarred line (Some behind) = Acts
unbarred line None = statement_role (is_some (label_of (front_of line))) (behind_label (label_of (front_of line)) line) (tokens (behind_label (label_of (front_of line)) line))

unfoldable pub role_of : List ℕ → Role
role_of line = if is_remark line then Remark else unbarred line (behind_bars line)
