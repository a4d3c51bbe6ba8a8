-- How a fault is shown (docs/FAULTS.md, "What `--explain` prints" and "All faults at once").
use Rattle.std.specs.Prelude.{◌≡◌, ◌⊎◌, ℕ, ◌+◌, ◌-◌, ◌==◌, List, [], ◌∷◌, ◌++◌, length, map, take, max, min, decimal, replicate, codes, unwrap_or, slice_get, if◌then◌else◌}
use Rattle.std.specs.List.{flat_map}
use Rattle.c62_token.specs.Token.{is_allowed}
use Rattle.c62_line.specs.declared.fault.ReadFault.{ReadFault}
use Rattle.c62_line.specs.Fault.{cause_name}
use Rattle.c62_read.specs.Text.{lines_of}
use Rattle.c62_place.specs.declared.place.Place.{Place}
use Rattle.c62_place.specs.Place.{IsPlace}
use Rattle.c62_lint.specs.Faults.{faults_in, refusal_of}
use Rattle.c62_explain.specs.declared.lines.TheConstants.{MOST_FAULTS}
use Rattle.c62_explain.specs.declared.picture.TheConstants.{MOST_SHOWN}
use Rattle.c62_explain.specs.Sentence.{sentence}
use Rattle.c62_op.specs.declared.set.InstructionSet.{InstructionSet}

-- the line of this number in a text, from 1; nothing where it has none
abbrev pub line_at : List ℕ → ℕ → List ℕ
line_at text number = unwrap_or (slice_get (lines_of text) (number - 1)) []

-- `FILE:LINE:COLUMN`, the column from 1
abbrev pub position : List ℕ → ℕ → Place → List ℕ
position name number place = name ++ codes ":" ++ decimal number ++ codes ":" ++ decimal (place.start + 1)

-- `FILE:LINE:COLUMN: error: NAME: SENTENCE`
abbrev pub lint_line : List ℕ → ReadFault → Place → List ℕ
lint_line name fault place =
    position name fault.line place ++ codes ": error: " ++ cause_name fault.cause ++ codes ": " ++ sentence fault.cause ++ codes "\n"

-- ---- the line and what is under it

-- a byte that may stand in no line is shown as `?`
abbrev pub shown_byte : ℕ → ℕ
shown_byte b = if is_allowed b then b else 63

abbrev pub shown : List ℕ → List ℕ
shown line = map shown_byte (take MOST_SHOWN line)

-- as wide as this byte of a line
abbrev pub blank_byte : ℕ → ℕ
blank_byte b = if b == 9 then 9 else 32

-- what stands under the line before the carets
abbrev pub lead : List ℕ → Place → List ℕ
lead line place = map blank_byte (take place.start line)

-- a caret for each byte of the place, and one where it has none
abbrev pub carets : Place → List ℕ
carets place = replicate (max 1 place.len) 94

-- blanks as wide as the line's number
abbrev pub margin : ℕ → List ℕ
margin number = replicate (length (decimal number)) 32

-- where the fault is found, and the line
abbrev pub quoted : List ℕ → List ℕ → ℕ → Place → List ℕ
quoted name line number place =
    margin number ++ codes "--> " ++ position name number place ++ codes "\n" ++ decimal number ++ codes " | " ++ shown line ++ codes "\n"

-- and under it the carets with what is wrong
abbrev pub marked : List ℕ → ℕ → Place → List ℕ → List ℕ
marked line number place says = margin number ++ codes " | " ++ lead line place ++ carets place ++ codes " " ++ says ++ codes "\n"

unfoldable pub picture : List ℕ → List ℕ → ℕ → Place → List ℕ → List ℕ
picture name line number place says = quoted name line number place ++ marked line number place says

-- bytes of which this holds stand behind the old ones
abbrev pub Adds : (List ℕ → Type 0) → List ℕ → List ℕ → Type 0
Adds Says old new = (more : List ℕ) × (new ≡ old ++ more) × Says more

-- ---- lines of help

-- these words, one behind the other, on a line of help for the line of this number
abbrev pub hint : ℕ → List (List ℕ) → List ℕ
hint number words = margin number ++ codes " = help: " ++ flat_map (λ word. word) words ++ codes "\n"

-- lines of help alone
abbrev pub IsHelp : ℕ → List ℕ → Type 0
IsHelp number out = (hints : List (List (List ℕ))) × (out ≡ flat_map (hint number) hints)

-- lines of help stand behind the old bytes
abbrev pub AddsHelp : ℕ → List ℕ → List ℕ → Type 0
AddsHelp number old new = Adds (IsHelp number) old new

-- ---- what is answered

-- the place is that of this fault of the text
abbrev pub IsPlaceIn : InstructionSet → List ℕ → ReadFault → Place → Type 0
IsPlaceIn isa text fault place = IsPlace isa fault.cause (line_at text fault.line) place

-- the picture of the fault, and behind it lines of help
pub record IsPictured (isa : InstructionSet) (name text : List ℕ) (fault : ReadFault) (out : List ℕ) : Type 0 where
  pub place : Place
  pub there : IsPlaceIn isa text fault place
  pub help : List ℕ
  pub helps : IsHelp fault.line help
  pub says : out ≡ picture name (line_at text fault.line) fault.line place (sentence fault.cause) ++ help

-- a fault of no line has no picture
abbrev pub Explains : InstructionSet → List ℕ → List ℕ → ReadFault → List ℕ → Type 0
Explains isa name text fault out = ((fault.line ≡ 0) × (out ≡ [])) ⊎ IsPictured isa name text fault out

-- a line for a fault of the text
pub record LintsOne (isa : InstructionSet) (name text : List ℕ) (fault : ReadFault) (out : List ℕ) : Type 0 where
  pub place : Place
  pub there : IsPlaceIn isa text fault place
  pub says : out ≡ lint_line name fault place

-- a line for each fault of the text, in their order
abbrev pub Lints : InstructionSet → List ℕ → List ℕ → List ReadFault → List ℕ → Type 0
Lints isa name text [] out = out ≡ []
Lints isa name text (fault ∷ faults) out =
    (first : List ℕ) × (others : List ℕ) × (out ≡ first ++ others) × LintsOne isa name text fault first × Lints isa name text faults others

-- at most 1000 faults are told
abbrev pub few : ℕ → ℕ
few most = min most MOST_FAULTS

-- a line for each of the text's first faults
pub record LintsText (isa : InstructionSet) (name text : List ℕ) (most : ℕ) (out : List ℕ) : Type 0 where
  pub faults : List ReadFault
  pub all : map refusal_of faults ≡ take (few most) (faults_in isa text)
  pub says : Lints isa name text faults out
