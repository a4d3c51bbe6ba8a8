-- Faults of a serial text with their columns (docs/FAULTS.md, "All faults at once").
use Rattle.std.specs.Prelude.{◌≡◌, ℕ, ◌+◌, List, ◌++◌, map, take, All, codes, decimal}
use Rattle.std.specs.List.{flat_map}
use Rattle.c62_line.specs.Fault.{cause_name}
use Rattle.c62_lint.specs.Faults.{faults_in, refusal_of}
use Rattle.c62_place.specs.declared.place.Place.{Place}
use Rattle.c62_explain.specs.declared.placed.PlacedFault.{PlacedFault}
use Rattle.c62_explain.specs.Picture.{IsPlaceIn, few}
use Rattle.c62_explain.specs.Sentence.{sentence}
use Rattle.c62_op.specs.declared.set.InstructionSet.{InstructionSet}

-- the column is that of the fault's place in its line of the text, from 1
pub record IsPlaced (isa : InstructionSet) (text : List ℕ) (placed : PlacedFault) : Type 0 where
  pub place : Place
  pub there : IsPlaceIn isa text placed.fault place
  pub column : placed.column ≡ place.start + 1

-- these are the text's first faults, at most so many
pub record ArePlaced (isa : InstructionSet) (text : List ℕ) (most : ℕ) (all : List PlacedFault) : Type 0 where
  pub faults : map (λ placed. refusal_of placed.fault) all ≡ take (few most) (faults_in isa text)
  pub there : All (IsPlaced isa text) all

-- `FILE:LINE:COLUMN`
abbrev pub column_position : (name : List ℕ) → (line column : ℕ) → List ℕ
column_position name line column = name ++ codes ":" ++ decimal line ++ codes ":" ++ decimal column

-- `FILE:LINE:COLUMN: error: NAME: SENTENCE`
unfoldable pub placed_line : List ℕ → PlacedFault → List ℕ
placed_line name placed =
    column_position name placed.fault.line placed.column
    ++ codes ": error: " ++ cause_name placed.fault.cause ++ codes ": " ++ sentence placed.fault.cause ++ codes "\n"

-- a line for each of the text's first faults, with its column
pub record LintsPlaced (isa : InstructionSet) (name text : List ℕ) (most : ℕ) (out : List ℕ) : Type 0 where
  pub placed : List PlacedFault
  pub are : ArePlaced isa text most placed
  pub says : out ≡ flat_map (placed_line name) placed
