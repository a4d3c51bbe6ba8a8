-- What is said of a fault of packets (docs/FAULTS.md, "Packets").
use Rattle.std.specs.Prelude.{◌≡◌, ◌⊎◌, ℕ, List, [], ◌++◌}
use Rattle.c62_place.specs.declared.place.Place.{Place}
use Rattle.c62_explain.specs.Picture.{IsHelp, line_at, picture}
use Rattle.c62_explain_packets.specs.Sentence.{what_sentence}
use Rattle.c62_explain_packets.specs.Place.{IsFoundAt}
use Rattle.c62_explain_packets.specs.declared.finding.Finding.{Finding as Found}
use Rattle.c62_op.specs.declared.set.InstructionSet.{InstructionSet}

-- the picture of the fault, and behind it lines of help
pub record IsPictured (isa : InstructionSet) (name text : List ℕ) (found : Found) (out : List ℕ) : Type 0 where
  pub place : Place
  pub there : IsFoundAt isa found.what (line_at text found.line) place
  pub help : List ℕ
  pub helps : IsHelp found.line help
  pub says : out ≡ picture name (line_at text found.line) found.line place (what_sentence found.what) ++ help

-- a fault of no line has no picture
abbrev pub Explains : InstructionSet → List ℕ → List ℕ → Found → List ℕ → Type 0
Explains isa name text found out = ((found.line ≡ 0) × (out ≡ [])) ⊎ IsPictured isa name text found out
