-- What the documents of `lint` say of a text (docs/JSON.md, "lint").
use Rattle.std.specs.Prelude.{◌≡◌, ℕ, ◌≤◌, Bool, List, map, codes, is_err}
use Rattle.std.specs.List.{flat_map}
use Rattle.c62_json.specs.Document.{document}
use Rattle.c62_read.specs.Program.{program_in}
use Rattle.c62_lint.specs.Faults.{refusal_of}
use Rattle.c62_explain.specs.Placed.{LintsPlaced, placed_line}
use Rattle.c62_explain.specs.declared.placed.PlacedFault.{PlacedFault}
use Rattle.c62_json_lint.specs.Faults.{faults_members}
use Rattle.c62_json_lint.specs.Linted.{IsSerialDocument}
use Rattle.c62_op.specs.declared.set.InstructionSet.{InstructionSet}

-- lines and a document tell faults of the same lines and causes, in the same order
pub record TellTheSame (file out told : List ℕ) : Type 0 where
  pub lines : List PlacedFault
  pub faults : List PlacedFault
  pub says : out ≡ flat_map (placed_line file) lines
  pub also : told ≡ document (codes "lint") (faults_members file faults)
  pub same : map (λ placed. refusal_of placed.fault) lines ≡ map (λ placed. refusal_of placed.fault) faults

-- so do the lines that `lint` prints of a serial text and its document
abbrev pub DocumentsTellTheLines : InstructionSet → (most : ℕ) → (file text : List ℕ) → Type 0
DocumentsTellTheLines isa most file text =
    (out told : List ℕ) (faulty : Bool) → LintsPlaced isa file text most out → IsSerialDocument isa most file text told faulty → TellTheSame file out told

-- a serial text has a fault exactly where it is refused
abbrev pub FaultyIsRefused : InstructionSet → (most : ℕ) → (file text : List ℕ) → Type 0
FaultyIsRefused isa most file text =
    1 ≤ most → (told : List ℕ) (faulty : Bool) → IsSerialDocument isa most file text told faulty → faulty ≡ is_err (program_in isa text)
