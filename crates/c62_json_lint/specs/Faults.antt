-- The members of a document of `lint` (docs/JSON.md, "lint").
use Rattle.std.specs.Prelude.{ℕ, List, [], ◌∷◌, ◌++◌, Option, Some, None, codes}
use Rattle.std.specs.List.{flat_map}
use Rattle.json.specs.Token.{Token, key, null, string}
use Rattle.c62_json.specs.Document.{array, count, object, text}
use Rattle.c62_line.specs.Fault.{cause_name}
use Rattle.c62_explain.specs.Sentence.{sentence}
use Rattle.c62_explain.specs.declared.placed.PlacedFault.{PlacedFault}
use Rattle.c62_explain_packets.specs.Finding.{what_name}
use Rattle.c62_explain_packets.specs.Sentence.{what_sentence}
use Rattle.c62_explain_packets.specs.Warned.{early_sentence}
use Rattle.c62_explain_packets.specs.declared.remarks.PlacedFinding.{PlacedFinding}
use Rattle.c62_explain_packets.specs.declared.remarks.PlacedRead.{PlacedRead}
use Rattle.c62_explain_packets.specs.declared.remarks.Remarks.{Remarks}

-- where it is found: the file, the line and the column
unfoldable pub place_members : (file : List ℕ) → (line column : ℕ) → List Token
place_members file line column =
    key (codes "file") ∷ text file ∷ key (codes "line") ∷ count line ∷ key (codes "column") ∷ count column ∷ []

-- a fault has a name, and a warning none
unfoldable pub name_members : Option (List ℕ) → List Token
name_members (Some name) = key (codes "kind") ∷ string (codes "error") ∷ key (codes "name") ∷ string name ∷ []
name_members None = key (codes "kind") ∷ string (codes "warning") ∷ key (codes "name") ∷ null ∷ []

unfoldable pub told_members : (file : List ℕ) → (line column : ℕ) → Option (List ℕ) → (says : List ℕ) → List Token
told_members file line column name says =
    place_members file line column ++ name_members name ++ key (codes "sentence") ∷ text says ∷ []

-- the object of a fault or a warning
abbrev pub told_object : (file : List ℕ) → (line column : ℕ) → Option (List ℕ) → (says : List ℕ) → List Token
told_object file line column name says = object (told_members file line column name says)

-- that of a fault of a serial text, of a fault of packets, and of a read in a delay slot
unfoldable pub fault_told : (file : List ℕ) → PlacedFault → List Token
fault_told file placed = told_object file placed.fault.line placed.column (Some (cause_name placed.fault.cause)) (sentence placed.fault.cause)

unfoldable pub finding_told : (file : List ℕ) → PlacedFinding → List Token
finding_told file placed =
    told_object file placed.finding.line placed.column (Some (what_name placed.finding.what)) (what_sentence placed.finding.what)

unfoldable pub read_told : (file : List ℕ) → PlacedRead → List Token
read_told file read = told_object file read.early.line read.column None (early_sentence read.early)

-- where there is one
abbrev pub found_told : (file : List ℕ) → Option PlacedFinding → List Token
found_told file None = []
found_told file (Some placed) = finding_told file placed

-- ---- all that is told

abbrev pub members : List Token → List Token
members all = key (codes "faults") ∷ array all

-- of the faults of a serial text
unfoldable pub faults_members : (file : List ℕ) → List PlacedFault → List Token
faults_members file all = members (flat_map (fault_told file) all)

-- of what is found in packets
unfoldable pub remarks_members : (file : List ℕ) → Remarks → List Token
remarks_members file remarks =
    members
    (found_told file remarks.fault ++ flat_map (finding_told file) remarks.further.items ++ flat_map (read_told file) remarks.reads.items)
