-- What holds of that which is taken of a text (docs/ADOPT.md, "Parts of a text").
use Rattle.std.specs.Prelude.{◌≡◌, ◌⊎◌, ◌<◌, ℕ, Bool, List, codes, length}
use Rattle.std.specs.List.{AllZip}
use Rattle.c62_reach.specs.Ended.{ended_lines}
use Rattle.c62_reach.specs.Part.{Part}
use Rattle.c62_reach.specs.Reach.{IsMarked, Leads, Marks}
use Rattle.c62_reach.specs.Taken.{IsTaken, IsTakenFrom}
use Rattle.c62_op.specs.declared.set.InstructionSet.{InstructionSet}

-- what a part that is taken leads to is taken
abbrev pub AreWhole : List Part → ℕ → List Bool → Type 0
AreWhole parts first marks =
    Marks parts first marks → (j k : ℕ) → j < length parts → IsMarked marks j → Leads parts j k → k < length parts → IsMarked marks k

-- the parts that are marked so lead to no others
abbrev pub IsClosed : List Part → List Bool → Type 0
IsClosed parts marks = (j k : ℕ) → IsMarked marks j → Leads parts j k → k < length parts → IsMarked marks k

-- whatever has the first part, and what its parts lead to, has all parts that are taken
abbrev pub AreLeast : List Part → ℕ → List Bool → List Bool → Type 0
AreLeast parts first marks others =
    Marks parts first marks → IsMarked others first → IsClosed parts others → (k : ℕ) → k < length parts → IsMarked marks k → IsMarked others k

-- a line stands for one of the text: it is the same to the byte, or empty
abbrev pub StandsFor : List ℕ → List ℕ → Type 0
StandsFor line other = (other ≡ line) ⊎ (other ≡ codes "\n")

-- so does each for the one in its place
abbrev pub StandFor : List (List ℕ) → List (List ℕ) → Type 0
StandFor lines others = AllZip StandsFor lines others

abbrev pub KeepsLines : InstructionSet → List ℕ → List ℕ → List ℕ → Type 0
KeepsLines isa name text other = IsTakenFrom isa name text other → StandFor (ended_lines text) (ended_lines other)

-- one text is taken
abbrev pub IsOne : InstructionSet → List ℕ → List ℕ → List ℕ → List ℕ → Type 0
IsOne isa name text one other = IsTaken isa name text one → IsTaken isa name text other → one ≡ other
