-- Rows with the words of labels.
use Rattle.std.specs.Prelude.{◌≡◌, ℕ, nat_eq, List, [], ◌∷◌}
use Rattle.std.specs.Map.{lookup}
use Rattle.c62_line.specs.Line.{parts_of}
use Rattle.c62_read.specs.Program.{Name}
use Rattle.c62_packet.specs.declared.placed.Placed.{Placed}
use Rattle.c62_flight.specs.Text.{Row}
use Rattle.c62_rows.specs.Word.{with_word}

-- the other instruction is this one, but that its constant is the word of a label where its line takes one
pub record IsWorded (words : List (ℕ × Name)) (labels : List (Name × ℕ)) (p other : Placed) : Type 0 where
  pub parts : parts_of other.insn ≡ with_word (lookup (nat_eq p.line) words) labels (parts_of p.insn)
  pub line : other.line ≡ p.line
  pub cycle : other.cycle ≡ p.cycle
  pub unit : other.unit ≡ p.unit

abbrev pub AreInsnsWorded : List (ℕ × Name) → List (Name × ℕ) → List Placed → List Placed → Type 0
AreInsnsWorded words labels [] [] = Unit {0}
AreInsnsWorded words labels (p ∷ placed) (other ∷ others) = IsWorded words labels p other × AreInsnsWorded words labels placed others
AreInsnsWorded words labels _ _ = ⊥

pub record IsRowWorded (words : List (ℕ × Name)) (labels : List (Name × ℕ)) (row other : Row) : Type 0 where
  pub insns : AreInsnsWorded words labels row.insns other.insns
  pub idle : other.idle ≡ row.idle

abbrev pub AreWorded : List (ℕ × Name) → List (Name × ℕ) → List Row → List Row → Type 0
AreWorded words labels [] [] = Unit {0}
AreWorded words labels (row ∷ rows) (other ∷ others) = IsRowWorded words labels row other × AreWorded words labels rows others
AreWorded words labels _ _ = ⊥
