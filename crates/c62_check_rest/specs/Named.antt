-- A block whose branch names a label by another number (docs/CHECK.md, "Other blocks").
use Rattle.std.specs.Prelude.{◌≡◌, ℕ, map}
use Rattle.c62_read.specs.Block.{Serial}
use Rattle.c62_read.specs.Program.{aimed, numbered_of}

-- where the block has a branch to a block, this one has that branch to this number
abbrev pub IsNamed : ℕ → Serial → Serial → Type 0
IsNamed label block named = map numbered_of named.insns ≡ map (aimed label) (map numbered_of block.insns)
