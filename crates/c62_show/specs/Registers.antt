-- The lines of the registers of both sides (docs/SHOW.md, "Registers").
use Rattle.std.specs.Prelude.{◌≡◌, ℕ, Bool, true, false, List, [], ◌∷◌, ◌++◌, Option, Some, None, codes, decimal}
use Rattle.std.specs.Option.{IsSomeAnd}
use Rattle.std.specs.List.{flat_map}
use Rattle.c62_op.specs.Name.{register_name}
use Rattle.c62_op.specs.declared.register.Side.{Side}
use Rattle.c62_op.specs.declared.register.Side.TheVariants.{A, B}
use Rattle.c62_op.specs.declared.register.Reg.{Reg}
use Rattle.c62_live.specs.declared.lives.Lives.{Lives}
use Rattle.c62_live.specs.declared.lives.SideLives.{SideLives}
use Rattle.c62_live.specs.Lives.{AreLives}
use Rattle.c62_packet.specs.Packed.{Packed}

-- the registers of packets, where they are asked for
abbrev pub TellsLives : Bool → Packed → Option Lives → Type 0
TellsLives false packed lives = lives ≡ None
TellsLives true packed lives = IsSomeAnd lives (AreLives packed.placed packed.cycles)

abbrev pub file_name : Side → List ℕ
file_name A = codes "  live A: "
file_name B = codes "  live B: "

-- `5 at most, in cycle 3; unused`
unfoldable pub most_words : ℕ → ℕ → List ℕ
most_words most cycle = decimal most ++ codes " at most, in cycle " ++ decimal cycle ++ codes "; unused"

abbrev pub names : List Reg → List ℕ
names regs = flat_map (λ reg. codes " " ++ register_name reg) regs

-- ` A0 A10`, or ` none`
abbrev pub unused_words : List Reg → List ℕ
unused_words [] = codes " none"
unused_words (reg ∷ regs) = names (reg ∷ regs)

-- the line of a side
unfoldable pub side_line : Side → SideLives → List ℕ
side_line side lives = file_name side ++ most_words lives.most lives.cycle ++ unused_words lives.unused.items ++ codes "\n"

-- both sides; which registers are live behind a block isn't known
unfoldable pub both_lines : Lives → List ℕ
both_lines lives = side_line A lives.a ++ side_line B lives.b ++ codes "  live behind the block: not known\n"

-- the lines, where they are asked for
abbrev pub register_lines : Option Lives → List ℕ
register_lines None = []
register_lines (Some lives) = both_lines lives
