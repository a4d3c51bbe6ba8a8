-- The line of a loop (docs/CHECK.md, "How it is decided").
use Rattle.std.specs.Prelude.{ℕ, ◌+◌, ◌==◌, Bool, if◌then◌else◌, List, [], ◌++◌, codes, decimal}
use Rattle.std.specs.Int.{bit_at}
use Rattle.std.specs.List.{flat_map, range_with_len}
use Rattle.std.specs.Fmt.{signed_decimal}
use Rattle.c62_op.specs.declared.register.Side.{Side}
use Rattle.c62_op.specs.declared.register.Side.TheVariants.{A, B}
use Rattle.c62_op.specs.Name.{file_letter}
use Rattle.c62_op.specs.Register.{first_of}
use Rattle.c62_pair.specs.declared.reg_set.RegSet.{RegSet}
use Rattle.c62_read.specs.declared.block.SerialInsn.{SerialInsn}
use Rattle.c62_loop_match.specs.declared.early.Early.{Early as EarlyRead}
use Rattle.c62_check_loop.specs.Laws.{may_fault}
use Rattle.c62_check_loop.specs.declared.verdict.LoopVerdict.{LoopVerdict}
use Rattle.c62_check_loop.specs.declared.verdict.LoopVerdict.TheVariants.{Same, SameBut, Missing, Extra, Uneven, Counter, Early, Branch, Outside}

abbrev pub same_words : (trips cycles : ℕ) → List ℕ
same_words trips cycles = (codes " same from " ++ decimal trips) ++ (codes " trips cycles " ++ decimal cycles)

-- the register with this number in a file is one of these
abbrev pub number_in : RegSet → Side → ℕ → Bool
number_in set side number = bit_at set.bits (first_of side + number) == 1

-- ` A4`, where it is one of these
abbrev pub name_words : RegSet → Side → ℕ → List ℕ
name_words but side number = if number_in but side number then codes " " ++ (file_letter side ++ decimal number) else []

-- those of a file
abbrev pub file_words : RegSet → Side → List ℕ
file_words but side = flat_map (name_words but side) (range_with_len 0 16)

-- ` fault L`, of a load into one of these
abbrev pub fault_words : RegSet → SerialInsn → List ℕ
fault_words but entry = if may_fault but entry then codes " fault " ++ decimal entry.line else []

-- ` but A2 A4 fault L`: these registers, and the loads of the block into them
unfoldable pub but_words : RegSet → List SerialInsn → List ℕ
but_words but block = codes " but" ++ (file_words but A ++ (file_words but B ++ flat_map (fault_words but) block))

-- ` early M after L`
abbrev pub pair_words : EarlyRead → List ℕ
pair_words early = (codes " early " ++ decimal early.line) ++ (codes " after " ++ decimal early.after)

-- ` needs N has C`
abbrev pub cycles_words : EarlyRead → List ℕ
cycles_words early = (codes " needs " ++ signed_decimal early.needs) ++ (codes " has " ++ signed_decimal early.has)

unfoldable pub early_words : EarlyRead → List ℕ
early_words early = pair_words early ++ (cycles_words early ++ (codes " apart " ++ decimal early.apart))

abbrev pub words_of : List SerialInsn → LoopVerdict → List ℕ
words_of block (Same trips cycles first last) = same_words trips cycles
words_of block (SameBut trips cycles first last but) = same_words trips cycles ++ but_words but block
words_of block (Missing line) = codes " missing " ++ decimal line
words_of block (Extra line) = codes " extra " ++ decimal line
words_of block (Uneven line) = codes " uneven " ++ decimal line
words_of block (Counter line) = codes " counter " ++ decimal line
words_of block (Early early) = early_words early
words_of block (Branch line) = codes " branch " ++ decimal line
words_of block Outside = codes " outside"

-- that of the loop of this label, which has this block
abbrev pub loop_line : List ℕ → List SerialInsn → LoopVerdict → List ℕ
loop_line label block verdict = codes "loop " ++ (label ++ (words_of block verdict ++ codes "\n"))
