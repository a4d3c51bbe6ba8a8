-- A text of packets by rows (docs/ADOPT.md, "Cycles"). A row is a packet; rows are numbered from 0 in the order of the text.
use Rattle.std.specs.Prelude.{ℕ, ◌+◌, ◌-◌, ◌*◌, ◌/◌, ◌^◌, ◌<◌, ◌≤◌, nat_le, All, map, sum_by, Bool, ◌==◌, ◌&&◌, if◌then◌else◌, List, [], length, slice_index_or, Option, Some, None}
use Rattle.std.specs.List.Sorted.{IsStrictlyIncreasing}
use Rattle.c62_op.specs.Units.{index_of}
use Rattle.c62_insn.specs.declared.effect.Target.{Target}
use Rattle.c62_insn.specs.declared.effect.Target.TheVariants.{Block as ToBlock, Register as ToRegister}
use Rattle.c62_packet.specs.declared.placed.Placed.{Placed}

-- The instructions of a packet in the order of units, whatever cycle stands in them, and how many cycles it takes behind its
-- first: n - 1 with a NOP of n cycles, alone or beside them (SPRU189, "Multicycle NOPs").
pub record Row : Type 0 where
  pub insns : List Placed
  pub idle : ℕ

-- The rows, and of each label that branches name the row that begins below it, or the number of rows where none does.
pub record Text : Type 0 where
  pub rows : List Row
  pub aims : List ℕ

-- behind the last row a text goes on as cycles without instructions
abbrev pub no_row : Row
no_row = record { insns = []; idle = 0 }

abbrev pub row_of : Text → ℕ → Row
row_of text number = slice_index_or text.rows number no_row

abbrev pub aim_of : Text → ℕ → ℕ
aim_of text number = slice_index_or text.aims number (length text.rows)

-- how many instructions it has
abbrev pub insns_in : Text → ℕ
insns_in text = sum_by (λ row. length row.insns) text.rows

-- The units can issue each row: its instructions stand in the order of the eight units, at most one on each (SPRU189, "Parallel
-- Operations").
pub record IsIssuable (text : Text) : Type 0 where
  pub in_order : All (λ row. IsStrictlyIncreasing (map (λ p. index_of p.unit) row.insns)) text.rows
  pub few_insns : All (λ row. length row.insns ≤ 8) text.rows
  pub few_rows : length text.rows < 2 ^ 32

-- where a run stands: before a row, or outside the text with the word of a branch's register
pub data Position : Type 0 where
  At : ℕ → Position
  Outside : ℕ → Position

-- ---- addresses

-- The address of a row: a multiple of 32, as if each packet had a fetch packet of its own (docs/EXEC.md, "Labels as words").
-- Rows lie in no memory. Where data memory begins at 0, it holds none of these addresses. Of a text of n rows it holds one exactly
-- where it begins at an address from 2147483648 - 65532 to address_of n, as it has 65536 bytes and begins at a multiple of 4.
abbrev pub address_of : ℕ → ℕ
address_of row = 2147483648 + 32 * row

-- the row whose address a word is, if it is one
abbrev pub row_at : ℕ → ℕ
row_at word = (word - 2147483648) / 32

-- it is that of a row of the text, or of the one behind the last, which a label at the end of the text names
abbrev pub is_address : Text → ℕ → Bool
is_address text word = (address_of (row_at word) == word) && nat_le (row_at word) (length text.rows)

-- where a branch goes; one to a register goes to the row whose address that held, or else out of the text
abbrev pub leads_to : Text → Target → Position
leads_to text (ToBlock number) = At (aim_of text number)
leads_to text (ToRegister word) = if is_address text word then At (row_at word) else Outside word

-- where a run stands when a row is over: where the branch goes that takes effect then, if one does, else before the next row
abbrev pub position_after : Text → ℕ → Option Target → Position
position_after text row None = At (row + 1)
position_after text row (Some target) = leads_to text target
