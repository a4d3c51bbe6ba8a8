-- Rows: what holds of each, and how they are made (docs/EXEC.md, "Rows"; SPRU189, "Parallel Operations").
use Rattle.std.specs.Prelude.{◌≡◌, ℕ, ◌+◌, ◌≤◌, Bool, true, false, nat_lt, ◌&&◌, ◌||◌, is_none, List, ◌∷◌, length, map, All}
use Rattle.std.specs.List.{insert, list_any, position_or_len}
use Rattle.std.specs.List.Sorted.{IsStrictlyIncreasing}
use Rattle.c62_op.specs.Units.{index_of}
use Rattle.c62_op.specs.declared.operands.Operands.{Operands}
use Rattle.c62_op.specs.declared.operands.Operands.TheVariants.{Block}
use Rattle.c62_insn.specs.Insn.{operands_of, cond_of}
use Rattle.c62_rules.specs.Capacity.{AreEnough, IsFirstBroken}
use Rattle.c62_packet.specs.declared.placed.Placed.{Placed}
use Rattle.c62_packet.specs.Packed.{StandAsWritten, issued, is_branching}
use Rattle.c62_flight.specs.Text.{Row, Text}
use Rattle.c62_rows.specs.declared.rows.Row.{Row as RowRead}
use Rattle.c62_rows.specs.declared.rows.Rows.{Rows as RowsRead}
use Rattle.c62_rows.specs.declared.fault.RowsCause.{RowsCause}
use Rattle.c62_rows.specs.declared.fault.RowsCause.TheVariants.{Rule, TwoBranches}
use Rattle.c62_rows.specs.declared.reader.TheConstants.{MOST_TARGETS}
use Rattle.c62_adopt_cut.specs.declared.text.TheConstants.{MOST_BYTES}

-- ---- rows as the code has them

abbrev pub row_read : RowRead → Row
row_read row = record { insns = row.insns.items; idle = row.idle }

-- what flies
abbrev pub text_of : RowsRead → Text
text_of rows = record { rows = map row_read rows.rows.items; aims = rows.aims.items }

-- Each instruction of the row stands on its written unit, and in cycle 0, as a row is of any cycle. They keep the packet rules of
-- a cycle, so there is one at most on each of the eight units, and stand in the order of these.
pub record IsRow (row : Row) : Type 0 where
  pub units : StandAsWritten row.insns
  pub cycles : All (λ p. p.cycle ≡ 0) row.insns
  pub enough : AreEnough 0 (issued row.insns)
  pub in_order : IsStrictlyIncreasing (map (λ p. index_of p.unit) row.insns)
  pub few : length row.insns ≤ 8

-- so it is of each row, of which there are no more than bytes; and branches name 256 labels at most
pub record AreRows (rows : RowsRead) : Type 0 where
  pub each : All IsRow (text_of rows).rows
  pub few : length rows.rows.items ≤ MOST_BYTES
  pub aims : length rows.aims.items ≤ MOST_TARGETS

-- ---- an instruction more

abbrev pub stands_behind : Placed → Placed → Bool
stands_behind p other = nat_lt (index_of p.unit) (index_of other.unit)

-- a row lists its instructions in the order of units
abbrev pub with_insn : Placed → Row → Row
with_insn p row = record { insns = insert row.insns (position_or_len (stands_behind p) row.insns) p; idle = row.idle }

abbrev pub with_idle : ℕ → Row → Row
with_idle more row = record { insns = row.insns; idle = row.idle + more }

-- ---- what stands against it

abbrev pub goes_to_label : Operands → Bool
goes_to_label (Block number) = true
goes_to_label operands = false

-- Two branches may not share a packet where neither has a condition, so that both run, nor where both go to labels (SPRU189, B).
abbrev pub are_two_branches : Placed → Placed → Bool
are_two_branches p q =
    is_branching p && is_branching q && (is_none (cond_of p.insn) && is_none (cond_of q.insn) || goes_to_label (operands_of p.insn) && goes_to_label (operands_of q.insn))

-- the instruction may stand in a packet with these
pub record MayJoin (above : List Placed) (p : Placed) : Type 0 where
  pub enough : AreEnough 0 (issued (p ∷ above))
  pub branches : list_any (are_two_branches p) above ≡ false

-- the first that stands against it: a packet rule, or another branch
abbrev pub IsBreach : List Placed → Placed → RowsCause → Type 0
IsBreach above p (Rule rule) = IsFirstBroken rule 0 (issued (p ∷ above))
IsBreach above p TwoBranches = AreEnough 0 (issued (p ∷ above)) × (list_any (are_two_branches p) above ≡ true)
IsBreach above p _ = ⊥
