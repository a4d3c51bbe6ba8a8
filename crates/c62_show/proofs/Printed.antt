-- The row of each instruction is printed, with its cell.
use Rattle.std.proofs.Common.{arith, ◌≡◌, ◌∙◌, ℕ, zero, suc, ◌+◌, ◌<◌, ◌≤◌, true, List, [], ◌∷◌, ◌++◌, length, get_or}
use Rattle.std.proofs.Common.{Some, refl, sym, ap, subst, append_assoc, append-nil}
use Rattle.std.specs.Prelude.{find, option_map, slice_get}
use Rattle.std.specs.List.{flat_map, range_with_len}
use Rattle.std.proofs.lemmas.Bool.Decides.{nat_tests}
use Rattle.std.proofs.lemmas.List.FromFn.{get_or-range_with_len, length-range_with_len}
use Rattle.std.proofs.lemmas.Option.{get_or_from_slice_get, same_Some, slice_get-get_or, slice_get_within}
use Rattle.c62_op.specs.declared.register.Unit.{Unit as FunctionalUnit}
use Rattle.c62_op.specs.declared.register.Letter.{Letter}
use Rattle.c62_op.specs.declared.register.Letter.TheVariants.{L, S, M, D}
use Rattle.c62_op.specs.declared.register.Side.{Side}
use Rattle.c62_op.specs.declared.register.Side.TheVariants.{A, B}
use Rattle.c62_op.specs.Units.{all_units}
use Rattle.c62_rules.specs.Length.{landing_end}
use Rattle.c62_packet.specs.declared.placed.Placed.{Placed}
use Rattle.c62_packet.specs.Packed.{IsPacketBlock, issue_of}
use Rattle.c62_show.specs.declared.shown.Shown.{Shown}
use Rattle.c62_grid.specs.declared.widths.Widths.{Widths}
use Rattle.c62_grid.specs.Grid.{cell, cells, cycle_row, grid, heads, insn_cell, is_issued, is_on, packet, row_at, rows}
use Rattle.c62_grid.specs.Grid.{use_row}
use Rattle.c62_show.specs.Head.{name, size}
use Rattle.c62_show.specs.Limits.{least_of}
use Rattle.c62_show.specs.Laws.{AreAllPrinted, HasPart}
use Rattle.c62_show.specs.Picture.{block_rows, block_text, blocks_from, gap, limit_lines, rows_of, widths_of}
use Rattle.c62_show.specs.Whys.{whys_table}
use Rattle.c62_show.specs.Registers.{register_lines}
use Rattle.c62_grid.specs.Words.{line}
use Rattle.c62_show.proofs.Cells.{all_shown}

-- ---- parts of parts

whole_part : (text : List ℕ) → HasPart text text
whole_part text = record { before = []; behind = []; split = sym (append-nil text) }

behind_text : (first text part : List ℕ) → HasPart text part → HasPart (first ++ text) part
behind_text first text part has = record {
  before = first ++ has.before;
  behind = has.behind;
  split = ap (λ rest. first ++ rest) has.split ∙ sym (append_assoc first has.before (part ++ has.behind));
}

before_text : (text last part : List ℕ) → HasPart text part → HasPart (text ++ last) part
before_text text last part has = record {
  before = has.before;
  behind = has.behind ++ last;
  split =
      ap (λ front. front ++ last) has.split ∙ append_assoc has.before (part ++ has.behind) last
      ∙ ap (λ rest. has.before ++ rest) (append_assoc part has.behind last);
}

part_of_each : {X : Type 0} (f : X → List ℕ) (xs : List X) (k : ℕ) (x : X) (part : List ℕ) → slice_get xs k ≡ Some x
    → HasPart (f x) part
    → HasPart (flat_map f xs) part
part_of_each f [] k x part at has = absurd cc
part_of_each f (y ∷ xs) zero x part at has =
    let same : y ≡ x = same_Some y x at in
    before_text (f y) (flat_map f xs) part (subst (λ each. HasPart (f each) part) (sym same) has)
part_of_each f (y ∷ xs) (suc k) x part at has = behind_text (f y) (flat_map f xs) part
    (part_of_each f xs k x part at has)

-- ---- the cell

pub unit_at : (unit : FunctionalUnit) → (k : ℕ) × (slice_get all_units k ≡ Some unit)
unit_at unit = by_unit unit.letter unit.side
  where
    by_unit : (letter : Letter) (side : Side) → (k : ℕ)
        × (slice_get all_units k ≡ Some (record { letter = letter; side = side }))
    by_unit L A = (0, refl)
    by_unit S A = (1, refl)
    by_unit M A = (2, refl)
    by_unit D A = (3, refl)
    by_unit L B = (4, refl)
    by_unit S B = (5, refl)
    by_unit M B = (6, refl)
    by_unit D B = (7, refl)

cell_part : (widths : Widths) (path : List ℕ) (issued : List Placed) (p : Placed) → find (is_on p.unit) issued ≡ Some p
    → HasPart (cells widths path issued) (insn_cell widths path p)
cell_part widths path issued p found =
    let at = unit_at p.unit in
    part_of_each (λ unit. cell widths path (find (is_on unit) issued)) all_units at.0 p.unit (insn_cell widths path p)
    at.1
    (subst (λ one. HasPart (cell widths path one) (insn_cell widths path p)) (sym found)
    (whole_part (insn_cell widths path p)))

-- ---- the row

issued_in : (placed : List Placed) (k : ℕ) (p : Placed) → slice_get placed k ≡ Some p → is_issued placed p.cycle ≡ true
issued_in [] k p at = absurd cc
issued_in (q ∷ placed) zero p at = let same : q.cycle ≡ p.cycle = ap (λ (r : Placed). r.cycle) (same_Some q p at) in
    grind (arith, nat_tests)
issued_in (q ∷ placed) (suc k) p at = let later = issued_in placed k p at in grind (arith, nat_tests, later)

row_is : (widths : Widths) (path : List ℕ) (cycles : ℕ) (placed : List Placed) (cycle : ℕ)
    → is_issued placed cycle ≡ true
    → row_at widths path cycles placed cycle ≡ line (cycle_row widths path placed cycle)
unfolding row_at
row_is widths path cycles placed cycle issued = rw issued refl

pub cycle_in : (cycles cycle : ℕ) → cycle < cycles → slice_get (range_with_len 0 cycles) cycle ≡ Some cycle
cycle_in cycles cycle less =
    slice_get-get_or (range_with_len 0 cycles) cycle 0
    (let long = length-range_with_len 0 cycles in omega (arith, long, less))
    ∙ ap Some (let at = get_or-range_with_len 0 cycles cycle 0 less in omega (arith, at))

row_part : (widths : Widths) (path : List ℕ) (cycles : ℕ) (placed : List Placed) (cycle : ℕ) → cycle < cycles
    → is_issued placed cycle ≡ true
    → HasPart (rows widths path cycles placed) (line (cycle_row widths path placed cycle))
row_part widths path cycles placed cycle less issued =
    part_of_each (row_at widths path cycles placed) (range_with_len 0 cycles) cycle cycle
    (line (cycle_row widths path placed cycle)) (cycle_in cycles cycle less)
    (subst (λ row. HasPart row (line (cycle_row widths path placed cycle)))
    (sym (row_is widths path cycles placed cycle issued))
    (whole_part (line (cycle_row widths path placed cycle))))

grid_part : (widths : Widths) (path : List ℕ) (cycles : ℕ) (placed : List Placed) (part : List ℕ)
    → HasPart (rows widths path cycles placed) part
    → HasPart (grid widths path cycles placed) part
unfolding grid
grid_part widths path cycles placed part has =
    before_text (line (heads widths) ++ rows widths path cycles placed) (line (use_row widths cycles placed)) part
    (behind_text (line (heads widths)) (rows widths path cycles placed) part has)

-- ---- the block

rows_part : (widths : Widths) (shown : Shown) (part : List ℕ)
    → HasPart (grid widths shown.critical.items shown.packets.cycles shown.packets.placed) part
    → HasPart (block_rows widths shown) part
unfolding block_rows
rows_part widths shown part has =
    let above = size (length shown.packets.placed) shown.packets.cycles (option_map least_of shown.limits) ++
    limit_lines shown.limits in
    let drawn = grid widths shown.critical.items shown.packets.cycles shown.packets.placed in
    before_text ((above ++ drawn) ++ whys_table shown.whys.items) (register_lines shown.lives) part
    (before_text (above ++ drawn) (whys_table shown.whys.items) part (behind_text above drawn part has))

told_part : (widths : Widths) (shown : Shown) (placed : List Placed) (k : ℕ) (p : Placed) (part : List ℕ)
    → slice_get placed k ≡ Some p
    → HasPart (block_rows widths shown) part → HasPart (rows_of widths shown placed) part
told_part widths shown [] k p part at has = absurd cc
told_part widths shown (q ∷ placed) k p part at has = has

block_part : (widths : Widths) (number : ℕ) (shown : Shown) (part : List ℕ)
    → HasPart (rows_of widths shown shown.packets.placed) part
    → HasPart (block_text widths number shown) part
unfolding block_text
block_part widths number shown part has = behind_text (name number shown.packets.label)
    (rows_of widths shown shown.packets.placed) part has

blocks_part : (widths : Widths) (number : ℕ) (shown : List Shown) (k : ℕ) (each : Shown) (part : List ℕ)
    → slice_get shown k ≡ Some each
    → ((at : ℕ) → HasPart (block_text widths at each) part) → HasPart (blocks_from widths number shown) part
blocks_part widths number [] k each part at has = absurd cc
blocks_part widths number (first ∷ shown) zero each part at has =
    let same : first ≡ each = same_Some first each at in
    before_text (gap number ++ block_text widths number first) (blocks_from widths (number + 1) shown) part
    (behind_text (gap number) (block_text widths number first) part
    (subst (λ one. HasPart (block_text widths number one) part) (sym same) (has number)))
blocks_part widths number (first ∷ shown) (suc k) each part at has =
    behind_text (gap number ++ block_text widths number first) (blocks_from widths (number + 1) shown) part
    (blocks_part widths (number + 1) shown k each part at has)

-- ---- the picture

pub before_end : (each : Shown) (k : ℕ) (p : Placed) → IsPacketBlock each.packets
    → slice_get each.packets.placed k ≡ Some p
    → p.cycle < each.packets.cycles
before_end each k p sound at =
    let inside = slice_get_within each.packets.placed k p at in
    let ends : landing_end (issue_of (get_or each.packets.placed k p)) ≤ each.packets.cycles = sound.drained k p inside
    in
    let same = get_or_from_slice_get each.packets.placed k p p at in
    let cycle : (get_or each.packets.placed k p).cycle ≡ p.cycle = ap (λ (q : Placed). q.cycle) same in
    omega (arith, ends, cycle)

pub all_printed : (shown : List Shown) → AreAllPrinted shown
all_printed shown number k each p at sound placed =
    let widths = widths_of shown in
    let path = each.critical.items in
    let row = line (cycle_row widths path each.packets.placed p.cycle) in
    let printed = row_part widths path each.packets.cycles each.packets.placed p.cycle
    (before_end each k p sound placed) (issued_in each.packets.placed k p placed) in
    let told = rows_part widths each row (grid_part widths path each.packets.cycles each.packets.placed row printed) in
    record {
      row =
          blocks_part widths 0 shown number each row at
          (λ block. block_part widths block each row (told_part widths each each.packets.placed k p row placed told));
      cell = cell_part widths path (packet each.packets.placed p.cycle) p (all_shown each.packets k p sound placed);
    }
