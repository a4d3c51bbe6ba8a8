-- In a picture a block begins with its head.
use Rattle.std.proofs.Common.{◌≡◌, ◌∙◌, ℕ, List, [], ◌∷◌, ◌++◌, length, sym, ap, append_assoc, append-nil}
use Rattle.std.specs.Prelude.{option_map}
use Rattle.c62_packet.specs.declared.placed.Placed.{Placed}
use Rattle.c62_show.specs.declared.shown.Shown.{Shown}
use Rattle.c62_grid.specs.declared.widths.Widths.{Widths}
use Rattle.c62_grid.specs.Grid.{grid}
use Rattle.c62_show.specs.Head.{name, size}
use Rattle.c62_show.specs.Limits.{least_of}
use Rattle.c62_show.specs.Laws.{BeginsWith, IsHeaded}
use Rattle.c62_show.specs.Picture.{block_rows, block_text, limit_lines, rows_of}
use Rattle.c62_show.specs.Registers.{register_lines}
use Rattle.c62_show.specs.Summary.{head_text, size_of}
use Rattle.c62_show.specs.Whys.{whys_table}

all_of : (text : List ℕ) → BeginsWith text text
all_of text = record { rest = []; split = sym (append-nil text) }

more_below : (text part last : List ℕ) → BeginsWith text part → BeginsWith (text ++ last) part
more_below text part last begins = record {
  rest = begins.rest ++ last;
  split = ap (λ front. front ++ last) begins.split ∙ append_assoc part begins.rest last;
}

named : (first text part : List ℕ) → BeginsWith text part → BeginsWith (first ++ text) (first ++ part)
named first text part begins = record {
  rest = begins.rest;
  split = ap (λ rest. first ++ rest) begins.split ∙ sym (append_assoc first part begins.rest);
}

-- the rows of a block that has instructions
rows_begin : (widths : Widths) (shown : Shown)
    → BeginsWith (block_rows widths shown)
    (size (length shown.packets.placed) shown.packets.cycles (option_map least_of shown.limits))
unfolding block_rows
rows_begin widths shown =
    let head = size (length shown.packets.placed) shown.packets.cycles (option_map least_of shown.limits) in
    let limits = limit_lines shown.limits in
    let drawn = grid widths shown.critical.items shown.packets.cycles shown.packets.placed in
    let whys = whys_table shown.whys.items in
    more_below (((head ++ limits) ++ drawn) ++ whys) head (register_lines shown.lives)
    (more_below ((head ++ limits) ++ drawn) head whys
    (more_below (head ++ limits) head drawn (more_below head head limits (all_of head))))

told_begin : (widths : Widths) (shown : Shown) (placed : List Placed)
    → BeginsWith (rows_of widths shown placed) (size_of shown placed)
told_begin widths shown [] = all_of (rows_of widths shown [])
told_begin widths shown (p ∷ placed) = rows_begin widths shown

pub headed : (widths : Widths) (number : ℕ) (shown : Shown) → IsHeaded widths number shown
unfolding block_text head_text
headed widths number shown =
    named (name number shown.packets.label) (rows_of widths shown shown.packets.placed)
    (size_of shown shown.packets.placed)
    (told_begin widths shown shown.packets.placed)
