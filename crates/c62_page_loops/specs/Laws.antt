-- What holds of pages of loops.
use Rattle.std.specs.Prelude.{◌≡◌, ℕ, List, length}
use Rattle.std.specs.List.{filter, flat_map}
use Rattle.c62_read.specs.Block.{Serial}
use Rattle.c62_read.specs.Text.{lines_of}
use Rattle.c62_pipeline.specs.declared.written.Pipelining.{Pipelining}
use Rattle.c62_markup.specs.Laws.{is_angle}
use Rattle.c62_markup.specs.Page.{own}
use Rattle.c62_page_loops.specs.Page.{loops_page_of, loops_page_pieces}

-- The pages of the same loops have the same `<` and `>`, in their order, whatever their lines are, as many, and their blocks with
-- their labels: none comes from a line, with its operands and its comment, or from a label.
abbrev pub AnglesAreTheSame : List ℕ → List ℕ → List Serial → List Serial → Pipelining → Type 0
AnglesAreTheSame text other blocks others written =
    length (lines_of text) ≡ length (lines_of other)
    → filter is_angle (loops_page_of text blocks written) ≡ filter is_angle (loops_page_of other others written)

-- and what the page's maker wrote of them is the same
abbrev pub OwnIsTheSame : List ℕ → List ℕ → List Serial → List Serial → Pipelining → Type 0
OwnIsTheSame text other blocks others written =
    length (lines_of text) ≡ length (lines_of other)
    → flat_map own (loops_page_pieces text blocks written) ≡ flat_map own (loops_page_pieces other others written)
