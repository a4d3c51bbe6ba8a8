-- The page of a program's pipelined loops, beside the lines of its text (docs/PAGE.md, "Pipelined loops").
use Rattle.std.specs.Prelude.{ℕ, ◌+◌, List, [], ◌∷◌, ◌++◌, codes, slice_get}
use Rattle.c62_read.specs.Block.{Serial}
use Rattle.c62_pipeline.specs.declared.chosen.Choice.{Choice}
use Rattle.c62_pipeline.specs.declared.written.Pipelining.{Pipelining}
use Rattle.c62_pipeline.specs.Lines.{choice_line, name_in}
use Rattle.c62_markup.specs.Page.{Piece, number_in, own_in, own_piece, page, text_in}
use Rattle.c62_page.specs.declared.frame.TheConstants.{PAGE_BEGIN, PAGE_HEAD, TEXT_HEAD, BLOCKS_HEAD, BLOCKS_END, PAGE_END}
use Rattle.c62_page.specs.declared.script.TheConstants.{SCRIPT}
use Rattle.c62_page.specs.declared.style.TheConstants.{STYLE}
use Rattle.c62_page.specs.declared.tags.TheConstants.{SECTION_END}
use Rattle.c62_page_loops.specs.declared.frame.TheConstants.{LOOP_ID, STAGES, TO_LOOP}
use Rattle.c62_page_loops.specs.Kernel.{made_part}
use Rattle.c62_page_loops.specs.Text.{text_part}

-- ---- a loop

-- what became of it, as a line tells
unfoldable pub loop_head : List Serial → (number : ℕ) → Choice → List Piece
loop_head blocks number choice =
    number_in LOOP_ID.now number (codes "'><h2>") ++ text_in (codes "") (choice_line blocks choice) (codes "</h2>\n")

unfoldable pub loop_part : List Serial → (number : ℕ) → Choice → List Piece
loop_part blocks number choice =
    loop_head blocks number choice ++ made_part choice.made ++ own_piece SECTION_END.now

-- the loops from this number on
abbrev pub loops_from : List Serial → (number : ℕ) → List Choice → List Piece
loops_from blocks number [] = []
loops_from blocks number (choice ∷ rest) = loop_part blocks number choice ++ loops_from blocks (number + 1) rest

-- ---- the page

-- a link to each loop
unfoldable pub loop_link : List Serial → (number : ℕ) → Choice → List Piece
loop_link blocks number choice =
    number_in TO_LOOP.now number (codes "'>")
    ++ text_in (codes "") (name_in choice.number (slice_get blocks choice.number)) (codes "</a>\n")

abbrev pub links_from : List Serial → (number : ℕ) → List Choice → List Piece
links_from blocks number [] = []
links_from blocks number (choice ∷ rest) = loop_link blocks number choice ++ links_from blocks (number + 1) rest

unfoldable pub page_head : List Serial → Pipelining → List Piece
page_head blocks written =
    own_in PAGE_BEGIN.now STYLE.now STAGES.now
    ++ own_piece PAGE_HEAD.now
    ++ links_from blocks 0 written.loops.items
    ++ own_piece TEXT_HEAD.now

unfoldable pub loops_page_pieces : List ℕ → List Serial → Pipelining → List Piece
loops_page_pieces text blocks written =
    page_head blocks written
    ++ text_part text written
    ++ own_piece BLOCKS_HEAD.now
    ++ loops_from blocks 0 written.loops.items
    ++ own_in BLOCKS_END.now SCRIPT.now PAGE_END.now

-- the bytes of the page
abbrev pub loops_page_of : List ℕ → List Serial → Pipelining → List ℕ
loops_page_of text blocks written = page (loops_page_pieces text blocks written)
