-- What a page of loops writes of its own, with other lines and other blocks.
use Rattle.std.proofs.Common.{◌≡◌, Bool, ℕ, ◌+◌, List, [], ◌∷◌, ◌++◌, length, refl, arith}
use Rattle.std.specs.Prelude.{codes, nat_lt, slice_get}
use Rattle.c62_read.specs.Block.{Serial}
use Rattle.c62_read.specs.Text.{lines_of}
use Rattle.c62_pipeline.specs.declared.chosen.Choice.{Choice}
use Rattle.c62_pipeline.specs.declared.written.Pipelining.{Pipelining}
use Rattle.c62_pipeline.specs.Lines.{choice_line, name_in}
use Rattle.c62_markup.specs.Page.{number_in, own_in, own_piece, text_in}
use Rattle.c62_markup.proofs.Pages.{other_text, owned, same_angles, same_parts}
use Rattle.c62_page.specs.declared.frame.TheConstants.{BLOCKS_END, BLOCKS_HEAD, PAGE_BEGIN, PAGE_END, PAGE_HEAD, TEXT_HEAD}
use Rattle.c62_page.specs.declared.script.TheConstants.{SCRIPT}
use Rattle.c62_page.specs.declared.style.TheConstants.{STYLE}
use Rattle.c62_page.specs.declared.tags.TheConstants.{SECTION_END}
use Rattle.c62_page.specs.Text.{line_row}
use Rattle.c62_page.proofs.Owned.{line_is}
use Rattle.c62_page_loops.specs.declared.frame.TheConstants.{LOOP_ID, STAGES, TO_LOOP}
use Rattle.c62_page_loops.specs.Kernel.{made_part}
use Rattle.c62_page_loops.specs.Text.{is_drawn, lines_from, text_part}
use Rattle.c62_page_loops.specs.Page.{links_from, loop_head, loop_link, loop_part, loops_from, loops_page_pieces, page_head}
use Rattle.c62_page_loops.specs.Laws.{AnglesAreTheSame, OwnIsTheSame}

-- ---- other lines

lines_are : (written : Pipelining) (number : ℕ) (lines others : List (List ℕ)) → length lines ≡ length others
    → owned (lines_from written number lines) ≡ owned (lines_from written number others)
lines_are written number [] [] same = refl
lines_are written number [] (other ∷ others) same = absurd (omega (arith, same))
lines_are written number (line ∷ lines) [] same = absurd (omega (arith, same))
lines_are written number (line ∷ lines) (other ∷ others) same =
    same_parts (line_row (is_drawn written number) number line) (line_row (is_drawn written number) number other)
    (lines_from written (number + 1) lines) (lines_from written (number + 1) others)
    (line_is (is_drawn written number) number line other)
    (lines_are written (number + 1) lines others (omega (arith, same)))

text_is : (text other : List ℕ) (written : Pipelining) → length (lines_of text) ≡ length (lines_of other)
    → owned (text_part text written) ≡ owned (text_part other written)
unfolding text_part
text_is text other written same =
    let begin = own_piece (codes "<ol>\n") in
    let end = own_piece (codes "</ol>\n") in
    let lines = lines_from written 1 (lines_of text) in
    let others = lines_from written 1 (lines_of other) in
    same_parts (begin ++ lines) (begin ++ others) end end
    (same_parts begin begin lines others refl (lines_are written 1 (lines_of text) (lines_of other) same)) refl

-- ---- other blocks

link_is : (blocks others : List Serial) (number : ℕ) (choice : Choice)
    → owned (loop_link blocks number choice) ≡ owned (loop_link others number choice)
unfolding loop_link
link_is blocks others number choice =
    let begin = number_in TO_LOOP.now number (codes "'>") in
    let one = name_in choice.number (slice_get blocks choice.number) in
    let other = name_in choice.number (slice_get others choice.number) in
    same_parts begin begin (text_in (codes "") one (codes "</a>\n")) (text_in (codes "") other (codes "</a>\n")) refl
    (other_text (codes "") one other (codes "</a>\n"))

links_are : (blocks others : List Serial) (number : ℕ) (choices : List Choice)
    → owned (links_from blocks number choices) ≡ owned (links_from others number choices)
links_are blocks others number [] = refl
links_are blocks others number (choice ∷ rest) =
    same_parts (loop_link blocks number choice) (loop_link others number choice) (links_from blocks (number + 1) rest)
    (links_from others (number + 1) rest) (link_is blocks others number choice) (links_are blocks others (number + 1) rest)

page_head_is : (blocks others : List Serial) (written : Pipelining) → owned (page_head blocks written) ≡ owned (page_head others written)
unfolding page_head
page_head_is blocks others written =
    let begin = own_in PAGE_BEGIN.now STYLE.now STAGES.now ++ own_piece PAGE_HEAD.now in
    let one = links_from blocks 0 written.loops.items in
    let other = links_from others 0 written.loops.items in
    let end = own_piece TEXT_HEAD.now in
    same_parts (begin ++ one) (begin ++ other) end end
    (same_parts begin begin one other refl (links_are blocks others 0 written.loops.items)) refl

loop_head_is : (blocks others : List Serial) (number : ℕ) (choice : Choice)
    → owned (loop_head blocks number choice) ≡ owned (loop_head others number choice)
unfolding loop_head
loop_head_is blocks others number choice =
    let begin = number_in LOOP_ID.now number (codes "'><h2>") in
    let one = choice_line blocks choice in
    let other = choice_line others choice in
    same_parts begin begin (text_in (codes "") one (codes "</h2>\n")) (text_in (codes "") other (codes "</h2>\n")) refl
    (other_text (codes "") one other (codes "</h2>\n"))

loop_is : (blocks others : List Serial) (number : ℕ) (choice : Choice)
    → owned (loop_part blocks number choice) ≡ owned (loop_part others number choice)
unfolding loop_part
loop_is blocks others number choice =
    let one = loop_head blocks number choice in
    let other = loop_head others number choice in
    let rows = made_part choice.made in
    let end = own_piece SECTION_END.now in
    same_parts (one ++ rows) (other ++ rows) end end
    (same_parts one other rows rows (loop_head_is blocks others number choice) refl) refl

loops_are : (blocks others : List Serial) (number : ℕ) (choices : List Choice)
    → owned (loops_from blocks number choices) ≡ owned (loops_from others number choices)
loops_are blocks others number [] = refl
loops_are blocks others number (choice ∷ rest) =
    same_parts (loop_part blocks number choice) (loop_part others number choice)
    (loops_from blocks (number + 1) rest) (loops_from others (number + 1) rest)
    (loop_is blocks others number choice) (loops_are blocks others (number + 1) rest)

-- ---- both

pub own_is_the_same : (text other : List ℕ) (blocks others : List Serial) (written : Pipelining)
    → OwnIsTheSame text other blocks others written
unfolding loops_page_pieces
own_is_the_same text other blocks others written same =
    let head = page_head blocks written in
    let other_head = page_head others written in
    let lines = text_part text written in
    let other_lines = text_part other written in
    let middle = own_piece BLOCKS_HEAD.now in
    let loops = loops_from blocks 0 written.loops.items in
    let other_loops = loops_from others 0 written.loops.items in
    let end = own_in BLOCKS_END.now SCRIPT.now PAGE_END.now in
    same_parts (((head ++ lines) ++ middle) ++ loops) (((other_head ++ other_lines) ++ middle) ++ other_loops) end end
    (same_parts ((head ++ lines) ++ middle) ((other_head ++ other_lines) ++ middle) loops other_loops
    (same_parts (head ++ lines) (other_head ++ other_lines) middle middle
    (same_parts head other_head lines other_lines (page_head_is blocks others written) (text_is text other written same)) refl)
    (loops_are blocks others 0 written.loops.items)) refl

pub angles_are_the_same : (text other : List ℕ) (blocks others : List Serial) (written : Pipelining)
    → AnglesAreTheSame text other blocks others written
angles_are_the_same text other blocks others written same =
    same_angles (loops_page_pieces text blocks written) (loops_page_pieces other others written)
    (own_is_the_same text other blocks others written same)
