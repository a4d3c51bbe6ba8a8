-- What a page writes of its own, with other lines and other labels.
use Rattle.std.proofs.Common.{◌≡◌, ◌∙◌, Bool, ◌||◌, ℕ, ◌+◌, List, [], ◌∷◌, ◌++◌, length, map, None, refl, sym, ap, arith}
use Rattle.std.specs.Prelude.{codes}
use Rattle.c62_read.specs.Text.{lines_of}
use Rattle.c62_packet.specs.declared.placed.Placed.{Placed}
use Rattle.c62_show.specs.declared.shown.Shown.{Shown}
use Rattle.c62_show.specs.Head.{name}
use Rattle.c62_show.specs.Summary.{size_of}
use Rattle.c62_markup.specs.Page.{number_in, own_in, own_piece, text_in}
use Rattle.c62_markup.proofs.Pages.{other_text, owned, same_angles, same_parts}
use Rattle.c62_page.specs.declared.tags.TheConstants.{LINE_END, SECTION_END, SECTION_ID, TO_BLOCK}
use Rattle.c62_page.specs.declared.frame.TheConstants.{BLOCKS_HEAD, PAGE_BEGIN, PAGE_HEAD, TEXT_HEAD}
use Rattle.c62_page.specs.declared.style.TheConstants.{STYLE}
use Rattle.c62_page.specs.Text.{has_line, is_shown, line_begin, line_row, lines_from, text_part}
use Rattle.c62_page.specs.Block.{block_head, block_part, block_rows, blocks_from, rows_of}
use Rattle.c62_page.specs.Page.{block_link, links_from, page_end, page_head, page_pieces}
use Rattle.c62_page.specs.Laws.{AnglesAreTheSame, OwnIsTheSame, unlabelled}

-- ---- other lines

pub line_is : (is_told : Bool) (number : ℕ) (line other : List ℕ)
    → owned (line_row is_told number line) ≡ owned (line_row is_told number other)
unfolding line_row
line_is is_told number line other =
    same_parts (line_begin is_told number) (line_begin is_told number) (text_in (codes "<code>") line LINE_END.now)
    (text_in (codes "<code>") other LINE_END.now) refl (other_text (codes "<code>") line other LINE_END.now)

lines_are : (shown : List Shown) (number : ℕ) (lines others : List (List ℕ)) → length lines ≡ length others
    → owned (lines_from shown number lines) ≡ owned (lines_from shown number others)
lines_are shown number [] [] same = refl
lines_are shown number [] (other ∷ others) same = absurd (omega (arith, same))
lines_are shown number (line ∷ lines) [] same = absurd (omega (arith, same))
lines_are shown number (line ∷ lines) (other ∷ others) same =
    same_parts (line_row (is_shown shown number) number line) (line_row (is_shown shown number) number other)
    (lines_from shown (number + 1) lines) (lines_from shown (number + 1) others)
    (line_is (is_shown shown number) number line other)
    (lines_are shown (number + 1) lines others (omega (arith, same)))

text_is : (text other : List ℕ) (shown : List Shown) → length (lines_of text) ≡ length (lines_of other)
    → owned (text_part text shown) ≡ owned (text_part other shown)
unfolding text_part
text_is text other shown same =
    let begin = own_piece (codes "<ol>\n") in
    let end = own_piece (codes "</ol>\n") in
    let lines = lines_from shown 1 (lines_of text) in
    let others = lines_from shown 1 (lines_of other) in
    same_parts (begin ++ lines) (begin ++ others) end end
    (same_parts begin begin lines others refl (lines_are shown 1 (lines_of text) (lines_of other) same)) refl

other_lines : (text other : List ℕ) (shown : List Shown) → length (lines_of text) ≡ length (lines_of other)
    → owned (page_pieces text shown) ≡ owned (page_pieces other shown)
unfolding page_pieces
other_lines text other shown same =
    let head = page_head shown in
    let one = text_part text shown in
    let two = text_part other shown in
    let middle = own_piece BLOCKS_HEAD.now in
    let blocks = blocks_from 0 shown in
    same_parts (((head ++ one) ++ middle) ++ blocks) (((head ++ two) ++ middle) ++ blocks) page_end page_end
    (same_parts ((head ++ one) ++ middle) ((head ++ two) ++ middle) blocks blocks
    (same_parts (head ++ one) (head ++ two) middle middle
    (same_parts head head one two refl (text_is text other shown same)) refl) refl) refl

-- ---- no labels

is_shown_as : (shown : List Shown) (number : ℕ) → is_shown (map unlabelled shown) number ≡ is_shown shown number
is_shown_as [] number = refl
is_shown_as (each ∷ rest) number = ap (λ is_behind. has_line number each.packets.placed || is_behind)
    (is_shown_as rest number)

lines_as : (shown : List Shown) (number : ℕ) (lines : List (List ℕ))
    → lines_from (map unlabelled shown) number lines ≡ lines_from shown number lines
lines_as shown number [] = refl
lines_as shown number (line ∷ rest) =
    ap (λ is_told. line_row is_told number line ++ lines_from (map unlabelled shown) (number + 1) rest)
    (is_shown_as shown number)
    ∙ ap (λ pieces. line_row (is_shown shown number) number line ++ pieces) (lines_as shown (number + 1) rest)

text_as : (text : List ℕ) (shown : List Shown) → text_part text (map unlabelled shown) ≡ text_part text shown
unfolding text_part
text_as text shown =
    ap (λ lines. (own_piece (codes "<ol>\n") ++ lines) ++ own_piece (codes "</ol>\n")) (lines_as shown 1 (lines_of text))

link_is : (number : ℕ) (each : Shown) → owned (block_link number (unlabelled each)) ≡ owned (block_link number each)
unfolding block_link
link_is number each =
    let begin = number_in TO_BLOCK.now number (codes "'>") in
    same_parts begin begin (text_in (codes "") (name number None) (codes "</a>\n"))
    (text_in (codes "") (name number each.packets.label) (codes "</a>\n")) refl
    (other_text (codes "") (name number None) (name number each.packets.label) (codes "</a>\n"))

links_are : (number : ℕ) (shown : List Shown) → owned (links_from number (map unlabelled shown)) ≡ owned (links_from number shown)
links_are number [] = refl
links_are number (each ∷ rest) =
    same_parts (block_link number (unlabelled each)) (block_link number each) (links_from (number + 1) (map unlabelled rest))
    (links_from (number + 1) rest) (link_is number each) (links_are (number + 1) rest)

head_is : (shown : List Shown) → owned (page_head (map unlabelled shown)) ≡ owned (page_head shown)
unfolding page_head
head_is shown =
    let begin = own_in PAGE_BEGIN.now STYLE.now PAGE_HEAD.now in
    let end = own_piece TEXT_HEAD.now in
    let links = links_from 0 (map unlabelled shown) in
    same_parts (begin ++ links) (begin ++ links_from 0 shown) end end
    (same_parts begin begin links (links_from 0 shown) refl (links_are 0 shown)) refl

block_head_is : (number : ℕ) (each : Shown) → owned (block_head number (unlabelled each)) ≡ owned (block_head number each)
unfolding block_head
block_head_is number each =
    let begin = number_in SECTION_ID.now number (codes "'><h2>") in
    let none = text_in (codes "<b>") (name number None) (codes "</b>") in
    let label = text_in (codes "<b>") (name number each.packets.label) (codes "</b>") in
    same_parts (begin ++ none) (begin ++ label)
    (text_in (codes "") (size_of (unlabelled each) each.packets.placed) (codes "</h2>\n"))
    (text_in (codes "") (size_of each each.packets.placed) (codes "</h2>\n"))
    (same_parts begin begin none label refl
    (other_text (codes "<b>") (name number None) (name number each.packets.label) (codes "</b>")))
    (other_text (codes "") (size_of (unlabelled each) each.packets.placed) (size_of each each.packets.placed) (codes "</h2>\n"))

rows_as : (each : Shown) (placed : List Placed) → rows_of (unlabelled each) placed ≡ rows_of each placed
unfolding block_rows
rows_as each [] = refl
rows_as each (p ∷ placed) = refl

block_is : (number : ℕ) (each : Shown) → owned (block_part number (unlabelled each)) ≡ owned (block_part number each)
unfolding block_part
block_is number each =
    let none = block_head number (unlabelled each) in
    let label = block_head number each in
    let rows_none = rows_of (unlabelled each) each.packets.placed in
    let rows = rows_of each each.packets.placed in
    let end = own_piece SECTION_END.now in
    same_parts (none ++ rows_none) (label ++ rows) end end
    (same_parts none label rows_none rows (block_head_is number each)
    (ap (λ pieces. owned pieces) (rows_as each each.packets.placed))) refl

blocks_are : (number : ℕ) (shown : List Shown) → owned (blocks_from number (map unlabelled shown)) ≡ owned (blocks_from number shown)
blocks_are number [] = refl
blocks_are number (each ∷ rest) =
    same_parts (block_part number (unlabelled each)) (block_part number each) (blocks_from (number + 1) (map unlabelled rest))
    (blocks_from (number + 1) rest) (block_is number each) (blocks_are (number + 1) rest)

no_labels : (text : List ℕ) (shown : List Shown) → owned (page_pieces text (map unlabelled shown)) ≡ owned (page_pieces text shown)
unfolding page_pieces
no_labels text shown =
    let none = page_head (map unlabelled shown) in
    let head = page_head shown in
    let text_none = text_part text (map unlabelled shown) in
    let lines = text_part text shown in
    let middle = own_piece BLOCKS_HEAD.now in
    let blocks_none = blocks_from 0 (map unlabelled shown) in
    let blocks = blocks_from 0 shown in
    same_parts (((none ++ text_none) ++ middle) ++ blocks_none) (((head ++ lines) ++ middle) ++ blocks) page_end page_end
    (same_parts ((none ++ text_none) ++ middle) ((head ++ lines) ++ middle) blocks_none blocks
    (same_parts (none ++ text_none) (head ++ lines) middle middle
    (same_parts none head text_none lines (head_is shown) (ap (λ pieces. owned pieces) (text_as text shown))) refl)
    (blocks_are 0 shown)) refl

-- ---- both

pub own_is_the_same : (text other : List ℕ) (shown others : List Shown) → OwnIsTheSame text other shown others
own_is_the_same text other shown others differ =
    sym (no_labels text shown)
    ∙ (ap (λ blocks. owned (page_pieces text blocks)) differ.blocks
    ∙ (no_labels text others ∙ other_lines text other others differ.lines))

pub angles_are_the_same : (text other : List ℕ) (shown others : List Shown) → AnglesAreTheSame text other shown others
angles_are_the_same text other shown others differ =
    same_angles (page_pieces text shown) (page_pieces other others) (own_is_the_same text other shown others differ)
