-- The page of blocks that are shown, beside the lines of their text (docs/PAGE.md).
use Rattle.std.specs.Prelude.{ℕ, ◌+◌, List, [], ◌∷◌, ◌++◌, codes}
use Rattle.c62_show.specs.declared.shown.Shown.{Shown}
use Rattle.c62_show.specs.Head.{name}
use Rattle.c62_markup.specs.Page.{Piece, number_in, own_in, own_piece, page, text_in}
use Rattle.c62_page.specs.declared.tags.TheConstants.{TO_BLOCK}
use Rattle.c62_page.specs.declared.frame.TheConstants.{PAGE_BEGIN, PAGE_HEAD, TEXT_HEAD, BLOCKS_HEAD, BLOCKS_END, PAGE_END}
use Rattle.c62_page.specs.declared.style.TheConstants.{STYLE}
use Rattle.c62_page.specs.declared.script.TheConstants.{SCRIPT}
use Rattle.c62_page.specs.Text.{text_part}
use Rattle.c62_page.specs.Block.{blocks_from}

-- a link to each block
unfoldable pub block_link : ℕ → Shown → List Piece
block_link number shown =
    number_in TO_BLOCK.now number (codes "'>") ++ text_in (codes "") (name number shown.packets.label) (codes "</a>\n")

abbrev pub links_from : ℕ → List Shown → List Piece
links_from number [] = []
links_from number (shown ∷ rest) = block_link number shown ++ links_from (number + 1) rest

-- what stands before the text: the style sheet, and the links
unfoldable pub page_head : List Shown → List Piece
page_head shown = own_in PAGE_BEGIN.now STYLE.now PAGE_HEAD.now ++ links_from 0 shown ++ own_piece TEXT_HEAD.now

-- what stands behind the blocks: the script
abbrev pub page_end : List Piece
page_end = own_in BLOCKS_END.now SCRIPT.now PAGE_END.now

unfoldable pub page_pieces : List ℕ → List Shown → List Piece
page_pieces text shown =
    page_head shown ++ text_part text shown ++ own_piece BLOCKS_HEAD.now ++ blocks_from 0 shown ++ page_end

-- the bytes of the page
abbrev pub page_of : List ℕ → List Shown → List ℕ
page_of text shown = page (page_pieces text shown)
