-- A page of HTML, piece by piece.
use Rattle.std.specs.Prelude.{◌≡◌, ℕ, List, [], ◌∷◌, ◌++◌, decimal}
use Rattle.std.specs.List.{flat_map}
use Rattle.c62_markup.specs.Escape.{escaped}

-- what the page's maker wrote, or a text that comes from elsewhere
pub data Piece : Type 0 where
  Own : List ℕ → Piece
  Text : List ℕ → Piece

abbrev pub written : Piece → List ℕ
written (Own bytes) = bytes
written (Text text) = escaped text

abbrev pub page : List Piece → List ℕ
page pieces = flat_map written pieces

-- what of a piece the page's maker wrote
abbrev pub own : Piece → List ℕ
own (Own bytes) = bytes
own (Text text) = []

-- ---- how a page is written

-- behind the bytes that were written these pieces are
abbrev pub Adds : List ℕ → List Piece → List ℕ → Type 0
Adds old pieces new = new ≡ old ++ page pieces

abbrev pub own_piece : List ℕ → List Piece
own_piece bytes = Own bytes ∷ []

abbrev pub text_piece : List ℕ → List Piece
text_piece text = Text text ∷ []

-- bytes, a number or a text between two pieces of the page's maker
unfoldable pub own_in : List ℕ → List ℕ → List ℕ → List Piece
own_in before bytes behind = Own before ∷ Own bytes ∷ Own behind ∷ []

abbrev pub number_in : List ℕ → ℕ → List ℕ → List Piece
number_in before number behind = own_in before (decimal number) behind

unfoldable pub text_in : List ℕ → List ℕ → List ℕ → List Piece
text_in before text behind = Own before ∷ Text text ∷ Own behind ∷ []
