-- What holds of text in a page.
use Rattle.std.specs.Prelude.{◌≡◌, ℕ, List, [], ◌∷◌, ◌++◌, ◌==◌, ◌||◌, Bool, false, codes}
use Rattle.std.specs.List.{filter, flat_map, list_any}
use Rattle.c62_markup.specs.Escape.{escaped}
use Rattle.c62_markup.specs.Page.{Piece, own, page}

-- `<` and `>`, with which tags begin and end
abbrev pub is_angle : ℕ → Bool
is_angle b = b == 60 || b == 62

-- no byte of it begins or ends a tag, or ends the value of an attribute in either quotes
pub record OpensNothing (text : List ℕ) : Type 0 where
  pub tags : list_any is_angle (escaped text) ≡ false
  pub quotes : list_any (λ b. b == 34 || b == 39) (escaped text) ≡ false

-- the angles of a page are those that its maker wrote, in their order
abbrev pub AnglesAreOwn : List Piece → Type 0
AnglesAreOwn pieces = filter is_angle (page pieces) ≡ filter is_angle (flat_map own pieces)

-- what a reader of a page makes of its bytes: the five references that are written here are one byte each, and other bytes, but
-- the ampersand with which a reference begins, are themselves
pub data Reads : List ℕ → List ℕ → Type 0 where
  nothing : Reads [] []
  less : {page text : List ℕ} → Reads page text → Reads (codes "&lt;" ++ page) (60 ∷ text)
  greater : {page text : List ℕ} → Reads page text → Reads (codes "&gt;" ++ page) (62 ∷ text)
  ampersand : {page text : List ℕ} → Reads page text → Reads (codes "&amp;" ++ page) (38 ∷ text)
  double : {page text : List ℕ} → Reads page text → Reads (codes "&quot;" ++ page) (34 ∷ text)
  single : {page text : List ℕ} → Reads page text → Reads (codes "&#39;" ++ page) (39 ∷ text)
  itself : {page text : List ℕ} {b : ℕ} → (b == 38) ≡ false → Reads page text → Reads (b ∷ page) (b ∷ text)

abbrev pub IsRead : List ℕ → Type 0
IsRead text = Reads (escaped text) text
