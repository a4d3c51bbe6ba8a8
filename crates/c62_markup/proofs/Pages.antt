-- The angles of a page are its own.
use Rattle.std.proofs.Common.{◌≡◌, ◌∙◌, ℕ, List, [], ◌∷◌, ◌++◌, Bool, true, false, refl, sym, ap, arith}
use Rattle.std.specs.List.{filter, flat_map, list_any}
use Rattle.std.proofs.lemmas.List.Elements.{filter-append}
use Rattle.std.proofs.lemmas.Grind.{flat_map-append}
use Rattle.c62_markup.specs.Escape.{escaped}
use Rattle.c62_markup.specs.Page.{Piece, own, page, text_in, written}
use Rattle.c62_markup.specs.Page.Piece.{Own, Text}
use Rattle.c62_markup.specs.Laws.{AnglesAreOwn, is_angle}
use Rattle.c62_markup.proofs.Escaped.{opens_nothing}

-- what no element passes keeps none
kept_by : (test : ℕ → Bool) (x : ℕ) (xs : List ℕ) (b : Bool) → test x ≡ b → list_any test (x ∷ xs) ≡ false
    → (list_any test xs ≡ false → filter test xs ≡ []) → filter test (x ∷ xs) ≡ []
kept_by test x xs true passes fails rest = grind (arith, passes, fails)
kept_by test x xs false passes fails rest = grind (arith, passes, fails, rest)

kept : (test : ℕ → Bool) (xs : List ℕ) → list_any test xs ≡ false → filter test xs ≡ []
kept test [] fails = refl
kept test (x ∷ xs) fails = kept_by test x xs (test x) refl fails (kept test xs)

one : (piece : Piece) → filter is_angle (written piece) ≡ filter is_angle (own piece)
one (Own bytes) = refl
one (Text text) = kept is_angle (escaped text) (opens_nothing text).tags

pub angles_are_own : (pieces : List Piece) → AnglesAreOwn pieces
angles_are_own [] = refl
angles_are_own (piece ∷ rest) =
    rw (
      filter-append is_angle (written piece) (page rest),
      filter-append is_angle (own piece) (flat_map own rest),
      one piece,
      angles_are_own rest,
    ) refl

-- ---- pages that differ in texts

-- what the maker of these pieces wrote
abbrev pub owned : List Piece → List ℕ
owned pieces = flat_map own pieces

pub same_angles : (pieces others : List Piece) → owned pieces ≡ owned others
    → filter is_angle (page pieces) ≡ filter is_angle (page others)
same_angles pieces others same =
    angles_are_own pieces ∙ (ap (λ bytes. filter is_angle bytes) same ∙ sym (angles_are_own others))

pub same_parts : (one other more others : List Piece) → owned one ≡ owned other → owned more ≡ owned others
    → owned (one ++ more) ≡ owned (other ++ others)
same_parts one other more others same rest =
    flat_map-append own one more
    ∙ (ap (λ bytes. bytes ++ owned more) same
    ∙ (ap (λ bytes. owned other ++ bytes) rest ∙ sym (flat_map-append own other others)))

pub other_text : (before text other behind : List ℕ) → owned (text_in before text behind) ≡ owned (text_in before other behind)
unfolding text_in
other_text before text other behind = refl
