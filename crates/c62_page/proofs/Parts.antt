-- Parts of pieces.
use Rattle.std.proofs.Common.{◌≡◌, ◌∙◌, ℕ, zero, suc, List, [], ◌∷◌, ◌++◌, Some, sym, ap, subst}
use Rattle.std.proofs.Common.{append_assoc, append-nil}
use Rattle.std.specs.Prelude.{slice_get}
use Rattle.std.specs.List.{flat_map}
use Rattle.std.proofs.lemmas.Option.{same_Some}
use Rattle.c62_markup.specs.Page.{Piece}
use Rattle.c62_page.specs.Laws.{HasPart}

pub whole_part : (pieces : List Piece) → HasPart pieces pieces
whole_part pieces = record { before = []; behind = []; split = sym (append-nil pieces) }

pub behind_pieces : (first pieces part : List Piece) → HasPart pieces part → HasPart (first ++ pieces) part
behind_pieces first pieces part has = record {
  before = first ++ has.before;
  behind = has.behind;
  split = ap (λ rest. first ++ rest) has.split ∙ sym (append_assoc first has.before (part ++ has.behind));
}

pub before_pieces : (pieces last part : List Piece) → HasPart pieces part → HasPart (pieces ++ last) part
before_pieces pieces last part has = record {
  before = has.before;
  behind = has.behind ++ last;
  split =
      ap (λ front. front ++ last) has.split ∙ append_assoc has.before (part ++ has.behind) last
      ∙ ap (λ rest. has.before ++ rest) (append_assoc part has.behind last);
}

-- what one of them writes has the part
pub part_of_each : {X : Type 0} (f : X → List Piece) (xs : List X) (k : ℕ) (x : X) (part : List Piece)
    → slice_get xs k ≡ Some x
    → HasPart (f x) part → HasPart (flat_map f xs) part
part_of_each f [] k x part at has = absurd cc
part_of_each f (y ∷ xs) zero x part at has =
    let same : y ≡ x = same_Some y x at in
    before_pieces (f y) (flat_map f xs) part (subst (λ each. HasPart (f each) part) (sym same) has)
part_of_each f (y ∷ xs) (suc k) x part at has = behind_pieces (f y) (flat_map f xs) part
    (part_of_each f xs k x part at has)
