-- Labels of a text and of blocks.
use Rattle.c62_listing_reader.proofs.Common.{nat_tests, ◌≡◌, ℕ, arith, List, [], ◌∷◌, map, refl, ap, Bool, ◌||◌}
use Rattle.c62_listing_reader.proofs.Common.{is_some, list_any, Name, is_among}
use Rattle.c62_listing_reader.proofs.Common.{label_is, OpenBlock, aim_by, labels_of, draft_open}
use Rattle.std.specs.Prelude.{unwrap_or}
use Rattle.c62_listing_reader.specs.Named.{number_in}

-- a label that has a number is there
pub has_number : (label : Name) (names : List (Name × ℕ))
    → is_some (number_in names label) ≡ is_among label (labels_of names)
has_number label [] = refl
has_number label (entry ∷ names) = grind (arith, nat_tests, has_number label names)

pub aimed_by : (label : Name) (names : List (Name × ℕ)) → aim_by names label ≡ unwrap_or (number_in names label) 0
aimed_by label [] = refl
aimed_by label (entry ∷ names) = grind (arith, nat_tests, aimed_by label names)

pub any_draft : (label : List ℕ) (blocks : List OpenBlock)
    → list_any (λ draft. label_is label draft.label) (map draft_open blocks) ≡ list_any
    (λ block. label_is label block.label) blocks
any_draft label [] = refl
any_draft label (block ∷ blocks) = ap (λ (b : Bool). label_is label block.label || b) (any_draft label blocks)
