-- The members of a document of `check` (docs/JSON.md, "check").
use Rattle.std.specs.Prelude.{ℕ, ◌+◌, List, [], ◌∷◌, ◌++◌, false, Option, Some, None, codes, slice_get}
use Rattle.std.specs.List.{flat_map}
use Rattle.json.specs.Token.{Token, boolean, key, null}
use Rattle.c62_json.specs.Document.{array, count, object, text}
use Rattle.c62_check.specs.declared.verdict.Verdict.{Verdict as Answer}
use Rattle.c62_check.specs.Judged.{all_same}
use Rattle.c62_json_check.specs.Blocks.{verdict_object}

-- the label of a block: null where it has none, and false where the block isn't there
unfoldable pub label_value : Option (Option (List ℕ)) → Token
label_value None = boolean false
label_value (Some None) = null
label_value (Some (Some label)) = text label

-- a block with its label in the listing and that in the text
unfoldable pub label_members : (block : ℕ) → (listed label : Option (Option (List ℕ))) → List Token
label_members block listed label =
    key (codes "block") ∷ count block ∷ key (codes "listed") ∷ label_value listed ∷ key (codes "text") ∷ label_value label ∷ []

-- the objects of the blocks from this number on
abbrev pub blocks_from : ℕ → List Answer → List Token
blocks_from block [] = []
blocks_from block (verdict ∷ verdicts) = verdict_object block verdict ++ blocks_from (block + 1) verdicts

-- the object of the block of this number, by the labels that blocks have in the listing, and those that they have in the text
abbrev pub other_object : (listed labels : List (Option (List ℕ))) → ℕ → List Token
other_object listed labels number = object (label_members number (slice_get listed number) (slice_get labels number))

-- that of the first of these blocks, if any
unfoldable pub first_object : (listed labels : List (Option (List ℕ))) → (others : List ℕ) → List Token
first_object listed labels [] = null ∷ []
first_object listed labels (number ∷ others) = other_object listed labels number

-- those of all of these
abbrev pub objects_of : (listed labels : List (Option (List ℕ))) → (others : List ℕ) → List Token
objects_of listed labels others = flat_map (λ number. other_object listed labels number) others

-- whether all is the same, the first block that differs in its label, and what is told of each block that both have
unfoldable pub front_members : (listed labels : List (Option (List ℕ))) → (others : List ℕ) → List Answer → List Token
front_members listed labels others verdicts =
    key (codes "same") ∷ boolean (all_same others verdicts) ∷ key (codes "other") ∷ first_object listed labels others
    ++ key (codes "blocks") ∷ array (blocks_from 0 verdicts)

-- behind these stand all blocks that differ so
unfoldable pub members : (listed labels : List (Option (List ℕ))) → (others : List ℕ) → List Answer → List Token
members listed labels others verdicts =
    front_members listed labels others verdicts ++ key (codes "others") ∷ array (objects_of listed labels others)
