-- Lists of which each item goes with one of a text's blocks.
use Rattle.std.proofs.Common.{arith, ◌≡◌, ℕ, ◌<◌, ◌+◌, List, [], ◌∷◌, ◌++◌, length, map, take, drop, get_or, sym, ap}
use Rattle.std.proofs.Common.{subst, ◌∙◌}
use Rattle.std.specs.Prelude.{All, Vec}
use Rattle.std.specs.List.{AllZip}
use Rattle.std.proofs.lemmas.List.{length-take, take_more, drop_more}
use Rattle.std.proofs.lemmas.List.Elements.{All-nil, All-cons}
use Rattle.std.proofs.lemmas.Slice.Zip.{AllZip-long}
use Rattle.std.specs.declared.alloc.Global.{Global}
use Rattle.c62_packet.specs.declared.placed.Placed.{Placed}
use Rattle.c62_adopt_cut.specs.declared.draft.Draft.{Draft as DraftRead}
use Rattle.c62_adopt_cut.specs.Blocks.{Draft}
use Rattle.c62_adopt_cut.specs.Drafted.{draft_of}
use Rattle.c62_adopt.specs.Breach.{KeepsRules}
use Rattle.c62_adopt.specs.Judged.{AreLawful}
use Rattle.c62_adopt.proofs.Placing.{kept_as_written}

pub zip_push : {X Y : Type 0} (R : X → Y → Type 0) (xs : List X) (ys : List Y) (x : X) (y : Y) → AllZip R xs ys → R x y
    → AllZip R (xs ++ x ∷ []) (ys ++ y ∷ [])
zip_push R [] [] x y zip is = (is, tt)
zip_push R [] (z ∷ ys) x y zip is = absurd zip
zip_push R (z ∷ xs) [] x y zip is = absurd zip
zip_push R (z ∷ xs) (w ∷ ys) x y zip is = (zip.0, zip_push R xs ys x y zip.1 is)

-- one more of them
pub zip_more : {X Y : Type 0} (R : X → Y → Type 0) (xs : List X) (ys : List Y) (k : ℕ) (x : X) (y : Y) → k < length xs
    → x ≡ get_or xs k x → AllZip R (take k xs) ys → R x y → AllZip R (take (k + 1) xs) (ys ++ y ∷ [])
zip_more {X} R xs ys k x y lt is zip here =
    let more : take (k + 1) xs ≡ take k xs ++ x ∷ [] = take_more xs k x lt
    ∙ ap (λ (z : X). take k xs ++ z ∷ []) (sym is) in
    subst (λ (zs : List X). AllZip R zs (ys ++ y ∷ [])) (sym more) (zip_push R (take k xs) ys x y zip here)

-- as many as there are so far
pub zip_few : {X Y : Type 0} (R : X → Y → Type 0) (xs : List X) (ys : List Y) (k : ℕ) → k < length xs
    → AllZip R (take k xs) ys → length ys < length xs
zip_few R xs ys k lt zip =
    let long = AllZip-long R (take k xs) ys zip in omega (arith, long, length-take k xs)

-- the first of those that are left, and the others
pub zip_next : {X Y : Type 0} (R : X → Y → Type 0) (xs : List X) (ys : List Y) (k : ℕ) (x : X) (y : Y) → k < length xs
    → x ≡ get_or xs k x → AllZip R (drop k xs) (y ∷ ys) → R x y × AllZip R (drop (k + 1) xs) ys
zip_next {X} R xs ys k x y lt is zip =
    let split : drop k xs ≡ x ∷ drop (k + 1) xs = drop_more xs k x lt
    ∙ ap (λ (z : X). z ∷ drop (k + 1) xs) (sym is) in
    subst (λ (zs : List X). AllZip R zs (y ∷ ys)) split zip

pub zip_map : {X Y Z : Type 0} (R : Z → Y → Type 0) (f : X → Z) (xs : List X) (ys : List Y)
    → AllZip (λ x. R (f x)) xs ys → AllZip R (map f xs) ys
zip_map R f [] [] zip = tt
zip_map R f [] (y ∷ ys) zip = absurd zip
zip_map R f (x ∷ xs) [] zip = absurd zip
zip_map R f (x ∷ xs) (y ∷ ys) zip = (zip.0, zip_map R f xs ys zip.1)

-- the blocks with lawful lists keep the packet rules
pub all_keep : (whole : List Draft) (drafts : List DraftRead) (lists : List (Vec Placed Global))
    → AllZip (λ draft list. AreLawful whole (draft_of draft).issues list.items) drafts lists
    → All (λ draft. KeepsRules whole (draft_of draft)) drafts
all_keep whole [] lists lawful = All-nil (λ (draft : DraftRead). KeepsRules whole (draft_of draft))
all_keep whole (draft ∷ drafts) [] lawful = absurd lawful
all_keep whole (draft ∷ drafts) (list ∷ lists) lawful =
    let first = lawful.0 in
    All-cons (λ (other : DraftRead). KeepsRules whole (draft_of other)) draft drafts
    (record {
      placed = first.are.placed;
      stand = first.are.stand;
      kept = kept_as_written whole (draft_of draft).issues list.items first;
    }) (all_keep whole drafts lists lawful.1)
