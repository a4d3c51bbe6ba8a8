-- Blocks that were parted into their instructions.
use Rattle.std.proofs.Common.{◌≡◌, ◌∙◌, ℕ, ◌<◌, List, length, map, sym, ap, get_or, arith}
use Rattle.std.proofs.lemmas.List.{get_or-map, length-map}
use Rattle.c62_read.specs.Block.{Serial}
use Rattle.c62_apart.specs.Touch.{parted}

pub parted_at : {X : Type 0} (blocks_of : X → List Serial) (parts : List X) (blocks : List Serial) (k : ℕ) (part : X)
    (block : Serial)
    → map blocks_of parts ≡ map parted blocks → k < length blocks → part ≡ get_or parts k part
    → block ≡ get_or blocks k block → blocks_of part ≡ parted block
parted_at blocks_of parts blocks k part block same inside found here =
    let many : length parts ≡ length blocks =
    sym (length-map parts blocks_of) ∙ ap (λ (xs : List (List Serial)). length xs) same ∙ length-map blocks parted in
    let within : k < length parts = omega (arith, many, inside) in
    ap blocks_of found
    ∙ sym (get_or-map blocks_of parts k part (blocks_of part) within)
    ∙ ap (λ (xs : List (List Serial)). get_or xs k (blocks_of part)) same
    ∙ get_or-map parted blocks k block (blocks_of part) inside
    ∙ ap parted (sym here)

pub parts_many : {X : Type 0} (blocks_of : X → List Serial) (parts : List X) (blocks : List Serial)
    → map blocks_of parts ≡ map parted blocks → length parts ≡ length blocks
parts_many blocks_of parts blocks same =
    sym (length-map parts blocks_of) ∙ ap (λ (xs : List (List Serial)). length xs) same ∙ length-map blocks parted
