-- What is adopted of a listing, but for the lines of its instructions.
use Rattle.c62_adopt_back.proofs.Common.{arith, ◌≡◌, ℕ, ◌+◌, List, [], ◌∷◌, Option, refl, ap, ◌∙◌, slice_get, Name}
use Rattle.c62_adopt_back.proofs.Common.{Placed, Packed, all_lines}
use Rattle.c62_adopt_back.proofs.Common.{block_lines, cycle_lines, parted_lines, name_in, listing}
use Rattle.c62_packet.specs.Alike.{AreAlike, unlined as unlined_block}
use Rattle.c62_packet.specs.Packed.{issues_of}
use Rattle.c62_packet.specs.Packets.{labels_of}
use Rattle.c62_listing.specs.Listing.{label_text, text_of}

-- ---- packets that are alike have one listing

cycles_alike : (name : ℕ → Name) (next length : ℕ) (placed others : List Placed) → issues_of placed ≡ issues_of others
    → cycle_lines name next length placed ≡ cycle_lines name next length others
cycles_alike name next length [] [] same = refl
cycles_alike name next length [] (q ∷ others) same = absurd cc
cycles_alike name next length (p ∷ placed) [] same = absurd cc
cycles_alike name next length (p ∷ placed) (q ∷ others) same = grind
    (arith, cycles_alike name (q.cycle + 1) length placed others)

block_alike : (name : ℕ → Name) (block other : Packed) → unlined_block block ≡ unlined_block other
    → block_lines name block ≡ block_lines name other
block_alike name block other same = grind (arith, cycles_alike name 0 other.cycles block.placed other.placed)

parted_alike : (name : ℕ → Name) (packets others : List Packed) → AreAlike packets others
    → parted_lines name packets ≡ parted_lines name others
parted_alike name [] [] same = refl
parted_alike name [] (other ∷ others) same = absurd cc
parted_alike name (block ∷ packets) [] same = absurd cc
parted_alike name (block ∷ packets) (other ∷ others) same = grind
    (arith, block_alike name block other, parted_alike name packets others)

all_alike : (name : ℕ → Name) (packets others : List Packed) → AreAlike packets others
    → all_lines name packets ≡ all_lines name others
all_alike name [] [] same = refl
all_alike name [] (other ∷ others) same = absurd cc
all_alike name (block ∷ packets) [] same = absurd cc
all_alike name (block ∷ packets) (other ∷ others) same = grind
    (arith, block_alike name block other, parted_alike name packets others)

labels_alike : (packets others : List Packed) → AreAlike packets others → labels_of packets ≡ labels_of others
labels_alike [] [] same = refl
labels_alike [] (other ∷ others) same = absurd cc
labels_alike (block ∷ packets) [] same = absurd cc
labels_alike (block ∷ packets) (other ∷ others) same = grind (arith, labels_alike packets others)

pub listing_alike : (packets others : List Packed) → AreAlike packets others → listing packets ≡ listing others
listing_alike packets others same =
    let names : name_in packets ≡ name_in others =
    ap {B = ℕ → Name} (λ (labels : List (Option Name)). λ number. label_text (slice_get labels number))
    (labels_alike packets others same) in
    ap text_of (ap (λ (name : ℕ → Name). all_lines name packets) names ∙ all_alike (name_in others) packets others same)
