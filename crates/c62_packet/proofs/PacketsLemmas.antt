-- Lemmas on lists of packet blocks.
use Rattle.std.proofs.Common.{arith, ◌≡◌, ◌<◌, ◌≤◌, Bool, true, false, List, [], ◌∷◌, ◌++◌, length, length-append}
use Rattle.std.proofs.Common.{subst, sym}
use Rattle.std.specs.Prelude.{All, if◌then◌else◌}
use Rattle.std.proofs.lemmas.List.Elements.{All-append, All-nil, All-cons}
use Rattle.c62_packet.specs.Packed.{Packed, IsPacketBlock}
use Rattle.c62_read.specs.declared.limits.TheConstants.{MOST_BLOCKS}

-- what always holds of a list of packet blocks
abbrev pub AreBlocks : List Packed → Type 0
AreBlocks packets = (length packets ≤ MOST_BLOCKS) × All IsPacketBlock packets

pub pushed-blocks : (r : Bool) (old new : List Packed) (block : Packed) → length old < MOST_BLOCKS → AreBlocks old
    → IsPacketBlock block
    → new ≡ (if r then old ++ block ∷ [] else old) → AreBlocks new
pushed-blocks false old new block lt are is e = subst AreBlocks (sym e) are
pushed-blocks true old new block lt are is e =
    let grown : length (old ++ block ∷ []) ≤ MOST_BLOCKS = rw (length-append old (block ∷ [])) (omega arith) in
    let all : All IsPacketBlock (old ++ block ∷ []) = All-append IsPacketBlock old (block ∷ []) are.1
    (All-cons IsPacketBlock block [] is (All-nil IsPacketBlock)) in
    subst AreBlocks (sym e) (grown, all)
