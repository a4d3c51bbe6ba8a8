-- Blocks that are packed one after the other.
use Rattle.std.proofs.Common.{◌≡◌, List, [], ◌∷◌, ◌++◌, length, refl, rules, arith}
use Rattle.c62_read.specs.Block.{Serial}
use Rattle.c62_packet.specs.Packed.{Packed}
use Rattle.c62_refusals.specs.Given.{IsPackedByTurns, ArePackedByTurns}

pub packed_more : (blocks : List Serial) (packets : List Packed) (block : Serial) (packed : Packed)
    → ArePackedByTurns blocks packets
    → IsPackedByTurns block packed → ArePackedByTurns (blocks ++ block ∷ []) (packets ++ packed ∷ [])
packed_more [] [] block packed all one = (one, tt)
packed_more [] (q ∷ packets) block packed all one = absurd all
packed_more (b ∷ blocks) [] block packed all one = absurd all
packed_more (b ∷ blocks) (q ∷ packets) block packed all one = (all.0, packed_more blocks packets block packed all.1 one)

pub nothing_left : {X : Type 0} (xs : List X) → length xs ≡ 0 → xs ≡ []
nothing_left [] none = refl
nothing_left (x ∷ xs) none = absurd (omega arith)
