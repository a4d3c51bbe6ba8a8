-- Lawful spots of all instructions, on either side, are a schedule, and so are those of a complete board.
use Rattle.std.proofs.Common.{arith, ◌≡◌, ℕ, zero, suc, ◌<◌, List, [], ◌∷◌, length, Some, refl, subst, sym}
use Rattle.std.specs.Prelude.{map, IsSome, Vec}
use Rattle.std.specs.declared.alloc.Global.{Global}
use Rattle.c62_insn.specs.declared.insn.Insn.{Insn}
use Rattle.c62_read.specs.Block.{Serial}
use Rattle.c62_depend.specs.Plan.{insns_of}
use Rattle.c62_sheet.specs.declared.entry.Spot.{Spot}
use Rattle.c62_sheet.specs.Lawful.{Spots, spot_at, IsLawful}
use Rattle.c62_sheet.specs.Least.{IsComplete}
use Rattle.c62_packet.specs.Packed.{Packed}
use Rattle.c62_meaning.specs.Laws.{AreSerial}
use Rattle.c62_pipe.specs.Chain.{IsBlockPacked}
use Rattle.c62_pack.specs.EitherSide.{IsLawfulOnEitherSide}
use Rattle.c62_pack.specs.Packets.{ArePackets}
use Rattle.c62_pack.proofs.EitherSide.{on_own_side}
use Rattle.c62_shortest.specs.Shortest.{IsScheduleOf}

as_long : (spots : List Spot) → length (map Some spots) ≡ length spots
as_long [] = refl
as_long (s ∷ spots) = let rest = as_long spots in omega (arith, rest)

all_placed : (spots : List Spot) (i : ℕ) → i < length spots → IsSome (spot_at (map Some spots) i)
all_placed [] i lt = absurd (omega (arith, lt))
all_placed (s ∷ spots) zero lt = refl
all_placed (s ∷ spots) (suc i) lt = all_placed spots i (omega (arith, lt))

complete_of : (block : List Insn) (spots : List Spot) → IsLawfulOnEitherSide block (map Some spots)
    → IsComplete block (map Some spots)
complete_of block spots lawful i lt =
    let sized = lawful.sized in
    all_placed spots i (omega (arith, lt, as_long spots, sized))

pub of_spots : (block : Serial) (spots : Vec Spot Global) (packets : Packed)
    → IsLawfulOnEitherSide (insns_of block) (map Some spots.items) → ArePackets block (map Some spots.items) packets
    → AreSerial block.insns packets.placed → IsBlockPacked block packets
    → IsScheduleOf block (record { spots = spots; packets = packets })
of_spots block spots packets lawful are serial keeps = record {
  lawful = lawful;
  complete = complete_of (insns_of block) spots.items lawful;
  packets = are;
  serial = serial;
  keeps = keeps;
}

pub of_board : (block : Serial) (set : Spots) (spots : Vec Spot Global) (packets : Packed) → map Some spots.items ≡ set
    → IsLawful (insns_of block) set
    → ArePackets block set packets → AreSerial block.insns packets.placed → IsBlockPacked block packets
    → IsScheduleOf block (record { spots = spots; packets = packets })
of_board block set spots packets is lawful are serial keeps =
    of_spots block spots packets
    (on_own_side (insns_of block) (map Some spots.items)
    (subst (λ (set : Spots). IsLawful (insns_of block) set) (sym is) lawful))
    (subst (λ (set : Spots). ArePackets block set packets) (sym is) are) serial keeps
