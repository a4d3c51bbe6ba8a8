-- Packets of a board, or of a set that is lawful on either side, are a schedule of their block.
use Rattle.std.proofs.Common.{zero, suc, Bool, true, false, List, [], ◌∷◌, map, Some, sym, subst}
use Rattle.std.proofs.lemmas.Option.{none-some, same_Some}
use Rattle.std.proofs.lemmas.List.Sorted.{IsPermutation-sym}
use Rattle.c62_read.specs.declared.block.SerialInsn.{SerialInsn}
use Rattle.c62_read.specs.Block.{Serial}
use Rattle.c62_depend.specs.Plan.{insns_of}
use Rattle.c62_sheet.specs.declared.entry.Spot.{Spot}
use Rattle.c62_sheet.specs.Lawful.{Spots, IsLawful}
use Rattle.c62_packet.specs.declared.placed.Placed.{Placed}
use Rattle.c62_packet.specs.Packed.{Packed}
use Rattle.c62_pack.specs.EitherSide.{IsLawfulOnEitherSide}
use Rattle.c62_pack.specs.Packets.{AreNumbered}
use Rattle.c62_pack.proofs.EitherSide.{on_own_side}
use Rattle.c62_pack.proofs.Arranging.{apart}
use Rattle.c62_check.specs.Matched.{AreSame}
use Rattle.c62_check.specs.Schedule.{IsSchedule}
use Rattle.c62_command.specs.declared.command.Packing.{Packing}
use Rattle.c62_answer.specs.Schedule.{IsScheduled, MayStand}
use Rattle.c62_answer.specs.PackedSame.{PacksSchedules}

on_either : (shortest : Bool) (block : Serial) (own spots : Spots) → IsLawful (insns_of block) own
    → MayStand shortest block own spots
    → IsLawfulOnEitherSide (insns_of block) spots
on_either false block own spots lawful is =
    subst (λ (set : Spots). IsLawfulOnEitherSide (insns_of block) set) (sym is)
    (on_own_side (insns_of block) own lawful)
on_either true block own spots lawful is = is.0

lawful_spots : (packing : Packing) (block : Serial) (packed : Packed) (is : IsScheduled packing block packed)
    → IsLawfulOnEitherSide (insns_of block) (map Some is.packets.spots)
lawful_spots packing block packed is =
    let own : IsLawful (insns_of block) is.board.spots =
    subst (λ (plan : Serial). IsLawful (insns_of plan) is.board.spots) is.made.plan_is is.made.sound.lawful in
    subst (λ (set : Spots). IsLawfulOnEitherSide (insns_of block) set) is.packets.all_placed
    (on_either packing.shortest block is.board.spots is.spots own is.stand)

same_insns : (entries : List SerialInsn) (spots : List Spot) (serial : List Placed) → AreNumbered entries spots serial
    → AreSame entries serial
same_insns [] [] [] numbered = tt
same_insns [] [] (p ∷ serial) numbered = absurd numbered
same_insns [] (s ∷ spots) serial numbered = absurd numbered
same_insns (e ∷ entries) [] serial numbered = absurd numbered
same_insns (e ∷ entries) (s ∷ spots) [] numbered = absurd numbered
same_insns (e ∷ entries) (s ∷ spots) (p ∷ serial) numbered =
    (numbered.0.insn, same_insns entries spots serial numbered.1)

schedule_of : (packing : Packing) (block : Serial) (packed : Packed) → IsScheduled packing block packed
    → IsSchedule block packed
schedule_of packing block packed is =
    let packets = is.packets in
    record {
      branch_last = is.keeps.branch_last;
      own_length = is.keeps.cycles;
      numbered = packets.serial;
      numbering = record {
        same = same_insns block.insns packets.spots packets.serial packets.numbered;
        all = IsPermutation-sym packets.serial packed.placed packets.listed;
        keeps =
            apart block.insns packets.spots packets.serial packets.numbered (lawful_spots packing block packed is)
            is.keeps.branch_last;
      };
    }

pub packs_schedules : (packing : Packing) (program : List Serial) (packets : List Packed)
    → PacksSchedules packing program packets
packs_schedules packing [] packets all number block packed e f = absurd (none-some block e)
packs_schedules packing (b ∷ program) [] all number block packed e f = absurd (none-some packed f)
packs_schedules packing (b ∷ program) (q ∷ packets) all zero block packed e f =
    subst (λ (own : Serial). IsSchedule own packed) (same_Some b block e)
    (subst (λ (own : Packed). IsSchedule b own) (same_Some q packed f) (schedule_of packing b q all.0))
packs_schedules packing (b ∷ program) (q ∷ packets) all (suc number) block packed e f =
    packs_schedules packing program packets all.1 number block packed e f
