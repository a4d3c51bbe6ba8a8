-- What a picture says of shorter schedules holds of its blocks.
use Rattle.std.proofs.Common.{arith, Bool, true, false, List, [], ◌∷◌, subst, Option, Some, None}
use Rattle.std.specs.Prelude.{IsTrue, IfSome}
use Rattle.std.specs.Option.{IsSomeAnd}
use Rattle.std.proofs.lemmas.Bool.Decides.{nat_tests}
use Rattle.std.proofs.lemmas.List.{length-map}
use Rattle.c62_read.specs.declared.block.SerialInsn.{SerialInsn}
use Rattle.c62_read.specs.Block.{Serial, branch_last, is_block, operations}
use Rattle.c62_depend.specs.Plan.{insns_of, IsPlan}
use Rattle.c62_check.specs.Least.{spots_of}
use Rattle.c62_check.proofs.Least.{packets_seated}
use Rattle.c62_show.specs.declared.limits.Limits.{Limits}
use Rattle.c62_show.specs.declared.shown.Shown.{Shown}
use Rattle.c62_show.specs.Limits.{AreLimits}
use Rattle.c62_show.proofs.Heads.{head_is_true}
use Rattle.c62_command.specs.declared.command.Showing.{Showing}
use Rattle.c62_answer.specs.Bounds.{AreBounded, IsBounded}
use Rattle.c62_answer.specs.Schedule.{AreShown, IsShown, TellsLimits}

is_sound_block : (block : Serial) → IsPlan (insns_of block) → IsTrue (branch_last (operations block.insns))
    → IsTrue (is_block block.insns)
is_sound_block block plan last =
    let few = plan.few in
    let long = length-map block.insns (λ (entry : SerialInsn). entry.insn) in
    grind (arith, nat_tests, few, long, last)

are_limits : (shortest : Bool) (block : Serial) (limits : Option Limits) → IsSomeAnd limits (TellsLimits shortest block)
    → IfSome limits (AreLimits block)
are_limits shortest block None some = absurd some
are_limits false block (Some limits) some = some.are
are_limits true block (Some limits) some = some

bounded : (showing : Showing) (block : Serial) (shown : Shown) → IsShown showing block shown → IsBounded block shown
bounded showing block shown is packed sound schedule =
    let plan : IsPlan (insns_of block) = subst (λ (own : Serial). IsPlan (insns_of own)) is.scheduled.made.plan_is
    is.scheduled.made.sound.plan in
    let seated = packets_seated block packed schedule (is_sound_block block plan schedule.branch_last) sound in
    head_is_true block shown (spots_of schedule.numbered) packed.cycles is.scheduled.packets.sound
    (are_limits showing.packing.shortest block shown.limits is.limits) plan seated

pub are_bounded : (showing : Showing) (program : List Serial) (shown : List Shown) → AreShown showing program shown
    → AreBounded program shown
are_bounded showing [] [] all = tt
are_bounded showing [] (each ∷ shown) all = all
are_bounded showing (block ∷ program) [] all = all
are_bounded showing (block ∷ program) (each ∷ shown) all =
    (bounded showing block each all.0, are_bounded showing program shown all.1)
