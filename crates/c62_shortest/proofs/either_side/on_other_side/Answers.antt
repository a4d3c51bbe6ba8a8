use Rattle.std.proofs.Common.{arith, ◌≡◌, ◌<◌, List, length, Some, sym, ap, subst, ◌∙◌, refl}
use Rattle.std.specs.Prelude.{slice_get, slice_set, IsTrue}
use Rattle.std.proofs.lemmas.Option.{slice_get_read}
use Rattle.c62_read.specs.declared.block.SerialInsn.{SerialInsn}
use Rattle.c62_read.specs.Block.{is_block}
use Rattle.c62_depend.specs.Plan.{unnumbered}
use Rattle.c62_shortest.specs.Units.{AreWithUnits}
use Rattle.c62_shortest.proofs.EitherSide.{with_branch, still_block}
use Rattle.c62_shortest.proofs.either_side.on_other_side.Goals as goal

pub plan_of-requires : goal.plan_of-requires
plan_of-requires c =
    let own : List SerialInsn = c.insns-own.result.now in
    let same : own ≡ c.args.plan.now.insns = c.insns-own.ensures.same ∙ ap (λ block. block.insns) c.block.ensures in
    let within : c.from.result < length own = omega (arith, ap (λ (xs : List SerialInsn). length xs) same) in
    let at : slice_get own c.from.result ≡ Some c.index-own-from.result =
    slice_get_read own (length own) c.from.result c.index-own-from.result refl within c.index-own-from.is in
    still_block own (slice_set c.in_ok-insns.insns.items c.from-2.result c.in-Some-with_unit.branch)
    (with_branch c.in_ok-insns.insns.items own c.from.result c.from-2.result c.index-own-from.result
    c.in-Some-with_unit.branch c.in_ok-insns.ensures.items
    (omega arith) at c.in-Some-with_unit.ensures)
    (subst (λ (xs : List SerialInsn). IsTrue (is_block xs)) (sym c.insns-own.ensures.same)
    c.insns-own.ensures.sound)

pub returns : goal.returns
returns c =
    let own : List SerialInsn = c.insns-own.result.now in
    let same : own ≡ c.args.plan.now.insns = c.insns-own.ensures.same ∙ ap (λ block. block.insns) c.block.ensures in
    let within : c.from.result < length own = omega (arith, ap (λ (xs : List SerialInsn). length xs) same) in
    let at : slice_get own c.from.result ≡ Some c.index-own-from.result =
    slice_get_read own (length own) c.from.result c.index-own-from.result refl within c.index-own-from.is in
    subst (λ (xs : List SerialInsn). AreWithUnits (unnumbered xs) (unnumbered c.in_ok-plan_of.field-0.insns)) same
    (subst (λ (xs : List SerialInsn). AreWithUnits (unnumbered own) (unnumbered xs)) (sym c.in_ok-plan_of.ensures)
    (with_branch c.in_ok-insns.insns.items own c.from.result c.from-2.result c.index-own-from.result
    c.in-Some-with_unit.branch c.in_ok-insns.ensures.items
    (omega arith) at c.in-Some-with_unit.ensures))
