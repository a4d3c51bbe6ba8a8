use Rattle.std.proofs.Common.{arith, ◌≡◌, ◌∙◌, ℕ, ◌+◌, ◌-◌, ◌<◌, suc, map, List, refl, sym, ap, subst, inl}
use Rattle.std.specs.List.{count_by}
use Rattle.c62_live.specs.declared.live.Tracked.{Tracked}
use Rattle.c62_live.specs.Live.{earlier}
use Rattle.c62_live.specs.Lives.{live_count}
use Rattle.c62_live.proofs.Counted.{IsMostOfLast, all_earlier, count_is, none_live, one_more, tracked_before, whole}
use Rattle.c62_live.proofs.lives.most_of.Goals as goal

pub loop-left-init : goal.loop-left-init
loop-left-init c = (
  c.in_ok-tracked.ensures
      ∙ none_live c.args.placed.now c.args.regs.now c.args.cycles,
  inl (refl, refl),
)

pub loop-left-preserved : goal.loop-left-preserved
loop-left-preserved c =
    let at = c.loop-left in
    let placed = c.args.placed.now in
    let regs = c.args.regs.now in
    let cycles = c.args.cycles in
    let cycle = cycles - 1 - at.left in
    let inside : at.left < cycles = c.loop-left-test.true in
    let is : cycle ≡ cycles - suc at.left = omega (arith, inside) in
    let before : c.deref.result.now ≡ map (tracked_before placed cycles at.left) regs = c.deref.ensures.value
    ∙ at.invariant.0 in
    let now : c.in_ok-tracked-2.tracked.items ≡ map (tracked_before placed cycles (suc at.left)) regs =
    c.in_ok-tracked-2.ensures
    ∙ (ap (λ (xs : List Tracked). map (earlier placed cycle) xs) before
    ∙ all_earlier placed regs cycles at.left cycle is) in
    let counted : c.count_live.result ≡ live_count placed regs cycles cycle =
    c.count_live.ensures
    ∙ (ap (λ (xs : List Tracked). count_by (λ each. each.live) xs) (c.deref-in-loop-left.ensures.value ∙ now)
    ∙ count_is placed regs cycles (suc at.left) cycle (omega (arith, inside)) is) in
    let next : suc at.left ≡ at.left + 1 = omega arith in (
      subst (λ (n : ℕ). c.in_ok-tracked-2.tracked.items ≡ map (tracked_before placed cycles n) regs) next now,
      subst (λ (n : ℕ). IsMostOfLast (live_count placed regs cycles) cycles n c.better-most.result) next
          (subst (IsMostOfLast (live_count placed regs cycles) cycles (suc at.left)) (sym c.better-most.ensures)
          (one_more (live_count placed regs cycles) cycles at.left cycle c.count_live.result at.most inside is counted
          at.invariant.1)),
    )

pub returns : goal.returns
returns c =
    let at = c.loop-left in
    let ends = c.loop-left-test.false in
    let most = at.auto in
    whole (live_count c.args.placed.now c.args.regs.now c.args.cycles) c.args.cycles at.left at.most
    (omega (arith, ends, most)) at.invariant.1
