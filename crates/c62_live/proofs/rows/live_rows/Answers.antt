use Rattle.std.proofs.Common.{arith, ◌≡◌, ◌∙◌, ℕ, ◌+◌, ◌-◌, ◌<◌, suc, map, List, ap, subst}
use Rattle.std.specs.List.{flat_map}
use Rattle.c62_live.specs.declared.live.Tracked.{Tracked}
use Rattle.c62_live.specs.Live.{earlier}
use Rattle.c62_live.specs.Rows.{live_reg}
use Rattle.c62_live.proofs.Counted.{all_earlier, tracked_before}
use Rattle.c62_live.proofs.LiveEach.{all_rows, live_left, live_tracked, one_more}
use Rattle.c62_live.proofs.rows.live_rows.Goals as goal

pub loop-left-preserved : goal.loop-left-preserved
loop-left-preserved c =
    let at = c.loop-left in
    let placed = c.args.placed.now in
    let regs = c.in_ok-regs.regs.items in
    let cycles = c.args.cycles in
    let cycle = cycles - 1 - at.left in
    let inside : at.left < cycles = c.loop-left-test.true in
    let is : cycle ≡ cycles - suc at.left = omega (arith, inside) in
    let before : c.deref-in-loop-left.result.now ≡ map (tracked_before placed cycles at.left) regs =
    c.deref-in-loop-left.ensures.value ∙ at.invariant.0 in
    let now : c.in_ok-tracked-2.tracked.items ≡ map (tracked_before placed cycles (suc at.left)) regs =
    c.in_ok-tracked-2.ensures
    ∙ (ap (λ (xs : List Tracked). map (earlier placed cycle) xs) before
    ∙ all_earlier placed regs cycles at.left cycle is) in
    let told : c.in_ok-live_row.field-0.regs.items ≡ live_left placed regs cycles (suc at.left) =
    c.in_ok-live_row.ensures
    ∙ (ap (λ (xs : List Tracked). flat_map live_reg xs) (c.deref-in-loop-left-2.ensures.value ∙ now)
    ∙ live_tracked placed regs cycles (suc at.left)) in
    let next : suc at.left ≡ at.left + 1 = omega arith in (
      subst (λ (n : ℕ). c.in_ok-tracked-2.tracked.items ≡ map (tracked_before placed cycles n) regs) next now,
      one_more placed regs cycles at.left at.rows.items c.push.new.self.items c.in_ok-live_row.field-0
          c.in_ok-push.ensures.items told at.invariant.1,
    )

pub returns : goal.returns
returns c =
    let at = c.loop-left in
    let ends = c.loop-left-test.false in
    let most = at.auto in
    all_rows c.args.placed.now c.args.side c.in_ok-regs.regs.items c.args.cycles at.left at.rows.items
    c.in_ok-regs.ensures (omega (arith, ends, most)) at.invariant.1
