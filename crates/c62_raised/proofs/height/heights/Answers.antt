use Rattle.std.proofs.Common.{arith, ◌≡◌, ◌+◌, ◌-◌, ◌*◌, ◌≤◌, ◌<◌, length, refl, sym, ap, ◌∙◌}
use Rattle.std.specs.Prelude.{slice_index, replicate}
use Rattle.std.proofs.lemmas.List.{length-set}
use Rattle.c62_depend.specs.Plan.{insns_of}
use Rattle.c62_depend.specs.Height.{delay_at, delay_in}
use Rattle.c62_op.specs.Shape.{delay_of}
use Rattle.c62_insn.specs.Insn.{op_of}
use Rattle.c62_depend.proofs.Plans.{many_insns}
use Rattle.c62_depend.proofs.Latencies.{delay_of-small}
use Rattle.c62_raised.specs.Chain.{lead_in}
use Rattle.c62_raised.specs.Raised.{IsRaised}
use Rattle.c62_raised.specs.Steps.{AreSmall}
use Rattle.c62_raised.proofs.Heights.{no_height, raised_low, one_more_raised, one_more_low}
use Rattle.c62_raised.proofs.Loops.{small_longest}
use Rattle.c62_raised.proofs.Orders.{none_yet, covers_behind, one_more_order}
use Rattle.c62_raised.proofs.height.heights.Goals as goal
use Rattle.c62_read.specs.declared.limits.TheConstants.{MOST_INSTRUCTIONS}

pub loop-i-init : goal.loop-i-init
loop-i-init c = record {
  long = refl;
  raised = λ k high within. absurd (omega (arith, high, within, c.len-i.ensures.len, many_insns c.args.plan.now.insns));
  order = none_yet c.len-i.result (length (insns_of c.args.plan.now)) (slice_index (replicate MOST_INSTRUCTIONS 0))
      c.new-order.result.items (omega (arith, c.len-i.ensures.len, many_insns c.args.plan.now.insns)) c.new-order.ensures;
  low = λ j. omega (arith, no_height MOST_INSTRUCTIONS j);
}

pub raised-requires-clause-small : goal.raised-requires-clause-small
raised-requires-clause-small c =
    rw c.as_slice-in-loop-i.ensures.value
    (small_longest (insns_of c.args.plan.now) (c.loop-i.i - 1) c.leads-leads.result.items c.len-i.ensures.sound.few
    c.leads-leads.ensures.are)

pub loop-i-preserved : goal.loop-i-preserved
loop-i-preserved c =
    let block = insns_of c.args.plan.now in
    let known = c.loop-i.invariant in
    let old = c.loop-i.heights in
    let i = c.loop-i.i - 1 in
    let h = c.raised.result in
    let leads = c.leads-leads.result.items in
    let few = c.len-i.ensures.sound.few in
    let many = many_insns c.args.plan.now.insns in
    let some = c.loop-i-test.true in
    let top : c.loop-i.i ≤ length block = omega (arith, c.loop-i.auto.i, c.len-i.ensures.len, many) in
    let inside : i < length old = omega (arith, some, top, few, known.long) in
    let small : AreSmall leads = small_longest block i leads few c.leads-leads.ensures.are in
    let next : c.loop-i.i ≡ i + 1 = omega (arith, some) in
    let delays : c.delay-delay.result ≡ delay_at block i = c.delay-delay.ensures ∙ sym (ap delay_in c.insn.ensures) in
    let is : IsRaised block (slice_index old) (lead_in leads) (delay_at block i) h =
    rw delays at (rw c.as_slice-in-loop-i.ensures.value at c.raised.ensures.is) in
    let short : delay_at block i ≤ 255 =
    (let own : delay_at block i ≡ delay_of (op_of c.insn.result) = ap delay_in c.insn.ensures in
    omega (arith, own, delay_of-small (op_of c.insn.result))) in
    let up = raised_low block (slice_index old) (lead_in leads) (delay_at block i) h
    (1536 * (length block - c.loop-i.i)) few
    short small known.low is.attained in
    rw c.from.ensures (record {
      long = omega (arith, length-set old i h, known.long);
      raised = one_more_raised block i old h inside (lead_in leads) c.leads-leads.ensures.are is
          (λ k low within. known.raised k (omega (arith, low, some)) within);
      order = one_more_order i (length block) old h c.loop-i.order.items c.insert_by_height.new.order.items
          (omega (arith, some, top)) (rw next at known.order) (rw c.from.ensures at c.insert_by_height.ensures);
      low = one_more_low block i old h inside (1536 * (length block - c.loop-i.i)) (1536 * (length block - i)) known.low
          (omega (arith, up, some, top))
          (omega (arith, some, top));
    })

pub raised-requires-clause-covers : goal.raised-requires-clause-covers
raised-requires-clause-covers c =
    let some = c.loop-i-test.true in
    rw c.as_slice.ensures.value
    (rw c.as_slice-in-loop-i.ensures.value
    (covers_behind (insns_of c.args.plan.now) (c.loop-i.i - 1) c.loop-i.i (slice_index c.loop-i.heights)
    c.loop-i.order.items (lead_in c.leads-leads.result.items) (omega (arith, some)) c.loop-i.invariant.order
    c.leads-leads.ensures.are))
