use Rattle.c62_depend.proofs.Common.{insns_in, arith, slice_index, get_or, ap, sym, ◌∙◌, ◌+◌, if◌then◌else◌, Uses}
use Rattle.c62_depend.proofs.Common.{reg_in}
use Rattle.std.specs.Prelude.{replicate}
use Rattle.c62_op.specs.Register.{register_index}
use Rattle.c62_depend.proofs.NumberSets.{zeros_at}
use Rattle.c62_depend.proofs.SinceLemmas.{stand_first, stand_more, since_none, since_more}
use Rattle.c62_depend.proofs.since.all_since.Goals as goal

pub loop-j-init : goal.loop-j-init
loop-j-init c = (
  since_none c.args.uses.now _ c.in_ok-all.ensures.items,
  stand_first (insns_in c.args.uses.now) (replicate 32 0)
      (λ index. zeros_at 32 index),
)

pub loop-j-preserved : goal.loop-j-preserved
loop-j-preserved c =
    let within = c.loop-j-test.true in
    let u = c.index-uses-j.result in
    let v = c.index-uses-j-in-loop-j.result in (
      since_more c.args.uses.now c.loop-j.j c.loop-j.all.items c.push.new.self.items c.since_of.result u
          c.loop-j.invariant.0
          c.in_ok-push.ensures.items (omega (arith, within)) c.index-uses-j.is
          (c.since_of.ensures (insns_in c.args.uses.now) c.loop-j.j c.loop-j.invariant.1),
      stand_more c.args.uses.now c.loop-j.j v c.loop-j.numbers c.put.new.numbers (omega (arith, within))
          c.index-uses-j-in-loop-j.is
          (λ reg. c.put.ensures reg
          ∙ ap (λ (w : Uses). if reg_in w.written reg then c.loop-j.j + 1 else slice_index c.loop-j.numbers
          (register_index reg))
          (sym c.index-uses-j-in-loop-j.is)) c.loop-j.invariant.1,
    )
