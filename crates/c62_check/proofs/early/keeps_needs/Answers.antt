use Rattle.std.proofs.Common.{arith, pos}
use Rattle.c62_depend.specs.declared.links.Link.{Link}
use Rattle.c62_depend.specs.Plan.{insns_of}
use Rattle.c62_check.proofs.Kept.{need_before, keeps_needs}
use Rattle.c62_check.proofs.early.keeps_needs.Goals as goal

abbrev any_link : Link
any_link = record { number = 0; latency = pos 0 }

pub is_kept-requires-clause-first : goal.is_kept-requires-clause-first
is_kept-requires-clause-first c =
    let before = need_before (insns_of c.args.plan.now) c.args.placed.now c.args.number c.needs-needs.result.now
    c.needs-needs.ensures c.loop-link.link-index any_link
    c.loop-link-test.true in
    omega (arith, before, c.requires.within, c.requires.placed)

pub returns : goal.returns
returns c =
    keeps_needs (insns_of c.args.plan.now) c.args.placed.now c.args.number c.needs-needs.result.now
    c.needs-needs.ensures c.loop-link.link-index
    c.loop-link-test.false c.loop-link.invariant
