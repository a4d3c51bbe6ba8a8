use Rattle.std.proofs.Common.{rules, arith, ◌≡◌, ◌∙◌, w32, FitsSigned, to_z, of_z, Some, sym, ap}
use Rattle.std.proofs.lemmas.Int.{to_z-of_z}
use Rattle.std.proofs.lemmas.Option.{none-some}
use Rattle.c62_depend.specs.Plan.{insns_of}
use Rattle.c62_depend.proofs.Plans.{many_insns}
use Rattle.c62_show.proofs.Stepping.{tight_within}
use Rattle.c62_show.proofs.limits.step_between.Goals as goal

pub latency-requires-clause-first : goal.latency-requires-clause-first
latency-requires-clause-first c =
    let order = tight_within (insns_of c.args.plan.now) c.args.i c.args.j c.len-all.ensures.sound c.requires in
    omega (arith, order.0, order.1, many_insns c.args.plan.now.insns)

pub latency-requires-clause-second : goal.latency-requires-clause-second
latency-requires-clause-second c =
    let order = tight_within (insns_of c.args.plan.now) c.args.i c.args.j c.len-all.ensures.sound c.requires in
    omega (arith, order.1, many_insns c.args.plan.now.insns)

pub reason_for-requires-clause-within : goal.reason_for-requires-clause-within
reason_for-requires-clause-within c =
    let order = tight_within (insns_of c.args.plan.now) c.args.i c.args.j c.len-all.ensures.sound c.requires in
    omega (arith, order.1, many_insns c.args.plan.now.insns)

pub unreachable-requires : goal.unreachable-requires
unreachable-requires c = none-some c.requires.cycles (sym c.in-None.is
    ∙ (c.latency.ensures.latency ∙ c.requires.depends))

pub returns : goal.returns
returns c =
    let fits : FitsSigned w32 c.in-Some.cycles = search rules in
    let same : to_z w32 (of_z w32 c.in-Some.cycles) ≡ c.in-Some.cycles = to_z-of_z w32 c.in-Some.cycles fits in
    record {
      line = c.line_of.ensures;
      cycles = sym c.in-Some.ensures.latency ∙ ap Some (sym same);
      reason = c.reason_for.ensures;
    }
