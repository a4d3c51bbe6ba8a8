use Rattle.c62_depend.proofs.Common.{◌<◌, ap, ◌∙◌, length, arith, Serial, insns_of, height}
use Rattle.c62_depend.proofs.Plans.{many_insns}
use Rattle.c62_depend.proofs.Ranges.{list_long, list_at}
use Rattle.c62_depend.proofs.plan.Plan.height.Goals as goal

pub index-requires : goal.index-requires
index-requires c =
    let within : c.args.i < length c.self.inside.block.insns = rw c.self.view_is c.requires in
    let long = list_long _ _ c.self.inside.tables.heights.items c.self.invariant.heights in
    omega (arith, many_insns c.self.inside.block.insns, c.self.inside.tables.heights.ok.0)

pub returns : goal.returns
returns c =
    let within : c.args.i < length c.self.inside.block.insns = rw c.self.view_is c.requires in
    let many = many_insns c.self.inside.block.insns in
    list_at _ _ c.args.i c.self.inside.tables.heights.items c.index.result.now c.self.invariant.heights (omega arith)
    c.index.ensures
    ∙ ap (λ (b : Serial). height (insns_of b) c.args.i) c.self.view_is
