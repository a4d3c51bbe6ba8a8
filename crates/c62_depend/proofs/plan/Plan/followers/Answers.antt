use Rattle.c62_depend.proofs.Common.{◌<◌, ap, ◌∙◌, length, arith, Serial, insns_of}
unfoldable use Rattle.c62_depend.specs.Direct.{direct_followers}
use Rattle.c62_depend.proofs.Plans.{many_insns}
use Rattle.c62_depend.proofs.Lists.{lists_long, list_is}
use Rattle.c62_depend.proofs.plan.Plan.followers.Goals as goal

pub index-requires : goal.index-requires
index-requires c =
    let within : c.args.i < length c.self.inside.block.insns = rw c.self.view_is c.requires in
    let long = lists_long _ _ c.self.inside.tables.followers.items c.self.invariant.followers in
    omega (arith, many_insns c.self.inside.block.insns, c.self.inside.tables.followers.ok.0)

pub returns : goal.returns
returns c =
    let within : c.args.i < length c.self.inside.block.insns = rw c.self.view_is c.requires in
    let many = many_insns c.self.inside.block.insns in
    c.as_slice.ensures
    ∙ list_is _ _ c.args.i c.self.inside.tables.followers.items c.index.result.now c.self.invariant.followers
    (omega arith) c.index.ensures
    ∙ ap (λ (b : Serial). direct_followers (insns_of b) c.args.i) c.self.view_is
