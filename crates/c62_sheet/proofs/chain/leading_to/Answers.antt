use Rattle.std.proofs.Common.{◌≡◌, ◌-◌, length, arith, ap, ◌∙◌, List}
use Rattle.std.specs.List.{list_any}
use Rattle.c62_depend.specs.declared.links.Link.{Link}
use Rattle.c62_depend.specs.Direct.{direct_followers}
use Rattle.c62_depend.specs.Plan.{insns_of}
use Rattle.c62_depend.proofs.Plans.{many_insns}
use Rattle.c62_sheet.proofs.Chains.{is_linked, leading_start, leading_more, followers_within, marks_to}
use Rattle.c62_sheet.proofs.chain.leading_to.Goals as goal

pub loop-k-init : goal.loop-k-init
loop-k-init c =
    leading_start (insns_of c.args.plan.now) c.args.i (length (insns_of c.args.plan.now))
    (let few = c.len-n.ensures.sound.few in let many = many_insns c.args.plan.now.insns in omega (arith, c.requires))

pub is_any_marked-requires : goal.is_any_marked-requires
is_any_marked-requires c =
    rw c.followers.ensures
    (followers_within (insns_of c.args.plan.now) (c.loop-k.k - 1) (length c.loop-k.marks)
    (let few = c.len-n.ensures.sound.few in omega (arith, c.loop-k.invariant.many)))

pub loop-k-preserved : goal.loop-k-preserved
loop-k-preserved c =
    let few = c.len-n.ensures.sound.few in
    let many = many_insns c.args.plan.now.insns in
    let is : c.is_any_marked.result ≡ list_any (is_linked c.loop-k.marks)
    (direct_followers (insns_of c.args.plan.now) (c.loop-k.k - 1)) =
    c.is_any_marked.ensures
    ∙ ap (λ (links : List Link). list_any (is_linked c.loop-k.marks) links) c.followers.ensures in
    rw is (leading_more (insns_of c.args.plan.now) c.args.i (c.loop-k.k - 1) c.loop-k.k c.loop-k.marks
    (omega (arith, c.loop-k-test.true))
    (omega (arith, c.loop-k.auto.k)) (omega (arith, c.requires)) c.loop-k.invariant)

pub returns : goal.returns
returns c =
    marks_to (insns_of c.args.plan.now) c.args.i c.loop-k.k c.loop-k.marks
    (omega (arith, c.loop-k-test.false)) c.loop-k.invariant
