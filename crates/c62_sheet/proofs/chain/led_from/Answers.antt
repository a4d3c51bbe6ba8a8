use Rattle.std.proofs.Common.{◌≡◌, length, arith, ap, ◌∙◌, List}
use Rattle.std.specs.List.{list_any}
use Rattle.c62_depend.specs.declared.links.Link.{Link}
use Rattle.c62_depend.specs.Direct.{direct_needs}
use Rattle.c62_depend.specs.Plan.{insns_of}
use Rattle.c62_depend.proofs.Plans.{many_insns}
use Rattle.c62_sheet.specs.Chain.{Leads}
use Rattle.c62_sheet.proofs.Chains.{is_linked, led_start, led_more, needs_within, marks_from}
use Rattle.c62_sheet.proofs.chain.led_from.Goals as goal

pub loop-j-init : goal.loop-j-init
loop-j-init c = led_start (insns_of c.args.plan.now) c.args.i
    (let few = c.len-n.ensures.sound.few in let many = many_insns c.args.plan.now.insns in omega
    (arith, c.requires))

pub is_any_marked-requires : goal.is_any_marked-requires
is_any_marked-requires c =
    rw c.needs.ensures
    (needs_within (insns_of c.args.plan.now) c.loop-j.j (length c.loop-j.marks)
    (let few = c.len-n.ensures.sound.few in let many = many_insns c.args.plan.now.insns in omega
    (arith, c.loop-j.invariant.many, c.len-n.ensures.len, c.loop-j-test.true)))

pub loop-j-preserved : goal.loop-j-preserved
loop-j-preserved c =
    let few = c.len-n.ensures.sound.few in
    let many = many_insns c.args.plan.now.insns in
    let is : c.is_any_marked.result ≡ list_any (is_linked c.loop-j.marks)
    (direct_needs (insns_of c.args.plan.now) c.loop-j.j) =
    c.is_any_marked.ensures ∙ ap (λ (links : List Link). list_any (is_linked c.loop-j.marks) links) c.needs.ensures in
    rw is (led_more (insns_of c.args.plan.now) c.args.i c.loop-j.j c.loop-j.marks (omega (arith, c.loop-j.auto.j))
    (omega (arith, c.len-n.ensures.len, c.loop-j-test.true)) c.loop-j.invariant)

pub returns : goal.returns
returns c =
    let many = many_insns c.args.plan.now.insns in
    marks_from (insns_of c.args.plan.now) (Leads (insns_of c.args.plan.now) c.args.i) c.loop-j.j c.loop-j.marks
    (omega (arith, c.len-n.ensures.len, c.loop-j-test.false)) c.loop-j.invariant
