use Rattle.std.proofs.Common.{arith, rules, FitsSigned, w8, ◌+◌, sym, ap, ◌∙◌, subst, drop, get_or, Option}
use Rattle.std.specs.Prelude.{ℤ, pos, fold}
use Rattle.std.proofs.lemmas.Int.{to_z-of_z}
use Rattle.c62_depend.specs.declared.links.Link.{Link}
use Rattle.c62_depend.specs.Latency.{greater, greatest_by}
use Rattle.c62_depend.specs.Plan.{insns_of}
use Rattle.c62_raised.specs.Steps.{begun, behind_by, through, IsSmall}
use Rattle.c62_raised.proofs.Leads.{need_before, small_begun, longest_by}
use Rattle.c62_raised.proofs.Loops.{fold_next, fold_end}
use Rattle.c62_raised.proofs.lead.lead.Goals as goal

pub begun-before-requires : goal.begun-before-requires
begun-before-requires c =
    let known = need_before (insns_of c.args.plan.now) c.args.j c.loop-link.link-index c.needs-link-items.result.now
    (record { number = 0; latency = pos 0 })
    c.needs-link-items.ensures c.loop-link-test.true in
    omega (arith, known, c.from.ensures, c.requires.long)

pub behind_by-requires : goal.behind_by-requires
behind_by-requires c =
    let known = need_before (insns_of c.args.plan.now) c.args.j c.loop-link.link-index c.needs-link-items.result.now
    (record { number = 0; latency = pos 0 })
    c.needs-link-items.ensures c.loop-link-test.true in
    subst IsSmall (sym c.begun-before.ensures)
    (small_begun (insns_of c.args.plan.now) c.args.i c.args.j c.from.result c.args.leads.now c.requires.few
    c.requires.leads (omega (arith, known, c.from.ensures)))

pub loop-link-preserved : goal.loop-link-preserved
loop-link-preserved c =
    let links = c.needs-link-items.result.now in
    let k = c.loop-link.link-index in
    let step : Option ℤ → Link → Option ℤ = λ most link. greater most (through c.args.leads.now c.args.i link) in
    let link : Link = get_or links k (record { number = 0; latency = pos 0 }) in
    let fits : FitsSigned w8 link.latency = search rules in
    let behind = rw (to_z-of_z w8 link.latency fits) at c.behind_by.ensures in
    let one = c.greater-most.ensures
    ∙ ap (greater c.loop-link.most) (behind
    ∙ ap (behind_by link.latency) (c.begun-before.ensures
    ∙ ap (begun c.args.leads.now c.args.i) c.from.ensures)) in
    ap (λ (most : Option ℤ). fold step most (drop (k + 1) links)) one
    ∙ sym (fold_next step c.loop-link.most links k (record { number = 0; latency = pos 0 }) c.loop-link-test.true)
    ∙ c.loop-link.invariant

pub returns : goal.returns
returns c =
    let links = c.needs-link-items.result.now in
    let step : Option ℤ → Link → Option ℤ = λ most link. greater most (through c.args.leads.now c.args.i link) in
    let all = sym (fold_end step c.loop-link.most links c.loop-link.link-index (omega (arith, c.loop-link-test.false)))
    ∙ c.loop-link.invariant in
    longest_by (insns_of c.args.plan.now) c.args.i c.args.j c.args.leads.now c.requires.leads c.loop-link.most
    (all ∙ ap (greatest_by (through c.args.leads.now c.args.i)) c.needs-link-items.ensures)
