use Rattle.std.proofs.Common.{◌∙◌, ◌||◌, ap, Bool}
use Rattle.c62_insn.specs.Insn.{cond_of}
use Rattle.c62_depend.specs.Latency.{latency_of}
use Rattle.c62_loop_match.specs.Distances.{exclusive_under}
use Rattle.c62_loop_bound.proofs.needs.latency.Goals as goal

pub returns : goal.returns
returns c =
    let first = c.args.first.now in
    let second = c.args.second.now in
    c.as_bound.ensures ∙ c.by_all.ensures
    ∙ ap (λ (x : Bool). latency_of c.are_exclusive-exclusive.result x first.insn second.insn)
    c.needs_no_order-free.ensures
    ∙ ap (λ (x : Bool). latency_of x (c.are_disjoint-apart.result || c.args.excused) first.insn second.insn)
    (c.are_exclusive-exclusive.ensures ∙ ap (λ a. exclusive_under c.args.written a c.cond-2.result) c.cond.ensures
    ∙ ap (λ b. exclusive_under c.args.written (cond_of first.insn) b) c.cond-2.ensures)
    ∙ ap (λ (x : Bool). latency_of (exclusive_under c.args.written (cond_of first.insn) (cond_of second.insn))
    (x || c.args.excused) first.insn second.insn) c.are_disjoint-apart.ensures
