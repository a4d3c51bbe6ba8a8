use Rattle.c62_depend.proofs.Common.{Bool, ap, ◌∙◌, as_bound, insns_in, are_exclusive, latency_of}
use Rattle.c62_depend.proofs.Latencies.{latency_at}
use Rattle.c62_depend.proofs.latency.latency_number.Goals as goal

pub returns : goal.returns
returns c =
    let block = insns_in c.args.uses.now in
    let i = c.args.i in
    let j = c.args.j in
    let u = c.index-uses-i.result in
    let v = c.index-uses-j.result in
    latency_at c.args.uses.now i j u v (as_bound c.by_all.result) c.requires.before c.requires.within c.index-uses-i.is
    c.index-uses-j.is
    (c.by_all.ensures ∙ ap (λ (b : Bool). latency_of b c.are_disjoint-disjoint.result u.insn v.insn)
    c.are_exclusive-exclusive.ensures
    ∙ ap (λ (b : Bool). latency_of (are_exclusive block i j) b u.insn v.insn) c.are_disjoint-disjoint.ensures)
