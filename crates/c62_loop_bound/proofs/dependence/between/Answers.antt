use Rattle.std.proofs.Common.{arith, rules, ◌<◌, ◌∙◌, sym, ap, length, Some, to_z, of_z, w32, FitsSigned}
use Rattle.std.proofs.lemmas.Int.{to_z-of_z}
use Rattle.c62_depend.proofs.Latencies.{insn_at}
use Rattle.c62_loop_match.proofs.Written.{are_written}
use Rattle.c62_loop_bound.proofs.Found.{found_is}
use Rattle.c62_loop_bound.proofs.dependence.between.Goals as goal

pub returns : goal.returns
returns c = λ work thrice.
    let path = c.args.path.now in
    let u = c.index-path-i.result in
    let v = c.index-path-j.result in
    let latency = c.in_ok-latency.latency in
    let fits : FitsSigned w32 latency = search rules in
    let first : c.args.i < length path = omega (arith, c.requires.before, c.requires.within) in
    found_is c.args.promise work path thrice c.args.count c.args.i c.args.j c.requires.thrice c.requires.before
    c.requires.within c.if-count-i.false c.args.written u v (to_z w32 (of_z w32 latency)) c.is_excused-excused.result
    (are_written path c.args.written c.args.i c.args.j c.requires.written)
    (insn_at path c.args.i u first c.index-path-i.is) (insn_at path c.args.j v c.requires.within c.index-path-j.is)
    (sym v.branch_is ∙ c.if-second.false) c.is_excused-excused.ensures
    (sym c.latency.ensures ∙ c.in_ok-latency.was ∙ ap Some (sym (to_z-of_z w32 latency fits)))
