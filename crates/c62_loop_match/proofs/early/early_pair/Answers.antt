use Rattle.std.proofs.Common.{arith, ◌≡◌, ◌<◌, ◌∙◌, ◌||◌, ap, subst, length, get_or, Bool}
use Rattle.std.specs.Prelude.{MatchOption}
use Rattle.std.proofs.lemmas.Option.{slice_get-get_or}
use Rattle.c62_insn.specs.Insn.{cond_of}
use Rattle.c62_pair.specs.Numbers.{as_bound}
use Rattle.c62_depend.specs.Latency.{latency_of}
use Rattle.c62_depend.proofs.Latencies.{insn_at}
use Rattle.c62_loop_match.specs.declared.path.Instance.{Instance}
use Rattle.c62_loop_match.specs.Promise.{promises}
use Rattle.c62_loop_match.specs.Distances.{exclusive_under, disjoint_under, IsKept}
use Rattle.c62_loop_match.specs.Early.{IsEarlyBy}
use Rattle.c62_loop_match.proofs.Excuses.{pair_told}
use Rattle.c62_loop_match.proofs.Written.{are_written}
use Rattle.c62_loop_match.proofs.early.early_pair.Goals as goal

pub returns : goal.returns
returns c =
    let before : c.args.i < c.args.j = c.requires.before in
    let within : c.args.j < length c.args.path.now = c.requires.within in
    let count : length c.args.instances.now ≡ length c.args.path.now = c.requires.count in
    let u = c.index-path-i.result in
    let v = c.index-path-j.result in
    let none : Instance = record { cycle = 0; line = 0 } in
    let x = get_or c.args.instances.now c.args.i none in
    let y = get_or c.args.instances.now c.args.j none in
    pair_told (promises c.args.promise) c.args.path.now c.args.instances.now c.args.from c.args.to c.args.written
    c.args.i c.args.j u v x y (as_bound c.needs-number.result) c.early_by.result
    (are_written c.args.path.now c.args.written c.args.i c.args.j c.requires.written)
    (insn_at c.args.path.now c.args.i u (omega arith) c.index-path-i.is)
    (insn_at c.args.path.now c.args.j v within c.index-path-j.is)
    (slice_get-get_or c.args.instances.now c.args.i none (omega arith))
    (slice_get-get_or c.args.instances.now c.args.j none (omega arith))
    (c.needs-number.ensures
    ∙ ap (λ (b : Bool). latency_of (exclusive_under c.args.written (cond_of u.insn) (cond_of v.insn))
    (disjoint_under c.args.written u.covered v.covered || b) u.insn v.insn) c.is_excused-excused.ensures)
    (subst (λ n. MatchOption c.early_by.result (IsKept (as_bound c.needs-number.result) x.cycle y.cycle)
    (IsEarlyBy (as_bound c.needs-number.result) x y n)) c.saturating_sub-apart.ensures c.early_by.ensures)
