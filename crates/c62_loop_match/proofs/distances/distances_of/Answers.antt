use Rattle.std.proofs.Common.{arith, rules, ◌≡◌, ◌+◌, ℕ, subst}
use Rattle.c62_loop.specs.Stage.{KeepDistances, placed_of}
use Rattle.c62_loop_match.specs.Parts.{schedule_of}
use Rattle.c62_loop_match.specs.Path.{straights_of}
use Rattle.c62_loop_match.specs.Promise.{promises}
use Rattle.c62_loop_match.proofs.Pairs.{one_later}
use Rattle.c62_loop_match.proofs.distances.distances_of.Goals as goal

pub loop-passes-preserved : goal.loop-passes-preserved
loop-passes-preserved c =
    let now : KeepDistances (promises c.args.promise) (straights_of c.args.work.now)
    (c.from.result + c.loop-passes.passes)
    (placed_of (schedule_of c.args.schedule.now) (c.from.result + c.loop-passes.passes) c.loop-passes.passes)
    = search rules in
    one_later (λ (k : ℕ). KeepDistances (promises c.args.promise) (straights_of c.args.work.now) (c.args.most + k)
    (placed_of (schedule_of c.args.schedule.now) (c.args.most + k) k)) c.loop-passes.passes
    (subst (λ (n : ℕ). KeepDistances (promises c.args.promise) (straights_of c.args.work.now) (n + c.loop-passes.passes)
    (placed_of (schedule_of c.args.schedule.now) (n + c.loop-passes.passes) c.loop-passes.passes))
    c.from.ensures now)
    c.loop-passes.invariant

pub returns : goal.returns
returns c = λ passes some few. (let most : c.from-passes-end.result ≡ c.args.most = c.from-passes-end.ensures in
    c.loop-passes.invariant passes some (omega (arith, few, most, c.loop-passes-test.false)))
