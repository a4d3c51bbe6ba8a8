use Rattle.std.proofs.Common.{◌≡◌, ℕ, ◌+◌, sym, ap, subst, rules, map}
use Rattle.c62_command.specs.Promises.{IsFirstBadTrips, trips_of}
use Rattle.c62_command.proofs.PromiseLemmas.{first_bad, one_more, words}
use Rattle.c62_command.proofs.promise.read_trips.Goals as goal

pub returns-then-not-branch-clause-err : goal.returns-then-not-branch-clause-err
returns-then-not-branch-clause-err c =
    let same : c.loop-text.text-index + 1 ≡ c.loop-text.number + 1 = ap (λ (n : ℕ). n + 1) (sym c.loop-text.invariant.1)
    in
    subst (IsFirstBadTrips (words c.args.texts.now)) same
    (first_bad c.args.texts.now c.loop-text.text-index _ (map trips_of c.loop-text.all.items)
    (map trips_of c.push_trips.new.all.items) (search rules) c.loop-text.invariant.0
    (rw (c.as_bytes.ensures.value, c.if-not-branch.true) at c.in_ok-push_trips.ensures))

pub loop-text-preserved : goal.loop-text-preserved
loop-text-preserved c = (
  one_more c.args.texts.now c.loop-text.text-index _ (map trips_of c.loop-text.all.items)
      (map trips_of c.push_trips.new.all.items) (search rules) c.loop-text.invariant.0
      (rw (c.as_bytes.ensures.value, c.if-not-branch.false) at c.in_ok-push_trips.ensures),
  search rules,
)
