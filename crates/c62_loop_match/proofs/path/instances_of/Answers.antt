use Rattle.std.proofs.Common.{rules, ◌++◌, ◌∙◌, ap, map, List, ℕ}
use Rattle.c62_packet.specs.declared.placed.Placed.{Placed}
use Rattle.c62_meaning.specs.Cut.{moved}
use Rattle.c62_loop.specs.Stage.{cycles_in}
use Rattle.c62_loop_match.specs.declared.path.Instance.{Instance}
use Rattle.c62_loop_match.specs.Path.{instance}
use Rattle.c62_loop_match.proofs.Paths.{count_more, count_whole}
use Rattle.c62_loop_match.proofs.path.instances_of.Goals as goal

pub loop-trip-preserved : goal.loop-trip-preserved
loop-trip-preserved c =
    count_more c.args.schedule.now c.args.trips c.args.passes c.loop-trip.trip c.loop-trip.instances.items
    c.extend_from_slice.new.self.items c.in_ok-round.round.items c.loop-trip-test.true (search rules)
    c.in_ok-round.ensures c.loop-trip.invariant

pub returns : goal.returns
returns c =
    count_whole c.args.schedule.now c.args.trips c.args.passes c.loop-trip.trip c.loop-trip.instances.items
    c.extend_from_slice-2.new.self.items c.in_ok-behind.behind.items c.loop-trip-test.false
    (c.in_ok-extend_from_slice-2.ensures.items
    ∙ ap (λ (xs : List Instance). c.loop-trip.instances.items ++ xs) c.deref-3.ensures.value)
    (c.in_ok-behind.ensures
    ∙ ap (λ (n : ℕ). map (λ (p : Placed). instance (moved n p)) c.deref-2.result.now)
    c.cycles_in-later.ensures.cycles
    ∙ ap (map (λ (p : Placed). instance (moved (cycles_in c.args.schedule.now.interval c.args.passes) p)))
    c.deref-2.ensures.value)
    c.loop-trip.invariant
