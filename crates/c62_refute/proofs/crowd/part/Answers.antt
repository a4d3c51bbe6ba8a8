use Rattle.std.proofs.Common.{arith, ◌≡◌, ℕ, ◌<◌, ◌≤◌, length, ap, ◌∙◌, sym}
use Rattle.std.specs.Prelude.{slice_set}
use Rattle.std.proofs.lemmas.Bool.{false≢true}
use Rattle.std.proofs.lemmas.List.{length-set}
use Rattle.c62_depend.specs.Plan.{insns_of}
use Rattle.c62_depend.proofs.Plans.{many_insns}
use Rattle.c62_refute.specs.Crowd.{room_in}
use Rattle.c62_refute.proofs.Crowds.{few_inside, part_one, rest_one}
use Rattle.c62_refute.proofs.crowd.part.Goals as goal
use Rattle.c62_refute.proofs.crowd.part.Goals.{then-waits_for+then-not-is_inside, else-waits_for}

pub returns-then-inside-room-clause-none : goal.returns-then-inside-room-clause-none
returns-then-inside-room-clause-none c = λ e set cycles seated are. (
    let few = few_inside (insns_of c.args.plan.now) set cycles seated c.args.windows.now are c.args.stretch
    c.count-inside.result c.count-inside.ensures in
    omega (arith, few, c.if-inside-room.true, c.room-room.ensures))

pub loop-i-preserved : goal.loop-i-preserved
loop-i-preserved c =
    let block = insns_of c.args.plan.now in
    let old = c.args.windows.now in
    let new = c.loop-i.windows in
    let known = c.loop-i.invariant in
    let i = c.loop-i.i in
    let many = many_insns c.args.plan.now.insns in
    let low : i < length block = omega (arith, c.loop-i-test.true, c.len-i-end.ensures.len, many) in
    let sized : length new ≡ length block = omega (arith, known.sized, many) in
    elim c.if-waits_for.branch [
      | then-waits_for+then-not-is_inside w ↦
          (let out = w.outside.result in
          let here : c.if-waits_for.windows ≡ slice_set new i out = w.windows-is
          ∙ ap (λ (k : ℕ). slice_set new k out) w.from-then-not-is_inside.ensures in
          let long : length (slice_set new i out) ≡ length new = length-set new i out in
          let full : room_in c.args.stretch ≤ c.count-inside.result = omega
          (arith, c.if-inside-room-2.true, c.room-room.ensures) in
          let keeps = part_one block old new c.args.stretch c.count-inside.result i out sized known.keeps
          (known.rest i (omega arith)) c.count-inside.ensures
          full low (c.waits_for.ensures.0 w.if-waits_for.true) (λ inside. false≢true (sym w.if-not-is_inside.true
          ∙ w.is_inside.ensures.1 inside))
          (rw w.from.ensures at w.outside.ensures) in
          rw here (record {
            sized = omega (arith, long, known.sized);
            keeps = keeps;
            rest = rest_one old new i out known.rest;
          }))
      | else-waits_for w ↦ rw w.windows-is (record {
        sized = known.sized;
        keeps = known.keeps;
        rest = λ k above. known.rest k (omega (arith, above));
      })
    ]
