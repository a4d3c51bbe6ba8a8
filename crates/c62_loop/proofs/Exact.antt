-- A pipelined loop does what its serial loop does, for every number of trips.
use Rattle.std.proofs.Common.{Bool, ◌≡◌, ℕ, ◌+◌, ◌<◌, ◌≤◌, List, map, length, subst, ◌⊎◌, inl, inr, ⊎_elim, arith}
use Rattle.std.proofs.lemmas.Bool.{cases_lt}
use Rattle.c62_insn.specs.declared.insn.Insn.{Insn}
use Rattle.c62_packet.specs.declared.placed.Placed.{Placed}
use Rattle.c62_meaning.specs.Cut.{moved}
use Rattle.c62_meaning.proofs.Lookup.{In}
use Rattle.c62_meaning.proofs.Instances.{in_map}
use Rattle.c62_loop.specs.Counter.{work_of}
use Rattle.c62_loop.specs.Loop.{Region, Pipelined}
use Rattle.c62_loop.specs.Stage.{Stage, cycles_in, instance_of, round_of, rounds_from, placed_of, KeepDistances}
use Rattle.c62_loop.specs.Whole.{work_insns, IsPipelining, PipelinedForAllTrips}
use Rattle.c62_loop.proofs.Lists.{in_mapped}
use Rattle.c62_loop.proofs.Iterations.{in_rounds, behind_rounds, from_rounds, stage_even}
use Rattle.c62_loop.proofs.Kept.{kept_in_more_passes}
use Rattle.c62_loop.proofs.Standing.{stages_of, stand_moved, later_stand, work_places}
use Rattle.c62_loop.proofs.Members.{IsInstance, RestIs, members}
use Rattle.c62_loop.proofs.Core.{Core}
use Rattle.c62_loop.proofs.Pipelined.{pipelined_is_serial}
use Rattle.c62_loop.proofs.Whole.{is_match}

module _ (promised : Insn → Insn → Bool) (region : Region) (loop : Pipelined) (most passes : ℕ)
    (m : IsPipelining promised region loop most) (some : 0 < passes) where
  abbrev behind : List Placed
  behind = map (moved (cycles_in m.schedule.interval passes)) m.schedule.behind

  abbrev rest : List Placed
  rest = rounds_from m.schedule passes 0 (most + passes) behind

  even : (stage : Stage) → In stage m.schedule.stages → length stage.early + length stage.late ≡ most
  even = stage_even most (work_of region.counter region.body) m.schedule.stages m.body

  rest_is : RestIs m.schedule passes rest
  rest_is = record {
    held = λ stage t h l. (let e : length stage.early + length stage.late ≡ most = even stage h in
        let z : t ≡ 0 + t = omega arith in
        in_rounds m.schedule passes 0 (most + passes) t behind (instance_of m.schedule.interval passes t stage)
        (omega arith)
        (subst (λ n. In (instance_of m.schedule.interval passes t stage) (round_of m.schedule passes n)) z
        (in_map (instance_of m.schedule.interval passes t) stage m.schedule.stages h)));
    behinds = λ p h. behind_rounds m.schedule passes 0 (most + passes) behind p h;
    from = λ p h. of_round p (from_rounds m.schedule passes 0 (most + passes) behind p h);
  }
    where
      of_round : (p : Placed)
          → In p behind ⊎ ((t : ℕ) × (t < most + passes) × In p (round_of m.schedule passes (0 + t)))
          → In p behind ⊎ IsInstance m.schedule passes p
      of_round p (inl h) = inl h
      of_round p (inr (t, l, h)) =
          let z : 0 + t ≡ t = omega arith in
          let r = in_mapped (instance_of m.schedule.interval passes t) m.schedule.stages p
          (subst (λ n. In p (round_of m.schedule passes n)) z h) in
          let e : length r.0.early + length r.0.late ≡ most = even r.0 r.1 in
          inr (r.0, t, r.1, omega arith, r.2)

  keeps : KeepDistances promised (work_insns region) (most + passes) (placed_of m.schedule (most + passes) passes)
  keeps =
      ⊎_elim {C = KeepDistances promised (work_insns region) (most + passes)
      (placed_of m.schedule (most + passes) passes)}
      (λ (l : passes < most + 3). m.keeps passes some (omega arith))
      (λ (l : most + 3 ≤ passes). kept_in_more_passes promised (work_insns region) m.schedule most
      (work_places region m.schedule most passes m.before m.body m.behind)
      (m.keeps (most + 3) (omega arith) (omega arith)) passes l)
      (cases_lt passes (most + 3))

  pub exact : Core promised region loop most passes
  exact = record {
    control = m.control;
    before = m.schedule.before;
    rest = rest;
    stand_before = m.before;
    stand_rest = later_stand region m.schedule passes
        (stages_of most (work_of region.counter region.body) m.schedule.stages m.body) behind
        (stand_moved (cycles_in m.schedule.interval passes) (work_of region.counter region.behind) m.schedule.behind
        m.behind) (most + passes);
    steering = m.steering;
    begins = m.begins;
    keeps = keeps;
    members = members loop passes m.schedule m.control
        (record { same_interval = m.same_interval; prolog = m.prolog; kernel = m.kernel; epilog = m.epilog }) rest
        rest_is;
    drained = m.drained;
  }

pub pipelined_for_all_trips : (promised : Insn → Insn → Bool) (region : Region) (loop : Pipelined) (most : ℕ)
    → PipelinedForAllTrips promised region loop most
pipelined_for_all_trips promised region loop most counted is m opening passes sound some begins small promise more =
    pipelined_is_serial region loop (most + passes) passes counted is opening
    (is_match promised region loop most passes (exact promised region loop most passes m some) some opening sound begins
    small promise) sound begins small more
