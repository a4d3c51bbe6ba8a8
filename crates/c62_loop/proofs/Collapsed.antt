-- A pipelined loop that begins iterations past the last does what its serial loop does, but for what these leave.
use Rattle.std.proofs.Common.{Bool, false, ◌≡◌, ℕ, ◌+◌, ◌-◌, ◌<◌, ◌≤◌, List, [], ◌∷◌, ◌++◌, map, length, get_or}
use Rattle.std.proofs.Common.{Some, sym, ◌∙◌}
use Rattle.std.proofs.Common.{ap, subst, ◌⊎◌, inl, inr, ⊎_elim, arith}
use Rattle.std.proofs.lemmas.Bool.{cases_lt}
use Rattle.std.specs.Prelude.{slice_get}
use Rattle.std.proofs.lemmas.Option.{slice_get_within, slice_get-get_or}
use Rattle.std.proofs.lemmas.List.{length-map}
use Rattle.c62_op.specs.declared.register.Reg.{Reg}
use Rattle.c62_insn.specs.declared.insn.Insn.{Insn}
use Rattle.c62_read.specs.declared.block.SerialInsn.{SerialInsn}
use Rattle.c62_packet.specs.declared.placed.Placed.{Placed}
use Rattle.c62_meaning.specs.Cut.{moved}
use Rattle.c62_meaning.proofs.Lookup.{In, In_from_Contains, Contains_from_In, In-append_left, In-append_right}
use Rattle.c62_meaning.proofs.Lookup.{In-append_cases}
use Rattle.c62_meaning.proofs.Instances.{in_map, no_entry}
use Rattle.c62_loop.specs.Counter.{touches, steps_in, IsCounted, work_of}
use Rattle.c62_loop.specs.Loop.{Region, Pipelined, IsCountedLoop}
use Rattle.c62_loop.specs.Past.{with_past}
use Rattle.c62_loop.specs.Stage.{Stage, Schedule, cycles_in, instance_of, round_of, rounds_from, Places, KeepDistances}
use Rattle.c62_loop.specs.Whole.{StandFor, work_insns}
use Rattle.c62_loop.specs.Collapsed.{Beyond, IsHeld, past_placed, all_placed, AreHeldOf, IsCollapsing}
use Rattle.c62_loop.specs.Collapsed.{CollapsedForAllTrips}
use Rattle.c62_loop.proofs.Lists.{all_in, in_mapped, at_place, place_of}
use Rattle.c62_loop.proofs.Machines.{In-All}
use Rattle.c62_loop.proofs.Counting.{in_work, steps_both}
use Rattle.c62_loop.proofs.Iterations.{in_rounds, behind_rounds, from_rounds}
use Rattle.c62_loop.proofs.Kept.{kept_with}
use Rattle.c62_loop.proofs.Standing.{work_both, AreOf, stand_count, stand_both, stand_moved, later_stand}
use Rattle.c62_loop.proofs.Members.{IsInstance, RestIs, members}
use Rattle.c62_loop.proofs.Core.{Core}
use Rattle.c62_loop.proofs.Whole.{is_match}
use Rattle.c62_loop.proofs.Past.{pipelined_past_the_end}
use Rattle.c62_loop.proofs.PastParts.{past_stand, past_inside, all_work, no_steps}
use Rattle.c62_loop.proofs.PastLater.{behind_later}

-- ---- stages

are_of : (most deep : ℕ) (entries : List SerialInsn) (stages : List Stage) → AreHeldOf most deep entries stages
    → AreOf entries stages
are_of most deep [] stages h = grind arith
are_of most deep (e ∷ entries) stages h = grind (arith, are_of most deep entries)

held_count : (most deep : ℕ) (entries : List SerialInsn) (stages : List Stage) → AreHeldOf most deep entries stages
    → length stages ≡ length entries
held_count most deep [] stages h = grind arith
held_count most deep (e ∷ entries) stages h = grind (arith, held_count most deep entries)

stage_held : (most deep : ℕ) (entries : List SerialInsn) (stages : List Stage) → AreHeldOf most deep entries stages
    → (stage : Stage) → In stage stages
    → (most ≤ length stage.early + length stage.late) × (length stage.early ≤ deep)
stage_held most deep entries [] h stage k = absurd k
stage_held most deep [] (s ∷ stages) h stage k = absurd h
stage_held most deep (e ∷ entries) (s ∷ stages) h stage (inl same) = grind arith
stage_held most deep (e ∷ entries) (s ∷ stages) h stage (inr k) = stage_held most deep entries stages h.1 stage k

-- a stage has an instruction
entry_at : (entries : List SerialInsn) (stages : List Stage) → length stages ≡ length entries → (stage : Stage)
    → In stage stages → (place : ℕ) × (slice_get stages place ≡ Some stage)
    × ((entry : SerialInsn) × (slice_get entries place ≡ Some entry))
entry_at entries stages same stage h =
    let r = place_of stages stage h in
    let l : r.0 < length stages = slice_get_within stages r.0 stage r.1 in
    (r.0, r.1, (get_or entries r.0 no_entry, slice_get-get_or entries r.0 no_entry (omega arith)))

module _ (promised : Insn → Insn → Bool) (region : Region) (past : List SerialInsn) (loop : Pipelined) (most : ℕ)
    (m : IsCollapsing promised region past loop most) where
  abbrev counter : Reg
  counter = region.counter

  abbrev schedule : Schedule
  schedule = m.schedule

  abbrev longer : Region
  longer = with_past region past

  abbrev work : List SerialInsn
  work = work_of counter region.body

  abbrev deep : ℕ
  deep = m.deep

  abbrev behind : ℕ → List Placed
  behind passes = map (moved (cycles_in schedule.interval passes)) schedule.behind
      ++ past_placed schedule.interval m.beyond passes

  abbrev rest : ℕ → List Placed
  rest passes = rounds_from schedule passes 0 (most + passes) (behind passes)

  held : (stage : Stage) → In stage schedule.stages
      → (most ≤ length stage.early + length stage.late) × (length stage.early ≤ deep)
  held = stage_held most deep work schedule.stages m.body

  each : (one : Beyond) → In one m.beyond → IsHeld work schedule.stages one
  each one h = m.each one (Contains_from_In one m.beyond h)

  -- ---- the work past the last iteration

  of_body : (entry : SerialInsn) → In entry past → In entry work
  of_body entry h = past_inside work schedule.stages m.beyond each entry (subst (λ xs. In entry xs) m.past_is h)

  untouched : (entry : SerialInsn) → In entry past → touches counter entry ≡ false
  untouched entry h = (in_work counter region.body entry (of_body entry h)).1

  work_longer : work_of counter (region.behind ++ past) ≡ work_of counter region.behind ++ past
  work_longer =
      work_both counter region.behind past
      ∙ ap (λ xs. work_of counter region.behind ++ xs) (all_work counter past untouched)

  stands : (passes : ℕ) → StandFor (work_of counter (region.behind ++ past)) (behind passes)
  stands passes = grind (arith, work_longer, stand_both, stand_moved, past_stand, are_of most, each)

  counted_longer : IsCountedLoop region → IsCountedLoop longer
  counted_longer counted = record {
    straight_before = counted.straight_before;
    body = counted.body;
    behind = all_in (IsCounted counter region.number) (region.behind ++ past)
        (λ entry h. of_part entry (In-append_cases entry region.behind past h));
    one_step = counted.one_step;
    no_step_behind = no_step;
  }
    where
      of_part : (entry : SerialInsn) → In entry region.behind ⊎ In entry past → IsCounted counter region.number entry
      of_part entry (inl k) = In-All (IsCounted counter region.number) region.behind counted.behind entry k
      of_part entry (inr k) = In-All (IsCounted counter region.number) region.body counted.body entry
          (in_work counter region.body entry (of_body entry k)).0

      no_step : steps_in counter (region.behind ++ past) ≡ 0
      no_step =
          let both : steps_in counter (region.behind ++ past) ≡ steps_in counter region.behind + steps_in counter past =
          steps_both counter region.behind past in
          let one : steps_in counter region.behind ≡ 0 = counted.no_step_behind in
          let two : steps_in counter past ≡ 0 = no_steps counter past untouched in omega arith

  -- ---- all instances

  module _ (passes : ℕ) where
    abbrev instance : Stage → ℕ → Placed
    instance stage t = instance_of schedule.interval passes t stage

    abbrev moved_behind : List Placed
    moved_behind = map (moved (cycles_in schedule.interval passes)) schedule.behind

    past_held : (stage : Stage) (t : ℕ) → In stage schedule.stages → most + passes ≤ t
        → t < length stage.early + length stage.late + passes → In (instance stage t) (rest passes)
    past_held stage t h low l =
        let r = entry_at work schedule.stages (held_count most deep work schedule.stages m.body) stage h in
        let (place, at_s, (entry, at_e)) = r in
        let number : (t - passes) < length stage.early + length stage.late = omega arith in
        let one : Beyond = record { entry = entry; stage = stage; number = t - passes } in
        let k : In one m.beyond
        = In_from_Contains one m.beyond (m.all place (t - passes) entry stage at_e at_s (omega arith) number) in
        let e : passes + (t - passes) ≡ t = omega arith in
        behind_rounds schedule passes 0 (most + passes) (behind passes) (instance stage t)
        (In-append_right (instance stage t) moved_behind (past_placed schedule.interval m.beyond passes)
        (subst (λ n. In (instance stage n) (past_placed schedule.interval m.beyond passes)) e
        (in_map (λ (one : Beyond). instance_of schedule.interval passes (passes + one.number) one.stage) one m.beyond
        k)))

    all_held : (stage : Stage) (t : ℕ) → In stage schedule.stages
        → t < length stage.early + length stage.late + passes → In (instance stage t) (rest passes)
    all_held stage t h l =
        ⊎_elim {C = In (instance stage t) (rest passes)}
        (λ (u : t < most + passes). let z : t ≡ 0 + t = omega arith in
        in_rounds schedule passes 0 (most + passes) t (behind passes) (instance stage t) u
        (subst (λ n. In (instance stage t) (round_of schedule passes n)) z
        (in_map (instance_of schedule.interval passes t) stage schedule.stages h)))
        (λ (u : most + passes ≤ t). past_held stage t h u l)
        (cases_lt t (most + passes))

    of_past : (p : Placed) → In p (past_placed schedule.interval m.beyond passes) → IsInstance schedule passes p
    of_past p h =
        let r = in_mapped (λ (one : Beyond). instance_of schedule.interval passes (passes + one.number) one.stage)
        m.beyond p h in
        let k : IsHeld work schedule.stages r.0 = each r.0 r.1 in
        let u : r.0.number < length r.0.stage.early + length r.0.stage.late = k.held in
        (r.0.stage, passes + r.0.number, at_place schedule.stages k.place r.0.stage k.stage_is, omega arith, r.2)

    of_all : (p : Placed) → In p (behind passes) ⊎ ((t : ℕ) × (t < most + passes) × In p
        (round_of schedule passes (0 + t)))
        → In p moved_behind ⊎ IsInstance schedule passes p
    of_all p (inl h) = grind (arith, In-append_cases p, of_past p)
    of_all p (inr (t, l, h)) =
        let z : 0 + t ≡ t = omega arith in
        let r = in_mapped (instance_of schedule.interval passes t) schedule.stages p
        (subst (λ n. In p (round_of schedule passes n)) z h) in
        let b = held r.0 r.1 in
        let low : most ≤ length r.0.early + length r.0.late = b.0 in
        inr (r.0, t, r.1, omega arith, r.2)

    rest_is : RestIs schedule passes (rest passes)
    rest_is = record {
      held = all_held;
      behinds = λ p h. grind (arith, behind_rounds, In-append_left p);
      from = λ p h. of_all p (from_rounds schedule passes 0 (most + passes) (behind passes) p h);
    }

  -- ---- distances

  few_early : (stage : Stage) → In stage schedule.stages → length stage.early ≤ deep
  few_early stage h = (held stage h).1

  places : Places (work_insns longer) schedule deep
  places = record {
    before = stand_count region.before schedule.before m.before
        ∙ sym (length-map region.before (λ (entry : SerialInsn). entry.insn));
    body = held_count most deep work schedule.stages m.body
        ∙ sym (length-map work (λ (entry : SerialInsn). entry.insn));
    early = all_in (λ stage. length stage.early ≤ deep) schedule.stages few_early;
  }

  keeps : (passes : ℕ) → 0 < passes
      → KeepDistances promised (work_insns longer) (most + passes) (all_placed schedule most m.beyond passes)
  keeps passes some =
      ⊎_elim {C = KeepDistances promised (work_insns longer) (most + passes)
      (all_placed schedule most m.beyond passes)}
      (λ (l : passes < deep + 3). m.keeps passes some (omega arith))
      (λ (l : deep + 3 ≤ passes). kept_with (work_insns longer) schedule most deep places behind
      (λ count enough. behind_later schedule m.beyond count
      (λ one h. (let k : IsHeld work schedule.stages one = each one h in
      let u : length one.stage.early ≤ deep
      = few_early one.stage (at_place schedule.stages k.place one.stage k.stage_is) in omega arith)))
      promised (m.keeps (deep + 3) (omega arith) (omega arith)) passes l)
      (cases_lt passes (deep + 3))

  collapsed : (passes : ℕ) → 0 < passes → Core promised longer loop most passes
  collapsed passes some = record {
    control = m.control;
    before = schedule.before;
    rest = rest passes;
    stand_before = m.before;
    stand_rest = later_stand longer schedule passes (are_of most deep work schedule.stages m.body) (behind passes)
        (stands passes) (most + passes);
    steering = m.steering;
    begins = m.begins;
    keeps = keeps passes some;
    members = members loop passes schedule m.control
        (record { same_interval = m.same_interval; prolog = m.prolog; kernel = m.kernel; epilog = m.epilog })
        (rest passes) (rest_is passes);
    drained = m.drained;
  }

pub collapsed_for_all_trips : (promised : Insn → Insn → Bool) (region : Region) (past : List SerialInsn)
    (loop : Pipelined) (most : ℕ) → CollapsedForAllTrips promised region past loop most
collapsed_for_all_trips promised region past loop most counted is m opening passes sound some begins small promise =
    pipelined_past_the_end region past loop (most + passes) passes m.no_store
    (counted_longer promised region past loop most m counted) is opening
    (is_match promised (with_past region past) loop most passes
    (collapsed promised region past loop most m passes some) some opening sound begins small promise)
    sound begins small
