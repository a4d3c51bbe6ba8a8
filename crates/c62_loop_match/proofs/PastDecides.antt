-- The parts of what is asked of packets that begin iterations past the last, put together.
use Rattle.std.proofs.Common.{◌≡◌, ℕ, ◌+◌, ◌<◌, ◌≤◌, Bool, false, List, [], ◌∷◌, ◌++◌, map, get_or}
use Rattle.std.proofs.Common.{refl, sym, ◌∙◌, ap, subst}
use Rattle.std.specs.Prelude.{Result, Ok, Err, IfOk, All, Contains, IsFalse}
use Rattle.std.specs.declared.alloc.AllocError.{AllocError}
use Rattle.std.specs.Bool.{OnTrue}
use Rattle.std.proofs.lemmas.Bool.{OnTrue_at, OnTrue_from}
use Rattle.std.specs.List.{flat_map}
use Rattle.std.proofs.lemmas.List.{map-append}
use Rattle.c62_op.specs.Shape.{is_store}
use Rattle.c62_insn.specs.declared.insn.Insn.{Insn}
use Rattle.c62_insn.specs.Insn.{op_of}
use Rattle.c62_read.specs.declared.block.SerialInsn.{SerialInsn}
use Rattle.c62_packet.specs.declared.placed.Placed.{Placed}
use Rattle.c62_meaning.proofs.Lookup.{In, Contains_from_In}
use Rattle.c62_loop.specs.Counter.{touches, work_of}
use Rattle.c62_loop.specs.Loop.{Region, Pipelined}
use Rattle.c62_loop.specs.Past.{with_past}
use Rattle.c62_loop.specs.Stage.{Stage, Straights, KeepDistances}
use Rattle.c62_loop.specs.Whole.{StandFor, IsSteering, ComeBehind, insns_in, work_insns}
use Rattle.c62_loop.specs.Collapsed.{Beyond, past_work, all_placed, IsHeld, AreHeldOf, AreAllBeyond, IsCollapsing}
use Rattle.c62_loop.proofs.Counting.{in_work}
use Rattle.c62_loop.proofs.PastParts.{past_inside, all_work}
use Rattle.c62_loop.proofs.Standing.{work_both}
use Rattle.c62_loop_match.specs.declared.beyond.Beyond.{Beyond as BeyondRead}
use Rattle.c62_loop_match.specs.declared.decision.Layout.{Layout}
use Rattle.c62_loop_match.specs.declared.decision.Works.{Works}
use Rattle.c62_loop_match.specs.declared.parts.Control.{Control as ControlRead}
use Rattle.c62_loop_match.specs.declared.parts.Schedule.{Schedule as ScheduleRead}
use Rattle.c62_loop_match.specs.declared.path.Work.{Work}
use Rattle.c62_loop_match.specs.Path.{straights_of}
use Rattle.c62_loop_match.specs.Beyond.{AreHeld, AreBegun}
use Rattle.c62_loop_match.specs.Collapse.{IsLonger, FitsPast, KeepsAllPast, KeepDistancesPast}
use Rattle.c62_loop_match.specs.Decide.{IsLayout, IsWork, HoldsRows}
use Rattle.c62_loop_match.specs.Members.{AreOneSet}
use Rattle.c62_loop_match.specs.Parts.{stage_of, schedule_of, control_of}
use Rattle.c62_loop_match.proofs.Beyonds.{beyond_of, each, all, held_whole, instances_are}
use Rattle.c62_loop_match.proofs.Decides.{interval_is, in_prolog, in_kernel, in_epilog, lands}

map_map : {X Y Z : Type 0} (f : Y → Z) (g : X → Y) (xs : List X) → map f (map g xs) ≡ map (λ x. f (g x)) xs
map_map f g [] = refl
map_map f g (x ∷ xs) = ap (λ ys. f (g x) ∷ ys) (map_map f g xs)

-- what is found of the work and of what is behind it is found of both
pub keeps_longer : (promised : Insn → Insn → Bool) (works longer : Works) (past : List SerialInsn) (work : Work)
    (schedule : ScheduleRead) (most deep : ℕ) (beyond : List BeyondRead) → IsLonger works past longer
    → straights_of work ≡ record {
      before = insns_in longer.before.items;
      body = insns_in longer.body.items;
      behind = insns_in longer.behind.items;
    } → (found : Result Bool AllocError)
    → IfOk found (λ kept. OnTrue kept (KeepsAllPast promised work schedule most deep beyond))
    → IfOk found (λ kept. OnTrue kept (KeepDistancesPast promised works past schedule most deep beyond))
keeps_longer promised works longer past work schedule most deep beyond is work_is (Ok kept) keeps =
    OnTrue_from kept (KeepDistancesPast promised works past schedule most deep beyond)
    (λ t passes some few placed placed_is. subst
    (λ (s : Straights). KeepDistances promised s (most + passes) placed)
    (work_is
    ∙ ap (λ xs. record {
      before = insns_in xs;
      body = insns_in longer.body.items;
      behind = insns_in longer.behind.items;
    })
    is.before
    ∙ ap (λ xs. record {
      before = insns_in works.before.items;
      body = insns_in xs;
      behind = insns_in longer.behind.items;
    }) is.body
    ∙ ap (λ xs. record { before = insns_in works.before.items; body = insns_in works.body.items; behind = insns_in xs })
    is.behind)
    (OnTrue_at t keeps passes some few placed placed_is))
keeps_longer promised works longer past work schedule most deep beyond is work_is (Err failed) keeps = keeps

module _ (promised : Insn → Insn → Bool) (region : Region) (loop : Pipelined) (most deep : ℕ) (layout : Layout)
    (works : Works) (schedule : ScheduleRead) (control : ControlRead) (beyond : List BeyondRead)
    (other : SerialInsn) (past : List SerialInsn) (laid : IsLayout loop layout) (work : IsWork region works)
    (fits : FitsPast layout works schedule beyond most deep)
    (past_are : past ≡ map (λ (one : BeyondRead). get_or works.body.items one.place other) beyond) where
  abbrev stages : List Stage
  stages = map stage_of schedule.stages.items

  abbrev these : List Beyond
  these = map (beyond_of works.body.items schedule.stages.items other) beyond

  abbrev block : List SerialInsn
  block = work_of region.counter region.body

  past_is : past ≡ past_work these
  past_is = past_are ∙ sym (map_map (λ (one : Beyond). one.entry)
      (beyond_of works.body.items schedule.stages.items other) beyond)

  each_held : (one : Beyond) → Contains these one → IsHeld works.body.items stages one
  each_held = each works.body.items schedule.stages.items other most deep beyond fits.held fits.begun

  all_held : AreAllBeyond works.body.items stages most these
  all_held = all works.body.items schedule.stages.items other most deep beyond fits.held fits.begun

  held : AreHeldOf most deep works.body.items stages
  held = held_whole most deep works.body.items schedule.stages.items fits.held.count
      (λ place entry stage at_e at_s. (beyond, place, fits.held.each place entry stage at_e at_s))

  -- what is past the end is work
  untouched : (entry : SerialInsn) → In entry past → touches region.counter entry ≡ false
  untouched entry h =
      (in_work region.counter region.body entry
      (subst (λ xs. In entry xs) work.body
      (past_inside works.body.items stages these (λ one k. each_held one (Contains_from_In one these k)) entry
      (subst (λ xs. In entry xs) past_is h)))).1

  longer : insns_in (works.behind.items ++ past) ≡ insns_in (work_of region.counter (region.behind ++ past))
  longer =
      ap (λ xs. insns_in (xs ++ past)) work.behind
      ∙ ap insns_in (sym (work_both region.counter region.behind past
      ∙ ap (λ xs. work_of region.counter region.behind ++ xs) (all_work region.counter past untouched)))

  straights : (record {
    before = insns_in works.before.items;
    body = insns_in works.body.items;
    behind = insns_in (works.behind.items ++ past);
  }) ≡ work_insns (with_past region past)
  straights =
      ap (λ xs. record {
        before = insns_in xs;
        body = insns_in works.body.items;
        behind = insns_in (works.behind.items ++ past);
      }) work.before
      ∙ ap (λ xs. record {
        before = insns_in region.before;
        body = insns_in xs;
        behind = insns_in (works.behind.items ++ past);
      }) work.body
      ∙ ap (λ xs. record { before = insns_in region.before; body = insns_in block; behind = xs }) longer

  keeps : KeepDistancesPast promised works past schedule most deep beyond → (passes : ℕ) → 0 < passes
      → passes ≤ deep + 3
      → KeepDistances promised (work_insns (with_past region past)) (most + passes)
      (all_placed (schedule_of schedule) most these passes)
  keeps kept passes some few =
      subst (λ (s : Straights). KeepDistances promised s (most + passes)
      (all_placed (schedule_of schedule) most these passes)) straights
      (kept passes some few (all_placed (schedule_of schedule) most these passes)
      (instances_are works.body.items schedule other most passes beyond fits.begun))

  pub collapses : IsSteering region.counter loop most (control_of control)
      → ComeBehind region.counter schedule.before.items (control.early.items ++ control.kernel.items)
      → HoldsRows layout (schedule_of schedule) (control_of control)
      → All (λ entry. IsFalse (is_store (op_of entry.insn))) past
      → KeepDistancesPast promised works past schedule most deep beyond
      → IsCollapsing promised region past loop most
  collapses steers begins holds no_store kept = record {
    schedule = schedule_of schedule;
    control = control_of control;
    beyond = these;
    deep = deep;
    past_is = past_is;
    each = subst (λ xs. (one : Beyond) → Contains these one → IsHeld xs stages one) work.body each_held;
    all = subst (λ xs. AreAllBeyond xs stages most these) work.body all_held;
    no_store = no_store;
    same_interval = interval_is loop layout laid schedule.interval fits.interval;
    before = subst (λ xs. StandFor xs schedule.before.items) work.before fits.before;
    body = subst (λ xs. AreHeldOf most deep xs stages) work.body held;
    behind = subst (λ xs. StandFor xs schedule.behind.items) work.behind fits.behind;
    prolog = subst (λ xs. AreOneSet xs (control.early.items ++ (schedule.before.items
        ++ flat_map (λ (stage : Stage). stage.early) stages))) (in_prolog loop layout laid) holds.prolog;
    kernel = subst (λ xs. AreOneSet xs (control.kernel.items ++ map (λ (stage : Stage). stage.kernel) stages))
        (in_kernel loop layout laid) holds.kernel;
    epilog = subst (λ xs. AreOneSet xs (flat_map (λ (stage : Stage). stage.late) stages ++ schedule.behind.items))
        (in_epilog loop layout laid) holds.epilog;
    steering = steers;
    begins = begins;
    keeps = keeps kept;
    drained = lands loop layout laid schedule.interval fits.interval fits.landed;
  }
