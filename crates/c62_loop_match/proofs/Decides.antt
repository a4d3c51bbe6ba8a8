-- The parts of what is asked of packets, put together.
use Rattle.std.proofs.Common.{◌≡◌, ℕ, suc, ◌+◌, ◌<◌, ◌≤◌, Bool, List, [], ◌∷◌, ◌++◌, length, map, take, get_or, refl}
use Rattle.std.proofs.Common.{sym, ◌∙◌, ap, subst, inl, inr, arith}
use Rattle.std.specs.Prelude.{Result, Ok, Err, IfOk}
use Rattle.std.specs.declared.alloc.AllocError.{AllocError}
use Rattle.std.specs.Bool.{OnTrue}
use Rattle.std.proofs.lemmas.Bool.{OnTrue_at, OnTrue_from}
use Rattle.std.specs.List.{flat_map}
use Rattle.std.proofs.Math.Seq.{take-suc}
use Rattle.std.proofs.lemmas.List.{append-nil, flat_map_more}
use Rattle.std.proofs.lemmas.Grind.{flat_map-append}
use Rattle.std.proofs.lemmas.List.Folds.{flat_map-map}
use Rattle.c62_insn.specs.declared.insn.Insn.{Insn}
use Rattle.c62_rules.specs.Length.{landing_end}
use Rattle.c62_packet.specs.declared.placed.Placed.{Placed}
use Rattle.c62_packet.specs.Packed.{issue_of, AreDrained}
use Rattle.c62_meaning.proofs.Lookup.{In, In-append_cases}
use Rattle.c62_flight.specs.Issued.{Visit, issued_in, issued_on}
use Rattle.c62_flight.specs.Laid.{straight, straight_end}
use Rattle.c62_loop.specs.Counter.{work_of}
use Rattle.c62_loop.specs.Loop.{Region, Pipelined, kernel_row, epilog_row, prolog_cycles, interval, pass_start}
use Rattle.c62_loop.specs.Loop.{visits_of, cycles_of}
use Rattle.c62_loop.specs.Stage.{Stage, Schedule}
use Rattle.c62_loop.specs.Whole.{Control, IsSteering, IsPipelining, StandFor, AreStagesOf, ComeBehind}
use Rattle.c62_loop.proofs.Machines.{In-All}
use Rattle.c62_loop.proofs.Lists.{all_in}
use Rattle.c62_loop.proofs.Passes.{end_from}
use Rattle.c62_loop_match.specs.declared.parts.Stage.{Stage as StageRead}
use Rattle.c62_loop_match.specs.declared.decision.Layout.{Layout}
use Rattle.c62_loop_match.specs.declared.decision.Works.{Works}
use Rattle.c62_loop_match.specs.declared.parts.Schedule.{Schedule as ScheduleRead}
use Rattle.c62_loop_match.specs.declared.parts.Control.{Control as ControlRead}
use Rattle.c62_loop_match.specs.Parts.{stage_of, schedule_of, control_of}
use Rattle.c62_loop_match.specs.Members.{AreOneSet}
use Rattle.c62_loop_match.specs.Decide.{IsLayout, IsWork, HasLanded, Fits, HoldThese, HoldsRows, Keeps}

-- ---- lists of stages

pub more_early : {X : Type 0} (f : X
    → List Placed) (base : List Placed) (stages : List X) (k : ℕ) (d : X) (found next : List Placed)
    → k < length stages
    → found ≡ base ++ flat_map f (take k stages) → next ≡ found ++ f (get_or stages k d)
    → next ≡ base ++ flat_map f (take (k + 1) stages)
more_early f base stages k d found next inside old new =
    let s : suc k ≡ k + 1 = omega arith in
    new ∙ ap (λ xs. xs ++ f (get_or stages k d)) old ∙ flat_map_more f base (take k stages) (get_or stages k d)
    ∙ ap (λ xs. base ++ flat_map f xs) (sym (take-suc stages k d inside))
    ∙ ap (λ n. base ++ flat_map f (take n stages)) s

map_map : {X Y Z : Type 0} (f : Y → Z) (g : X → Y) (xs : List X) → map f (map g xs) ≡ map (λ x. f (g x)) xs
map_map f g [] = refl
map_map f g (x ∷ xs) = ap (λ ys. f (g x) ∷ ys) (map_map f g xs)

pub early_of : (stages : List StageRead)
    → flat_map (λ (stage : StageRead). stage.early.items) stages ≡ flat_map (λ (stage : Stage). stage.early)
    (map stage_of stages)
early_of stages = sym (flat_map-map (λ (stage : Stage). stage.early) stage_of stages)

pub late_of : (stages : List StageRead)
    → flat_map (λ (stage : StageRead). stage.late.items) stages ≡ flat_map (λ (stage : Stage). stage.late)
    (map stage_of stages)
late_of stages = sym (flat_map-map (λ (stage : Stage). stage.late) stage_of stages)

pub kernel_of : (stages : List StageRead)
    → map (λ (stage : StageRead). stage.kernel) stages ≡ map (λ (stage : Stage). stage.kernel) (map stage_of stages)
kernel_of stages = sym (map_map (λ (stage : Stage). stage.kernel) stage_of stages)

pub holds : (layout : Layout) (schedule : ScheduleRead) (control : ControlRead) (prolog kernel epilog : List Placed)
    → prolog ≡ control.early.items ++
    (schedule.before.items ++ flat_map (λ (stage : StageRead). stage.early.items) schedule.stages.items)
    → kernel ≡ control.kernel.items ++ map (λ (stage : StageRead). stage.kernel) schedule.stages.items
    → epilog ≡ flat_map (λ (stage : StageRead). stage.late.items) schedule.stages.items ++ schedule.behind.items
    → HoldThese layout prolog kernel epilog → HoldsRows layout (schedule_of schedule) (control_of control)
holds layout schedule control prolog kernel epilog of_prolog of_kernel of_epilog these = record {
  prolog = subst (λ xs. AreOneSet layout.prolog.issued.items xs) (of_prolog
      ∙ ap (λ xs. control.early.items ++ (schedule.before.items ++ xs)) (early_of schedule.stages.items))
      these.prolog_is;
  kernel = subst (λ xs. AreOneSet layout.kernel.issued.items xs) (of_kernel
      ∙ ap (λ xs. control.kernel.items ++ xs) (kernel_of schedule.stages.items)) these.kernel_is;
  epilog = subst (λ xs. AreOneSet layout.epilog.issued.items xs) (of_epilog
      ∙ ap (λ xs. xs ++ schedule.behind.items) (late_of schedule.stages.items)) these.epilog_is;
}

-- ---- cycles

module _ (loop : Pipelined) (layout : Layout) (laid : IsLayout loop layout) where
  pub prolog_is : layout.prolog.end ≡ prolog_cycles loop
  prolog_is = laid.prolog.end

  pub interval_is : (between : ℕ) → layout.prolog.end + between ≡ layout.kernel.end → between ≡ interval loop
  interval_is between sum =
      let e : layout.kernel.end ≡ layout.prolog.end + straight_end loop.text (kernel_row loop) 0 loop.kernel
      = laid.kernel.end ∙ end_from loop.text (kernel_row loop) layout.prolog.end loop.kernel in
      omega arith

  kernel_end : (between : ℕ) → layout.prolog.end + between ≡ layout.kernel.end → layout.kernel.end ≡ pass_start loop 1
  kernel_end between sum = sym sum ∙ ap (λ n. n + between) prolog_is
      ∙ ap (λ n. prolog_cycles loop + n) (interval_is between sum)

  -- ---- what is issued where

  pub in_prolog : layout.prolog.issued.items ≡ issued_on loop.text (straight loop.text loop.first 0 loop.prolog)
  in_prolog = laid.prolog.issued

  pub in_kernel : layout.kernel.issued.items ≡ issued_on loop.text
      (straight loop.text (kernel_row loop) (prolog_cycles loop) loop.kernel)
  in_kernel = laid.kernel.issued
      ∙ ap (λ n. issued_on loop.text (straight loop.text (kernel_row loop) n loop.kernel)) prolog_is

  pub in_epilog : layout.epilog.issued.items ≡ issued_on loop.text
      (straight loop.text (epilog_row loop) (prolog_cycles loop) loop.epilog)
  in_epilog = laid.epilog.issued
      ∙ ap (λ n. issued_on loop.text (straight loop.text (epilog_row loop) n loop.epilog)) prolog_is

  module _ (between : ℕ) (sum : layout.prolog.end + between ≡ layout.kernel.end) where
    in_after : layout.after.issued.items ≡ issued_on loop.text
        (straight loop.text (epilog_row loop) (pass_start loop 1) loop.epilog)
    in_after = laid.after.issued
        ∙ ap (λ n. issued_on loop.text (straight loop.text (epilog_row loop) n loop.epilog))
        (kernel_end between sum)

    last_is : layout.after.end ≡ cycles_of loop 1
    last_is = laid.after.end ∙ ap (λ n. straight_end loop.text (epilog_row loop) n loop.epilog) (kernel_end between sum)

    on_both : (xs ys : List Visit) → issued_on loop.text (xs ++ ys) ≡ issued_on loop.text xs ++ issued_on loop.text ys
    on_both xs ys = flat_map-append (issued_in loop.text) xs ys

    pub lands : HasLanded layout → AreDrained (cycles_of loop 1) (issued_on loop.text (visits_of loop 1))
    lands landed = subst (λ n. AreDrained n (issued_on loop.text (visits_of loop 1))) last_is
        (all_in (λ p. landing_end (issue_of p) ≤ layout.after.end) (issued_on loop.text (visits_of loop 1)) each)
      where
        prologs : List Visit
        prologs = straight loop.text loop.first 0 loop.prolog

        kernels : List Visit
        kernels = straight loop.text (kernel_row loop) (prolog_cycles loop) loop.kernel

        epilogs : List Visit
        epilogs = straight loop.text (epilog_row loop) (pass_start loop 1) loop.epilog

        within : (issued others : List Placed) → issued ≡ others → AreDrained layout.after.end issued → (p : Placed)
            → In p others → landing_end (issue_of p) ≤ layout.after.end
        within issued others is drained p h = In-All (λ p. landing_end (issue_of p) ≤ layout.after.end) issued drained p
            (subst (λ xs. In p xs) (sym is) h)

        parts : issued_on loop.text (visits_of loop 1) ≡ issued_on loop.text prologs ++
            (issued_on loop.text kernels ++ issued_on loop.text epilogs)
        parts = on_both prologs ((kernels ++ []) ++ epilogs) ∙ ap (λ xs. issued_on loop.text prologs ++ xs)
            (ap (λ vs. issued_on loop.text (vs ++ epilogs)) (append-nil kernels) ∙ on_both kernels epilogs)

        each : (p : Placed) → In p (issued_on loop.text (visits_of loop 1))
            → landing_end (issue_of p) ≤ layout.after.end
        each p h = elim (In-append_cases p (issued_on loop.text prologs)
            (issued_on loop.text kernels ++ issued_on loop.text epilogs) (subst (λ xs. In p xs) parts h)) [
              | inl k ↦ within layout.prolog.issued.items (issued_on loop.text prologs) in_prolog landed.prolog p k
              | inr k ↦ elim (In-append_cases p (issued_on loop.text kernels) (issued_on loop.text epilogs) k) [
                | inl m ↦ within layout.kernel.issued.items (issued_on loop.text kernels) in_kernel landed.kernel p m
                | inr m ↦ within layout.after.issued.items (issued_on loop.text epilogs) in_after landed.epilog p m
              ]
            ]

-- ---- the whole

pub pipelines : (promised : Insn → Insn
    → Bool) (region : Region) (loop : Pipelined) (most : ℕ) (layout : Layout) (works : Works) (schedule : Schedule)
    (control : Control)
    → IsLayout loop layout → IsWork region works
    → Fits layout works.before.items works.body.items works.behind.items schedule most
    → IsSteering region.counter loop most control
    → ComeBehind region.counter schedule.before (control.early ++ control.kernel)
    → HoldsRows layout schedule control
    → Keeps promised works.before.items works.body.items works.behind.items schedule most
    → IsPipelining promised region loop most
pipelines promised region loop most layout works schedule control laid work fits steering begins holds keeps = record {
  schedule = schedule;
  control = control;
  same_interval = interval_is loop layout laid schedule.interval fits.interval;
  before = subst (λ xs. StandFor xs schedule.before) work.before fits.work.stand_before;
  body = subst (λ xs. AreStagesOf most xs schedule.stages) work.body fits.work.stand_body;
  behind = subst (λ xs. StandFor xs schedule.behind) work.behind fits.work.stand_behind;
  prolog = subst (λ xs. AreOneSet xs
      (control.early ++ (schedule.before ++ flat_map (λ (stage : Stage). stage.early) schedule.stages)))
      (in_prolog loop layout laid) holds.prolog;
  kernel = subst (λ xs. AreOneSet xs (control.kernel ++ map (λ (stage : Stage). stage.kernel) schedule.stages))
      (in_kernel loop layout laid) holds.kernel;
  epilog = subst (λ xs. AreOneSet xs (flat_map (λ (stage : Stage). stage.late) schedule.stages ++ schedule.behind))
      (in_epilog loop layout laid) holds.epilog;
  steering = steering;
  begins = begins;
  keeps = subst (λ xs. Keeps promised region.before (work_of region.counter region.body) xs schedule most) work.behind
      (subst (λ xs. Keeps promised region.before xs works.behind.items schedule most) work.body
      (subst (λ xs. Keeps promised xs works.body.items works.behind.items schedule most) work.before keeps));
  drained = lands loop layout laid schedule.interval fits.interval fits.landed;
}

-- what is answered of the distances is answered of all
pub answered : (promised : Insn → Insn
    → Bool) (region : Region) (loop : Pipelined) (most : ℕ) (layout : Layout) (works : Works) (schedule : Schedule)
    (control : Control)
    → IsLayout loop layout → IsWork region works
    → Fits layout works.before.items works.body.items works.behind.items schedule most
    → IsSteering region.counter loop most control
    → ComeBehind region.counter schedule.before (control.early ++ control.kernel)
    → HoldsRows layout schedule control → (found : Result Bool AllocError)
    → IfOk found (λ kept. OnTrue kept
    (Keeps promised works.before.items works.body.items works.behind.items schedule most))
    → IfOk found (λ same. OnTrue same (IsPipelining promised region loop most))
answered promised region loop most layout works schedule control laid work fits steering begins holds (Ok kept) keeps =
    OnTrue_from kept (IsPipelining promised region loop most)
    (λ t. pipelines promised region loop most layout works schedule control laid work fits steering begins holds
    (OnTrue_at t keeps))
answered promised region loop most layout works schedule control laid work fits steering begins holds (Err failed)
    keeps = keeps

-- what holds anyway holds where the answer is true
pub holding : (kept : Result Bool AllocError) (P : Type 0) → P → IfOk kept (λ same. OnTrue same P)
holding (Ok kept) P p = OnTrue_from kept P (λ t. p)
holding (Err e) P p = tt
