-- What is told of packets that hold a loop.
use Rattle.std.proofs.Common.{◌≡◌, ℕ, suc, ◌+◌, ◌*◌, Bool, List, ◌++◌, map, sym, ◌∙◌, ap, subst, inl, inr, arith}
use Rattle.std.specs.List.{flat_map}
use Rattle.c62_insn.specs.declared.insn.Insn.{Insn}
use Rattle.c62_read.specs.declared.block.SerialInsn.{SerialInsn}
use Rattle.c62_loop.specs.Counter.{work_of}
use Rattle.c62_loop.specs.Loop.{Region, Pipelined, IsPipelined, prolog_cycles, interval, pass_start}
use Rattle.c62_loop.specs.Stage.{Stage, Schedule, Straights, cycles_in}
use Rattle.c62_loop.specs.Whole.{Control, insns_in, work_insns}
use Rattle.c62_loop.proofs.LaterRows.{pass_at}
use Rattle.c62_loop_match.specs.declared.decision.Layout.{Layout}
use Rattle.c62_loop_match.specs.declared.decision.Works.{Works}
use Rattle.c62_loop_match.specs.declared.distances.Distances.{Distances}
use Rattle.c62_loop_match.specs.declared.distances.Distances.TheVariants.{Kept, TooEarly, Unlike}
use Rattle.c62_loop_match.specs.Members.{AreOneSet}
use Rattle.c62_loop_match.specs.Decide.{IsLayout, IsWork, HoldsWork}
use Rattle.c62_loop_match.specs.Early.{AreFoundOfAll}
use Rattle.c62_loop_match.specs.Reading.{IsReading, entry_unlined, schedule_unlined}
use Rattle.c62_loop_match.specs.Astray.{HoldsAstray}
use Rattle.c62_loop_match.specs.declared.early.Early.{Early}
use Rattle.c62_loop_match.specs.Begin.{HoldEarlyStart}
use Rattle.c62_loop_match.specs.Refusal.{Reads, HoldsEarly, IsAstray, Refuses, refused_for}
use Rattle.c62_loop_match.proofs.Paths.{cycles_are}
use Rattle.c62_loop_match.proofs.Decides.{prolog_is, interval_is, in_prolog, in_kernel, in_epilog}

abbrev straights_with : List SerialInsn → List SerialInsn → List SerialInsn → Straights
straights_with before body behind = record { before = insns_in before; body = insns_in body; behind = insns_in behind }

module _ (region : Region) (loop : Pipelined) (most : ℕ) (layout : Layout) (works : Works) (schedule : Schedule)
    (control : Control)
    (laid : IsLayout loop layout) (work : IsWork region works) where
  -- the rows hold the region
  pub reading : IsPipelined loop
      → Reads layout works.before.items works.body.items works.behind.items schedule control most
      → IsReading region loop most schedule control
  reading stands reads = record {
    stands = stands;
    same_interval = interval_is loop layout laid schedule.interval reads.between;
    work =
        subst (λ xs. HoldsWork (map entry_unlined region.before)
        (map entry_unlined (work_of region.counter region.body)) (map entry_unlined xs)
        (schedule_unlined schedule) most) work.behind
        (subst (λ xs. HoldsWork (map entry_unlined region.before) (map entry_unlined xs)
        (map entry_unlined works.behind.items) (schedule_unlined schedule) most) work.body
        (subst (λ xs. HoldsWork (map entry_unlined xs) (map entry_unlined works.body.items)
        (map entry_unlined works.behind.items) (schedule_unlined schedule) most) work.before reads.work));
    prolog = subst (λ xs. AreOneSet xs
        (control.early ++ (schedule.before ++ flat_map (λ (stage : Stage). stage.early) schedule.stages)))
        (in_prolog loop layout laid) reads.rows.prolog;
    kernel = subst (λ xs. AreOneSet xs (control.kernel ++ map (λ (stage : Stage). stage.kernel) schedule.stages))
        (in_kernel loop layout laid) reads.rows.kernel;
    epilog = subst (λ xs. AreOneSet xs (flat_map (λ (stage : Stage). stage.late) schedule.stages ++ schedule.behind))
        (in_epilog loop layout laid) reads.rows.epilog;
  }

  -- a branch that goes astray in the cycles does so in the passes
  pub astray : IsReading region loop most schedule control → (line : ℕ)
      → HoldsAstray (record { counter = region.counter; interval = schedule.interval; most = most }) layout.prolog.end
      loop.label (control.early ++ control.kernel) line
      → IsAstray region loop most line
  astray reads line found = record {
    schedule = schedule;
    control = control;
    reads = reads;
    branch = found.branch;
    among = found.among;
    tests = found.goes.tests;
    astray = λ pass ends. found.goes.ends pass (ends ∙ end_at pass);
    line_is = found.line_is;
  }
    where
      end_at : (pass : ℕ) → pass_start loop (suc pass) ≡ layout.prolog.end + schedule.interval * (pass + 1)
      end_at pass =
          let next : suc pass ≡ pass + 1 = omega arith in
          let at : pass_start loop (suc pass) ≡ cycles_in (interval loop) (suc pass) + prolog_cycles loop = pass_at loop
          (suc pass) in
          let cycles : cycles_in (interval loop) (suc pass) ≡ schedule.interval * (pass + 1)
          = cycles_are (interval loop) (suc pass) ∙ ap (λ n. n * suc pass) (sym reads.same_interval)
          ∙ ap (λ n. schedule.interval * n) next in
          let begin : layout.prolog.end ≡ prolog_cycles loop = prolog_is loop layout laid in
          omega (arith, at, cycles, begin)

  -- a step or branch that comes too early behind an instruction above the label is told
  pub early_start : (promised : Insn → Insn → Bool) → IsPipelined loop
      → Reads layout works.before.items works.body.items works.behind.items schedule control most → (early : Early)
      → HoldEarlyStart region.counter schedule.before (control.early ++ control.kernel) early
      → HoldsEarly promised region loop most early
  early_start promised stands reads early held = record {
    schedule = schedule;
    control = control;
    reads = reading stands reads;
    early_is = inr held;
  }

  -- what is found of distances is told
  pub refused : (promised : Insn → Insn → Bool) → IsReading region loop most schedule control → (straights : Straights)
      → straights ≡ record {
        before = insns_in works.before.items;
        body = insns_in works.body.items;
        behind = insns_in
            works.behind.items;
      } → (found : Distances)
      → AreFoundOfAll promised straights schedule most found → Refuses promised region loop most (refused_for found)
  refused promised reads straights is Kept told = tt
  refused promised reads straights is Unlike told = tt
  refused promised reads straights is (TooEarly early) told = record {
    schedule = schedule;
    control = control;
    reads = reads;
    early_is = inl
        (subst (λ (s : Straights). AreFoundOfAll promised s schedule most (TooEarly early)) (is ∙ same) told);
  }
    where
      same : record {
        before = insns_in works.before.items;
        body = insns_in works.body.items;
        behind = insns_in
            works.behind.items;
      } ≡ work_insns region
      same =
          ap (λ (xs : List SerialInsn). straights_with xs works.body.items works.behind.items) work.before
          ∙ ap (λ (xs : List SerialInsn). straights_with region.before xs works.behind.items) work.body
          ∙ ap (λ (xs : List SerialInsn). straights_with region.before
          (work_of region.counter region.body) xs) work.behind
