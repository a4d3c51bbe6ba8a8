-- Instances of a pipelined loop match its serial path, in any number of passes.
use Rattle.std.proofs.Common.{Bool, ◌≡◌, ℕ, suc, ◌+◌, ◌^◌, ◌<◌, ◌≤◌, List, []}
use Rattle.std.proofs.Common.{◌∷◌, ◌++◌, map, length, Some, ◌∙◌, ◌⊎◌, inl, inr}
use Rattle.std.proofs.Common.{arith}
use Rattle.std.specs.Prelude.{slice_get}
use Rattle.c62_op.specs.declared.register.Reg.{Reg}
use Rattle.c62_insn.specs.declared.insn.Insn.{Insn}
use Rattle.c62_rules.specs.Length.{landing_end}
use Rattle.c62_read.specs.declared.block.SerialInsn.{SerialInsn}
use Rattle.c62_serial.specs.State.{Machine, IsSound}
use Rattle.c62_packet.specs.declared.placed.Placed.{Placed}
use Rattle.c62_packet.specs.Packed.{issue_of, AreDrained}
use Rattle.c62_meaning.specs.Cut.{moved}
use Rattle.c62_meaning.specs.Instances.{AreInstancesFrom}
use Rattle.c62_meaning.proofs.Lookup.{In, Contains_from_In}
use Rattle.c62_flight.specs.Issued.{issued_on}
use Rattle.c62_flight.specs.Laid.{straight_end}
use Rattle.c62_loop.specs.Counter.{work_of}
use Rattle.c62_loop.specs.Loop.{Region, loop_path, trips_of, Pipelined, epilog_row, prolog_cycles, interval}
use Rattle.c62_loop.specs.Loop.{pass_start, visits_of, cycles_of, IsMatch}
use Rattle.c62_loop.specs.Stage.{cycles_in}
use Rattle.c62_loop.specs.Whole.{StandFor, entry_of, AreApart}
use Rattle.c62_loop.proofs.Lists.{get_back, front_at, all_in}
use Rattle.c62_loop.proofs.Passes.{end_from}
use Rattle.c62_loop.proofs.Standing.{stand_count, stand_at, stand_both}
use Rattle.c62_loop.proofs.PassControl.{control_of, later_passes}
use Rattle.c62_loop.proofs.LaterRows.{pass_at, prolog_rows, kernel_rows, epilog_rows, from_rows, prolog_there}
use Rattle.c62_loop.proofs.LaterRows.{pass_there, epilog_there}
use Rattle.c62_loop.proofs.Core.{Core}
use Rattle.c62_loop.proofs.Steered.{all_touch, all_counted, control_counts, control_enough, control_decides}
use Rattle.c62_loop.proofs.Steered.{control_decided}
use Rattle.c62_loop.proofs.Spaced.{instances_keep}

entries_stand : (ps : List Placed) → StandFor (map entry_of ps) ps
entries_stand [] = search
entries_stand (p ∷ ps) = grind (arith, entries_stand ps)

module _ (promised : Insn → Insn → Bool) (region : Region) (loop : Pipelined) (most passes : ℕ)
    (m : Core promised region loop most passes) (some : 0 < passes) (opening : Machine) (sound : IsSound opening)
    (begins : trips_of region opening ≡ most + passes) (small : most + passes < 2 ^ 32)
    (promise : AreApart promised region (most + passes) opening) where
  abbrev counter : Reg
  counter = region.counter

  abbrev trips : ℕ
  trips = most + passes

  abbrev control : List Placed
  control = control_of m.control (interval loop) passes

  abbrev entries : List SerialInsn
  entries = map entry_of control

  abbrev work : List SerialInsn
  work = work_of counter (loop_path region trips)

  abbrev path : List SerialInsn
  path = region.before ++ (entries ++ work)

  abbrev before : List Placed
  before = m.before

  abbrev rest : List Placed
  rest = m.rest

  abbrev placed : List Placed
  placed = before ++ (control ++ rest)

  abbrev issued : List Placed
  issued = issued_on loop.text (visits_of loop passes)

  -- ---- the instances

  abbrev StandAll : Type 0
  StandAll = StandFor path placed

  all_stand : StandAll
  all_stand = grind (arith, stand_both region.before, stand_both, entries_stand)

  instances : AreInstancesFrom opening path issued
  instances = record {
    placed = placed;
    placing = record {
      count = stand_count path placed all_stand;
      stands = λ i entry p at_i at_p. stand_at path placed all_stand i entry p at_i at_p;
      keeps = λ i j p q bound at_p at_q asked.
          instances_keep promised region loop most passes m some opening sound begins small promise i j p q bound at_p
          at_q asked;
    };
    members = m.members;
  }

  -- ---- when all has landed

  lands : (p : Placed) → In p issued → landing_end (issue_of p) ≤ cycles_of loop passes
  lands p h = by_part (from_rows loop passes p h)
    where
      one : cycles_of loop 1 ≡ pass_start loop 1 + straight_end loop.text (epilog_row loop) 0 loop.epilog
      one = end_from loop.text (epilog_row loop) (pass_start loop 1) loop.epilog

      all : cycles_of loop passes ≡ pass_start loop passes + straight_end loop.text (epilog_row loop) 0 loop.epilog
      all = end_from loop.text (epilog_row loop) (pass_start loop passes) loop.epilog

      at_all : pass_start loop passes ≡ cycles_in (interval loop) passes + prolog_cycles loop
      at_all = pass_at loop passes

      -- a pass but the last, and one more
      less : (k : ℕ) → k < passes → cycles_in (interval loop) k + interval loop ≤ cycles_in (interval loop) passes
      less k l = later_passes (interval loop) (suc k) passes l

      landed : (q : Placed) → In q (issued_on loop.text (visits_of loop 1))
          → landing_end (issue_of q) ≤ cycles_of loop 1
      landed q k = let c = Contains_from_In q (issued_on loop.text (visits_of loop 1)) k in grind arith

      by_part : In p (prolog_rows loop)
          ⊎ (((k : ℕ) × (k < passes) × (q : Placed) × In q (kernel_rows loop)
          × (p ≡ moved (cycles_in (interval loop) k) q))
          ⊎ ((q : Placed) × In q (epilog_rows loop) × (p ≡ moved (cycles_in (interval loop) passes) q)))
          → landing_end (issue_of p) ≤ cycles_of loop passes
      by_part (inl n) =
          let a : landing_end (issue_of p) ≤ cycles_of loop 1 = landed p (prolog_there loop 1 p n) in
          grind (arith, one, all, at_all, less 0 some)
      by_part (inr (inl (k, l, q, n, is))) =
          let a : landing_end (issue_of (moved (cycles_in (interval loop) 0) q)) ≤ cycles_of loop 1 = landed
          (moved (cycles_in (interval loop) 0) q) (pass_there loop 1 0 q (omega arith) n) in
          grind (arith, one, all, at_all, less k l)
      by_part (inr (inr (q, n, is))) =
          let a : landing_end (issue_of (moved (cycles_in (interval loop) 1) q)) ≤ cycles_of loop 1 = landed
          (moved (cycles_in (interval loop) 1) q) (epilog_there loop 1 q n) in
          grind (arith, one, all, at_all)

  drained : AreDrained (cycles_of loop passes) issued
  drained = all_in (λ p. landing_end (issue_of p) ≤ cycles_of loop passes) issued lands

  at_all : (i : ℕ) (p : Placed) → slice_get control i ≡ Some p → slice_get placed (length region.before + i) ≡ Some p
  at_all i p at =
      let b : length before ≡ length region.before = stand_count region.before before m.stand_before in
      get_back before (control ++ rest) (length region.before + i) i (omega arith) ∙ front_at control rest i p at

  pub is_match : IsMatch region loop trips passes opening
  unfolding instances
  is_match = record {
    some = some;
    control = entries;
    touch = all_touch counter loop most passes m.control m.steering some;
    counted = all_counted counter loop most passes m.control m.steering some;
    instances = instances;
    drained = drained;
    counts = control_counts counter loop most passes m.control m.steering some;
    enough = control_enough counter loop most passes m.control m.steering some;
    decides = control_decides counter loop most passes m.control m.steering some placed (length region.before) at_all;
    decided = control_decided counter loop most passes m.control m.steering some placed (length region.before) at_all;
  }
