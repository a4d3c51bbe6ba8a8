-- The work of a path, and what stands for it, in any number of passes.
use Rattle.std.proofs.Common.{◌≡◌, ℕ, zero, suc, ◌+◌, ◌-◌, ◌<◌, ◌≤◌, not, List, [], ◌∷◌, ◌++◌, map, length}
use Rattle.std.proofs.Common.{get_or, Some, refl, sym, ap, subst, ⊎_elim, arith}
use Rattle.std.specs.Prelude.{All, slice_get}
use Rattle.std.proofs.lemmas.Bool.{cases_lt}
use Rattle.std.proofs.lemmas.Option.{none-some, same_Some}
use Rattle.std.proofs.lemmas.List.{append_assoc, map-append, length-map}
use Rattle.std.proofs.lemmas.List.Elements.{filter-append}
use Rattle.c62_op.specs.declared.register.Reg.{Reg}
use Rattle.c62_read.specs.declared.block.SerialInsn.{SerialInsn}
use Rattle.c62_packet.specs.declared.placed.Placed.{Placed}
use Rattle.c62_meaning.specs.Cut.{moved}
use Rattle.c62_meaning.specs.Laws.{StandsAs}
use Rattle.c62_loop.specs.Counter.{touches, work_of}
use Rattle.c62_loop.specs.Loop.{Region, rounds, loop_path}
use Rattle.c62_loop.specs.Stage.{Stage, Schedule, cycles_in, instance_of, rounds_from, rounds_with}
use Rattle.c62_loop.specs.Stage.{insns_of, Places}
use Rattle.c62_loop.specs.Whole.{StandFor, AreStagesOf, insns_in, work_path, work_insns}
use Rattle.std.proofs.lemmas.Bool.Decides.{nat_tests}

-- ---- work

module _ (counter : Reg) where
  pub work_both : (xs ys : List SerialInsn) → work_of counter (xs ++ ys) ≡ work_of counter xs ++ work_of counter ys
  work_both xs ys = filter-append (λ (entry : SerialInsn). not (touches counter entry)) xs ys

  work_rounds : (body behind : List SerialInsn) (trips : ℕ)
      → work_of counter (rounds body trips ++ behind) ≡ rounds_with (work_of counter body) trips
      (work_of counter behind)
  work_rounds body behind zero = refl
  work_rounds body behind (suc trips) = grind (arith, nat_tests, work_rounds body behind trips, append_assoc, work_both)

pub work_is : (region : Region) (trips : ℕ) → work_path region trips
    ≡ region.before ++ rounds_with (work_of region.counter region.body) trips (work_of region.counter region.behind)
work_is region trips = ap (λ xs. region.before ++ xs) (work_rounds region.counter region.body region.behind trips)

insns_rounds : (body behind : List SerialInsn) (trips : ℕ)
    → insns_in (rounds_with body trips behind) ≡ rounds_with (insns_in body) trips (insns_in behind)
insns_rounds body behind zero = refl
insns_rounds body behind (suc trips) = grind (arith, insns_rounds body behind trips, map-append)

pub insns_are : (region : Region) (trips : ℕ)
    → insns_in (work_path region trips) ≡ insns_of (work_insns region) trips
insns_are region trips = grind (arith, nat_tests, work_is, map-append, insns_rounds)

-- ---- what stands for it

pub stand_count : (entries : List SerialInsn) (placed : List Placed) → StandFor entries placed
    → length placed ≡ length entries
stand_count [] placed h = grind arith
stand_count (e ∷ entries) placed h = grind (arith, stand_count entries)

pub stand_at : (entries : List SerialInsn) (placed : List Placed) → StandFor entries placed
    → (i : ℕ) (entry : SerialInsn) (p : Placed) → slice_get entries i ≡ Some entry → slice_get placed i ≡ Some p
    → StandsAs entry p
stand_at [] placed h i entry p at_i at_p = absurd (none-some entry at_i)
stand_at (e ∷ entries) [] h i entry p at_i at_p = absurd h
stand_at (e ∷ entries) (q ∷ placed) h zero entry p at_i at_p = grind (arith, same_Some)
stand_at (e ∷ entries) (q ∷ placed) h (suc i) entry p at_i at_p = stand_at entries placed h.1 i entry p at_i at_p

pub stand_both : (xs ys : List SerialInsn) (ps qs : List Placed) → StandFor xs ps → StandFor ys qs
    → StandFor (xs ++ ys) (ps ++ qs)
stand_both [] ys ps qs h k = grind arith
stand_both (x ∷ xs) ys ps qs h k = grind (arith, stand_both xs ys)

stands_moved : (k : ℕ) (entry : SerialInsn) (p : Placed) → StandsAs entry p → StandsAs entry (moved k p)
stands_moved k entry p h = record { insn = h.insn; line = h.line }

pub stand_moved : (k : ℕ) (entries : List SerialInsn) (placed : List Placed) → StandFor entries placed
    → StandFor entries (map (moved k) placed)
stand_moved k [] placed h = grind arith
stand_moved k (e ∷ entries) placed h = grind (arith, stand_moved k entries)

past : {X : Type 0} (xs : List X) (i : ℕ) (d : X) → length xs ≤ i → get_or xs i d ≡ d
past [] i d l = refl
past (x ∷ xs) i d l = grind (arith, past xs)

stands_in : (entry : SerialInsn) (ps : List Placed) (i : ℕ) (d : Placed) → All (StandsAs entry) ps → StandsAs entry d
    → StandsAs entry (get_or ps i d)
stands_in entry ps i d all h =
    ⊎_elim {C = StandsAs entry (get_or ps i d)} (λ (l : i < length ps). all i d l)
    (λ (l : length ps ≤ i). subst (λ x. StandsAs entry x) (sym (past ps i d l)) h) (cases_lt i (length ps))

-- each instance of a stage stands for the instruction
pub record IsOf (entry : SerialInsn) (stage : Stage) : Type 0 where
  pub early : All (StandsAs entry) stage.early
  pub kernel : StandsAs entry stage.kernel
  pub late : All (StandsAs entry) stage.late

abbrev pub AreOf : List SerialInsn → List Stage → Type 0
AreOf [] [] = Unit {0}
AreOf [] (stage ∷ stages) = ⊥
AreOf (entry ∷ entries) [] = ⊥
AreOf (entry ∷ entries) (stage ∷ stages) = IsOf entry stage × AreOf entries stages

pub stages_of : (most : ℕ) (entries : List SerialInsn) (stages : List Stage) → AreStagesOf most entries stages
    → AreOf entries stages
stages_of most [] stages h = grind arith
stages_of most (e ∷ entries) stages h = grind (arith, stages_of most entries)

module _ (interval passes : ℕ) where
  pub instance_stands : (entry : SerialInsn) (stage : Stage) (t : ℕ) → IsOf entry stage
      → StandsAs entry (instance_of interval passes t stage)
  instance_stands entry stage t h = grind (
    arith,
    stands_in entry stage.early t stage.kernel h.early h.kernel,
    stands_moved (cycles_in interval (t - length stage.early)) entry stage.kernel h.kernel,
    stands_moved (cycles_in interval passes) entry (get_or stage.late (t - (length stage.early + passes))
        stage.kernel) (stands_in entry stage.late (t - (length stage.early + passes)) stage.kernel h.late h.kernel),
    stands_in entry stage.late (t - (length stage.early + passes)) stage.kernel h.late h.kernel,
  )

  round_stands : (entries : List SerialInsn) (stages : List Stage) (t : ℕ) → AreOf entries stages
      → StandFor entries (map (instance_of interval passes t) stages)
  round_stands [] [] t h = h
  round_stands [] (s ∷ stages) t h = absurd h
  round_stands (e ∷ entries) [] t h = absurd h
  round_stands (e ∷ entries) (s ∷ stages) t h = (instance_stands e s t h.0, round_stands entries stages t h.1)

stages_count : (most : ℕ) (entries : List SerialInsn) (stages : List Stage) → AreStagesOf most entries stages
    → length stages ≡ length entries
stages_count most [] stages h = grind arith
stages_count most (e ∷ entries) stages h = grind (arith, stages_count most entries)

stages_early : (most : ℕ) (entries : List SerialInsn) (stages : List Stage) → AreStagesOf most entries stages
    → (k : ℕ) (d : Stage) → k < length stages → length (get_or stages k d).early ≤ most
stages_early most entries [] h k d l = absurd (omega arith)
stages_early most [] (s ∷ stages) h k d l = absurd h
stages_early most (e ∷ entries) (s ∷ stages) h zero d l = grind arith
stages_early most (e ∷ entries) (s ∷ stages) h (suc k) d l = stages_early most entries stages h.1 k d (omega arith)

-- The work of so many iterations, and what stands behind them.
module _ (region : Region) (schedule : Schedule) (passes : ℕ)
    (body : AreOf (work_of region.counter region.body) schedule.stages) (behind : List Placed)
    (stands : StandFor (work_of region.counter region.behind) behind) where
  rounds_stand : (from trips : ℕ)
      → StandFor (rounds_with (work_of region.counter region.body) trips (work_of region.counter region.behind))
      (rounds_from schedule passes from trips behind)
  rounds_stand from zero = stands
  rounds_stand from (suc trips) = grind (arith, nat_tests, rounds_stand (suc from) trips, stand_both, round_stands)

  pub later_stand : (trips : ℕ) → StandFor (work_of region.counter (loop_path region trips))
      (rounds_from schedule passes 0 trips behind)
  later_stand trips = grind (arith, work_rounds region.counter region.body region.behind trips, rounds_stand 0 trips)

module _ (region : Region) (schedule : Schedule) (most passes : ℕ)
    (before : StandFor region.before schedule.before)
    (body : AreStagesOf most (work_of region.counter region.body) schedule.stages)
    (behind : StandFor (work_of region.counter region.behind) schedule.behind) where
  pub work_places : Places (work_insns region) schedule most
  work_places = grind (arith, stand_count, length-map, stages_count, stages_early)
