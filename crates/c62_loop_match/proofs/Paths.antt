-- Paths of iterations and their instances, put together from the left.
use Rattle.std.proofs.Common.{◌≡◌, ℕ, zero, suc, ◌+◌, ◌-◌, ◌*◌, ◌<◌, ◌≤◌, List, [], ◌∷◌, ◌++◌, map, refl, sym, ◌∙◌, ap}
use Rattle.std.proofs.Common.{arith}
use Rattle.std.proofs.lemmas.List.{append_assoc, map-append}
use Rattle.c62_insn.specs.declared.insn.Insn.{Insn}
use Rattle.c62_packet.specs.declared.placed.Placed.{Placed}
use Rattle.c62_meaning.specs.Cut.{moved}
use Rattle.c62_pair.specs.declared.uses.Uses.{Uses}
use Rattle.c62_pair.specs.Uses.{insns_in}
use Rattle.c62_loop.specs.Stage.{cycles_in, instance_of, round_of, rounds_from, placed_of, rounds_with, insns_of}
use Rattle.c62_loop_match.specs.declared.path.Work.{Work}
use Rattle.c62_loop_match.specs.declared.parts.Stage.{Stage as StageRead}
use Rattle.c62_loop_match.specs.declared.parts.Schedule.{Schedule as ScheduleRead}
use Rattle.c62_loop_match.specs.Parts.{stage_of, schedule_of}
use Rattle.c62_loop_match.specs.declared.path.Instance.{Instance}
use Rattle.c62_loop_match.specs.Path.{straights_of, instance}

-- ---- instructions

-- what is there, and the iterations that are left, are the path
pub record Builds (work : Work) (trips number : ℕ) (path : List Uses) : Type 0 where
  pub whole : insns_in path ++ rounds_with (insns_in work.body.items) (trips - number) (insns_in work.behind.items) ≡
      insns_of (straights_of work) trips

module _ (work : Work) (trips : ℕ) where
  pub path_begun : (path : List Uses) → path ≡ work.before.items → Builds work trips 0 path
  path_begun path e =
      let all : trips - 0 ≡ trips = omega arith in
      record {
        whole =
            ap (λ n. insns_in path ++ rounds_with (insns_in work.body.items) n (insns_in work.behind.items)) all
            ∙ ap (λ xs. insns_in xs ++ rounds_with (insns_in work.body.items) trips (insns_in work.behind.items)) e;
      }

  pub path_more : (number : ℕ) (path next : List Uses) → number < trips → next ≡ path ++ work.body.items
      → Builds work trips number path → Builds work trips (number + 1) next
  path_more number path next inside e built =
      let left : trips - number ≡ suc (trips - (number + 1)) = omega arith in
      let rest : List Insn = rounds_with (insns_in work.body.items) (trips - (number + 1)) (insns_in work.behind.items)
      in
      record {
        whole =
            ap (λ xs. insns_in xs ++ rest) e
            ∙ ap (λ xs. xs ++ rest) (map-append (λ (one : Uses). one.insn) path work.body.items)
            ∙ append_assoc (insns_in path) (insns_in work.body.items) rest
            ∙ ap (λ n. insns_in path ++ rounds_with (insns_in work.body.items) n (insns_in work.behind.items))
            (sym left) ∙ built.whole;
      }

  pub path_whole : (number : ℕ) (path next : List Uses) → trips ≤ number → next ≡ path ++ work.behind.items
      → Builds work trips number path → insns_in next ≡ insns_of (straights_of work) trips
  path_whole number path next past e built =
      let left : trips - number ≡ 0 = omega arith in
      ap insns_in e ∙ map-append (λ (one : Uses). one.insn) path work.behind.items
      ∙ ap (λ n. insns_in path ++ rounds_with (insns_in work.body.items) n (insns_in work.behind.items)) (sym left)
      ∙ built.whole

-- ---- instances

pub cycles_are : (interval passes : ℕ) → cycles_in interval passes ≡ interval * passes
cycles_are interval zero = omega arith
cycles_are interval (suc passes) = let e : cycles_in interval passes ≡ interval * passes = cycles_are interval passes in
    omega arith

pub cycles_bound : (interval passes : ℕ) → interval ≤ 65535 → cycles_in interval passes ≤ 65535 * passes
cycles_bound interval zero small = omega arith
cycles_bound interval (suc passes) small = let e : cycles_in interval passes ≤ 65535 * passes = cycles_bound interval
    passes small in omega arith

map_map : {X Y Z : Type 0} (f : Y → Z) (g : X → Y) (xs : List X) → map f (map g xs) ≡ map (λ x. f (g x)) xs
map_map f g [] = refl
map_map f g (x ∷ xs) = ap (λ ys. f (g x) ∷ ys) (map_map f g xs)

from_zero : (placed : List Placed) → map (λ (p : Placed). instance (moved 0 p)) placed ≡ map instance placed
from_zero [] = refl
from_zero (p ∷ placed) =
    let at : 0 + p.cycle ≡ p.cycle = omega arith in
    let e : instance (moved 0 p) ≡ instance p = ap (λ n. instance (record p { cycle = n })) at in
    ap (λ x. x ∷ map (λ (q : Placed). instance (moved 0 q)) placed) e ∙ ap (λ xs. instance p ∷ xs) (from_zero placed)

module _ (schedule : ScheduleRead) (trips passes : ℕ) where
  -- what is there, and the instances of the iterations that are left, are those of the path
  pub record Counts (number : ℕ) (found : List Instance) : Type 0 where
    pub whole : found ++ map instance
        (rounds_from (schedule_of schedule) passes number (trips - number)
        (map (moved (cycles_in schedule.interval passes)) schedule.behind.items))
        ≡ map instance (placed_of (schedule_of schedule) trips passes)

  pub count_begun : (found : List Instance) → found ≡ map (λ p. instance (moved 0 p)) schedule.before.items
      → Counts 0 found
  count_begun found e =
      let all : trips - 0 ≡ trips = omega arith in
      record {
        whole =
            ap (λ n. found ++ map instance
            (rounds_from (schedule_of schedule) passes 0 n
            (map (moved (cycles_in schedule.interval passes)) schedule.behind.items))) all
            ∙ ap (λ xs. xs ++ map instance
            (rounds_from (schedule_of schedule) passes 0 trips
            (map (moved (cycles_in schedule.interval passes)) schedule.behind.items))) (e
            ∙ from_zero schedule.before.items)
            ∙ sym (map-append instance schedule.before.items
            (rounds_from (schedule_of schedule) passes 0 trips
            (map (moved (cycles_in schedule.interval passes)) schedule.behind.items)));
      }

  pub count_more : (number : ℕ) (found next round : List Instance) → number < trips → next ≡ found ++ round
      → round ≡ map (λ (stage : StageRead). instance (instance_of schedule.interval passes number (stage_of stage)))
      schedule.stages.items → Counts number found → Counts (number + 1) next
  count_more number found next round inside e is counted =
      let left : trips - number ≡ suc (trips - (number + 1)) = omega arith in
      let rest : List Placed = rounds_from (schedule_of schedule) passes (number + 1) (trips - (number + 1))
      (map (moved (cycles_in schedule.interval passes)) schedule.behind.items) in
      let same : round ≡ map instance (round_of (schedule_of schedule) passes number)
      = is ∙ sym (ap (map instance)
      (map_map (instance_of schedule.interval passes number) stage_of schedule.stages.items)
      ∙ map_map instance (λ (stage : StageRead). instance_of schedule.interval passes number (stage_of stage))
      schedule.stages.items) in
      let next_is : number + 1 ≡ suc number = omega arith in
      record {
        whole =
            ap (λ xs. xs ++ map instance rest) e ∙ append_assoc found round (map instance rest)
            ∙ ap (λ xs. found ++ (xs ++ map instance rest)) same
            ∙ ap (λ xs. found ++ xs) (sym (map-append instance (round_of (schedule_of schedule) passes number) rest))
            ∙ ap (λ m. found ++ map instance
            (round_of (schedule_of schedule) passes number ++ rounds_from (schedule_of schedule) passes m
            (trips - (number + 1)) (map (moved (cycles_in schedule.interval passes)) schedule.behind.items)))
            next_is
            ∙ ap (λ n. found ++ map instance
            (rounds_from (schedule_of schedule) passes number n
            (map (moved (cycles_in schedule.interval passes)) schedule.behind.items))) (sym left)
            ∙ counted.whole;
      }

  pub count_whole : (number : ℕ) (found next behind : List Instance) → trips ≤ number → next ≡ found ++ behind
      → behind ≡ map (λ (p : Placed). instance (moved (cycles_in schedule.interval passes) p)) schedule.behind.items
      → Counts number found
      → next ≡ map instance (placed_of (schedule_of schedule) trips passes)
  count_whole number found next behind past e is counted =
      let left : trips - number ≡ 0 = omega arith in
      let same : behind ≡ map instance (map (moved (cycles_in schedule.interval passes)) schedule.behind.items)
      = is ∙ sym (map_map instance (moved (cycles_in schedule.interval passes)) schedule.behind.items) in
      e ∙ ap (λ xs. found ++ xs) same
      ∙ ap (λ n. found ++ map instance
      (rounds_from (schedule_of schedule) passes number n
      (map (moved (cycles_in schedule.interval passes)) schedule.behind.items))) (sym left)
      ∙ counted.whole
