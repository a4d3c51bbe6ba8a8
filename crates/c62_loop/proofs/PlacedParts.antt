-- Parts of a path whose instances are placed.
use Rattle.std.proofs.Common.{◌≡◌, ℕ, zero, suc, ◌+◌, ◌<◌, ◌≤◌, cond, ltb, List, ◌++◌, length, ◌∙◌, ap}
use Rattle.std.proofs.Common.{arith}
use Rattle.std.specs.Prelude.{slice_get}
use Rattle.std.proofs.lemmas.Bool.{cond-true, cond-false, lt-ltb, le-ltb}
use Rattle.std.proofs.lemmas.List.{length-map}
use Rattle.c62_packet.specs.declared.placed.Placed.{Placed}
use Rattle.c62_loop.specs.Stage.{Schedule, instance_of, round_of, rounds_from, Straights, Places}
use Rattle.c62_loop.proofs.Lists.{get_front, get_back}
use Rattle.c62_loop.proofs.Parts.{rows, begin, part, part_body}
use Rattle.std.proofs.lemmas.Bool.Decides.{nat_tests}

-- the instances of so many iterations, and these behind them
abbrev pub placed_with : Schedule → ℕ → ℕ → List Placed → List Placed
placed_with schedule trips passes behind = schedule.before ++ rounds_from schedule passes 0 trips behind

abbrev pub placed_part : Schedule → ℕ → ℕ → List Placed → ℕ → List Placed
placed_part schedule trips passes behind zero = schedule.before
placed_part schedule trips passes behind (suc t) = cond (ltb t trips) (round_of schedule passes t) behind

module _ (schedule : Schedule) where
  pub placed_body : (trips passes : ℕ) (behind : List Placed) (t : ℕ) → t < trips
      → placed_part schedule trips passes behind (suc t) ≡ round_of schedule passes t
  placed_body trips passes behind t l = cond-true _ _ _ (lt-ltb t trips l)

  pub placed_behind : (trips passes : ℕ) (behind : List Placed) (t : ℕ) → trips ≤ t
      → placed_part schedule trips passes behind (suc t) ≡ behind
  placed_behind trips passes behind t l = cond-false _ _ _ (le-ltb t trips l)

module _ (straights : Straights) (schedule : Schedule) (most : ℕ) (places : Places straights schedule most) where
  round_length : (passes t : ℕ) → length (round_of schedule passes t) ≡ length straights.body
  round_length passes t = length-map schedule.stages (instance_of schedule.interval passes t) ∙ places.body

  placed_rounds : (passes from trips t a : ℕ) (behind : List Placed) → t < trips → a < length straights.body
      → slice_get (rounds_from schedule passes from trips behind) (rows (length straights.body) t + a) ≡ slice_get
      (round_of schedule passes (from + t)) a
  placed_rounds passes from zero t a behind l u = absurd (omega arith)
  placed_rounds passes from (suc trips) zero a behind l u = grind (arith, nat_tests, round_length, get_front)
  placed_rounds passes from (suc trips) (suc t) a behind l u = grind (
    arith,
    nat_tests,
    placed_rounds passes (suc from) trips t a behind,
    round_length,
    get_back,
  )

  placed_end : (passes from trips a : ℕ) (behind : List Placed)
      → slice_get (rounds_from schedule passes from trips behind) (rows (length straights.body) trips + a) ≡
      slice_get behind a
  placed_end passes from zero a behind = let e : 0 + a ≡ a = omega arith in ap (λ n. slice_get behind n) e
  placed_end passes from (suc trips) a behind =
      let n : length (round_of schedule passes from) ≡ length straights.body = round_length passes from in
      get_back (round_of schedule passes from) (rounds_from schedule passes (suc from) trips behind)
      (length straights.body + rows (length straights.body) trips + a) (rows (length straights.body) trips + a)
      (omega arith)
      ∙ placed_end passes (suc from) trips a behind

  pub placed_at : (trips passes : ℕ) (behind : List Placed) (s a : ℕ) → s ≤ suc trips → a < length
      (part straights trips s)
      → slice_get (placed_with schedule trips passes behind) (begin straights s + a) ≡ slice_get
      (placed_part schedule trips passes behind s) a
  placed_at trips passes behind zero a l u = grind (
    arith,
    get_front schedule.before (rounds_from schedule passes 0 trips behind) a,
  )
  placed_at trips passes behind (suc t) a l u = grind (
    arith,
    get_back schedule.before (rounds_from schedule passes 0 trips behind) (length straights.before + rows (length
        straights.body) t + a) (rows (length straights.body) t + a),
    part_body straights trips t,
    placed_rounds passes 0 trips t a behind,
    placed_body schedule trips passes behind t,
    placed_end passes 0 trips a behind,
    placed_behind schedule trips passes behind t,
  )
