-- Instances of a loop's instructions in pass after pass, and how dependences bind them.
use Rattle.std.proofs.Common.{arith, Bool, true, ◌≡◌, ℕ, zero, suc, ◌+◌, ◌-◌, ◌*◌, ◌<◌, ◌≤◌, pos, ◌+ℤ◌, ◌≤ℤ◌, List}
use Rattle.std.proofs.Common.{[], length}
use Rattle.std.proofs.Common.{get_or, Some, sym, ap, ◌∙◌, subst, inl, ⊎_elim}
use Rattle.std.specs.Prelude.{slice_get, option_map}
use Rattle.std.proofs.Math.Nat.{mul-le-mul_left}
use Rattle.std.proofs.lemmas.Bool.{cases_lt}
use Rattle.std.proofs.lemmas.Int.{ints}
use Rattle.std.proofs.lemmas.Option.{slice_get-map, slice_get-get_or}
use Rattle.c62_insn.specs.declared.insn.Insn.{Insn}
use Rattle.c62_packet.specs.declared.placed.Placed.{Placed}
use Rattle.c62_meaning.specs.Instances.{IsOfMemory, DataBounds}
use Rattle.c62_meaning.proofs.Instances.{no_placed}
use Rattle.c62_loop.specs.Loop.{Region, Pipelined}
use Rattle.c62_loop.specs.Stage.{Stage, Straights, cycles_in, instance_of, round_of, placed_of, insns_of}
use Rattle.c62_loop.specs.Stage.{begin_of, AreParted, KeepDistances, Places}
use Rattle.c62_loop.specs.Whole.{work_insns, IsPipelining}
use Rattle.c62_loop.proofs.Between.{asked_there}
use Rattle.c62_loop.proofs.Instances.{instance_pass}
use Rattle.c62_loop.proofs.Kept.{kept_in_more_passes}
use Rattle.c62_loop.proofs.Standing.{work_places}
use Rattle.c62_loop_bound.specs.declared.dependence.Dependence.{Dependence}
use Rattle.c62_loop_bound.specs.Circle.{alone, IsDependence}
use Rattle.c62_loop_bound.proofs.Paths.{begin_is, begins_later, insns_alike, placed_in}

cycles_are : (interval passes : ℕ) → cycles_in interval passes ≡ interval * passes
cycles_are interval zero = omega arith
cycles_are interval (suc passes) = omega (arith, cycles_are interval passes)

cycles_later : (interval passes later : ℕ)
    → cycles_in interval (passes + later) ≡ cycles_in interval passes + interval * later
cycles_later interval passes later =
    omega (arith, cycles_are interval (passes + later), cycles_are interval passes)

abbrev pub no_stage : Stage
no_stage = record { early = []; kernel = no_placed; late = [] }

module _ (promised : Insn → Insn
    → Bool) (region : Region) (loop : Pipelined) (most : ℕ) (m : IsPipelining promised region loop most) where
  abbrev pub straights : Straights
  straights = work_insns region

  abbrev pub body : List Insn
  body = straights.body

  abbrev pub apart : ℕ
  apart = m.schedule.interval

  pub places : Places straights m.schedule most
  places = work_places region m.schedule most 0 m.before m.body m.behind

  -- distances are kept in any number of passes
  pub all_keep : (passes : ℕ) → 0 < passes
      → KeepDistances promised straights (most + passes) (placed_of m.schedule (most + passes) passes)
  all_keep passes some =
      ⊎_elim {C = KeepDistances promised straights (most + passes) (placed_of m.schedule (most + passes) passes)}
      (λ (l : passes < most + 3). m.keeps passes some (omega arith))
      (λ (l : most + 3 ≤ passes). kept_in_more_passes promised straights m.schedule most places
      (m.keeps (most + 3) (omega arith) (omega arith)) passes l)
      (cases_lt passes (most + 3))

  -- ---- the instances of an instruction

  abbrev pub stage_of : ℕ → Stage
  stage_of a = get_or m.schedule.stages a no_stage

  abbrev pub early_of : ℕ → ℕ
  early_of a = length (stage_of a).early

  pub few_early : (a : ℕ) → a < length body → early_of a ≤ most
  few_early a l = let n : length m.schedule.stages ≡ length body = places.body in places.early a no_stage
      (omega (arith, l, n))

  pub in_round : (passes t a : ℕ) → a < length body
      → slice_get (round_of m.schedule passes t) a ≡ Some (instance_of apart passes t (stage_of a))
  in_round passes t a l =
      let n : length m.schedule.stages ≡ length body = places.body in
      slice_get-map (instance_of apart passes t) m.schedule.stages a
      ∙ ap (λ o. option_map (instance_of apart passes t) o)
      (slice_get-get_or m.schedule.stages a no_stage (omega (arith, l, n)))

  -- the instance of instruction a of iteration t, of enough passes
  pub placed_at : (passes t more a : ℕ) → a < length body
      → slice_get (placed_of m.schedule (t + suc more) passes) (begin_of straights t + a)
      ≡ Some (instance_of apart passes t (stage_of a))
  placed_at passes t more a l = placed_in m.schedule straights places.before places.body passes t more a l
      ∙ in_round passes t a l

  -- its cycle, so many iterations later than that which the prolog may hold
  abbrev pub start : ℕ → ℕ
  start a = cycles_in apart (most - early_of a) + (stage_of a).kernel.cycle

  pub cycle_at : (passes later a : ℕ) → a < length body → most + later < passes
      → (instance_of apart passes (most + later) (stage_of a)).cycle ≡ start a + apart * later
  cycle_at passes later a l u =
      let few : early_of a ≤ most = few_early a l in
      let is : (instance_of apart passes (most + later) (stage_of a)).cycle ≡ cycles_in apart
      (most + later - early_of a) + (stage_of a).kernel.cycle
      = ap (λ (p : Placed). p.cycle)
      (instance_pass apart (stage_of a) passes (most + later) (omega (arith, few)) (omega (arith, u))) in
      let e : most + later - early_of a ≡ most - early_of a + later = omega (arith, few) in
      let f : cycles_in apart (most + later - early_of a) ≡ cycles_in apart (most - early_of a + later) = ap
      (cycles_in apart) e in
      let g : cycles_in apart (most - early_of a + later) ≡ cycles_in apart (most - early_of a) + apart * later =
      cycles_later apart (most - early_of a) later in
      omega (arith, is, f, g)

  -- ---- dependences

  abbrev passes_there : ℕ
  passes_there = 3 + most

  -- the numbers of an iteration have none of another between them
  one_iteration : (t i j trips : ℕ) → i < length body → j < length body
      → AreParted straights trips (begin_of straights t + i) (begin_of straights t + j) → ⊥
  one_iteration t i j trips low high (u, few, above, below) =
      ⊎_elim {C = ⊥}
      (λ (l : t < u). let later : begin_of straights (suc t) ≤ begin_of straights u = begins_later straights (suc t) u l
      in omega (arith, later, below, high))
      (λ (l : u ≤ t). let later : begin_of straights u ≤ begin_of straights t = begins_later straights u t l in omega
      (arith, later, above))
      (cases_lt t u)

  module _ (one : Dependence) (is : IsDependence promised body one) where
    -- the numbers of the two in the path of the loop alone, and in that of the region
    abbrev from_there : ℕ
    from_there = begin_of straights most + one.from

    abbrev to_here : ℕ
    to_here = begin_of (alone body) one.apart + one.to

    abbrev to_there : ℕ
    to_there = begin_of straights most + to_here

    to_is : to_there ≡ begin_of straights (most + one.apart) + one.to
    to_is =
        let a : begin_of (alone body) one.apart ≡ 0 + length body * one.apart = begin_is (alone body) one.apart in
        let b : begin_of straights (most + one.apart) ≡ length straights.before + length body * (most + one.apart) =
        begin_is straights (most + one.apart) in
        let c : begin_of straights most ≡ length straights.before + length body * most = begin_is straights most in
        omega (arith, a, b, c)

    short : to_here < length body * 3
    short =
        let near : one.apart < 3 = is.near in
        let inside : one.to < length body = is.to in
        let a : begin_of (alone body) one.apart ≡ 0 + length body * one.apart = begin_is (alone body) one.apart in
        let b : length body * one.apart ≤ length body * 2 = mul-le-mul_left (length body) (omega (arith, near)) in
        omega (arith, a, b, inside)

    abbrev path : List Insn
    path = insns_of straights (most + passes_there)

    alike : (n : ℕ) → n < length body * 3 → slice_get (insns_of (alone body) 3) n ≡ slice_get path
        (begin_of straights most + n)
    alike n l = insns_alike straights most 3 most n l

    abbrev Asked : Type 0
    Asked = (e : DataBounds path from_there to_there one.latency) × (e.bounds.first ≡ is.asked.bounds.first)
        × (e.bounds.second ≡ is.asked.bounds.second)
        × (IsOfMemory e.bounds.applies → IsOfMemory is.asked.bounds.applies)

    asked : Asked
    asked =
        let before : one.from < to_here = is.asked.bounds.before in
        let inside : to_here < length body * 3 = short in
        asked_there (insns_of (alone body) 3) path one.from to_here from_there to_there before (omega (arith, before))
        (alike one.from (omega (arith, before, inside))) (alike to_here inside)
        (λ k insn low high at. inl (
          begin_of straights most + k,
          omega (arith, low),
          omega (arith, high),
          sym (alike k (omega (arith, high, inside))) ∙ at,
        ))
        one.latency is.asked

    needed : (e : Asked) → IsOfMemory e.0.bounds.applies → promised e.0.bounds.first e.0.bounds.second ≡ true
        → AreParted straights (most + passes_there) from_there to_there → ⊥
    needed e memory kept parted =
        let here : promised is.asked.bounds.first is.asked.bounds.second ≡ true
        = subst (λ x. promised is.asked.bounds.first x ≡ true) e.2
        (subst (λ x. promised x e.0.bounds.second ≡ true) e.1 kept) in
        let none : one.apart ≡ 0 = is.needed (e.3 memory) here in
        let same : most + one.apart ≡ most = omega (arith, none) in
        let at : to_there ≡ begin_of straights most + one.to = to_is ∙ ap (λ n. begin_of straights n + one.to) same in
        one_iteration most one.from one.to (most + passes_there) is.from is.to
        (subst (λ n. AreParted straights (most + passes_there) from_there n) at parted)

    placed_from : slice_get (placed_of m.schedule (most + passes_there) passes_there) from_there ≡ Some
        (instance_of apart passes_there (most + 0) (stage_of one.from))
    placed_from =
        let z : most ≡ most + 0 = omega arith in
        let trips : most + passes_there ≡ most + suc (2 + most) = omega arith in
        ap (λ n. slice_get (placed_of m.schedule n passes_there) from_there) trips
        ∙ placed_at passes_there most (2 + most) one.from is.from
        ∙ ap (λ n. Some (instance_of apart passes_there n (stage_of one.from))) z

    placed_to : slice_get (placed_of m.schedule (most + passes_there) passes_there) to_there ≡ Some
        (instance_of apart passes_there (most + one.apart) (stage_of one.to))
    placed_to =
        let near : one.apart < 3 = is.near in
        let trips : most + passes_there ≡ most + one.apart + suc (2 + most - one.apart) = omega (arith, near) in
        ap (λ n. slice_get (placed_of m.schedule n passes_there) to_there) trips
        ∙ ap (λ n. slice_get (placed_of m.schedule (most + one.apart + suc (2 + most - one.apart)) passes_there) n)
        to_is
        ∙ placed_at passes_there (most + one.apart) (2 + most - one.apart) one.to is.to

    -- the later instruction comes as much later, where each iteration comes as many cycles later as there are between
    -- passes
    pub binds : (pos (start one.from) +ℤ one.latency) ≤ℤ pos (start one.to + apart * one.apart)
    binds =
        let e = asked in
        let near : one.apart < 3 = is.near in
        let p = instance_of apart passes_there (most + 0) (stage_of one.from) in
        let q = instance_of apart passes_there (most + one.apart) (stage_of one.to) in
        let kept : (pos p.cycle +ℤ one.latency) ≤ℤ pos q.cycle
        = all_keep passes_there (omega arith) from_there to_there p q one.latency placed_from placed_to e.0 (needed e)
        in
        let first : p.cycle ≡ start one.from + apart * 0 = cycle_at passes_there 0 one.from is.from (omega arith) in
        let second : q.cycle ≡ start one.to + apart * one.apart = cycle_at passes_there one.apart one.to is.to
        (omega (arith, near)) in
        let none : apart * 0 ≡ 0 = omega arith in
        omega (arith, ints, kept, first, second, none)
