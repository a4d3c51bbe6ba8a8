-- Places of a path that stay, or come a part later, with a pass more.
use Rattle.std.proofs.Common.{◌≡◌, ℕ, zero, suc, ◌+◌, ◌-◌, ◌<◌, ◌≤◌, List, [], length, get_or, Some, refl, sym}
use Rattle.std.proofs.Common.{◌∙◌, ap, ◌⊎◌, inl, inr, arith}
use Rattle.std.specs.Prelude.{slice_get}
use Rattle.std.proofs.lemmas.Option.{same_Some, slice_get-map, slice_get-get_or}
use Rattle.c62_packet.specs.declared.placed.Placed.{Placed}
use Rattle.c62_meaning.proofs.Instances.{no_placed}
use Rattle.c62_loop.specs.Stage.{Stage, Schedule, instance_of, round_of, Straights, Places}
use Rattle.c62_loop.proofs.Parts.{part, part_body, part_next, part_same}
use Rattle.c62_loop.proofs.PlacedParts.{placed_part, placed_body, placed_behind}
use Rattle.c62_loop.proofs.Instances.{instance_stays, instance_comes}
use Rattle.std.proofs.lemmas.Bool.Decides.{nat_tests}

-- each of these comes so many cycles later
abbrev pub ComeLater : ℕ → List Placed → List Placed → Type 0
ComeLater interval shorter longer = (a : ℕ) (p : Placed) → slice_get longer a ≡ Some p → (q : Placed)
    × (slice_get shorter a ≡ Some q) × (p.cycle ≡ q.cycle + interval)

-- a place that keeps its part, and its cycle
pub record Stays (straights : Straights) (schedule : Schedule) (trips passes : ℕ) (shorter longer : List Placed)
    (s a : ℕ) : Type 0 where
  pub there : s ≤ suc trips
  pub same : part straights (suc trips) s ≡ part straights trips s
  pub placed : (p : Placed) → slice_get (placed_part schedule (suc trips) (suc passes) longer s) a ≡ Some p
      → slice_get (placed_part schedule trips passes shorter s) a ≡ Some p

-- a place that comes a part later, and so many cycles
pub record Comes (straights : Straights) (schedule : Schedule) (trips passes : ℕ) (shorter longer : List Placed)
    (s a : ℕ) : Type 0 where
  pub earlier : ℕ
  pub is : s ≡ suc earlier
  pub later : 1 ≤ earlier
  pub there : earlier ≤ suc trips
  pub same : part straights (suc trips) s ≡ part straights trips earlier
  pub placed : (p : Placed) → slice_get (placed_part schedule (suc trips) (suc passes) longer s) a ≡ Some p
      → (q : Placed) × (slice_get (placed_part schedule trips passes shorter earlier) a ≡ Some q)
      × (p.cycle ≡ q.cycle + schedule.interval)

module _ (straights : Straights) (schedule : Schedule) (most : ℕ) (places : Places straights schedule most)
    (trips passes : ℕ) (many : passes ≤ trips) (enough : most + 3 ≤ passes) (shorter longer : List Placed)
    (come : ComeLater schedule.interval shorter longer) where
  abbrev stage_at : (a : ℕ) → a < length straights.body → Stage
  stage_at a l = get_or schedule.stages a (record { early = []; kernel = no_placed; late = [] })

  stage_is : (a : ℕ) (l : a < length straights.body) → slice_get schedule.stages a ≡ Some (stage_at a l)
  stage_is a l = grind (arith, slice_get-get_or schedule.stages a)

  held_at : (a : ℕ) → (l : a < length straights.body) → length (stage_at a l).early ≤ most
  held_at a l = grind arith

  in_round : (n t a : ℕ) (l : a < length straights.body)
      → slice_get (round_of schedule n t) a ≡ Some (instance_of schedule.interval n t (stage_at a l))
  in_round n t a l = grind (arith, slice_get-map, stage_is)

  body_stays : (t a : ℕ) (l : a < length straights.body) → t < length (stage_at a l).early + passes → t < trips
      → Stays straights schedule trips passes shorter longer (suc t) a
  body_stays t a l u inside = grind (arith, nat_tests, part_same, placed_body, in_round, instance_stays)

  body_comes : (t a : ℕ) (l : a < length straights.body) → length (stage_at a l).early ≤ t → t < trips
      → Comes straights schedule trips passes shorter longer (suc (suc t)) a
  body_comes t a l u inside = record {
    earlier = suc t;
    is = refl;
    later = omega arith;
    there = omega arith;
    same = part_next straights trips (suc t) (omega arith);
    placed = λ p e. (
      instance_of schedule.interval passes t (stage_at a l),
      ap (λ xs. slice_get xs a) (placed_body schedule trips passes shorter t inside) ∙ in_round passes t a l,
      grind (arith, nat_tests, same_Some, placed_body, in_round, instance_comes),
    );
  }

  behind_comes : (a : ℕ) → Comes straights schedule trips passes shorter longer (suc (suc trips)) a
  behind_comes a = record {
    earlier = suc trips;
    is = refl;
    later = omega arith;
    there = omega arith;
    same = part_next straights trips (suc trips) (omega arith);
    placed = λ p e. (let r = come a p
        (sym (ap (λ xs. slice_get xs a)
        (placed_behind schedule (suc trips) (suc passes) longer (suc trips) (omega arith))) ∙ e) in (
          r.0,
          ap (λ xs. slice_get xs a) (placed_behind schedule trips passes shorter trips (omega arith)) ∙ r.1,
          r.2,
        ));
  }

  -- each place of the longer path stays, or comes later in or behind the kernel
  pub stays_or : (s a : ℕ) → s ≤ suc (suc trips) → a < length (part straights (suc trips) s)
      → Stays straights schedule trips passes shorter longer s a
      ⊎ (Comes straights schedule trips passes shorter longer s a × (passes + 1 ≤ s))
  stays_or zero a u w = inl (record { there = omega arith; same = refl; placed = λ p e. e })
  stays_or (suc t) a u w = grind (
    arith,
    nat_tests,
    part_body straights (suc trips) t,
    behind_comes a,
    body_stays t a,
    held_at a,
    body_comes (t - 1) a,
  )

  -- and it comes later, or stays in the prolog or the first pass
  pub comes_or : (s a : ℕ) → s ≤ suc (suc trips) → a < length (part straights (suc trips) s)
      → Comes straights schedule trips passes shorter longer s a
      ⊎ (Stays straights schedule trips passes shorter longer s a × (s ≤ most + 1))
  comes_or zero a u w = inr (record { there = omega arith; same = refl; placed = λ p e. e }, omega arith)
  comes_or (suc t) a u w = grind (
    arith,
    part_body straights (suc trips) t,
    behind_comes a,
    held_at a,
    body_comes (t - 1) a,
    body_stays t a,
  )
