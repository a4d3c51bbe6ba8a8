-- In which part of a path a number lies.
use Rattle.std.proofs.Common.{◌≡◌, ℕ, zero, suc, ◌+◌, ◌-◌, ◌*◌, ◌/◌, ◌%◌, ◌<◌, ◌≤◌, length, sym, ◌∙◌, ap, ⊎_elim, arith}
use Rattle.std.proofs.lemmas.Bool.{cases_lt}
use Rattle.std.proofs.Math.Nat.{mul-le-mul_left, mul_comm, zero-mul, div-add-mod, mod-lt}
use Rattle.c62_loop.specs.Stage.{Straights, AreParted, begin_of}
use Rattle.c62_loop_match.specs.declared.borders.Borders.{Borders}
use Rattle.c62_loop_match.specs.Distances.{Parts, IsPart}

-- numbers of two parts are parted
pub parts_parted : (straights : Straights) (trips i j from to : ℕ) → IsPart straights trips i from
    → IsPart straights trips j to → from < to → AreParted straights trips i j
parts_parted straights trips i j from to first second before =
    let few : from ≤ trips = omega (arith, before, second.within) in
    (from, few, first.ahead from (omega arith) few, second.begun from before)

begins_at : (straights : Straights) (t : ℕ) → begin_of straights t ≡ length straights.before + length straights.body * t
begins_at straights zero = omega arith
begins_at straights (suc t) =
    let rest : begin_of straights t ≡ length straights.before + length straights.body * t = begins_at straights t in
    let e : begin_of straights t + length straights.body ≡ length straights.before + length straights.body * suc t =
    omega arith in e

module _ (straights : Straights) (borders : Borders) (parts : Parts straights borders) where
  begin_at : (t : ℕ) → begin_of straights t ≡ borders.begin + borders.body * t
  begin_at t = begins_at straights t ∙ ap (λ k. k + length straights.body * t) (sym parts.begins)
      ∙ ap (λ k. borders.begin + k * t) (sym parts.block)

  ends_at : borders.end ≡ borders.begin + borders.body * borders.trips
  ends_at = parts.ends ∙ ap (λ k. borders.begin + k) (mul_comm borders.trips borders.body)

  -- behind the last iteration
  pub last_part : (number : ℕ) → borders.end ≤ number → IsPart straights borders.trips number (borders.trips + 1)
  last_part number behind = record {
    within = omega arith;
    begun = λ t few. (let at : begin_of straights t ≡ borders.begin + borders.body * t = begin_at t in
        let end : borders.end ≡ borders.begin + borders.body * borders.trips = ends_at in
        let less : t ≤ borders.trips = omega (arith, few) in
        let more : borders.body * t ≤ borders.body * borders.trips = mul-le-mul_left borders.body less in omega arith);
    ahead = λ t few most. absurd (omega (arith, few, most));
  }

  -- before the first
  pub first_part : (number : ℕ) → number < borders.begin → IsPart straights borders.trips number 0
  first_part number before = record {
    within = omega arith;
    begun = λ t few. absurd (omega (arith, few));
    ahead = λ t few most.
        (let at : begin_of straights t ≡ borders.begin + borders.body * t = begin_at t in omega arith);
  }

  -- where iterations have no instructions
  pub empty_part : (number : ℕ) → number < borders.end → borders.body ≡ 0 → IsPart straights borders.trips number 0
  empty_part number before none =
      let end : borders.end ≡ borders.begin + borders.body * borders.trips = ends_at in
      let nothing : borders.body * borders.trips ≡ 0 = ap (λ k. k * borders.trips) none ∙ zero-mul borders.trips in
      first_part number (omega arith)

  -- in an iteration
  pub round_part : (number : ℕ) → borders.begin ≤ number → number < borders.end → 0 < borders.body
      → IsPart straights borders.trips number ((number - borders.begin) / borders.body + 1)
  round_part number after before some =
      let rest : ℕ = number - borders.begin in
      let round : ℕ = (number - borders.begin) / borders.body in
      let split : borders.body * ((number - borders.begin) / borders.body) + (number - borders.begin) % borders.body ≡
      number - borders.begin = div-add-mod (number - borders.begin) borders.body in
      let small : (number - borders.begin) % borders.body < borders.body = mod-lt (number - borders.begin) some in
      let end : borders.end ≡ borders.begin + borders.body * borders.trips = ends_at in
      record {
        within = ⊎_elim {C = (number - borders.begin) / borders.body + 1 ≤ borders.trips + 1}
            (λ (l : borders.trips < (number - borders.begin) / borders.body). (
            let less : borders.trips ≤ (number - borders.begin) / borders.body = omega arith in
            let more : borders.body * borders.trips ≤ borders.body * ((number - borders.begin) / borders.body) =
            mul-le-mul_left borders.body less in absurd (omega arith)))
            (λ (l : (number - borders.begin) / borders.body ≤ borders.trips). omega (arith, l))
            (cases_lt borders.trips ((number - borders.begin) / borders.body));
        begun = λ t few. (let at : begin_of straights t ≡ borders.begin + borders.body * t = begin_at t in
            let less : t ≤ (number - borders.begin) / borders.body = omega (arith, few) in
            let more : borders.body * t ≤ borders.body * ((number - borders.begin) / borders.body) = mul-le-mul_left
            borders.body less in omega arith);
        ahead = λ t few most. (let at : begin_of straights t ≡ borders.begin + borders.body * t = begin_at t in
            let more : borders.body * ((number - borders.begin) / borders.body + 1) ≤ borders.body * t = mul-le-mul_left
            borders.body few in
            let next : borders.body * ((number - borders.begin) / borders.body + 1) ≡ borders.body *
            ((number - borders.begin) / borders.body) + borders.body = omega arith in omega arith);
      }
