-- Where the instructions of an iteration stand in a path, and their instances in what is placed.
use Rattle.std.proofs.Common.{arith, ◌≡◌, ℕ, zero, suc, ◌+◌, ◌-◌, ◌*◌, ◌<◌, ◌≤◌, List, [], ◌++◌, map, length, refl}
use Rattle.std.proofs.Common.{sym, ap, ◌∙◌, ⊎_elim}
use Rattle.std.specs.Prelude.{slice_get}
use Rattle.std.proofs.lemmas.Bool.{cases_lt}
use Rattle.std.proofs.lemmas.List.{length-map}
use Rattle.c62_insn.specs.declared.insn.Insn.{Insn}
use Rattle.c62_packet.specs.declared.placed.Placed.{Placed}
use Rattle.c62_meaning.specs.Cut.{moved}
use Rattle.c62_loop.specs.Stage.{Schedule, Straights, cycles_in, instance_of, round_of, rounds_from, placed_of}
use Rattle.c62_loop.specs.Stage.{rounds_with, insns_of, begin_of}
use Rattle.c62_loop.proofs.Lists.{get_front, get_back}

-- what stands behind a list, from its end on
behind : {X : Type 0} (xs ys : List X) (k : ℕ) → slice_get (xs ++ ys) (length xs + k) ≡ slice_get ys k
behind xs ys k = get_back xs ys (length xs + k) k refl

-- ---- iterations

pub begin_is : (straights : Straights) (t : ℕ)
    → begin_of straights t ≡ length straights.before + length straights.body * t
begin_is straights zero = omega arith
begin_is straights (suc t) =
    let rest : begin_of straights t ≡ length straights.before + length straights.body * t = begin_is straights t in
    omega (arith, rest)

begins_rise : (straights : Straights) (t more : ℕ) → begin_of straights t ≤ begin_of straights (more + t)
begins_rise straights t zero =
    let e : 0 + t ≡ t = omega arith in
    let f : begin_of straights (0 + t) ≡ begin_of straights t = ap (begin_of straights) e in omega (arith, f)
begins_rise straights t (suc more) =
    let e : suc more + t ≡ suc (more + t) = omega arith in
    let f : begin_of straights (suc more + t) ≡ begin_of straights (suc (more + t)) = ap (begin_of straights) e in
    let rest : begin_of straights t ≤ begin_of straights (more + t) = begins_rise straights t more in
    omega (arith, f, rest)

pub begins_later : (straights : Straights) (t u : ℕ) → t ≤ u → begin_of straights t ≤ begin_of straights u
begins_later straights t u l =
    let e : u - t + t ≡ u = omega (arith, l) in
    let f : begin_of straights (u - t + t) ≡ begin_of straights u = ap (begin_of straights) e in
    omega (arith, f, begins_rise straights t (u - t))

-- from iteration t on the path has what it has from its begin on, and that of as many iterations fewer
insns_from : (straights : Straights) (t more n : ℕ)
    → slice_get (insns_of straights (t + more)) (begin_of straights t + n)
    ≡ slice_get (rounds_with straights.body more straights.behind) n
insns_from straights zero more n =
    let e : 0 + more ≡ more = omega arith in
    ap (λ k. slice_get (insns_of straights k) (length straights.before + n)) e
    ∙ behind straights.before (rounds_with straights.body more straights.behind) n
insns_from straights (suc t) more n =
    let e : suc t + more ≡ t + suc more = omega arith in
    let f : begin_of straights t + length straights.body + n ≡ begin_of straights t + (length straights.body + n) =
    omega arith in
    ap (λ k. slice_get (insns_of straights k) (begin_of straights t + length straights.body + n)) e
    ∙ ap (λ k. slice_get (insns_of straights (t + suc more)) k) f
    ∙ insns_from straights t (suc more) (length straights.body + n)
    ∙ behind straights.body (rounds_with straights.body more straights.behind) n

-- in so many iterations it doesn't matter how many more there are, and what stands behind
rounds_alike : (body one other : List Insn) (rounds a b n : ℕ) → n < length body * rounds
    → slice_get (rounds_with body (rounds + a) one) n ≡ slice_get (rounds_with body (rounds + b) other) n
rounds_alike body one other zero a b n l = absurd (let z : length body * 0 ≡ 0 = omega arith in omega (arith, l, z))
rounds_alike body one other (suc rounds) a b n l =
    let e : suc rounds + a ≡ suc (rounds + a) = omega arith in
    let f : suc rounds + b ≡ suc (rounds + b) = omega arith in
    ap (λ k. slice_get (rounds_with body k one) n) e
    ∙ ⊎_elim {C = slice_get (rounds_with body (suc (rounds + a)) one) n ≡ slice_get
    (rounds_with body (suc (rounds + b)) other) n}
    (λ (u : n < length body). get_front body (rounds_with body (rounds + a) one) n u
    ∙ sym (get_front body (rounds_with body (rounds + b) other) n u))
    (λ (u : length body ≤ n).
    let s : n ≡ length body + (n - length body) = omega (arith, u) in
    let less : n - length body < length body * rounds = omega (arith, l, u) in
    get_back body (rounds_with body (rounds + a) one) n (n - length body) s
    ∙ rounds_alike body one other rounds a b (n - length body) less
    ∙ sym (get_back body (rounds_with body (rounds + b) other) n (n - length body) s))
    (cases_lt n (length body))
    ∙ sym (ap (λ k. slice_get (rounds_with body k other) n) f)

-- From iteration t on, so many iterations of a loop are those of the loop alone, from its begin on.
pub insns_alike : (straights : Straights) (t rounds more n : ℕ) → n < length straights.body * rounds
    → slice_get (insns_of (record { before = []; body = straights.body; behind = [] }) rounds) n
    ≡ slice_get (insns_of straights (t + (rounds + more))) (begin_of straights t + n)
insns_alike straights t rounds more n l =
    let e : rounds + 0 ≡ rounds = omega arith in
    sym (ap (λ k. slice_get (rounds_with straights.body k []) n) e)
    ∙ rounds_alike straights.body [] straights.behind rounds 0 more n l
    ∙ sym (insns_from straights t (rounds + more) n)

-- instruction a of iteration t
pub insn_in : (straights : Straights) (t more a : ℕ) → a < length straights.body
    → slice_get (insns_of straights (t + suc more)) (begin_of straights t + a) ≡ slice_get straights.body a
insn_in straights t more a l =
    insns_from straights t (suc more) a
    ∙ get_front straights.body (rounds_with straights.body more straights.behind) a l

-- ---- what is placed

module _ (schedule : Schedule) (straights : Straights) (before : length schedule.before ≡ length straights.before)
    (body : length schedule.stages ≡ length straights.body) (passes : ℕ) where
  round_long : (t : ℕ) → length (round_of schedule passes t) ≡ length straights.body
  round_long t = length-map schedule.stages (instance_of schedule.interval passes t) ∙ body

  abbrev late : List Placed
  late = map (moved (cycles_in schedule.interval passes)) schedule.behind

  placed_from : (t more n : ℕ) → slice_get (placed_of schedule (t + more) passes) (begin_of straights t + n)
      ≡ slice_get (rounds_from schedule passes t more late) n
  placed_from zero more n =
      let e : 0 + more ≡ more = omega arith in
      let s : length straights.before + n ≡ length schedule.before + n = omega (arith, before) in
      ap (λ k. slice_get (placed_of schedule k passes) (length straights.before + n)) e
      ∙ get_back schedule.before (rounds_from schedule passes 0 more late) (length straights.before + n) n s
  placed_from (suc t) more n =
      let e : suc t + more ≡ t + suc more = omega arith in
      let f : begin_of straights t + length straights.body + n ≡ begin_of straights t + (length straights.body + n) =
      omega arith in
      let s : length straights.body + n ≡ length (round_of schedule passes t) + n = omega (arith, round_long t) in
      ap (λ k. slice_get (placed_of schedule k passes) (begin_of straights t + length straights.body + n)) e
      ∙ ap (λ k. slice_get (placed_of schedule (t + suc more) passes) k) f
      ∙ placed_from t (suc more) (length straights.body + n)
      ∙ get_back (round_of schedule passes t) (rounds_from schedule passes (suc t) more late)
      (length straights.body + n) n
      s

  -- the instance of instruction a of iteration t
  pub placed_in : (t more a : ℕ) → a < length straights.body
      → slice_get (placed_of schedule (t + suc more) passes) (begin_of straights t + a)
      ≡ slice_get (round_of schedule passes t) a
  placed_in t more a l =
      let within : a < length (round_of schedule passes t) = omega (arith, l, round_long t) in
      placed_from t (suc more) a
      ∙ get_front (round_of schedule passes t) (rounds_from schedule passes (suc t) more late) a within
