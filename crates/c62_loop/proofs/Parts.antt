-- Parts of a path: what stands before the loop, its iterations, and what stands behind it.
use Rattle.std.proofs.Common.{◌≡◌, ℕ, zero, suc, ◌+◌, ◌-◌, ◌<◌, ◌≤◌, cond, ltb, List, length, ◌∙◌, ap}
use Rattle.std.proofs.Common.{◌⊎◌, arith}
use Rattle.std.specs.Prelude.{slice_get}
use Rattle.std.proofs.lemmas.Bool.{cond-true, cond-false, lt-ltb, le-ltb}
use Rattle.c62_insn.specs.declared.insn.Insn.{Insn}
use Rattle.c62_loop.specs.Stage.{Straights, rounds_with, insns_of, begin_of}
use Rattle.c62_loop.proofs.Lists.{get_front, get_back}
use Rattle.std.proofs.lemmas.Bool.Decides.{nat_tests}

-- so many places in so many rounds
abbrev pub rows : ℕ → ℕ → ℕ
rows n zero = 0
rows n (suc t) = n + rows n t

pub rows_rise : (n t more : ℕ) → rows n t ≤ rows n (more + t)
rows_rise n t zero = let e : 0 + t ≡ t = omega arith in let f : rows n (0 + t) ≡ rows n t = ap (rows n) e in omega arith
rows_rise n t (suc more) =
    let l : rows n t ≤ rows n (more + t) = rows_rise n t more in
    let e : suc more + t ≡ suc (more + t) = omega arith in
    let f : rows n (suc more + t) ≡ rows n (suc (more + t)) = ap (rows n) e in omega arith

-- part 0 is what stands before the loop, then come the iterations, and what stands behind it
abbrev pub begin : Straights → ℕ → ℕ
begin straights zero = 0
begin straights (suc t) = length straights.before + rows (length straights.body) t

abbrev pub part : Straights → ℕ → ℕ → List Insn
part straights trips zero = straights.before
part straights trips (suc t) = cond (ltb t trips) straights.body straights.behind

module _ (straights : Straights) where
  pub part_body : (trips t : ℕ) → t < trips → part straights trips (suc t) ≡ straights.body
  part_body trips t l = cond-true _ _ _ (lt-ltb t trips l)

  pub part_behind : (trips t : ℕ) → trips ≤ t → part straights trips (suc t) ≡ straights.behind
  part_behind trips t l = cond-false _ _ _ (le-ltb t trips l)

  in_rounds : (trips t a : ℕ) → t < trips → a < length straights.body
      → slice_get (rounds_with straights.body trips straights.behind) (rows (length straights.body) t + a) ≡
      slice_get straights.body a
  in_rounds zero t a l u = absurd (omega arith)
  in_rounds (suc trips) zero a l u =
      let e : 0 + a ≡ a = omega arith in
      ap (λ n. slice_get (rounds_with straights.body (suc trips) straights.behind) n) e
      ∙ get_front straights.body (rounds_with straights.body trips straights.behind) a u
  in_rounds (suc trips) (suc t) a l u = grind (arith, nat_tests, in_rounds trips t a, get_back)

  behind_rounds : (trips a : ℕ)
      → slice_get (rounds_with straights.body trips straights.behind) (rows (length straights.body) trips + a) ≡
      slice_get straights.behind a
  behind_rounds zero a = let e : 0 + a ≡ a = omega arith in ap (λ n. slice_get straights.behind n) e
  behind_rounds (suc trips) a = grind (arith, nat_tests, behind_rounds trips a, get_back)

  pub part_at : (trips s a : ℕ) → s ≤ suc trips → a < length (part straights trips s)
      → slice_get (insns_of straights trips) (begin straights s + a) ≡ slice_get (part straights trips s) a
  part_at trips zero a l u =
      let e : 0 + a ≡ a = omega arith in
      ap (λ n. slice_get (insns_of straights trips) n) e
      ∙ get_front straights.before (rounds_with straights.body trips straights.behind) a u
  part_at trips (suc t) a l u = grind (
    arith,
    get_back straights.before (rounds_with straights.body trips straights.behind),
    part_body trips t,
    in_rounds trips t a,
    behind_rounds trips a,
    part_behind trips t,
  )

  -- with an iteration more each part behind the loop's first comes one later
  pub part_next : (trips s : ℕ) → 1 ≤ s → part straights (suc trips) (suc s) ≡ part straights trips s
  part_next trips s l = grind arith

  pub part_same : (trips s : ℕ) → s ≤ trips → part straights (suc trips) s ≡ part straights trips s
  part_same trips s l = grind arith

  -- parts come one behind the other
  pub next_begins : (trips s : ℕ) → s ≤ trips
      → begin straights (suc s) ≡ begin straights s + length (part straights trips s)
  next_begins trips s l = grind arith

  pub begin_is : (t : ℕ) → begin straights (suc t) ≡ begin_of straights t
  begin_is zero = omega arith
  begin_is (suc t) = let e : begin straights (suc t) ≡ begin_of straights t = begin_is t in omega arith

  pub begins_rise : (s r : ℕ) → s ≤ r → begin straights s ≤ begin straights r
  begins_rise zero r l = omega arith
  begins_rise (suc t) zero l = absurd (omega arith)
  begins_rise (suc t) (suc u) l = grind (arith, rows_rise (length straights.body) t (u - t))

  pub below : (trips s r a : ℕ) → s < r → r ≤ suc trips → a < length (part straights trips s)
      → begin straights s + a < begin straights r
  below trips s r a l u w = grind (arith, next_begins trips s, begins_rise (suc s) r l)

  -- of two numbers the lower is of an earlier part, or stands earlier in the same
  pub in_order : (trips s r a b : ℕ) → s ≤ suc trips → b < length (part straights trips r)
      → begin straights s + a ≤ begin straights r + b → (s < r)
      ⊎ ((s ≡ r) × (a ≤ b))
  in_order trips s r a b u w l = grind (arith, below trips r s b)

  -- a part behind the loop's first comes as many numbers later as the loop has
  pub comes_behind : (s : ℕ) → 1 ≤ s → begin straights (suc s) ≡ begin straights s + length straights.body
  comes_behind s l = grind arith
