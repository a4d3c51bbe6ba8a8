-- The steps and branches of a pipelined loop, in any number of passes.
use Rattle.std.proofs.Common.{◌≡◌, ℕ, zero, suc, ◌+◌, ◌<◌, ◌≤◌, List, [], ◌∷◌, ◌++◌}
use Rattle.std.proofs.Common.{map, length, take, Some, refl, ◌∙◌, ap, inl, inr, ⊎_elim, arith}
use Rattle.std.specs.Prelude.{slice_get}
use Rattle.std.proofs.lemmas.Bool.{cases_lt}
use Rattle.std.proofs.lemmas.Option.{none-some, slice_get-map}
use Rattle.c62_op.specs.declared.register.Reg.{Reg}
use Rattle.c62_packet.specs.declared.placed.Placed.{Placed}
use Rattle.c62_meaning.specs.Cut.{moved}
use Rattle.c62_meaning.proofs.Lookup.{In, In-append_cases}
use Rattle.c62_loop.specs.Counter.{steps_in}
use Rattle.c62_loop.specs.Stage.{cycles_in}
use Rattle.c62_loop.specs.Whole.{Control, entry_of, steps_of}
use Rattle.c62_loop.proofs.Lists.{get_cases, taken_whole, taken_more, take_map, from_mapped, in_mapped}
use Rattle.c62_loop.proofs.Counting.{steps_both}
use Rattle.std.proofs.lemmas.Bool.Decides.{nat_tests}

-- ---- passes

-- the kernel's steps and branches in so many passes from number pass on
abbrev pub control_from : List Placed → ℕ → ℕ → ℕ → List Placed
control_from kernel interval pass zero = []
control_from kernel interval pass (suc count) = map (moved (cycles_in interval pass)) kernel ++ control_from kernel
    interval (suc pass) count

abbrev pub control_of : Control → ℕ → ℕ → List Placed
control_of control interval passes = control.early ++ control_from control.kernel interval 0 passes

pub later_passes : (interval pass other : ℕ) → pass ≤ other → cycles_in interval pass ≤ cycles_in interval other
later_passes interval pass zero l = grind arith
later_passes interval pass (suc other) l =
    ⊎_elim {C = cycles_in interval pass ≤ cycles_in interval (suc other)}
    (λ (u : pass < suc other). grind (arith, later_passes interval pass other))
    (λ (u : suc other ≤ pass). let e : pass ≡ suc other = omega arith in grind arith)
    (cases_lt pass (suc other))

pub in_pass : (kernel : List Placed) (interval pass count : ℕ) (p : Placed)
    → In p (control_from kernel interval pass count)
    → (k : ℕ) × (k < count) × (q : Placed) × In q kernel × (p ≡ moved (cycles_in interval (pass + k)) q)
in_pass kernel interval pass zero p h = absurd h
in_pass kernel interval pass (suc count) p h =
    elim (In-append_cases p (map (moved (cycles_in interval pass)) kernel)
    (control_from kernel interval (suc pass) count) h) [
      | inl m ↦ (let r = in_mapped (moved (cycles_in interval pass)) kernel p m in
          let e : pass ≡ pass + 0 = omega arith in (
            0,
            omega arith,
            r.0,
            r.1,
            r.2
                ∙ ap (λ n. moved (cycles_in interval n) r.0) e,
          ))
      | inr m ↦ (let r = in_pass kernel interval (suc pass) count p m in
          let l : r.0 < count = r.1 in
          let e : suc pass + r.0 ≡ pass + suc r.0 = omega arith in (
            suc r.0,
            omega arith,
            r.2,
            r.3,
            r.4
                ∙ ap (λ n. moved (cycles_in interval n) r.2) e,
          ))
    ]

pub pass_in : (kernel : List Placed) (interval pass count k a : ℕ) (q : Placed) → k < count
    → slice_get kernel a ≡ Some q
    → (i : ℕ) × (slice_get (control_from kernel interval pass count) i ≡ Some (moved (cycles_in interval (pass + k)) q))
pass_in kernel interval pass zero k a q l at = absurd (omega arith)
pass_in kernel interval pass (suc count) zero a q l at =
    let e : pass ≡ pass + 0 = omega arith in grind (
      arith,
      front (map (moved (cycles_in interval pass)) kernel) a (moved (cycles_in interval pass) q),
      slice_get-map (moved (cycles_in interval pass)) kernel a,
    )
  where
    front : (xs : List Placed) (i : ℕ) (x : Placed) → slice_get xs i ≡ Some x
        → slice_get (xs ++ control_from kernel interval (suc pass) count) i ≡ Some x
    front [] i x e = absurd (none-some x e)
    front (y ∷ xs) zero x e = e
    front (y ∷ xs) (suc i) x e = front xs i x e
pass_in kernel interval pass (suc count) (suc k) a q l at =
    let r = pass_in kernel interval (suc pass) count k a q (omega arith) at in
    grind (arith, back (map (moved (cycles_in interval pass)) kernel) r.0)
  where
    back : (xs : List Placed) (i : ℕ)
        → slice_get (xs ++ control_from kernel interval (suc pass) count) (length xs + i) ≡ slice_get
        (control_from kernel interval (suc pass) count) i
    back [] i = let e : 0 + i ≡ i = omega arith in grind arith
    back (x ∷ xs) i =
        let e : suc (length xs) + i ≡ suc (length xs + i) = omega arith in
        ap (λ n. slice_get (x ∷ (xs ++ control_from kernel interval (suc pass) count)) n) e ∙ back xs i

-- ---- steps

module _ (counter : Reg) where
  pub steps_joined : (xs ys : List Placed) → steps_of counter (xs ++ ys) ≡ steps_of counter xs + steps_of counter ys
  steps_joined xs ys = ap (λ es. steps_in counter es) (mapped xs)
      ∙ steps_both counter (map entry_of xs) (map entry_of ys)
    where
      mapped : (xs : List Placed) → map entry_of (xs ++ ys) ≡ map entry_of xs ++ map entry_of ys
      mapped [] = refl
      mapped (x ∷ xs) = ap (λ es. entry_of x ∷ es) (mapped xs)

  pub steps_moved : (k : ℕ) (ps : List Placed) → steps_of counter (map (moved k) ps) ≡ steps_of counter ps
  steps_moved k ps = ap (λ es. steps_in counter es) (mapped ps)
    where
      mapped : (ps : List Placed) → map entry_of (map (moved k) ps) ≡ map entry_of ps
      mapped [] = refl
      mapped (p ∷ ps) = ap (λ es. entry_of p ∷ es) (mapped ps)

  module _ (kernel : List Placed) (interval : ℕ) (one : steps_of counter kernel ≡ 1) where
    pub steps_passes : (pass count : ℕ) → steps_of counter (control_from kernel interval pass count) ≡ count
    steps_passes pass zero = refl
    steps_passes pass (suc count) = grind (arith, nat_tests, steps_passes (suc pass) count, steps_joined, steps_moved)

    -- of which pass a number is, and how many steps are before it
    pub pass_of : (pass count i : ℕ) (p : Placed) → slice_get (control_from kernel interval pass count) i ≡ Some p
        → (k : ℕ) × (k < count) × (a : ℕ) × (q : Placed) × (slice_get kernel a ≡ Some q)
        × (p ≡ moved (cycles_in interval (pass + k)) q)
        × (steps_of counter (take i (control_from kernel interval pass count)) ≡ k + steps_of counter (take a kernel))
    pass_of pass zero i p at = absurd (none-some p at)
    pass_of pass (suc count) i p at =
        elim (get_cases (map (moved (cycles_in interval pass)) kernel) (control_from kernel interval (suc pass) count) i
        p at) [
          | inl here ↦ (let r = from_mapped (moved (cycles_in interval pass)) kernel i p here in
              let e : pass ≡ pass + 0 = omega arith in
              let s : steps_of counter (take i (control_from kernel interval pass (suc count))) ≡ steps_of counter
              (take i kernel)
              = ap (λ ps. steps_of counter ps)
              (taken_whole (map (moved (cycles_in interval pass)) kernel)
              (control_from kernel interval (suc pass) count) i p here
              ∙ take_map (moved (cycles_in interval pass)) i kernel)
              ∙ steps_moved (cycles_in interval pass) (take i kernel) in
              (0, omega arith, i, r.0, r.1, r.2 ∙ ap (λ n. moved (cycles_in interval n) r.0) e, omega arith))
          | inr there ↦ (let r = pass_of (suc pass) count there.0 p there.2 in
              let l : r.0 < count = r.1 in
              let e : suc pass + r.0 ≡ pass + suc r.0 = omega arith in
              let t : take i (control_from kernel interval pass (suc count)) ≡ map (moved (cycles_in interval pass))
              kernel ++ take there.0 (control_from kernel interval (suc pass) count)
              = ap (λ (n : ℕ). take n (control_from kernel interval pass (suc count))) there.1
              ∙ taken_more (map (moved (cycles_in interval pass)) kernel)
              (control_from kernel interval (suc pass) count) there.0 in
              let s : steps_of counter (take i (control_from kernel interval pass (suc count)))
              ≡ steps_of counter (map (moved (cycles_in interval pass)) kernel) + steps_of counter
              (take there.0 (control_from kernel interval (suc pass) count))
              = ap (λ ps. steps_of counter ps) t
              ∙ steps_joined (map (moved (cycles_in interval pass)) kernel)
              (take there.0 (control_from kernel interval (suc pass) count)) in
              let b : steps_of counter (map (moved (cycles_in interval pass)) kernel) ≡ steps_of counter kernel =
              steps_moved (cycles_in interval pass) kernel in
              let m : steps_of counter (take there.0 (control_from kernel interval (suc pass) count)) ≡ r.0 + steps_of
              counter (take r.2 kernel) = r.6 in
              (suc r.0, omega arith, r.2, r.3, r.4, r.5 ∙ ap (λ n. moved (cycles_in interval n) r.3) e, omega arith))
        ]
