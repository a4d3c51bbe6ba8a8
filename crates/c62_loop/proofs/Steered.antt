-- The steps and branches of a pipelined loop count its passes.
use Rattle.std.proofs.Common.{true, ◌≡◌, ℕ, zero, suc, ◌+◌, ◌-◌, ◌<◌, ◌≤◌, false, List}
use Rattle.std.proofs.Common.{◌++◌, map, length, take, Some, refl, sym, ◌∙◌, ap, subst, ◌⊎◌, inl, inr, ⊎_elim}
use Rattle.std.proofs.Common.{arith}
use Rattle.std.specs.Prelude.{All, slice_get}
use Rattle.std.proofs.lemmas.Bool.{cases_lt}
use Rattle.std.proofs.lemmas.Option.{same_Some, slice_get-map}
use Rattle.c62_op.specs.declared.register.Reg.{Reg}
use Rattle.c62_read.specs.declared.block.SerialInsn.{SerialInsn}
use Rattle.c62_packet.specs.declared.placed.Placed.{Placed}
use Rattle.c62_meaning.specs.Cut.{moved}
use Rattle.c62_meaning.proofs.Lookup.{In, Contains_from_In, In-append_cases}
use Rattle.c62_loop.specs.Counter.{touches, steps_on, steps_in, IsCounted, CountsFrom}
use Rattle.c62_loop.specs.Loop.{Pipelined, interval}
use Rattle.c62_loop.specs.Loop.{EndsPass}
use Rattle.c62_loop.specs.Stage.{cycles_in}
use Rattle.c62_loop.specs.Whole.{Control, entry_of, steps_of, IsControl, IsSteering}
use Rattle.c62_loop.proofs.Lists.{get_cases, get_back, front_at, taken_whole, taken_more, all_in, take_map}
use Rattle.c62_loop.proofs.Lists.{from_mapped, in_mapped}
use Rattle.c62_loop.proofs.PassControl.{control_from, control_of, in_pass, pass_in, steps_joined, steps_passes}
use Rattle.c62_loop.proofs.PassControl.{pass_of}
use Rattle.c62_loop.proofs.LaterRows.{pass_at}
use Rattle.std.proofs.lemmas.Bool.Decides.{nat_tests}

cycles_sum : (interval k n : ℕ) → cycles_in interval (k + n) ≡ cycles_in interval k + cycles_in interval n
cycles_sum interval zero n = grind arith
cycles_sum interval (suc k) n =
    let e : suc k + n ≡ suc (k + n) = omega arith in
    grind (arith, cycles_sum interval k n)

module _ (counter : Reg) (loop : Pipelined) (most passes : ℕ) (control : Control)
    (steering : IsSteering counter loop most control) (some : 0 < passes) where
  abbrev trips : ℕ
  trips = most + passes

  abbrev all : List Placed
  all = control_of control (interval loop) passes

  abbrev entries : List SerialInsn
  entries = map entry_of all

  -- ---- each of the control

  control_moved : (k : ℕ) (p : Placed) → IsControl counter loop.label p → IsControl counter loop.label (moved k p)
  control_moved k p h = grind arith

  pub each_control : (p : Placed) → In p all → IsControl counter loop.label p
  each_control p h = elim (In-append_cases p control.early (control_from control.kernel (interval loop) 0 passes) h) [
    | inl n ↦ in_list control.early steering.early p n
    | inr n ↦ (let r = in_pass control.kernel (interval loop) 0 passes p n in
        subst (λ z. IsControl counter loop.label z) (sym r.4)
        (control_moved (cycles_in (interval loop) (0 + r.0)) r.2
        (in_list control.kernel steering.kernel r.2 r.3)))
  ]
    where
      in_list : (ps : List Placed) → All (λ p. IsControl counter loop.label p) ps → (p : Placed) → In p ps
          → IsControl counter loop.label p
      in_list ps all p h = let c = Contains_from_In p ps h in grind arith

  pub in_entries : (entry : SerialInsn) → In entry entries → (p : Placed) × In p all × (entry ≡ entry_of p)
  in_entries entry h = in_mapped entry_of all entry h

  pub all_touch : All (λ entry. touches counter entry ≡ true) entries
  all_touch = all_in (λ entry. touches counter entry ≡ true) entries
      (λ entry h. grind (arith, in_entries entry h, each_control))

  pub all_counted : All (IsCounted counter loop.label) entries
  all_counted = all_in (IsCounted counter loop.label) entries
      (λ entry h. let r = in_entries entry h in grind (arith, each_control r.0 r.1))

  -- ---- where one stands, and the steps before it

  abbrev OfEarly : ℕ → Placed → Type 0
  OfEarly i p = (slice_get control.early i ≡ Some p)
      × (steps_of counter (take i all) ≡ steps_of counter (take i control.early))

  record OfPass (i : ℕ) (p : Placed) : Type 0 where
    pass : ℕ
    within : pass < passes
    number : ℕ
    of_kernel : Placed
    at_number : slice_get control.kernel number ≡ Some of_kernel
    is : p ≡ moved (cycles_in (interval loop) pass) of_kernel
    steps : steps_of counter (take i all) ≡ steps_of counter control.early +
        (pass + steps_of counter (take number control.kernel))

  stands : (i : ℕ) (p : Placed) → slice_get all i ≡ Some p → OfEarly i p ⊎ OfPass i p
  stands i p at =
      elim (get_cases control.early (control_from control.kernel (interval loop) 0 passes) i p at) [
        | inl n ↦ inl (
          n,
          ap (λ ps. steps_of counter ps)
              (taken_whole control.early (control_from control.kernel (interval loop) 0 passes) i p n),
        )
        | inr n ↦ (let r = pass_of counter control.kernel (interval loop) steering.one_step 0 passes n.0 p n.2 in
            let e : 0 + r.0 ≡ r.0 = omega arith in
            let t : steps_of counter (take i all) ≡ steps_of counter
            (control.early ++ take n.0 (control_from control.kernel (interval loop) 0 passes))
            = ap (λ ps. steps_of counter ps) (ap (λ (k : ℕ). take k all) n.1
            ∙ taken_more control.early (control_from control.kernel (interval loop) 0 passes) n.0) in
            let s : steps_of counter
            (control.early ++ take n.0 (control_from control.kernel (interval loop) 0 passes))
            ≡ steps_of counter control.early + steps_of counter
            (take n.0 (control_from control.kernel (interval loop) 0 passes))
            = steps_joined counter control.early (take n.0 (control_from control.kernel (interval loop) 0 passes))
            in
            let u : steps_of counter (take n.0 (control_from control.kernel (interval loop) 0 passes)) ≡ r.0 +
            steps_of counter (take r.2 control.kernel) = r.6 in
            inr (record {
              pass = r.0;
              within = r.1;
              number = r.2;
              of_kernel = r.3;
              at_number = r.4;
              is = r.5 ∙ ap (λ n. moved (cycles_in (interval loop) n) r.3) e;
              steps = omega arith;
            }))
      ]

  steps_taken : (i : ℕ) → steps_in counter (take i entries) ≡ steps_of counter (take i all)
  steps_taken i = ap (λ es. steps_in counter es) (take_map entry_of i all)

  pub control_counts : CountsFrom counter trips entries
  control_counts i entry at t =
      let r = from_mapped entry_of all i entry at in
      grind (arith, steps_taken i, stands i r.0 r.1)

  pub control_enough : trips ≤ steps_in counter entries
  control_enough = grind (arith, nat_tests, steps_joined, steps_passes)

  -- a branch of a pass ends as many passes later
  ends_later : (k pass : ℕ) (q : Placed) → EndsPass loop pass q
      → EndsPass loop (k + pass) (moved (cycles_in (interval loop) k) q)
  ends_later k pass q ends = grind (
    arith,
    pass_at loop pass,
    pass_at loop (k + pass),
    cycles_sum (interval loop) k pass,
  )

  -- where the control stands in a list from some number on
  module _ (placed : List Placed) (from : ℕ)
      (at_all : (i : ℕ) (p : Placed) → slice_get all i ≡ Some p → slice_get placed (from + i) ≡ Some p) where
    pub control_decides : (i : ℕ) (entry : SerialInsn) (p : Placed) → slice_get entries i ≡ Some entry
        → slice_get placed (from + i) ≡ Some p → steps_on counter entry ≡ false
        → (pass : ℕ) × EndsPass loop pass p × (steps_in counter (take i entries) + passes ≡ trips + suc pass)
    control_decides i entry p at_i at_p f =
        let r = from_mapped entry_of all i entry at_i in
        let one : r.0 ≡ p = same_Some r.0 p (sym (at_all i r.0 r.1) ∙ at_p) in
        let same : steps_in counter (take i entries) ≡ steps_of counter (take i all) = steps_taken i in
        let test : steps_on counter (entry_of r.0) ≡ false = subst (λ z. steps_on counter z ≡ false) r.2 f in
        elim (stands i r.0 r.1) [
          | inl n ↦ (let d = steering.early_tests i r.0 n.0 test in
              let s : steps_of counter (take i all) ≡ steps_of counter (take i control.early) = n.1 in
              let u : steps_of counter (take i control.early) ≡ most + suc d.0 = d.2 in
              (d.0, subst (λ z. EndsPass loop d.0 z) one d.1, omega arith))
          | inr n ↦ (let d = steering.kernel_tests n.number n.of_kernel n.at_number
              (subst (λ z. steps_on counter z ≡ false) (ap entry_of n.is) test) in
              let s : steps_of counter (take i all) ≡ steps_of counter control.early +
              (n.pass + steps_of counter (take n.number control.kernel)) = n.steps in
              let u : steps_of counter control.early + steps_of counter (take n.number control.kernel) ≡ most + suc
              steering.ahead = d.1 in (
                n.pass + steering.ahead,
                subst (λ z. EndsPass loop (n.pass + steering.ahead) z) (sym n.is
                    ∙ one) (ends_later n.pass steering.ahead n.of_kernel d.0),
                omega arith,
              ))
        ]

    abbrev Decided : ℕ → Type 0
    Decided pass = (i : ℕ) × (entry : SerialInsn) × (p : Placed) × (slice_get entries i ≡ Some entry)
        × (slice_get placed (from + i) ≡ Some p)
        × (steps_on counter entry ≡ false) × EndsPass loop pass p

    decided_at : (pass i : ℕ) (p : Placed) → slice_get all i ≡ Some p → steps_on counter (entry_of p) ≡ false
        → EndsPass loop pass p → Decided pass
    decided_at pass i p at f ends = (
      i,
      entry_of p,
      p,
      grind (arith, slice_get-map entry_of),
      at_all i p at,
      f,
      ends,
    )

    pub control_decided : (pass : ℕ) → suc pass < passes → Decided pass
    control_decided pass l =
        ⊎_elim {C = Decided pass}
        (λ (u : pass < steering.ahead).
        let e = steering.early_passes pass u in
        decided_at pass e.0 e.1
        (front_at control.early (control_from control.kernel (interval loop) 0 passes) e.0 e.1 e.2) e.3 e.4)
        (λ (u : steering.ahead ≤ pass).
        let k = steering.kernel_pass in
        let d = steering.kernel_tests k.0 k.1 k.2 k.3 in
        let n = pass_in control.kernel (interval loop) 0 passes (pass - steering.ahead) k.0 k.1 (omega arith) k.2 in
        let z : 0 + (pass - steering.ahead) ≡ pass - steering.ahead = omega arith in
        let s : pass - steering.ahead + steering.ahead ≡ pass = omega arith in
        decided_at pass (length control.early + n.0) (moved (cycles_in (interval loop) (pass - steering.ahead)) k.1)
        (get_back control.early (control_from control.kernel (interval loop) 0 passes) (length control.early + n.0)
        n.0 refl ∙ n.1 ∙ ap (λ c. Some (moved (cycles_in (interval loop) c) k.1)) z) k.3
        (subst (λ c. EndsPass loop c (moved (cycles_in (interval loop) (pass - steering.ahead)) k.1)) s
        (ends_later (pass - steering.ahead) steering.ahead k.1 d.0)))
        (cases_lt pass steering.ahead)
