-- The rows of a pipelined loop hold its work and its control, pass by pass.
use Rattle.std.proofs.Common.{◌≡◌, ℕ, zero, suc, ◌+◌, ◌-◌, ◌<◌, ◌≤◌, List, ◌++◌, map, length, get_or}
use Rattle.std.proofs.Common.{sym, ◌∙◌, ap, subst, ◌⊎◌, inl, inr, ⊎_elim, arith}
use Rattle.std.specs.Prelude.{◌↔◌, Contains}
use Rattle.std.specs.List.{flat_map}
use Rattle.std.proofs.lemmas.Bool.{cases_lt}
use Rattle.std.proofs.lemmas.Option.{slice_get_within, get_or_from_slice_get}
use Rattle.c62_packet.specs.declared.placed.Placed.{Placed}
use Rattle.c62_meaning.specs.Cut.{moved}
use Rattle.c62_meaning.proofs.Lookup.{In, In_from_Contains, Contains_from_In, In-append_left, In-append_right}
use Rattle.c62_meaning.proofs.Lookup.{In-append_cases, In-flat_map, from_In-flat_map}
use Rattle.c62_meaning.proofs.Instances.{in_map}
use Rattle.c62_flight.specs.Issued.{issued_on}
use Rattle.c62_flight.specs.Laid.{straight}
use Rattle.c62_loop.specs.Loop.{Pipelined, kernel_row, epilog_row, prolog_cycles, interval, visits_of}
use Rattle.c62_loop.specs.Stage.{Stage, Schedule, cycles_in, instance_of}
use Rattle.c62_loop.specs.Whole.{Control}
use Rattle.c62_loop.proofs.Lists.{place_of, in_at, in_mapped}
use Rattle.c62_loop.proofs.Instances.{instance_early, instance_pass, instance_late}
use Rattle.c62_loop.proofs.PassControl.{control_from, control_of, in_pass}
use Rattle.c62_loop.proofs.LaterRows.{prolog_rows, kernel_rows, epilog_rows, from_rows, prolog_there, pass_there}
use Rattle.c62_loop.proofs.LaterRows.{epilog_there}
use Rattle.std.proofs.lemmas.Bool.Decides.{nat_tests}

-- the rows hold these stages and steps, and what stands before the loop and behind it
pub record RowsAre (loop : Pipelined) (schedule : Schedule) (steps : Control) : Type 0 where
  pub same_interval : schedule.interval ≡ interval loop
  pub prolog : (p : Placed) → Contains (issued_on loop.text (straight loop.text loop.first 0 loop.prolog)) p
      ↔ Contains (steps.early ++ (schedule.before ++ flat_map (λ stage. stage.early) schedule.stages)) p
  pub kernel : (p : Placed)
      → Contains (issued_on loop.text (straight loop.text (kernel_row loop) (prolog_cycles loop) loop.kernel)) p
      ↔ Contains (steps.kernel ++ map (λ stage. stage.kernel) schedule.stages) p
  pub epilog : (p : Placed)
      → Contains (issued_on loop.text (straight loop.text (epilog_row loop) (prolog_cycles loop) loop.epilog)) p
      ↔ Contains (flat_map (λ stage. stage.late) schedule.stages ++ schedule.behind) p

-- an instance of a stage, of an iteration that it holds where the kernel is passed so often
abbrev pub IsInstance : Schedule → ℕ → Placed → Type 0
IsInstance schedule passes p = (stage : Stage) × (t : ℕ) × In stage schedule.stages
    × (t < length stage.early + length stage.late + passes)
    × (p ≡ instance_of schedule.interval passes t stage)

-- these are all of the stages and of what stands behind the loop
pub record RestIs (schedule : Schedule) (passes : ℕ) (rest : List Placed) : Type 0 where
  pub held : (stage : Stage) (t : ℕ) → In stage schedule.stages → t < length stage.early + length stage.late + passes
      → In (instance_of schedule.interval passes t stage) rest
  pub behinds : (p : Placed) → In p (map (moved (cycles_in schedule.interval passes)) schedule.behind) → In p rest
  pub from : (p : Placed) → In p rest → In p (map (moved (cycles_in schedule.interval passes)) schedule.behind)
      ⊎ IsInstance schedule passes p

module _ (loop : Pipelined) (passes : ℕ) (schedule : Schedule) (steps : Control)
    (rows : RowsAre loop schedule steps) (rest : List Placed) (is : RestIs schedule passes rest) where
  abbrev issued : List Placed
  issued = issued_on loop.text (visits_of loop passes)

  abbrev control : List Placed
  control = control_of steps (interval loop) passes

  abbrev work : List Placed
  work = schedule.before ++ rest

  abbrev behind : List Placed
  behind = map (moved (cycles_in schedule.interval passes)) schedule.behind

  abbrev all : List Placed
  all = control ++ work

  cycles_same : (k : ℕ) → cycles_in schedule.interval k ≡ cycles_in (interval loop) k
  cycles_same k = ap (λ n. cycles_in n k) rows.same_interval

  -- ---- from rows

  as_work : (p : Placed) → In p work → In p all
  as_work p h = In-append_right p control work h

  as_control : (p : Placed) → In p control → In p all
  as_control p h = In-append_left p control work h

  as_instance : (stage : Stage) (t : ℕ) (p : Placed) → In stage schedule.stages
      → t < length stage.early + length stage.late + passes → instance_of schedule.interval passes t stage ≡ p
      → In p all
  as_instance stage t p h l e = grind (arith, as_work p, In-append_right p schedule.before rest)

  as_behind : (p : Placed) → In p behind → In p all
  as_behind p h = as_work p (In-append_right p schedule.before rest (is.behinds p h))

  prolog_is : (p : Placed) → In p (prolog_rows loop) → In p all
  prolog_is p h =
      let held : List Placed = schedule.before ++ flat_map (λ (stage : Stage). stage.early) schedule.stages in
      elim (In-append_cases p steps.early
      (schedule.before ++ flat_map (λ (stage : Stage). stage.early) schedule.stages)
      (In_from_Contains p (steps.early ++
      (schedule.before ++ flat_map (λ (stage : Stage). stage.early) schedule.stages))
      ((rows.prolog p).0 (Contains_from_In p (prolog_rows loop) h)))) [
        | inl n ↦ as_control p
            (In-append_left p steps.early (control_from steps.kernel (interval loop) 0 passes) n)
        | inr n ↦ elim (In-append_cases p schedule.before (flat_map (λ (s : Stage). s.early) schedule.stages) n) [
          | inl k ↦ as_work p (In-append_left p schedule.before rest
              k)
          | inr k ↦ (let r = from_In-flat_map (λ (stage : Stage). stage.early) p schedule.stages k in
              let t = place_of r.0.early p r.2 in
              let l : t.0 < length r.0.early = slice_get_within r.0.early t.0 p t.1 in
              as_instance r.0 t.0 p r.1 (omega arith) (instance_early schedule.interval r.0 passes t.0 l
              ∙ get_or_from_slice_get r.0.early t.0 p r.0.kernel t.1))
        ]
      ]

  in_control_pass : (kernel : List Placed) (pass count k : ℕ) (q : Placed) → k < count → In q kernel
      → In (moved (cycles_in (interval loop) (pass + k)) q) (control_from kernel (interval loop) pass count)
  in_control_pass kernel pass zero k q l h = absurd (omega arith)
  in_control_pass kernel pass (suc count) zero q l h = grind (arith, nat_tests, In-append_left, in_map)
  in_control_pass kernel pass (suc count) (suc k) q l h = grind (
    arith,
    nat_tests,
    in_control_pass kernel (suc pass) count k q,
    In-append_right,
  )

  kernel_is : (k : ℕ) (q : Placed) → k < passes → In q (kernel_rows loop)
      → In (moved (cycles_in (interval loop) k) q) all
  kernel_is k q l h =
      elim (In-append_cases q steps.kernel (map (λ (stage : Stage). stage.kernel) schedule.stages)
      (In_from_Contains q (steps.kernel ++ map (λ (stage : Stage). stage.kernel) schedule.stages)
      ((rows.kernel q).0 (Contains_from_In q (kernel_rows loop) h)))) [
        | inl n ↦ grind (
          arith,
          as_control (moved (cycles_in (interval loop) k) q),
          In-append_right (moved (cycles_in (interval loop) k) q) steps.early (control_from steps.kernel (interval
              loop) 0 passes),
          in_control_pass steps.kernel 0 passes k q l n,
        )
        | inr n ↦ (let r = in_mapped (λ (stage : Stage). stage.kernel) schedule.stages q n in
            let e : length r.0.early + k - length r.0.early ≡ k = omega arith in
            as_instance r.0 (length r.0.early + k) (moved (cycles_in (interval loop) k) q) r.1 (omega arith)
            (instance_pass schedule.interval r.0 passes (length r.0.early + k) (omega arith) (omega arith)
            ∙ ap (λ j. moved (cycles_in schedule.interval j) r.0.kernel) e
            ∙ ap (λ c. moved c r.0.kernel) (cycles_same k)
            ∙ ap (λ z. moved (cycles_in (interval loop) k) z) (sym r.2)))
      ]

  epilog_is : (q : Placed) → In q (epilog_rows loop) → In (moved (cycles_in (interval loop) passes) q) all
  epilog_is q h =
      elim (In-append_cases q (flat_map (λ (stage : Stage). stage.late) schedule.stages) schedule.behind
      (In_from_Contains q (flat_map (λ (stage : Stage). stage.late) schedule.stages ++ schedule.behind)
      ((rows.epilog q).0 (Contains_from_In q (epilog_rows loop) h)))) [
        | inl n ↦ (let r = from_In-flat_map (λ (stage : Stage). stage.late) q schedule.stages n in
            let t = place_of r.0.late q r.2 in
            let l : t.0 < length r.0.late = slice_get_within r.0.late t.0 q t.1 in
            let e : length r.0.early + passes + t.0 - (length r.0.early + passes) ≡ t.0 = omega arith in
            as_instance r.0 (length r.0.early + passes + t.0) (moved (cycles_in (interval loop) passes) q) r.1
            (omega arith)
            (instance_late schedule.interval r.0 passes (length r.0.early + passes + t.0) (omega arith)
            ∙ ap (λ j. moved (cycles_in schedule.interval passes) (get_or r.0.late j r.0.kernel)) e
            ∙ ap (λ z. moved (cycles_in schedule.interval passes) z)
            (get_or_from_slice_get r.0.late t.0 q r.0.kernel t.1)
            ∙ ap (λ c. moved c q) (cycles_same passes)))
        | inr n ↦ as_behind (moved (cycles_in (interval loop) passes) q)
            (subst (λ c. In (moved c q) behind) (cycles_same passes)
            (in_map (moved (cycles_in schedule.interval passes)) q schedule.behind n))
      ]

  pub row_is : (p : Placed) → In p issued → In p all
  row_is p h = elim (from_rows loop passes p h) [
    | inl n ↦ prolog_is p n
    | inr (inl n) ↦ subst (λ z. In z all) (sym n.4) (kernel_is n.0 n.2 n.1 n.3)
    | inr (inr n) ↦ subst (λ z. In z all) (sym n.2) (epilog_is n.0 n.1)
  ]

  -- ---- to rows

  early_row : (p : Placed)
      → In p (steps.early ++ (schedule.before ++ flat_map (λ (stage : Stage). stage.early) schedule.stages))
      → In p issued
  early_row p h =
      prolog_there loop passes p
      (In_from_Contains p (prolog_rows loop)
      ((rows.prolog p).1 (Contains_from_In p
      (steps.early ++ (schedule.before ++ flat_map (λ (stage : Stage). stage.early) schedule.stages)) h)))

  pass_row : (k : ℕ) (q : Placed) → k < passes
      → In q (steps.kernel ++ map (λ (stage : Stage). stage.kernel) schedule.stages)
      → In (moved (cycles_in (interval loop) k) q) issued
  pass_row k q l h =
      pass_there loop passes k q l
      (In_from_Contains q (kernel_rows loop)
      ((rows.kernel q).1 (Contains_from_In q
      (steps.kernel ++ map (λ (stage : Stage). stage.kernel) schedule.stages) h)))

  late_row : (q : Placed) → In q (flat_map (λ (stage : Stage). stage.late) schedule.stages ++ schedule.behind)
      → In (moved (cycles_in (interval loop) passes) q) issued
  late_row q h =
      epilog_there loop passes q
      (In_from_Contains q (epilog_rows loop)
      ((rows.epilog q).1 (Contains_from_In q
      (flat_map (λ (stage : Stage). stage.late) schedule.stages ++ schedule.behind) h)))

  control_row : (p : Placed) → In p control → In p issued
  control_row p h =
      let passed = control_from steps.kernel (interval loop) 0 passes in
      elim (In-append_cases p steps.early passed h) [
        | inl n ↦ grind (arith, early_row p, In-append_left p steps.early)
        | inr n ↦ (let r = in_pass steps.kernel (interval loop) 0 passes p n in
            let e : 0 + r.0 ≡ r.0 = omega arith in
            subst (λ z. In z issued) (sym (r.4 ∙ ap (λ j. moved (cycles_in (interval loop) j) r.2) e))
            (pass_row r.0 r.2 r.1
            (In-append_left r.2 steps.kernel (map (λ (stage : Stage). stage.kernel) schedule.stages) r.3)))
      ]

  instance_row : (stage : Stage) (t : ℕ) → In stage schedule.stages
      → t < length stage.early + length stage.late + passes
      → In (instance_of schedule.interval passes t stage) issued
  instance_row stage t h l =
      ⊎_elim {C = In (instance_of schedule.interval passes t stage) issued}
      (λ (u : t < length stage.early). subst (λ z. In z issued)
      (sym (instance_early schedule.interval stage passes t u))
      (early_row (get_or stage.early t stage.kernel)
      (In-append_right (get_or stage.early t stage.kernel) steps.early
      (schedule.before ++ flat_map (λ (s : Stage). s.early) schedule.stages)
      (In-append_right (get_or stage.early t stage.kernel) schedule.before
      (flat_map (λ (s : Stage). s.early) schedule.stages)
      (In-flat_map (λ (s : Stage). s.early) (get_or stage.early t stage.kernel) stage schedule.stages h
      (in_at stage.early t stage.kernel u))))))
      (λ (u : length stage.early ≤ t). ⊎_elim {C = In (instance_of schedule.interval passes t stage) issued}
      (λ (v : t < length stage.early + passes). grind (
        arith,
        instance_pass schedule.interval stage passes t u v,
        cycles_same (t - length stage.early),
        pass_row (t - length stage.early) stage.kernel,
        In-append_right stage.kernel steps.kernel,
        in_map,
      ))
      (λ (v : length stage.early + passes ≤ t).
      subst (λ z. In z issued) (sym (instance_late schedule.interval stage passes t v
      ∙ ap (λ c. moved c (get_or stage.late (t - (length stage.early + passes)) stage.kernel))
      (cycles_same passes)))
      (late_row (get_or stage.late (t - (length stage.early + passes)) stage.kernel)
      (In-append_left (get_or stage.late (t - (length stage.early + passes)) stage.kernel)
      (flat_map (λ (s : Stage). s.late) schedule.stages) schedule.behind
      (In-flat_map (λ (s : Stage). s.late) (get_or stage.late (t - (length stage.early + passes)) stage.kernel) stage
      schedule.stages h
      (in_at stage.late (t - (length stage.early + passes)) stage.kernel (omega arith))))))
      (cases_lt t (length stage.early + passes)))
      (cases_lt t (length stage.early))

  work_row : (p : Placed) → In p work → In p issued
  work_row p h = elim (In-append_cases p schedule.before rest h) [
    | inl n ↦ grind (arith, early_row p, In-append_right p steps.early, In-append_left p schedule.before)
    | inr n ↦ by_kind (is.from p n)
  ]
    where
      by_kind : In p behind ⊎ IsInstance schedule passes p → In p issued
      by_kind (inl k) =
          let r = in_mapped (moved (cycles_in schedule.interval passes)) schedule.behind p k in
          grind (arith, cycles_same passes, late_row r.0, In-append_right r.0)
      by_kind (inr (stage, t, k, l, e)) = subst (λ z. In z issued) (sym e) (instance_row stage t k l)

  -- the instructions above the label, the control, and the work of the loop
  pub members : (p : Placed) → Contains issued p ↔ Contains (schedule.before ++ (control ++ rest)) p
  members p = (
    (λ h. Contains_from_In p (schedule.before ++ (control ++ rest)) (there (row_is p (In_from_Contains p issued h)))),
    (λ h. Contains_from_In p issued (row (In_from_Contains p (schedule.before ++ (control ++ rest)) h))),
  )
    where
      there : In p all → In p (schedule.before ++ (control ++ rest))
      there h = elim (In-append_cases p control work h) [
        | inl n ↦ In-append_right p schedule.before (control ++ rest) (In-append_left p control rest n)
        | inr n ↦ grind (
          arith,
          In-append_cases p schedule.before rest n,
          In-append_left p schedule.before,
          In-append_right p schedule.before,
          In-append_right p,
        )
      ]

      row : In p (schedule.before ++ (control ++ rest)) → In p issued
      row h = elim (In-append_cases p schedule.before (control ++ rest) h) [
        | inl n ↦ work_row p (In-append_left p schedule.before rest n)
        | inr n ↦ elim (In-append_cases p control rest n) [
          | inl k ↦ control_row p k
          | inr k ↦ work_row p (In-append_right p schedule.before rest k)
        ]
      ]
