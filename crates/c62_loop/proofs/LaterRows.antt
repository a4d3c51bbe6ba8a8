-- The rows of passes and epilog are those of the first pass, and of an epilog behind the prolog, so many cycles later.
use Rattle.std.proofs.Common.{◌≡◌, ℕ, zero, suc, ◌+◌, ◌<◌, List, [], ◌∷◌, ◌++◌, map, refl, ◌∙◌, ap, subst, ◌⊎◌}
use Rattle.std.proofs.Common.{inl, inr, arith}
use Rattle.std.proofs.lemmas.List.{map-append}
use Rattle.std.proofs.lemmas.Grind.{flat_map-append}
use Rattle.c62_packet.specs.declared.placed.Placed.{Placed}
use Rattle.c62_meaning.specs.Cut.{moved}
use Rattle.c62_meaning.proofs.Lookup.{In, In-append_left, In-append_right, In-append_cases}
use Rattle.c62_meaning.proofs.Instances.{in_map}
use Rattle.c62_flight.specs.Text.{Text, row_of}
use Rattle.c62_flight.specs.Issued.{issue_in, issued_in, issued_on}
use Rattle.c62_flight.specs.Laid.{straight}
use Rattle.c62_loop.specs.Loop.{Pipelined, kernel_row, epilog_row, prolog_cycles, interval, pass_start, passes_from}
use Rattle.c62_loop.specs.Loop.{visits_of}
use Rattle.c62_loop.specs.Stage.{cycles_in}
use Rattle.c62_loop.proofs.Lists.{in_mapped}
use Rattle.std.proofs.lemmas.Bool.Decides.{nat_tests}

-- ---- rows that begin later

module _ (text : Text) (k : ℕ) where
  insns_later : (start : ℕ) (ps : List Placed) → map (issue_in (k + start)) ps ≡ map (moved k) (map (issue_in start) ps)
  insns_later start [] = refl
  insns_later start (p ∷ ps) = ap (λ (qs : List Placed). issue_in (k + start) p ∷ qs) (insns_later start ps)

  pub rows_later : (row start count : ℕ)
      → issued_on text (straight text row (k + start) count) ≡ map (moved k)
      (issued_on text (straight text row start count))
  rows_later row start zero = refl
  rows_later row start (suc count) = grind (
    arith,
    nat_tests,
    rows_later (row + 1) (start + (row_of text row).idle + 1) count,
    insns_later,
    map-append,
  )

pub pass_at : (loop : Pipelined) (pass : ℕ) → pass_start loop pass ≡ cycles_in (interval loop) pass + prolog_cycles loop
pass_at loop zero = omega arith
pass_at loop (suc pass) = grind (arith, pass_at loop pass)

module _ (loop : Pipelined) where
  abbrev pub prolog_rows : List Placed
  prolog_rows = issued_on loop.text (straight loop.text loop.first 0 loop.prolog)

  abbrev pub kernel_rows : List Placed
  kernel_rows = issued_on loop.text (straight loop.text (kernel_row loop) (prolog_cycles loop) loop.kernel)

  abbrev pub epilog_rows : List Placed
  epilog_rows = issued_on loop.text (straight loop.text (epilog_row loop) (prolog_cycles loop) loop.epilog)

  one_pass : (pass : ℕ)
      → issued_on loop.text (straight loop.text (kernel_row loop) (pass_start loop pass) loop.kernel) ≡ map
      (moved (cycles_in (interval loop) pass)) kernel_rows
  one_pass pass = grind (arith, nat_tests, pass_at, rows_later)

  last_rows : (passes : ℕ)
      → issued_on loop.text (straight loop.text (epilog_row loop) (pass_start loop passes) loop.epilog) ≡ map
      (moved (cycles_in (interval loop) passes)) epilog_rows
  last_rows passes = grind (arith, nat_tests, pass_at, rows_later)

  -- what the passes issue
  from_passes : (pass count : ℕ) (p : Placed) → In p (issued_on loop.text (passes_from loop pass count))
      → (k : ℕ) × (k < count) × (q : Placed) × In q kernel_rows × (p ≡ moved (cycles_in (interval loop) (pass + k)) q)
  from_passes pass zero p h = absurd h
  from_passes pass (suc count) p h =
      elim (In-append_cases p
      (issued_on loop.text (straight loop.text (kernel_row loop) (pass_start loop pass) loop.kernel))
      (issued_on loop.text (passes_from loop (suc pass) count))
      (subst (λ ps. In p ps)
      (flat_map-append (issued_in loop.text)
      (straight loop.text (kernel_row loop) (pass_start loop pass) loop.kernel)
      (passes_from loop (suc pass) count)) h)) [
        | inl m ↦ (let r = in_mapped (moved (cycles_in (interval loop) pass)) kernel_rows p
            (subst (λ ps. In p ps) (one_pass pass) m) in
            let e : pass ≡ pass + 0 = omega arith in (
              0,
              omega arith,
              r.0,
              r.1,
              r.2
                  ∙ ap (λ n. moved (cycles_in (interval loop) n) r.0) e,
            ))
        | inr m ↦ (let r = from_passes (suc pass) count p m in
            let l : r.0 < count = r.1 in
            let e : suc pass + r.0 ≡ pass + suc r.0 = omega arith in (
              suc r.0,
              omega arith,
              r.2,
              r.3,
              r.4
                  ∙ ap (λ n. moved (cycles_in (interval loop) n) r.2) e,
            ))
      ]

  to_passes : (pass count k : ℕ) (q : Placed) → k < count → In q kernel_rows
      → In (moved (cycles_in (interval loop) (pass + k)) q) (issued_on loop.text (passes_from loop pass count))
  to_passes pass zero k q l h = absurd (omega arith)
  to_passes pass (suc count) zero q l h = grind (arith, nat_tests, flat_map-append, In-append_left, one_pass, in_map)
  to_passes pass (suc count) (suc k) q l h = grind (
    arith,
    nat_tests,
    to_passes (suc pass) count k q,
    flat_map-append,
    In-append_right,
  )

  module _ (passes : ℕ) where
    abbrev behind_rows : List Placed
    behind_rows = map (moved (cycles_in (interval loop) passes)) epilog_rows

    visits_are : issued_on loop.text (visits_of loop passes) ≡ prolog_rows ++
        (issued_on loop.text (passes_from loop 0 passes) ++ behind_rows)
    visits_are = grind (arith, nat_tests, flat_map-append, last_rows)

    -- a row is one of the prolog, of a pass, or of the epilog
    pub from_rows : (p : Placed) → In p (issued_on loop.text (visits_of loop passes))
        → In p prolog_rows ⊎ (((k : ℕ) × (k < passes) × (q : Placed) × In q kernel_rows
        × (p ≡ moved (cycles_in (interval loop) k) q))
        ⊎ ((q : Placed) × In q epilog_rows × (p ≡ moved (cycles_in (interval loop) passes) q)))
    from_rows p h =
        elim (In-append_cases p prolog_rows (issued_on loop.text (passes_from loop 0 passes) ++ behind_rows)
        (subst (λ ps. In p ps) visits_are h)) [
          | inl m ↦ inl m
          | inr m ↦ elim (In-append_cases p (issued_on loop.text (passes_from loop 0 passes)) behind_rows m) [
            | inl n ↦ (let r = from_passes 0 passes p n in
                let e : 0 + r.0 ≡ r.0 = omega arith in inr (inl (
                  r.0,
                  r.1,
                  r.2,
                  r.3,
                  r.4
                      ∙ ap (λ n. moved (cycles_in (interval loop) n) r.2) e,
                )))
            | inr n ↦ inr (inr (in_mapped (moved (cycles_in (interval loop) passes)) epilog_rows p n))
          ]
        ]

    pub prolog_there : (p : Placed) → In p prolog_rows → In p (issued_on loop.text (visits_of loop passes))
    prolog_there p h = grind (arith, visits_are, In-append_left p)

    pub pass_there : (k : ℕ) (q : Placed) → k < passes → In q kernel_rows
        → In (moved (cycles_in (interval loop) k) q) (issued_on loop.text (visits_of loop passes))
    pass_there k q l h = grind (
      arith,
      visits_are,
      In-append_right (moved (cycles_in (interval loop) k) q),
      In-append_left (moved (cycles_in (interval loop) k) q) (issued_on loop.text (passes_from loop 0 passes)),
      to_passes 0 passes k q l h,
    )

    pub epilog_there : (q : Placed) → In q epilog_rows
        → In (moved (cycles_in (interval loop) passes) q) (issued_on loop.text (visits_of loop passes))
    epilog_there q h = grind (arith, nat_tests, visits_are, In-append_right, in_map)
