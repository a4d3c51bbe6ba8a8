-- What a pass takes of a share, its cycles have.
use Rattle.std.proofs.Common.{arith, true, ◌≡◌, ℕ, suc, ◌+◌, ◌*◌, ◌<◌}
use Rattle.std.proofs.Common.{◌≤◌}
use Rattle.std.proofs.Common.{List, [], ◌∷◌, length, map, Option, Some, None, refl, sym, ap, ◌∙◌, subst, inl, inr}
use Rattle.std.specs.Prelude.{All, sum_by, count_by}
use Rattle.std.proofs.lemmas.Bool.{cases_Bool, and_parts, false≢true}
use Rattle.std.proofs.lemmas.List.Sums.{sum_by-cons}
use Rattle.c62_op.specs.declared.register.Side.{Side}
use Rattle.c62_op.specs.declared.register.Reg.{Reg}
use Rattle.c62_op.specs.declared.register.Unit.{Unit as FunctionalUnit}
use Rattle.c62_op.specs.Shape.{side_of, crosses_to, data_path_of, reads_of}
use Rattle.c62_op.specs.Takes.{takes, same_reg}
use Rattle.c62_op.proofs.Registers.{same_side-is}
use Rattle.c62_op.proofs.SideLemmas.{takes_on_side}
use Rattle.c62_insn.specs.declared.insn.Insn.{Insn}
use Rattle.c62_insn.specs.declared.unit_set.UnitSet.{UnitSet}
use Rattle.c62_insn.specs.Insn.{IsSameInsn, op_of, operands_of, reads_count}
use Rattle.c62_rules.specs.declared.resource.Resource.{Resource}
use Rattle.c62_rules.specs.declared.resource.Resource.TheVariants.{CrossPath as OnCrossPath, DataPath as OnDataPath}
use Rattle.c62_rules.specs.declared.resource.Resource.TheVariants.{ReadsOf}
use Rattle.c62_rules.specs.Resource.{capacity_of}
use Rattle.c62_rules.specs.Capacity.{uses, uses_in, used}
use Rattle.c62_rules.proofs.Users.{cross-user, data-user, counts-here}
use Rattle.c62_rules.proofs.ResourceUses.{uses-reads}
use Rattle.c62_read.specs.declared.block.SerialInsn.{SerialInsn}
use Rattle.c62_packet.specs.declared.placed.Placed.{Placed}
use Rattle.c62_packet.specs.Packed.{issue_of, issued}
use Rattle.c62_meaning.specs.Laws.{StandsAs}
use Rattle.c62_meaning.proofs.Lookup.{In}
use Rattle.c62_flight.specs.Text.{row_of, no_row}
use Rattle.c62_flight.specs.Issued.{issue_in}
use Rattle.c62_rows.specs.Rows.{IsRow}
use Rattle.c62_loop.specs.Counter.{work_of}
use Rattle.c62_flight.specs.Laid.{straight}
use Rattle.c62_loop.specs.Loop.{Region, Pipelined, IsCountedLoop, IsPipelined, interval, kernel_row, prolog_cycles}
use Rattle.c62_loop.specs.Stage.{Stage}
use Rattle.c62_loop.specs.Whole.{AreStagesOf, insns_in, IsPipelining}
use Rattle.c62_loop.proofs.LaterRows.{kernel_rows}
use Rattle.c62_loop_match.specs.declared.promise.Promise.{Promise}
use Rattle.c62_loop_match.specs.Promise.{promises}
use Rattle.c62_loop_bound.specs.declared.share.Share.{Share}
use Rattle.c62_loop_bound.specs.declared.share.Share.TheVariants.{Units, CrossPath, DataPath, Reads}
use Rattle.c62_loop_bound.specs.Share.{Takers, takers_of, takers_of_branch, takers_of_step, are_within}
use Rattle.c62_loop_bound.specs.Share.{is_side}
use Rattle.c62_loop_bound.specs.Share.{crosses_on, goes_over, width_of, taken_of}
use Rattle.c62_loop_bound.specs.Least.{body_of}
use Rattle.c62_loop_bound.proofs.Sums.{sum_once, sum_mapped}
use Rattle.c62_loop_bound.proofs.OnUnits.{one, one_less, within_stands, on_units, row_units}
use Rattle.c62_loop_bound.proofs.Rows.{pass_holds}
use Rattle.c62_loop_bound.proofs.Kernel.{issued_takes, picks, picks_issued, picks_once, kernels, branch, step}
use Rattle.c62_loop_bound.proofs.Control.{branch_takers, step_takers}

-- ---- resources

abbrev taken_on : Resource → Placed → ℕ
taken_on r p = uses r p.insn p.unit

-- a row takes no more of a resource than there is
row_takes : (r : Resource) (ps : List Placed) → All (λ (p : Placed). p.cycle ≡ 0) ps
    → sum_by (taken_on r) ps ≡ used r 0 (issued ps)
row_takes r [] at = refl
row_takes r (p ∷ ps) at =
    let here : uses_in 0 r (Some (issue_of p)) ≡ uses r p.insn p.unit = counts-here r 0 (issue_of p)
    (at 0 p (omega arith)) in
    omega (
      arith,
      here,
      row_takes r ps (λ k d l. at (suc k) d (omega (arith, l))),
      sum_by-cons (taken_on r) p ps,
      sum_by-cons (uses_in 0 r) (Some (issue_of p)) (issued ps),
    )

-- ---- a pass

-- one for one what stands for the work
stages_sum : (most : ℕ) (entries : List SerialInsn) (stages : List Stage) (h : Insn → ℕ) (f : Placed → ℕ)
    → AreStagesOf most entries stages
    → ((entry : SerialInsn) (p : Placed) → StandsAs entry p → In p (map (λ (s : Stage). s.kernel) stages)
    → h entry.insn ≤ f p)
    → sum_by h (insns_in entries) ≤ sum_by f (map (λ (s : Stage). s.kernel) stages)
stages_sum most [] [] h f are less = omega arith
stages_sum most [] (s ∷ stages) h f are less = absurd are
stages_sum most (e ∷ entries) [] h f are less = absurd are
stages_sum most (e ∷ entries) (s ∷ stages) h f are less =
    let here : h e.insn ≤ f s.kernel = less e s.kernel are.0.kernel (inl refl) in
    let rest : sum_by h (insns_in entries) ≤ sum_by f (map (λ (s : Stage). s.kernel) stages)
    = stages_sum most entries stages h f are.1 (λ entry p stands member. less entry p stands (inr member)) in
    omega (
      arith,
      here,
      rest,
      sum_by-cons h e.insn (insns_in entries),
      sum_by-cons f s.kernel
          (map (λ (s : Stage). s.kernel) stages),
    )

same_takes : (first second : Insn) (unit : FunctionalUnit) → IsSameInsn first second
    → takes (op_of second) (operands_of second) unit ≡ true → takes (op_of first) (operands_of first) unit ≡ true
same_takes first second unit same taking =
    subst (λ op. takes op (operands_of first) unit ≡ true) (sym same.op)
    (subst (λ operands. takes (op_of second) operands unit ≡ true) (sym same.operands) taking)

same_reads : (reg : Reg) (first second : Insn) → IsSameInsn first second
    → reads_count reg first ≡ reads_count reg second
same_reads reg first second same =
    ap (λ op. count_by (λ read. same_reg read reg) (reads_of op (operands_of first))) same.op
    ∙ ap (λ operands. count_by (λ read. same_reg read reg) (reads_of (op_of second) operands)) same.operands

on_this_side : (side : Side) (o : Option Side) → is_side side o ≡ true → o ≡ Some side
on_this_side side None h = absurd (false≢true h)
on_this_side side (Some other) h = ap Some (same_side-is other side h)

module _ (promise : Promise) (region : Region) (counted : IsCountedLoop region) (loop : Pipelined) (most : ℕ)
    (m : IsPipelining (promises promise) region loop most) (stands : IsPipelined loop)
    (rows : All IsRow loop.text.rows) where
  abbrev counter : Reg
  counter = region.counter

  abbrev body : List Insn
  body = body_of region

  abbrev chosen : List Placed
  chosen = picks promise region counted loop most m

  abbrev worked : List Placed
  worked = kernels promise region counted loop most m

  takes_there : (p : Placed) → In p chosen → takes (op_of p.insn) (operands_of p.insn) p.unit ≡ true
  takes_there p h = issued_takes loop.text rows (straight loop.text (kernel_row loop) (prolog_cycles loop) loop.kernel)
      p (picks_issued promise region counted loop most m p h)

  -- the row of a number is one that a text of packets may have, or there is none
  by_row : (f : Placed → ℕ) (width : ℕ)
      → ((ps : List Placed) → IsRow (record { insns = ps; idle = 0 }) → sum_by f ps ≤ width)
      → (number : ℕ) → number < length loop.text.rows → sum_by f (row_of loop.text number).insns ≤ width
  by_row f width each number l =
      let row = rows number no_row l in
      each (row_of loop.text number).insns
      (record { units = row.units; cycles = row.cycles; enough = row.enough; in_order = row.in_order; few = row.few })

  -- what is chosen comes to no more than the cycles of a pass hold
  chosen_fit : (f : Placed → ℕ) (width : ℕ) → ((cycle : ℕ) (p : Placed) → f (issue_in cycle p) ≡ f p)
      → ((ps : List Placed) → IsRow (record { insns = ps; idle = 0 }) → sum_by f ps ≤ width)
      → sum_by f chosen ≤ width * interval loop
  chosen_fit f width same each =
      let held : sum_by f (kernel_rows loop) ≤ width * interval loop = pass_holds loop f width same stands.rows
      (by_row f width each) in
      let some : sum_by f chosen ≤ sum_by f (kernel_rows loop) = sum_once f chosen (kernel_rows loop)
      (picks_once promise region counted loop most m) (picks_issued promise region counted loop most m) in
      omega (arith, held, some)

  -- of the work, what each takes at least
  work_sum : (h : Insn → ℕ) (f : Placed → ℕ) → ((insn : Insn) (p : Placed) → IsSameInsn insn p.insn
      → takes (op_of insn) (operands_of insn) p.unit ≡ true → h insn ≤ f p) → sum_by h body ≤ sum_by f worked
  work_sum h f less =
      stages_sum most (work_of region.counter region.body) m.schedule.stages h f m.body
      (λ entry p same member. less entry.insn p same.insn
      (same_takes entry.insn p.insn p.unit same.insn (takes_there p (inr (inr member)))))

  worked_fit : (h : Insn → ℕ) (f : Placed → ℕ) (width : ℕ) → ((cycle : ℕ) (p : Placed) → f (issue_in cycle p) ≡ f p)
      → ((ps : List Placed) → IsRow (record { insns = ps; idle = 0 }) → sum_by f ps ≤ width)
      → ((insn : Insn) (p : Placed) → IsSameInsn insn p.insn → takes (op_of insn) (operands_of insn) p.unit ≡ true
      → h insn ≤ f p)
      → sum_by h body ≤ width * interval loop
  worked_fit h f width same each less =
      let fits : sum_by f chosen ≤ width * interval loop = chosen_fit f width same each in
      let part : sum_by h body ≤ sum_by f worked = work_sum h f less in
      omega (
        arith,
        fits,
        part,
        sum_by-cons f (branch promise region counted loop most m).placed
            ((step promise region counted loop most m).placed ∷ worked),
        sum_by-cons f
            (step promise region counted loop most m).placed worked,
      )

  units_fit : (set : UnitSet) → taken_of counter body (Units set) ≤ width_of (Units set) * interval loop
  units_fit set =
      let b = branch promise region counted loop most m in
      let s = step promise region counted loop most m in
      let fits : sum_by (on_units set) chosen ≤ width_of (Units set) * interval loop = chosen_fit (on_units set)
      (width_of (Units set)) (λ cycle p. refl) (row_units set) in
      let of_branch : one (are_within set takers_of_branch) ≤ on_units set b.placed
      = one_less _ _ (λ h. within_stands set takers_of_branch b.placed.unit h
      (branch_takers counter loop.label b.placed b.control b.is (takes_there b.placed (inl refl)))) in
      let of_step : one (are_within set (takers_of_step counter)) ≤ on_units set s.placed
      = one_less _ _ (λ h. within_stands set (takers_of_step counter) s.placed.unit h
      (step_takers counter loop.label s.placed s.control s.is (takes_there s.placed (inr (inl refl))))) in
      let of_work : sum_by (λ insn. one (are_within set (takers_of insn))) body ≤ sum_by (on_units set) worked
      = work_sum (λ insn. one (are_within set (takers_of insn))) (on_units set)
      (λ insn p same taking. one_less _ _ (λ h. within_stands set (takers_of insn) p.unit h taking)) in
      let test : Takers → ℕ = λ takers. one (are_within set takers) in
      let mapped : sum_by test (map takers_of body) ≡ sum_by (λ insn. one (are_within set (takers_of insn))) body
      = sum_mapped test takers_of body in
      let first : taken_of counter body (Units set) ≡ test takers_of_branch + sum_by test
      (takers_of_step counter ∷ map takers_of body)
      = sum_by-cons test takers_of_branch (takers_of_step counter ∷ map takers_of body) in
      let next : sum_by test (takers_of_step counter ∷ map takers_of body) ≡ test (takers_of_step counter) + sum_by test
      (map takers_of body)
      = sum_by-cons test (takers_of_step counter) (map takers_of body) in
      omega (
        arith,
        fits,
        of_branch,
        of_step,
        of_work,
        mapped,
        first,
        next,
        sum_by-cons (on_units set) b.placed
            (s.placed ∷ worked),
        sum_by-cons (on_units set) s.placed worked,
      )

  row_has : (r : Resource) (ps : List Placed) → IsRow (record { insns = ps; idle = 0 })
      → sum_by (taken_on r) ps ≤ capacity_of r
  row_has r ps row = let few : used r 0 (issued ps) ≤ capacity_of r = row.enough r in
      omega (arith, few, row_takes r ps row.cycles)

  cross_fit : (side : Side) → taken_of counter body (CrossPath side) ≤ width_of (CrossPath side) * interval loop
  cross_fit side =
      worked_fit (λ insn. one (crosses_on side insn)) (taken_on (OnCrossPath side)) 1 (λ cycle p. refl)
      (row_has (OnCrossPath side)) less
    where
      less : (insn : Insn) (p : Placed) → IsSameInsn insn p.insn → takes (op_of insn) (operands_of insn) p.unit ≡ true
          → one (crosses_on side insn) ≤ taken_on (OnCrossPath side) p
      less insn p same taking =
          elim (cases_Bool (crosses_on side insn)) [
            | inl t ↦
                (let both = and_parts (is_side side (side_of (operands_of insn))) (crosses_to side (operands_of insn)) t
                in
                let stands : p.unit.side ≡ side = takes_on_side (op_of insn) (operands_of insn) p.unit side
                (on_this_side side (side_of (operands_of insn)) both.0) taking in
                let crosses : crosses_to p.unit.side (operands_of p.insn) ≡ true = ap
                (λ s. crosses_to s (operands_of p.insn)) stands
                ∙ ap (crosses_to side) (sym same.operands) ∙ both.1 in
                let taken : 1 ≤ taken_on (OnCrossPath side) p = (cross-user side).one (issue_of p) (stands, crosses) in
                let once : one (crosses_on side insn) ≡ 1 = ap one t in
                omega (arith, taken, once))
            | inr f ↦ (let none : one (crosses_on side insn) ≡ 0 = ap one f in omega (arith, none))
          ]

  data_fit : (side : Side) → taken_of counter body (DataPath side) ≤ width_of (DataPath side) * interval loop
  data_fit side =
      worked_fit (λ insn. one (goes_over side insn)) (taken_on (OnDataPath side)) 1 (λ cycle p. refl)
      (row_has (OnDataPath side)) less
    where
      less : (insn : Insn) (p : Placed) → IsSameInsn insn p.insn → takes (op_of insn) (operands_of insn) p.unit ≡ true
          → one (goes_over side insn) ≤ taken_on (OnDataPath side) p
      less insn p same taking =
          elim (cases_Bool (goes_over side insn)) [
            | inl t ↦
                (let path : data_path_of (operands_of p.insn) ≡ Some side = ap data_path_of (sym same.operands)
                ∙ on_this_side side (data_path_of (operands_of insn)) t in
                let taken : 1 ≤ taken_on (OnDataPath side) p = (data-user side).one (issue_of p) path in
                let once : one (goes_over side insn) ≡ 1 = ap one t in
                omega (arith, taken, once))
            | inr f ↦ (let none : one (goes_over side insn) ≡ 0 = ap one f in omega (arith, none))
          ]

  reads_fit : (reg : Reg) → taken_of counter body (Reads reg) ≤ width_of (Reads reg) * interval loop
  reads_fit reg =
      worked_fit (reads_count reg) (taken_on (ReadsOf reg)) 4 (λ cycle p. refl) (row_has (ReadsOf reg))
      (λ insn p same taking. (let a : reads_count reg insn ≡ reads_count reg p.insn = same_reads reg insn p.insn
      same in omega (arith, a, uses-reads reg p.insn p.unit)))

  -- so much of each share a pass has
  pub share_fits : (share : Share) → taken_of counter body share ≤ width_of share * interval loop
  share_fits (Units set) = units_fit set
  share_fits (CrossPath side) = cross_fit side
  share_fits (DataPath side) = data_fit side
  share_fits (Reads reg) = reads_fit reg
