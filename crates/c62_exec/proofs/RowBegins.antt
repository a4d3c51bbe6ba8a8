-- A row begins behind what is in flight.
use Rattle.std.proofs.Common.{◌≡◌, ℕ, zero, suc, ◌+◌, ◌*◌, ◌%◌, ◌<◌, ◌≤◌, Bool, true, false, cond, eqb, List, [], ◌∷◌}
use Rattle.std.proofs.Common.{◌++◌, length, length-append, map, get_or, set, take, drop, Option, Some, None, refl, sym}
use Rattle.std.proofs.Common.{◌∙◌, ap, subst, ⊎_elim, inl, inr, arith}
use Rattle.std.specs.Prelude.{is_some, fold, filter, slice_index}
use Rattle.std.specs.List.Sorted.{IsStrictlyIncreasing}
use Rattle.std.specs.Option.{option_or}
use Rattle.std.proofs.Math.Seq.{drop-append_seam}
use Rattle.std.proofs.lemmas.Bool.{cases_eq, and_left, cond-false, ne_eqb}
use Rattle.std.proofs.lemmas.List.{length-map, length-set, get_or-set_other}
use Rattle.std.proofs.lemmas.List.Kept.{AllPairs-from_increasing}
use Rattle.std.proofs.lemmas.Grind.{get_or-set_at}
use Rattle.c62_op.specs.Units.{index_of as unit_index}
use Rattle.c62_insn.specs.declared.effect.Target.{Target}
use Rattle.c62_serial.specs.State.{Machine}
use Rattle.c62_packet.specs.declared.placed.Placed.{Placed}
use Rattle.c62_packet.specs.Packed.{listing_position}
use Rattle.c62_meaning.specs.Packet.{Did}
use Rattle.c62_meaning.proofs.Lookup.{In, In-append_cases, Contains_from_In}
use Rattle.c62_meaning.proofs.CutWords.{from_map}
use Rattle.c62_meaning.proofs.Runs.{the_run}
use Rattle.c62_pipe.specs.Flight.{Flight, due}
use Rattle.c62_pipe.proofs.Order.{Ascends}
use Rattle.c62_pipe.proofs.Flying.{Flying, position_of}
use Rattle.c62_flight.specs.declared.stop.Stop.{Stop}
use Rattle.c62_flight.specs.declared.stop.Stop.TheVariants.{Branches}
use Rattle.c62_flight.specs.Issued.{Issued, issue_in, first_of, goes_in, turn}
use Rattle.c62_flight.specs.Broken.{has_branched, two_branches, clash, broken, IsWholeBefore}
use Rattle.c62_flight.proofs.Lists.{first_of-none, first_of-behind, filter-none, filter-behind}
use Rattle.c62_flight.proofs.Fronts.{Late, Early, turn_same, broken_same}
use Rattle.c62_exec.specs.declared.taken.Taken.{Taken}
use Rattle.c62_exec.specs.declared.taken.Taken.TheVariants.{Nothing, One, Two}
use Rattle.c62_exec.specs.declared.underway.Passed.{Passed}
use Rattle.c62_exec.specs.Step.{Way, Gone, Issuing, issuing, issue_all, Fit, on_way, clash_in, breach, with_turn}
use Rattle.c62_exec.specs.Step.{ended_cycle, row_goes, rest_of_row, row_passes}
use Rattle.c62_exec.proofs.Extended.{alone, alike, extended}
use Rattle.c62_exec.proofs.Issues.{taken_by, AllIssued, all_issued}
use Rattle.c62_exec.proofs.Branching.{Tells, taken_tells}
use Rattle.c62_exec.proofs.Clashes.{clash_of_run}
use Rattle.c62_exec.proofs.InRow.{InRow, Went, row_went, breaks_here, slot_of_all}

-- ---- instructions in the order of units

ascends_both : (xs ys : List Placed) → Ascends xs → Ascends ys
    → ((p q : Placed) → In p xs → In q ys → listing_position p < listing_position q) → Ascends (xs ++ ys)
ascends_both [] ys a b across = b
ascends_both (x ∷ xs) ys a b across = (
  (λ q h. elim (In-append_cases q xs ys h) [ inl k ↦ a.0 q k | inr k ↦ across x q (inl refl) k ]),
  ascends_both xs ys a.1 b (λ p q h k. across p q (inr h) k),
)

unit_in : (q : Placed) (ps : List Placed) → In q ps
    → In (unit_index q.unit) (map (λ (p : Placed). unit_index p.unit) ps)
unit_in q [] h = absurd h
unit_in q (p ∷ ps) (inl e) = inl (ap (λ (r : Placed). unit_index r.unit) e)
unit_in q (p ∷ ps) (inr h) = inr (unit_in q ps h)

below_all : (x : ℕ) (xs : List ℕ) (y : ℕ) → IsStrictlyIncreasing (x ∷ xs) → In y xs → x < y
below_all x xs y rises h =
    let at = Contains_from_In y xs h in
    subst (λ n. x < n) at.2 (AllPairs-from_increasing (x ∷ xs) rises 0 (suc at.0) y (omega arith) (omega (arith, at.1)))

tail_rises : (x : ℕ) (xs : List ℕ) → IsStrictlyIncreasing (x ∷ xs) → IsStrictlyIncreasing xs
tail_rises x xs rises k l =
    subst (λ n. get_or (x ∷ xs) (suc k) 0 < get_or (x ∷ xs) n 0) (let e : suc k + 1 ≡ suc (k + 1) = omega arith in e)
    (rises (suc k) (omega arith))

pub row_ascends : (cycle : ℕ) (ps : List Placed) → IsStrictlyIncreasing (map (λ (p : Placed). unit_index p.unit) ps)
    → Ascends (map (issue_in cycle) ps)
row_ascends cycle [] rises = tt
row_ascends cycle (p ∷ ps) rises = (
  (λ q h.
      let x = from_map (issue_in cycle) q ps h in
      let l : unit_index p.unit < unit_index x.0.unit = below_all (unit_index p.unit)
      (map (λ (p : Placed). unit_index p.unit) ps) (unit_index x.0.unit) rises (unit_in x.0 ps x.1) in
      subst (λ (r : Placed). listing_position (issue_in cycle p) < listing_position r) x.2 (omega arith)),
  row_ascends cycle ps (tail_rises (unit_index p.unit) (map (λ (p : Placed). unit_index p.unit) ps) rises),
)

pub row_in : (cycle : ℕ) (ps : List Placed) (p : Placed) → In p (map (issue_in cycle) ps) → p.cycle ≡ cycle
row_in cycle ps p h = let x = from_map (issue_in cycle) p ps h in ap (λ (r : Placed). r.cycle) (sym x.2)

-- ---- before a row

-- Before a cycle in which nothing is issued yet: what is in flight is of what was.
pub record Standing (block : List Placed) (opening : Machine) (cycle : ℕ) (way : Way) : Type 0 where
  pub row : InRow block opening cycle (8 * cycle) way
  pub early : Early cycle block
  pub ascends : Ascends block

module _ (block : List Placed) (opening : Machine) (cycle : ℕ) (way : Way) (insns : List Placed)
    (standing : Standing block opening cycle way)
    (rises : IsStrictlyIncreasing (map (λ (p : Placed). unit_index p.unit) insns)) where
  late : Late cycle (map (issue_in cycle) insns)
  late p h = let e : p.cycle ≡ cycle = row_in cycle insns p h in omega arith

  pub both_ascend : Ascends (block ++ map (issue_in cycle) insns)
  both_ascend =
      ascends_both block (map (issue_in cycle) insns) standing.ascends (row_ascends cycle insns rises) (λ p q h k.
      let e : q.cycle ≡ cycle = row_in cycle insns q k in
      let u : p.cycle < cycle = standing.early p h in
      let a : listing_position p < 8 * p.cycle + 8 = (position_of p).1 in
      let b : 8 * q.cycle ≤ listing_position q = (position_of q).0 in omega arith)

  -- the row's instructions are issued
  pub all_of_row : AllIssued (block ++ map (issue_in cycle) insns) opening cycle both_ascend insns (length block)
      (issuing way.flight way.machine Nothing)
  all_of_row =
      all_issued (block ++ map (issue_in cycle) insns) opening cycle both_ascend insns (length block) (8 * cycle)
      (issuing way.flight way.machine Nothing)
      (extended opening cycle block (map (issue_in cycle) insns) standing.early late way.flight way.machine
      standing.row.flying)
      (drop-append_seam block (map (issue_in cycle) insns))

  abbrev after : Issuing
  after = issue_all cycle (issuing way.flight way.machine Nothing) insns

  flying : Flying (block ++ map (issue_in cycle) insns) opening cycle (length (block ++ map (issue_in cycle) insns))
      all_of_row.upto after.flight after.machine
  flying =
      subst (λ n. Flying (block ++ map (issue_in cycle) insns) opening cycle n all_of_row.upto after.flight
      after.machine)
      (sym (length-append block (map (issue_in cycle) insns)
      ∙ ap (λ n. length block + n) (length-map insns (issue_in cycle)))) all_of_row.flying

  tells : Tells (the_run (block ++ map (issue_in cycle) insns) opening) cycle after.taken (map (issue_in cycle) insns)
  tells =
      subst (λ taken. Tells (the_run (block ++ map (issue_in cycle) insns) opening) cycle taken
      (map (issue_in cycle) insns)) (sym all_of_row.taken)
      (taken_tells (the_run (block ++ map (issue_in cycle) insns) opening) cycle (map (issue_in cycle) insns)
      (λ p h. row_in cycle insns p h))

  -- what breaks the cycle: of the branches those of the row alone count
  broken_is : broken (alone opening (block ++ map (issue_in cycle) insns)) cycle
      ≡ option_or (two_branches
      (filter (has_branched (the_run (block ++ map (issue_in cycle) insns) opening) cycle)
      (map (issue_in cycle) insns))) (clash_in (due after.flight.slots cycle))
  broken_is =
      ap (λ fs. option_or (two_branches fs)
      (clash (the_run (block ++ map (issue_in cycle) insns) opening) cycle
      (block ++ map (issue_in cycle) insns)))
      (filter-behind (has_branched (the_run (block ++ map (issue_in cycle) insns) opening) cycle) block
      (map (issue_in cycle) insns)
      (λ p h. and_left _ _ (ne_eqb _ _
      (λ (e : p.cycle ≡ cycle). let u : p.cycle < cycle = standing.early p h in omega arith))))
      ∙ ap (λ o. option_or (two_branches
      (filter (has_branched (the_run (block ++ map (issue_in cycle) insns) opening) cycle)
      (map (issue_in cycle) insns))) o)
      (clash_of_run (block ++ map (issue_in cycle) insns) opening cycle
      ∙ ap clash_in (sym (slot_of_all (block ++ map (issue_in cycle) insns) opening both_ascend cycle all_of_row.upto
      cycle after.flight after.machine flying (omega arith) (omega arith))))

  -- a branch takes effect sooner as if the row had not begun
  turn_sooner : (t : ℕ) → t < cycle + 6
      → turn (alone opening block) t ≡ turn (alone opening (block ++ map (issue_in cycle) insns)) t
  turn_sooner t l =
      turn_same cycle t (alone opening block) (alone opening (block ++ map (issue_in cycle) insns))
      (alike opening cycle block (map (issue_in cycle) insns) standing.early late) l

  -- six cycles on, only one of the row does
  turn_of_row : turn (alone opening (block ++ map (issue_in cycle) insns)) (cycle + 6) ≡ first_of
      (goes_in (the_run (block ++ map (issue_in cycle) insns) opening) (cycle + 6)) (map (issue_in cycle) insns)
  turn_of_row =
      first_of-behind (goes_in (the_run (block ++ map (issue_in cycle) insns) opening) (cycle + 6)) block
      (map (issue_in cycle) insns)
      (λ p h. cond-false _ _ _
      (ne_eqb _ _ (λ (e : p.cycle + 6 ≡ cycle + 6). let u : p.cycle < cycle = standing.early p h in omega
      arith)))

  no_turn_yet : get_or way.turns ((cycle + 6) % 6) None ≡ None
  no_turn_yet =
      standing.row.turns (cycle + 6) (omega arith) (omega arith)
      ∙ first_of-none (goes_in (the_run block opening) (cycle + 6)) block
      (λ p h. cond-false _ _ _
      (ne_eqb _ _ (λ (e : p.cycle + 6 ≡ cycle + 6). let u : p.cycle < cycle = standing.early p h in omega
      arith)))

  in_row : (turns : List (Option Target)) → length turns ≡ 6
      → ((t : ℕ) → cycle < t → t ≤ cycle + 6
      → get_or turns (t % 6) None ≡ turn (alone opening (block ++ map (issue_in cycle) insns)) t)
      → InRow (block ++ map (issue_in cycle) insns) opening cycle all_of_row.upto
      (on_way after.flight turns after.machine)
  in_row turns size is = record { flying = flying; size = size; turns = is }

  whole_too : IsWholeBefore (alone opening block) cycle
      → IsWholeBefore (alone opening (block ++ map (issue_in cycle) insns)) cycle
  whole_too whole c l =
      sym (broken_same cycle c (alone opening block) (alone opening (block ++ map (issue_in cycle) insns))
      (alike opening cycle block (map (issue_in cycle) insns) standing.early late) l)
      ∙ whole c l

  abbrev GoesOn : ℕ → Gone → Type 0
  GoesOn idle g = Went (block ++ map (issue_in cycle) insns) opening cycle idle g.passed g.way

  goes_by : (idle : ℕ) → IsWholeBefore (alone opening block) cycle → (taken : Taken) → after.taken ≡ taken
      → Tells (the_run (block ++ map (issue_in cycle) insns) opening) cycle taken (map (issue_in cycle) insns)
      → GoesOn idle (row_goes (breach taken (due after.flight.slots cycle)) idle cycle
      (on_way after.flight (with_turn cycle taken way.turns) after.machine))
  goes_by idle whole Nothing e t =
      row_went (block ++ map (issue_in cycle) insns) opening both_ascend (clash_in (due after.flight.slots cycle)) idle
      cycle all_of_row.upto
      (on_way after.flight way.turns after.machine)
      (in_row way.turns standing.row.size (λ u from to.
      ⊎_elim {C = get_or way.turns (u % 6) None ≡ turn (alone opening (block ++ map (issue_in cycle) insns)) u}
      (λ s. ap (λ n. get_or way.turns (n % 6) None) s ∙ no_turn_yet ∙ sym (turn_of_row ∙ t.1)
      ∙ ap (λ n. turn (alone opening (block ++ map (issue_in cycle) insns)) n) (sym s))
      (λ ne. standing.row.turns u from to ∙ turn_sooner u (omega arith)) (cases_eq u (cycle + 6))))
      (whole_too whole) (broken_is ∙ ap (λ o. option_or o (clash_in (due after.flight.slots cycle))) t.0)
  goes_by idle whole (One target line) e t =
      row_went (block ++ map (issue_in cycle) insns) opening both_ascend (clash_in (due after.flight.slots cycle)) idle
      cycle all_of_row.upto
      (on_way after.flight (set way.turns (cycle % 6) (Some target)) after.machine)
      (in_row (set way.turns (cycle % 6) (Some target)) (length-set way.turns (cycle % 6) (Some target)
      ∙ standing.row.size) (λ u from to.
      ⊎_elim {C = get_or (set way.turns (cycle % 6) (Some target)) (u % 6) None ≡ turn
      (alone opening (block ++ map (issue_in cycle) insns)) u}
      (λ s. get_or-set_at way.turns (cycle % 6) (u % 6) (Some target) None (omega arith)
      (let z : length way.turns ≡ 6 = standing.row.size in let b : cycle % 6 < 6 = omega arith in omega arith)
      ∙ sym (turn_of_row ∙ t.1) ∙ ap (λ n. turn (alone opening (block ++ map (issue_in cycle) insns)) n) (sym s))
      (λ ne. get_or-set_other way.turns (cycle % 6) (u % 6) (Some target) None (λ same. ne (omega arith))
      ∙ standing.row.turns u from to ∙ turn_sooner u (omega arith))
      (cases_eq u (cycle + 6))))
      (whole_too whole) (broken_is ∙ ap (λ o. option_or o (clash_in (due after.flight.slots cycle))) t.0)
  goes_by idle whole (Two first second) e t =
      breaks_here (block ++ map (issue_in cycle) insns) opening both_ascend cycle all_of_row.upto idle
      (Branches first second) (on_way after.flight way.turns after.machine) flying
      (whole_too whole) (broken_is ∙ ap (λ o. option_or o (clash_in (due after.flight.slots cycle))) t)

  -- a row goes as it should
  pub row_goes_on : (idle : ℕ) → IsWholeBefore (alone opening block) cycle
      → Went (block ++ map (issue_in cycle) insns) opening cycle idle (row_passes insns idle cycle way).passed
      (row_passes insns idle cycle way).way
  row_goes_on idle whole = goes_by idle whole after.taken refl tells
