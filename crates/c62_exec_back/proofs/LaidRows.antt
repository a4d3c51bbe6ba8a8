-- A block lies in its rows.
use Rattle.std.proofs.Common.{◌≡◌, ℕ, suc, ◌+◌, ◌-◌, ◌<◌, ◌≤◌, true, List, length, Some, refl, sym, ◌∙◌, ap, subst}
use Rattle.std.proofs.Common.{arith}
use Rattle.std.specs.Prelude.{map, slice_get, slice_index_or, Contains}
use Rattle.std.proofs.lemmas.Option.{same_Some}
use Rattle.c62_op.specs.declared.register.Unit.{Unit as FunctionalUnit}
use Rattle.c62_op.specs.Shape.{is_branch}
use Rattle.c62_insn.specs.declared.insn.Insn.{Insn}
use Rattle.c62_insn.specs.Insn.{unit_of}
use Rattle.c62_packet.specs.declared.placed.Placed.{Placed}
use Rattle.c62_packet.specs.Packed.{Packed, is_branching}
use Rattle.c62_listing_reader.specs.Said.{Part}
use Rattle.c62_adopt_cut.specs.Blocks.{Draft}
use Rattle.c62_adopt_cut.specs.Flight.{branches}
use Rattle.c62_adopt_cut.specs.Home.{Home, homes_in}
use Rattle.c62_meaning.specs.Cut.{moved}
use Rattle.c62_meaning.proofs.Lookup.{In, In_from_Contains, In-flat_map, from_In-flat_map}
use Rattle.c62_meaning.proofs.Instances.{in_map}
use Rattle.c62_meaning.proofs.CutWords.{from_map}
use Rattle.c62_flight.specs.Text.{Row, no_row, row_of}
use Rattle.c62_flight.specs.Issued.{Visit, issue_in, issued_in, issued_on}
use Rattle.c62_flight.specs.Laid.{straight, straight_end, IsLaid}
use Rattle.c62_exec_back.specs.Spaced.{AreIdle}
use Rattle.c62_exec_back.proofs.Beginnings.{begins, before_from, behind_from, from_inside, from_late, from_rises}
use Rattle.c62_exec_back.proofs.Beginnings.{has_visit, is_visit, row_from, span, straight_begins}
use Rattle.c62_exec_back.proofs.Pairs.{HasCycles, IsPair, apart, one_block, unit_written}
use Rattle.c62_exec_back.proofs.BlockStarts.{IsBlockAt, block_fits, branch_over, issue_early}
use Rattle.c62_exec_back.proofs.Rising.{block_rises, rows_rise, same_rising}
use Rattle.c62_exec_back.proofs.ReadRows.{IsOf}
use Rattle.c62_exec_back.proofs.Stood.{stood_at}
use Rattle.c62_exec_back.proofs.RowPairs.{BothWays, rows, insn_for, own, own_text, own_count, own_begins, own_row_of}
use Rattle.c62_exec_back.proofs.RowPairs.{line_of, insn_is, row_pair, block_pair}
use Rattle.c62_exec_back.proofs.BlockRows.{start, over, has_cycles, start_inside, row_cycle, row, count, lead}
use Rattle.c62_exec_back.proofs.BlockRows.{idle_rows, same_unit, all_rise, not_before, not_behind}

abbrev placed_of : Insn → ℕ → ℕ → FunctionalUnit → Placed
placed_of insn line cycle unit = record { insn = insn; line = line; cycle = cycle; unit = unit }

same_placed : (insn other : Insn) (line next cycle later : ℕ) (unit place : FunctionalUnit) → insn ≡ other → line ≡ next
    → cycle ≡ later → unit ≡ place
    → placed_of insn line cycle unit ≡ placed_of other next later place
same_placed insn other line next cycle later unit place e f g h =
    ap (λ (i : Insn). placed_of i line cycle unit) e ∙ ap (λ n. placed_of other n cycle unit) f
    ∙ ap (λ n. placed_of other next n unit) g ∙ ap (λ (u : FunctionalUnit). placed_of other next later u) h

module _ (both : BothWays) where
  module _ (number : ℕ) (block : Packed) (e : slice_get both.packets number ≡ Some block) (draft : Draft)
      (at : IsBlockAt both.drafts both.end number draft block) where
    cycles : HasCycles both.end both.drafts number draft
    cycles = has_cycles both number draft at.there

    rises : row both number + count both number ≡ row_from (rows both) (over both number)
    rises =
        let late = cycles.late in
        let l = from_rises (rows both) (start both number) (over both number) late in omega (arith, l)

    ends_within : row both number + count both number ≤ length (own_text both).rows
    ends_within = let e = rises in let l = from_inside (rows both) (over both number) in let same = own_count both in
        omega
        (arith, e, l, same)

    over_inside : over both number ≤ span (rows both)
    over_inside = let before = cycles.before in let l = start_inside both (suc number) in omega (arith, before, l)

    begins_late : start both number ≤ begins (rows both) (row both number)
    begins_late = from_late (rows both) (start both number) (start_inside both number)

    fits : start both number + block.cycles ≤ over both number
    fits =
        let begun = cycles.begun in let is_over = cycles.is_over in let up = cycles.rises in
        let l = block_fits both.drafts draft block (start both (suc number)) at.is at.over (omega (arith, begun, up)) in
        omega
        (arith, l, begun, is_over)

    lasts : block.cycles ≤ lead both number + straight_end (own_text both) (row both number) 0 (count both number)
    lasts =
        let ends = straight_begins (own_text both) (row both number) 0 (count both number) ends_within in
        let first = own_begins both (row both number) in
        let last = own_begins both (row both number + count both number) in
        let here = ap (begins (rows both)) rises in
        let late = from_late (rows both) (over both number) over_inside in
        let low = begins_late in let fit = fits in
        omega (arith, ends, first, last, here, late, low, fit)

    slots : (p : Placed) (visit : Visit) → Contains block.placed p → is_branching p ≡ true
        → Contains (straight (own_text both) (row both number) 0 (count both number)) visit
        → lead both number + visit.start < p.cycle + 6
    slots p visit inside branching there =
        let v = is_visit (own_text both) (row both number) 0 (count both number) visit ends_within
        (In_from_Contains visit (straight (own_text both) (row both number) 0 (count both number)) there) in
        let r = block_pair both number block p e (In_from_Contains p block.placed inside) in
        let draft_is : r.pair.draft ≡ draft = same_Some r.pair.draft draft (sym r.pair.is.there ∙ at.there) in
        let issue : In r.h.issue draft.issues = subst (λ (d : Draft). In r.h.issue d.issues) draft_is r.pair.issue in
        let branch : branches r.h.issue ≡ true = ap (λ (part : Part). is_branch part.parts.op) (sym r.pair.parts)
        ∙ branching in
        let soon = branch_over both.drafts (start both (suc number)) draft r.h.issue at.over issue branch in
        let cycle : p.cycle ≡ r.h.issue.cycle = ap (λ (part : Part). part.cycle) r.pair.parts in
        let when = v.when in let above = v.above in
        let first = own_begins both (row both number) in let other = own_begins both visit.row in
        let end_is = rises in
        let early = before_from (rows both) visit.row (over both number) (omega (arith, above, end_is)) in
        let low = begins_late in let begun = cycles.begun in let is_over = cycles.is_over in
        omega (arith, soon, cycle, when, first, other, early, low, begun, is_over)

    -- an instruction of its rows is that of its packets
    own_is : (visit : Visit) (p : Placed) (h : Home) (q : Placed)
        → visit.start + begins (rows both) (row both number) ≡ 0 + begins (rows both) visit.row
        → In h (homes_in both.lines)
        → IsOf both.reading.targets h (stood_at (0 + begins (rows both) visit.row) p)
        → IsPair both.drafts both.end both.packets number h q
        → moved (lead both number) (issue_in visit.start (own both p)) ≡ q
    own_is visit p h q when there is pair =
        let insn : insn_for both p ≡ q.insn = insn_is both p h number q there pair is.line in
        let line : p.line ≡ q.line = is.line ∙ sym (line_of both number h q pair) in
        let at_cycle : 0 + begins (rows both) visit.row ≡ h.start + h.issue.cycle = is.when in
        let from : h.start ≡ start both number = pair.start in
        let q_cycle : q.cycle ≡ h.issue.cycle = ap (λ (part : Part). part.cycle) pair.parts in
        let low = begins_late in
        let cycle : lead both number + visit.start ≡ q.cycle = omega (arith, when, at_cycle, from, q_cycle, low) in
        let q_unit : unit_of q.insn ≡ Some q.unit = unit_written both.drafts both.end both.packets number h q pair in
        let units : unit_of p.insn ≡ unit_of q.insn = same_unit both h.issue.target h.issue.parts p q h is.parts refl
        pair.parts in
        let unit : p.unit ≡ q.unit = same_Some p.unit q.unit (sym is.unit ∙ units ∙ q_unit) in
        same_placed (insn_for both p) q.insn p.line q.line (lead both number + visit.start) q.cycle p.unit q.unit insn
        line cycle
        unit

    abbrev listed : List Placed
    listed = map (moved (lead both number))
        (issued_on (own_text both) (straight (own_text both) (row both number) 0 (count both number)))

    holds : map (moved (lead both number))
        (issued_on (own_text both) (straight (own_text both) (row both number) 0 (count both number))) ≡
        block.placed
    holds =
        same_rising listed block.placed
        (rows_rise (own_text both) (lead both number) (row both number) 0 (count both number) (all_rise both))
        (block_rises block at.is.is_block) to from
      where
        to : (x : Placed) → In x listed → In x block.placed
        to x h =
            let one = from_map (moved (lead both number)) x
            (issued_on (own_text both) (straight (own_text both) (row both number) 0 (count both number))) h in
            let two = from_In-flat_map (issued_in (own_text both)) one.0
            (straight (own_text both) (row both number) 0 (count both number))
            one.1 in
            let visit : Visit = two.0 in
            let v = is_visit (own_text both) (row both number) 0 (count both number) visit ends_within two.1 in
            let three = from_map (issue_in visit.start) one.0 (row_of (own_text both) visit.row).insns two.2 in
            let four = from_map (own both) three.0 (slice_index_or (rows both) visit.row no_row).insns
            (subst (λ (r : Row). In three.0 r.insns) (own_row_of both visit.row) three.1) in
            let p : Placed = four.0 in
            let above = v.above in let below = v.below in let when = v.when in
            let first = own_begins both (row both number) in let other = own_begins both visit.row in
            let end_is = rises in let last = from_inside (rows both) (over both number) in
            let r = row_pair both visit.row p (omega (arith, above, end_is, last)) four.1 in
            let c = row_cycle both visit.row p r in
            let early = before_from (rows both) visit.row (over both number) (omega (arith, above, end_is)) in
            let late = behind_from (rows both) visit.row (start both number) (omega (arith, above, end_is, last))
            (start_inside both number) below in
            let same : number ≡ r.number = one_block both.lines both.end both.drafts both.packets both.are number
            r.number
            (begins (rows both) visit.row) draft r.pair.draft at.there r.pair.is.there late early c.0 c.1 in
            let pair : IsPair both.drafts both.end both.packets number r.h r.q = subst
            (λ n. IsPair both.drafts both.end both.packets n r.h r.q)
            (sym same) r.pair in
            let block_is : pair.block ≡ block = same_Some pair.block block (sym pair.there ∙ e) in
            let q_in : In r.q block.placed = subst (λ (b : Packed). In r.q b.placed) block_is pair.inside in
            let whole : moved (lead both number) (issue_in visit.start (own both p)) ≡ x
            = ap (λ (y : Placed). moved (lead both number) (issue_in visit.start y)) four.2
            ∙ ap (moved (lead both number)) three.2 ∙ one.2 in
            subst (λ (y : Placed). In y block.placed)
            (sym (own_is visit p r.h r.q (omega (arith, when, first, other)) r.there r.is pair) ∙ whole) q_in

        from : (q : Placed) → In q block.placed → In q listed
        from q h =
            let r = block_pair both number block q e h in
            let draft_is : r.pair.draft ≡ draft = same_Some r.pair.draft draft (sym r.pair.is.there ∙ at.there) in
            let issue : In r.h.issue draft.issues = subst (λ (d : Draft). In r.h.issue d.issues) draft_is r.pair.issue
            in
            let soon = issue_early both.drafts (start both (suc number)) draft r.h.issue at.over issue in
            let when : 0 + begins (rows both) r.row ≡ r.h.start + r.h.issue.cycle = r.is.when in
            let begun = cycles.begun in let is_over = cycles.is_over in let start_of = r.pair.start in
            let early : begins (rows both) r.row < over both number = omega
            (arith, when, soon, begun, is_over, start_of) in
            let late : start both number ≤ begins (rows both) r.row = omega (arith, when, start_of) in
            let inside = r.inside in
            let low : row both number ≤ r.row = not_before both r.row (start both number) late in
            let high : r.row < row both number + count both number =
            (let end_is = rises in let l = not_behind both r.row (over both number) inside over_inside early in
            omega
            (arith, end_is, l)) in
            let visit = has_visit (own_text both) (row both number) 0 (count both number) r.row ends_within low high in
            let v = is_visit (own_text both) (row both number) 0 (count both number) visit.0 ends_within visit.1 in
            let when_begun = v.when in
            let first = own_begins both (row both number) in let other = own_begins both visit.0.row in
            let own_p : In (own both r.p) (row_of (own_text both) visit.0.row).insns
            = subst (λ n. In (own both r.p) (row_of (own_text both) n).insns) (sym visit.2)
            (subst (λ (y : Row). In (own both r.p) y.insns) (sym (own_row_of both r.row))
            (in_map (own both) r.p (slice_index_or (rows both) r.row no_row).insns r.in_row)) in
            let there : In (moved (lead both number) (issue_in visit.0.start (own both r.p))) listed
            = in_map (moved (lead both number)) (issue_in visit.0.start (own both r.p))
            (issued_on (own_text both) (straight (own_text both) (row both number) 0 (count both number)))
            (In-flat_map (issued_in (own_text both)) (issue_in visit.0.start (own both r.p)) visit.0
            (straight (own_text both) (row both number) 0 (count both number)) visit.1
            (in_map (issue_in visit.0.start) (own both r.p) (row_of (own_text both) visit.0.row).insns own_p)) in
            let is : IsOf both.reading.targets r.h (stood_at (0 + begins (rows both) visit.0.row) r.p) = subst
            (λ n. IsOf both.reading.targets r.h (stood_at (0 + begins (rows both) n) r.p)) (sym visit.2) r.is in
            subst (λ (y : Placed). In y listed)
            (own_is visit.0 r.p r.h q (omega (arith, when_begun, first, other)) r.there is r.pair) there

    pub is_laid : IsLaid (own_text both) block (row both number) (count both number) (lead both number)
    is_laid = record {
      holds = holds;
      rows = ends_within;
      lasts = lasts;
      slots = slots;
    }

    next_row : ℕ
    next_row = row both (suc number)

    pub goes_on : row both number + count both number ≤ row both (suc number)
    goes_on = let e = rises in let before = cycles.before in let l = from_rises (rows both) (over both number)
        (start both (suc number))
        before in omega (arith, e, l)

    pub idle_behind : AreIdle (own_text both) (row both number + count both number) (row both (suc number))
    idle_behind = subst (λ n. AreIdle (own_text both) n (row both (suc number))) (sym rises)
        (idle_rows both (over both number) (start both (suc number)) (start_inside both (suc number))
        (λ cycle other next there low high begun ended. apart both.lines both.end both.drafts both.packets both.are
        number other cycle draft next
        at.there there low high begun ended) cycles.before)

    pub gap : block.cycles + lead both (suc number) ≤ lead both number + straight_end (own_text both) (row both number)
        0
        (row both (suc number) - row both number)
    gap =
        let up = from_rises (rows both) (start both number) (start both (suc number)) cycles.rises in
        let inside = from_inside (rows both) (start both (suc number)) in
        let same = own_count both in
        let joined : row both number + (row both (suc number) - row both number) ≡ row both (suc number) = omega
        (arith, up) in
        let ends = straight_begins (own_text both) (row both number) 0 (row both (suc number) - row both number)
        (omega (arith, joined, inside, same)) in
        let here = ap (begins (own_text both).rows) joined in
        let first = own_begins both (row both number) in
        let last = own_begins both (row both (suc number)) in
        let low = begins_late in
        let next_late = from_late (rows both) (start both (suc number)) (start_inside both (suc number)) in
        let fit = fits in let before = cycles.before in
        omega (arith, ends, here, first, last, low, next_late, fit, before)
