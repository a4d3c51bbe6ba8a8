-- Paths of rows one behind the other.
use Rattle.std.proofs.Common.{◌≡◌, ℕ, zero, suc, ◌+◌, ◌<◌, ◌≤◌, length, Some, None, refl, sym, ◌∙◌, ap, subst, inl}
use Rattle.std.proofs.Common.{inr, arith}
use Rattle.c62_insn.specs.declared.effect.Target.{Target}
use Rattle.c62_meaning.proofs.Lookup.{In}
use Rattle.c62_flight.specs.Text.{Text, At, row_of, position_after, leads_to}
use Rattle.c62_flight.specs.Issued.{Visit, Issued, turn, over}
use Rattle.c62_flight.specs.Broken.{broken}
use Rattle.c62_flight.specs.Flight.{Begins, Leads}
use Rattle.c62_flight.specs.Laid.{straight, straight_end}
use Rattle.c62_flight.proofs.Told.{turn_told, over_told}
use Rattle.std.proofs.lemmas.Bool.Decides.{nat_tests}

pub end_later : (text : Text) (row start count : ℕ) → start ≤ straight_end text row start count
end_later text row start zero = omega arith
end_later text row start (suc count) =
    let l : start + (row_of text row).idle + 1 ≤ straight_end text (row + 1) (start + (row_of text row).idle + 1) count
    = end_later text (row + 1) (start + (row_of text row).idle + 1) count in omega arith

module _ (text : Text) (limit : ℕ) (issued : Issued) (quiet : (c : ℕ) → broken issued c ≡ None) where
  begins_at : (row start : ℕ) → row < length text.rows → start < limit
      → Begins text limit issued (At row) start (record { row = row; start = start })
  begins_at row start inside below = grind (arith, nat_tests)

  -- where no branch takes effect
  pub leads_plain : ((c : ℕ) → turn issued c ≡ None) → (row start count : ℕ) → row + count ≤ length text.rows
      → straight_end text row start count ≤ limit
      → Leads text limit issued (At row) start (straight text row start count) (At (row + count))
      (straight_end text row start count)
  leads_plain none row start zero rows l = (let e : row + 0 ≡ row = omega arith in ap At e, refl)
  leads_plain none row start (suc count) rows l =
      let u : start + (row_of text row).idle + 1 ≤ straight_end text (row + 1) (start + (row_of text row).idle + 1)
      count
      = end_later text (row + 1) (start + (row_of text row).idle + 1) count in
      let over_is : start + (row_of text row).idle + 1 ≡ over issued start (row_of text row).idle
      = (over_told issued start (row_of text row).idle (start + (row_of text row).idle + 1)).0 (record {
        later = omega arith;
        within = omega arith;
        straight = λ c t _ _ h. (turn_told issued c).none (none c) t h;
        reached = inl refl;
      }) in
      let turns : None ≡ turn issued (over issued start (row_of text row).idle) = sym
      (none (over issued start (row_of text row).idle)) in
      let e : row + 1 + count ≡ row + suc count = omega arith in
      let rest : Leads text limit issued (At (row + 1)) (start + (row_of text row).idle + 1)
      (straight text (row + 1) (start + (row_of text row).idle + 1) count) (At (row + suc count))
      (straight_end text (row + 1) (start + (row_of text row).idle + 1) count)
      = subst (λ n. Leads text limit issued (At (row + 1)) (start + (row_of text row).idle + 1)
      (straight text (row + 1) (start + (row_of text row).idle + 1) count) (At n)
      (straight_end text (row + 1) (start + (row_of text row).idle + 1) count)) e
      (leads_plain none (row + 1) (start + (row_of text row).idle + 1) count (omega arith) l) in (
        begins_at row start (omega arith) (omega arith),
        subst (λ c. Leads text limit issued
            (position_after text row (turn issued (over issued start (row_of text row).idle))) c
            (straight text (row + 1) (start + (row_of text row).idle + 1) count)
            (At (row + suc count)) (straight_end text (row + 1) (start + (row_of text row).idle + 1) count)) over_is
            (subst (λ o. Leads text limit issued (position_after text row o) (start + (row_of text row).idle + 1)
            (straight text (row + 1) (start + (row_of text row).idle + 1) count)
            (At (row + suc count)) (straight_end text (row + 1) (start + (row_of text row).idle + 1) count)) turns
            rest),
      )

  -- where a branch takes effect in the last of them, or when it is over
  pub leads_turning : (e : ℕ) (target : Target) → ((c : ℕ) → (c ≡ e → ⊥) → turn issued c ≡ None)
      → turn issued e ≡ Some target → e ≤ limit
      → (row start count : ℕ) → row + suc count ≤ length text.rows
      → ((visit : Visit) → In visit (straight text row start (suc count)) → visit.start < e)
      → e ≤ straight_end text row start (suc count)
      → Leads text limit issued (At row) start (straight text row start (suc count)) (leads_to text target) e
  leads_turning e target none turns below row start zero rows starts l =
      let early : start < e = starts (record { row = row; start = start }) (inl refl) in
      let over_is : e ≡ over issued start (row_of text row).idle
      = (over_told issued start (row_of text row).idle e).0 (record {
        later = omega arith;
        within = omega arith;
        straight = λ c t a b h. (turn_told issued c).none (none c (λ s. omega arith)) t h;
        reached = inr (target, (turn_told issued e).some target turns);
      }) in (
        begins_at row start (omega arith) (omega arith),
        (ap (λ o. position_after text row o) (sym turns ∙ ap (λ c. turn issued c) over_is), over_is),
      )
  leads_turning e target none turns below row start (suc count) rows starts l =
      let second : start + (row_of text row).idle + 1 < e = starts
      (record { row = row + 1; start = start + (row_of text row).idle + 1 }) (inr (inl refl)) in
      let over_is : start + (row_of text row).idle + 1 ≡ over issued start (row_of text row).idle
      = (over_told issued start (row_of text row).idle (start + (row_of text row).idle + 1)).0 (record {
        later = omega arith;
        within = omega arith;
        straight = λ c t a b h. (turn_told issued c).none (none c (λ s. omega arith)) t h;
        reached = inl refl;
      }) in
      let straight_on : None ≡ turn issued (over issued start (row_of text row).idle)
      = sym (none (start + (row_of text row).idle + 1) (λ s. omega arith)) ∙ ap (λ c. turn issued c) over_is in
      let rest : Leads text limit issued (At (row + 1)) (start + (row_of text row).idle + 1)
      (straight text (row + 1) (start + (row_of text row).idle + 1) (suc count)) (leads_to text target) e
      = leads_turning e target none turns below (row + 1) (start + (row_of text row).idle + 1) count (omega arith)
      (λ visit h. starts visit (inr h)) l in (
        begins_at row start (omega arith) (omega arith),
        subst (λ c. Leads text limit issued
            (position_after text row (turn issued (over issued start (row_of text row).idle))) c
            (straight text (row + 1) (start + (row_of text row).idle + 1) (suc count)) (leads_to text target) e) over_is
            (subst (λ o. Leads text limit issued (position_after text row o) (start + (row_of text row).idle + 1)
            (straight text (row + 1) (start + (row_of text row).idle + 1) (suc count)) (leads_to text target) e)
            straight_on rest),
      )
