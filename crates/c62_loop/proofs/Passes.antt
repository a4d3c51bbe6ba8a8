-- Rows one behind the other, passed again and again.
use Rattle.std.proofs.Common.{◌≡◌, ◌≢◌, ℕ, zero, suc, ◌+◌, ◌-◌, ◌<◌, ◌≤◌, List, [], ◌∷◌, ◌++◌, length, Some, None, refl}
use Rattle.std.proofs.Common.{sym, ◌∙◌, ap, subst, inl, ⊎_elim, arith}
use Rattle.std.proofs.lemmas.Bool.{cases_lt}
use Rattle.c62_insn.specs.declared.effect.Target.TheVariants.{Block as ToBlock}
use Rattle.c62_flight.specs.Text.{Text, Position, At, row_of, position_after}
use Rattle.c62_flight.specs.Issued.{Visit, Issued, turn, over, over_of}
use Rattle.c62_flight.specs.Flight.{stands_after}
use Rattle.c62_flight.specs.Laid.{straight, straight_end}
use Rattle.c62_flight.proofs.Told.{turn_told, over_told}
use Rattle.c62_flight.proofs.Straight.{end_later}
use Rattle.c62_loop.specs.Along.{LeadAlong}
use Rattle.c62_loop.specs.Loop.{Pipelined, kernel_row, epilog_row, last_row, interval, pass_start, passes_from}
use Rattle.c62_loop.specs.Loop.{visits_of, cycles_of, IsPipelined}
use Rattle.std.proofs.lemmas.Bool.Decides.{nat_tests}

-- rows that begin later are over later
pub end_from : (text : Text) (row start count : ℕ)
    → straight_end text row start count ≡ start + straight_end text row 0 count
end_from text row start zero = omega arith
end_from text row start (suc count) = grind (
  arith,
  end_from text (row + 1) (start + (row_of text row).idle + 1) count,
  end_from text (row + 1) (0 + (row_of text row).idle + 1) count,
)

module _ (text : Text) (issued : Issued) where
  abbrev Along : Position → ℕ → List Visit → Position → ℕ → Type 0
  Along position cycle visits last end = LeadAlong text issued position cycle visits last end

  pub along_both : (position middle : Position) (cycle t : ℕ) (visits others : List Visit) (last : Position) (end : ℕ)
      → Along position cycle visits middle t → Along middle t others last end
      → Along position cycle (visits ++ others) last end
  along_both position middle cycle t [] others last end one other = grind arith
  along_both position middle cycle t (visit ∷ visits) others last end one other = grind (
    arith,
    along_both (stands_after text issued visit) middle (over_of text issued visit) t visits others last end one.3 other,
  )

  abbrev QuietBetween : ℕ → ℕ → Type 0
  QuietBetween start end = (c : ℕ) → start < c → c < end → turn issued c ≡ None

  -- a row is over when its cycles are, where nothing turns within
  over_is : (row start : ℕ) → QuietBetween start (start + (row_of text row).idle + 1)
      → start + (row_of text row).idle + 1 ≡ over issued start (row_of text row).idle
  over_is row start quiet = (over_told issued start (row_of text row).idle (start + (row_of text row).idle + 1)).0
      (record {
        later = omega arith;
        within = omega arith;
        straight = λ c t l u h. (turn_told issued c).none (quiet c l u) t h;
        reached = inl refl;
      })

  -- so are rows; then it goes on where the branch leads that takes effect then, if one does
  pub rows_along : (row start count : ℕ) → row + suc count ≤ length text.rows
      → QuietBetween start (straight_end text row start (suc count))
      → Along (At row) start (straight text row start (suc count))
      (position_after text (row + count) (turn issued (straight_end text row start (suc count))))
      (straight_end text row start (suc count))
  rows_along row start zero inside quiet = grind (arith, over_is row start quiet)
  rows_along row start (suc count) inside quiet = grind (
    arith,
    nat_tests,
    rows_along (row + 1) (start + (row_of text row).idle + 1) count,
    end_later,
    over_is,
  )

  -- where nothing turns, to the row behind them
  pub rows_straight : (row start count : ℕ) → row + count ≤ length text.rows
      → ((c : ℕ) → start < c → c ≤ straight_end text row start count → turn issued c ≡ None)
      → Along (At row) start (straight text row start count) (At (row + count)) (straight_end text row start count)
  rows_straight row start zero inside quiet = (let e : row + 0 ≡ row = omega arith in ap At e, refl)
  rows_straight row start (suc count) inside quiet = grind (
    arith,
    end_later text (row + 1) (start + (row_of text row).idle + 1) count,
    rows_along row start count inside,
  )

-- ---- passes

module _ (loop : Pipelined) (is : IsPipelined loop) where
  some_cycles : 0 < interval loop
  some_cycles = grind (arith, end_later)

  pub starts_below : (pass other : ℕ) → pass ≤ other → pass_start loop pass ≤ pass_start loop other
  starts_below pass zero l = grind arith
  starts_below pass (suc other) l =
      ⊎_elim {C = pass_start loop pass ≤ pass_start loop (suc other)}
      (λ (u : pass < suc other). grind (arith, starts_below pass other))
      (λ (u : suc other ≤ pass). let e : pass ≡ suc other = omega arith in grind arith)
      (cases_lt pass (suc other))

  -- no pass begins within one
  pub none_within : (pass other : ℕ) → pass_start loop pass < pass_start loop other
      → pass_start loop other < pass_start loop (suc pass) → ⊥
  none_within pass other l u = grind (arith, starts_below other pass, starts_below (suc pass) other)

  pub starts_above : (pass other : ℕ) → pass < other → pass_start loop pass < pass_start loop other
  starts_above pass other l = grind (arith, starts_below (suc pass) other l, some_cycles)

  -- A branch to the label takes effect at the end of each pass but the last, and none else.
  module _ (passes : ℕ) (some : 0 < passes) (issued : Issued)
      (turns : (pass : ℕ) → suc pass < passes → turn issued (pass_start loop (suc pass)) ≡ Some (ToBlock loop.label))
      (else : (c : ℕ) → ((pass : ℕ) → suc pass < passes → pass_start loop (suc pass) ≢ c) → turn issued c ≡ None) where
    pass_over : (pass : ℕ)
        → straight_end loop.text (kernel_row loop) (pass_start loop pass) loop.kernel ≡ pass_start loop (suc pass)
    pass_over pass = end_from loop.text (kernel_row loop) (pass_start loop pass) loop.kernel

    one_pass : (pass : ℕ)
        → LeadAlong loop.text issued (At (kernel_row loop)) (pass_start loop pass)
        (straight loop.text (kernel_row loop) (pass_start loop pass) loop.kernel)
        (position_after loop.text (epilog_row loop - 1) (turn issued (pass_start loop (suc pass))))
        (pass_start loop (suc pass))
    one_pass pass = by_count loop.kernel refl
      where
        by_count : (count : ℕ) → loop.kernel ≡ count
            → LeadAlong loop.text issued (At (kernel_row loop)) (pass_start loop pass)
            (straight loop.text (kernel_row loop) (pass_start loop pass) loop.kernel)
            (position_after loop.text (epilog_row loop - 1) (turn issued (pass_start loop (suc pass))))
            (pass_start loop (suc pass))
        by_count zero e = (let l : 0 < loop.kernel = is.some in absurd (omega arith))
        by_count (suc count) e =
            let over_at : straight_end loop.text (kernel_row loop) (pass_start loop pass) (suc count) ≡ pass_start loop
            (suc pass)
            = ap (λ n. straight_end loop.text (kernel_row loop) (pass_start loop pass) n) (sym e) ∙ pass_over pass in
            let behind : kernel_row loop + count ≡ epilog_row loop - 1 = omega arith in
            let inside : kernel_row loop + suc count ≤ length loop.text.rows =
            (let r : last_row loop ≤ length loop.text.rows = is.rows in omega arith) in
            subst (λ n. LeadAlong loop.text issued (At (kernel_row loop)) (pass_start loop pass)
            (straight loop.text (kernel_row loop) (pass_start loop pass) n)
            (position_after loop.text (epilog_row loop - 1) (turn issued (pass_start loop (suc pass))))
            (pass_start loop (suc pass))) (sym e)
            (subst (λ n. LeadAlong loop.text issued (At (kernel_row loop)) (pass_start loop pass)
            (straight loop.text (kernel_row loop) (pass_start loop pass) (suc count))
            (position_after loop.text n (turn issued (pass_start loop (suc pass)))) (pass_start loop (suc pass))) behind
            (subst (λ c. LeadAlong loop.text issued (At (kernel_row loop)) (pass_start loop pass)
            (straight loop.text (kernel_row loop) (pass_start loop pass) (suc count))
            (position_after loop.text (kernel_row loop + count) (turn issued c)) c) over_at
            (rows_along loop.text issued (kernel_row loop) (pass_start loop pass) count inside
            (λ c l u. else c (λ other _ same.
            let here : pass_start loop (suc other) ≡ c = same in
            none_within pass (suc other) (omega arith) (omega arith))))))

    all_passes : (pass count : ℕ) → pass + suc count ≡ passes
        → LeadAlong loop.text issued (At (kernel_row loop)) (pass_start loop pass) (passes_from loop pass (suc count))
        (At (epilog_row loop)) (pass_start loop passes)
    all_passes pass zero e =
        let last : suc pass ≡ passes = omega arith in
        grind (
          arith,
          starts_above,
          along_both loop.text issued (At (kernel_row loop)) (At (epilog_row loop)) (pass_start loop pass) (pass_start
              loop (suc pass)) (straight loop.text (kernel_row loop) (pass_start loop pass) loop.kernel),
          one_pass pass,
        )
    all_passes pass (suc count) e = grind (
      arith,
      nat_tests,
      all_passes (suc pass) count,
      along_both loop.text issued (At (kernel_row loop)) (At (kernel_row loop)) (pass_start loop pass) (pass_start
          loop (suc pass)) (straight loop.text (kernel_row loop) (pass_start loop pass) loop.kernel) (passes_from loop
          (suc pass) (suc count)) (At (epilog_row loop)) (pass_start loop passes),
      one_pass pass,
    )

    -- so it comes to the row behind the epilog
    pub loop_along : LeadAlong loop.text issued (At loop.first) 0 (visits_of loop passes) (At (last_row loop))
        (cycles_of loop passes)
    loop_along =
        let rows : last_row loop ≤ length loop.text.rows = is.rows in
        let begins : LeadAlong loop.text issued (At loop.first) 0 (straight loop.text loop.first 0 loop.prolog)
        (At (kernel_row loop)) (pass_start loop 0)
        = rows_straight loop.text issued loop.first 0 loop.prolog (omega arith)
        (λ c l u. else c (λ pass _ same.
        let k : pass_start loop 0 < pass_start loop (suc pass) = starts_above 0 (suc pass) (omega arith) in
        let here : pass_start loop (suc pass) ≡ c = same in absurd (omega arith))) in
        let ends : LeadAlong loop.text issued (At (epilog_row loop)) (pass_start loop passes)
        (straight loop.text (epilog_row loop) (pass_start loop passes) loop.epilog) (At (last_row loop))
        (cycles_of loop passes)
        = rows_straight loop.text issued (epilog_row loop) (pass_start loop passes) loop.epilog (omega arith)
        (λ c l u. else c (λ pass m same.
        let k : pass_start loop (suc pass) < pass_start loop passes = starts_above (suc pass) passes m in
        let here : pass_start loop (suc pass) ≡ c = same in absurd (omega arith))) in
        along_both loop.text issued (At loop.first) (At (kernel_row loop)) 0 (pass_start loop 0)
        (straight loop.text loop.first 0 loop.prolog)
        (passes_from loop 0 passes ++ straight loop.text (epilog_row loop) (pass_start loop passes) loop.epilog)
        (At (last_row loop)) (cycles_of loop passes) begins
        (along_both loop.text issued (At (kernel_row loop)) (At (epilog_row loop)) (pass_start loop 0)
        (pass_start loop passes) (passes_from loop 0 passes)
        (straight loop.text (epilog_row loop) (pass_start loop passes) loop.epilog) (At (last_row loop))
        (cycles_of loop passes) (by_passes passes refl) ends)
      where
        by_passes : (n : ℕ) → passes ≡ n
            → LeadAlong loop.text issued (At (kernel_row loop)) (pass_start loop 0) (passes_from loop 0 passes)
            (At (epilog_row loop)) (pass_start loop passes)
        by_passes n e = grind (arith, all_passes)
