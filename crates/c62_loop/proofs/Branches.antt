-- Where the branches of a pipelined loop go: to its label, at the end of each pass but the last.
use Rattle.std.proofs.Common.{◌≡◌, ◌≢◌, ℕ, suc, ◌+◌, ◌^◌, ◌<◌, ◌≤◌, false, List, ◌++◌, length, get_or, take, Option}
use Rattle.std.proofs.Common.{Some, None, refl, sym, ◌∙◌, ap, ◌⊎◌, inl, inr, ⊎_elim, arith}
use Rattle.std.specs.Prelude.{slice_get}
use Rattle.std.proofs.lemmas.Bool.{cases_Bool, cases_lt}
use Rattle.std.proofs.lemmas.Option.{none-some, same_Some, slice_get-get_or, slice_get_within}
use Rattle.c62_op.specs.declared.register.Reg.{Reg}
use Rattle.c62_op.specs.Shape.{is_branch}
use Rattle.c62_insn.specs.Insn.{op_of}
use Rattle.c62_insn.specs.declared.effect.Target.{Target}
use Rattle.c62_insn.specs.declared.effect.Target.TheVariants.{Block as ToBlock}
use Rattle.c62_read.specs.declared.block.SerialInsn.{SerialInsn}
use Rattle.c62_serial.specs.State.{Machine, IsSound}
use Rattle.c62_packet.specs.declared.placed.Placed.{Placed}
use Rattle.c62_meaning.specs.Packet.{Did}
use Rattle.c62_meaning.proofs.Lookup.{In, In_from_Contains, Contains_from_In}
use Rattle.c62_meaning.proofs.Instances.{no_entry}
use Rattle.c62_flight.specs.Issued.{Visit, Issued, issued_on, turn}
use Rattle.c62_flight.specs.Told.{Turns}
use Rattle.c62_flight.proofs.Straight.{end_later}
use Rattle.c62_flight.proofs.Told.{turn_told}
use Rattle.c62_loop.specs.Along.{ActSerially, Steers}
use Rattle.c62_loop.specs.Counter.{steps_on, steps_in, work_of}
use Rattle.c62_loop.specs.Loop.{Region, loop_path, trips_of, IsCountedLoop, Pipelined, epilog_row, last_row, pass_start}
use Rattle.c62_loop.specs.Loop.{visits_of, cycles_of, IsPipelined, EndsPass, IsMatch}
use Rattle.c62_loop.proofs.Lists.{at_place, place_of, get_cases}
use Rattle.c62_loop.proofs.Passes.{starts_below, starts_above, loop_along}
use Rattle.c62_loop.proofs.ControlActs.{goes_on, stays, steps_stay, straight, before_straight, work_straight}

module _ (region : Region) (loop : Pipelined) (trips passes : ℕ) (counted : IsCountedLoop region)
    (is : IsPipelined loop) (opening : Machine)
    (m : IsMatch region loop trips passes opening) (sound : IsSound opening)
    (begins : trips_of region opening ≡ trips) (small : trips < 2 ^ 32) where
  abbrev counter : Reg
  counter = region.counter

  abbrev work : List SerialInsn
  work = work_of counter (loop_path region trips)

  abbrev path : List SerialInsn
  path = region.before ++ (m.control ++ work)

  abbrev visits : List Visit
  visits = visits_of loop passes

  abbrev rows : List Placed
  rows = issued_on loop.text visits

  abbrev placed : List Placed
  placed = m.instances.placed

  module _ (did : Did) (acts : ActSerially path placed opening did) where
    -- what goes somewhere goes to the label, at the end of a pass that isn't the last
    record Goes (p : Placed) (target : Target) : Type 0 where
      pass : ℕ
      ends : EndsPass loop pass p
      more : suc pass < passes
      to : target ≡ ToBlock loop.label

    goes : (p : Placed) (target : Target) → In p rows → (did p).target ≡ Some target → Goes p target
    goes p target h e = by_part (get_cases region.before (m.control ++ work) place.0 there at_path)
      where
        place : (i : ℕ) × (slice_get placed i ≡ Some p)
        place = place_of placed p (In_from_Contains p placed ((m.instances.members p).0 (Contains_from_In p rows h)))

        there : SerialInsn
        there = get_or path place.0 no_entry

        at_path : slice_get path place.0 ≡ Some there
        at_path =
            let n : length placed ≡ length path = m.instances.placing.count in
            let l : place.0 < length placed = slice_get_within placed place.0 p place.1 in slice_get-get_or path place.0
            no_entry (omega arith)

        by_test : (i : ℕ) → place.0 ≡ length region.before + i → slice_get m.control i ≡ Some there
            → steps_on counter there ≡ false → Goes p target
        by_test i is at f =
            let at_p : slice_get placed (length region.before + i) ≡ Some p
            = ap (λ (n : ℕ). slice_get placed n) (sym is) ∙ place.1 in
            let d = m.decides i there p at at_p f in
            let sum : steps_in counter (take i m.control) + passes ≡ trips + suc d.0 = d.2 in
            ⊎_elim {C = Goes p target}
            (λ (l : suc d.0 < passes). record {
              pass = d.0;
              ends = d.1;
              more = l;
              to = same_Some target (ToBlock loop.label) (sym e
                  ∙ goes_on region loop trips passes counted opening m sound begins small did acts i there p at at_p
                  f (omega arith));
            })
            (λ (l : passes ≤ suc d.0). absurd
            (none-some target (sym
            (stays region loop trips passes counted opening m sound begins small did acts i there p at at_p f
            (omega arith)) ∙ e)))
            (cases_lt (suc d.0) passes)

        by_control : (i : ℕ) → place.0 ≡ length region.before + i → slice_get m.control i ≡ Some there → Goes p target
        by_control i is at =
            let at_p : slice_get placed (length region.before + i) ≡ Some p
            = ap (λ (n : ℕ). slice_get placed n) (sym is) ∙ place.1 in
            ⊎_elim {C = Goes p target}
            (λ t. absurd (none-some target
            (sym (steps_stay region loop trips passes counted opening m sound begins small did acts i
            there p at at_p t) ∙ e)))
            (λ f. by_test i is at f) (cases_Bool (steps_on counter there))

        nowhere : is_branch (op_of there.insn) ≡ false → Goes p target
        nowhere none = absurd
            (straight region loop trips passes counted opening m sound begins small did acts place.0 there p at_path
            place.1 none target e)

        by_part : (slice_get region.before place.0 ≡ Some there) ⊎ ((k : ℕ) × (place.0 ≡ length region.before + k)
            × (slice_get (m.control ++ work) k ≡ Some there)) → Goes p target
        by_part (inl at) = nowhere
            (before_straight region loop trips passes counted opening m sound begins small there
            (at_place region.before place.0 there at))
        by_part (inr (k, is, at)) = elim (get_cases m.control work k there at) [
          | inl here ↦ by_control k is here
          | inr r ↦ nowhere (work_straight region loop trips passes counted opening m sound begins small there
              (at_place work r.0 there r.2))
        ]

    abbrev issued : Issued
    issued = record { placed = rows; did = did }

    turns_else : (c : ℕ) → ((pass : ℕ) → suc pass < passes → pass_start loop (suc pass) ≢ c) → turn issued c ≡ None
    turns_else c other = by_turn (turn issued c) refl
      where
        by_turn : (o : Option Target) → turn issued c ≡ o → turn issued c ≡ None
        by_turn None e = e
        by_turn (Some target) e =
            let t : Turns issued c target = (turn_told issued c).some target e in
            let g : Goes t.placed target = goes t.placed target (In_from_Contains t.placed rows t.inside) t.ran in
            absurd (other g.pass g.more (sym g.ends ∙ t.when))

    turns_there : (pass : ℕ) → suc pass < passes → turn issued (pass_start loop (suc pass)) ≡ Some (ToBlock loop.label)
    turns_there pass l = by_turn (turn issued (pass_start loop (suc pass))) refl
      where
        by_turn : (o : Option Target) → turn issued (pass_start loop (suc pass)) ≡ o
            → turn issued (pass_start loop (suc pass)) ≡ Some (ToBlock loop.label)
        by_turn (Some target) e =
            let t : Turns issued (pass_start loop (suc pass)) target =
            (turn_told issued (pass_start loop (suc pass))).some target e in
            let g : Goes t.placed target = goes t.placed target (In_from_Contains t.placed rows t.inside) t.ran in e
            ∙ ap Some g.to
        by_turn None e = by_branch (m.decided pass l)
          where
            by_branch : (i : ℕ) × (entry : SerialInsn) × (p : Placed) × (slice_get m.control i ≡ Some entry)
                × (slice_get placed (length region.before + i) ≡ Some p) × (steps_on counter entry ≡ false)
                × EndsPass loop pass p
                → turn issued (pass_start loop (suc pass)) ≡ Some (ToBlock loop.label)
            by_branch (i, entry, p, at_i, at_p, f, ends) =
                let d = m.decides i entry p at_i at_p f in
                let same : pass_start loop (suc d.0) ≡ pass_start loop (suc pass) = sym d.1 ∙ ends in
                let l : suc pass < passes = l in
                let fewer : steps_in counter (take i m.control) < trips = few d.0 d.2 same in
                absurd ((turn_told issued (pass_start loop (suc pass))).none e (ToBlock loop.label) (record {
                  placed = p;
                  inside = (m.instances.members p).1
                      (Contains_from_In p placed (at_place placed (length region.before + i) p at_p));
                  ran = goes_on region loop trips passes counted opening m sound begins small did acts i entry p at_i
                      at_p f fewer;
                  when = ends;
                }))
              where
                few : (d : ℕ) → steps_in counter (take i m.control) + passes ≡ trips + suc d
                    → pass_start loop (suc d) ≡ pass_start loop (suc pass)
                    → steps_in counter (take i m.control) < trips
                few d sum same =
                    ⊎_elim {C = steps_in counter (take i m.control) < trips}
                    (λ (u : suc d < passes). omega arith)
                    (λ (u : passes ≤ suc d).
                    grind (arith, starts_above loop is (suc pass) (suc d)))
                    (cases_lt (suc d) passes)

    pub steers : Steers loop.text loop.first visits (last_row loop) (cycles_of loop passes) did
    steers = record {
      along = loop_along loop is passes m.some issued turns_there turns_else;
      over = λ p target c e. (
          let g : Goes p target = goes p target (In_from_Contains p rows c) e in
          let ends : p.cycle + 6 ≡ pass_start loop (suc g.pass) = g.ends in
          let l : suc g.pass < passes = g.more in
          let u : pass_start loop (suc g.pass) ≤ pass_start loop passes = starts_below loop is (suc g.pass) passes
          (omega arith) in
          let v : pass_start loop passes ≤ cycles_of loop passes = end_later loop.text (epilog_row loop)
          (pass_start loop passes) loop.epilog in omega arith);
    }
