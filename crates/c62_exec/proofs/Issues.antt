-- A packet is issued.
use Rattle.std.proofs.Common.{◌≡◌, ℕ, suc, ◌+◌, ◌<◌, ◌≤◌, List, [], ◌∷◌, ◌++◌, length, get_or, drop, map, Option, Some}
use Rattle.std.proofs.Common.{None, refl, sym, ◌∙◌, ap, subst, ⊎_elim, inl, inr, arith}
use Rattle.std.specs.Prelude.{fold}
use Rattle.std.proofs.Math.ListN.{drop_of_length-le}
use Rattle.std.proofs.lemmas.Bool.{cases_lt}
use Rattle.std.proofs.lemmas.List.{drop_more}
use Rattle.c62_insn.specs.declared.effect.Target.{Target}
use Rattle.c62_serial.specs.State.{Machine}
use Rattle.c62_serial.specs.Effect.{Act}
use Rattle.c62_packet.specs.declared.placed.Placed.{Placed}
use Rattle.c62_packet.specs.Packed.{listing_position}
use Rattle.c62_meaning.specs.Packet.{Did}
use Rattle.c62_meaning.proofs.Lookup.{In}
use Rattle.c62_meaning.proofs.Runs.{the_run}
use Rattle.c62_pipe.specs.Flight.{Flight, act_at}
use Rattle.c62_pipe.proofs.Order.{Ascends}
use Rattle.c62_pipe.proofs.Flying.{Flying, In-drop, does, IsReady, is_ready, issue_step}
use Rattle.c62_flight.specs.Issued.{issue_in}
use Rattle.c62_exec.specs.declared.taken.Taken.{Taken}
use Rattle.c62_exec.specs.Step.{Issuing, Fit, issue_one, issue_all, taken_with}

-- the branches that ran, of what instructions did
abbrev pub taken_by : Did → Taken → Placed → Taken
taken_by did taken p = taken_with taken (did p).target p.line

next_there : (ps rest : List Placed) (n : ℕ) (p : Placed) → drop n ps ≡ p ∷ rest → n < length ps
next_there ps rest n p e =
    ⊎_elim {C = n < length ps} (λ l. l) (λ g. let none : [] ≡ p ∷ rest = sym (drop_of_length-le ps g)
    ∙ e in absurd cc) (cases_lt n (length ps))

cons_parts : (p q : Placed) (ps qs : List Placed) → p ∷ ps ≡ q ∷ qs → (p ≡ q) × (ps ≡ qs)
cons_parts p q ps qs e = (cc, cc)

module _ (block : List Placed) (opening : Machine) (cycle : ℕ) (ascends : Ascends block) where
  -- so many instructions of the block are issued, and then these
  pub record AllIssued (ps : List Placed) (next : ℕ) (now : Issuing) : Type 0 where
    pub fit : Fit cycle ps now.flight now.machine
    pub upto : ℕ
    pub flying : Flying block opening cycle (next + length ps) upto (issue_all cycle now ps).flight
        (issue_all cycle now ps).machine
    pub taken : (issue_all cycle now ps).taken ≡ fold (taken_by (the_run block opening)) now.taken
        (map (issue_in cycle) ps)

  pub all_issued : (ps : List Placed) (next upto : ℕ) (now : Issuing)
      → Flying block opening cycle next upto now.flight now.machine → drop next block ≡ map (issue_in cycle) ps
      → AllIssued ps next now
  all_issued [] next upto now h rest =
      record {
        fit = tt;
        upto = upto;
        flying = subst (λ n. Flying block opening cycle n upto now.flight now.machine)
            (let e : next ≡ next + 0 = omega arith in e) h;
        taken = refl;
      }
  all_issued (p ∷ ps) next upto now h rest =
      let l : next < length block = next_there block (map (issue_in cycle) ps) next (issue_in cycle p) rest in
      let more : drop next block ≡ get_or block next (issue_in cycle p) ∷ drop (next + 1) block = drop_more block next
      (issue_in cycle p) l in
      let parts : (get_or block next (issue_in cycle p) ≡ issue_in cycle p)
      × (drop (next + 1) block ≡ map (issue_in cycle) ps)
      = cons_parts (get_or block next (issue_in cycle p)) (issue_in cycle p) (drop (next + 1) block)
      (map (issue_in cycle) ps) (sym more ∙ rest) in
      let inside : In (issue_in cycle p) (drop next block) = subst (λ qs. In (issue_in cycle p) qs) (sym rest)
      (inl refl) in
      let ready : IsReady cycle (issue_in cycle p) now.machine now.flight = is_ready block opening cycle next upto
      now.flight now.machine (issue_in cycle p) h inside refl in
      let same : act_at (issue_in cycle p) now.machine ≡ the_run block opening (issue_in cycle p)
      = does block opening cycle next upto now.flight now.machine (issue_in cycle p) h
      (In-drop block next (issue_in cycle p) inside) refl in
      let step : Flying block opening cycle (next + 1) (listing_position (issue_in cycle p) + 1)
      (issue_one cycle now p).flight (issue_one cycle now p).machine
      = issue_step block opening cycle next upto now.flight now.machine (issue_in cycle p) ascends h l parts.0 refl in
      let others : AllIssued ps (next + 1) (issue_one cycle now p) = all_issued ps (next + 1)
      (listing_position (issue_in cycle p) + 1) (issue_one cycle now p) step parts.1 in
      let count : next + 1 + length ps ≡ next + suc (length ps) = omega arith in
      record {
        fit = (ready.few, ready.fits, others.fit);
        upto = others.upto;
        flying = subst (λ n. Flying block opening cycle n others.upto
            (issue_all cycle (issue_one cycle now p) ps).flight
            (issue_all cycle (issue_one cycle now p) ps).machine) count others.flying;
        taken = others.taken
            ∙ ap (λ (x : Act). fold (taken_by (the_run block opening)) (taken_with now.taken x.target p.line)
            (map (issue_in cycle) ps)) same;
      }
