-- Where branches go that are the same but for the numbers of labels, and what is in flight.
use Rattle.std.proofs.Common.{◌≡◌, ℕ, zero, suc, ◌+◌, true, cond, List, [], ◌∷◌}
use Rattle.std.proofs.Common.{length, Option, refl, sym, ◌∙◌, ap, subst, inl, inr}
use Rattle.std.specs.Prelude.{◌↔◌, is_some, option_map, filter, find}
use Rattle.std.specs.List.{list_any}
use Rattle.std.specs.Option.{option_or}
use Rattle.c62_op.specs.declared.register.Reg.{Reg}
use Rattle.c62_insn.specs.declared.effect.Target.{Target}
use Rattle.c62_serial.specs.Effect.{is_fault}
use Rattle.c62_packet.specs.declared.placed.Placed.{Placed}
use Rattle.c62_meaning.specs.Packet.{Did}
use Rattle.c62_meaning.specs.Meaning.{HasFaulted}
use Rattle.c62_meaning.proofs.Lookup.{In, In_from_Contains, Contains_from_In}
use Rattle.c62_flight.specs.declared.stop.Stop.{Stop}
use Rattle.c62_flight.specs.declared.stop.Stop.TheVariants.{Clash}
use Rattle.c62_flight.specs.Text.{Text, Position, row_of, position_after}
use Rattle.c62_flight.specs.Issued.{Visit, Issued, first_of, goes_in, turn, over, over_of, is_in_flight}
use Rattle.c62_flight.specs.Broken.{has_branched, two_branches, lands_in, met_by, clash, broken}
use Rattle.c62_flight.specs.Flight.{ended, Leads, Stops}
use Rattle.c62_flight.specs.Numbered.{IsSameText}
use Rattle.c62_flight.proofs.Lists.{first_of-same}
use Rattle.c62_flight.proofs.AlikeActs.{TargetAlike, Alike, AllAlike, DoAlike}
use Rattle.std.proofs.lemmas.Bool.Decides.{nat_tests}
use Rattle.std.proofs.Common.{arith}

module _ (text other : Text) where
  -- ---- branches

  some_alike : (a b : Option Target) → TargetAlike text other a b → is_some a ≡ is_some b
  some_alike a b h = grind arith

  stands_alike : length text.rows ≡ length other.rows → (row : ℕ) (a b : Option Target) → TargetAlike text other a b
      → position_after text row a ≡ position_after other row b
  stands_alike count row a b h = grind arith

  module _ (did did' : Did) (acts : DoAlike text other did did') where
    turn_alike : (c : ℕ) (ps qs : List Placed) → AllAlike text other ps qs
        → TargetAlike text other (first_of (goes_in did c) ps) (first_of (goes_in did' c) qs)
    turn_alike c [] qs h = grind arith
    turn_alike c (p ∷ ps) qs h = grind (arith, turn_alike c ps)

    over_alike : (ps qs : List Placed) → AllAlike text other ps qs → (start idle : ℕ)
        → over (record { placed = ps; did = did }) start idle ≡ over (record { placed = qs; did = did' }) start idle
    over_alike ps qs h start zero = refl
    over_alike ps qs h start (suc idle) =
        ap (λ b. cond b (start + 1) (over (record { placed = ps; did = did }) (start + 1) idle))
        (some_alike (turn (record { placed = ps; did = did }) (start + 1))
        (turn (record { placed = qs; did = did' }) (start + 1)) (turn_alike (start + 1) ps qs h))
        ∙ ap (λ n. cond (is_some (turn (record { placed = qs; did = did' }) (start + 1))) (start + 1) n)
        (over_alike ps qs h (start + 1) idle)

    any_alike : (c : ℕ) (ps qs : List Placed) → AllAlike text other ps qs
        → list_any (is_in_flight did c) ps ≡ list_any (is_in_flight did' c) qs
    any_alike c [] qs h = grind arith
    any_alike c (p ∷ ps) qs h = grind (arith, any_alike c ps)

    ended_alike : (limit : ℕ) (ps qs : List Placed) → AllAlike text other ps qs → length text.rows ≡ length other.rows
        → (position : Position) (c : ℕ)
        → ended text limit (record { placed = ps; did = did }) position c ≡ ended other limit
        (record { placed = qs; did = did' }) position c
    ended_alike limit ps qs h count position c = grind (arith, any_alike)

    -- ---- broken cycles

    filter_alike : (c : ℕ) (ps qs : List Placed) → AllAlike text other ps qs
        → AllAlike text other (filter (has_branched did c) ps) (filter (has_branched did' c) qs)
    filter_alike c [] qs h = grind arith
    filter_alike c (p ∷ ps) qs h = grind (arith, filter_alike c ps)

    two_alike : (ps qs : List Placed) → AllAlike text other ps qs → two_branches ps ≡ two_branches qs
    two_alike ps qs h = grind arith

    found_alike : (reg : Reg) (line c : ℕ) (ps qs : List Placed) → AllAlike text other ps qs
        → option_map (λ (q : Placed). Clash reg line q.line) (find (lands_in did reg c) ps) ≡ option_map
        (λ (q : Placed). Clash reg line q.line) (find (lands_in did' reg c) qs)
    found_alike reg line c [] [] h = refl
    found_alike reg line c [] (q ∷ qs) h = absurd h
    found_alike reg line c (p ∷ ps) [] h = absurd h
    found_alike reg line c (p ∷ ps) (q ∷ qs) h = grind (arith, nat_tests, found_alike reg line c ps qs h.1)

    met_alike : (c : ℕ) (p q : Placed) (ps qs : List Placed) (write : (Reg × ℕ) × ℕ) → Alike text other p q
        → AllAlike text other ps qs
        → met_by did c p ps write ≡ met_by did' c q qs write
    met_alike c p q ps qs write a h = grind (arith, found_alike write.0.0 q.line c ps qs h)

    clash_alike : (c : ℕ) (ps qs : List Placed) → AllAlike text other ps qs → clash did c ps ≡ clash did' c qs
    clash_alike c [] [] h = refl
    clash_alike c [] (q ∷ qs) h = absurd h
    clash_alike c (p ∷ ps) [] h = absurd h
    clash_alike c (p ∷ ps) (q ∷ qs) h = grind (arith, nat_tests, clash_alike c ps qs h.1, first_of-same, met_alike)

    broken_alike : (c : ℕ) (ps qs : List Placed) → AllAlike text other ps qs
        → broken (record { placed = ps; did = did }) c ≡ broken (record { placed = qs; did = did' }) c
    broken_alike c ps qs h =
        ap (λ o. option_or o (clash did c ps))
        (two_alike (filter (has_branched did c) ps) (filter (has_branched did' c) qs) (filter_alike c ps qs h))
        ∙ ap (λ o. option_or (two_branches (filter (has_branched did' c) qs)) o) (clash_alike c ps qs h)

    -- ---- the path and the stop

    pub leads_alike : (limit : ℕ) (ps qs : List Placed) → AllAlike text other ps qs → IsSameText text other
        → (position : Position) (cycle : ℕ) (path : List Visit) (last : Position) (end : ℕ)
        → Leads text limit (record { placed = ps; did = did }) position cycle path last end
        → Leads other limit (record { placed = qs; did = did' }) position cycle path last end
    leads_alike limit ps qs h same position cycle [] last end leads = leads
    leads_alike limit ps qs h same position cycle (visit ∷ path) last end leads =
        let one : Issued = record { placed = ps; did = did } in
        let two : Issued = record { placed = qs; did = did' } in
        let overs : over_of text one visit ≡ over_of other two visit
        = over_alike ps qs h visit.start (row_of text visit.row).idle
        ∙ ap (λ idle. over two visit.start idle) (same.idle visit.row) in
        let stands : position_after text visit.row (turn one (over_of text one visit)) ≡ position_after other visit.row
        (turn two (over_of other two visit))
        = stands_alike same.count visit.row (turn one (over_of text one visit)) (turn two (over_of text one visit))
        (turn_alike (over_of text one visit) ps qs h)
        ∙ ap (λ c. position_after other visit.row (turn two c)) overs in (
          record {
            there = leads.0.there;
            when = leads.0.when;
            on = sym (ended_alike limit ps qs h same.count position cycle) ∙ leads.0.on;
            whole = λ c l. sym (broken_alike c ps qs h) ∙ leads.0.whole c l;
          },
          subst (λ p. Leads other limit two p (over_of other two visit) path last end) stands
              (subst (λ c. Leads other limit two (position_after text visit.row (turn one (over_of text one visit))) c
              path last end) overs
              (leads_alike limit ps qs h same (position_after text visit.row (turn one (over_of text one visit)))
              (over_of text one visit) path last end leads.1)),
        )

    pub stops_alike : (limit : ℕ) (ps qs : List Placed) → AllAlike text other ps qs → IsSameText text other
        → (last : Position) (end : ℕ) (stop : Stop) (cycles : ℕ)
        → Stops text limit (record { placed = ps; did = did }) last end stop cycles
        → Stops other limit (record { placed = qs; did = did' }) last end stop cycles
    stops_alike limit ps qs h same last end stop cycles (inl b) =
        inl (record {
          cycle = b.cycle;
          whole = λ c l. sym (broken_alike c ps qs h) ∙ b.whole c l;
          breaks = sym (broken_alike b.cycle ps qs h) ∙ b.breaks;
          seen = elim b.seen [
            | inl l ↦ inl l
            | inr e ↦ inr (ap is_some (sym (ended_alike limit ps qs h same.count last end)) ∙ e)
          ];
          told = b.told;
        })
    stops_alike limit ps qs h same last end stop cycles (inr e) =
        inr (record {
          whole = λ c. sym (broken_alike c ps qs h) ∙ e.whole c;
          ends = sym (ended_alike limit ps qs h same.count last end) ∙ e.ends;
          told = e.told;
        })

    -- ---- faults

    partner : (ps qs : List Placed) → AllAlike text other ps qs → (p : Placed) → In p ps → (q : Placed) × In q qs
        × Alike text other p q
    partner [] [] h p k = absurd k
    partner [] (q ∷ qs) h p k = absurd h
    partner (r ∷ ps) [] h p k = absurd h
    partner (r ∷ ps) (q ∷ qs) h p (inl e) = (q, inl refl, subst (λ z. Alike text other z q) e h.0)
    partner (r ∷ ps) (q ∷ qs) h p (inr k) = let t = partner ps qs h.1 p k in (t.0, inr t.1, t.2)

    partner_back : (ps qs : List Placed) → AllAlike text other ps qs → (q : Placed) → In q qs → (p : Placed) × In p ps
        × Alike text other p q
    partner_back [] [] h q k = absurd k
    partner_back [] (r ∷ qs) h q k = absurd h
    partner_back (p ∷ ps) [] h q k = absurd h
    partner_back (p ∷ ps) (r ∷ qs) h q (inl e) = (p, inl refl, subst (λ z. Alike text other p z) e h.0)
    partner_back (p ∷ ps) (r ∷ qs) h q (inr k) = let t = partner_back ps qs h.1 q k in (t.0, inr t.1, t.2)

    pub faulted_alike : (ps qs : List Placed) (line : ℕ) → AllAlike text other ps qs
        → HasFaulted ps did line ↔ HasFaulted qs did' line
    faulted_alike ps qs line h = (
      (λ f. let t = partner ps qs h f.placed (In_from_Contains f.placed ps f.inside) in record {
        placed = t.0;
        inside = Contains_from_In t.0 qs t.1;
        of_line = sym t.2.same.line ∙ f.of_line;
        faults = subst (λ access. is_fault access ≡ true) (acts f.placed t.0 t.2).access f.faults;
      }),
      (λ f. let t = partner_back ps qs h f.placed (In_from_Contains f.placed qs f.inside) in record {
        placed = t.0;
        inside = Contains_from_In t.0 ps t.1;
        of_line = t.2.same.line ∙ f.of_line;
        faults = subst (λ access. is_fault access ≡ true) (sym (acts t.0 f.placed t.2).access) f.faults;
      }),
    )
