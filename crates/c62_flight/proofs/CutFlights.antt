-- A flight that is cut in two.
use Rattle.std.proofs.Common.{◌≡◌, ℕ, zero, suc, ◌+◌, ◌-◌, ◌<◌, ◌≤◌, Bool, true, false, ◌&&◌, cond, eqb}
use Rattle.std.proofs.Common.{List, [], ◌∷◌, ◌++◌, map, Option, Some, None, refl, sym, ◌∙◌, ap, subst, inl, inr}
use Rattle.std.proofs.Common.{arith}
use Rattle.std.specs.Prelude.{is_some, option_map, filter}
use Rattle.std.specs.List.{list_any}
use Rattle.std.specs.Option.{option_or}
use Rattle.std.proofs.lemmas.Bool.{cond-false, and_left, and_right, ne_eqb, le-ltb}
use Rattle.c62_op.specs.declared.register.Reg.{Reg}
use Rattle.c62_insn.specs.declared.effect.Target.{Target}
use Rattle.c62_serial.specs.Effect.{Act}
use Rattle.c62_packet.specs.declared.placed.Placed.{Placed}
use Rattle.c62_meaning.specs.Packet.{Did}
use Rattle.c62_meaning.specs.Cut.{moved, since, behind}
use Rattle.c62_meaning.proofs.Lookup.{In, Contains_from_In}
use Rattle.c62_meaning.proofs.MovedLandings.{ltb_moved}
use Rattle.c62_flight.specs.declared.stop.Stop.{Stop}
use Rattle.c62_flight.specs.declared.stop.Stop.TheVariants.{Clash}
use Rattle.c62_flight.specs.Text.{Text, Position, row_of, position_after}
use Rattle.c62_flight.specs.Issued.{Visit, Issued, goes_in, turn, over, over_of, is_in_flight}
use Rattle.c62_flight.specs.Broken.{has_branched, two_branches, lands_in, met_by, clash, broken, IsWholeBefore}
use Rattle.c62_flight.specs.Flight.{ended, Leads, Stops}
use Rattle.c62_flight.specs.Cut.{IsDrained}
use Rattle.c62_flight.proofs.Lists.{first_of-none, first_of-same, first_of-behind, first_of-map, list_any-same}
use Rattle.c62_flight.proofs.Lists.{list_any-behind, list_any-map, filter-same, filter-behind, filter-map, find-same}
use Rattle.c62_flight.proofs.Lists.{find-map}
use Rattle.c62_flight.proofs.Fronts.{over_later}
use Rattle.c62_flight.proofs.LaterPaths.{visit_later, eqb-both, eqb-more, leb-both}
use Rattle.std.proofs.lemmas.Bool.Decides.{nat_tests}

-- ---- a cut

-- what was issued before a cycle, when nothing is in flight, and behind it
pub record IsParted (k : ℕ) (front rest : List Placed) (did did' : Did) : Type 0 where
  pub drained : IsDrained (record { placed = front; did = did }) k
  pub same : (p : Placed) → In p rest → since k did p ≡ did' p

module _ (k : ℕ) (front rest : List Placed) (did did' : Did) (parted : IsParted k front rest did did') where
  -- ---- branches

  goes_not : (c : ℕ) (p : Placed) → 0 < c → In p front → goes_in did (k + c) p ≡ None
  goes_not c p l h = by_target (did p).target refl
    where
      by_target : (o : Option Target) → (did p).target ≡ o → goes_in did (k + c) p ≡ None
      by_target None e = ap (λ o. cond (eqb (p.cycle + 6) (k + c)) o None) e ∙ same (eqb (p.cycle + 6) (k + c))
        where
          same : (b : Bool) → cond {A = Option Target} b None None ≡ None
          same true = refl
          same false = refl
      by_target (Some target) e = cond-false _ _ _
          (ne_eqb _ _ (λ (s : p.cycle + 6 ≡ k + c). let u : p.cycle + 6 ≤ k = parted.drained.branches p target
          (Contains_from_In p front h) e in omega arith))

  turn_behind : (c : ℕ) → 0 < c
      → turn (record { placed = behind k front rest; did = did }) (k + c) ≡ turn
      (record { placed = rest; did = did' }) c
  turn_behind c l = grind (arith, nat_tests, first_of-behind, goes_not, first_of-map, first_of-same, eqb-more)

  over_behind : (start idle : ℕ)
      → over (record { placed = behind k front rest; did = did }) (k + start) idle ≡ k + over
      (record { placed = rest; did = did' }) start idle
  over_behind start zero = omega arith
  over_behind start (suc idle) = grind (arith, over_behind (start + 1) idle, turn_behind (start + 1))

  flight_not : (c : ℕ) (p : Placed) → In p front → is_in_flight did (k + c) p ≡ false
  flight_not c p h = by_target (did p).target refl
    where
      by_target : (o : Option Target) → (did p).target ≡ o → is_in_flight did (k + c) p ≡ false
      by_target None e = and_left _ _ (ap is_some e)
      by_target (Some target) e =
          (let u : p.cycle + 6 ≤ k = parted.drained.branches p target (Contains_from_In p front h) e in and_right _
          _ (and_right _ _ (le-ltb (k + c) (p.cycle + 6) (omega arith))))

  flight_behind : (c : ℕ)
      → list_any (is_in_flight did (k + c)) (behind k front rest) ≡ list_any (is_in_flight did' c) rest
  flight_behind c = grind (arith, nat_tests, list_any-behind, flight_not, list_any-map, list_any-same, ltb_moved)

  ended_behind : (text : Text) (more : ℕ) (position : Position) (c : ℕ)
      → ended text (k + more) (record { placed = behind k front rest; did = did }) position (k + c) ≡ ended text more
      (record { placed = rest; did = did' }) position c
  ended_behind text more position c = grind (arith, flight_behind, leb-both)

  -- ---- broken cycles

  two_later : (ps : List Placed) → two_branches (map (moved k) ps) ≡ two_branches ps
  two_later ps = grind arith

  branched_behind : (c : ℕ)
      → two_branches (filter (has_branched did (k + c)) (behind k front rest)) ≡ two_branches
      (filter (has_branched did' c) rest)
  branched_behind c =
      ap two_branches
      (filter-behind (has_branched did (k + c)) front (map (moved k) rest)
      (λ p h. and_left _ _ (ne_eqb _ _
      (λ (e : p.cycle ≡ k + c). let l : p.cycle < k = parted.drained.all.before p (Contains_from_In p front h)
      in omega arith)))
      ∙ filter-map (has_branched did (k + c)) (moved k) rest
      ∙ ap (map (moved k))
      (filter-same (λ p. has_branched did (k + c) (moved k p)) (has_branched did' c) rest
      (λ p h. ap (λ b. b && is_some (did (moved k p)).target) (eqb-both k p.cycle c)
      ∙ ap (λ (a : Act). eqb p.cycle c && is_some a.target) (parted.same p h))))
      ∙ two_later (filter (has_branched did' c) rest)

  lands_later : (c : ℕ) (reg : Reg) (p : Placed) → did (moved k p) ≡ did' p
      → lands_in did reg (k + c) (moved k p) ≡ lands_in did' reg c p
  lands_later c reg p e = grind (arith, list_any-same, eqb-more k p.cycle)

  lines_same : (reg : Reg) (line : ℕ) (o : Option Placed)
      → option_map (λ (q : Placed). Clash reg line q.line) (option_map (moved k) o) ≡ option_map
      (λ (q : Placed). Clash reg line q.line) o
  lines_same reg line o = grind arith

  met_later : (c : ℕ) (p : Placed) (ps : List Placed) (write : (Reg × ℕ) × ℕ)
      → ((q : Placed) → In q ps → did (moved k q) ≡ did' q)
      → met_by did (k + c) (moved k p) (map (moved k) ps) write ≡ met_by did' c p ps write
  met_later c p ps write same = grind (arith, nat_tests, eqb-more, find-map, lines_same, find-same, lands_later)

  clash_later : (c : ℕ) (ps : List Placed) → ((q : Placed) → In q ps → did (moved k q) ≡ did' q)
      → clash did (k + c) (map (moved k) ps) ≡ clash did' c ps
  clash_later c [] same = refl
  clash_later c (p ∷ ps) same = grind (arith, nat_tests, clash_later c ps, first_of-same, met_later)

  clash_not : (c : ℕ) (ps qs : List Placed) → ((p : Placed) → In p ps → In p front)
      → clash did (k + c) (ps ++ qs) ≡ clash did (k + c) qs
  clash_not c [] qs h = refl
  clash_not c (p ∷ ps) qs h =
      ap (λ o. option_or o (clash did (k + c) (ps ++ qs)))
      (first_of-none (met_by did (k + c) p (ps ++ qs)) (did p).writes
      (λ write w. cond-false _ _ _
      (ne_eqb _ _ (λ (e : p.cycle + write.0.1 ≡ k + c). let l : p.cycle + write.0.1 < k =
      parted.drained.all.landed p write (Contains_from_In p front (h p (inl refl)))
      (Contains_from_In write (did p).writes w) in omega arith))))
      ∙ clash_not c ps qs (λ q m. h q (inr m))

  pub broken_behind : (c : ℕ)
      → broken (record { placed = behind k front rest; did = did }) (k + c) ≡ broken
      (record { placed = rest; did = did' }) c
  broken_behind c = grind (arith, nat_tests, branched_behind, clash_not, clash_later)

  -- ---- the rest of the path and its stop

  module _ (text : Text) (more : ℕ) (whole : IsWholeBefore (record { placed = behind k front rest; did = did }) k) where
    whole_behind : (cycle : ℕ) → IsWholeBefore (record { placed = rest; did = did' }) cycle
        → IsWholeBefore (record { placed = behind k front rest; did = did }) (k + cycle)
    whole_behind cycle w c l = grind (arith, broken_behind (c - k))

    pub leads_behind : (position : Position) (cycle : ℕ) (path : List Visit) (last : Position) (end : ℕ)
        → Leads text more (record { placed = rest; did = did' }) position cycle path last end
        → Leads text (k + more) (record { placed = behind k front rest; did = did }) position (k + cycle)
        (map (visit_later k) path) last (k + end)
    leads_behind position cycle [] last end leads = (leads.0, ap (λ n. k + n) leads.1)
    leads_behind position cycle (visit ∷ path) last end leads =
        let one : Issued = record { placed = rest; did = did' } in
        let all : Issued = record { placed = behind k front rest; did = did } in
        let u : visit.start < over_of text one visit = over_later one visit.start (row_of text visit.row).idle in
        let overs : k + over_of text one visit ≡ over_of text all (visit_later k visit) = sym
        (over_behind visit.start (row_of text visit.row).idle) in
        let turns : turn one (over_of text one visit) ≡ turn all (over_of text all (visit_later k visit))
        = sym (turn_behind (over_of text one visit) (omega arith)) ∙ ap (λ c. turn all c) overs in
        let others : Leads text (k + more) all (position_after text visit.row (turn one (over_of text one visit)))
        (k + over_of text one visit) (map (visit_later k) path) last (k + end)
        = leads_behind (position_after text visit.row (turn one (over_of text one visit))) (over_of text one visit) path
        last end leads.1 in (
          record {
            there = leads.0.there;
            when = ap (λ n. k + n) leads.0.when;
            on = ended_behind text more position cycle ∙ leads.0.on;
            whole = whole_behind cycle leads.0.whole;
          },
          subst (λ c. Leads text (k + more) all
              (position_after text visit.row (turn all (over_of text all (visit_later k visit)))) c
              (map (visit_later k) path) last (k + end)) overs
              (subst (λ o. Leads text (k + more) all (position_after text visit.row o) (k + over_of text one visit)
              (map (visit_later k) path) last (k + end)) turns others),
        )

    pub stops_behind : (last : Position) (end : ℕ) (stop : Stop) (cycles : ℕ)
        → Stops text more (record { placed = rest; did = did' }) last end stop cycles
        → Stops text (k + more) (record { placed = behind k front rest; did = did }) last (k + end) stop (k + cycles)
    stops_behind last end stop cycles (inl b) = grind (
      arith,
      whole_behind b.cycle b.whole,
      broken_behind b.cycle,
      ended_behind text more last end,
    )
    stops_behind last end stop cycles (inr e) =
        inr (record {
          whole = λ c. whole_behind (c + 1) (λ n _. e.whole n) c (omega arith);
          ends = ended_behind text more last end ∙ e.ends;
          told = ap (λ n. k + n) e.told;
        })
