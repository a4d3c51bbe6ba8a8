-- Texts that hold the same packets, whatever their lines, fly alike.
use Rattle.std.proofs.Common.{◌≡◌, ℕ, zero, suc, ◌+◌, Bool, true, false, cond, List, [], ◌∷◌, ◌++◌, length, map}
use Rattle.std.proofs.Common.{Option, Some, None, refl, sym, ◌∙◌, ap, subst, inl, inr, arith}
use Rattle.std.specs.Prelude.{is_some, option_map, filter, find, if◌then◌else◌}
use Rattle.std.specs.List.{list_any}
use Rattle.std.specs.Option.{option_or}
use Rattle.std.proofs.lemmas.Bool.{false≢true}
use Rattle.std.proofs.lemmas.Bool.Decides.{nat_tests}
use Rattle.std.proofs.lemmas.List.{length-map}
use Rattle.std.proofs.lemmas.Option.{none-some, same_Some}
use Rattle.c62_op.specs.declared.register.Reg.{Reg}
use Rattle.c62_insn.specs.declared.effect.Target.{Target}
use Rattle.c62_rules.specs.PacketRules.{Issue}
use Rattle.c62_packet.specs.declared.placed.Placed.{Placed}
use Rattle.c62_packet.specs.Packed.{issue_of, issues_of}
use Rattle.c62_meaning.specs.Packet.{Did}
use Rattle.c62_flight.specs.declared.stop.Stop.{Stop}
use Rattle.c62_flight.specs.declared.stop.Stop.TheVariants.{Clash, Branches}
use Rattle.c62_flight.specs.Text.{Row, Text, Position, row_of, position_after}
use Rattle.c62_flight.specs.Issued.{Visit, Issued, issue_in, issued_in, issued_on, first_of, goes_in, turn, over, over_of, is_in_flight}
use Rattle.c62_flight.specs.Broken.{has_branched, two_branches, lands_in, met_by, clash, broken}
use Rattle.c62_flight.specs.Flight.{ended, Leads, Stops}
use Rattle.c62_loop_match.specs.Reading.{unlined}
use Rattle.c62_check_loop.specs.Relined.{row_unlined, AreRelined}
use Rattle.c62_check_whole.specs.Lined.{IsLineless}

-- ---- what both issue

row_at : (rows others : List Row) → map row_unlined rows ≡ map row_unlined others → (k : ℕ)
    → row_unlined (row_of (record { rows = rows; aims = [] }) k)
    ≡ row_unlined (row_of (record { rows = others; aims = [] }) k)
row_at [] [] same k = refl
row_at [] (other ∷ others) same k = absurd cc
row_at (row ∷ rows) [] same k = absurd cc
row_at (row ∷ rows) (other ∷ others) same zero = cc
row_at (row ∷ rows) (other ∷ others) same (suc k) =
    let rest : map row_unlined rows ≡ map row_unlined others = cc in row_at rows others rest k

row_issues : (c : ℕ) (ps qs : List Placed) → map unlined ps ≡ map unlined qs
    → issues_of (map (issue_in c) ps) ≡ issues_of (map (issue_in c) qs)
row_issues c [] [] same = refl
row_issues c [] (q ∷ qs) same = absurd cc
row_issues c (p ∷ ps) [] same = absurd cc
row_issues c (p ∷ ps) (q ∷ qs) same =
    let one : unlined p ≡ unlined q = cc in
    let rest : map unlined ps ≡ map unlined qs = cc in
    ap (λ (r : Placed). issue_of (issue_in c r) ∷ issues_of (map (issue_in c) ps)) one
    ∙ ap (λ (is : List Issue). issue_of (issue_in c q) ∷ is) (row_issues c ps qs rest)

issues_both : (xs ys : List Placed) → issues_of (xs ++ ys) ≡ issues_of xs ++ issues_of ys
issues_both [] ys = refl
issues_both (x ∷ xs) ys = ap (λ (is : List Issue). issue_of x ∷ is) (issues_both xs ys)

module _ (text other : Text) (relined : AreRelined text other) where
  pub row_same : (k : ℕ) → row_unlined (row_of text k) ≡ row_unlined (row_of other k)
  row_same k = row_at text.rows other.rows relined.rows k

  as_many : length text.rows ≡ length other.rows
  as_many = sym (length-map text.rows row_unlined)
      ∙ (ap (λ (rs : List Row). length rs) relined.rows ∙ length-map other.rows row_unlined)

  pub issues_alike : (path : List Visit) → issues_of (issued_on text path) ≡ issues_of (issued_on other path)
  issues_alike [] = refl
  issues_alike (visit ∷ path) =
      issues_both (issued_in text visit) (issued_on text path)
      ∙ (ap (λ (is : List Issue). is ++ issues_of (issued_on text path))
      (row_issues visit.start (row_of text visit.row).insns (row_of other visit.row).insns
      (ap (λ (r : Row). r.insns) (row_same visit.row)))
      ∙ ap (λ (is : List Issue). issues_of (issued_in other visit) ++ is) (issues_alike path))
      ∙ sym (issues_both (issued_in other visit) (issued_on other path))

  stands_alike : (row : ℕ) (target : Option Target) → position_after text row target ≡ position_after other row target
  stands_alike row target = grind (arith, relined.aims, as_many)

  module _ (did did' : Did) where
    -- ---- what both do

    abbrev pub AllAlike : List Placed → List Placed → Type 0
    AllAlike [] [] = Unit {0}
    AllAlike (p ∷ ps) (q ∷ qs) = (p.cycle ≡ q.cycle) × (did p ≡ did' q) × AllAlike ps qs
    AllAlike _ _ = ⊥

    pub all_alike : (ps qs : List Placed) → issues_of ps ≡ issues_of qs → map did ps ≡ map did' qs → AllAlike ps qs
    all_alike [] [] same acts = tt
    all_alike [] (q ∷ qs) same acts = absurd cc
    all_alike (p ∷ ps) [] same acts = absurd cc
    all_alike (p ∷ ps) (q ∷ qs) same acts =
        let one : issue_of p ≡ issue_of q = cc in
        let act : did p ≡ did' q = cc in
        let rest : issues_of ps ≡ issues_of qs = cc in
        let more : map did ps ≡ map did' qs = cc in
        (ap (λ (i : Issue). i.cycle) one, act, all_alike ps qs rest more)

    turn_alike : (c : ℕ) (ps qs : List Placed) → AllAlike ps qs → first_of (goes_in did c) ps ≡ first_of (goes_in did' c) qs
    turn_alike c [] [] h = refl
    turn_alike c [] (q ∷ qs) h = absurd h
    turn_alike c (p ∷ ps) [] h = absurd h
    turn_alike c (p ∷ ps) (q ∷ qs) h = grind (arith, turn_alike c ps qs h.2)

    over_alike : (ps qs : List Placed) → AllAlike ps qs → (start idle : ℕ)
        → over (record { placed = ps; did = did }) start idle ≡ over (record { placed = qs; did = did' }) start idle
    over_alike ps qs h start zero = refl
    over_alike ps qs h start (suc idle) =
        ap (λ (t : Option Target). cond (is_some t) (start + 1)
        (over (record { placed = ps; did = did }) (start + 1) idle)) (turn_alike (start + 1) ps qs h)
        ∙ ap (λ n. cond (is_some (turn (record { placed = qs; did = did' }) (start + 1))) (start + 1) n)
        (over_alike ps qs h (start + 1) idle)

    any_alike : (c : ℕ) (ps qs : List Placed) → AllAlike ps qs
        → list_any (is_in_flight did c) ps ≡ list_any (is_in_flight did' c) qs
    any_alike c [] [] h = refl
    any_alike c [] (q ∷ qs) h = absurd h
    any_alike c (p ∷ ps) [] h = absurd h
    any_alike c (p ∷ ps) (q ∷ qs) h = grind (arith, any_alike c ps qs h.2)

    ended_alike : (limit : ℕ) (ps qs : List Placed) → AllAlike ps qs → (position : Position) (c : ℕ)
        → ended text limit (record { placed = ps; did = did }) position c
        ≡ ended other limit (record { placed = qs; did = did' }) position c
    ended_alike limit ps qs h position c = grind (arith, as_many, any_alike c ps qs h)

    -- ---- broken cycles

    filter_alike : (c : ℕ) (ps qs : List Placed) → AllAlike ps qs
        → AllAlike (filter (has_branched did c) ps) (filter (has_branched did' c) qs)
    filter_alike c [] [] h = tt
    filter_alike c [] (q ∷ qs) h = absurd h
    filter_alike c (p ∷ ps) [] h = absurd h
    filter_alike c (p ∷ ps) (q ∷ qs) h = grind (arith, filter_alike c ps qs h.2)

    two_alike : (ps qs : List Placed) → AllAlike ps qs → is_some (two_branches ps) ≡ is_some (two_branches qs)
    two_alike ps qs h = grind arith

    found_alike : (reg : Reg) (c : ℕ) (ps qs : List Placed) → AllAlike ps qs
        → is_some (find (lands_in did reg c) ps) ≡ is_some (find (lands_in did' reg c) qs)
    found_alike reg c [] [] h = refl
    found_alike reg c [] (q ∷ qs) h = absurd h
    found_alike reg c (p ∷ ps) [] h = absurd h
    found_alike reg c (p ∷ ps) (q ∷ qs) h = grind (arith, nat_tests, found_alike reg c ps qs h.2)

    met_alike : (c : ℕ) (p q : Placed) (ps qs : List Placed) (write : (Reg × ℕ) × ℕ) → p.cycle ≡ q.cycle
        → AllAlike ps qs → is_some (met_by did c p ps write) ≡ is_some (met_by did' c q qs write)
    met_alike c p q ps qs write e h = grind (arith, nat_tests, found_alike write.0.0 c ps qs h)

    writes_alike : (c : ℕ) (p q : Placed) (ps qs : List Placed) (writes : List ((Reg × ℕ) × ℕ)) → p.cycle ≡ q.cycle
        → AllAlike ps qs
        → is_some (first_of (met_by did c p ps) writes) ≡ is_some (first_of (met_by did' c q qs) writes)
    writes_alike c p q ps qs [] e h = refl
    writes_alike c p q ps qs (write ∷ writes) e h =
        grind (arith, met_alike c p q ps qs write e h, writes_alike c p q ps qs writes e h)

    clash_alike : (c : ℕ) (ps qs : List Placed) → AllAlike ps qs
        → is_some (clash did c ps) ≡ is_some (clash did' c qs)
    clash_alike c [] [] h = refl
    clash_alike c [] (q ∷ qs) h = absurd h
    clash_alike c (p ∷ ps) [] h = absurd h
    clash_alike c (p ∷ ps) (q ∷ qs) h =
        grind (arith, writes_alike c p q ps qs (did p).writes h.0 h.2, clash_alike c ps qs h.2)

    some_broken : (c : ℕ) (ps qs : List Placed) → AllAlike ps qs
        → is_some (broken (record { placed = ps; did = did }) c)
        ≡ is_some (broken (record { placed = qs; did = did' }) c)
    some_broken c ps qs h =
        some_or (two_branches (filter (has_branched did c) ps)) (two_branches (filter (has_branched did' c) qs))
        (clash did c ps) (clash did' c qs)
        (two_alike (filter (has_branched did c) ps) (filter (has_branched did' c) qs) (filter_alike c ps qs h))
        (clash_alike c ps qs h)
      where
        some_or : (a b x y : Option Stop) → is_some a ≡ is_some b → is_some x ≡ is_some y
            → is_some (option_or a x) ≡ is_some (option_or b y)
        some_or a b x y e f = grind arith

    whole_alike : (c : ℕ) (ps qs : List Placed) → AllAlike ps qs
        → broken (record { placed = ps; did = did }) c ≡ None → broken (record { placed = qs; did = did' }) c ≡ None
    whole_alike c ps qs h none =
        by_some (broken (record { placed = qs; did = did' }) c)
        (sym (some_broken c ps qs h) ∙ ap (λ (o : Option Stop). is_some o) none)
      where
        by_some : (o : Option Stop) → is_some o ≡ false → o ≡ None
        by_some None e = refl
        by_some (Some stop) e = absurd (false≢true (sym e))

    -- ---- the path

    pub leads_alike : (limit : ℕ) (ps qs : List Placed) → AllAlike ps qs → (position : Position) (cycle : ℕ)
        (path : List Visit) (last : Position) (end : ℕ)
        → Leads text limit (record { placed = ps; did = did }) position cycle path last end
        → Leads other limit (record { placed = qs; did = did' }) position cycle path last end
    leads_alike limit ps qs h position cycle [] last end leads = leads
    leads_alike limit ps qs h position cycle (visit ∷ path) last end leads =
        let one : Issued = record { placed = ps; did = did } in
        let two : Issued = record { placed = qs; did = did' } in
        let overs : over_of text one visit ≡ over_of other two visit
        = over_alike ps qs h visit.start (row_of text visit.row).idle
        ∙ ap (λ idle. over two visit.start idle) (ap (λ (r : Row). r.idle) (row_same visit.row)) in
        let stands : position_after text visit.row (turn one (over_of text one visit))
        ≡ position_after other visit.row (turn two (over_of other two visit))
        = stands_alike visit.row (turn one (over_of text one visit))
        ∙ ap (λ (t : Option Target). position_after other visit.row t) (turn_alike (over_of text one visit) ps qs h)
        ∙ ap (λ c. position_after other visit.row (turn two c)) overs in (
          record {
            there = leads.0.there;
            when = leads.0.when;
            on = sym (ended_alike limit ps qs h position cycle) ∙ leads.0.on;
            whole = λ c l. whole_alike c ps qs h (leads.0.whole c l);
          },
          subst (λ p. Leads other limit two p (over_of other two visit) path last end) stands
              (subst (λ c. Leads other limit two (position_after text visit.row (turn one (over_of text one visit))) c
              path last end) overs
              (leads_alike limit ps qs h (position_after text visit.row (turn one (over_of text one visit)))
              (over_of text one visit) path last end leads.1)),
        )

    -- ---- the stop

    abbrev NamesLines : Option Stop → Type 0
    NamesLines o = (stop : Stop) → o ≡ Some stop → IsLineless stop → ⊥

    or_names : (a b : Option Stop) → NamesLines a → NamesLines b → NamesLines (option_or a b)
    or_names None b one two = two
    or_names (Some s) b one two = one

    two_names : (xs : List Placed) → NamesLines (two_branches xs)
    two_names [] stop e l = none-some stop e
    two_names (p ∷ []) stop e l = none-some stop e
    two_names (p ∷ q ∷ others) stop e l = subst IsLineless (sym (same_Some (Branches p.line q.line) stop e)) l

    found_names : (reg : Reg) (line : ℕ) (o : Option Placed)
        → NamesLines (option_map (λ (q : Placed). Clash reg line q.line) o)
    found_names reg line None stop e l = none-some stop e
    found_names reg line (Some q) stop e l = subst IsLineless (sym (same_Some (Clash reg line q.line) stop e)) l

    met_names : (c : ℕ) (p : Placed) (others : List Placed) (write : (Reg × ℕ) × ℕ) (b : Bool)
        → NamesLines (if b then option_map (λ (q : Placed). Clash write.0.0 p.line q.line)
        (find (lands_in did write.0.0 c) others) else None)
    met_names c p others write true = found_names write.0.0 p.line (find (lands_in did write.0.0 c) others)
    met_names c p others write false = λ stop e l. none-some stop e

    writes_name : (c : ℕ) (p : Placed) (others : List Placed) (writes : List ((Reg × ℕ) × ℕ))
        → NamesLines (first_of (met_by did c p others) writes)
    writes_name c p others [] = λ stop e l. none-some stop e
    writes_name c p others (write ∷ writes) =
        or_names (met_by did c p others write) (first_of (met_by did c p others) writes)
        (met_names c p others write _) (writes_name c p others writes)

    clash_names : (c : ℕ) (ps : List Placed) → NamesLines (clash did c ps)
    clash_names c [] = λ stop e l. none-some stop e
    clash_names c (p ∷ ps) =
        or_names (first_of (met_by did c p ps) (did p).writes) (clash did c ps)
        (writes_name c p ps (did p).writes) (clash_names c ps)

    broken_names : (c : ℕ) (ps : List Placed) → NamesLines (broken (record { placed = ps; did = did }) c)
    broken_names c ps =
        or_names (two_branches (filter (has_branched did c) ps)) (clash did c ps)
        (two_names (filter (has_branched did c) ps)) (clash_names c ps)

    pub stops_alike : (limit : ℕ) (ps qs : List Placed) → AllAlike ps qs → (last : Position) (end : ℕ) (stop : Stop)
        (cycles : ℕ)
        → IsLineless stop → Stops text limit (record { placed = ps; did = did }) last end stop cycles
        → Stops other limit (record { placed = qs; did = did' }) last end stop cycles
    stops_alike limit ps qs h last end stop cycles lineless (inl b) =
        absurd (broken_names b.cycle ps stop b.breaks lineless)
    stops_alike limit ps qs h last end stop cycles lineless (inr e) = inr (record {
      whole = λ c. whole_alike c ps qs h (e.whole c);
      ends = sym (ended_alike limit ps qs h last end) ∙ e.ends;
      told = e.told;
    })
