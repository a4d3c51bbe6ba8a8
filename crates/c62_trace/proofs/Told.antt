-- Each landing and each store is told, and nothing else, and each issue.
use Rattle.std.proofs.Common.{◌≡◌, ◌∙◌, ℕ, ◌+◌, ◌-◌, arith, Bool, true, false, cond, eqb, List, [], ◌∷◌}
use Rattle.std.proofs.Common.{map, Option, Some, None, refl, sym, ap, subst, inl, inr}
use Rattle.std.specs.Prelude.{Contains, filter}
use Rattle.std.specs.List.{flat_map}
use Rattle.std.proofs.lemmas.Bool.{eq-eqb, eqb-true}
use Rattle.c62_op.specs.declared.register.Reg.{Reg}
use Rattle.c62_insn.specs.declared.effect.Access.{Access as MemoryAccess}
use Rattle.c62_serial.specs.State.{Machine}
use Rattle.c62_serial.specs.Memory.{is_good}
use Rattle.c62_serial.specs.Effect.{Act, runs}
use Rattle.c62_packet.specs.declared.placed.Placed.{Placed}
use Rattle.c62_meaning.specs.Packet.{Did, word_before}
use Rattle.c62_meaning.proofs.Lookup.{In, In_from_Contains, Contains_from_In, In-append_left, In-append_right}
use Rattle.c62_meaning.proofs.Lookup.{In-append_cases, In-flat_map, from_In-flat_map}
use Rattle.c62_pipe.specs.declared.slot.Due.{Due}
use Rattle.c62_pipe.specs.Flight.{made_by}
use Rattle.c62_trace.specs.Event.{Event, Stored, Landed, issue_of, stored_at, stored_by, events_of}
use Rattle.c62_trace.specs.Event.{landings_of, landings, issued_in, events_in}
use Rattle.c62_trace.specs.Laws.{LandsIn, StoresIn, AreTold, issue_in}
use Rattle.c62_trace.proofs.Once.{issued_once, stored_once, landed_once}

-- ---- writes that land

abbrev lands : ℕ → ℕ → (Reg × ℕ) × ℕ → Bool
lands issued cycle w = eqb (issued + w.0.1) cycle

from_landing : (line issued cycle : ℕ) (ws : List ((Reg × ℕ) × ℕ)) (write : Due)
    → In write (map (made_by line) (filter (lands issued cycle) ws))
    → (w : (Reg × ℕ) × ℕ) × In w ws × (issued + w.0.1 ≡ cycle) × (made_by line w ≡ write)
from_landing line issued cycle [] write h = absurd h
from_landing line issued cycle (w ∷ ws) write h =
    by_test (λ k. from_landing line issued cycle ws write k) (lands issued cycle w) refl h
  where
    by_test : (In write (map (made_by line) (filter (lands issued cycle) ws))
        → (v : (Reg × ℕ) × ℕ) × In v ws × (issued + v.0.1 ≡ cycle) × (made_by line v ≡ write))
        → (b : Bool) → lands issued cycle w ≡ b
        → In write (map (made_by line) (cond b (w ∷ filter (lands issued cycle) ws) (filter (lands issued cycle) ws)))
        → (v : (Reg × ℕ) × ℕ) × In v (w ∷ ws) × (issued + v.0.1 ≡ cycle) × (made_by line v ≡ write)
    by_test others true t (inl e) = (w, inl refl, eqb-true _ _ t, e)
    by_test others true t (inr k) = let r = others k in (r.0, inr r.1, r.2, r.3)
    by_test others false t k = let r = others k in (r.0, inr r.1, r.2, r.3)

to_landing : (line issued cycle : ℕ) (ws : List ((Reg × ℕ) × ℕ)) (w : (Reg × ℕ) × ℕ) → In w ws
    → issued + w.0.1 ≡ cycle → In (made_by line w) (map (made_by line) (filter (lands issued cycle) ws))
to_landing line issued cycle [] w h e = absurd h
to_landing line issued cycle (v ∷ ws) w (inl s) e =
    subst (λ b. In (made_by line w) (map (made_by line)
    (cond b (v ∷ filter (lands issued cycle) ws) (filter (lands issued cycle) ws))))
    (sym (ap (λ (u : (Reg × ℕ) × ℕ). lands issued cycle u) s ∙ eq-eqb _ _ e)) (inl (ap (made_by line) s))
to_landing line issued cycle (v ∷ ws) w (inr h) e = by_test (lands issued cycle v)
    (to_landing line issued cycle ws w h e)
  where
    by_test : (b : Bool) → In (made_by line w) (map (made_by line) (filter (lands issued cycle) ws))
        → In (made_by line w) (map (made_by line)
        (cond b (v ∷ filter (lands issued cycle) ws) (filter (lands issued cycle) ws)))
    by_test true k = inr k
    by_test false k = k

landed_in : (write : Due) (ds : List Due) → In (Landed write) (map Landed ds) → In write ds
landed_in write [] h = absurd h
landed_in write (d ∷ ds) (inl e) = inl (same e)
  where
    same : Landed d ≡ Landed write → d ≡ write
    same f = cc
landed_in write (d ∷ ds) (inr h) = inr (landed_in write ds h)

in_landed : (write : Due) (ds : List Due) → In write ds → In (Landed write) (map Landed ds)
in_landed write [] h = absurd h
in_landed write (d ∷ ds) (inl e) = inl (ap Landed e)
in_landed write (d ∷ ds) (inr h) = inr (in_landed write ds h)

stored_not_landed : (line place size value : ℕ) (ds : List Due) → In (Stored line place size value) (map Landed ds) → ⊥
stored_not_landed line place size value [] h = h
stored_not_landed line place size value (d ∷ ds) (inl e) = other e
  where
    other : Landed d ≡ Stored line place size value → ⊥
    other f = cc
stored_not_landed line place size value (d ∷ ds) (inr h) = stored_not_landed line place size value ds h

-- ---- what an instruction does

landed_not_issue : (write : Due) (word : Reg → ℕ) (p : Placed) (running : Bool) (access : Option MemoryAccess)
    → issue_of word p running access ≡ Landed write → ⊥
landed_not_issue write word p true access e = cc
landed_not_issue write word p false access e = cc

stored_not_issue : (line place size value : ℕ) (word : Reg → ℕ) (p : Placed) (running : Bool)
    (access : Option MemoryAccess) → issue_of word p running access ≡ Stored line place size value → ⊥
stored_not_issue line place size value word p true access e = cc
stored_not_issue line place size value word p false access e = cc

landed_not_stored : (write : Due) (line : ℕ) (access : Option MemoryAccess) → In (Landed write) (stored_by line access)
    → ⊥
landed_not_stored write line None h = h
landed_not_stored write line (Some access) h = of_value access.value h
  where
    of_value : (value : Option ℕ) → In (Landed write) (stored_at line access.address access.size value) → ⊥
    of_value None k = k
    of_value (Some value) k = of_test (is_good access.address access.size) k
      where
        of_test : (b : Bool)
            → In (Landed write) (cond b (Stored line access.address access.size value ∷ []) []) → ⊥
        of_test true (inl e) = other e
          where
            other : Stored line access.address access.size value ≡ Landed write → ⊥
            other f = cc
        of_test true (inr j) = j
        of_test false j = j

landed_not_done : (write : Due) (word : Reg → ℕ) (act : Act) (p : Placed) → In (Landed write) (events_of word act p) → ⊥
landed_not_done write word act p (inl e) = landed_not_issue write word p (runs word p.insn) act.access e
landed_not_done write word act p (inr h) = landed_not_stored write p.line act.access h

landed_not_in : (placed : List Placed) (opening : Machine) (did : Did) (cycle : ℕ) (write : Due) (p : Placed)
    → In (Landed write) (issued_in placed opening did cycle p) → ⊥
landed_not_in placed opening did cycle write p h = of_test (eqb p.cycle cycle) h
  where
    of_test : (b : Bool)
        → In (Landed write) (cond b (events_of (word_before placed opening did cycle) (did p) p) []) → ⊥
    of_test true k = landed_not_done write (word_before placed opening did cycle) (did p) p k
    of_test false k = k

lands_in : (placed : List Placed) (opening : Machine) (did : Did) (cycle : ℕ) (write : Due)
    → Contains (events_in placed opening did cycle) (Landed write) → LandsIn placed did cycle write
lands_in placed opening did cycle write h =
    elim (In-append_cases (Landed write) (flat_map (issued_in placed opening did cycle) placed)
    (map Landed (landings did cycle placed)) (In_from_Contains (Landed write) (events_in placed opening did cycle) h)) [
      | inl k ↦ (let r = from_In-flat_map (issued_in placed opening did cycle) (Landed write) placed k in
          absurd (landed_not_in placed opening did cycle write r.0 r.2))
      | inr k ↦ of_landing (landed_in write (landings did cycle placed) k)
    ]
  where
    before : (issued : ℕ) (made : (Reg × ℕ) × ℕ) → issued + made.0.1 ≡ cycle → made.0.1 ≡ write.delay
        → issued ≡ cycle - write.delay
    before issued made sum same = omega arith

    of_landing : In write (landings did cycle placed) → LandsIn placed did cycle write
    of_landing k =
        let r = from_In-flat_map (landings_of cycle did) write placed k in
        let s = from_landing r.0.line r.0.cycle cycle (did r.0).writes write r.2 in
        record {
          by = r.0;
          inside = Contains_from_In r.0 placed r.1;
          made = s.0;
          writes = Contains_from_In s.0 (did r.0).writes s.1;
          when = s.2;
          is = s.3;
          issued = before r.0.cycle s.0 s.2 (ap (λ (d : Due). d.delay) s.3);
        }

in_lands : (placed : List Placed) (opening : Machine) (did : Did) (cycle : ℕ) (write : Due)
    → LandsIn placed did cycle write → Contains (events_in placed opening did cycle) (Landed write)
in_lands placed opening did cycle write h =
    Contains_from_In (Landed write) (events_in placed opening did cycle)
    (In-append_right (Landed write) (flat_map (issued_in placed opening did cycle) placed)
    (map Landed (landings did cycle placed))
    (in_landed write (landings did cycle placed)
    (In-flat_map (landings_of cycle did) write h.by placed (In_from_Contains h.by placed h.inside)
    (subst (λ (d : Due). In d (landings_of cycle did h.by)) h.is
    (to_landing h.by.line h.by.cycle cycle (did h.by).writes h.made
    (In_from_Contains h.made (did h.by).writes h.writes) h.when)))))

-- ---- stores

-- the access of a store that is told
from_stored : (line place size value number : ℕ) (access : Option MemoryAccess)
    → In (Stored line place size value) (stored_by number access)
    → (number ≡ line) × (access ≡ Some (record { address = place; size = size; value = Some value }))
    × (is_good place size ≡ true)
from_stored line place size value number None h = absurd h
from_stored line place size value number (Some access) h = of_value access.value refl h
  where
    of_value : (o : Option ℕ) → access.value ≡ o
        → In (Stored line place size value) (stored_at number access.address access.size o)
        → (number ≡ line) × (Some access ≡ Some (record { address = place; size = size; value = Some value }))
        × (is_good place size ≡ true)
    of_value None e k = absurd k
    of_value (Some held) e k = of_test (is_good access.address access.size) refl k
      where
        of_test : (b : Bool) → is_good access.address access.size ≡ b
            → In (Stored line place size value) (cond b (Stored number access.address access.size held ∷ []) [])
            → (number ≡ line) × (Some access ≡ Some (record { address = place; size = size; value = Some value }))
            × (is_good place size ≡ true)
        of_test true t (inl f) =
            let n : number ≡ line = cc in
            let a : access.address ≡ place = cc in
            let s : access.size ≡ size = cc in
            let v : held ≡ value = cc in
            (n, rw (← a, ← s, ← v, ← e) refl, rw (← a, ← s) t)
        of_test true t (inr j) = absurd j
        of_test false t j = absurd j

stores_in : (placed : List Placed) (opening : Machine) (did : Did) (cycle line place size value : ℕ)
    → Contains (events_in placed opening did cycle) (Stored line place size value)
    → StoresIn placed did cycle line place size value
stores_in placed opening did cycle line place size value h =
    elim (In-append_cases (Stored line place size value) (flat_map (issued_in placed opening did cycle) placed)
    (map Landed (landings did cycle placed))
    (In_from_Contains (Stored line place size value) (events_in placed opening did cycle) h)) [
      | inl k ↦ (let r = from_In-flat_map (issued_in placed opening did cycle) (Stored line place size value) placed k
          in
          of_test r.0 r.1 (eqb r.0.cycle cycle) refl r.2)
      | inr k ↦ absurd (stored_not_landed line place size value (landings did cycle placed) k)
    ]
  where
    of_test : (p : Placed) → In p placed → (b : Bool) → eqb p.cycle cycle ≡ b
        → In (Stored line place size value)
        (cond b (events_of (word_before placed opening did cycle) (did p) p) [])
        → StoresIn placed did cycle line place size value
    of_test p inside true t (inl e) =
        absurd (stored_not_issue line place size value (word_before placed opening did cycle) p
        (runs (word_before placed opening did cycle) p.insn) (did p).access e)
    of_test p inside true t (inr k) =
        let r = from_stored line place size value p.line (did p).access k in
        record {
          by = p;
          inside = Contains_from_In p placed inside;
          issued = eqb-true _ _ t;
          of_line = r.0;
          stores = r.1;
          good = r.2;
        }
    of_test p inside false t k = absurd k

-- an instruction that is issued in the cycle has these among its events
in_issued : (placed : List Placed) (opening : Machine) (did : Did) (cycle : ℕ) (p : Placed) (event : Event)
    → Contains placed p → p.cycle ≡ cycle
    → In event (events_of (word_before placed opening did cycle) (did p) p)
    → Contains (events_in placed opening did cycle) event
in_issued placed opening did cycle p event inside now h =
    Contains_from_In event (events_in placed opening did cycle)
    (In-append_left event (flat_map (issued_in placed opening did cycle) placed)
    (map Landed (landings did cycle placed))
    (In-flat_map (issued_in placed opening did cycle) event p placed (In_from_Contains p placed inside)
    (subst (λ b. In event (cond b (events_of (word_before placed opening did cycle) (did p) p) []))
    (sym (eq-eqb _ _ now)) h)))

in_stores : (placed : List Placed) (opening : Machine) (did : Did) (cycle line place size value : ℕ)
    → StoresIn placed did cycle line place size value
    → Contains (events_in placed opening did cycle) (Stored line place size value)
in_stores placed opening did cycle line place size value h =
    in_issued placed opening did cycle h.by (Stored line place size value) h.inside h.issued
    (inr (subst (λ (o : Option MemoryAccess). In (Stored line place size value) (stored_by h.by.line o)) (sym h.stores)
    (subst (λ n. In (Stored line place size value)
    (stored_by n (Some (record { address = place; size = size; value = Some value })))) (sym h.of_line)
    (subst (λ b. In (Stored line place size value) (cond b (Stored line place size value ∷ []) [])) (sym h.good)
    (inl refl)))))

pub are_told : (placed : List Placed) (opening : Machine) (did : Did) (cycle : ℕ) → AreTold placed opening did cycle
are_told placed opening did cycle = record {
  landings = λ write. (lands_in placed opening did cycle write, in_lands placed opening did cycle write);
  stores = λ line place size value. (
    stores_in placed opening did cycle line place size value,
    in_stores placed opening did cycle line place size value,
  );
  issues = λ p inside now. in_issued placed opening did cycle p (issue_in placed opening did cycle p) inside now
      (inl refl);
  issued_once = issued_once placed opening did cycle;
  stored_once = stored_once placed opening did cycle;
  landed_once = landed_once placed opening did cycle;
}
