-- Each issue, store and landing of a cycle is told once.
use Rattle.std.proofs.Common.{◌≡◌, ◌∙◌, ℕ, Bool, true, false, cond, eqb, List, [], ◌∷◌, ◌++◌, map}
use Rattle.std.proofs.Common.{Option, Some, None, refl, ap}
use Rattle.std.specs.Prelude.{filter}
use Rattle.std.specs.List.{flat_map}
use Rattle.std.proofs.lemmas.List.{append-nil}
use Rattle.std.proofs.lemmas.List.Elements.{filter-append}
use Rattle.c62_op.specs.declared.register.Reg.{Reg}
use Rattle.c62_insn.specs.declared.effect.Access.{Access as MemoryAccess}
use Rattle.c62_serial.specs.State.{Machine}
use Rattle.c62_serial.specs.Memory.{is_good}
use Rattle.c62_serial.specs.Effect.{runs}
use Rattle.c62_packet.specs.declared.placed.Placed.{Placed}
use Rattle.c62_meaning.specs.Packet.{Did, word_before}
use Rattle.c62_pipe.specs.declared.slot.Due.{Due}
use Rattle.c62_trace.specs.Event.{Event, Stored, Landed, issue_of, stored_at, stored_by, events_of}
use Rattle.c62_trace.specs.Event.{landings, issued_in, events_in}
use Rattle.c62_trace.specs.Laws.{is_issue, is_store, is_landing, issued_at, issue_in, stores_of}

-- ---- lists

-- what passes of all that some instructions give, where it is known of each
kept : (kind : Event → Bool) (f g : Placed → List Event) (ps : List Placed)
    → ((p : Placed) → filter kind (f p) ≡ g p) → filter kind (flat_map f ps) ≡ flat_map g ps
kept kind f g [] h = refl
kept kind f g (p ∷ ps) h =
    filter-append kind (f p) (flat_map f ps)
    ∙ ap (λ es. es ++ filter kind (flat_map f ps)) (h p)
    ∙ ap (λ es. g p ++ es) (kept kind f g ps h)

kept_none : (kind : Event → Bool) (f : Placed → List Event) (ps : List Placed)
    → ((p : Placed) → filter kind (f p) ≡ []) → filter kind (flat_map f ps) ≡ []
kept_none kind f [] h = refl
kept_none kind f (p ∷ ps) h =
    filter-append kind (f p) (flat_map f ps)
    ∙ ap (λ es. es ++ filter kind (flat_map f ps)) (h p)
    ∙ kept_none kind f ps h

-- one event of each instruction that passes a test
chosen_one : (test : Placed → Bool) (event : Placed → Event) (ps : List Placed)
    → flat_map (λ (p : Placed). cond (test p) (event p ∷ []) []) ps ≡ map event (filter test ps)
chosen_one test event [] = refl
chosen_one test event (p ∷ ps) = by_test (test p) (chosen_one test event ps)
  where
    by_test : (b : Bool) → flat_map (λ (q : Placed). cond (test q) (event q ∷ []) []) ps ≡ map event (filter test ps)
        → cond b (event p ∷ []) [] ++ flat_map (λ (q : Placed). cond (test q) (event q ∷ []) []) ps
        ≡ map event (cond b (p ∷ filter test ps) (filter test ps))
    by_test true rest = ap (λ es. event p ∷ es) rest
    by_test false rest = rest

-- some events of each
chosen_some : (test : Placed → Bool) (events : Placed → List Event) (ps : List Placed)
    → flat_map (λ (p : Placed). cond (test p) (events p) []) ps ≡ flat_map events (filter test ps)
chosen_some test events [] = refl
chosen_some test events (p ∷ ps) = by_test (test p) (chosen_some test events ps)
  where
    by_test : (b : Bool) → flat_map (λ (q : Placed). cond (test q) (events q) []) ps ≡ flat_map events (filter test ps)
        → cond b (events p) [] ++ flat_map (λ (q : Placed). cond (test q) (events q) []) ps
        ≡ flat_map events (cond b (p ∷ filter test ps) (filter test ps))
    by_test true rest = ap (λ es. events p ++ es) rest
    by_test false rest = rest

-- ---- an issue is of its kind alone

issue_kept : (word : Reg → ℕ) (p : Placed) (running : Bool) (access : Option MemoryAccess) (rest : List Event)
    → filter is_issue (issue_of word p running access ∷ rest) ≡ issue_of word p running access ∷ filter is_issue rest
issue_kept word p true access rest = refl
issue_kept word p false access rest = refl

issue_no_store : (word : Reg → ℕ) (p : Placed) (running : Bool) (access : Option MemoryAccess) (rest : List Event)
    → filter is_store (issue_of word p running access ∷ rest) ≡ filter is_store rest
issue_no_store word p true access rest = refl
issue_no_store word p false access rest = refl

issue_no_landing : (word : Reg → ℕ) (p : Placed) (running : Bool) (access : Option MemoryAccess) (rest : List Event)
    → filter is_landing (issue_of word p running access ∷ rest) ≡ filter is_landing rest
issue_no_landing word p true access rest = refl
issue_no_landing word p false access rest = refl

-- ---- and so is a store

stores_kept : (line : ℕ) (access : Option MemoryAccess)
    → filter is_store (stored_by line access) ≡ stored_by line access
stores_kept line None = refl
stores_kept line (Some access) = of_value access.value
  where
    of_value : (value : Option ℕ)
        → filter is_store (stored_at line access.address access.size value)
        ≡ stored_at line access.address access.size value
    of_value None = refl
    of_value (Some value) = of_test (is_good access.address access.size)
      where
        of_test : (b : Bool)
            → filter is_store (cond b (Stored line access.address access.size value ∷ []) [])
            ≡ cond b (Stored line access.address access.size value ∷ []) []
        of_test true = refl
        of_test false = refl

stores_none : (kind : Event → Bool) → ((line place size value : ℕ) → kind (Stored line place size value) ≡ false)
    → (line : ℕ) (access : Option MemoryAccess) → filter kind (stored_by line access) ≡ []
stores_none kind other line None = refl
stores_none kind other line (Some access) = of_value access.value
  where
    of_value : (value : Option ℕ) → filter kind (stored_at line access.address access.size value) ≡ []
    of_value None = refl
    of_value (Some value) = of_test (is_good access.address access.size)
      where
        of_test : (b : Bool) → filter kind (cond b (Stored line access.address access.size value ∷ []) []) ≡ []
        of_test true = ap (λ (b : Bool). cond b (Stored line access.address access.size value ∷ []) [])
            (other line access.address access.size value)
        of_test false = refl

-- ---- and a landing

landings_kept : (ds : List Due) → filter is_landing (map Landed ds) ≡ map Landed ds
landings_kept [] = refl
landings_kept (d ∷ ds) = ap (λ es. Landed d ∷ es) (landings_kept ds)

landings_no_issue : (ds : List Due) → filter is_issue (map Landed ds) ≡ []
landings_no_issue [] = refl
landings_no_issue (d ∷ ds) = landings_no_issue ds

landings_no_store : (ds : List Due) → filter is_store (map Landed ds) ≡ []
landings_no_store [] = refl
landings_no_store (d ∷ ds) = landings_no_store ds

-- ---- in a cycle

module _ (placed : List Placed) (opening : Machine) (did : Did) (cycle : ℕ) where
  issue_told : (p : Placed)
      → filter is_issue (issued_in placed opening did cycle p)
      ≡ cond (eqb p.cycle cycle) (issue_in placed opening did cycle p ∷ []) []
  issue_told p = by_test (eqb p.cycle cycle)
    where
      by_test : (b : Bool)
          → filter is_issue (cond b (events_of (word_before placed opening did cycle) (did p) p) [])
          ≡ cond b (issue_in placed opening did cycle p ∷ []) []
      by_test true =
          issue_kept (word_before placed opening did cycle) p (runs (word_before placed opening did cycle) p.insn)
          (did p).access (stored_by p.line (did p).access)
          ∙ ap (λ es. issue_in placed opening did cycle p ∷ es)
          (stores_none is_issue (λ line place size value. refl) p.line (did p).access)
      by_test false = refl

  store_told : (p : Placed)
      → filter is_store (issued_in placed opening did cycle p) ≡ cond (eqb p.cycle cycle) (stores_of did p) []
  store_told p = by_test (eqb p.cycle cycle)
    where
      by_test : (b : Bool)
          → filter is_store (cond b (events_of (word_before placed opening did cycle) (did p) p) [])
          ≡ cond b (stores_of did p) []
      by_test true =
          issue_no_store (word_before placed opening did cycle) p (runs (word_before placed opening did cycle) p.insn)
          (did p).access (stored_by p.line (did p).access)
          ∙ stores_kept p.line (did p).access
      by_test false = refl

  none_lands : (p : Placed) → filter is_landing (issued_in placed opening did cycle p) ≡ []
  none_lands p = by_test (eqb p.cycle cycle)
    where
      by_test : (b : Bool)
          → filter is_landing (cond b (events_of (word_before placed opening did cycle) (did p) p) []) ≡ []
      by_test true =
          issue_no_landing (word_before placed opening did cycle) p (runs (word_before placed opening did cycle) p.insn)
          (did p).access (stored_by p.line (did p).access)
          ∙ stores_none is_landing (λ line place size value. refl) p.line (did p).access
      by_test false = refl

  pub issued_once : filter is_issue (events_in placed opening did cycle)
      ≡ map (issue_in placed opening did cycle) (issued_at cycle placed)
  issued_once =
      filter-append is_issue (flat_map (issued_in placed opening did cycle) placed)
      (map Landed (landings did cycle placed))
      ∙ ap (λ es. es ++ filter is_issue (map Landed (landings did cycle placed)))
      (kept is_issue (issued_in placed opening did cycle)
      (λ (p : Placed). cond (eqb p.cycle cycle) (issue_in placed opening did cycle p ∷ []) []) placed issue_told
      ∙ chosen_one (λ (p : Placed). eqb p.cycle cycle) (issue_in placed opening did cycle) placed)
      ∙ ap (λ es. map (issue_in placed opening did cycle) (issued_at cycle placed) ++ es)
      (landings_no_issue (landings did cycle placed))
      ∙ append-nil (map (issue_in placed opening did cycle) (issued_at cycle placed))

  pub stored_once : filter is_store (events_in placed opening did cycle)
      ≡ flat_map (stores_of did) (issued_at cycle placed)
  stored_once =
      filter-append is_store (flat_map (issued_in placed opening did cycle) placed)
      (map Landed (landings did cycle placed))
      ∙ ap (λ es. es ++ filter is_store (map Landed (landings did cycle placed)))
      (kept is_store (issued_in placed opening did cycle)
      (λ (p : Placed). cond (eqb p.cycle cycle) (stores_of did p) []) placed store_told
      ∙ chosen_some (λ (p : Placed). eqb p.cycle cycle) (stores_of did) placed)
      ∙ ap (λ es. flat_map (stores_of did) (issued_at cycle placed) ++ es)
      (landings_no_store (landings did cycle placed))
      ∙ append-nil (flat_map (stores_of did) (issued_at cycle placed))

  pub landed_once : filter is_landing (events_in placed opening did cycle) ≡ map Landed (landings did cycle placed)
  landed_once =
      filter-append is_landing (flat_map (issued_in placed opening did cycle) placed)
      (map Landed (landings did cycle placed))
      ∙ ap (λ es. es ++ filter is_landing (map Landed (landings did cycle placed)))
      (kept_none is_landing (issued_in placed opening did cycle) placed none_lands)
      ∙ landings_kept (landings did cycle placed)
