-- What was issued before a cycle is all that counts until then.
use Rattle.std.proofs.Common.{◌≡◌, ℕ, zero, suc, ◌+◌, ◌<◌, ◌≤◌, false, ◌&&◌, cond, eqb, ltb, List, [], ◌∷◌}
use Rattle.std.proofs.Common.{◌++◌, map, Option, None, refl, sym, ◌∙◌, ap, subst, inl, inr, arith}
use Rattle.std.specs.Prelude.{is_some, option_map, filter}
use Rattle.std.specs.List.{list_any}
use Rattle.std.specs.Option.{option_or}
use Rattle.std.proofs.lemmas.Bool.{cond-false, and_left, and_right, le-ltb, ne_eqb}
use Rattle.c62_op.specs.declared.register.Reg.{Reg}
use Rattle.c62_serial.specs.State.{Machine}
use Rattle.c62_serial.specs.Effect.{Act}
use Rattle.c62_packet.specs.declared.placed.Placed.{Placed}
use Rattle.c62_packet.specs.Clash.{is_landing}
use Rattle.c62_meaning.specs.Packet.{Did, IsRun}
use Rattle.c62_meaning.specs.Cut.{sooner}
use Rattle.c62_meaning.proofs.Lookup.{In, In_from_Contains}
use Rattle.c62_meaning.proofs.Runs.{one_run}
use Rattle.c62_meaning.proofs.Cuts.{moved_back, begins}
use Rattle.c62_flight.specs.declared.stop.Stop.{Stop}
use Rattle.c62_flight.specs.declared.stop.Stop.TheVariants.{Clash}
use Rattle.c62_flight.specs.Text.{Text, Position, At, Outside}
use Rattle.c62_flight.specs.Issued.{Issued, first_of, goes_in, turn, over, is_in_flight}
use Rattle.c62_flight.specs.Broken.{has_branched, two_branches, lands_in, met_by, clash, broken}
use Rattle.c62_flight.specs.Flight.{ended}
use Rattle.c62_flight.proofs.Lists.{first_of-front, first_of-same, first_of-none, list_any-front, list_any-same}
use Rattle.c62_flight.proofs.Lists.{list_any-none, find-front, find-same, filter-front, filter-same}
use Rattle.std.proofs.lemmas.Bool.Decides.{nat_tests}

-- none of these is issued before t
abbrev pub Late : ℕ → List Placed → Type 0
Late t ps = (p : Placed) → In p ps → t ≤ p.cycle

-- all of these are
abbrev pub Early : ℕ → List Placed → Type 0
Early t ps = (p : Placed) → In p ps → p.cycle < t

-- ---- runs

-- what was issued before a cycle runs by itself
pub run_of_front : (cycle : ℕ) (front rest : List Placed) (s : Machine) (did : Did) → Early cycle front
    → Late cycle rest → IsRun (front ++ rest) s did → IsRun front s did
run_of_front cycle front rest s did early late run =
    begins cycle front (map (sooner cycle) rest) s did
    (λ p h. let l : p.cycle < cycle = early p (In_from_Contains p front h) in omega arith)
    (subst (λ ps. IsRun (front ++ ps) s did) (sym (moved_back cycle rest late)) run)

-- both issued the same first, and it did the same; what else they issued was issued at t or later
pub record AreSameUntil (t : ℕ) (one other : Issued) : Type 0 where
  pub front : List Placed
  pub one_rest : List Placed
  pub other_rest : List Placed
  pub one_is : one.placed ≡ front ++ one_rest
  pub other_is : other.placed ≡ front ++ other_rest
  pub one_late : Late t one_rest
  pub other_late : Late t other_rest
  pub same : (p : Placed) → In p front → one.did p ≡ other.did p

-- two runs that issued the same before a cycle, and from it on, or later, what else they issued
pub same_until : (s : Machine) (t cycle : ℕ) (front rest rest' : List Placed) (one other : Issued) → Early cycle front
    → Late cycle rest → Late cycle rest' → Late t rest → Late t rest'
    → one.placed ≡ front ++ rest → other.placed ≡ front ++ rest' → IsRun one.placed s one.did
    → IsRun other.placed s other.did → AreSameUntil t one other
same_until s t cycle front rest rest' one other early late late' late_t late_t' is is' run run' = grind (
  arith,
  one_run front s one.did other.did,
  run_of_front cycle front rest s one.did early late,
  run_of_front cycle front rest' s other.did early late',
)

-- ---- branches

turn_late : (did : Did) (c : ℕ) (p : Placed) → c < p.cycle + 6 → goes_in did c p ≡ None
turn_late did c p l = cond-false _ _ _ (ne_eqb _ _ (λ (e : p.cycle + 6 ≡ c). omega arith))

pub turn_same : (t c : ℕ) (one other : Issued) → AreSameUntil t one other → c < t + 6 → turn one c ≡ turn other c
turn_same t c one other h l =
    ap (λ ps. first_of (goes_in one.did c) ps) h.one_is
    ∙ first_of-front (goes_in one.did c) h.front h.one_rest
    (λ p k. let low : t ≤ p.cycle = h.one_late p k in turn_late one.did c p (omega arith))
    ∙ first_of-same (goes_in one.did c) (goes_in other.did c) h.front
    (λ p k. ap (λ (a : Act). cond (eqb (p.cycle + 6) c) a.target None) (h.same p k))
    ∙ sym (first_of-front (goes_in other.did c) h.front h.other_rest
    (λ p k. let low : t ≤ p.cycle = h.other_late p k in turn_late other.did c p (omega arith)))
    ∙ sym (ap (λ ps. first_of (goes_in other.did c) ps) h.other_is)

pub over_later : (issued : Issued) (start idle : ℕ) → start < over issued start idle
over_later issued start zero = omega arith
over_later issued start (suc idle) = grind (arith, over_later issued (start + 1) idle)

next_within : (n m : ℕ) → n < m → n + 1 ≤ m
next_within n m l = omega arith

-- a row is over in one cycle, where the same branches take effect until then
pub over_same : (one other : Issued) (start idle : ℕ)
    → ((c : ℕ) → c ≤ over one start idle → c ≤ over other start idle → turn one c ≡ turn other c)
    → over one start idle ≡ over other start idle
over_same one other start zero h = refl
over_same one other start (suc idle) h = grind (
  arith,
  nat_tests,
  over_same one other (start + 1) idle,
  over_later,
  next_within,
)

-- ---- broken cycles

branched_late : (did : Did) (c : ℕ) (p : Placed) → c < p.cycle → has_branched did c p ≡ false
branched_late did c p l = and_left _ _ (ne_eqb _ _ (λ (e : p.cycle ≡ c). omega arith))

landing_late : (c : ℕ) (reg : Reg) (p : Placed) (write : Reg × ℕ) → c < p.cycle → is_landing p.cycle reg c write ≡ false
landing_late c reg p write l = and_right _ _ (ne_eqb _ _ (λ (e : p.cycle + write.1 ≡ c). omega arith))

lands_late : (did : Did) (c : ℕ) (reg : Reg) (p : Placed) → c < p.cycle → lands_in did reg c p ≡ false
lands_late did c reg p l = grind (arith, list_any-none, landing_late c reg p)

met_late : (did : Did) (c : ℕ) (p : Placed) (others : List Placed) (write : (Reg × ℕ) × ℕ) → c < p.cycle
    → met_by did c p others write ≡ None
met_late did c p others write l = cond-false _ _ _ (ne_eqb _ _ (λ (e : p.cycle + write.0.1 ≡ c). omega arith))

clash_late : (did : Did) (c : ℕ) (ps : List Placed) → ((p : Placed) → In p ps → c < p.cycle) → clash did c ps ≡ None
clash_late did c [] h = refl
clash_late did c (p ∷ ps) h =
    ap (λ o. option_or o (clash did c ps))
    (first_of-none (met_by did c p ps) (did p).writes (λ write _. met_late did c p ps write (h p (inl refl))))
    ∙ clash_late did c ps (λ q k. h q (inr k))

-- a write is met by another among these
abbrev met_through : ℕ → Placed → (Reg × ℕ) × ℕ → Option Placed → Option Stop
met_through c p write found = cond (eqb (p.cycle + write.0.1) c)
    (option_map (λ (q : Placed). Clash write.0.0 p.line q.line) found) None

clash_front : (did : Did) (c : ℕ) (ps qs : List Placed) → ((q : Placed) → In q qs → c < q.cycle)
    → clash did c (ps ++ qs) ≡ clash did c ps
clash_front did c [] qs h = clash_late did c qs h
clash_front did c (p ∷ ps) qs h =
    ap (λ o. option_or o (clash did c (ps ++ qs)))
    (first_of-same (met_by did c p (ps ++ qs)) (met_by did c p ps) (did p).writes
    (λ write _. ap (met_through c p write)
    (find-front (lands_in did write.0.0 c) ps qs (λ q k. lands_late did c write.0.0 q (h q k)))))
    ∙ ap (λ o. option_or (first_of (met_by did c p ps) (did p).writes) o) (clash_front did c ps qs h)

lands_same : (did did' : Did) (c : ℕ) (reg : Reg) (p : Placed) → did p ≡ did' p
    → lands_in did reg c p ≡ lands_in did' reg c p
lands_same did did' c reg p e = ap (λ (a : Act). list_any (λ write. is_landing p.cycle reg c write.0) a.writes) e

clash_same : (did did' : Did) (c : ℕ) (ps : List Placed) → ((p : Placed) → In p ps → did p ≡ did' p)
    → clash did c ps ≡ clash did' c ps
clash_same did did' c [] h = refl
clash_same did did' c (p ∷ ps) h = grind (
  arith,
  nat_tests,
  clash_same did did' c ps,
  first_of-same,
  find-same,
  lands_same,
)

broken_front : (did : Did) (c : ℕ) (ps qs : List Placed) → ((q : Placed) → In q qs → c < q.cycle)
    → broken (record { placed = ps ++ qs; did = did }) c ≡ broken (record { placed = ps; did = did }) c
broken_front did c ps qs h =
    ap (λ fs. option_or (two_branches fs) (clash did c (ps ++ qs)))
    (filter-front (has_branched did c) ps qs (λ q k. branched_late did c q (h q k)))
    ∙ ap (λ o. option_or (two_branches (filter (has_branched did c) ps)) o) (clash_front did c ps qs h)

broken_alike : (did did' : Did) (c : ℕ) (ps : List Placed) → ((p : Placed) → In p ps → did p ≡ did' p)
    → broken (record { placed = ps; did = did }) c ≡ broken (record { placed = ps; did = did' }) c
broken_alike did did' c ps h =
    ap (λ fs. option_or (two_branches fs) (clash did c ps))
    (filter-same (has_branched did c) (has_branched did' c) ps
    (λ p k. ap (λ (a : Act). eqb p.cycle c && is_some a.target) (h p k)))
    ∙ ap (λ o. option_or (two_branches (filter (has_branched did' c) ps)) o) (clash_same did did' c ps h)

pub broken_same : (t c : ℕ) (one other : Issued) → AreSameUntil t one other → c < t → broken one c ≡ broken other c
broken_same t c one other h l =
    ap (λ ps. broken (record { placed = ps; did = one.did }) c) h.one_is
    ∙ broken_front one.did c h.front h.one_rest (λ p k. let low : t ≤ p.cycle = h.one_late p k in omega arith)
    ∙ broken_alike one.did other.did c h.front h.same
    ∙ sym (broken_front other.did c h.front h.other_rest
    (λ p k. let low : t ≤ p.cycle = h.other_late p k in omega arith))
    ∙ sym (ap (λ ps. broken (record { placed = ps; did = other.did }) c) h.other_is)

-- ---- what ends a run

flight_late : (did : Did) (c : ℕ) (p : Placed) → c ≤ p.cycle → is_in_flight did c p ≡ false
flight_late did c p l = and_right _ _ (and_left _ _ (le-ltb _ _ l))

any_in_flight_same : (t c : ℕ) (one other : Issued) → AreSameUntil t one other → c ≤ t
    → list_any (is_in_flight one.did c) one.placed ≡ list_any (is_in_flight other.did c) other.placed
any_in_flight_same t c one other h l =
    ap (λ ps. list_any (is_in_flight one.did c) ps) h.one_is
    ∙ list_any-front (is_in_flight one.did c) h.front h.one_rest
    (λ p k. let low : t ≤ p.cycle = h.one_late p k in flight_late one.did c p (omega arith))
    ∙ list_any-same (is_in_flight one.did c) (is_in_flight other.did c) h.front
    (λ p k. ap (λ (a : Act). is_some a.target && (ltb p.cycle c && ltb c (p.cycle + 6))) (h.same p k))
    ∙ sym (list_any-front (is_in_flight other.did c) h.front h.other_rest
    (λ p k. let low : t ≤ p.cycle = h.other_late p k in flight_late other.did c p (omega arith)))
    ∙ sym (ap (λ ps. list_any (is_in_flight other.did c) ps) h.other_is)

pub ended_same : (text : Text) (limit t c : ℕ) (one other : Issued) (position : Position) → AreSameUntil t one other
    → c ≤ t
    → ended text limit one position c ≡ ended text limit other position c
ended_same text limit t c one other (Outside word) h l = refl
ended_same text limit t c one other (At row) h l = grind (arith, any_in_flight_same t c one other h l)
