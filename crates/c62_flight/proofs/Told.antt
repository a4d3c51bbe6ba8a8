-- What takes effect, when a row is over, what clashes and where words lead.
use Rattle.std.proofs.Common.{◌≡◌, ℕ, zero, suc, ◌+◌, ◌<◌, ◌≤◌, Bool, true, false, ◌&&◌, eqb, length, List, [], ◌∷◌}
use Rattle.std.proofs.Common.{Option, Some, None, refl, sym, ◌∙◌, ap, subst, inl, inr, ⊎_elim, arith}
use Rattle.std.specs.Prelude.{◌==◌, nat_le, Contains, slice_get, is_some, find, option_map}
use Rattle.std.specs.List.{list_any}
use Rattle.std.specs.Option.{option_or}
use Rattle.std.proofs.lemmas.Bool.Decides.{nat_tests}
use Rattle.std.proofs.lemmas.Bool.{cases_Bool, cases_eq, cases_order, cond-true, cond-false, and_parts, and_from}
use Rattle.std.proofs.lemmas.Bool.{eq-eqb, eqb-true, leb-true, false≢true}
use Rattle.std.proofs.lemmas.Option.{none-some, same_Some}
use Rattle.c62_op.specs.declared.register.Reg.{Reg}
use Rattle.c62_op.specs.Takes.{same_reg}
use Rattle.c62_op.proofs.Registers.{same_reg-is, same_reg-refl}
use Rattle.c62_insn.specs.declared.effect.Target.{Target}
use Rattle.c62_insn.specs.declared.effect.Target.TheVariants.{Register as ToRegister}
use Rattle.c62_packet.specs.declared.placed.Placed.{Placed}
use Rattle.c62_packet.specs.Clash.{is_landing}
use Rattle.c62_meaning.specs.Packet.{Did}
use Rattle.c62_meaning.specs.Landed.{HasLanded, LandOneByOne}
use Rattle.c62_meaning.proofs.Lookup.{In, In_from_Contains, Contains_from_In}
use Rattle.c62_flight.specs.declared.stop.Stop.TheVariants.{Clash}
use Rattle.c62_flight.specs.Text.{Text, At, Outside, address_of, row_at, is_address, leads_to}
use Rattle.c62_flight.specs.Issued.{Issued, first_of, goes_in, turn, over}
use Rattle.c62_flight.specs.Broken.{lands_in, met_by, clash}
use Rattle.c62_flight.specs.Told.{Turns, TurnIsTold, IsOverIn, OverIsTold, ClashIsTold, WordsAreTold}
use Rattle.c62_flight.proofs.Lists.{first_of-none}

-- ---- the first that there is

none_parts : {Y : Type 0} (o rest : Option Y) → option_or o rest ≡ None → (o ≡ None) × (rest ≡ None)
none_parts o rest e = grind (arith, nat_tests)

first_some : {X Y : Type 0} (f : X → Option Y) (xs : List X) (y : Y) → first_of f xs ≡ Some y → (x : X) × In x xs
    × (f x ≡ Some y)
first_some f [] y e = absurd (none-some y e)
first_some f (x ∷ xs) y e = grind (arith, nat_tests, first_some f xs y)

first_none : {X Y : Type 0} (f : X → Option Y) (xs : List X) → first_of f xs ≡ None → (x : X) → In x xs → f x ≡ None
first_none f [] e x h = absurd h
first_none f (y ∷ xs) e x h = grind (arith, first_none f xs (none_parts (f y) (first_of f xs) e).1 x)

-- ---- what turns

goes_when : (did : Did) (cycle : ℕ) (p : Placed) (target : Target) → goes_in did cycle p ≡ Some target
    → (p.cycle + 6 ≡ cycle) × ((did p).target ≡ Some target)
goes_when did cycle p target e = grind (arith, none-some target)

pub turn_told : (issued : Issued) (cycle : ℕ) → TurnIsTold issued cycle
turn_told issued cycle = record {
  some = λ target e.
      let r = first_some (goes_in issued.did cycle) issued.placed target e in
      let w = goes_when issued.did cycle r.0 target r.2 in
      record { placed = r.0; inside = Contains_from_In r.0 issued.placed r.1; ran = w.1; when = w.0 };
  none = λ e target h.
      none-some target (sym
      (first_none (goes_in issued.did cycle) issued.placed e h.placed
      (In_from_Contains h.placed issued.placed h.inside))
      ∙ cond-true _ _ _ (eq-eqb (h.placed.cycle + 6) cycle h.when) ∙ h.ran);
}

-- ---- when a row is over

over_is : (issued : Issued) (start idle : ℕ) → IsOverIn issued start idle (over issued start idle)
over_is issued start zero = grind (arith, nat_tests)
over_is issued start (suc idle) = by_turn (turn issued (start + 1)) refl (over_is issued (start + 1) idle)
  where
    by_turn : (o : Option Target) → turn issued (start + 1) ≡ o
        → IsOverIn issued (start + 1) idle (over issued (start + 1) idle)
        → IsOverIn issued start (suc idle) (over issued start (suc idle))
    by_turn (Some target) e rest =
        let a : over issued start (suc idle) ≡ start + 1 = cond-true _ _ _ (ap is_some e) in
        subst (λ end. IsOverIn issued start (suc idle) end) (sym a) (record {
          later = omega arith;
          within = omega arith;
          straight = λ c t l u h. absurd (omega arith);
          reached = inr (target, (turn_told issued (start + 1)).some target e);
        })
    by_turn None e rest =
        let a : over issued start (suc idle) ≡ over issued (start + 1) idle = cond-false _ _ _ (ap is_some e) in
        subst (λ end. IsOverIn issued start (suc idle) end) (sym a)
        (longer start idle (over issued (start + 1) idle) e rest)
      where
        longer : (start idle end : ℕ) → turn issued (start + 1) ≡ None → IsOverIn issued (start + 1) idle end
            → IsOverIn issued start (suc idle) end
        longer start idle end e rest = record {
          later = (let l : start + 1 < end = rest.later in omega arith);
          within = (let l : end ≤ start + 1 + idle + 1 = rest.within in omega arith);
          straight = λ c t l u h. elim (cases_eq c (start + 1)) [
            | inl s ↦ (turn_told issued (start + 1)).none e t (subst (λ z. Turns issued z t) s h)
            | inr ne ↦ rest.straight c t (omega arith) u h
          ];
          reached = elim rest.reached [
            | inl s ↦ inl (omega arith)
            | inr t ↦ inr t
          ];
        }

over_alone : (issued : Issued) (start idle end end' : ℕ) → IsOverIn issued start idle end
    → IsOverIn issued start idle end' → end < end' → ⊥
over_alone issued start idle end end' h h' l =
    elim h.reached [
      | inl e ↦ (let u : end' ≤ start + idle + 1 = h'.within in absurd (omega arith))
      | inr t ↦ h'.straight end t.0 h.later l t.1
    ]

pub over_told : (issued : Issued) (start idle : ℕ) → OverIsTold issued start idle
over_told issued start idle end = grind (
  arith,
  over_alone issued start idle end (over issued start idle),
  over_is issued start idle,
  over_alone issued start idle (over issued start idle) end (over_is issued start idle),
)

-- ---- what clashes

any_from : {X : Type 0} (f : X → Bool) (xs : List X) (x : X) → In x xs → f x ≡ true → list_any f xs ≡ true
any_from f [] x h e = absurd h
any_from f (y ∷ xs) x h e = grind (arith, any_from f xs x)

from_any : {X : Type 0} (f : X → Bool) (xs : List X) → list_any f xs ≡ true → (x : X) × In x xs × (f x ≡ true)
from_any f [] e = absurd (false≢true e)
from_any f (x ∷ xs) e = grind (arith, from_any f xs)

lands_from : (did : Did) (p : Placed) (reg : Reg) (cycle : ℕ) → HasLanded did p reg cycle
    → lands_in did reg cycle p ≡ true
lands_from did p reg cycle h =
    any_from (λ (write : (Reg × ℕ) × ℕ). is_landing p.cycle reg cycle write.0) (did p).writes ((reg, h.delay), h.value)
    (In_from_Contains ((reg, h.delay), h.value) (did p).writes h.writes)
    (and_from _ _ (same_reg-refl reg) (eq-eqb _ _ h.lands))

landed_by : (did : Did) (p : Placed) (reg : Reg) (cycle : ℕ) → lands_in did reg cycle p ≡ true
    → HasLanded did p reg cycle
landed_by did p reg cycle e =
    let r = from_any (λ (write : (Reg × ℕ) × ℕ). is_landing p.cycle reg cycle write.0) (did p).writes e in
    let b = and_parts (same_reg r.0.0.0 reg) (eqb (p.cycle + r.0.0.1) cycle) r.2 in
    let same : r.0.0.0 ≡ reg = same_reg-is r.0.0.0 reg b.0 in
    record {
      delay = r.0.0.1;
      value = r.0.1;
      writes = subst (λ (g : Reg). Contains (did p).writes ((g, r.0.0.1), r.0.1)) same
          (Contains_from_In r.0 (did p).writes r.1);
      lands = eqb-true _ _ b.1;
    }

find_parts : {X : Type 0} (f : X → Bool) (x : X) (xs : List X) → find f (x ∷ xs) ≡ None → (f x ≡ false)
    × (find f xs ≡ None)
find_parts f x xs e = grind (arith, none-some x)

pub find_none : {X : Type 0} (f : X → Bool) (xs : List X) → find f xs ≡ None → (x : X) → In x xs → f x ≡ false
find_none f [] e x h = absurd h
find_none f (y ∷ xs) e x h = grind (arith, find_none f xs (find_parts f y xs e).1 x)

pub find_some : {X : Type 0} (f : X → Bool) (xs : List X) (x : X) → find f xs ≡ Some x → In x xs × (f x ≡ true)
find_some f [] x e = absurd (none-some x e)
find_some f (y ∷ xs) x e = grind (arith, find_some f xs x, same_Some y x)

at_place : {X : Type 0} (xs : List X) (i : ℕ) (x : X) → slice_get xs i ≡ Some x → In x xs
at_place [] i x e = absurd (none-some x e)
at_place (y ∷ xs) i x e = grind (arith, at_place xs)

place_of : {X : Type 0} (xs : List X) (x : X) → In x xs → (i : ℕ) × (slice_get xs i ≡ Some x)
place_of [] x h = absurd h
place_of (y ∷ xs) x (inl s) = (0, ap Some s)
place_of (y ∷ xs) x (inr h) = let r = place_of xs x h in (suc r.0, r.1)

-- where the first of these is met by none
none_met : (did : Did) (cycle : ℕ) (p : Placed) (others : List Placed) (reg : Reg) (q : Placed)
    → first_of (met_by did cycle p others) (did p).writes ≡ None
    → HasLanded did p reg cycle → In q others → HasLanded did q reg cycle → ⊥
none_met did cycle p others reg q e first h second =
    let write : (Reg × ℕ) × ℕ = ((reg, first.delay), first.value) in
    let none : met_by did cycle p others write ≡ None = first_none (met_by did cycle p others) (did p).writes e write
    (In_from_Contains write (did p).writes first.writes) in
    let found : option_map (λ (q : Placed). Clash reg p.line q.line) (find (lands_in did reg cycle) others) ≡ None = sym
    (cond-true _ _ _ (eq-eqb _ _ first.lands)) ∙ none in
    false≢true (sym (find_none (lands_in did reg cycle) others (unmapped (find (lands_in did reg cycle) others) found) q
    h) ∙ lands_from did q reg cycle second)
  where
    unmapped : (o : Option Placed) → option_map (λ (q : Placed). Clash reg p.line q.line) o ≡ None → o ≡ None
    unmapped o e = grind (arith, nat_tests)

no_pair : (did : Did) (cycle : ℕ) (placed : List Placed) (i j : ℕ) (p q : Placed) (reg : Reg)
    → clash did cycle placed ≡ None → i < j → slice_get placed i ≡ Some p → slice_get placed j ≡ Some q
    → HasLanded did p reg cycle → HasLanded did q reg cycle → ⊥
no_pair did cycle [] i j p q reg e l at_i at_j first second = none-some p at_i
no_pair did cycle (x ∷ xs) i zero p q reg e l at_i at_j first second = absurd (omega arith)
no_pair did cycle (x ∷ xs) zero (suc j) p q reg e l at_i at_j first second =
    none_met did cycle x xs reg q
    (none_parts (first_of (met_by did cycle x xs) (did x).writes) (clash did cycle xs) e).0
    (subst (λ z. HasLanded did z reg cycle) (sym (same_Some x p at_i)) first) (at_place xs j q at_j) second
no_pair did cycle (x ∷ xs) (suc i) (suc j) p q reg e l at_i at_j first second =
    no_pair did cycle xs i j p q reg
    (none_parts (first_of (met_by did cycle x xs) (did x).writes) (clash did cycle xs) e).1 (omega arith) at_i
    at_j first second

unmet : (did : Did) (placed : List Placed) → LandOneByOne placed did → (cycle : ℕ) → clash did cycle placed ≡ None
unmet did [] alone cycle = refl
unmet did (p ∷ others) alone cycle =
    ap (λ o. option_or o (clash did cycle others)) (first_of-none (met_by did cycle p others) (did p).writes met)
    ∙ unmet did others (λ i j a b reg c at_i at_j first second. suc_one i j
    (alone (suc i) (suc j) a b reg c at_i at_j first second)) cycle
  where
    suc_one : (i j : ℕ) → suc i ≡ suc j → i ≡ j
    suc_one i j e = omega arith

    met : (write : (Reg × ℕ) × ℕ) → In write (did p).writes → met_by did cycle p others write ≡ None
    met write h =
        ⊎_elim {C = met_by did cycle p others write ≡ None}
        (λ t. cond-true _ _ _ t
        ∙ found (find (lands_in did write.0.0 cycle) others) refl (eqb-true _ _ t)) (λ t. cond-false _ _ _ t)
        (cases_Bool (eqb (p.cycle + write.0.1) cycle))
      where
        found : (o : Option Placed) → find (lands_in did write.0.0 cycle) others ≡ o → p.cycle + write.0.1 ≡ cycle
            → option_map (λ (q : Placed). Clash write.0.0 p.line q.line) o ≡ None
        found None e lands = refl
        found (Some q) e lands =
            let r = find_some (lands_in did write.0.0 cycle) others q e in
            let place = place_of others q r.0 in
            let first : HasLanded did p write.0.0 cycle = record {
              delay = write.0.1;
              value = write.1;
              writes = Contains_from_In write (did p).writes h;
              lands =
                  lands;
            } in
            let one : 0 ≡ suc place.0 = alone 0 (suc place.0) p q write.0.0 cycle refl place.1 first
            (landed_by did q write.0.0 cycle r.1) in
            absurd (omega arith)

pub clash_told : (placed : List Placed) (did : Did) → ClashIsTold placed did
clash_told placed did = (
  (λ none i j p q reg cycle at_i at_j first second. elim (cases_order i j) [
    | inl e ↦ e
    | inr (inl l) ↦ absurd (no_pair did cycle placed i j p q reg (none cycle) l at_i at_j first second)
    | inr (inr l) ↦ absurd (no_pair did cycle placed j i q p reg (none cycle) l at_j at_i second first)
  ]),
  (λ alone cycle. unmet did placed alone cycle),
)

-- ---- where words lead

row_of_address : (row : ℕ) → row_at (address_of row) ≡ row
row_of_address row = omega arith

pub words_told : (text : Text) → WordsAreTold text
words_told text = record {
  rows = λ row l.
      let within : nat_le row (length text.rows) ≡ true = grind (arith, nat_tests) in
      let is : is_address text (address_of row) ≡ true
      = ap (λ n. (address_of n == address_of row) && nat_le n (length text.rows)) (row_of_address row)
      ∙ and_from _ _ (eq-eqb _ _ refl) within in
      cond-true _ _ _ is ∙ ap At (row_of_address row);
  others = λ word none.
      ⊎_elim {C = leads_to text (ToRegister word) ≡ Outside word}
      (λ t.
      let parts = and_parts (address_of (row_at word) == word) (nat_le (row_at word) (length text.rows)) t in
      absurd (none (row_at word) (leb-true _ _ parts.1) (eqb-true _ _ parts.0)))
      (λ f. cond-false _ _ _ f) (cases_Bool (is_address text word));
}
