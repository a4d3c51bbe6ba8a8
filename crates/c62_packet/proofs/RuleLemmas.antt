-- The fifth rule, told of a list of placed instructions.
use Rattle.std.proofs.Common.{arith, ◌≡◌, ℕ, zero, suc, ◌+◌, ◌≢◌, ◌<◌, ◌≤◌, min, max, List, [], ◌∷◌, length, Option}
use Rattle.std.proofs.Common.{Some, None, Bool, true, false, refl, sym, ap, subst, inl, inr}
use Rattle.std.specs.Prelude.{◌==◌, ◌&&◌, not, nat_le, nat_lt, if◌then◌else◌, Contains, All}
use Rattle.std.specs.List.{list_any}
use Rattle.std.proofs.lemmas.Bool.{cases_lt, lt-ltb, ltb-true, le-leb, leb-true, and_parts, both_ways, false≢true}
use Rattle.std.proofs.lemmas.List.Elements.{All-nil, All-cons, All-contains}
use Rattle.std.proofs.lemmas.Option.{same_Some}
use Rattle.c62_op.specs.declared.register.Reg.{Reg}
use Rattle.c62_op.specs.declared.register.Cond.{Cond as Condition}
use Rattle.c62_op.specs.Takes.{same_reg}
use Rattle.c62_insn.specs.Insn.{cond_of, register_writes}
use Rattle.c62_rules.proofs.Exclusive.{not_opposite, none_of}
use Rattle.c62_rules.proofs.OneLanding.{may-swapped}
use Rattle.c62_rules.specs.Dependence.{are_opposite}
use Rattle.c62_rules.specs.PacketRules.{Issue, IsIssued, LandsIn, MayLandTogether}
use Rattle.c62_op.proofs.Registers.{same_reg-is, same_reg-refl}
use Rattle.c62_packet.specs.declared.placed.Placed.{Placed}
use Rattle.c62_packet.specs.Packed.{issue_of, issued}
use Rattle.c62_packet.specs.Rules.{HasOneLandingIn}
use Rattle.c62_packet.specs.Clash.{is_landing, lands, is_between, lands_between, excused_under, are_excused, clashes}
use Rattle.c62_packet.specs.Clash.{is_met}
use Rattle.c62_packet.proofs.PlacedLists.{both, same_number, number_same, IsOneOf, issued-one, none-issued}
use Rattle.c62_packet.proofs.PlacedLists.{any-contained, some-contained}

-- ---- the fifth rule

at_least : (a b : ℕ) → a ≤ b → nat_le a b ≡ true
at_least a b le = le-leb a b le

pub lands-is : (reg : Reg) (c : ℕ) (s : Placed) → lands reg c s ≡ true → LandsIn (issue_of s) reg c
lands-is reg c s h =
    let found = some-contained (is_landing s.cycle reg c) (register_writes s.insn) h in
    let parts = and_parts (same_reg found.0.0 reg) (s.cycle + found.0.1 == c) found.2 in
    let same : found.0.0 ≡ reg = same_reg-is found.0.0 reg parts.0 in (
      found.0.1,
      subst (λ (r : Reg). Contains (register_writes s.insn) (r, found.0.1)) same found.1,
      number_same
          (s.cycle + found.0.1) c parts.1,
    )

pub landing-contradicts : (reg : Reg) (c : ℕ) (s : Placed) → LandsIn (issue_of s) reg c → lands reg c s ≡ false → ⊥
landing-contradicts reg c s l h =
    any-contained (is_landing s.cycle reg c) (register_writes s.insn) (reg, l.0) l.1
    (both (same_reg reg reg) (s.cycle + l.0 == c) (same_reg-refl reg) (same_number (s.cycle + l.0) c l.2)) h

-- the test of an excuse tells whether there is one
excuse-under : (whole : List Placed) (p q : Placed) (c d : Option Condition) → cond_of p.insn ≡ c → cond_of q.insn ≡ d
    → excused_under whole (min p.cycle q.cycle) (max p.cycle q.cycle) c d ≡ true
    → MayLandTogether (issued whole) (issue_of p) (issue_of q)
excuse-under whole p q None d e f h = absurd (false≢true h)
excuse-under whole p q (Some one) None e f h = absurd (false≢true h)
excuse-under whole p q (Some one) (Some other) e f h =
    let from = min p.cycle q.cycle in
    let to = max p.cycle q.cycle in
    let parts = and_parts (are_opposite one other) (not (list_any (lands_between from to one.reg) whole)) h in
    let tests = and_parts (same_reg one.reg other.reg) (if one.negated then not other.negated else other.negated)
    parts.0 in
    let none : list_any (lands_between from to one.reg) whole ≡ false = none_of
    (list_any (lands_between from to one.reg) whole) parts.1 in
    record {
      one = one;
      other = other;
      is_one = e;
      is_other = f;
      same = same_reg-is one.reg other.reg tests.0;
      opposite = not_opposite one.negated other.negated tests.1;
      stays = λ k r t at lands.
          let s : IsOneOf whole k r = issued-one whole k r at in
          let mine : LandsIn (issue_of s.one) one.reg t = subst (λ (x : Issue). LandsIn x one.reg t) s.is lands in
          let fails : lands_between from to one.reg s.one ≡ false = s.fails (lands_between from to one.reg) none in
          let out : (from ≤ t) → to ≤ t = λ low. outside s.one one.reg from to t mine low fails in (
            (λ le. (let far : to ≤ t = out (omega (arith, le)) in omega (arith, far))),
            (λ le. (let far : to ≤ t = out (omega (arith, le)) in omega (arith, far))),
          );
    }
  where
    outside : (s : Placed) (reg : Reg) (from to t : ℕ) → LandsIn (issue_of s) reg t → from ≤ t
        → lands_between from to reg s ≡ false → to ≤ t
    outside s reg from to t (delay, is, time) low fails = elim (cases_lt t to) [
      | inl lt ↦ absurd (any-contained (is_between from to reg s.cycle) (register_writes s.insn) (reg, delay) is
          (both (same_reg reg reg) (nat_le from (s.cycle + delay) && nat_lt (s.cycle + delay) to) (same_reg-refl reg)
          (both (nat_le from (s.cycle + delay)) (nat_lt (s.cycle + delay) to)
          (at_least from (s.cycle + delay) (omega (arith, low, time)))
          (lt-ltb (s.cycle + delay) to (omega (arith, lt, time))))) fails)
      | inr ge ↦ ge
    ]

pub excuse-is : (whole : List Placed) (p q : Placed) → are_excused whole p q ≡ true
    → MayLandTogether (issued whole) (issue_of p) (issue_of q)
excuse-is whole p q h = excuse-under whole p q (cond_of p.insn) (cond_of q.insn) refl refl h

pub excuse-told : (whole : List Placed) (p q : Placed) → MayLandTogether (issued whole) (issue_of p) (issue_of q)
    → are_excused whole p q ≡ true
excuse-told whole p q may =
    rw (may.is_one, may.is_other)
    (both (are_opposite may.one may.other) (not (list_any (lands_between from to may.one.reg) whole)) opposite
    (rw none refl))
  where
    from : ℕ
    from = min p.cycle q.cycle

    to : ℕ
    to = max p.cycle q.cycle

    negated : (a b : Bool) → a ≢ b → (if a then not b else b) ≡ true
    negated true true ne = absurd (ne refl)
    negated true false ne = refl
    negated false true ne = refl
    negated false false ne = absurd (ne refl)

    opposite : are_opposite may.one may.other ≡ true
    opposite = both (same_reg may.one.reg may.other.reg)
        (if may.one.negated then not may.other.negated else may.other.negated)
        (subst (λ (r : Reg). same_reg may.one.reg r ≡ true) may.same (same_reg-refl may.one.reg))
        (negated may.one.negated may.other.negated may.opposite)

    none : list_any (lands_between from to may.one.reg) whole ≡ false
    none = none-issued (lands_between from to may.one.reg) whole (λ k s at lands.
        let found = some-contained (is_between from to may.one.reg s.cycle) (register_writes s.insn) lands in
        let parts = and_parts (same_reg found.0.0 may.one.reg)
        (nat_le from (s.cycle + found.0.1) && nat_lt (s.cycle + found.0.1) to) found.2 in
        let times = and_parts (nat_le from (s.cycle + found.0.1)) (nat_lt (s.cycle + found.0.1) to) parts.1 in
        let same : found.0.0 ≡ may.one.reg = same_reg-is found.0.0 may.one.reg parts.0 in
        let is : Contains (register_writes s.insn) (may.one.reg, found.0.1) = subst
        (λ (r : Reg). Contains (register_writes s.insn) (r, found.0.1)) same found.1 in
        let around = may.stays k (issue_of s) (s.cycle + found.0.1) at (found.0.1, is, refl) in
        let low : from ≤ s.cycle + found.0.1 = leb-true from (s.cycle + found.0.1) times.0 in
        let high : s.cycle + found.0.1 < to = ltb-true (s.cycle + found.0.1) to times.1 in
        elim (cases_lt (s.cycle + found.0.1) p.cycle) [
          | inl lt ↦ (let back : p.cycle ≤ s.cycle + found.0.1 = around.1 (omega (arith, lt, low)) in omega
              (arith, back, lt))
          | inr ge ↦ (let on : q.cycle ≤ s.cycle + found.0.1 = around.0 ge in omega (arith, on, ge, high))
        ])

pub landing-cons : (whole : List Placed) (c : ℕ) (p : Placed) (xs : List Placed)
    → HasOneLandingIn (issued whole) c (issued xs)
    → All (λ write. p.cycle + write.1 ≡ c → is_met whole p xs write ≡ false) (register_writes p.insn)
    → HasOneLandingIn (issued whole) c (issued (p ∷ xs))
landing-cons whole c p xs old own = with_first
  where
    clash : (j : ℕ) (a b : Issue) (reg : Reg) → Some (issue_of p) ≡ Some a → IsIssued (issued xs) j b → LandsIn a reg c
        → LandsIn b reg c
        → MayLandTogether (issued whole) a b
    clash j a b reg first at la lb =
        let e : issue_of p ≡ a = same_Some (issue_of p) a first in
        let mine : LandsIn (issue_of p) reg c = subst (λ (x : Issue). LandsIn x reg c) (sym e) la in
        let one : IsOneOf xs j b = issued-one xs j b at in
        let other : LandsIn (issue_of one.one) reg c = subst (λ (x : Issue). LandsIn x reg c) one.is lb in
        let alone : is_met whole p xs (reg, mine.0) ≡ false
        = All-contains (λ write. p.cycle + write.1 ≡ c
        → is_met whole p xs write ≡ false) (register_writes p.insn) (reg, mine.0) own mine.1 mine.2 in
        let fails : clashes whole p reg (p.cycle + mine.0) one.one ≡ false = one.fails
        (clashes whole p reg (p.cycle + mine.0)) alone in
        let excused : are_excused whole p one.one ≡ true
        = by_test (lands reg (p.cycle + mine.0) one.one) (are_excused whole p one.one) fails
        (λ fail. landing-contradicts reg c one.one other (subst (λ (x : ℕ). lands reg x one.one ≡ false) mine.2 fail))
        in
        let may : MayLandTogether (issued whole) (issue_of p) (issue_of one.one) = excuse-is whole p one.one excused in
        subst (λ (x : Issue). MayLandTogether (issued whole) x b) e
        (subst (λ (y : Issue). MayLandTogether (issued whole) (issue_of p) y) (sym one.is) may)
      where
        by_test : (x y : Bool) → (x && not y) ≡ false → (x ≡ false → ⊥) → y ≡ true
        by_test true true h never = refl
        by_test true false h never = absurd (false≢true (sym h))
        by_test false y h never = absurd (never refl)

    with_first : HasOneLandingIn (issued whole) c (issued (p ∷ xs))
    with_first zero zero a b reg ai bj la lb = inl refl
    with_first zero (suc j) a b reg ai bj la lb = inr (clash j a b reg ai bj la lb)
    with_first (suc i) zero a b reg ai bj la lb = inr (may-swapped (issued whole) b a (clash i b a reg bj ai lb la))
    with_first (suc i) (suc j) a b reg ai bj la lb = elim (old i j a b reg ai bj la lb) [
      | inl e ↦ inl (ap suc e)
      | inr h ↦ inr h
    ]

pub landing-rest : (whole : List Placed) (c : ℕ) (p : Placed) (xs : List Placed)
    → HasOneLandingIn (issued whole) c (issued (p ∷ xs)) → HasOneLandingIn (issued whole) c (issued xs)
landing-rest whole c p xs all i j a b reg ai bj la lb = elim (all (suc i) (suc j) a b reg ai bj la lb) [
  | inl e ↦ inl (let f : suc i ≡ suc j = e in omega arith)
  | inr h ↦ inr h
]

pub landing-own : (whole : List Placed) (c : ℕ) (p : Placed) (xs : List Placed)
    → HasOneLandingIn (issued whole) c (issued (p ∷ xs))
    → All (λ write. p.cycle + write.1 ≡ c → is_met whole p xs write ≡ false) (register_writes p.insn)
landing-own whole c p xs all = each (register_writes p.insn) (λ write is. is)
  where
    alone : (write : Reg × ℕ) → Contains (register_writes p.insn) write → p.cycle + write.1 ≡ c
        → is_met whole p xs write ≡ false
    alone write is here = none-issued (clashes whole p write.0 (p.cycle + write.1)) xs (λ j s at met.
        let parts = and_parts (lands write.0 (p.cycle + write.1) s) (not (are_excused whole p s)) met in
        let other : LandsIn (issue_of s) write.0 c = subst (λ (x : ℕ). LandsIn (issue_of s) write.0 x) here
        (lands-is write.0 (p.cycle + write.1) s parts.0) in
        elim (all 0 (suc j) (issue_of p) (issue_of s) write.0 refl at (write.1, is, here) other) [
          | inl e ↦ (let f : 0 ≡ suc j = e in omega arith)
          | inr h ↦ both_ways _ (none_of (are_excused whole p s) parts.1) (excuse-told whole p s h)
        ])

    each : (writes : List (Reg × ℕ))
        → ((write : Reg × ℕ) → Contains writes write → Contains (register_writes p.insn) write)
        → All (λ write. p.cycle + write.1 ≡ c → is_met whole p xs write ≡ false) writes
    each [] within = All-nil (λ write. p.cycle + write.1 ≡ c → is_met whole p xs write ≡ false)
    each (write ∷ writes) within =
        All-cons (λ w. p.cycle + w.1 ≡ c
        → is_met whole p xs w ≡ false) write writes (alone write (within write (0, omega arith, refl)))
        (each writes (λ w is. within w (suc is.0, (let low : is.0 < length writes = is.1 in omega arith), is.2)))
