-- The first fault among those of two parts.
use Rattle.std.proofs.Common.{arith, ◌≡◌, ℕ, ◌+◌, ◌*◌, ◌<◌, ◌≤◌, List, ◌∷◌, Option, Some, None, Bool, true, false, refl}
use Rattle.std.proofs.Common.{inl, inr}
use Rattle.std.specs.Prelude.{◌==◌, nat_lt, if◌then◌else◌, All}
use Rattle.std.proofs.lemmas.Bool.{cases_lt, cases_eq}
use Rattle.std.proofs.lemmas.Bool.Decides.{nat_tests}
use Rattle.std.proofs.lemmas.List.Sums.{sum_by-cons}
use Rattle.c62_insn.specs.Insn.{register_writes}
use Rattle.c62_rules.specs.Capacity.{uses_in, IsKept as IsKeptIn}
use Rattle.c62_rules.proofs.Users.{counts-elsewhere}
use Rattle.c62_rules.proofs.Places.{rank-few}
use Rattle.c62_packet.specs.declared.placed.Placed.{Placed}
use Rattle.c62_packet.specs.declared.fault.PacketRule.{PacketRule}
use Rattle.c62_packet.specs.declared.fault.PacketRule.TheVariants.{InCycle, P5}
use Rattle.c62_packet.specs.Packed.{issue_of, issued}
use Rattle.c62_packet.specs.Rules.{IsKeptAmong}
use Rattle.c62_packet.specs.Fault.{rank_of, IsBefore}
use Rattle.c62_packet.specs.Clash.{is_met, is_before, earlier}
use Rattle.c62_packet.proofs.RuleLemmas.{landing-cons, landing-rest, landing-own}

-- ---- one more instruction

-- the instruction does not break the rule in this cycle together with the others: one of its own cycle is kept with it
unfoldable pub Suits : List Placed → PacketRule → ℕ → Placed → List Placed → Type 0
Suits whole (InCycle rule) c p xs = p.cycle ≡ c → IsKeptIn rule c (issued (p ∷ xs))
Suits whole P5 c p xs = All (λ write. p.cycle + write.1 ≡ c → is_met whole p xs write ≡ false) (register_writes p.insn)

pub kept-cons : (whole : List Placed) (rule : PacketRule) (c : ℕ) (p : Placed) (xs : List Placed)
    → IsKeptAmong (issued whole) rule c (issued xs) → Suits whole rule c p xs
    → IsKeptAmong (issued whole) rule c (issued (p ∷ xs))
unfolding Suits
kept-cons whole (InCycle rule) c p xs old own = λ r is. elim (cases_eq p.cycle c) [
  | inl here ↦ own here r is
  | inr other ↦ omega (
    arith,
    old r is,
    counts-elsewhere r c (issue_of p) other,
    sum_by-cons (uses_in c r)
        (Some (issue_of p)) (issued xs),
  )
]
kept-cons whole P5 c p xs old own = landing-cons whole c p xs old own

pub kept-rest : (whole : List Placed) (rule : PacketRule) (c : ℕ) (p : Placed) (xs : List Placed)
    → IsKeptAmong (issued whole) rule c (issued (p ∷ xs)) → IsKeptAmong (issued whole) rule c (issued xs)
kept-rest whole (InCycle rule) c p xs all = λ r is. omega
    (arith, all r is, sum_by-cons (uses_in c r) (Some (issue_of p)) (issued xs))
kept-rest whole P5 c p xs all = landing-rest whole c p xs all

pub kept-own : (whole : List Placed) (rule : PacketRule) (c : ℕ) (p : Placed) (xs : List Placed)
    → IsKeptAmong (issued whole) rule c (issued (p ∷ xs)) → Suits whole rule c p xs
unfolding Suits
kept-own whole (InCycle rule) c p xs all = λ here. all
kept-own whole P5 c p xs all = landing-own whole c p xs all

-- ---- the first that fails

-- the first cycle and rule where something fails, if there is one
unfoldable pub FirstOf : (PacketRule → ℕ → Type 0) → Option (ℕ × PacketRule) → Type 0
FirstOf Holds None = (rule : PacketRule) (cycle : ℕ) → Holds rule cycle
FirstOf Holds (Some found) = (Holds found.1 found.0 → ⊥)
    × ((cycle : ℕ) (rule : PacketRule) → IsBefore cycle rule found.0 found.1 → Holds rule cycle)

pub first-same : (P Q : PacketRule → ℕ → Type 0) (o : Option (ℕ × PacketRule))
    → ((rule : PacketRule) (cycle : ℕ) → P rule cycle → Q rule cycle)
    → ((rule : PacketRule) (cycle : ℕ) → Q rule cycle → P rule cycle) → FirstOf P o → FirstOf Q o
unfolding FirstOf
first-same P Q None to from h = λ rule cycle. to rule cycle (h rule cycle)
first-same P Q (Some found) to from h =
    (λ q. h.0 (from found.1 found.0 q), λ cycle rule before. to rule cycle (h.1 cycle rule before))

key : ℕ × PacketRule → ℕ
key found = 32 * found.0 + rank_of found.1

rank_small : (rule : PacketRule) → rank_of rule < 32
rank_small (InCycle rule) = omega (arith, rank-few rule)
rank_small P5 = omega arith

before_key : (c : ℕ) (r : PacketRule) (d : ℕ) (s : PacketRule) → IsBefore c r d s → key (c, r) < key (d, s)
unfolding key
before_key c r d s before =
    let small : rank_of r < 32 = rank_small r in
    elim before [
      | inl less ↦ (let l : c < d = less in omega (arith, small))
      | inr same ↦ (let e : c ≡ d = same.0 in let l : rank_of r < rank_of s = same.1 in omega arith)
    ]

key_before : (c : ℕ) (r : PacketRule) (d : ℕ) (s : PacketRule) → key (c, r) < key (d, s) → IsBefore c r d s
unfolding key
key_before c r d s less =
    let small : rank_of s < 32 = rank_small s in
    let l : 32 * c + rank_of r < 32 * d + rank_of s = less in
    elim (cases_lt c d) [
      | inl lower ↦ inl lower
      | inr above ↦ (let a : d ≤ c = above in inr (omega (arith, l, small), omega (arith, l, small)))
    ]

is_before-key : (f g : ℕ × PacketRule) → is_before f g ≡ true → key f < key g
unfolding key
is_before-key f g h = elim (cases_eq f.0 g.0) [
  | inl e ↦
      let test : (f.0 == g.0) ≡ true = grind (arith, nat_tests) in
      let l : nat_lt (rank_of f.1) (rank_of g.1) ≡ true = rw test at h in
      grind (arith, nat_tests)
  | inr ne ↦
      let test : (f.0 == g.0) ≡ false = grind (arith, nat_tests) in
      let l : nat_lt f.0 g.0 ≡ true = rw test at h in
      let less : f.0 < g.0 = grind (arith, nat_tests) in
      let small : rank_of f.1 < 32 = rank_small f.1 in
      omega (arith, less, small)
]

not_before-key : (f g : ℕ × PacketRule) → is_before f g ≡ false → key g ≤ key f
unfolding key
not_before-key f g h = elim (cases_eq f.0 g.0) [
  | inl e ↦
      let test : (f.0 == g.0) ≡ true = grind (arith, nat_tests) in
      let l : nat_lt (rank_of f.1) (rank_of g.1) ≡ false = rw test at h in
      grind (arith, nat_tests)
  | inr ne ↦
      let test : (f.0 == g.0) ≡ false = grind (arith, nat_tests) in
      let l : nat_lt f.0 g.0 ≡ false = rw test at h in
      let less : g.0 ≤ f.0 = grind (arith, nat_tests) in
      let small : rank_of g.1 < 32 = rank_small g.1 in
      omega (arith, less, ne, small)
]

-- what is before one is before a later one
still_before : (c : ℕ) (r : PacketRule) (f g : ℕ × PacketRule) → IsBefore c r f.0 f.1 → key f ≤ key g
    → IsBefore c r g.0 g.1
unfolding key
still_before c r f g before le =
    let l : key (c, r) < key (f.0, f.1) = before_key c r f.0 f.1 before in
    key_before c r g.0 g.1 (omega (arith, l, le))

pub first-both : (P Q : PacketRule → ℕ → Type 0) (a b : Option (ℕ × PacketRule)) → FirstOf P a → FirstOf Q b
    → FirstOf (λ r c. P r c × Q r c) (earlier a b)
unfolding FirstOf
first-both P Q None None x y = λ r c. (x r c, y r c)
first-both P Q None (Some g) x y = (λ h. y.0 h.1, λ c r before. (x r c, y.1 c r before))
first-both P Q (Some f) None x y = (λ h. x.0 h.0, λ c r before. (x.1 c r before, y r c))
first-both P Q (Some f) (Some g) x y = by_order (is_before g f) refl
  where
    by_order : (b : Bool) → is_before g f ≡ b → FirstOf (λ r c. P r c × Q r c) (if b then Some g else Some f)
    by_order true e =
        let less : key g < key f = is_before-key g f e in
        (λ h. y.0 h.1, λ c r before. (x.1 c r (still_before c r g f before (omega (arith, less))), y.1 c r before))
    by_order false e =
        let le : key f ≤ key g = not_before-key g f e in
        (λ h. x.0 h.0, λ c r before. (x.1 c r before, y.1 c r (still_before c r f g before le)))
