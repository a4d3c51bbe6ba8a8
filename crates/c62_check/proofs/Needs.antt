-- What an instruction needs, gone over one by one.
use Rattle.std.proofs.Common.{arith, ◌≡◌, ℕ, ◌+◌, ◌<◌, ◌≤◌, ℤ, ◌≤ℤ◌, ◌<ℤ◌, List, length, get_or, Some, None, refl, sym}
use Rattle.std.proofs.Common.{ap, inl, inr, subst, ◌∙◌}
use Rattle.std.specs.List.{slice_get}
use Rattle.std.proofs.lemmas.Bool.{cases_lt}
use Rattle.std.proofs.lemmas.Option.{slice_get_read, same_Some, none-some}
use Rattle.std.proofs.lemmas.Int.{ints}
use Rattle.c62_insn.specs.declared.insn.Insn.{Insn}
use Rattle.c62_packet.specs.declared.placed.Placed.{Placed}
use Rattle.c62_depend.specs.Latency.{latency}
use Rattle.c62_depend.proofs.Plans.{short_is}
use Rattle.c62_reason.specs.declared.reason.Reason.{Reason}
use Rattle.c62_reason.specs.Reason.{IsReason}
use Rattle.c62_check.specs.Early.{gap_of, Keeps, KeepsAll, IsEarlyBehind, IsEarly}
use Rattle.c62_check.specs.declared.early.Early.{Early}

-- number j comes as many cycles behind each of the numbers below k as it must
abbrev pub KeepsBelow : List Insn → List Placed → ℕ → ℕ → Type 0
KeepsBelow block placed j k = (i : ℕ) → i < k → Keeps block placed i j

pub keeps_more : (block : List Insn) (placed : List Placed) (j k : ℕ) → KeepsBelow block placed j k
    → Keeps block placed k j → KeepsBelow block placed j (k + 1)
keeps_more block placed j k below one i lt = elim (cases_lt i k) [
  | inl before ↦ below i before
  | inr last ↦ (let same : k ≡ i = omega (arith, lt, last) in subst (λ (n : ℕ). Keeps block placed n j) same one)
]

-- it depends on none from its own on
pub keeps_all : (block : List Insn) (placed : List Placed) (j k : ℕ) → j ≤ k → KeepsBelow block placed j k
    → KeepsAll block placed j
keeps_all block placed j k all below i p q needed at_p at_q e =
    let before : i < j = (short_is block i j needed e).before in
    below i (omega (arith, before, all)) p q needed at_p at_q e

pub first_early : (block : List Insn) (placed : List Placed) (j k : ℕ) (early : Early) → KeepsBelow block placed j k
    → early.number ≡ j
    → IsEarlyBehind block placed k early → IsEarly block placed early
first_early block placed j k early below number behind = record {
  first = k;
  behind = behind;
  before = λ i lt. subst (λ (n : ℕ). Keeps block placed i n) (sym number) (below i lt);
}

-- without a dependence
pub keeps_none : (block : List Insn) (placed : List Placed) (i j : ℕ) → latency block i j ≡ None
    → Keeps block placed i j
keeps_none block placed i j none p q needed at_p at_q e = absurd (none-some needed (sym none ∙ e))

-- one dependence

module _ (block : List Insn) (placed : List Placed) (i j : ℕ) (p q : Placed) (needs has latest : ℤ)
    (at_p : slice_get placed i ≡ Some p) (at_q : slice_get placed j ≡ Some q)
    (is_needed : latency block i j ≡ Some latest) (needs_is : needs ≡ latest) (has_is : has ≡ gap_of p q) where
  pub keeps_one : needs ≤ℤ has → Keeps block placed i j
  keeps_one late r s needed at_r at_s e =
      let first : p ≡ r = same_Some p r (sym at_p ∙ at_r) in
      let second : q ≡ s = same_Some q s (sym at_q ∙ at_s) in
      let most : latest ≡ needed = same_Some latest needed (sym is_needed ∙ e) in
      subst (λ (x : Placed). needed ≤ℤ gap_of x s) first
      (subst (λ (x : Placed). needed ≤ℤ gap_of p x) second
      (subst (λ (n : ℤ). n ≤ℤ gap_of p q) most (omega (arith, ints, needs_is, has_is, late))))

  pub latency_is : latency block i j ≡ Some needs
  latency_is = is_needed ∙ ap (λ (n : ℤ). Some n) (sym needs_is)

  pub early_one : (reason : Reason) → has <ℤ needs → IsReason block i j needs reason
      → IsEarlyBehind block placed i
      (record { number = j; line = q.line; after = p.line; needs = needs; has = has; reason = reason })
  early_one reason early because = record {
    one = p;
    other = q;
    is_one = at_p;
    is_other = at_q;
    after = refl;
    line = refl;
    needs = latency_is;
    has = has_is;
    too_early = early;
    reason = because;
  }

pub read_at : (placed : List Placed) (n i : ℕ) (p : Placed) → n ≡ i → n < length placed → p ≡ get_or placed n p
    → slice_get placed i ≡ Some p
read_at placed n i p e inside is = subst (λ (k : ℕ). slice_get placed k ≡ Some p) e
    (slice_get_read placed (length placed) n p refl inside is)
