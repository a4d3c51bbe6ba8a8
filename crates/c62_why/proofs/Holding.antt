-- What holds an instruction in its cycle.
use Rattle.std.proofs.Common.{arith, ◌≡◌, ℕ, ◌+◌, ◌<◌, ◌≤◌, ℤ, Bool, true, List, length, get_or, take, Option, Some}
use Rattle.std.proofs.Common.{None, refl, sym, ap, subst, ◌∙◌, inl, inr}
use Rattle.std.specs.Prelude.{◌≤ℤ◌, slice_get, find, All}
use Rattle.std.proofs.lemmas.Int.{ints}
use Rattle.std.proofs.lemmas.Bool.{cases_lt}
use Rattle.std.proofs.lemmas.Bool.Decides.{nat_tests}
use Rattle.std.proofs.lemmas.Grind.{common_steps}
use Rattle.std.proofs.lemmas.Option.{slice_get-get_or}
use Rattle.c62_insn.specs.declared.insn.Insn.{Insn}
use Rattle.c62_rules.specs.declared.resource.Resource.{Resource}
use Rattle.c62_rules.specs.Resource.{capacity_of}
use Rattle.c62_packet.specs.declared.placed.Placed.{Placed}
use Rattle.c62_depend.specs.Latency.{latency}
use Rattle.c62_depend.specs.Plan.{IsPlan}
use Rattle.c62_reason.specs.declared.reason.Reason.{Reason}
use Rattle.c62_reason.specs.Reason.{IsReason}
use Rattle.c62_why.specs.Held.{gap_of, IsHeldBehind, IsFree}
use Rattle.c62_why.specs.Taken.{holds, wanted, is_lacking}

pub read_at : {X : Type 0} (xs : List X) (n i : ℕ) (x : X) → n ≡ i → i < length xs → x ≡ get_or xs n x
    → slice_get xs i ≡ Some x
read_at xs n i x here within at = slice_get-get_or xs i x within ∙ ap Some (sym (at ∙ ap (λ k. get_or xs k x) here))

pub held_one : (block : List Insn) (placed : List Placed) (i j : ℕ) (one other : Placed) (z needs : ℤ) (reason : Reason)
    → z ≡ needs
    → slice_get placed i ≡ Some one → slice_get placed j ≡ Some other → latency block i j ≡ Some needs
    → gap_of one other ≤ℤ needs → IsReason block i j z reason
    → IsHeldBehind block placed i j (record { after = one.line; needs = z; reason = reason })
held_one block placed i j one other z needs reason same is_one is_other latent tight because = record {
  one = one;
  other = other;
  is_one = is_one;
  is_other = is_other;
  after = refl;
  needs = latent ∙ ap Some (sym same);
  tight = omega (arith, ints, tight, same);
  reason = because;
}

-- none of the first numbers holds number j
abbrev pub AreFree : List Insn → List Placed → ℕ → ℕ → Type 0
AreFree block placed j count = (i : ℕ) → i < count → IsFree block placed i j

pub free_next : (block : List Insn) (placed : List Placed) (j count : ℕ) → AreFree block placed j count
    → IsFree block placed count j → AreFree block placed j (count + 1)
free_next block placed j count are last i low = elim (cases_lt i count) [
  | inl before ↦ are i before
  | inr after ↦ (let here : count ≡ i = omega (arith, low, after) in subst (λ k. IsFree block placed k j) here last)
]

-- and no number from j on does
pub all_free : (block : List Insn) (placed : List Placed) (j : ℕ) → IsPlan block → AreFree block placed j j → (i : ℕ)
    → IsFree block placed i j
all_free block placed j plan are i p q needs at_p at_q latent =
    let before : i < j = (plan.short i j needs latent).before in
    are i before p q needs at_p at_q latent

pub over_by : (placed : List Placed) (one : Placed) (r : Resource) (b : Bool) → b ≡ is_lacking placed one r → b ≡ true
    → capacity_of r < wanted placed one r
over_by placed one r b is so = grind (arith, nat_tests, is, so)

pub found_by : (r : Resource) (placed : List Placed) (found answer : Option Placed) (k cycle : ℕ)
    → found ≡ find (holds r k) placed → k ≡ cycle → found ≡ answer
    → find (holds r cycle) placed ≡ answer
found_by r placed found answer k cycle is here so = ap (λ n. find (holds r n) placed) (sym here) ∙ (sym is ∙ so)

-- all of the first are such
abbrev pub AreFirst : {X : Type 0} → (X → Type 0) → List X → ℕ → Type 0
AreFirst {X} Is xs count = (k : ℕ) (d : X) → k < count → Is (get_or xs k d)

module _ {X : Type 0} (Is : X → Type 0) (xs : List X) where
  pub first_next : (count : ℕ) (x : X) → count < length xs → x ≡ get_or xs count x → AreFirst Is xs count → Is x
      → AreFirst Is xs (count + 1)
  first_next count x within at are is k d low = elim (cases_lt k count) [
    | inl before ↦ are k d before
    | inr after ↦
        (let here : k ≡ count = omega (arith, low, after) in
        let same : get_or xs count d ≡ get_or xs count x = grind (arith, common_steps, within) in
        subst Is (at ∙ (sym same ∙ ap (λ n. get_or xs n d) (sym here))) is)
  ]

  pub first_taken : (count : ℕ) → count ≤ length xs → AreFirst Is xs count → All Is (take count xs)
  first_taken count within are k d inside =
      let low : k < count = grind (arith, common_steps, inside, within) in
      let same : get_or (take count xs) k d ≡ get_or xs k d = grind (arith, common_steps, low) in
      subst Is (sym same) (are k d low)

  pub all_taken : (count : ℕ) → length xs ≤ count → AreFirst Is xs count → All Is xs
  all_taken count end are k d inside = are k d (omega (arith, end, inside))
