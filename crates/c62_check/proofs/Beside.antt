-- The verdicts on one block after the other.
use Rattle.std.proofs.Common.{arith, ◌≡◌, ℕ, zero, suc, ◌+◌, min, List, [], ◌∷◌, ◌++◌, length, Some}
use Rattle.std.proofs.Common.{refl, sym, ap, subst, ◌∙◌, inl, inr, ◌⊎◌}
use Rattle.std.specs.Prelude.{slice_get}
use Rattle.std.proofs.lemmas.List.{length-append}
use Rattle.std.proofs.lemmas.Option.{none-some, same_Some}
use Rattle.c62_read.specs.Block.{Serial}
use Rattle.c62_packet.specs.Packed.{Packed}
use Rattle.c62_check.specs.declared.verdict.Verdict.{Verdict}
use Rattle.c62_check.specs.Verdict.{IsVerdict}
use Rattle.c62_check.specs.Judged.{AreVerdicts}

-- on the blocks below this number
pub record AreVerdictsBelow (program : List Serial) (packets : List Packed) (count : ℕ) (verdicts : List Verdict)
    : Type 0 where
  pub long : length verdicts ≡ count
  pub each : (number : ℕ) (block : Serial) (packed : Packed) (verdict : Verdict)
      → slice_get program number ≡ Some block → slice_get packets number ≡ Some packed
      → slice_get verdicts number ≡ Some verdict → IsVerdict block packed verdict

pushed_at : {X : Type 0} (xs : List X) (x y : X) (k : ℕ) → slice_get (xs ++ x ∷ []) k ≡ Some y
    → (slice_get xs k ≡ Some y) ⊎ ((k ≡ length xs) × (x ≡ y))
pushed_at [] x y zero at = inr (refl, same_Some x y at)
pushed_at [] x y (suc k) at = absurd (none-some y at)
pushed_at (z ∷ xs) x y zero at = inl at
pushed_at (z ∷ xs) x y (suc k) at = elim (pushed_at xs x y k at) [
  | inl there ↦ inl there
  | inr last ↦ inr (ap suc last.0, last.1)
]

pub verdict_next : (program : List Serial) (packets : List Packed) (count : ℕ) (verdicts more : List Verdict)
    (block : Serial) (packed : Packed) (verdict : Verdict) → AreVerdictsBelow program packets count verdicts
    → slice_get program count ≡ Some block → slice_get packets count ≡ Some packed → IsVerdict block packed verdict
    → more ≡ verdicts ++ verdict ∷ [] → AreVerdictsBelow program packets (count + 1) more
verdict_next program packets count verdicts more block packed verdict are at_block at_packed says e = subst
    (λ (vs : List Verdict). AreVerdictsBelow program packets (count + 1) vs) (sym e) (record {
      long = (let both = length-append verdicts (verdict ∷ []) in let so_many = are.long in omega
          (arith, both, so_many));
      each = λ number b p v at_b at_p at_v. elim (pushed_at verdicts verdict v number at_v) [
        | inl told ↦ are.each number b p v at_b at_p told
        | inr last ↦
            (let here : count ≡ number = sym (last.0 ∙ are.long) in
            let own : block ≡ b = same_Some block b (sym at_block
            ∙ (ap (λ (n : ℕ). slice_get program n) here ∙ at_b)) in
            let mine : packed ≡ p = same_Some packed p (sym at_packed
            ∙ (ap (λ (n : ℕ). slice_get packets n) here ∙ at_p)) in
            subst (λ (x : Serial). IsVerdict x p v) own
            (subst (λ (y : Packed). IsVerdict block y v) mine
            (subst (λ (z : Verdict). IsVerdict block packed z) last.1 says)))
      ];
    })

pub all_verdicts : (program : List Serial) (packets : List Packed) (count : ℕ) (verdicts : List Verdict)
    → AreVerdictsBelow program packets count verdicts → count ≡ min (length program) (length packets)
    → AreVerdicts program packets verdicts
all_verdicts program packets count verdicts are end = record { count = are.long ∙ end; each = are.each }
