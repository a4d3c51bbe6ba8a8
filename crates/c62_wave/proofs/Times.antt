-- The digits of a time.
use Rattle.std.proofs.Common.{◌≡◌, ◌∙◌, ℕ, ◌+◌, ◌*◌, ◌/◌, ◌%◌, ◌^◌, ◌<◌, List, [], ◌∷◌, ◌++◌, map, sym, ap}
use Rattle.std.proofs.Common.{arith, append_assoc}
use Rattle.std.specs.Prelude.{decimal}
use Rattle.std.specs.Int.Digits.{digits_of}
use Rattle.std.proofs.lemmas.Fmt.{decimal-digits_of}
use Rattle.std.proofs.lemmas.Int.Digits.{digits_of_step}
use Rattle.std.proofs.lemmas.List.{map-append}
use Rattle.c62_wave.specs.Dump.{time_line}
use Rattle.c62_wave.specs.Laws.{IsTime}

tenfold : (cycle more : ℕ) → 0 < cycle → more < 10 → 10 * cycle + more < 2 ^ 64
    → decimal (10 * cycle + more) ≡ decimal cycle ++ (48 + more) ∷ []
tenfold cycle more some digit fits =
    let most : 0 < 10 * cycle + more = omega arith in
    let less : cycle < 2 ^ 64 = omega arith in
    let rest : (10 * cycle + more) / 10 ≡ cycle = omega arith in
    let last : (10 * cycle + more) % 10 ≡ more = omega arith in
    decimal-digits_of (10 * cycle + more) most fits
    ∙ ap (λ (ds : List ℕ). map (λ d. 48 + d) ds) (digits_of_step 10 (10 * cycle + more) (omega arith) most)
    ∙ map-append (λ (d : ℕ). 48 + d) (digits_of 10 ((10 * cycle + more) / 10)) ((10 * cycle + more) % 10 ∷ [])
    ∙ ap (λ (n : ℕ). map (λ d. 48 + d) (digits_of 10 n) ++ (48 + (10 * cycle + more) % 10) ∷ []) rest
    ∙ ap (λ (n : ℕ). map (λ d. 48 + d) (digits_of 10 cycle) ++ (48 + n) ∷ []) last
    ∙ ap (λ (ds : List ℕ). ds ++ (48 + more) ∷ []) (sym (decimal-digits_of cycle some less))

pub is_time : (cycle more : ℕ) → 0 < cycle → more < 10 → 10 * cycle + more < 2 ^ 64 → IsTime cycle more
unfolding time_line
is_time cycle more some digit fits = sym (
    ap (λ (ds : List ℕ). 35 ∷ (ds ++ 10 ∷ [])) (tenfold cycle more some digit fits)
    ∙ ap (λ (text : List ℕ). 35 ∷ text) (append_assoc (decimal cycle) ((48 + more) ∷ []) (10 ∷ []))
    )
