-- Bytes are in a text where it begins with them, or what is behind its first byte has them.
use Rattle.std.proofs.Common.{◌≡◌, ℕ, ◌-◌, ◌<◌, ◌≤◌, Bool, true, false, List, [], ◌∷◌, take, drop, length, refl, sym, ap, arith}
use Rattle.std.proofs.lemmas.List.{take_all}
use Rattle.std.specs.Prelude.{nat_eq}
use Rattle.std.specs.List.{starts_with}
use Rattle.c62_dumping.specs.Limit.{contains}

pub found : (bytes rest : List ℕ) → starts_with nat_eq rest bytes ≡ true → contains bytes rest ≡ true
unfolding contains
found bytes [] e = e
found bytes (first ∷ rest) e = rw e refl

pub none : (bytes rest : List ℕ) → length rest < 1 → starts_with nat_eq rest bytes ≡ false → contains bytes rest ≡ false
unfolding contains
none bytes [] l e = e
none bytes (first ∷ rest) l e = absurd (omega arith)

pub further : (bytes rest : List ℕ) (count : ℕ) → count ≡ length rest - 1 → 1 ≤ length rest
    → starts_with nat_eq rest bytes ≡ false → contains bytes rest ≡ contains bytes (take count (drop 1 rest))
unfolding contains
further bytes [] count is l e = absurd (omega arith)
further bytes (first ∷ rest) count is l e =
    let all : count ≡ length rest = omega arith in
    rw e (ap (λ behind. contains bytes behind) (sym (take_all count rest (omega arith))))
