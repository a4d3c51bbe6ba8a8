-- Bytes of memory, one more.
use Rattle.std.proofs.Common.{◌≡◌, ◌∙◌, ℕ, ◌+◌, List, [], ◌∷◌, ◌++◌, map, refl, sym, ap, append_assoc}
use Rattle.std.specs.List.{range_with_len}
use Rattle.std.proofs.lemmas.List.FromFn.{map-range_with_len_more}
use Rattle.c62_serial.specs.State.{Machine}
use Rattle.c62_printing.specs.Dumping.{byte_at, bytes_at}

pub byte_behind : (machine : Machine) (address offset byte : ℕ) (front old new : List ℕ)
    → old ≡ front ++ bytes_at machine address offset
    → byte ≡ byte_at machine (address + offset) → new ≡ old ++ byte ∷ []
    → new ≡ front ++ bytes_at machine address (offset + 1)
byte_behind machine address offset byte front old new was read is =
    let some = bytes_at machine address offset in
    let more : bytes_at machine address (offset + 1) ≡ some ++ byte_at machine (address + offset) ∷ [] =
    map-range_with_len_more (byte_at machine) address offset (address + offset) refl in
    let last : some ++ byte ∷ [] ≡ bytes_at machine address (offset + 1) = ap (λ b. some ++ b ∷ []) read ∙ sym more in
    is ∙ ap (λ xs. xs ++ byte ∷ []) was ∙ append_assoc front some (byte ∷ []) ∙ ap (λ xs. front ++ xs) last
