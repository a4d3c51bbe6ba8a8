-- What the first `=` of a word parts.
use Rattle.std.proofs.Common.{◌≡◌, ◌<◌, true, false, length, Option, Some, None, refl, arith}
use Rattle.std.specs.Prelude.{◌==◌, MatchOption, nat_lt, option_map}
use Rattle.std.specs.Borrow.{Bor}
use Rattle.std.specs.List.{after_first, before_first, position_or_len}
use Rattle.std.proofs.lemmas.Bool.{lt-ltb}
use Rattle.std.proofs.lemmas.Bool.Decides.{nat_tests}
use Rattle.c62_files.specs.Words.{Text, equals_parts}

abbrev IsFirst : Text → Bor Text × Bor Text → Type 0
IsFirst word parts =
    (position_or_len (λ b. b == 61) word < length word) × (parts.0.now ≡ before_first (λ b. b == 61) word)
    × (parts.1.now ≡ after_first (λ b. b == 61) word)

pub parted : (word : Text) (parts : Option (Bor Text × Bor Text))
    → MatchOption parts (position_or_len (λ b. b == 61) word ≡ length word) (IsFirst word)
    → option_map (λ p. (p.0.now, p.1.now)) parts ≡ equals_parts word
parted word None none =
    let not_within : nat_lt (position_or_len (λ b. b == 61) word) (length word) ≡ false = grind (arith, nat_tests, none)
    in
    rw not_within refl
parted word (Some parts) first =
    let within : nat_lt (position_or_len (λ b. b == 61) word) (length word) ≡ true = lt-ltb _ _ first.0 in
    rw (within, first.1, first.2) refl
