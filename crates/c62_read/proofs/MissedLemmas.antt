-- Branches to labels that are looked for later.
use Rattle.c62_read.proofs.Common.{◌≡◌, ℕ, false, not, cond, List, [], ◌∷◌, ◌++◌, Result, Err, refl, arith, map}
use Rattle.c62_read.proofs.Common.{option_map, filter, list_any}
use Rattle.c62_read.proofs.Common.{slice_get, bytes_eq, nat_tests, list_any-append, UnknownTarget, Jump, Says, Refusal}
use Rattle.c62_read.proofs.Common.{is_among, Asked}
use Rattle.c62_read.proofs.Common.{asked_in, asked_of, first_line, is_unknown, missed, unless_missed}
use Rattle.c62_read.specs.Program.{Name}

-- what more labels leave of them
pub missed_more : (labels others : List Name) (asked : List Asked)
    → missed (labels ++ others) asked ≡ missed others (missed labels asked)
missed_more labels others [] = refl
missed_more labels others (branch ∷ asked) =
    grind (
      arith,
      nat_tests,
      list_any-append (λ (other : Name). bytes_eq other branch.target) labels,
      missed_more labels
          others asked,
    )

-- no label leaves all
pub missed_all : (asked : List Asked) → missed [] asked ≡ asked
missed_all [] = refl
missed_all (branch ∷ asked) = rw (missed_all asked) refl

-- a line's branch behind those of earlier lines
pub missed_then : {T : Type 0} (labels : List Name) (asked : List Asked) (number : ℕ) (says : Says)
    (answer : Result T Refusal)
    → unless_missed (first_line (missed labels asked))
    (cond (is_unknown labels says) (Err (number, UnknownTarget)) answer)
    ≡ unless_missed (first_line (missed labels (asked ++ asked_in number says))) answer
missed_then labels [] number says answer = grind (arith, nat_tests)
missed_then labels (branch ∷ asked) number says answer = grind
    (arith, nat_tests, missed_then labels asked number says answer)

-- ---- the same in the reader

pub kept_are : (labels : List Name) (jumps : List Jump)
    → map asked_of (filter (λ jump. not (is_among jump.target labels)) jumps) ≡ missed labels (map asked_of jumps)
kept_are labels [] = refl
kept_are labels (jump ∷ jumps) = grind (arith, nat_tests, kept_are labels jumps)

pub none_known : (labels : List Name) (jumps : List Jump) → list_any (λ jump. is_among jump.target labels) jumps ≡ false
    → map asked_of jumps ≡ missed labels (map asked_of jumps)
none_known labels [] none = refl
none_known labels (jump ∷ jumps) none = grind (arith, nat_tests, none_known labels jumps)

pub first_one : (jumps : List Jump)
    → first_line (map asked_of jumps) ≡ option_map (λ jump. jump.line) (slice_get jumps 0)
first_one [] = refl
first_one (jump ∷ jumps) = refl
