-- Of each line the first fault.
use Rattle.std.proofs.Common.{◌≡◌, ◌∙◌, ℕ, Bool, true, false, List, [], ◌∷◌, ◌++◌, Option, Some, None, refl, sym, ap}
use Rattle.std.proofs.Common.{arith}
use Rattle.std.specs.Prelude.{◌==◌, ◌||◌, find, fold, if◌then◌else◌}
use Rattle.std.specs.Cmp.{IsEquivalence}
use Rattle.std.specs.List.{IsDistinct, list_any}
use Rattle.std.specs.Option.{option_or}
use Rattle.std.proofs.lemmas.Cmp.{nat_eq_equiv}
use Rattle.std.proofs.lemmas.Bool.{false≢true}
use Rattle.std.proofs.lemmas.Bool.Decides.{nat_tests}
use Rattle.std.proofs.lemmas.List.Folds.{find-append, list_any-append}
use Rattle.std.proofs.lemmas.Map.Keys.{IsDistinct-push}
use Rattle.c62_faulted.specs.declared.fault.Fault.{Fault}
use Rattle.c62_faulted.specs.Faulted.{has_line, with_fault, with_faults}
use Rattle.c62_faulted.specs.Laws.{TellsFirsts, same_line}

abbrev is_on : ℕ → Fault → Bool
is_on line fault = line == fault.line

-- ---- each line once

lines_equal : IsEquivalence same_line
lines_equal = record {
  refl = λ one. nat_eq_equiv.refl one.line;
  symm = λ one other. nat_eq_equiv.symm one.line other.line;
  congr = λ one other third. nat_eq_equiv.congr one.line other.line third.line;
}

once_more : (told : List Fault) (fault : Fault) → IsDistinct same_line told
    → IsDistinct same_line (with_fault told fault)
once_more told fault once = either (has_line fault.line told) refl
  where
    either : (b : Bool) → has_line fault.line told ≡ b → IsDistinct same_line (if b then told else told ++ fault ∷ [])
    either true e = once
    either false e = IsDistinct-push lines_equal told fault once e

once_all : (told faults : List Fault) → IsDistinct same_line told → IsDistinct same_line (with_faults told faults)
once_all told [] once = once
once_all told (fault ∷ faults) once = once_all (with_fault told fault) faults (once_more told fault once)

-- ---- the first

-- where one is there, what comes behind it isn't the first
there : (line : ℕ) (told : List Fault) (other : Option Fault) → has_line line told ≡ true
    → option_or (find (is_on line) told) other ≡ find (is_on line) told
there line [] other h = absurd (false≢true h)
there line (fault ∷ told) other h = either (is_on line fault) refl (λ later. there line told other later)
  where
    either : (b : Bool) → is_on line fault ≡ b
        → (has_line line told ≡ true → option_or (find (is_on line) told) other ≡ find (is_on line) told)
        → option_or (find (is_on line) (fault ∷ told)) other ≡ find (is_on line) (fault ∷ told)
    either true e rest = rw e refl
    either false e rest = let later : has_line line told ≡ true = grind (arith, e, h) in rw e (rest later)

or_none : (o : Option Fault) → option_or o None ≡ o
or_none None = refl
or_none (Some fault) = refl

or_or : (a b c : Option Fault) → option_or (option_or a b) c ≡ option_or a (option_or b c)
or_or None b c = refl
or_or (Some fault) b c = refl

first_more : (line : ℕ) (told : List Fault) (fault : Fault)
    → find (is_on line) (with_fault told fault) ≡ option_or (find (is_on line) told) (find (is_on line) (fault ∷ []))
first_more line told fault = either (has_line fault.line told) refl (is_on line fault) refl
  where
    either : (b : Bool) → has_line fault.line told ≡ b → (c : Bool) → is_on line fault ≡ c
        → find (is_on line) (if b then told else told ++ fault ∷ []) ≡ option_or (find (is_on line) told)
        (find (is_on line) (fault ∷ []))
    either false e c f = find-append (is_on line) told (fault ∷ [])
    either true e true f =
        let same : line ≡ fault.line = grind (arith, nat_tests, f) in
        let at : has_line line told ≡ true = rw same e in
        sym (there line told (find (is_on line) (fault ∷ [])) at)
    either true e false f = rw f (sym (or_none (find (is_on line) told)))

first_all : (line : ℕ) (told faults : List Fault)
    → find (is_on line) (with_faults told faults) ≡ option_or (find (is_on line) told) (find (is_on line) faults)
first_all line told [] = sym (or_none (find (is_on line) told))
first_all line told (fault ∷ faults) =
    first_all line (with_fault told fault) faults
    ∙ ap (λ (o : Option Fault). option_or o (find (is_on line) faults)) (first_more line told fault)
    ∙ or_or (find (is_on line) told) (find (is_on line) (fault ∷ [])) (find (is_on line) faults)
    ∙ ap (λ (o : Option Fault). option_or (find (is_on line) told) o)
    (sym (find-append (is_on line) (fault ∷ []) faults))

pub tells_firsts : (all told : List Fault) → told ≡ with_faults [] all → TellsFirsts all told
unfolding IsDistinct
tells_firsts all told is = rw is (record { first = λ line. first_all line [] all; once = once_all [] all tt })

-- ---- the lines

line_more : (line : ℕ) (told : List Fault) (fault : Fault)
    → has_line line (with_fault told fault) ≡ (has_line line told || has_line line (fault ∷ []))
line_more line told fault = either (has_line fault.line told) refl (is_on line fault) refl
  where
    either : (b : Bool) → has_line fault.line told ≡ b → (c : Bool) → is_on line fault ≡ c
        → has_line line (if b then told else told ++ fault ∷ []) ≡ (has_line line told || has_line line (fault ∷ []))
    either false e c f = list_any-append (is_on line) told (fault ∷ [])
    either true e true f =
        let same : line ≡ fault.line = grind (arith, nat_tests, f) in
        let at : has_line line told ≡ true = rw same e in
        grind (arith, at)
    either true e false f = grind (arith, f)

pub line_all : (line : ℕ) (told faults : List Fault)
    → has_line line (with_faults told faults) ≡ (has_line line told || has_line line faults)
line_all line told [] = grind arith
line_all line told (fault ∷ faults) =
    let rest = line_all line (with_fault told fault) faults in
    let one = line_more line told fault in
    grind (arith, rest, one)
