-- Lines of help behind one another.
use Rattle.c62_read.proofs.Common.{◌≡◌, ℕ, List, [], ◌∷◌, ◌++◌, ◌∙◌, ap, refl, sym, append_assoc, append-nil}
use Rattle.std.specs.Prelude.{OnOk, Result, Ok, Err}
use Rattle.std.specs.List.{flat_map}
use Rattle.c62_explain.specs.Picture.{AddsHelp, IsHelp, hint}

pub adds_none : (number : ℕ) (old : List ℕ) → AddsHelp number old old
adds_none number old = ([], sym (append-nil old), ([], refl))

pub adds_one : (number : ℕ) (words : List (List ℕ)) (old new : List ℕ) → new ≡ old ++ hint number words
    → AddsHelp number old new
adds_one number words old new is = (hint number words, is, (words ∷ [], sym (append-nil (hint number words))))

pub adds_one_on : {E : Type 0} (result : Result (Unit {0}) E) (number : ℕ) (words : List (List ℕ)) (old new : List ℕ)
    → OnOk result (new ≡ old ++ hint number words) → OnOk result (AddsHelp number old new)
adds_one_on (Ok done) number words old new is = adds_one number words old new is
adds_one_on (Err error) number words old new is = tt

hints_of_both : (number : ℕ) (first others : List (List (List ℕ)))
    → flat_map (hint number) (first ++ others) ≡ flat_map (hint number) first ++ flat_map (hint number) others
hints_of_both number [] others = refl
hints_of_both number (words ∷ first) others =
    ap (λ (behind : List ℕ). hint number words ++ behind) (hints_of_both number first others)
    ∙ sym (append_assoc (hint number words) (flat_map (hint number) first) (flat_map (hint number) others))

pub both_help : (number : ℕ) (first others : List ℕ) → IsHelp number first → IsHelp number others
    → IsHelp number (first ++ others)
both_help number first others (hints, are) (more, more_are) = (
  hints ++ more,
  ap (λ (front : List ℕ). front ++ others) are
      ∙ ap (λ (behind : List ℕ). flat_map (hint number) hints ++ behind) more_are
      ∙ sym (hints_of_both number hints more),
)

pub adds_both : (number : ℕ) (old mid new : List ℕ) → AddsHelp number old mid → AddsHelp number mid new
    → AddsHelp number old new
adds_both number old mid new (first, first_is, help) (more, more_is, others) = (
  first ++ more,
  more_is ∙ ap (λ (front : List ℕ). front ++ more) first_is
      ∙ append_assoc old first more,
  both_help number first more help others,
)

pub adds_behind_on : {E : Type 0} (result : Result (Unit {0}) E) (number : ℕ) (old mid new : List ℕ)
    → AddsHelp number old mid
    → OnOk result (AddsHelp number mid new) → OnOk result (AddsHelp number old new)
adds_behind_on (Ok done) number old mid new first others = adds_both number old mid new first others
adds_behind_on (Err error) number old mid new first others = tt

-- help alone, from nothing
pub is_help : (number : ℕ) (out : List ℕ) → AddsHelp number [] out → IsHelp number out
is_help number out (more, is, help) = rw is help
