-- The exchange that adds an entry to a history keeps the word its length.
use Rattle.std.proofs.Common.{◌≡◌, ℕ, ◌+◌, Bool, true, false, List, [], ◌∷◌, ◌++◌, length, refl, sym, ap, arith, inl}
use Rattle.std.proofs.Common.{None}
use Rattle.std.specs.Prelude.{◌==◌}
use Rattle.std.proofs.lemmas.Bool.{eqb-true}
use Rattle.std.proofs.lemmas.List.{append-nil, length-append}
use prog.Atomic.{either}
use mathlib.Core.List.{IsPrefix}
use Rattle.logbook.specs.Pages.{View, Moves, Goes, keeps, no_nib, step}
use Rattle.c62_sheet.specs.declared.entry.Entry.{Entry}
use Rattle.c62_view.specs.Past.{IsCounted, Adds}
use Rattle.c62_view.proofs.Prefixes.{prefix_whole}

-- what a thread knows that has no pen and no update under way
abbrev pub knowing : List Entry → View Entry ℕ
knowing log = (log, (no_nib, None))

-- where the word is the length of what was seen, that is the whole history, and the entry is added to both; else both
-- stay
goes : (seen whole : List Entry) (entry : Entry) (b : Bool) → (length whole == length seen) ≡ b → IsPrefix seen whole
    → Goes IsCounted (λ log. []) (λ before after answer. Unit {0}) 0 (knowing seen)
    (λ n. either (n == length seen) (length seen + 1) n)
    (Adds (step 0 (length seen) (length seen + 1) entry) (knowing seen)) ((length whole, true) ∷ (0, true) ∷ [])
    whole
goes seen whole entry true same begins =
    let all : seen ≡ whole = prefix_whole seen whole begins (omega (arith, eqb-true (length whole) (length seen) same))
    in
    let long : length seen + 1 ≡ length (whole ++ entry ∷ []) = omega
    (arith, length-append whole (entry ∷ []), ap (length {A = Entry}) all) in
    rw same (
      keeps,
      entry ∷ [],
      None,
      tt,
      ap (λ n. (n, true) ∷ (0, true) ∷ []) long,
      inl (refl, refl),
      ap
          (λ (log : List Entry). log ++ entry ∷ []) (sym all),
    )
goes seen whole entry false other begins = rw other (
  keeps,
  [],
  None,
  tt,
  ap (λ (log : List Entry). (length log, true) ∷ (0, true) ∷ []) (sym (append-nil whole)),
  inl (refl, refl),
  tt,
)

pub adds_moves : (seen : List Entry) (entry : Entry) (count : ℕ) → length seen ≡ count
    → Moves IsCounted (λ log. []) (λ before after answer. Unit {0}) 0 (knowing seen)
    (λ n. either (n == count) (count + 1) n) (Adds (step 0 count (count + 1) entry) (knowing seen))
adds_moves seen entry count long cells whole counted begins away = rw (counted, ← long)
    (omega arith, refl, goes seen whole entry (length whole == length seen) refl begins)
