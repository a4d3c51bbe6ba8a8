-- Lines that stay as they are: those that say something, and those without comments that can be read.
use Rattle.std.proofs.Common.{◌≡◌, ◌∙◌, ap, sym, refl, ℕ, List, [], ◌∷◌, ◌++◌, length, Bool, true, false}
use Rattle.std.proofs.Common.{Some, append_assoc, append-nil, map, inl, inr, eqb, arith}
use Rattle.std.specs.Prelude.{codes, not, nat_le, nat_lt, if◌then◌else◌, ◌&&◌, ◌||◌}
use Rattle.std.specs.List.{list_all, list_any}
use Rattle.std.proofs.lemmas.Bool.{and_parts, cases_Bool}
use Rattle.std.proofs.lemmas.Bool.Decides.{nat_tests}
use Rattle.c62_token.specs.Token.{is_allowed, tokens}
use Rattle.c62_adopt_line.specs.Line.{line_says}
use Rattle.c62_adopt_line.proofs.ListedLines.{empty_reads}
use Rattle.c62_adopt_spell.specs.declared.comment.Place.{Place}
use Rattle.c62_adopt_spell.specs.declared.comment.Place.TheVariants.{Code, Remark}
use Rattle.c62_adopt_spell.specs.Comment.{blanked, is_remark, is_within, place_at_end, uncommented}
use Rattle.c62_adopt_spell.specs.Laws.{StayAsTheyAre, stays}
use Rattle.c62_adopt_spell.specs.declared.names.Setting.{Setting}
use Rattle.c62_adopt_spell.specs.Line.{IsItself, IsPlain, counts_below, is_readable, last_byte, names_below, names_plain, reads}
use Rattle.c62_adopt_spell.specs.Local.{counted, local_of}
use Rattle.c62_adopt_spell.specs.Line.{speaks, spelled, spelled_plain, with_locals, without_end}
use Rattle.c62_adopt_spell.specs.Text.{text_of}
use Rattle.c62_line.specs.declared.limits.TheConstants.{MOST_LINE}
use Rattle.c62_op.specs.declared.set.InstructionSet.{InstructionSet}

-- one line more is written
pub line_more : (front line : List ℕ) (lines : List (List ℕ))
    → (front ++ text_of (line ∷ [])) ++ text_of lines ≡ front ++ text_of (line ∷ lines)
line_more front line lines = simp (append_assoc, append-nil) refl

-- ---- what says something

short_so : (line : List ℕ) → nat_le (length line) MOST_LINE ≡ true → nat_lt MOST_LINE (length line) ≡ false
short_so line short = grind (arith, nat_tests)

long_so : (line : List ℕ) → nat_le (length line) MOST_LINE ≡ false → nat_lt MOST_LINE (length line) ≡ true
long_so line long = grind (arith, nat_tests)

unreadable_silent : (isa : InstructionSet) (line : List ℕ) → is_readable line ≡ false
    → speaks (line_says isa line) ≡ false
unfolding line_says
unreadable_silent isa line is = elim (cases_Bool (list_all is_allowed line)) [
  | inl allowed ↦ rw (allowed, long_so line (rw allowed at is)) refl
  | inr other ↦ rw other refl
]

-- below a text's settings and local labels
module _ (isa : InstructionSet) (names : List Setting) (mark counts : List ℕ) (line : List ℕ) where
  pub unreadable_so : is_readable line ≡ false → spelled isa names mark counts line ≡ without_end line
  unfolding spelled
  unreadable_so is = rw is refl

  pub unreadable_sets : is_readable line ≡ false → names_below isa names mark counts line ≡ names
  unfolding names_below
  unreadable_sets is = rw is refl

  pub remark_so : is_readable line ≡ true → is_remark line ≡ true → spelled isa names mark counts line ≡ line
  unfolding spelled
  remark_so readable is = rw (readable, is) refl

  pub remark_sets : is_readable line ≡ true → is_remark line ≡ true → names_below isa names mark counts line ≡ names
  unfolding names_below
  remark_sets readable is = rw (readable, is) refl

  pub itself_so : IsItself isa line → spelled isa names mark counts line ≡ line
  unfolding IsItself
  itself_so is = (is names mark counts).0

  pub itself_sets : IsItself isa line → names_below isa names mark counts line ≡ names
  unfolding IsItself
  itself_sets is = (is names mark counts).1

  pub plain_so : IsPlain isa line
      → spelled isa names mark counts line ≡ spelled_plain isa names (with_locals isa mark counts (blanked Code line))
  unfolding IsPlain
  plain_so is = (is names mark counts).0

  pub plain_sets : IsPlain isa line
      → names_below isa names mark counts line ≡ names_plain isa names (with_locals isa mark counts (blanked Code line))
  unfolding IsPlain
  plain_sets is = (is names mark counts).1

-- local labels below a line
module _ (isa : InstructionSet) (counts : List ℕ) (line : List ℕ) where
  pub unreadable_counts : is_readable line ≡ false
      → counts_below isa counts line ≡ counted counts (local_of (tokens (blanked Code line)))
  unfolding counts_below
  unreadable_counts is = rw is refl

  pub remark_counts : is_readable line ≡ true → is_remark line ≡ true → counts_below isa counts line ≡ counts
  unfolding counts_below
  remark_counts readable is = rw (readable, is) refl

  pub saying_counts : is_readable line ≡ true → is_remark line ≡ false → true ≡ speaks (line_says isa line)
      → counts_below isa counts line ≡ counts
  unfolding counts_below
  saying_counts readable plain is = rw (readable, plain, ← is) refl

  pub silent_counts : is_readable line ≡ true → is_remark line ≡ false → false ≡ speaks (line_says isa line)
      → counts_below isa counts line ≡ counted counts (local_of (tokens (blanked Code line)))
  unfolding counts_below
  silent_counts readable plain is = rw (readable, plain, ← is) refl

-- what says something
says_so : (isa : InstructionSet) (line : List ℕ) → is_readable line ≡ true → speaks (line_says isa line) ≡ true
    → IsItself isa line
unfolding spelled names_below IsItself
says_so isa line readable is names mark counts = elim (cases_Bool (is_remark line)) [
  | inl remark ↦ (rw (readable, remark) refl, rw (readable, remark) refl)
  | inr other ↦ (rw (readable, other, is) refl, rw (readable, other, is) refl)
]

-- what can be read has no local labels
plain_read : (isa : InstructionSet) (mark counts : List ℕ) (line : List ℕ) → reads (line_says isa line) ≡ true
    → with_locals isa mark counts line ≡ line
unfolding with_locals
plain_read isa mark counts line read = rw read refl

empty_so : (isa : InstructionSet) → IsItself isa []
unfolding spelled names_below IsItself
empty_so isa names mark counts =
    let read : reads (line_says isa []) ≡ true = rw (empty_reads isa) refl in
    let plain = plain_read isa mark counts [] read in
    (rw (empty_reads isa, plain, read) refl, rw (empty_reads isa, plain, read) (append-nil names))

pub stays_so : (isa : InstructionSet) (line : List ℕ) → stays isa line ≡ true → IsItself isa line
stays_so isa [] is = empty_so isa
stays_so isa (b ∷ line) is = elim (cases_Bool (is_readable (b ∷ line))) [
  | inl readable ↦ says_so isa (b ∷ line) readable is
  | inr other ↦ let silent : true ≡ false = sym is ∙ unreadable_silent isa (b ∷ line) other in absurd cc
]

pub stay : (isa : InstructionSet) (lines : List (List ℕ)) → StayAsTheyAre isa lines
stay isa [] mark counts all = refl
stay isa (line ∷ lines) mark counts all =
    let parts = and_parts (stays isa line) (list_all (stays isa) lines) all in
    let itself = stays_so isa line parts.0 in
    rw (
      itself_so isa [] mark (counts_below isa counts line) line itself,
      itself_sets isa [] mark (counts_below isa counts line) line itself,
    )
    (ap (λ (others : List (List ℕ)). line ∷ others)
    (stay isa lines mark (counts_below isa counts line) parts.1))

-- ---- what has no comment

-- its places keep each byte, and none is in a comment at the end
record IsKept (place : Place) (line : List ℕ) : Type 0 where
  bytes : blanked place line ≡ line
  over : is_within (place_at_end place line) ≡ false

behind_byte : (b : ℕ) (place : Place) (line : List ℕ) → IsKept place line → (b ∷ blanked place line ≡ b ∷ line)
behind_byte b place line kept = ap (λ (bytes : List ℕ). b ∷ bytes) kept.bytes

remark_kept : (line : List ℕ) → IsKept Remark line
remark_kept [] = record { bytes = refl; over = refl }
remark_kept (b ∷ line) = record { bytes = behind_byte b Remark line (remark_kept line); over = (remark_kept line).over }

code_kept : (line : List ℕ) → list_any (λ b. eqb b 47) line ≡ false → IsKept Code line
code_kept [] none = record { bytes = refl; over = refl }
code_kept (b ∷ line) none = elim (cases_Bool (eqb b 47)) [
  | inl slash ↦ absurd (let some : true ≡ false = rw slash at none in cc)
  | inr other ↦ elim (cases_Bool (eqb b 59)) [
    | inl remark ↦ record {
      bytes = rw remark (behind_byte b Remark line (remark_kept line));
      over = rw remark (remark_kept line).over;
    }
    | inr code ↦
        let rest = code_kept line (rw other at none) in
        record { bytes = rw (code, other) (behind_byte b Code line rest); over = rw (code, other) rest.over }
  ]
]

kept_so : (line : List ℕ) → IsKept Code line → uncommented line ≡ Some line
kept_so line kept = rw (kept.over, kept.bytes) refl

-- what can be read and has no comment stands as it is
read_so : (isa : InstructionSet) (line : List ℕ) → is_readable line ≡ true → is_remark line ≡ false
    → reads (line_says isa line) ≡ true
    → IsKept Code line → IsItself isa line
unfolding spelled names_below IsItself
read_so isa line readable plain read kept names mark counts = elim (cases_Bool (speaks (line_says isa line))) [
  | inl says ↦ (rw (readable, plain, says) refl, rw (readable, plain, says) refl)
  | inr silent ↦ (
    rw (readable, plain, silent, kept_so line kept, plain_read isa mark counts line read, read) refl,
    rw (readable, plain, silent, kept_so line kept, plain_read isa mark counts line read, read)
        (append-nil names),
  )
]

-- the last byte is apart from those before it
end_so : (front : List ℕ) (b : ℕ) → without_end (front ++ b ∷ []) ≡ front ++ last_byte b ∷ []
end_so [] b = refl
end_so (c ∷ []) b = refl
end_so (c ∷ d ∷ front) b = ap (λ (bytes : List ℕ). c ∷ bytes) (end_so (d ∷ front) b)

pub end_more : (old front : List ℕ) (b : ℕ) → (old ++ front) ++ last_byte b ∷ [] ≡ old ++ without_end (front ++ b ∷ [])
end_more old front b = append_assoc old front (last_byte b ∷ [])
    ∙ ap (λ (bytes : List ℕ). old ++ bytes) (sym (end_so front b))

-- ---- whether a line that can be read and is no comment stands as it is

module _ (isa : InstructionSet) (line : List ℕ) (readable : is_readable line ≡ true)
    (plain : is_remark line ≡ false) where
  pub speaks_so : true ≡ speaks (line_says isa line) → IsItself isa line
  speaks_so is = says_so isa line readable (sym is)

  pub reads_so : true ≡ reads (line_says isa line) → list_any (λ b. eqb b 47) line ≡ false → IsItself isa line
  reads_so is none = read_so isa line readable plain (sym is) (code_kept line none)

  -- a comment that doesn't end
  pub open_so : false ≡ speaks (line_says isa line) → is_within (place_at_end Code line) ≡ true → IsItself isa line
  unfolding spelled names_below IsItself
  open_so silent within names mark counts =
      (rw (readable, plain, ← silent, within) refl, rw (readable, plain, ← silent, within) refl)

  pub ended_so : false ≡ speaks (line_says isa line) → is_within (place_at_end Code line) ≡ false → IsPlain isa line
  unfolding spelled names_below IsPlain
  ended_so silent within names mark counts =
      (rw (readable, plain, ← silent, within) refl, rw (readable, plain, ← silent, within) refl)
