-- Rows of a text with other lines: what they issue has these.
use Rattle.std.proofs.Common.{◌≡◌, ℕ, zero, suc, ◌+◌, ◌≤◌, List, [], ◌∷◌, ◌++◌, length, map, refl, sym, ap, ◌∙◌, arith}
use Rattle.std.specs.Prelude.{slice_index_or}
use Rattle.c62_rules.specs.PacketRules.{Issue}
use Rattle.c62_packet.specs.declared.placed.Placed.{Placed}
use Rattle.c62_packet.specs.Packed.{issue_of, issues_of}
use Rattle.c62_flight.specs.Text.{Row, Text, no_row}
use Rattle.c62_flight.specs.Issued.{issue_in, issued_on}
use Rattle.c62_flight.specs.Laid.{straight}
use Rattle.c62_loop_match.specs.Reading.{unlined}
use Rattle.c62_check_loop.specs.Relined.{row_unlined, AreRelined}

-- ---- the rows

-- instructions with the lines of others
abbrev with_lines : List Placed → List Placed → List Placed
with_lines [] ps = []
with_lines (q ∷ qs) [] = q ∷ qs
with_lines (q ∷ qs) (p ∷ ps) =
    record { insn = q.insn; line = p.line; cycle = q.cycle; unit = q.unit } ∷ with_lines qs ps

-- the others that are left
abbrev rest_of : List Placed → List Placed → List Placed
rest_of [] ps = ps
rest_of (q ∷ qs) [] = []
rest_of (q ∷ qs) (p ∷ ps) = rest_of qs ps

abbrev lined_rows : ℕ → List Row → List Placed → List Row
lined_rows zero rows ps = rows
lined_rows (suc n) [] ps = []
lined_rows (suc n) (row ∷ rows) ps =
    record { insns = with_lines row.insns ps; idle = row.idle } ∷ lined_rows n rows (rest_of row.insns ps)

abbrev lined_from : ℕ → ℕ → List Row → List Placed → List Row
lined_from zero n rows ps = lined_rows n rows ps
lined_from (suc k) n [] ps = []
lined_from (suc k) n (row ∷ rows) ps = row ∷ lined_from k n rows ps

lines_unlined : (qs ps : List Placed) → map unlined (with_lines qs ps) ≡ map unlined qs
lines_unlined [] ps = refl
lines_unlined (q ∷ qs) [] = refl
lines_unlined (q ∷ qs) (p ∷ ps) = ap (λ xs. unlined q ∷ xs) (lines_unlined qs ps)

abbrev row_of_insns : ℕ → List Placed → Row
row_of_insns idle insns = record { insns = insns; idle = idle }

rows_unlined : (n : ℕ) (rows : List Row) (ps : List Placed)
    → map row_unlined (lined_rows n rows ps) ≡ map row_unlined rows
rows_unlined zero rows ps = refl
rows_unlined (suc n) [] ps = refl
rows_unlined (suc n) (row ∷ rows) ps =
    ap (λ insns. row_of_insns row.idle insns ∷ map row_unlined (lined_rows n rows (rest_of row.insns ps)))
    (lines_unlined row.insns ps)
    ∙ ap (λ xs. row_unlined row ∷ xs) (rows_unlined n rows (rest_of row.insns ps))

from_unlined : (k n : ℕ) (rows : List Row) (ps : List Placed)
    → map row_unlined (lined_from k n rows ps) ≡ map row_unlined rows
from_unlined zero n rows ps = rows_unlined n rows ps
from_unlined (suc k) n [] ps = refl
from_unlined (suc k) n (row ∷ rows) ps = ap (λ xs. row_unlined row ∷ xs) (from_unlined k n rows ps)

-- ---- what they issue

abbrev text_in : List ℕ → List Row → Text
text_in aims rows = record { rows = rows; aims = aims }

abbrev issued_from : List ℕ → List Row → ℕ → ℕ → ℕ → List Placed
issued_from aims rows row start n = issued_on (text_in aims rows) (straight (text_in aims rows) row start n)

-- below another row they issue the same
shifted : (aims : List ℕ) (row : Row) (rows : List Row) (k start n : ℕ)
    → issued_from aims (row ∷ rows) (suc k) start n ≡ issued_from aims rows k start n
shifted aims row rows k start zero = refl
shifted aims row rows k start (suc n) =
    let next : suc k + 1 ≡ suc (k + 1) = omega arith in
    ap (λ m. map (issue_in start) (slice_index_or rows k no_row).insns ++ issued_from aims (row ∷ rows) m
    (start + (slice_index_or rows k no_row).idle + 1) n) next
    ∙ ap (λ ps. map (issue_in start) (slice_index_or rows k no_row).insns ++ ps)
    (shifted aims row rows (k + 1) (start + (slice_index_or rows k no_row).idle + 1) n)

same_one : (start : ℕ) (q p : Placed) → issue_of p ≡ issue_of (issue_in start q)
    → issue_in start (record { insn = q.insn; line = p.line; cycle = q.cycle; unit = q.unit }) ≡ p
same_one start q p same =
    let insn : p.insn ≡ q.insn = ap (λ (i : Issue). i.insn) same in
    let cycle : p.cycle ≡ start = ap (λ (i : Issue). i.cycle) same in
    let unit : p.unit ≡ q.unit = ap (λ (i : Issue). i.unit) same in
    grind (arith, insn, cycle, unit)

-- those of one row, and the others behind it
split : (start : ℕ) (qs ps rest : List Placed) → issues_of ps ≡ issues_of (map (issue_in start) qs ++ rest)
    → (map (issue_in start) (with_lines qs ps) ++ rest_of qs ps ≡ ps) × (issues_of (rest_of qs ps) ≡ issues_of rest)
split start [] ps rest same = (refl, same)
split start (q ∷ qs) [] rest same = absurd cc
split start (q ∷ qs) (p ∷ ps) rest same =
    let first : issue_of p ≡ issue_of (issue_in start q) = cc in
    let behind : issues_of ps ≡ issues_of (map (issue_in start) qs ++ rest) = cc in
    let more = split start qs ps rest behind in (
      ap (λ x. x ∷ (map (issue_in start) (with_lines qs ps) ++ rest_of qs ps)) (same_one start q p first)
          ∙ ap (λ xs. p ∷ xs) more.0,
      more.1,
    )

none_left : (ps : List Placed) → issues_of ps ≡ [] → [] ≡ ps
none_left [] same = refl
none_left (p ∷ ps) same = absurd cc

lined_issue : (aims : List ℕ) (n start : ℕ) (rows : List Row) (ps : List Placed) → n ≤ length rows
    → issues_of ps ≡ issues_of (issued_from aims rows 0 start n)
    → issued_from aims (lined_rows n rows ps) 0 start n ≡ ps
lined_issue aims zero start rows ps few same = none_left ps same
lined_issue aims (suc n) start [] ps few same = absurd (omega (arith, few))
lined_issue aims (suc n) start (row ∷ rows) ps few same =
    let rest : List Placed = issued_from aims rows 0 (start + row.idle + 1) n in
    let all : issues_of ps ≡ issues_of (map (issue_in start) row.insns ++ rest)
    = same ∙ ap (λ xs. issues_of (map (issue_in start) row.insns ++ xs))
    (shifted aims row rows 0 (start + row.idle + 1) n) in
    let parts = split start row.insns ps rest all in
    ap (λ xs. map (issue_in start) (with_lines row.insns ps) ++ xs)
    (shifted aims (row_of_insns row.idle (with_lines row.insns ps)) (lined_rows n rows (rest_of row.insns ps)) 0
    (start + row.idle + 1) n
    ∙ lined_issue aims n (start + row.idle + 1) rows (rest_of row.insns ps) (omega (arith, few)) parts.1)
    ∙ parts.0

lined_from_issue : (aims : List ℕ) (k n : ℕ) (rows : List Row) (ps : List Placed) → k + n ≤ length rows
    → issues_of ps ≡ issues_of (issued_from aims rows k 0 n)
    → issued_from aims (lined_from k n rows ps) k 0 n ≡ ps
lined_from_issue aims zero n rows ps few same = lined_issue aims n 0 rows ps (omega (arith, few)) same
lined_from_issue aims (suc k) n [] ps few same = absurd (omega (arith, few))
lined_from_issue aims (suc k) n (row ∷ rows) ps few same =
    shifted aims row (lined_from k n rows ps) k 0 n
    ∙ lined_from_issue aims k n rows ps (omega (arith, few)) (same ∙ ap issues_of (shifted aims row rows k 0 n))

-- ---- the text

module _ (text : Text) (first count : ℕ) (ps : List Placed) where
  -- the text with these lines in place of its own
  abbrev pub text_lined : Text
  text_lined = text_in text.aims (lined_from first count text.rows ps)

  pub are_relined : AreRelined text text_lined
  are_relined = record { rows = sym (from_unlined first count text.rows ps); aims = refl }

  pub lined_issues : first + count ≤ length text.rows
      → issues_of ps ≡ issues_of (issued_on text (straight text first 0 count))
      → issued_on text_lined (straight text_lined first 0 count) ≡ ps
  lined_issues within same = lined_from_issue text.aims first count text.rows ps within same
