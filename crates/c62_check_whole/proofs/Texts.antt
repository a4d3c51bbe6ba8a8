-- Rows of one text in place of those of another.
use Rattle.std.proofs.Common.{◌≡◌, ℕ, zero, suc, ◌+◌, ◌<◌, ◌≤◌, List, [], ◌∷◌, ◌++◌, length, map}
use Rattle.std.proofs.Common.{refl, sym, ◌∙◌, ap, arith}
use Rattle.std.specs.Prelude.{slice_index_or}
use Rattle.std.proofs.lemmas.List.{length-map}
use Rattle.c62_packet.specs.declared.placed.Placed.{Placed}
use Rattle.c62_flight.specs.Text.{Row, Text, no_row, row_of}
use Rattle.c62_flight.specs.Issued.{Visit, issue_in, issued_on}
use Rattle.c62_flight.specs.Laid.{straight, straight_end}
use Rattle.c62_check_loop.specs.Relined.{row_unlined, AreRelined}

-- ---- texts that hold the same rows

-- from one row up to another they have the same
abbrev pub SameRows : Text → Text → ℕ → ℕ → Type 0
SameRows one other first last = (row : ℕ) → first ≤ row → row < last → row_of one row ≡ row_of other row

module _ (one other : Text) (first last : ℕ) (same : SameRows one other first last) where
  abbrev visit_at : ℕ → ℕ → Visit
  visit_at row start = record { row = row; start = start }

  pub same_straight : (row start count : ℕ) → first ≤ row → row + count ≤ last
      → straight one row start count ≡ straight other row start count
  same_straight row start zero low high = refl
  same_straight row start (suc count) low high =
      let here : row_of one row ≡ row_of other row = same row low (omega (arith, high)) in
      ap (λ (r : Row). visit_at row start ∷ straight one (row + 1) (start + r.idle + 1) count) here
      ∙ ap (λ (path : List Visit). visit_at row start ∷ path)
      (same_straight (row + 1) (start + (row_of other row).idle + 1) count (omega (arith, low)) (omega (arith, high)))

  pub same_end : (row start count : ℕ) → first ≤ row → row + count ≤ last
      → straight_end one row start count ≡ straight_end other row start count
  same_end row start zero low high = refl
  same_end row start (suc count) low high =
      let here : row_of one row ≡ row_of other row = same row low (omega (arith, high)) in
      ap (λ (r : Row). straight_end one (row + 1) (start + r.idle + 1) count) here
      ∙ same_end (row + 1) (start + (row_of other row).idle + 1) count (omega (arith, low)) (omega (arith, high))

  pub same_issued : (row start count : ℕ) → first ≤ row → row + count ≤ last
      → issued_on one (straight one row start count) ≡ issued_on other (straight other row start count)
  same_issued row start zero low high = refl
  same_issued row start (suc count) low high =
      let here : row_of one row ≡ row_of other row = same row low (omega (arith, high)) in
      ap (λ (r : Row). map (issue_in start) r.insns
      ++ issued_on one (straight one (row + 1) (start + r.idle + 1) count)) here
      ∙ ap (λ (ps : List Placed). map (issue_in start) (row_of other row).insns ++ ps)
      (same_issued (row + 1) (start + (row_of other row).idle + 1) count (omega (arith, low)) (omega (arith, high)))

-- ---- a text that begins with the rows of another

abbrev spliced : ℕ → List Row → List Row → List Row
spliced zero xs ys = ys
spliced (suc m) [] ys = ys
spliced (suc m) (x ∷ xs) [] = []
spliced (suc m) (x ∷ xs) (y ∷ ys) = x ∷ spliced m xs ys

spliced_unlined : (m : ℕ) (xs ys : List Row) → map row_unlined xs ≡ map row_unlined ys
    → map row_unlined (spliced m xs ys) ≡ map row_unlined ys
spliced_unlined zero xs ys same = refl
spliced_unlined (suc m) [] ys same = refl
spliced_unlined (suc m) (x ∷ xs) [] same = refl
spliced_unlined (suc m) (x ∷ xs) (y ∷ ys) same =
    let front : row_unlined x ≡ row_unlined y = cc in
    let rest : map row_unlined xs ≡ map row_unlined ys = cc in
    ap (λ (r : Row). r ∷ map row_unlined (spliced m xs ys)) front
    ∙ ap (λ (rs : List Row). row_unlined y ∷ rs) (spliced_unlined m xs ys rest)

spliced_low : (m : ℕ) (xs ys : List Row) → map row_unlined xs ≡ map row_unlined ys → (row : ℕ) → row < m
    → slice_index_or xs row no_row ≡ slice_index_or (spliced m xs ys) row no_row
spliced_low zero xs ys same row l = absurd (omega (arith, l))
spliced_low (suc m) [] [] same row l = refl
spliced_low (suc m) [] (y ∷ ys) same row l = absurd cc
spliced_low (suc m) (x ∷ xs) [] same row l = absurd cc
spliced_low (suc m) (x ∷ xs) (y ∷ ys) same zero l = refl
spliced_low (suc m) (x ∷ xs) (y ∷ ys) same (suc row) l =
    let rest : map row_unlined xs ≡ map row_unlined ys = cc in spliced_low m xs ys rest row (omega (arith, l))

spliced_high : (m : ℕ) (xs ys : List Row) → map row_unlined xs ≡ map row_unlined ys → (row : ℕ) → m ≤ row
    → slice_index_or ys row no_row ≡ slice_index_or (spliced m xs ys) row no_row
spliced_high zero xs ys same row l = refl
spliced_high (suc m) [] ys same row l = refl
spliced_high (suc m) (x ∷ xs) [] same row l = refl
spliced_high (suc m) (x ∷ xs) (y ∷ ys) same zero l = absurd (omega (arith, l))
spliced_high (suc m) (x ∷ xs) (y ∷ ys) same (suc row) l =
    let rest : map row_unlined xs ≡ map row_unlined ys = cc in spliced_high m xs ys rest row (omega (arith, l))

module _ (packets one other : Text) (one_is : AreRelined packets one) (other_is : AreRelined packets other) (m : ℕ)
  where
    -- the rows before this one, and from there on those of the other
    abbrev pub splice : Text
    splice = record { rows = spliced m one.rows other.rows; aims = other.aims }

    both : map row_unlined one.rows ≡ map row_unlined other.rows
    both = sym one_is.rows ∙ other_is.rows

    pub splice_relined : AreRelined packets splice
    splice_relined = record {
      rows = other_is.rows ∙ sym (spliced_unlined m one.rows other.rows both);
      aims = other_is.aims;
    }

    pub splice_low : SameRows one splice 0 m
    splice_low row low high = spliced_low m one.rows other.rows both row high

    pub splice_high : (row : ℕ) → m ≤ row → row_of other row ≡ row_of splice row
    splice_high row low = spliced_high m one.rows other.rows both row low

-- as many rows, and the same labels
pub as_long : (packets one : Text) → AreRelined packets one → length one.rows ≡ length packets.rows
as_long packets one relined = sym (length-map one.rows row_unlined)
    ∙ (ap (λ (rs : List Row). length rs) (sym relined.rows) ∙ length-map packets.rows row_unlined)
