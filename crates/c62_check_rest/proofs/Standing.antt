-- Texts that are one but for their lines have rows in the same cycles.
use Rattle.std.proofs.Common.{◌≡◌, ℕ, zero, suc, ◌+◌, ◌≤◌, List, [], ◌∷◌, length, map, refl, sym, ap, ◌∙◌, arith}
use Rattle.std.proofs.Common.{inl, inr, subst}
use Rattle.std.specs.Prelude.{slice_index_or}
use Rattle.std.proofs.lemmas.List.{length-map}
use Rattle.c62_flight.specs.Text.{Row, Text, no_row, row_of}
use Rattle.c62_flight.specs.Issued.{Visit}
use Rattle.c62_flight.specs.Laid.{straight, straight_end}
use Rattle.c62_meaning.proofs.Lookup.{In}
use Rattle.c62_check_loop.specs.Relined.{row_unlined, AreRelined}

idle_at : (rows others : List Row) → map row_unlined rows ≡ map row_unlined others → (k : ℕ)
    → (slice_index_or others k no_row).idle ≡ (slice_index_or rows k no_row).idle
idle_at [] [] same k = refl
idle_at [] (other ∷ others) same k = absurd cc
idle_at (row ∷ rows) [] same k = absurd cc
idle_at (row ∷ rows) (other ∷ others) same zero =
    let first : row_unlined row ≡ row_unlined other = cc in sym (ap (λ (r : Row). r.idle) first)
idle_at (row ∷ rows) (other ∷ others) same (suc k) =
    let rest : map row_unlined rows ≡ map row_unlined others = cc in idle_at rows others rest k

module _ (text other : Text) (relined : AreRelined text other) where
  pub as_many : length other.rows ≡ length text.rows
  as_many = sym (length-map other.rows row_unlined)
      ∙ (ap (λ xs. length xs) (sym relined.rows) ∙ length-map text.rows row_unlined)

  idles : (k : ℕ) → (row_of other k).idle ≡ (row_of text k).idle
  idles k = idle_at text.rows other.rows relined.rows k

  pub same_path : (row start count : ℕ) → straight other row start count ≡ straight text row start count
  same_path row start zero = refl
  same_path row start (suc count) =
      ap (λ idle. visit row start ∷ straight other (row + 1) (start + idle + 1) count) (idles row)
      ∙ ap (λ path. visit row start ∷ path) (same_path (row + 1) (start + (row_of text row).idle + 1) count)
    where
      visit : ℕ → ℕ → Visit
      visit row start = record { row = row; start = start }

  pub same_end : (row start count : ℕ) → straight_end other row start count ≡ straight_end text row start count
  same_end row start zero = refl
  same_end row start (suc count) =
      ap (λ idle. straight_end other (row + 1) (start + idle + 1) count) (idles row)
      ∙ same_end (row + 1) (start + (row_of text row).idle + 1) count

-- no row begins later than the last
pub begins_before : (text : Text) (row start count : ℕ) (visit : Visit) → In visit (straight text row start (suc count))
    → visit.start + (row_of text (row + count)).idle + 1 ≤ straight_end text row start (suc count)
begins_before text row start zero visit (inl e) =
    let at : start ≡ visit.start = ap (λ (v : Visit). v.start) e in
    let same : row + 0 ≡ row = omega arith in
    subst (λ n. visit.start + (row_of text n).idle + 1 ≤ start + (row_of text row).idle + 1) (sym same)
    (omega (arith, at))
begins_before text row start zero visit (inr h) = absurd h
begins_before text row start (suc count) visit (inl e) =
    let at : start ≡ visit.start = ap (λ (v : Visit). v.start) e in
    let next : Visit = record { row = row + 1; start = start + (row_of text row).idle + 1 } in
    let later = begins_before text (row + 1) (start + (row_of text row).idle + 1) count next (inl refl) in
    let same : row + 1 + count ≡ row + suc count = omega arith in
    subst (λ n. visit.start + (row_of text n).idle + 1 ≤ straight_end text (row + 1)
    (start + (row_of text row).idle + 1) (suc count)) same
    (omega (arith, at, later))
begins_before text row start (suc count) visit (inr h) =
    let later = begins_before text (row + 1) (start + (row_of text row).idle + 1) count visit h in
    let same : row + 1 + count ≡ row + suc count = omega arith in
    subst (λ n. visit.start + (row_of text n).idle + 1 ≤ straight_end text (row + 1)
    (start + (row_of text row).idle + 1) (suc count)) same later
