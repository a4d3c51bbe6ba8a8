-- Rows, laid out one after the other.
use Rattle.std.proofs.Common.{◌≡◌, ℕ, zero, suc, ◌+◌, ◌-◌, ◌<◌, ◌≤◌, List, [], ◌∷◌, ◌++◌, length, map, get_or, refl}
use Rattle.std.proofs.Common.{sym, ◌∙◌, ap, arith}
use Rattle.std.specs.Prelude.{All, slice_get, Some}
use Rattle.std.proofs.lemmas.Option.{slice_get_within, get_or_from_slice_get}
use Rattle.std.proofs.lemmas.List.{append_assoc, append-nil, length-map}
use Rattle.c62_packet.specs.declared.placed.Placed.{Placed}
use Rattle.c62_packet.specs.Packed.{HaveOneBranch}
use Rattle.c62_flight.specs.Text.{Text, Row, no_row, row_of}
use Rattle.c62_flight.specs.Issued.{issue_in, issued_on}
use Rattle.c62_flight.specs.Laid.{straight, straight_end}
use Rattle.c62_rows.specs.declared.rows.Row.{Row as RowRead}
use Rattle.c62_rows.specs.declared.rows.Rows.{Rows as RowsRead}
use Rattle.c62_rows.specs.Rows.{row_read, text_of}

row_at : (items : List RowRead) (k : ℕ) (d : RowRead) → k < length items
    → get_or (map row_read items) k no_row ≡ row_read (get_or items k d)
row_at [] k d l = absurd (omega arith)
row_at (x ∷ items) zero d l = refl
row_at (x ∷ items) (suc k) d l = row_at items k d (omega arith)

pub row_is : (rows : RowsRead) (k : ℕ) (d : RowRead) → k < length rows.rows.items
    → row_of (text_of rows) k ≡ row_read (get_or rows.rows.items k d)
row_is rows k d l = row_at rows.rows.items k d l

-- what is issued so far, and by the rows that are left, is what is issued on all of them
pub record OnWay (text : Text) (first count start number last end : ℕ) (issued : List Placed) : Type 0 where
  pub issued_all : issued ++ issued_on text (straight text number end (last - number)) ≡ issued_on text
      (straight text first start count)
  pub ends : straight_end text number end (last - number) ≡ straight_end text first start count

module _ (text : Text) (first count start : ℕ) where
  pub begun : (last : ℕ) → last ≡ first + count → OnWay text first count start first last start []
  begun last e =
      let left : last - first ≡ count = omega arith in
      record {
        issued_all = ap (λ n. issued_on text (straight text first start n)) left;
        ends = ap
            (λ n. straight_end text first start n) left;
      }

  pub on_way : (number last end next : ℕ) (row : Row) (issued of_row grown : List Placed) → number < last
      → row_of text number ≡ row → of_row ≡ map (issue_in end) row.insns
      → next ≡ end + row.idle + 1 → grown ≡ issued ++ of_row → OnWay text first count start number last end issued
      → OnWay text first count start (number + 1) last next grown
  on_way number last end next row issued of_row grown inside is issued_row over grows way =
      let left : last - number ≡ suc (last - (number + 1)) = omega arith in
      let idle : (row_of text number).idle ≡ row.idle = ap (λ r. r.idle) is in
      let after : next ≡ end + (row_of text number).idle + 1 = omega arith in
      let here : of_row ≡ map (issue_in end) (row_of text number).insns = issued_row
      ∙ ap (λ (r : Row). map (issue_in end) r.insns) (sym is) in
      record {
        issued_all =
            ap (λ xs. xs ++ issued_on text (straight text (number + 1) next (last - (number + 1)))) grows
            ∙ append_assoc issued of_row (issued_on text (straight text (number + 1) next (last - (number + 1))))
            ∙ ap (λ xs. issued ++ xs)
            (ap (λ xs. xs ++ issued_on text (straight text (number + 1) next (last - (number + 1)))) here
            ∙ ap (λ n. map (issue_in end) (row_of text number).insns ++ issued_on text
            (straight text (number + 1) n (last - (number + 1)))) after)
            ∙ ap (λ n. issued ++ issued_on text (straight text number end n)) (sym left) ∙ way.issued_all;
        ends = ap (λ n. straight_end text (number + 1) n (last - (number + 1))) after
            ∙ ap (λ n. straight_end text number end n) (sym left) ∙ way.ends;
      }

  pub over : (number last end : ℕ) (issued : List Placed) → last ≤ number
      → OnWay text first count start number last end issued
      → (issued ≡ issued_on text (straight text first start count)) × (end ≡ straight_end text first start count)
  over number last end issued past way =
      let left : last - number ≡ 0 = omega arith in (
        sym (append-nil issued) ∙ ap (λ n. issued ++ issued_on text (straight text number end n)) (sym left)
            ∙ way.issued_all,
        ap (λ n. straight_end text number end n) (sym left) ∙ way.ends,
      )

-- each row of the text that is asked has one branch
pub one_branch : (rows : RowsRead) → All (λ (row : RowRead). HaveOneBranch row.insns.items) rows.rows.items
    → (number : ℕ) → number < length rows.rows.items
    → HaveOneBranch (row_of (text_of rows) number).insns
one_branch rows all number l = each rows.rows.items all number l
  where
    each : (items : List RowRead) → All (λ (row : RowRead). HaveOneBranch row.insns.items) items → (k : ℕ)
        → k < length items → HaveOneBranch (get_or (map row_read items) k no_row).insns
    each [] all k l = absurd (omega arith)
    each (x ∷ items) all zero l = all 0 x l
    each (x ∷ items) all (suc k) l = each items (λ j d m. all (suc j) d (omega arith)) k (omega arith)

pub row_count : (rows : RowsRead) → length (text_of rows).rows ≡ length rows.rows.items
row_count rows = length-map rows.rows.items row_read

pub row_found : (rows : RowsRead) (k : ℕ) (row : RowRead) → slice_get rows.rows.items k ≡ Some row
    → row_of (text_of rows) k ≡ row_read row
row_found rows k row at = row_is rows k row (slice_get_within rows.rows.items k row at)
    ∙ ap row_read (get_or_from_slice_get rows.rows.items k row row at)
