-- Rows that the units can issue, one by one.
use Rattle.std.proofs.Common.{◌≡◌, ℕ, zero, suc, ◌<◌, ◌≤◌, ◌^◌, List, [], ◌∷◌, length, map, get_or, ap, subst, sym, ◌∙◌}
use Rattle.std.proofs.Common.{arith}
use Rattle.std.specs.Prelude.{All}
use Rattle.std.specs.List.Sorted.{IsStrictlyIncreasing}
use Rattle.c62_op.specs.Units.{index_of as unit_index}
use Rattle.c62_packet.specs.declared.placed.Placed.{Placed}
use Rattle.c62_flight.specs.Text.{Row, IsIssuable}
use Rattle.c62_rows.specs.declared.rows.Row.{Row as RowRead}
use Rattle.c62_rows.specs.declared.rows.Rows.{Rows as RowsRead}
use Rattle.c62_rows.specs.Rows.{row_read, text_of}
use Rattle.c62_exec.specs.Ground.{IsFine}
use Rattle.c62_exec.proofs.Loop.{text_size}

all_read : (P : Row → Type 0) (items : List RowRead)
    → ((k : ℕ) (d : RowRead) → k < length items → P (row_read (get_or items k d))) → All P (map row_read items)
all_read P [] h k d l = absurd (omega arith)
all_read P (item ∷ items) h zero d l = h 0 item (omega arith)
all_read P (item ∷ items) h (suc k) d l = all_read P items (λ j e m. h (suc j) e (omega arith)) k d (omega arith)

pub issuable : (rows : RowsRead) → length rows.rows.items < 2 ^ 32
    → ((k : ℕ) (d : RowRead) → k < length rows.rows.items → IsFine (get_or rows.rows.items k d))
    → IsIssuable (text_of rows)
issuable rows small each = record {
  in_order = all_read (λ (row : Row). IsStrictlyIncreasing (map (λ (p : Placed). unit_index p.unit) row.insns))
      rows.rows.items (λ k d l. (each k d l).in_order);
  few_insns = all_read (λ (row : Row). length row.insns ≤ 8) rows.rows.items (λ k d l. (each k d l).few);
  few_rows = let e : length (text_of rows).rows ≡ length rows.rows.items = text_size rows in omega arith;
}
