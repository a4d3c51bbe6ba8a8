-- There is always room for a fault: the lines that fault are those of the text.
use Rattle.std.proofs.Common.{◌≡◌, ℕ, suc, ◌+◌, ◌*◌, ◌<◌, ◌≤◌, zero, List, [], ◌∷◌, ◌++◌, length, length-append, map}
use Rattle.std.proofs.Common.{get_or, Some, refl, sym, ◌∙◌, ap, subst, inl, inr, arith}
use Rattle.std.specs.Prelude.{Contains, sum_by}
use Rattle.std.specs.List.{flat_map}
use Rattle.std.specs.List.Sorted.{IsStrictlyIncreasing}
use Rattle.std.proofs.lemmas.Bool.Decides.{Decides-eqb}
use Rattle.std.proofs.lemmas.Cmp.{nat_eq_equiv}
use Rattle.std.proofs.lemmas.List.{length-map}
use Rattle.std.proofs.lemmas.List.Concat.{length-flat_map}
use Rattle.std.proofs.lemmas.List.Kept.{AllPairs-from_increasing}
use Rattle.std.proofs.lemmas.Map.Made.{IsDistinct-from_AllPairs, length-le_from_is_member, is_member-Decides}
use Rattle.c62_serial.specs.State.{Machine, Contents, IsSound, line_capacity}
use Rattle.c62_packet.specs.declared.placed.Placed.{Placed}
use Rattle.c62_meaning.specs.Meaning.{HasFaulted, LeavesState}
use Rattle.c62_meaning.proofs.Lookup.{In, In_from_Contains, Contains_from_In, In-append_left, In-append_right}
use Rattle.c62_meaning.proofs.Lookup.{In-flat_map, from_In-flat_map}
use Rattle.c62_meaning.proofs.CutWords.{from_map}
use Rattle.c62_meaning.proofs.Instances.{in_map}
use Rattle.c62_meaning.proofs.Runs.{the_run}
use Rattle.c62_flight.specs.Text.{Text, Row, Position, row_of, no_row, insns_in}
use Rattle.c62_flight.specs.Issued.{Visit, issue_in, issued_in, issued_on}
use Rattle.c62_exec.specs.Step.{Way}
use Rattle.c62_exec.proofs.Down.{leaves}
use Rattle.c62_exec.proofs.Paths.{IsAt}

-- as many rising numbers as stand among others
fewer : (xs ys : List ℕ) → IsStrictlyIncreasing xs → ((n : ℕ) → Contains xs n → In n ys) → length xs ≤ length ys
fewer xs ys rises h =
    length-le_from_is_member nat_eq_equiv xs ys
    (IsDistinct-from_AllPairs Decides-eqb xs
    (λ i j d l u e. let less : get_or xs i d < get_or xs j d = AllPairs-from_increasing xs rises i j d l u in
    omega arith))
    (λ q m. (is_member-Decides Decides-eqb ys q).1
    (Contains_from_In q ys (h q ((is_member-Decides Decides-eqb xs q).0 m))))

-- the lines of a text's instructions
abbrev lines_of : Text → List ℕ
lines_of text = map (λ (p : Placed). p.line) (flat_map (λ (row : Row). row.insns) text.rows)

row_inside : (rows : List Row) (number : ℕ) (p : Placed) → In p (get_or rows number no_row).insns
    → In (get_or rows number no_row) rows
row_inside [] number p h = absurd h
row_inside (row ∷ rows) zero p h = inl refl
row_inside (row ∷ rows) (suc number) p h = inr (row_inside rows number p h)

line_inside : (text : Text) (path : List Visit) (p : Placed) → In p (issued_on text path) → In p.line (lines_of text)
line_inside text path p h =
    let v = from_In-flat_map (issued_in text) p path h in
    let q = from_map (issue_in v.0.start) p (row_of text v.0.row).insns v.2 in
    subst (λ (r : Placed). In r.line (lines_of text)) q.2
    (in_map (λ (r : Placed). r.line) q.0 (flat_map (λ (row : Row). row.insns) text.rows)
    (In-flat_map (λ (row : Row). row.insns) q.0 (row_of text v.0.row) text.rows (row_inside text.rows v.0.row q.0 q.1)
    q.1))

-- the lines that faulted are at most those that had and those of the text
pub few_faults : (text : Text) (first limit : ℕ) (opening : Machine) (path : List Visit) (position : Position)
    (cycle : ℕ) (way : Way) → IsAt text first limit opening path position cycle way
    → length way.machine.faults ≤ length opening.faults + insns_in text
few_faults text first limit opening path position cycle way there =
    let left = leaves (issued_on text path) opening there.standing.ascends cycle (8 * cycle) way.flight way.machine
    there.standing.row.flying in
    let few : length way.machine.faults ≤ length (opening.faults ++ lines_of text) = fewer way.machine.faults
    (opening.faults ++ lines_of text) left.sound.rising (λ n c.
    elim ((left.faults n).0 c) [
      | inl k ↦ In-append_left n opening.faults (lines_of text) (In_from_Contains n opening.faults k)
      | inr f ↦ In-append_right n opening.faults (lines_of text)
          (subst (λ m. In m (lines_of text)) f.of_line
          (line_inside text path f.placed (In_from_Contains f.placed (issued_on text path) f.inside)))
    ]) in
    let all : length (opening.faults ++ lines_of text) ≡ length opening.faults + length (lines_of text) = length-append
    opening.faults (lines_of text) in
    let lines : length (lines_of text) ≡ length (flat_map (λ (row : Row). row.insns) text.rows) = length-map
    (flat_map (λ (row : Row). row.insns) text.rows) (λ (p : Placed). p.line) in
    let count : length (flat_map (λ (row : Row). row.insns) text.rows) ≡ sum_by (λ (row : Row). length row.insns)
    text.rows = length-flat_map (λ (row : Row). row.insns) text.rows in
    omega arith
