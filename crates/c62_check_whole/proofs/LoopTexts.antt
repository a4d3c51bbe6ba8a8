-- A pipelined loop in a text that has the same rows.
use Rattle.std.proofs.Common.{◌≡◌, ℕ, zero, suc, ◌+◌, ◌≤◌, List, [], ◌∷◌, ◌++◌, length, map}
use Rattle.std.proofs.Common.{refl, sym, ◌∙◌, ap, subst, arith}
use Rattle.std.specs.Prelude.{All, Contains, slice_index_or}
use Rattle.std.specs.List.Sorted.{IsStrictlyIncreasing}
use Rattle.std.proofs.lemmas.Grind.{flat_map-append}
use Rattle.std.proofs.lemmas.List.{length-map}
use Rattle.std.proofs.lemmas.List.Elements.{All-cons, All-head, All-tail}
use Rattle.std.proofs.lemmas.Simd.{map-map}
use Rattle.c62_loop_match.specs.Reading.{unlined}
use Rattle.c62_op.specs.Units.{index_of}
use Rattle.c62_serial.specs.State.{Machine}
use Rattle.c62_packet.specs.declared.placed.Placed.{Placed}
use Rattle.c62_packet.specs.Packed.{AreDrained, HaveOneBranch}
use Rattle.c62_flight.specs.Text.{Row, Text}
use Rattle.c62_flight.specs.Issued.{Visit, issued_in, issued_on}
use Rattle.c62_flight.specs.Laid.{straight, straight_end}
use Rattle.c62_loop.specs.Loop.{Region, Pipelined, IsPipelined, IsMatch, EndsPass, kernel_row}
use Rattle.c62_loop.specs.Loop.{epilog_row, last_row, prolog_cycles, interval, pass_start, passes_from, visits_of, cycles_of}
use Rattle.c62_check_loop.specs.Relined.{row_unlined, AreRelined}
use Rattle.c62_check_whole.proofs.Texts.{SameRows, same_end, same_issued, as_long}

-- ---- rows that may be issued, whatever their lines

abbrev IsInOrder : Row → Type 0
IsInOrder row = IsStrictlyIncreasing (map (λ p. index_of p.unit) row.insns)

abbrev IsFew : Row → Type 0
IsFew row = length row.insns ≤ 8

-- ---- the loop

module _ (packets text : Text) (loop : Pipelined) (one_is : AreRelined packets loop.text)
    (is : AreRelined packets text) (same : SameRows loop.text text loop.first (last_row loop)) where
  -- the loop in the other text
  abbrev pub moved_loop : Pipelined
  moved_loop = record loop { text = text }

  prolog_same : prolog_cycles loop ≡ prolog_cycles moved_loop
  prolog_same = same_end loop.text text loop.first (last_row loop) same loop.first 0 loop.prolog (omega arith)
      (omega arith)

  interval_same : interval loop ≡ interval moved_loop
  interval_same = same_end loop.text text loop.first (last_row loop) same (kernel_row loop) 0 loop.kernel (omega arith)
      (omega arith)

  pub start_same : (pass : ℕ) → pass_start loop pass ≡ pass_start moved_loop pass
  start_same zero = prolog_same
  start_same (suc pass) = ap (λ n. n + interval loop) (start_same pass)
      ∙ ap (λ n. pass_start moved_loop pass + n) interval_same

  pub cycles_same : (passes : ℕ) → cycles_of loop passes ≡ cycles_of moved_loop passes
  cycles_same passes =
      same_end loop.text text loop.first (last_row loop) same (epilog_row loop) (pass_start loop passes) loop.epilog
      (omega arith) (omega arith)
      ∙ ap (λ n. straight_end text (epilog_row loop) n loop.epilog) (start_same passes)

  passes_same : (pass count : ℕ)
      → issued_on loop.text (passes_from loop pass count) ≡ issued_on text (passes_from moved_loop pass count)
  passes_same pass zero = refl
  passes_same pass (suc count) =
      flat_map-append (issued_in loop.text) (straight loop.text (kernel_row loop) (pass_start loop pass) loop.kernel)
      (passes_from loop (suc pass) count)
      ∙ (ap (λ (ps : List Placed). ps ++ issued_on loop.text (passes_from loop (suc pass) count))
      (same_issued loop.text text loop.first (last_row loop) same (kernel_row loop) (pass_start loop pass) loop.kernel
      (omega arith) (omega arith)
      ∙ ap (λ n. issued_on text (straight text (kernel_row loop) n loop.kernel)) (start_same pass))
      ∙ ap (λ (ps : List Placed). issued_on text (straight text (kernel_row loop) (pass_start moved_loop pass)
      loop.kernel) ++ ps) (passes_same (suc pass) count))
      ∙ sym (flat_map-append (issued_in text) (straight text (kernel_row loop) (pass_start moved_loop pass) loop.kernel)
      (passes_from moved_loop (suc pass) count))

  pub issued_same : (passes : ℕ)
      → issued_on loop.text (visits_of loop passes) ≡ issued_on text (visits_of moved_loop passes)
  issued_same passes =
      let before : List Visit = straight loop.text loop.first 0 loop.prolog in
      let other_before : List Visit = straight text loop.first 0 loop.prolog in
      let behind : List Visit = straight loop.text (epilog_row loop) (pass_start loop passes) loop.epilog in
      let other_behind : List Visit = straight text (epilog_row loop) (pass_start moved_loop passes) loop.epilog in
      let rest : issued_on loop.text (passes_from loop 0 passes ++ behind)
      ≡ issued_on text (passes_from moved_loop 0 passes ++ other_behind)
      = flat_map-append (issued_in loop.text) (passes_from loop 0 passes) behind
      ∙ (ap (λ (ps : List Placed). ps ++ issued_on loop.text behind) (passes_same 0 passes)
      ∙ ap (λ (ps : List Placed). issued_on text (passes_from moved_loop 0 passes) ++ ps)
      (same_issued loop.text text loop.first (last_row loop) same (epilog_row loop) (pass_start loop passes) loop.epilog
      (omega arith) (omega arith)
      ∙ ap (λ n. issued_on text (straight text (epilog_row loop) n loop.epilog)) (start_same passes)))
      ∙ sym (flat_map-append (issued_in text) (passes_from moved_loop 0 passes) other_behind) in
      flat_map-append (issued_in loop.text) before (passes_from loop 0 passes ++ behind)
      ∙ (ap (λ (ps : List Placed). ps ++ issued_on loop.text (passes_from loop 0 passes ++ behind))
      (same_issued loop.text text loop.first (last_row loop) same loop.first 0 loop.prolog (omega arith) (omega arith))
      ∙ ap (λ (ps : List Placed). issued_on text other_before ++ ps) rest)
      ∙ sym (flat_map-append (issued_in text) other_before (passes_from moved_loop 0 passes ++ other_behind))

  -- ---- it stands there

  long : length text.rows ≡ length loop.text.rows
  long = as_long packets text is ∙ sym (as_long packets loop.text one_is)

  all_unlined : (P : Row → Type 0) → ((row : Row) → P row → P (row_unlined row))
      → ((row : Row) → P (row_unlined row) → P row) → (xs ys : List Row) → map row_unlined xs ≡ map row_unlined ys
      → All P xs → All P ys
  all_unlined P down up [] [] same all = all
  all_unlined P down up [] (y ∷ ys) same all = absurd cc
  all_unlined P down up (x ∷ xs) [] same all = absurd cc
  all_unlined P down up (x ∷ xs) (y ∷ ys) same all =
      let front : row_unlined x ≡ row_unlined y = cc in
      let rest : map row_unlined xs ≡ map row_unlined ys = cc in
      All-cons P y ys (up y (subst P front (down x (All-head P x xs all))))
      (all_unlined P down up xs ys rest (All-tail P x xs all))

  both : map row_unlined loop.text.rows ≡ map row_unlined text.rows
  both = sym one_is.rows ∙ is.rows

  in_order_same : (row : Row) → map (λ p. index_of p.unit) row.insns
      ≡ map (λ p. index_of p.unit) (row_unlined row).insns
  in_order_same row = sym (map-map (λ (p : Placed). index_of p.unit) unlined row.insns)

  few_same : (row : Row) → length row.insns ≡ length (row_unlined row).insns
  few_same row = sym (length-map row.insns unlined)

  pub moved_stands : IsPipelined loop → IsPipelined moved_loop
  moved_stands stands = record {
    issuable = record {
      in_order = all_unlined IsInOrder (λ row o. subst IsStrictlyIncreasing (in_order_same row) o)
          (λ row o. subst IsStrictlyIncreasing (sym (in_order_same row)) o) loop.text.rows text.rows both
          stands.issuable.in_order;
      few_insns = all_unlined IsFew (λ row o. subst (λ n. n ≤ 8) (few_same row) o)
          (λ row o. subst (λ n. n ≤ 8) (sym (few_same row)) o) loop.text.rows text.rows both
          stands.issuable.few_insns;
      few_rows = (let few = stands.issuable.few_rows in let e = long in omega (arith, few, e));
    };
    one_branch = λ number low high.
        subst (λ (row : Row). HaveOneBranch row.insns) (same number low high) (stands.one_branch number low high);
    rows = (let within = stands.rows in let e = long in omega (arith, within, e));
    some = stands.some;
    labelled = ap (λ (aims : List ℕ). slice_index_or aims loop.label (length text.rows)) (sym is.aims ∙ one_is.aims)
        ∙ ap (λ n. slice_index_or loop.text.aims loop.label n) long ∙ stands.labelled;
  }

  -- ---- and holds the trips

  ends_same : (pass : ℕ) (p : Placed) → EndsPass loop pass p → EndsPass moved_loop pass p
  ends_same pass p e = e ∙ start_same (suc pass)

  pub moved_match : (region : Region) (trips passes : ℕ) (opening : Machine)
      → IsMatch region loop trips passes opening → IsMatch region moved_loop trips passes opening
  moved_match region trips passes opening m = record {
    some = m.some;
    control = m.control;
    touch = m.touch;
    counted = m.counted;
    instances = record {
      placed = m.instances.placed;
      placing = m.instances.placing;
      members = λ p. (
        (λ c. (m.instances.members p).0 (subst (λ (ps : List Placed). Contains ps p) (sym (issued_same passes)) c)),
        (λ c. subst (λ (ps : List Placed). Contains ps p) (issued_same passes) ((m.instances.members p).1 c)),
      );
    };
    drained = subst (λ (ps : List Placed). AreDrained (cycles_of moved_loop passes) ps) (issued_same passes)
        (subst (λ n. AreDrained n (issued_on loop.text (visits_of loop passes))) (cycles_same passes) m.drained);
    counts = m.counts;
    enough = m.enough;
    decides = λ i entry p at there tests.
        (let d = m.decides i entry p at there tests in (d.0, ends_same d.0 p d.1, d.2));
    decided = λ pass within.
        (let d = m.decided pass within in
        (d.0, d.1, d.2, d.3, d.4, d.5, ends_same pass d.2 d.6));
  }
