-- What is read is sound.
use Rattle.std.proofs.Common.{arith, ◌≡◌, ℕ, ◌-◌, ◌<◌, List, [], ◌∷◌, ◌++◌, length, Option, Some, None, Bool, true}
use Rattle.std.proofs.Common.{false, refl, sym, ap, ◌∙◌, subst}
use Rattle.std.proofs.lemmas.Bool.Decides.{nat_tests}
use Rattle.std.specs.Prelude.{IsPermutation, All, IfSome, sum_by}
use Rattle.std.specs.List.{insert, position_or_len}
use Rattle.std.specs.Option.{option_to_list, option_map_or}
use Rattle.std.proofs.lemmas.List.{append-nil, length-append}
use Rattle.std.proofs.lemmas.List.Elements.{All-append, All-cons, All-nil}
use Rattle.std.proofs.lemmas.List.Sorted.{All-permutation, IsPermutation-insert}
use Rattle.std.proofs.lemmas.List.Sums.{sum_by-cons, sum_by-insert}
use Rattle.indexmap.proofs.SetLemmas.{map-insert}
use Rattle.c62_insn.specs.Insn.{unit_of}
use Rattle.c62_rules.specs.Capacity.{AreEnough, uses_in}
use Rattle.c62_read.specs.Program.{Name, Numbered}
use Rattle.c62_line.specs.Line.{Says, Nothing, Pause, Does, Jumps}
use Rattle.c62_packet.specs.declared.placed.Placed.{Placed}
use Rattle.c62_packet.specs.Packed.{issue_of, issued}
use Rattle.c62_adopt_line.specs.Line.{Line}
use Rattle.c62_adopt_cut.specs.Cut.{begins_packet}
use Rattle.c62_flight.specs.Text.{Row, no_row}
use Rattle.c62_rows.specs.Word.{Said}
use Rattle.c62_rows.specs.Rows.{IsRow, stands_behind, with_insn, with_idle}
use Rattle.c62_rows.specs.Reading.{Reading, no_reading, all_rows, with_label, begun, on_current, is_target, with_target}
use Rattle.c62_rows.specs.Reading.{with_named, insns_above, at_line, hindrance, AddsInsn, AddsSays, AddsLine, is_beyond}
use Rattle.c62_rows.specs.Reading.{is_word_more, is_one_more}
use Rattle.c62_rows.specs.Sound.{IsSound}
use Rattle.c62_rows.proofs.Packets.{eight_at_most, none_on_unit, rises_strictly, rises_with, strictly_rises}
use Rattle.c62_rows.specs.declared.reader.TheConstants.{MOST_TARGETS}
use Rattle.c62_op.specs.declared.set.InstructionSet.{InstructionSet}

-- ---- rows

pub no_row-is : IsRow no_row
no_row-is = record {
  units = All-nil _;
  cycles = All-nil _;
  enough = λ r. omega arith;
  in_order = rises_strictly [] tt;
  few = omega arith;
}

in-order : (insns : List Placed) (k : ℕ) (p : Placed) → AreEnough 0 (issued (p ∷ insns))
    → AreEnough 0 (issued (insert insns k p))
in-order insns k p enough r =
    omega (
      arith,
      enough r,
      ap (sum_by (uses_in 0 r)) (map-insert (λ (q : Placed). Some (issue_of q)) insns k p),
      sum_by-insert (uses_in 0 r) (issued insns) k (Some (issue_of p)),
      sum_by-cons (uses_in 0 r) (Some (issue_of p)) (issued insns),
    )

pub with_insn-is : (p : Placed) (row : Row) → IsRow row → unit_of p.insn ≡ Some p.unit → p.cycle ≡ 0
    → AreEnough 0 (issued (p ∷ row.insns)) → IsRow (with_insn p row)
with_insn-is p row is unit cycle enough =
    record {
      units = All-permutation (λ (q : Placed). unit_of q.insn ≡ Some q.unit) (p ∷ row.insns) list put
          (All-cons (λ (q : Placed). unit_of q.insn ≡ Some q.unit) p row.insns unit is.units);
      cycles = cycles;
      enough = more;
      in_order = rises_strictly list
          (rises_with p row.insns (strictly_rises row.insns is.in_order)
          (none_on_unit p row.insns cycle is.cycles enough));
      few = eight_at_most list cycles more;
    }
  where
    k : ℕ
    k = position_or_len (stands_behind p) row.insns

    list : List Placed
    list = insert row.insns k p

    put : IsPermutation (p ∷ row.insns) list
    put = IsPermutation-insert row.insns k p

    cycles : All (λ (q : Placed). q.cycle ≡ 0) list
    cycles = All-permutation (λ (q : Placed). q.cycle ≡ 0) (p ∷ row.insns) list put
        (All-cons (λ (q : Placed). q.cycle ≡ 0) p row.insns cycle is.cycles)

    more : AreEnough 0 (issued list)
    more = in-order row.insns k p enough

pub with_idle-is : (more : ℕ) (row : Row) → IsRow row → IsRow (with_idle more row)
with_idle-is more row is = record
    { units = is.units; cycles = is.cycles; enough = is.enough; in_order = is.in_order; few = is.few }

-- ---- all that is read

pub rows_are : (reading : Reading) → IsSound reading → All IsRow (all_rows reading)
rows_are reading is = by reading.current is.current
  where
    by : (current : Option Row) → IfSome current IsRow → All IsRow (reading.done ++ option_to_list current)
    by None none = subst (All IsRow) (sym (append-nil reading.done)) is.done
    by (Some row) one = All-append IsRow reading.done (row ∷ []) is.done (All-cons IsRow row [] one (All-nil IsRow))

pub none_sound : IsSound no_reading
none_sound = record { done = All-nil IsRow; current = tt; targets = omega arith }

label_sound : (label : Option Name) (reading : Reading) → IsSound reading → IsSound (with_label label reading)
label_sound None reading is = is
label_sound (Some label) reading is = record { done = rows_are reading is; current = tt; targets = is.targets }

begun_sound : (line : Line) (reading : Reading) → IsSound reading → IsSound (begun line reading)
begun_sound line reading is = by (begins_packet line) refl
  where
    by : (b : Bool) → begins_packet line ≡ b → IsSound (begun line reading)
    by true e = rw e (record { done = rows_are reading is; current = no_row-is; targets = is.targets })
    by false e = rw e is

pub at_line_sound : (line : Line) (reading : Reading) → IsSound reading → IsSound (at_line line reading)
at_line_sound line reading is = begun_sound line (with_label line.label reading) (label_sound line.label reading is)

change_sound : (change : Row
    → Row) (done : List Row) (current : Option Row) (labels targets : List (Name × ℕ)) (words : List (ℕ × Name))
    → IsSound (record { done = done; current = current; labels = labels; targets = targets; words = words })
    → ((row : Row) → current ≡ Some row → IsRow row → IsRow (change row))
    → IsSound (on_current change
    (record { done = done; current = current; labels = labels; targets = targets; words = words }))
change_sound change done None labels targets words is kept = record
    { done = is.done; current = tt; targets = is.targets }
change_sound change done (Some row) labels targets words is kept = record
    { done = is.done; current = kept row refl is.current; targets = is.targets }

insn_sound : (entry : Numbered) (old new : Reading) → IsSound old → AddsInsn entry old new → IsSound new
insn_sound entry old new is adds = subst IsSound (sym adds.adds)
    (change_sound (with_insn adds.placed) old.done old.current old.labels old.targets old.words is joins)
  where
    joins : (row : Row) → old.current ≡ Some row → IsRow row → IsRow (with_insn adds.placed row)
    joins row e one =
        let same : insns_above old ≡ row.insns = ap (λ (o : Option Row). option_map_or (λ (r : Row). r.insns) o []) e in
        with_insn-is adds.placed row one adds.is.unit adds.is.cycle
        (subst (λ (above : List Placed). AreEnough 0 (issued (adds.placed ∷ above))) same adds.joins.enough)

target_sound : (target : Name) (number : ℕ) (reading : Reading) → IsSound reading
    → (is_target target reading ≡ false → length reading.targets < MOST_TARGETS)
    → IsSound (with_target target number reading)
target_sound target number reading is room = by (is_target target reading) refl
  where
    by : (b : Bool) → is_target target reading ≡ b → IsSound (with_target target number reading)
    by true e = rw e is
    by false e = rw e (record {
      done = is.done;
      current = is.current;
      targets = omega (arith, room e, length-append reading.targets ((target, number) ∷ []));
    })

named_sound : (word : Option Name) (number : ℕ) (reading : Reading) → IsSound reading
    → is_word_more word reading ≡ false
    → IsSound (with_named word number reading)
named_sound None number reading is room = is
named_sound (Some name) number reading is room =
    let with = target_sound name number reading is (λ none. grind (arith, nat_tests, none, room)) in
    record { done = with.done; current = with.current; targets = with.targets }

pub says_sound : (number : ℕ) (word : Option Name) (says : Says) (old new : Reading) → IsSound old
    → is_one_more word says old ≡ false
    → AddsSays number word says old new → IsSound new
says_sound number word Nothing old new is room same = subst IsSound (sym same) is
says_sound number word (Pause n) old new is room same =
    subst IsSound (sym same)
    (change_sound (with_idle (n - 1)) old.done old.current old.labels old.targets old.words is
    (λ row e one. with_idle-is (n - 1) row one))
says_sound number word (Does parts) old new is room adds = insn_sound _ (with_named word number old) new
    (named_sound word number old is room) adds
says_sound number word (Jumps parts target) old new is room adds =
    insn_sound _ (with_target target number old) new
    (target_sound target number old is (λ none. grind (arith, nat_tests, none, room))) adds

-- ---- lines

targets_at : (line : Line) (reading : Reading) → (at_line line reading).targets ≡ reading.targets
targets_at line reading = by_row (begins_packet line) refl ∙ by_label line.label
  where
    by_label : (label : Option Name) → (with_label label reading).targets ≡ reading.targets
    by_label None = refl
    by_label (Some label) = refl

    by_row : (b : Bool) → begins_packet line ≡ b
        → (at_line line reading).targets ≡ (with_label line.label reading).targets
    by_row true e = rw e refl
    by_row false e = rw e refl

beyond-same : (name : Name) (one other : Reading) → one.targets ≡ other.targets
    → is_beyond name one ≡ is_beyond name other
beyond-same name one other same = rw same refl

word_more-same : (word : Option Name) (one other : Reading) → one.targets ≡ other.targets
    → is_word_more word one ≡ is_word_more word other
word_more-same None one other same = refl
word_more-same (Some name) one other same = beyond-same name one other same

one_more-same : (word : Option Name) (says : Says) (one other : Reading) → one.targets ≡ other.targets
    → is_one_more word says one ≡ is_one_more word says other
one_more-same word Nothing one other same = refl
one_more-same word (Pause n) one other same = refl
one_more-same word (Does parts) one other same = word_more-same word one other same
one_more-same word (Jumps parts target) one other same = beyond-same target one other same

pub free_room : (said : Said) (reading : Reading) → hindrance said reading ≡ None
    → is_one_more said.word said.line.says reading ≡ false
unfolding hindrance
free_room said reading free = grind (arith, nat_tests, free)

pub room_at : (said : Said) (reading : Reading) → is_one_more said.word said.line.says reading ≡ false
    → is_one_more said.word said.line.says (at_line said.line reading) ≡ false
room_at said reading room = one_more-same said.word said.line.says (at_line said.line reading) reading
    (targets_at said.line reading) ∙ room

pub line_sound : (isa : InstructionSet) (number : ℕ) (bytes : List ℕ) (old new : Reading) → IsSound old
    → AddsLine isa number bytes old new
    → IsSound new
line_sound isa number bytes old new is adds =
    says_sound number adds.said.word adds.said.line.says (at_line adds.said.line old) new
    (at_line_sound adds.said.line old is)
    (room_at adds.said old (free_room adds.said old adds.free)) adds.adds
