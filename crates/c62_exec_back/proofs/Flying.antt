-- What is adopted as it stands is read in flight, and flies as its packets run.
use Rattle.std.proofs.Common.{◌≡◌, ℕ, suc, ◌<◌, ◌≤◌, true, false, cond, ltb, List, [], ◌∷◌, ◌++◌, length, Option, Some}
use Rattle.std.proofs.Common.{None, refl, sym, ◌∙◌, ap, subst, inl, inr, arith}
use Rattle.std.specs.Prelude.{is_none, is_some}
use Rattle.std.specs.List.{AllByRecursion, list_any}
use Rattle.std.specs.Map.{keys_of}
use Rattle.std.proofs.lemmas.Map.Made.{is_some-lookup}
use Rattle.std.proofs.lemmas.Bool.Decides.{nat_tests}
use Rattle.std.specs.Option.{option_to_list}
use Rattle.std.specs.Str.{bytes_eq}
use Rattle.std.proofs.lemmas.Bool.{cases_Bool}
use Rattle.c62_insn.specs.declared.insn.Insn.{Insn}
use Rattle.c62_insn.proofs.SameLemmas.{same_parts}
use Rattle.c62_line.specs.Line.{parts_of}
use Rattle.c62_read.specs.Program.{Name}
use Rattle.c62_read.specs.Text.{lines_of}
use Rattle.c62_packet.specs.declared.placed.Placed.{Placed}
use Rattle.c62_packet.specs.Packed.{Packed}
use Rattle.c62_adopt_cut.specs.Blocks.{Draft, all_drafts, no_drafts}
use Rattle.c62_adopt_cut.specs.Laws.{labels_given}
use Rattle.c62_adopt_cut.proofs.FineLemmas.{blocks_are_fine}
use Rattle.c62_adopt_cut.proofs.HomeLemmas.{none_home}
use Rattle.c62_adopt_cut.specs.Home.{starts_of}
use Rattle.c62_adopt_cut.specs.Text.{Cut, read_below, text_cut}
use Rattle.c62_adopt_cut.proofs.OverLemmas.{blocks_are_over}
use Rattle.c62_adopt.specs.Answer.{IsAdopted, code_in, code_read, code_cut}
use Rattle.c62_adopt.proofs.AimLemmas.{blocks_are_aimed}
use Rattle.c62_adopt_back.proofs.Listed.{listings_stay}
use Rattle.c62_listing.specs.Listing.{listing}
use Rattle.c62_meaning.proofs.Lookup.{In}
use Rattle.c62_flight.specs.Text.{Row, Text}
use Rattle.c62_rows.specs.Reading.{Reading, all_rows, no_reading}
use Rattle.c62_rows.specs.Text.{FliesOf, IsReading, IsText, aims_among, lost_among}
use Rattle.c62_rows.specs.Word.{row_named}
use Rattle.c62_rows.specs.Worded.{AreInsnsWorded, AreWorded, IsWorded}
use Rattle.c62_rows.proofs.SoundLemmas.{none_sound}
use Rattle.c62_exec_back.specs.Laws.{AdoptedFlies, FliesAsRun, ListingsFly, ReadsInFlight}
use Rattle.c62_exec_back.proofs.LineLabels.{AreTheirs, all_lines, in_named, read_theirs, same_names}
use Rattle.c62_exec_back.proofs.NamedTargets.{IsFine}
use Rattle.c62_exec_back.proofs.LinesRead.{IsRead, lines_read}
use Rattle.c62_exec_back.proofs.Pairs.{AreAdopted}
use Rattle.c62_exec_back.proofs.BlockStarts.{are_rising}
use Rattle.c62_exec_back.proofs.RowLines.{none_read}
use Rattle.c62_exec_back.proofs.Together.{AreBoth, text_both}
use Rattle.c62_exec_back.proofs.ReadTexts.{flies_as_run, no_words}
use Rattle.c62_adopt_cut.specs.declared.text.TheConstants.{MOST_BYTES}
use Rattle.c62_rows.specs.declared.reader.TheConstants.{MOST_TARGETS}
use Rattle.c62_op.specs.declared.set.InstructionSet.{InstructionSet}

-- ---- rows in which no label stands for a word are as they are read

same_insn : (a b : Insn) → parts_of a ≡ parts_of b → a ≡ b
same_insn a b e = grind (arith, same_parts a b)

same_placed : (labels : List (Name × ℕ)) (p other : Placed) → IsWorded [] labels p other → other ≡ p
same_placed labels p other is =
    let insn : other.insn ≡ p.insn = same_insn other.insn p.insn is.parts in
    grind (arith, insn, is.line, is.cycle, is.unit)

same_insns : (labels : List (Name × ℕ)) (placed others : List Placed) → AreInsnsWorded [] labels placed others
    → others ≡ placed
same_insns labels [] [] are = refl
same_insns labels [] (other ∷ others) are = absurd are
same_insns labels (p ∷ placed) [] are = absurd are
same_insns labels (p ∷ placed) (other ∷ others) are =
    let one : other ≡ p = same_placed labels p other are.0 in
    let rest : others ≡ placed = same_insns labels placed others are.1 in cc

same_rows : (labels : List (Name × ℕ)) (rows others : List Row) → AreWorded [] labels rows others → others ≡ rows
same_rows labels [] [] are = refl
same_rows labels [] (other ∷ others) are = absurd are
same_rows labels (row ∷ rows) [] are = absurd are
same_rows labels (row ∷ rows) (other ∷ others) are =
    let insns : other.insns ≡ row.insns = same_insns labels row.insns other.insns are.0.insns in
    let idle : other.idle ≡ row.idle = are.0.idle in
    let one : other ≡ row = grind (arith, insns, idle) in
    let rest : others ≡ rows = same_rows labels rows others are.1 in cc

same_flying : (reading : Reading) (flying : Text) → reading.words ≡ [] → FliesOf reading flying
    → record { rows = all_rows reading; aims = aims_among reading.targets reading.labels } ≡ flying
same_flying reading flying none flies =
    let rows : flying.rows ≡ all_rows reading
    = same_rows reading.labels (all_rows reading) flying.rows
    (subst (λ (words : List (ℕ × Name)). AreWorded words reading.labels (all_rows reading) flying.rows) none
    flies.rows) in
    let aims : flying.aims ≡ aims_among reading.targets reading.labels = flies.aims in
    grind (arith, rows, aims)

-- ---- it is read

worded_insns : (labels : List (Name × ℕ)) (placed : List Placed) → AreInsnsWorded [] labels placed placed
worded_insns labels [] = tt
worded_insns labels (p ∷ placed) =
    (record { parts = refl; line = refl; cycle = refl; unit = refl }, worded_insns labels placed)

worded_rows : (labels : List (Name × ℕ)) (rows : List Row) → AreWorded [] labels rows rows
worded_rows labels [] = tt
worded_rows labels (row ∷ rows) =
    (record { insns = worded_insns labels row.insns; idle = refl }, worded_rows labels rows)

few_labels : (drafts : List Draft) → length (labels_given drafts) ≤ length drafts
few_labels [] = omega arith
few_labels (draft ∷ drafts) = by draft.label (few_labels drafts)
  where
    by : (label : Option Name) → length (labels_given drafts) ≤ length drafts
        → length (option_to_list label ++ labels_given drafts) ≤ suc (length drafts)
    by None rest = omega (arith, rest)
    by (Some name) rest = omega (arith, rest)

none_lost : (targets labels : List (Name × ℕ)) → ((name : Name) → In name (keys_of targets) → In name (keys_of labels))
    → lost_among targets labels ≡ None
none_lost [] labels known = refl
none_lost (target ∷ targets) labels known =
    let there : list_any (bytes_eq target.0) (keys_of labels) ≡ true = in_named target.0 (keys_of labels)
    (known target.0 (inl refl)) in
    let some : is_some (row_named target.0 labels) ≡ true = is_some-lookup (bytes_eq target.0) labels ∙ there in
    let rest = none_lost targets labels (λ name h. known name (inr h)) in
    by (row_named target.0 labels) some rest
  where
    by : (o : Option ℕ) → is_some o ≡ true → lost_among targets labels ≡ None
        → cond (is_none o) (Some target) (lost_among targets labels) ≡ None
    by None e rest = absurd cc
    by (Some row) e rest = rest

short_text : (isa : InstructionSet) (text : List ℕ) → (text_cut isa text).fault ≡ None → length text ≤ MOST_BYTES
unfolding text_cut
short_text isa text none = elim (cases_Bool (ltb MOST_BYTES (length text))) [
  | inl long ↦ absurd (let no = rw long at none in cc)
  | inr short ↦ grind (arith, nat_tests, short)
]

read_whole : (isa : InstructionSet) (text : List ℕ) → length text ≤ MOST_BYTES
    → text_cut isa text ≡ read_below isa [] no_drafts 1 (lines_of text)
unfolding text_cut
read_whole isa text short = let few : ltb MOST_BYTES (length text) ≡ false =
    grind (arith, nat_tests, short) in rw few refl

none_fine : (given : List Name) → IsFine given [] no_drafts no_reading
none_fine given = record { rows = none_read; sound = none_sound; apart = tt; known = λ name h. absurd h }

module _ (isa : InstructionSet) (text : List ℕ) (packets : List Packed)
    (adopted : IsAdopted isa false text packets 0) where
  abbrev code : List ℕ
  code = code_in (code_read isa text)

  abbrev found : Cut
  found = code_cut isa text

  is_short : length code ≤ MOST_BYTES
  is_short = short_text isa code adopted.read.cut.whole

  none_faulty : (read_below isa [] no_drafts 1 (lines_of code)).fault ≡ None
  none_faulty = ap (λ (cut : Cut). cut.fault) (sym (read_whole isa code is_short)) ∙ adopted.read.cut.whole

  theirs : AreTheirs (all_lines isa [] (lines_of code)) found
  theirs = subst (AreTheirs (all_lines isa [] (lines_of code))) (sym (read_whole isa code is_short))
      (read_theirs isa [] 1 no_drafts (lines_of code) none_home none_faulty)

  are_adopted : AreAdopted (all_lines isa [] (lines_of code)) found.cycles found.drafts packets
  are_adopted = record {
    over = blocks_are_over false found adopted.read.cut.over;
    blocks = adopted.read.cut.blocks;
    aimed = blocks_are_aimed isa code;
    of_lines = theirs.blocks;
    rising = are_rising found.cycles found.drafts theirs.blocks.rising
        (subst (λ n. AllByRecursion (λ start. start ≤ n) (starts_of found.drafts)) (sym theirs.cycles)
        theirs.blocks.early);
  }

  few_given : length (labels_given found.drafts) < MOST_TARGETS
  few_given = let l = few_labels found.drafts in let few = (blocks_are_fine isa code).few in omega (arith, l, few)

  is_read : IsRead isa (all_lines isa [] (lines_of code)) found.cycles found.drafts packets are_adopted few_given 1
      no_reading
      (lines_of code)
  is_read = lines_read isa (all_lines isa [] (lines_of code)) found.cycles found.drafts packets are_adopted few_given
      [] 1
      no_drafts (lines_of code) no_reading none_home
      (none_fine (labels_given found.drafts)) (λ h there. there) none_faulty

  is_reading : IsReading isa code is_read.reading
  is_reading = record { short = is_short; leads = is_read.leads }

  read_so : AreBoth found is_read.reading
  read_so = text_both isa code is_read.reading is_reading adopted.read.cut.whole

  all_found : lost_among is_read.reading.targets is_read.reading.labels ≡ None
  all_found = none_lost is_read.reading.targets is_read.reading.labels
      (λ name h. subst (λ (names : List Name). In name names) (sym same) (is_read.fine.known name h))
    where
      same : keys_of is_read.reading.labels ≡ labels_given found.drafts
      same = same_names (all_drafts read_so.drafts) is_read.reading.done is_read.reading.labels read_so.rows.labels
          ∙ ap labels_given (sym read_so.all)

  pub is_taken : ReadsInFlight isa text
  is_taken = record {
    flying = record {
      rows = all_rows is_read.reading;
      aims = aims_among is_read.reading.targets is_read.reading.labels;
    };
    labels = is_read.reading.labels;
    is_text = record {
      reading = is_read.reading;
      reads = is_reading;
      found = all_found;
      flies = record {
        rows = subst (λ (words : List (ℕ × Name)). AreWorded words is_read.reading.labels (all_rows is_read.reading)
            (all_rows is_read.reading)) (sym read_so.rows.words)
            (worded_rows is_read.reading.labels (all_rows is_read.reading));
        aims = refl;
      };
      named = refl;
    };
  }

each_flies : (isa : InstructionSet) (text : List ℕ) (packets : List Packed) → IsAdopted isa false text packets 0
    → (flying : Text) (labels : List (Name × ℕ)) → IsText isa (code_in (code_read isa text)) flying labels
    → FliesAsRun flying packets
each_flies isa text packets adopted flying labels is =
    let f : FliesAsRun (record { rows = all_rows is.reading; aims = aims_among is.reading.targets is.reading.labels })
    packets
    = flies_as_run isa text packets adopted is.reading is.reads is.found in
    subst (λ (t : Text). FliesAsRun t packets)
    (same_flying is.reading flying (no_words isa text packets adopted is.reading is.reads is.found) is.flies) f

pub adopted_flies : (isa : InstructionSet) (text : List ℕ) → AdoptedFlies isa text
adopted_flies isa text packets adopted = record
    { reads = is_taken isa text packets adopted; flies = each_flies isa text packets adopted }

pub listings_fly : (isa : InstructionSet) (packets : List Packed) → ListingsFly isa packets
listings_fly isa packets shown parted =
    let stays = listings_stay isa false packets shown parted in
    record {
      others = stays.others;
      alike = stays.alike;
      flies = adopted_flies isa (listing packets) stays.others
          stays.adopted;
    }
