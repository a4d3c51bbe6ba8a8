-- Documents, from what each step gave.
use Rattle.std.proofs.Common.{None, ◌++◌}
use Rattle.std.proofs.Common.{◌≡◌, ℕ, Bool, true, false, List, Option, Ok, Err, Result, refl}
use Rattle.std.proofs.Common.{inr, sym, subst}
use Rattle.std.specs.Prelude.{codes}
use Rattle.clap.specs.Words.{Text as Name}
use Rattle.c62_op.specs.declared.register.Reg.{Reg}
use Rattle.c62_read.specs.Block.{Serial, labels_in}
use Rattle.c62_packet.specs.Packed.{Packed}
use Rattle.c62_packet.specs.Packets.{labels_of}
use Rattle.c62_reach.specs.Taken.{IsTaken}
use Rattle.c62_check.specs.Checked.{IsChecked}
use Rattle.c62_check.specs.Lines.{told_lines}
use Rattle.c62_json_check.specs.Checked.{IsCheckDocument}
use Rattle.c62_json_lines.specs.Lines.{lines_document}
use Rattle.c62_json_loops.specs.Judged.{DocumentsHaveLines, IsLoopsDocument}
use Rattle.c62_check_loops.specs.Granted.{first_loopless}
use Rattle.c62_check_loops.specs.Told.{AreLoopsTold}
use Rattle.c62_check_loops.specs.Lines.{lines_from as loop_lines_from, rows_line}
use Rattle.c62_check_loops.proofs.Done.{loops_do_the_same}
use Rattle.c62_rows.specs.declared.text.RowsText.{RowsText}
use Rattle.c62_rows.specs.Rows.{text_of}
use Rattle.c62_answer.specs.Parting.{IsParted}
use Rattle.c62_answer.specs.Texts.{SaysProgram}
use Rattle.c62_answer.specs.Run.{GivesRowsPart}
use Rattle.c62_command.specs.CommandLine.{Ask, Document, LoopListing, LoopPicture, LoopVerdicts, Reaching, rendered}
use Rattle.c62_command.specs.declared.command.Drawing.{Drawing}
use Rattle.c62_command.specs.declared.command.Packing.{Packing}
use Rattle.c62_command.specs.declared.command.Rendering.{Rendering}
use Rattle.c62_command.specs.declared.command.Rendering.TheVariants.{Text as InText, Json as InJson}
use Rattle.c62_answer.specs.declared.failure.Failure.{Failure}
use Rattle.c62_answer.specs.declared.failure.Failure.TheVariants as failures
use Rattle.c62_answer.specs.declared.outcome.Outcome.{Outcome}
use Rattle.c62_answer.specs.declared.outcome.Reply.{Reply}
use Rattle.c62_answer.specs.Run.{Documents, Gives, IsTextAnswer, TakesNothing, limit_of}
use Rattle.c62_answer.proofs.Reached.{not_reached}
use Rattle.c62_command.specs.CommandLine.{Adoption, Verdicts}
use Rattle.c62_command.specs.declared.command.Form.{Form}
use Rattle.c62_listing.specs.Listing.{listing}
use Rattle.c62_adopt.specs.Answer.{IsAdopted, code_cut}
use Rattle.c62_adopt.specs.Laws.{DrainsNothing}
use Rattle.c62_adopt_late.specs.declared.late.Late.{Late}
use Rattle.c62_adopt_late.specs.Late.{first_late}
use Rattle.c62_answer.specs.Check.{IsCheck}
use Rattle.c62_answer.specs.Run.{IsAnswer, added_of, drained_told, outcome_adopted, outcome_of}
use Rattle.c62_json.specs.Document.{document}
use Rattle.c62_json_adopt.specs.Adopted.{adopted_members}
use Rattle.c62_op.specs.declared.set.InstructionSet.{InstructionSet}

-- ---- what is told so

pub limit_told : (rendering : Rendering) (ask : Ask) → limit_of (rendered rendering ask) ≡ limit_of ask
limit_told InText ask = refl
limit_told InJson ask = refl

module _ (isa : InstructionSet) (ask : Ask) (text : List ℕ) where
  -- what a text is refused for, its document is refused for
  pub refused_too : (f : Failure) → Gives isa ask text (Err f) → Gives isa (Document ask) text (Err f)
  refused_too (failures.Unread fault) gives = gives
  refused_too (failures.Unlisted fault) gives = gives
  refused_too (failures.Unadopted fault) gives = gives
  refused_too (failures.Unflown fault) gives = gives
  refused_too (failures.TextPart fault) gives = gives
  refused_too (failures.ListingPart fault) gives = gives
  refused_too (failures.PacketsPart fault) gives = gives
  refused_too failures.NoListing gives = gives
  refused_too (failures.RowsPart fault) gives = gives
  refused_too (failures.NoLoop k) gives = gives
  refused_too (failures.Promise bad) gives = gives
  refused_too (failures.Excluded exclusion) gives = gives
  refused_too (failures.Words e) gives = gives
  refused_too (failures.Setting k) gives = gives
  refused_too failures.Memory gives = gives
  refused_too failures.Input gives = gives
  refused_too failures.Output gives = gives

-- ---- what is taken of a text

module _ (isa : InstructionSet) (ask : Ask) (name text : List ℕ) where
  pub not_reached_document : (f : Failure) → TakesNothing isa name text f
      → Gives isa (Document (Reaching name ask)) text (Err f)
  not_reached_document f none = refused_too isa (Reaching name ask) text f (not_reached isa ask name text f none)

  pub reached_document : (taken : List ℕ) (result : Result Reply Failure) → IsTaken isa name text taken
      → Gives isa (Document ask) taken result → Gives isa (Document (Reaching name ask)) text result
  reached_document taken (Ok reply) is (told, answer, document) = (told, (taken, is, answer), document)
  reached_document taken (Err (failures.Unread fault)) is gives = inr (taken, is, gives)
  reached_document taken (Err (failures.Unlisted fault)) is gives = inr (taken, is, gives)
  reached_document taken (Err (failures.Unadopted fault)) is gives = inr (taken, is, gives)
  reached_document taken (Err (failures.Unflown fault)) is gives = inr (taken, is, gives)
  reached_document taken (Err (failures.TextPart fault)) is gives = inr (taken, is, gives)
  reached_document taken (Err (failures.ListingPart fault)) is gives = inr (taken, is, gives)
  reached_document taken (Err (failures.PacketsPart fault)) is gives = inr (taken, is, gives)
  reached_document taken (Err (failures.RowsPart fault)) is gives = inr (taken, is, gives)
  reached_document taken (Err failures.NoListing) is gives = inr (taken, is, gives)
  reached_document taken (Err (failures.NoLoop k)) is gives = inr (taken, is, gives)
  reached_document taken (Err (failures.Promise bad)) is gives = absurd gives
  reached_document taken (Err (failures.Excluded exclusion)) is gives = absurd gives
  reached_document taken (Err (failures.Words e)) is gives = absurd gives
  reached_document taken (Err (failures.Setting k)) is gives = absurd gives
  reached_document taken (Err failures.Memory) is gives = tt
  reached_document taken (Err failures.Input) is gives = absurd gives
  reached_document taken (Err failures.Output) is gives = absurd gives

-- ---- lines

module _ (isa : InstructionSet) (trips : List (Name × ℕ)) (apart : List Reg) (text : List ℕ) (reply : Reply)
    (outcome : Outcome)
    (answer : List ℕ) (ends : outcome ≡ reply.outcome) where
  pub packed_lines : (verbose : Bool) (packing : Packing)
      → Gives isa (LoopListing verbose packing trips apart) text (Ok reply)
      → answer ≡ lines_document (codes "pack") reply.text.items
      → (told : List ℕ) × (is : IsTextAnswer isa (LoopListing verbose packing trips apart) outcome text told)
      × Documents isa (LoopListing verbose packing trips apart) outcome text told is answer
  packed_lines verbose packing gives is = (
    reply.text.items,
    subst (λ (o : Outcome). IsTextAnswer isa (LoopListing verbose packing trips apart) o text reply.text.items)
        (sym ends) gives,
    is,
  )

  pub drawn_lines : (drawing : Drawing) (packing : Packing)
      → Gives isa (LoopPicture drawing packing trips apart) text (Ok reply)
      → answer ≡ lines_document (codes "show") reply.text.items
      → (told : List ℕ) × (is : IsTextAnswer isa (LoopPicture drawing packing trips apart) outcome text told)
      × Documents isa (LoopPicture drawing packing trips apart) outcome text told is answer
  drawn_lines drawing packing gives is = (
    reply.text.items,
    subst (λ (o : Outcome). IsTextAnswer isa
        (LoopPicture drawing packing trips apart) o text reply.text.items) (sym ends) gives,
    is,
  )

-- ---- checks

-- the lines that a check tells in place of its document
pub checked_text : (program : List Serial) (packets : List Packed) (answer : List ℕ) (same : Bool)
    → IsCheckDocument program packets answer same → (told : List ℕ) × IsChecked program packets told same
checked_text program packets answer same is = (
  told_lines (labels_of packets) (labels_in program) is.others is.verdicts,
  record { others = is.others; verdicts = is.verdicts; judged = is.judged; told = refl; all = is.all },
)

pub verdicts_documented : (isa : InstructionSet) (form : Form) (input told answer : List ℕ) (same : Bool)
    (is : IsCheck isa form input same told)
    → IsCheckDocument is.program is.packets answer same
    → IsAnswer isa (Document (Verdicts form)) (outcome_of same) input answer
verdicts_documented isa form input told answer true is document = (told, is, document)
verdicts_documented isa form input told answer false is document = (told, is, document)

-- ---- packets that are adopted

pub adopted_documented : (isa : InstructionSet) (drain : Bool) (text answer : List ℕ) (packets : List Packed)
    (added : ℕ) (late : Option Late)
    → DrainsNothing isa text packets → IsAdopted isa drain text packets added → late ≡ first_late (code_cut isa text)
    → answer ≡ document (codes "adopt") (adopted_members (drained_told drain (added_of added late)) packets)
    → IsAnswer isa (Document (Adoption drain)) (outcome_adopted drain (added_of added late)) text answer
adopted_documented isa true text answer packets added late lacks is first said = (
  listing packets,
  record { adopted = record { packets = packets; adopted = is; listed = refl }; late = first },
  said,
)
adopted_documented isa false text answer packets added late lacks is first said = (
  listing packets,
  record { packets = packets; adopted = subst (IsAdopted isa false text packets) (lacks added is).0 is; listed = refl },
  said,
)

-- ---- loops

-- a text and packets in flight were read, and this is the document of their check
pub loops_documented : (isa : InstructionSet) (trips : List (Name × ℕ)) (apart : List Reg)
    (input text listing answer : List ℕ)
    (program : List Serial) (read : RowsText) (same plain : Bool)
    → IsParted input text listing → SaysProgram isa text program → first_loopless program trips ≡ None
    → GivesRowsPart isa listing (Ok read) → IsLoopsDocument trips apart program (text_of read.rows) answer same plain
    → DocumentsHaveLines trips apart program (text_of read.rows)
    → IsAnswer isa (Document (LoopVerdicts trips apart)) (outcome_of same) input answer
loops_documented isa trips apart input text listing answer program read same plain parted says named flies document have
    =
    let told = have answer same plain document in
    ended same
    (loop_lines_from program 0 told.judged.verdicts.items ++ rows_line told.judged.wanting) told.lines document
  where
    ended : (b : Bool) (lines : List ℕ) → AreLoopsTold trips apart program (text_of read.rows) lines b plain
        → IsLoopsDocument trips apart program (text_of read.rows) answer b plain
        → IsAnswer isa (Document (LoopVerdicts trips apart)) (outcome_of b) input answer
    ended true lines told is = (
      lines,
      record {
        text = text;
        listing = listing;
        parted = parted;
        program = program;
        says = says;
        named = named;
        packets = text_of read.rows;
        flies = flies;
        plain = plain;
        told = told;
        does = λ all. loops_do_the_same trips apart program (text_of read.rows) lines plain told;
      },
      is,
    )
    ended false lines told is = (
      lines,
      record {
        text = text;
        listing = listing;
        parted = parted;
        program = program;
        says = says;
        named = named;
        packets = text_of read.rows;
        flies = flies;
        plain = plain;
        told = told;
        does = λ all. absurd cc;
      },
      is,
    )
