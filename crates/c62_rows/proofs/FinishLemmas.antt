-- What is read of a text once all its lines are.
use Rattle.std.proofs.Common.{arith, ◌≡◌, inr, ℕ, ◌≤◌, List, length, map, Option, Some, None, refl, sym, ap, ◌∙◌, subst}
use Rattle.std.specs.Prelude.{unwrap_or}
use Rattle.std.proofs.lemmas.List.{length-map}
use Rattle.c62_read.specs.Program.{Name}
use Rattle.c62_rows.specs.declared.fault.RowsFault.{RowsFault}
use Rattle.c62_rows.specs.declared.fault.RowsFault.TheVariants.{At, From, Memory}
use Rattle.c62_rows.specs.declared.text.RowsText.{RowsText}
use Rattle.c62_rows.specs.Rows.{row_read, text_of}
use Rattle.c62_rows.specs.Word.{row_named}
use Rattle.c62_rows.specs.Collected.{Collects}
use Rattle.c62_rows.specs.Reading.{Reading, all_rows, closed}
use Rattle.c62_rows.specs.Text.{first_row, IsReading, LacksStart, Refuses, RefusesFrom}
use Rattle.c62_rows.specs.Told.{names_of, LosesTarget, BeginsAs, ReadsAs}
use Rattle.c62_rows.specs.Sound.{IsSound}
use Rattle.c62_rows.proofs.SoundLemmas.{rows_are}
use Rattle.c62_rows.proofs.Worded.{rows_worded, same_count}
use Rattle.c62_adopt_cut.specs.declared.text.TheConstants.{MOST_BYTES}
use Rattle.c62_op.specs.declared.set.InstructionSet.{InstructionSet}

pub finished_as : (isa : InstructionSet) (text : List ℕ) (old new : Reading) (read : RowsText) → IsReading isa text old
    → IsSound old
    → length (all_rows old) ≤ MOST_BYTES
    → new ≡ closed old → Collects new read → ReadsAs isa text read
finished_as isa text old new read reads sound few is collects =
    record {
      is_text = record {
        reading = old;
        reads = reads;
        found = there.found;
        flies = record { rows = there.rows; aims = there.aims_are };
        named = there.names;
      };
      rows = record {
        each = rows_worded old.words old.labels (all_rows old) (map row_read read.rows.rows.items) there.rows
            (rows_are old sound);
        few = omega (
          arith,
          few,
          same_count old.words old.labels (all_rows old) (map row_read read.rows.rows.items) there.rows,
          length-map read.rows.rows.items row_read,
        );
        aims = omega (
          arith,
          sound.targets,
          ap length there.aims_are,
          length-map old.targets
              (λ target. unwrap_or (row_named target.0 old.labels) 0),
        );
      };
    }
  where
    there : Collects (closed old) read
    there = subst (λ (r : Reading). Collects r read) is collects

-- where a label isn't found, that is the fault
pub loses : (isa : InstructionSet) (text : List ℕ) (old new : Reading) (fault : RowsFault) → IsReading isa text old
    → new ≡ closed old
    → LosesTarget new.targets new.labels fault
    → Refuses isa text fault
loses isa text old new (At line cause) reads is lost =
    inr (inr (record {
      reading = old;
      reads = reads;
      lost = subst
          (λ (r : Reading). LosesTarget r.targets r.labels (At line cause)) is lost;
    }))
loses isa text old new From reads is lost = absurd lost
loses isa text old new Memory reads is lost = tt

-- ---- where a run begins

pub begins_as : (isa : InstructionSet) (text : List ℕ) (from : Option Name) (read : RowsText) (row : Option ℕ)
    (first : ℕ) → ReadsAs isa text read
    → row ≡ first_row from (names_of read)
    → row ≡ Some first → BeginsAs isa text from (record { rows = read.rows; first = first; labels = read.labels })
begins_as isa text from read row first reads is some = record {
  is_text = record { labels = names_of read; is_text = reads.is_text; begins = sym is ∙ some };
  named = refl;
  rows = reads.rows;
}

pub lacks_start : (isa : InstructionSet) (text : List ℕ) (from : Option Name) (read : RowsText) (row : Option ℕ)
    → ReadsAs isa text read
    → row ≡ first_row from (names_of read)
    → row ≡ None → LacksStart isa text from
lacks_start isa text from read row reads is none =
    record { flying = text_of read.rows; labels = names_of read; is_text = reads.is_text; lacks = sym is ∙ none }

pub refuses_first : (isa : InstructionSet) (text : List ℕ) (from : Option Name) (fault : RowsFault)
    → Refuses isa text fault
    → RefusesFrom isa text from fault
refuses_first isa text from (At line cause) is = is
refuses_first isa text from From is = absurd is
refuses_first isa text from Memory is = tt
