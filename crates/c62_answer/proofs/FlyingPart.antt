-- The packets in flight that are to be checked, from what each step gave.
use Rattle.std.proofs.Common.{◌≡◌, ◌∙◌, ℕ, List, Ok, Err, None, ap, sym, subst, refl, inl, inr}
use Rattle.c62_adopt.specs.declared.fault.AdoptFault.{AdoptFault}
use Rattle.c62_adopt.specs.Answer.{LacksCode, code_read}
use Rattle.c62_adopt.proofs.CodeLemmas.{coded_by}
use Rattle.c62_rows.specs.declared.fault.RowsFault.{RowsFault}
use Rattle.c62_rows.specs.declared.fault.RowsFault.TheVariants.{At, From, Memory}
use Rattle.c62_rows.specs.declared.text.RowsText.{RowsText}
use Rattle.c62_rows.specs.Rows.{text_of}
use Rattle.c62_rows.specs.Text.{IsText, Refuses, RefusesFrom}
use Rattle.c62_rows.specs.Told.{ReadsAs, names_of}
use Rattle.c62_answer.specs.declared.failure.Failure.{Failure}
use Rattle.c62_answer.specs.Run.{GivesRowsPart, IsPacketsFailure, IsRowsPartFailure}
use Rattle.c62_op.specs.declared.set.InstructionSet.{InstructionSet}

-- the packets' text has no code
pub uncoded_rows : (isa : InstructionSet) (text : List ℕ) (fault : AdoptFault) (f : Failure) → IsPacketsFailure fault f
    → LacksCode isa text fault
    → GivesRowsPart isa text (Err f)
uncoded_rows isa text fault f (inl memory) lacks = rw (memory.1) tt
uncoded_rows isa text fault f (inr known) lacks = rw (known.1)
    (inl (record { fault = fault; known = known.0; lacks = lacks; told = refl }))

from_none : (isa : InstructionSet) (code : List ℕ) (fault : RowsFault) → Refuses isa code fault
    → RefusesFrom isa code None fault
from_none isa code (At line cause) refused = refused
from_none isa code From refused = absurd refused
from_none isa code Memory refused = tt

-- its code makes no rows
pub no_rows : (isa : InstructionSet) (text code : List ℕ) (fault : RowsFault) (f : Failure)
    → code_read isa text ≡ Ok code
    → IsRowsPartFailure fault f → Refuses isa code fault → GivesRowsPart isa text (Err f)
no_rows isa text code fault f is (inl memory) refused = rw (memory.1) tt
no_rows isa text code fault f is (inr known) refused =
    let same = coded_by isa text code is in
    rw (known.1) (inr (record {
      coded = is ∙ ap Ok (sym same);
      fault = fault;
      known = known.0;
      refused = subst (λ (c : List ℕ). RefusesFrom isa c None fault) (sym same) (from_none isa code fault refused);
      told = refl;
    }))

-- it does
pub rows_fly : (isa : InstructionSet) (text code : List ℕ) (read : RowsText) → code_read isa text ≡ Ok code
    → ReadsAs isa code read
    → GivesRowsPart isa text (Ok read)
rows_fly isa text code read is reads =
    let same = coded_by isa text code is in
    record {
      labels = names_of read;
      coded = is ∙ ap Ok (sym same);
      is_text = subst (λ (c : List ℕ). IsText isa c (text_of read.rows) (names_of read)) (sym same) reads.is_text;
    }
