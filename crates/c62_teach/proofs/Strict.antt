-- What is told of the faults of a text, where it is read and where it is refused.
use Rattle.std.proofs.Common.{◌≡◌, ◌∙◌, inl, inr, ℕ, List, [], Ok, Option, refl, sym, ap, subst}
use Rattle.std.specs.Prelude.{◌≢◌, false}
use Rattle.clap.specs.Words.{Text}
use Rattle.c62_line.specs.declared.fault.Cause.TheVariants.{Memory}
use Rattle.c62_line.specs.declared.fault.ReadFault.{ReadFault}
use Rattle.c62_read.specs.Block.{Serial}
use Rattle.c62_read.specs.Program.{program_in}
use Rattle.c62_packet.specs.Packed.{Packed}
use Rattle.c62_listing_reader.specs.Faults.{IsRead}
use Rattle.c62_listing_reader.specs.declared.fault.ListFault.{ListFault}
use Rattle.c62_listing_reader.specs.declared.fault.ListFault.TheVariants.{Memory as NoStore}
use Rattle.c62_listing_reader.specs.Reading.{Refuses}
use Rattle.c62_adopt.specs.declared.fault.AdoptFault.{AdoptFault}
use Rattle.c62_adopt.specs.declared.fault.AdoptFault.TheVariants.{Memory as NoRoom}
use Rattle.c62_adopt.specs.Answer.{IsAdopted, LacksCode, Refuses as RefusesPackets, code_in, code_read}
use Rattle.c62_flight.specs.Text.{IsIssuable}
use Rattle.c62_rows.specs.declared.text.Begun.{Begun}
use Rattle.c62_rows.specs.declared.fault.RowsFault.{RowsFault}
use Rattle.c62_rows.specs.declared.fault.RowsFault.TheVariants.{From as NoStart, Memory as NoPlace}
use Rattle.c62_rows.specs.Rows.{text_of}
use Rattle.c62_rows.specs.Text.{RefusesFrom}
use Rattle.c62_rows.specs.Told.{BeginsAs}
use Rattle.c62_rows.proofs.Issuable.{rows_are_issuable}
use Rattle.c62_reach.specs.declared.fault.ReachFault.TheVariants.{From as Nowhere}
use Rattle.c62_reach.specs.Taken.{IsTaken, Lacks}
use Rattle.c62_command.specs.declared.setting.Setting.{Setting}
use Rattle.c62_command.specs.declared.command.Course.{Course}
use Rattle.c62_command.specs.declared.command.Form.TheVariants.{Listed, Written}
use Rattle.c62_command.specs.declared.flight.FlightCourse.{FlightCourse}
use Rattle.c62_answer.specs.Message.{adopt_message, fault_message, list_message, rows_message}
use Rattle.c62_answer.specs.Texts.{SaysProgram}
use Rattle.c62_answer.specs.Run.{TellsFlightFaults}
use Rattle.c62_teach.specs.Faulted.{TellsCode, TellsPackets, TellsProgram, TellsRows, TellsRun}
use Rattle.c62_teach.specs.Faulted.{TellsStanding, TellsTaken}
use Rattle.c62_read.specs.Program.{Fails}
use Rattle.c62_op.specs.declared.set.InstructionSet.{InstructionSet}

-- ---- serial text

pub program_some : (isa : InstructionSet) (settings : List Setting) (course : Course) (text more : List ℕ)
    (program : List Serial)
    → SaysProgram isa text program → TellsRun program settings course more → TellsProgram isa settings course text more
program_some isa settings course text more program says tells = inl (program, says, tells)

pub program_none : (isa : InstructionSet) (settings : List Setting) (course : Course) (text more : List ℕ)
    (fault : ReadFault)
    → fault.cause ≢ Memory → Fails fault (program_in isa text) → more ≡ [] → TellsProgram isa settings course text more
program_none isa settings course text more fault known (inl memory) none =
    absurd (known (ap (λ (f : ReadFault). f.cause) memory))
program_none isa settings course text more fault known (inr is) none =
    inr (fault_message fault.line fault.cause, rw is refl, none)

-- ---- packets as they stand

pub listing_some : (isa : InstructionSet) (settings : List Setting) (course : Course) (text more : List ℕ)
    (packets : List Packed)
    → IsRead isa text packets → TellsPackets packets settings course more
    → TellsStanding isa Listed settings course text more
listing_some isa settings course text more packets read tells = inl (packets, read, tells)

pub listing_none : (isa : InstructionSet) (settings : List Setting) (course : Course) (text more : List ℕ)
    (fault : ListFault)
    → fault ≢ NoStore → Refuses isa text fault → more ≡ [] → TellsStanding isa Listed settings course text more
listing_none isa settings course text more fault known refused none =
    inr (list_message fault, record { fault = fault; known = known; refused = refused; told = refl }, none)

pub written_some : (isa : InstructionSet) (settings : List Setting) (course : Course) (text more : List ℕ)
    (packets : List Packed)
    → IsAdopted isa false text packets 0 → TellsPackets packets settings course more
    → TellsStanding isa Written settings course text more
written_some isa settings course text more packets read tells = inl (packets, read, tells)

pub written_none : (isa : InstructionSet) (settings : List Setting) (course : Course) (text more : List ℕ)
    (fault : AdoptFault)
    → fault ≢ NoRoom → RefusesPackets isa false text fault → more ≡ []
    → TellsStanding isa Written settings course text more
written_none isa settings course text more fault known refused none =
    inr (adopt_message fault, record { fault = fault; known = known; refused = refused; told = refl }, none)

-- ---- packets in flight

pub issuable : (isa : InstructionSet) (code : List ℕ) (from : Option Text) (begun : Begun)
    → BeginsAs isa code from begun
    → IsIssuable (text_of begun.rows)
issuable isa code from begun begins = rows_are_issuable begun.rows begins.rows

pub rows_some : (isa : InstructionSet) (from : Option Text) (settings : List Setting) (course : FlightCourse)
    (code more : List ℕ)
    (begun : Begun)
    → BeginsAs isa code from begun → TellsFlightFaults (text_of begun.rows) begun.first settings course more
    → TellsRows isa from settings course code more
rows_some isa from settings course code more begun begins tells =
    inl (text_of begun.rows, begun.first, begins.is_text, tells)

pub rows_none : (isa : InstructionSet) (from : Option Text) (settings : List Setting) (course : FlightCourse)
    (code more : List ℕ)
    (fault : RowsFault)
    → fault ≢ NoPlace → RefusesFrom isa code from fault → more ≡ [] → TellsRows isa from settings course code more
rows_none isa from settings course code more fault known refused none = inr (fault, known, refused, none)

pub code_some : (isa : InstructionSet) (from : Option Text) (settings : List Setting) (course : FlightCourse)
    (text code more : List ℕ)
    → code_read isa text ≡ Ok code → TellsRows isa from settings course code more
    → TellsCode isa from settings course text more
code_some isa from settings course text code more is tells =
    let own : code_in (code_read isa text) ≡ code = ap code_in is in
    inl (is ∙ ap Ok (sym own), subst (λ (c : List ℕ). TellsRows isa from settings course c more) (sym own) tells)

pub code_none : (isa : InstructionSet) (from : Option Text) (settings : List Setting) (course : FlightCourse)
    (text more : List ℕ)
    (fault : AdoptFault)
    → fault ≢ NoRoom → LacksCode isa text fault → more ≡ [] → TellsCode isa from settings course text more
code_none isa from settings course text more fault known lacks none =
    inr (adopt_message fault, record { fault = fault; known = known; lacks = lacks; told = refl }, none)

pub taken_some : (isa : InstructionSet) (name : Text) (from : Option Text) (settings : List Setting)
    (course : FlightCourse)
    (text taken more : List ℕ)
    → IsTaken isa name text taken → TellsCode isa from settings course taken more
    → TellsTaken isa name from settings course
    text more
taken_some isa name from settings course text taken more is tells = inl (taken, is, tells)

pub taken_none : (isa : InstructionSet) (name : Text) (from : Option Text) (settings : List Setting)
    (course : FlightCourse)
    (text more : List ℕ)
    → Lacks isa name text Nowhere → more ≡ [] → TellsTaken isa name from settings course text more
taken_none isa name from settings course text more lacks none =
    inr (rows_message NoStart, record { lacks = lacks; told = refl }, none)
