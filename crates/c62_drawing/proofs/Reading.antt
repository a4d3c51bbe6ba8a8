-- What of a text runs, where it is read and where it is refused.
use Rattle.std.proofs.Common.{◌≡◌, ◌∙◌, inl, inr, Bool, true, ℕ, List, Ok, Option, Some, None, refl, sym, ap, subst}
use Rattle.std.specs.Prelude.{◌≢◌, false}
use Rattle.clap.specs.Words.{Text}
use Rattle.c62_packet.specs.Packed.{Packed}
use Rattle.c62_listing_reader.specs.declared.fault.ListFault.{ListFault}
use Rattle.c62_listing_reader.specs.declared.fault.ListFault.TheVariants.{Memory as NoStore}
use Rattle.c62_listing_reader.specs.Reading.{Refuses}
use Rattle.c62_adopt.specs.declared.fault.AdoptFault.{AdoptFault}
use Rattle.c62_adopt.specs.declared.fault.AdoptFault.TheVariants.{Memory as NoRoom}
use Rattle.c62_adopt.specs.Answer.{IsAdopted, LacksCode, Refuses as RefusesPackets, code_in, code_read}
use Rattle.c62_adopt.specs.Laws.{DrainsNothing}
use Rattle.c62_rows.specs.declared.text.Begun.{Begun}
use Rattle.c62_rows.specs.declared.fault.RowsFault.{RowsFault}
use Rattle.c62_rows.specs.declared.fault.RowsFault.TheVariants.{From as NoStart, Memory as NoPlace}
use Rattle.c62_rows.specs.Text.{RefusesFrom}
use Rattle.c62_reach.specs.declared.fault.ReachFault.TheVariants.{From as Nowhere}
use Rattle.c62_reach.specs.Taken.{IsTaken, Lacks}
use Rattle.c62_command.specs.declared.command.Form.TheVariants.{Listed, Written}
use Rattle.c62_answer.specs.Message.{adopt_message, list_message, rows_message}
use Rattle.c62_drawing.specs.Found.{FindsCode, FindsFlight, FindsPackets, FindsRows, FindsTaken}
use Rattle.c62_op.specs.declared.set.InstructionSet.{InstructionSet}

pub listing_none : (isa : InstructionSet) (text : List ℕ) (fault : ListFault) → fault ≢ NoStore → Refuses isa text fault
    → FindsPackets isa Listed
    text None
listing_none isa text fault known refused =
    (list_message fault, record { fault = fault; known = known; refused = refused; told = refl })

pub written_none : (isa : InstructionSet) (text : List ℕ) (fault : AdoptFault) → fault ≢ NoRoom
    → RefusesPackets isa false text fault
    → FindsPackets isa Written text None
written_none isa text fault known refused =
    (adopt_message fault, record { fault = fault; known = known; refused = refused; told = refl })

pub rows_none : (isa : InstructionSet) (from : Option Text) (code : List ℕ) (fault : RowsFault) → fault ≢ NoPlace
    → RefusesFrom isa code from fault
    → FindsRows isa from code None
rows_none isa from code fault known refused = (fault, known, refused)

pub code_some : (isa : InstructionSet) (from : Option Text) (text code : List ℕ) (found : Option Begun)
    → code_read isa text ≡ Ok code → FindsRows isa from code found → FindsCode isa from text found
code_some isa from text code found is finds =
    let own : code_in (code_read isa text) ≡ code = ap code_in is in
    inl (is ∙ ap Ok (sym own), subst (λ (c : List ℕ). FindsRows isa from c found) (sym own) finds)

pub code_none : (isa : InstructionSet) (from : Option Text) (text : List ℕ) (fault : AdoptFault) → fault ≢ NoRoom
    → LacksCode isa text fault
    → FindsCode isa from text None
code_none isa from text fault known lacks =
    inr (adopt_message fault, record { fault = fault; known = known; lacks = lacks; told = refl }, refl)

pub taken_some : (isa : InstructionSet) (name : Text) (from : Option Text) (text taken : List ℕ) (found : Option Begun)
    → IsTaken isa name text taken → FindsCode isa from taken found → FindsTaken isa name from text found
taken_some isa name from text taken found is finds = inl (taken, is, finds)

pub taken_none : (isa : InstructionSet) (name : Text) (from : Option Text) (text : List ℕ) → Lacks isa name text Nowhere
    → FindsTaken isa name from
    text None
taken_none isa name from text lacks = inr (rows_message NoStart, record { lacks = lacks; told = refl }, refl)

-- ---- as it is asked for

pub taken_asked : (isa : InstructionSet) (alone : Bool) (from : Option Text) (name : Text) (text : List ℕ)
    (found : Option Begun)
    → alone ≡ true → from ≡ Some name → FindsTaken isa name (Some name) text found
    → FindsFlight isa alone from text found
taken_asked isa alone from name text found one is finds = rw (one, is) finds

-- where nothing is drained no cycle is added
pub stands : (isa : InstructionSet) (text : List ℕ) (packets : List Packed) (added : ℕ) → DrainsNothing isa text packets
    → IsAdopted isa false text packets added → IsAdopted isa false text packets 0
stands isa text packets added lacks is = subst (IsAdopted isa false text packets) (lacks added is).0 is
