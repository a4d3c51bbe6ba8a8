-- The trace of a text, where it is read and where it is refused.
use Rattle.std.proofs.Common.{◌≡◌, Bool, true, false, inl, inr, ℕ, List, Option, Some, None, refl, sym, subst}
use Rattle.std.proofs.Common.{Result, Ok, Err}
use Rattle.std.specs.Prelude.{IfOk, IsOkAnd}
use Rattle.clap.specs.Words.{Text}
use Rattle.c62_packet.specs.Packed.{Packed}
use Rattle.c62_flight.specs.Text.{IsIssuable}
use Rattle.c62_rows.specs.declared.text.Begun.{Begun}
use Rattle.c62_rows.specs.Rows.{text_of}
use Rattle.c62_rows.proofs.Issuable.{rows_are_issuable}
use Rattle.c62_command.specs.declared.setting.Setting.{Setting}
use Rattle.c62_command.specs.declared.command.Course.{Course}
use Rattle.c62_command.specs.declared.command.Form.{Form}
use Rattle.c62_command.specs.declared.flight.FlightCourse.{FlightCourse}
use Rattle.c62_trace.specs.declared.view.Window.{Window}
use Rattle.c62_trace.specs.Stream.{Sent}
use Rattle.c62_drawing.specs.declared.draw.Drawn.{Drawn}
use Rattle.c62_drawing.specs.declared.run.Traced.{Traced}
use Rattle.c62_drawing.specs.declared.run.Traced.TheVariants.{Nothing}
use Rattle.c62_drawing.specs.Found.{FindsCode, FindsFlight, FindsPackets, FindsRows, FindsTaken}
use Rattle.c62_drawing.specs.Traced.{DrawsFlight, DrawsFlying, DrawsPackets, DrawsStanding, of_whole}
use Rattle.c62_op.specs.declared.set.InstructionSet.{InstructionSet}

pub standing_some : (isa : InstructionSet) (drawn : Drawn) (window : Window) (form : Form) (course : Course)
    (settings : List Setting)
    (text : List ℕ)
    (packets : List Packed) (whole : Sent) (old new : Option (List ℕ))
    → FindsPackets isa form text (Some packets) → DrawsPackets drawn window packets course settings whole old new
    → DrawsStanding isa drawn window form course settings text (of_whole whole) old new
standing_some isa drawn window form course settings text packets whole old new says traces =
    inl (packets, says, whole, refl, traces)

pub standing_none : (isa : InstructionSet) (drawn : Drawn) (window : Window) (form : Form) (course : Course)
    (settings : List Setting)
    (text : List ℕ)
    (stream : Option (List ℕ))
    → FindsPackets isa form text None → DrawsStanding isa drawn window form course settings text Nothing stream stream
standing_none isa drawn window form course settings text stream none = inr (none.0, none.1, refl, refl)

pub flying_some : (isa : InstructionSet) (drawn : Drawn) (window : Window) (alone : Bool) (from : Option Text)
    (course : FlightCourse)
    (settings : List Setting)
    (text : List ℕ) (begun : Begun) (whole : Sent) (old new : Option (List ℕ))
    → FindsFlight isa alone from text (Some begun)
    → DrawsFlight drawn window (text_of begun.rows) begun.labels.entries begun.first course settings whole old new
    → DrawsFlying isa drawn window alone from course settings text (of_whole whole) old new
flying_some isa drawn window alone from course settings text begun whole old new finds traces =
    inl (begun, finds, whole, refl, traces)

pub flying_none : (isa : InstructionSet) (drawn : Drawn) (window : Window) (alone : Bool) (from : Option Text)
    (course : FlightCourse)
    (settings : List Setting)
    (text : List ℕ) (stream : Option (List ℕ))
    → FindsFlight isa alone from text None
    → DrawsFlying isa drawn window alone from course settings text Nothing stream stream
flying_none isa drawn window alone from course settings text stream none = inr (none, refl, refl)

-- ---- where memory may run out

pub both_of : {X E : Type 0} (r : Result X E) (P Q : X → Type 0) → IsOkAnd r P → IfOk r Q → (x : X) × P x × Q x
both_of (Ok x) P Q p q = (x, p, q)
both_of (Err e) P Q p q = absurd p

pub standing_taken : (isa : InstructionSet) {E : Type 0} (drawn : Drawn) (window : Window) (form : Form)
    (course : Course)
    (settings : List Setting) (text : List ℕ) (packets : List Packed) (whole : Result Sent E) (taken : Result Traced E)
    (old new : Option (List ℕ))
    → FindsPackets isa form text (Some packets)
    → IfOk whole (λ w. DrawsPackets drawn window packets course settings w old new)
    → IfOk taken (λ traced. IsOkAnd whole (λ w. traced ≡ of_whole w))
    → IfOk taken (λ traced. DrawsStanding isa drawn window form course settings text traced old new)
standing_taken isa drawn window form course settings text packets whole (Ok traced) old new says draws takes =
    let both = both_of whole _ _ takes draws in
    subst (λ t. DrawsStanding isa drawn window form course settings text t old new) (sym both.1)
    (standing_some isa drawn window form course settings text packets both.0 old new says both.2)
standing_taken isa drawn window form course settings text packets whole (Err e) old new says draws takes = tt

pub flying_taken : (isa : InstructionSet) {E : Type 0} (drawn : Drawn) (window : Window) (alone : Bool)
    (from : Option Text)
    (course : FlightCourse) (settings : List Setting) (text : List ℕ) (begun : Begun) (whole : Result Sent E)
    (taken : Result Traced E) (old new : Option (List ℕ))
    → FindsFlight isa alone from text (Some begun)
    → IfOk whole (λ w. DrawsFlight drawn window (text_of begun.rows) begun.labels.entries begun.first course settings w
    old new)
    → IfOk taken (λ traced. IsOkAnd whole (λ w. traced ≡ of_whole w))
    → IfOk taken (λ traced. DrawsFlying isa drawn window alone from course settings text traced old new)
flying_taken isa drawn window alone from course settings text begun whole (Ok traced) old new finds draws takes =
    let both = both_of whole _ _ takes draws in
    subst (λ t. DrawsFlying isa drawn window alone from course settings text t old new) (sym both.1)
    (flying_some isa drawn window alone from course settings text begun both.0 old new finds both.2)
flying_taken isa drawn window alone from course settings text begun whole (Err e) old new finds draws takes = tt

-- ---- what runs can be issued

rows_issuable : (isa : InstructionSet) (from : Option Text) (code : List ℕ) (begun : Begun)
    → FindsRows isa from code (Some begun)
    → IsIssuable (text_of begun.rows)
rows_issuable isa from code begun begins = rows_are_issuable begun.rows begins.rows

code_issuable : (isa : InstructionSet) (from : Option Text) (text : List ℕ) (begun : Begun)
    → FindsCode isa from text (Some begun)
    → IsIssuable (text_of begun.rows)
code_issuable isa from text begun (inl read) = rows_issuable isa from _ begun read.1
code_issuable isa from text begun (inr none) = absurd (some_none none.2)
  where
    some_none : Some begun ≡ None → ⊥
    some_none e = cc

taken_issuable : (isa : InstructionSet) (name : Text) (from : Option Text) (text : List ℕ) (begun : Begun)
    → FindsTaken isa name from text (Some begun) → IsIssuable (text_of begun.rows)
taken_issuable isa name from text begun (inl taken) = code_issuable isa from taken.0 begun taken.2
taken_issuable isa name from text begun (inr none) = absurd (some_none none.2)
  where
    some_none : Some begun ≡ None → ⊥
    some_none e = cc

pub issuable : (isa : InstructionSet) (alone : Bool) (from : Option Text) (text : List ℕ) (begun : Begun)
    → FindsFlight isa alone from text (Some begun) → IsIssuable (text_of begun.rows)
issuable isa true (Some name) text begun finds = taken_issuable isa name (Some name) text begun finds
issuable isa true None text begun finds = code_issuable isa None text begun finds
issuable isa false from text begun finds = code_issuable isa from text begun finds
