-- What is read of an input, as far as a byte past the limit, flies as all of it does.
use Rattle.std.proofs.Common.{◌+◌}
use Rattle.std.proofs.Common.{◌≡◌, inl, inr, ℕ, List, take, Ok, Option, sym, ap, subst, ◌∙◌}
use Rattle.clap.specs.Words.{Text}
use Rattle.c62_command.specs.declared.flight.FlightCourse.{FlightCourse}
use Rattle.c62_command.specs.declared.setting.Setting.{Setting as Given}
use Rattle.c62_flight.specs.Text.{Text as FlightText}
use Rattle.c62_rows.specs.Text.{IsText, IsTextFrom, RefusesFrom}
use Rattle.c62_adopt.specs.Answer.{code_in, code_read}
use Rattle.c62_adopt.proofs.CodeLemmas.{code_read-take, lacks_same}
use Rattle.c62_answer.specs.declared.outcome.Outcome.{Outcome}
use Rattle.c62_answer.specs.LoopCheck.{IsFlying}
use Rattle.c62_answer.specs.Run.{IsFlightReport}
use Rattle.c62_answer.specs.Texts.{IsNoFlight}
use Rattle.c62_adopt_cut.specs.Text.{most_bytes as most_packets_bytes}
use Rattle.c62_op.specs.declared.set.InstructionSet.{InstructionSet}

pub code_all : (isa : InstructionSet) (all text : List ℕ) → text ≡ take (most_packets_bytes + 1) all
    → code_read isa text ≡ code_read isa all
code_all isa all text read = ap (code_read isa) read ∙ code_read-take isa all

unfoldable pub flight_all : (isa : InstructionSet) (course : FlightCourse) (from : Option Text) (settings : List Given)
    (outcome : Outcome)
    (all text answer : List ℕ) → text ≡ take (most_packets_bytes + 1) all
    → IsFlightReport isa course from settings outcome text answer
    → IsFlightReport isa course from settings outcome all answer
flight_all isa course from settings outcome all text answer read is =
    let same = code_all isa all text read in
    record {
      flying = is.flying;
      first = is.first;
      coded = sym same ∙ is.coded ∙ ap (λ r. Ok (code_in r)) same;
      begins = subst (λ (t : List ℕ). IsTextFrom isa t from is.flying is.first) (ap code_in same) is.begins;
      labels = is.labels;
      named = subst (λ (t : List ℕ). IsText isa t is.flying is.labels) (ap code_in same) is.named;
      flown = is.flown;
    }

-- what stands for a text with as much code
pub flying_same : (isa : InstructionSet) (text other : List ℕ) (flying : FlightText)
    → code_read isa text ≡ code_read isa other → IsFlying isa text flying
    → IsFlying isa other flying
flying_same isa text other flying same is = record {
  labels = is.labels;
  coded = sym same ∙ is.coded ∙ ap (λ r. Ok (code_in r)) same;
  is_text = subst (λ (t : List ℕ). IsText isa t flying is.labels) (ap code_in same) is.is_text;
}

pub no_flight_same : (isa : InstructionSet) (from : Option Text) (text other message : List ℕ)
    → code_read isa text ≡ code_read isa other
    → IsNoFlight isa from text message → IsNoFlight isa from other message
no_flight_same isa from text other message same (inl is) =
    inl (record {
      fault = is.fault;
      known = is.known;
      lacks = lacks_same isa text other is.fault same is.lacks;
      told =
          is.told;
    })
no_flight_same isa from text other message same (inr is) =
    inr (record {
      coded = sym same ∙ is.coded ∙ ap (λ r. Ok (code_in r)) same;
      fault = is.fault;
      known = is.known;
      refused = subst (λ (t : List ℕ). RefusesFrom isa t from is.fault) (ap code_in same) is.refused;
      told = is.told;
    })

pub no_flight_all : (isa : InstructionSet) (from : Option Text) (all text message : List ℕ)
    → text ≡ take (most_packets_bytes + 1) all
    → IsNoFlight isa from text message → IsNoFlight isa from all message
no_flight_all isa from all text message read is =
    no_flight_same isa from text all message (code_all isa all text read) is
