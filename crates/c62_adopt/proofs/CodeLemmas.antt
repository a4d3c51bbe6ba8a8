-- A text is adopted as its code is, and refused where it has none.
use Rattle.std.proofs.Common.{◌≡◌, ◌<◌, ◌≤◌, ◌+◌, ◌∙◌, ap, sym, refl, subst, ℕ, Bool, List, Option, length, Ok, Err}
use Rattle.std.proofs.Common.{take, arith, inl, inr}
use Rattle.std.specs.Prelude.{Result, nat_lt}
use Rattle.std.proofs.lemmas.Bool.{cases_lt, le-ltb, lt-ltb}
use Rattle.std.proofs.lemmas.List.{take_all, length-take}
use Rattle.c62_packet.specs.Packed.{Packed}
use Rattle.c62_adopt_cut.specs.Text.{Cut, most_bytes, text_cut}
use Rattle.c62_adopt_late.specs.declared.late.Late.{Late}
use Rattle.c62_adopt_late.specs.Late.{first_late}
use Rattle.c62_adopt_code.specs.declared.fault.CodeFault.{CodeFault}
use Rattle.c62_adopt_code.specs.declared.fault.CodeFault.TheVariants.{At, Memory as NoMemory}
use Rattle.c62_adopt_code.specs.Code.{Refusal as CodeRefusal, code_of}
use Rattle.c62_adopt_code.specs.Told.{FailsWith}
use Rattle.c62_adopt.specs.declared.fault.AdoptFault.{AdoptFault}
use Rattle.c62_adopt.specs.declared.fault.AdoptFault.TheVariants.{Text, Rule, Memory, Code}
use Rattle.c62_adopt.specs.Answer.{IsAdopted, IsAdoptedFrom, IsCoded, LacksCode, Refuses, RefusesCut, code_cut, code_in}
use Rattle.c62_adopt.specs.Answer.{code_read}
use Rattle.c62_adopt.specs.FaultText.{fault_from}
use Rattle.c62_adopt_cut.specs.declared.text.TheConstants.{MOST_BYTES}
use Rattle.c62_op.specs.declared.set.InstructionSet.{InstructionSet}

-- a text that is too long is read as far as that shows
pub long_read : (isa : InstructionSet) (text : List ℕ) → MOST_BYTES < length text
    → code_read isa text ≡ Ok (take (MOST_BYTES + 1) text)
long_read isa text long = rw (lt-ltb MOST_BYTES (length text) long) refl

pub short_read : (isa : InstructionSet) (text : List ℕ) → length text ≤ MOST_BYTES
    → code_read isa text ≡ code_of isa text
short_read isa text short = rw (le-ltb MOST_BYTES (length text) short) refl

-- what is read is the code
pub coded_by : (isa : InstructionSet) (text code : List ℕ) → code_read isa text ≡ Ok code
    → code_in (code_read isa text) ≡ code
coded_by isa text code is = ap code_in is

pub adopted_by : (isa : InstructionSet) (drain : Bool) (text code : List ℕ) (packets : List Packed) (added : ℕ)
    → code_read isa text ≡ Ok code
    → IsAdoptedFrom drain (text_cut isa code) packets added → IsAdopted isa drain text packets added
adopted_by isa drain text code packets added is from =
    let same = coded_by isa text code is in
    record {
      coded = is ∙ ap Ok (sym same);
      read = subst
          (λ (c : List ℕ). IsAdoptedFrom drain (text_cut isa c) packets added) (sym same) from;
    }

-- the first late register of the code is the text's
pub late_by : (isa : InstructionSet) (text code : List ℕ) (late : Option Late) → code_read isa text ≡ Ok code
    → late ≡ first_late (text_cut isa code)
    → late ≡ first_late (code_cut isa text)
late_by isa text code late is found =
    found ∙ ap (λ (c : List ℕ). first_late (text_cut isa c)) (sym (coded_by isa text code is))

pub refused_by : (isa : InstructionSet) (drain : Bool) (text code : List ℕ) (fault : AdoptFault)
    → code_read isa text ≡ Ok code
    → RefusesCut drain (text_cut isa code) fault
    → Refuses isa drain text fault
refused_by isa drain text code (Text fault) is refused =
    let same = coded_by isa text code is in
    (is ∙ ap Ok (sym same), subst (λ (c : List ℕ). RefusesCut drain (text_cut isa c) (Text fault)) (sym same) refused)
refused_by isa drain text code (Rule line rule) is refused =
    let same = coded_by isa text code is in (
      is ∙ ap Ok (sym same),
      subst (λ (c : List ℕ). RefusesCut drain (text_cut isa c) (Rule line rule))
          (sym same) refused,
    )
refused_by isa drain text code (Code line cause) is refused = absurd refused
refused_by isa drain text code Memory is refused = tt

pub lacks_code : (isa : InstructionSet) (text : List ℕ) (fault : CodeFault) → length text ≤ MOST_BYTES
    → FailsWith fault (code_of isa text)
    → LacksCode isa text (fault_from fault)
lacks_code isa text (At line cause) short fails = short_read isa text short ∙ fails
lacks_code isa text NoMemory short fails = tt

pub refused_uncoded : (isa : InstructionSet) (drain : Bool) (text : List ℕ) (fault : AdoptFault)
    → LacksCode isa text fault
    → Refuses isa drain text fault
refused_uncoded isa drain text (Code line cause) lacks = lacks
refused_uncoded isa drain text Memory lacks = tt
refused_uncoded isa drain text (Text fault) lacks = absurd lacks
refused_uncoded isa drain text (Rule line rule) lacks = absurd lacks

pub lacks_same : (isa : InstructionSet) (text other : List ℕ) (fault : AdoptFault)
    → code_read isa text ≡ code_read isa other → LacksCode isa text fault
    → LacksCode isa other fault
lacks_same isa text other (Code line cause) same lacks = sym same ∙ lacks
lacks_same isa text other Memory same lacks = tt
lacks_same isa text other (Text fault) same lacks = absurd lacks
lacks_same isa text other (Rule line rule) same lacks = absurd lacks

-- ---- texts with the same code

pub adopted_same : (isa : InstructionSet) (drain : Bool) (text other : List ℕ) (packets : List Packed) (added : ℕ)
    → code_read isa text ≡ code_read isa other
    → IsAdopted isa drain text packets added → IsAdopted isa drain other packets added
adopted_same isa drain text other packets added same is =
    adopted_by isa drain other (code_in (code_read isa text)) packets added (sym same ∙ is.coded) is.read

pub refuses_same : (isa : InstructionSet) (drain : Bool) (text other : List ℕ) (fault : AdoptFault)
    → code_read isa text ≡ code_read isa other
    → Refuses isa drain text fault
    → Refuses isa drain other fault
refuses_same isa drain text other (Code line cause) same refused = sym same ∙ refused
refuses_same isa drain text other Memory same refused = tt
refuses_same isa drain text other (Text fault) same refused =
    refused_by isa drain other (code_in (code_read isa text)) (Text fault)
    (sym same ∙ refused.0) refused.1
refuses_same isa drain text other (Rule line rule) same refused =
    refused_by isa drain other (code_in (code_read isa text)) (Rule line rule) (sym same ∙ refused.0) refused.1

-- one byte past the limit tells enough
pub code_read-take : (isa : InstructionSet) (all : List ℕ)
    → code_read isa (take (MOST_BYTES + 1) all) ≡ code_read isa all
code_read-take isa all =
    elim (cases_lt MOST_BYTES (length all)) [
      | inl long ↦
          long_read isa (take (MOST_BYTES + 1) all) (omega (arith, length-take (MOST_BYTES + 1) all))
          ∙ ap Ok (take_all (MOST_BYTES + 1) (take (MOST_BYTES + 1) all)
          (omega (arith, length-take (MOST_BYTES + 1) all)))
          ∙ sym (long_read isa all long)
      | inr short ↦ ap (code_read isa) (take_all (MOST_BYTES + 1) all (omega arith))
    ]
