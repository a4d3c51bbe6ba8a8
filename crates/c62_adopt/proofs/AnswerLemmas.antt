-- A text is adopted in one way, and what is adopted is not refused.
use Rattle.std.proofs.Common.{◌≡◌, ℕ, Bool, List, [], ◌∷◌, ◌++◌, refl, sym, ap, subst, ◌∙◌, append_assoc, Option, Some}
use Rattle.std.proofs.Common.{None, Result, Ok, Err}
use Rattle.std.specs.List.{AllZip}
use Rattle.std.proofs.lemmas.Option.{none-some}
use Rattle.std.proofs.lemmas.List.Sorted.{IsPermutation-sym}
use Rattle.c62_rules.specs.PacketRules.{Issues, KeepsPacketRules}
use Rattle.c62_rules.specs.Length.{length_of}
use Rattle.c62_rules.specs.Part.{IsPart}
use Rattle.c62_rules.proofs.Parts.{part-cons, part-keeps}
use Rattle.c62_packet.specs.declared.placed.Placed.{Placed}
use Rattle.c62_packet.specs.declared.fault.PacketRule.{PacketRule}
use Rattle.c62_packet.specs.Packed.{Packed, issue_of, issues_of, issued}
use Rattle.c62_packet.proofs.Broken.{kept-each}
use Rattle.c62_adopt_cut.specs.Blocks.{Draft}
use Rattle.c62_adopt_cut.specs.Text.{Refusal}
use Rattle.c62_adopt_cut.specs.Drafted.{refusal_of}
use Rattle.c62_adopt_cut.specs.Flight.{first_in_flight, or_behind}
use Rattle.c62_adopt_cut.proofs.DrainLemmas.{lacks_none_where_over}
use Rattle.c62_adopt_code.specs.Code.{Refusal as CodeRefusal}
use Rattle.c62_adopt.specs.declared.fault.AdoptFault.{AdoptFault}
use Rattle.c62_adopt.specs.declared.fault.AdoptFault.TheVariants.{Text, Rule, Memory, Code}
use Rattle.c62_adopt.specs.Blocks.{IsBlockOf}
use Rattle.c62_adopt.specs.Breach.{KeepsRules, IsBreachIn, IsFirstBreach}
use Rattle.c62_adopt.specs.Answer.{IsAdopted, Refuses, code_cut, code_in, code_read}
use Rattle.c62_adopt.specs.Laws.{HasOneAdoption, DrainsNothing}
use Rattle.c62_adopt.proofs.Orders.{rules_same}
use Rattle.c62_adopt.proofs.Breaches.{same_placed}
use Rattle.c62_adopt.proofs.SortedLemmas.{same_listed}
use Rattle.c62_packet.proofs.Placings.{same_packed}
use Rattle.c62_op.specs.declared.set.InstructionSet.{InstructionSet}

-- ---- one adoption

same_block : (drafts : List Draft) (draft : Draft) (block other : Packed) → IsBlockOf drafts draft block
    → IsBlockOf drafts draft other → block ≡ other
same_block drafts draft block other is also =
    let same : is.placed ≡ also.placed = same_placed drafts draft.issues is.placed also.placed is.stand also.stand in
    let listed = rw (← same) at also.listed in
    let placed : block.placed ≡ other.placed =
    same_listed is.placed block.placed other.placed is.listed listed is.is_block.in_order also.is_block.in_order
    is.is_block.rules also.is_block.rules in
    let label : block.label ≡ other.label = is.label ∙ sym also.label in
    let cycles : block.cycles ≡ other.cycles =
    is.is_block.own_length ∙ ap (λ (ps : List Placed). length_of (issues_of ps)) placed
    ∙ sym also.is_block.own_length in
    same_packed block other label cycles placed

same_blocks : (whole drafts : List Draft) (packets others : List Packed) → AllZip (IsBlockOf whole) drafts packets
    → AllZip (IsBlockOf whole) drafts others
    → packets ≡ others
same_blocks whole [] [] [] one other = refl
same_blocks whole [] [] (q ∷ others) one other = absurd other
same_blocks whole [] (p ∷ packets) others one other = absurd one
same_blocks whole (draft ∷ drafts) [] others one other = absurd one
same_blocks whole (draft ∷ drafts) (p ∷ packets) [] one other = absurd other
same_blocks whole (draft ∷ drafts) (p ∷ packets) (q ∷ others) one other =
    let first = same_block whole draft p q one.0 other.0 in
    let rest = same_blocks whole drafts packets others one.1 other.1 in
    cc

pub one_adoption : (isa : InstructionSet) (drain : Bool) (text : List ℕ) → HasOneAdoption isa drain text
one_adoption isa drain text packets others added more is also = (
  same_blocks (code_cut isa text).drafts
      (code_cut isa text).drafts packets others is.read.cut.blocks also.read.cut.blocks,
  is.read.lacking ∙ sym also.read.lacking,
)

-- ---- what is adopted is not refused

no_part : (others : Issues) → IsPart [] others
no_part others = record
    { number = λ i. i; issued = λ i p at. absurd (none-some p at); apart = λ i j p q at. absurd (none-some p at) }

pub front_part : (above below : List Placed) → IsPart (issued above) (issued (above ++ below))
front_part [] below = no_part (issued below)
front_part (p ∷ above) below = part-cons (Some (issue_of p)) (issued above) (issued (above ++ below))
    (front_part above below)

-- a block in which a rule is broken keeps not all rules
pub no_breach : (drafts : List Draft) (draft : Draft) (line : ℕ) (rule : PacketRule) → KeepsRules drafts draft
    → IsBreachIn drafts line rule draft → ⊥
no_breach drafts draft line rule keeps breach =
    let whole : List Placed = breach.above ++ breach.next ∷ breach.below in
    let same : keeps.placed ≡ whole = same_placed drafts draft.issues keeps.placed whole keeps.stand breach.stand in
    let kept : KeepsPacketRules (issued whole) = subst (λ (ps : List Placed). KeepsPacketRules (issued ps)) same
    keeps.kept in
    let parted : whole ≡ (breach.above ++ breach.next ∷ []) ++ breach.below = sym
    (append_assoc breach.above (breach.next ∷ []) breach.below) in
    let front : KeepsPacketRules (issued (breach.above ++ breach.next ∷ [])) =
    part-keeps (issued (breach.above ++ breach.next ∷ [])) (issued ((breach.above ++ breach.next ∷ []) ++ breach.below))
    (front_part (breach.above ++ breach.next ∷ []) breach.below)
    (subst (λ (ps : List Placed). KeepsPacketRules (issued ps)) parted kept) in
    breach.broken.broken ((kept-each (issued (breach.above ++ breach.next ∷ []))).each front rule breach.cycle)

block_keeps : (drafts : List Draft) (draft : Draft) (block : Packed) → IsBlockOf drafts draft block
    → KeepsRules drafts draft
block_keeps drafts draft block is = record {
  placed = is.placed;
  stand = is.stand;
  kept = rules_same block.placed is.placed (IsPermutation-sym is.placed block.placed is.listed) is.is_block.rules;
}

one_keeps : (whole front : List Draft) (draft : Draft) (behind : List Draft) (packets : List Packed)
    → AllZip (IsBlockOf whole) (front ++ draft ∷ behind) packets → KeepsRules whole draft
one_keeps whole [] draft behind [] zip = absurd zip
one_keeps whole [] draft behind (block ∷ packets) zip = block_keeps whole draft block zip.0
one_keeps whole (first ∷ front) draft behind [] zip = absurd zip
one_keeps whole (first ∷ front) draft behind (block ∷ packets) zip = one_keeps whole front draft behind packets zip.1

no_first_breach : (drafts : List Draft) (packets : List Packed) (line : ℕ) (rule : PacketRule)
    → AllZip (IsBlockOf drafts) drafts packets
    → IsFirstBreach drafts line rule → ⊥
no_first_breach drafts packets line rule zip breach =
    no_breach drafts breach.draft line rule
    (one_keeps drafts breach.front breach.draft breach.behind packets
    (subst (λ (ds : List Draft). AllZip (IsBlockOf drafts) ds packets) breach.whole zip)) breach.breach

no_fault : (first behind : Option Refusal) (refusal : Refusal) → first ≡ None → behind ≡ None
    → or_behind first behind ≡ Some refusal → ⊥
no_fault None behind refusal none also is = none-some refusal (sym also ∙ is)
no_fault (Some other) behind refusal none also is = none-some other (sym none)

pub both_read : (read : Result (List ℕ) CodeRefusal) (code : List ℕ) (refusal : CodeRefusal) → read ≡ Ok code
    → read ≡ Err refusal → ⊥
both_read (Ok other) code refusal one two = absurd cc
both_read (Err other) code refusal one two = absurd cc

pub not_refused : (isa : InstructionSet) (drain : Bool) (text : List ℕ) (packets : List Packed) (added : ℕ)
    (fault : AdoptFault)
    → IsAdopted isa drain text packets added
    → Refuses isa drain text fault → fault ≡ Memory
not_refused isa drain text packets added (Text fault) is refused =
    absurd (no_fault (code_cut isa text).fault (first_in_flight drain (code_cut isa text))
    (refusal_of fault) is.read.cut.whole
    is.read.cut.over refused.1.1)
not_refused isa drain text packets added (Rule line rule) is refused = absurd
    (no_first_breach (code_cut isa text).drafts packets line rule is.read.cut.blocks refused.1)
not_refused isa drain text packets added (Code line cause) is refused = absurd
    (both_read (code_read isa text) (code_in (code_read isa text)) (line, cause) is.coded refused)
not_refused isa drain text packets added Memory is refused = refl

-- ---- where nothing lacks

pub drains_nothing : (isa : InstructionSet) (text : List ℕ) (packets : List Packed) → DrainsNothing isa text packets
drains_nothing isa text packets added is =
    let none = (lacks_none_where_over (code_cut isa text)).0 is.read.cut.over in (
      is.read.lacking ∙ none.1,
      record {
        coded = is.coded;
        read = record {
          cut = record { whole = is.read.cut.whole; over = none.0; blocks = is.read.cut.blocks };
          lacking = sym
              none.1;
        };
      },
    )
