-- A text is refused in one way.
use Rattle.std.proofs.Common.{arith, ◌≡◌, ◌⊎◌, ℕ, zero, suc, Bool, List, [], ◌∷◌, ◌++◌, refl, sym, ap, subst, ◌∙◌, inl}
use Rattle.std.proofs.Common.{inr, Result, Ok, Err}
use Rattle.std.specs.Prelude.{All, Contains}
use Rattle.std.proofs.lemmas.Bool.{cases_lt}
use Rattle.std.proofs.lemmas.Option.{same_Some}
use Rattle.std.proofs.lemmas.List.Elements.{All-contains, Contains-append_left, Contains-append_right, Contains-push}
use Rattle.c62_rules.specs.PacketRules.{KeepsPacketRules}
use Rattle.c62_rules.proofs.Parts.{part-keeps}
use Rattle.c62_packet.specs.declared.placed.Placed.{Placed}
use Rattle.c62_packet.specs.declared.fault.PacketRule.{PacketRule}
use Rattle.c62_packet.specs.Packed.{issued}
use Rattle.c62_packet.specs.Fault.{IsFirstBroken}
use Rattle.c62_packet.proofs.Broken.{kept-each}
use Rattle.c62_packet.proofs.OneFault.{same_break}
use Rattle.c62_adopt_cut.specs.declared.fault.TextFault.{TextFault}
use Rattle.c62_adopt_cut.specs.Blocks.{Draft}
use Rattle.c62_adopt_code.specs.declared.fault.CodeCause.{CodeCause}
use Rattle.c62_adopt_code.specs.Code.{Refusal as CodeRefusal}
use Rattle.c62_adopt.specs.Answer.{code_cut, code_in, code_read}
use Rattle.c62_adopt_cut.specs.Drafted.{refusal_of}
use Rattle.c62_adopt.specs.declared.fault.AdoptFault.TheVariants.{Text, Rule, Memory, Code}
use Rattle.c62_adopt.specs.Breach.{KeepsRules, IsBreachIn, IsFirstBreach}
use Rattle.c62_adopt.specs.Laws.{HasOneAnswer, HasOneRefusal}
use Rattle.c62_adopt.proofs.Breaches.{same_placed}
use Rattle.c62_adopt.proofs.AnswerLemmas.{both_read, one_adoption, not_refused, no_breach, front_part}
use Rattle.c62_op.specs.declared.set.InstructionSet.{InstructionSet}

-- ---- the first broken rule is one

same_rule : (placed : List Placed) (cycle other : ℕ) (rule next : PacketRule) → IsFirstBroken cycle rule placed
    → IsFirstBroken other next placed
    → rule ≡ next
same_rule placed cycle other rule next one two = (same_break placed cycle other rule next one two).1

-- ---- of two places in a list one is further up, or they are the same

-- the others go on behind these and this one
record GoesOn {X : Type 0} (xs : List X) (x : X) (ys : List X) : Type 0 where
  more : List X
  is : ys ≡ (xs ++ x ∷ []) ++ more

abbrev Places : {X : Type 0} → List X → X → List X → X → Type 0
Places xs x ys y = GoesOn xs x ys ⊎ (GoesOn ys y xs ⊎ ((xs ≡ ys) × (x ≡ y)))

one_on : {X : Type 0} (z w : X) (xs : List X) (x : X) (ys : List X) → z ≡ w → GoesOn xs x ys
    → GoesOn (z ∷ xs) x (w ∷ ys)
one_on z w xs x ys e goes = let is = goes.is in record { more = goes.more; is = cc }

places : {X : Type 0} (xs : List X) (x : X) (behind : List X) (ys : List X) (y : X) (below : List X)
    → xs ++ x ∷ behind ≡ ys ++ y ∷ below → Places xs x ys y
places [] x behind [] y below e = inr (inr (refl, cc))
places [] x behind (w ∷ ys) y below e = inl (record { more = ys; is = cc })
places (z ∷ xs) x behind [] y below e = inr (inl (record { more = xs; is = cc }))
places (z ∷ xs) x behind (w ∷ ys) y below e =
    let first : z ≡ w = cc in
    let rest : xs ++ x ∷ behind ≡ ys ++ y ∷ below = cc in
    elim (places xs x behind ys y below rest) [
      | inl goes ↦ inl (one_on z w xs x ys first goes)
      | inr other ↦ elim other [
        | inl goes ↦ inr (inl (one_on w z ys y xs (sym first) goes))
        | inr same ↦ (let fronts = same.0 in inr (inr (cc, same.1)))
      ]
    ]

-- ---- of a block

broken_above : (above : List Placed) (next : Placed) (others : List Placed) (cycle : ℕ) (rule : PacketRule)
    → IsFirstBroken cycle rule (above ++ next ∷ [])
    → KeepsPacketRules (issued others) → GoesOn above next others → ⊥
broken_above above next others cycle rule broken kept goes =
    let with_next : List Placed = above ++ next ∷ [] in
    let front : KeepsPacketRules (issued with_next) =
    part-keeps (issued with_next) (issued (with_next ++ goes.more)) (front_part with_next goes.more)
    (subst (λ (ps : List Placed). KeepsPacketRules (issued ps)) goes.is kept) in
    broken.broken ((kept-each (issued with_next)).each front rule cycle)

breach_once : (drafts : List Draft) (draft : Draft) (line other : ℕ) (rule next : PacketRule)
    → IsBreachIn drafts line rule draft
    → IsBreachIn drafts other next draft → (line ≡ other) × (rule ≡ next)
breach_once drafts draft line other rule next one two =
    let same = same_placed drafts draft.issues (one.above ++ one.next ∷ one.below) (two.above ++ two.next ∷ two.below)
    one.stand two.stand in
    elim (places one.above one.next one.below two.above two.next two.below same) [
      | inl goes ↦ absurd (broken_above one.above one.next two.above one.cycle rule one.broken two.kept goes)
      | inr rest ↦ elim rest [
        | inl goes ↦ absurd (broken_above two.above two.next one.above two.cycle next two.broken one.kept goes)
        | inr place ↦
            let with_next : one.above ++ one.next ∷ [] ≡ two.above ++ two.next ∷ [] =
            ap (λ (ps : List Placed). ps ++ one.next ∷ []) place.0
            ∙ ap (λ (p : Placed). two.above ++ p ∷ []) place.1 in (
              sym one.at_line ∙ ap (λ (p : Placed). p.line) place.1 ∙ two.at_line,
              same_rule (two.above ++ two.next ∷ []) one.cycle two.cycle rule next
                  (subst (λ (ps : List Placed). IsFirstBroken one.cycle rule ps) with_next one.broken) two.broken,
            )
      ]
    ]

-- ---- of a text

kept_there : (drafts : List Draft) (front : List Draft) (draft : Draft) (others : List Draft)
    → All (KeepsRules drafts) others → GoesOn front draft others
    → KeepsRules drafts draft
kept_there drafts front draft others kept goes =
    All-contains (KeepsRules drafts) ((front ++ draft ∷ []) ++ goes.more) draft
    (subst (All (KeepsRules drafts)) goes.is kept)
    (Contains-append_left (front ++ draft ∷ []) goes.more draft (Contains-push front draft))

first_breach_once : (drafts : List Draft) (line other : ℕ) (rule next : PacketRule) → IsFirstBreach drafts line rule
    → IsFirstBreach drafts other next
    → (line ≡ other) × (rule ≡ next)
first_breach_once drafts line other rule next one two =
    elim (places one.front one.draft one.behind two.front two.draft two.behind (sym one.whole ∙ two.whole)) [
      | inl goes ↦ absurd (no_breach drafts one.draft line rule
          (kept_there drafts one.front one.draft two.front two.kept goes) one.breach)
      | inr rest ↦ elim rest [
        | inl goes ↦ absurd (no_breach drafts two.draft other next
            (kept_there drafts two.front two.draft one.front one.kept goes) two.breach)
        | inr place ↦
            breach_once drafts two.draft line other rule next
            (subst (λ (d : Draft). IsBreachIn drafts line rule d) place.1 one.breach) two.breach
      ]
    ]

none_broken : (drafts : List Draft) (line : ℕ) (rule : PacketRule) → All (KeepsRules drafts) drafts
    → IsFirstBreach drafts line rule → ⊥
none_broken drafts line rule kept breach =
    let there : Contains drafts breach.draft = subst (λ (ds : List Draft). Contains ds breach.draft) (sym breach.whole)
    (Contains-append_right breach.front (breach.draft ∷ breach.behind) breach.draft (0, omega arith, refl)) in
    no_breach drafts breach.draft line rule (All-contains (KeepsRules drafts) drafts breach.draft kept there)
    breach.breach

same_fault : (fault other : TextFault) → refusal_of fault ≡ refusal_of other → fault ≡ other
same_fault fault other same = grind arith

same_refusal : (line other : ℕ) (cause next : CodeCause) (read : Result (List ℕ) CodeRefusal) → read ≡ Err (line, cause)
    → read ≡ Err (other, next)
    → Code line cause ≡ Code other next
same_refusal line other cause next read one two = grind arith

pub one_refusal : (isa : InstructionSet) (drain : Bool) (text : List ℕ) → HasOneRefusal isa drain text
one_refusal isa drain text Memory other one two = inr (inl refl)
one_refusal isa drain text (Text fault) Memory one two = inr (inr refl)
one_refusal isa drain text (Rule line rule) Memory one two = inr (inr refl)
one_refusal isa drain text (Code line cause) Memory one two = inr (inr refl)
one_refusal isa drain text (Code line cause) (Code other next) one two = inl
    (same_refusal line other cause next (code_read isa text) one two)
one_refusal isa drain text (Code line cause) (Text fault) one two = absurd
    (both_read (code_read isa text) (code_in (code_read isa text)) (line, cause) two.0 one)
one_refusal isa drain text (Code line cause) (Rule other rule) one two = absurd
    (both_read (code_read isa text) (code_in (code_read isa text)) (line, cause) two.0 one)
one_refusal isa drain text (Text fault) (Code line cause) one two = absurd
    (both_read (code_read isa text) (code_in (code_read isa text)) (line, cause) one.0 two)
one_refusal isa drain text (Rule other rule) (Code line cause) one two = absurd
    (both_read (code_read isa text) (code_in (code_read isa text)) (line, cause) one.0 two)
one_refusal isa drain text (Text fault) (Text other) one two =
    inl (ap Text (same_fault fault other (same_Some (refusal_of fault) (refusal_of other) (sym one.1.1 ∙ two.1.1))))
one_refusal isa drain text (Text fault) (Rule line rule) one two = absurd
    (none_broken (code_cut isa text).drafts line rule one.1.0 two.1)
one_refusal isa drain text (Rule line rule) (Text fault) one two = absurd
    (none_broken (code_cut isa text).drafts line rule two.1.0 one.1)
one_refusal isa drain text (Rule line rule) (Rule other next) one two =
    let same = first_breach_once (code_cut isa text).drafts line other rule next one.1 two.1 in
    let lines = same.0 in
    let rules = same.1 in
    inl cc

pub one_answer : (isa : InstructionSet) (drain : Bool) (text : List ℕ) → HasOneAnswer isa drain text
one_answer isa drain text = record {
  adoption = one_adoption isa drain text;
  refusal = not_refused isa drain text;
  one_refusal =
      one_refusal isa drain text;
}
