-- The first instruction of a block that breaks a packet rule with those above it.
use Rattle.std.proofs.Common.{arith, ◌≡◌, ℕ, suc, ◌<◌, ◌+◌, List, [], ◌∷◌, ◌++◌, length, map, take, drop, get_or, refl}
use Rattle.std.proofs.Common.{sym, ap, subst, ◌∙◌, Some}
use Rattle.std.specs.Prelude.{All}
use Rattle.std.proofs.Math.Seq.{split_at, take-append_seam, drop-append_seam}
use Rattle.std.proofs.lemmas.List.{map-append, take_more}
use Rattle.std.proofs.lemmas.List.Elements.{All-nil, All-head, All-take, All-drop, All-push, All-map}
use Rattle.std.proofs.lemmas.Option.{none-some}
use Rattle.c62_insn.specs.Insn.{unit_of}
use Rattle.c62_rules.specs.PacketRules.{KeepsPacketRules}
use Rattle.c62_packet.specs.declared.placed.Placed.{Placed}
use Rattle.c62_packet.specs.declared.fault.PacketRule.{PacketRule}
use Rattle.c62_packet.specs.Packed.{issued}
use Rattle.c62_packet.specs.Fault.{IsFirstBroken}
use Rattle.c62_packet.proofs.Broken.{kept-each}
use Rattle.c62_listing_reader.specs.Said.{Part, part_of}
use Rattle.c62_adopt_cut.specs.declared.draft.Draft.{Draft as DraftRead}
use Rattle.c62_adopt_cut.specs.declared.draft.Issue.{Issue as IssueRead}
use Rattle.c62_adopt_cut.specs.Blocks.{Draft, Issue}
use Rattle.c62_adopt_cut.specs.Drafted.{issue_of, draft_of}
use Rattle.c62_adopt.specs.Blocks.{part_in, AreOf}
use Rattle.c62_adopt.specs.Breach.{KeepsRules, IsBreachIn, IsFirstBreach}
use Rattle.c62_adopt.specs.Judged.{KeepRules, BreakFirst}
use Rattle.c62_listing_reader.proofs.SameLemmas.{same_positions}

-- ---- an instruction is placed in one way

pub same_placed : (drafts : List Draft) (issues : List Issue) (placed others : List Placed) → AreOf drafts issues placed
    → AreOf drafts issues others
    → placed ≡ others
same_placed drafts issues placed others first other = same_positions placed others first.units other.units (first.parts
    ∙ sym other.parts)

-- ---- no instructions keep the rules

none_kept : KeepsPacketRules (issued [])
none_kept = record {
  enough = λ cycle r. omega arith;
  landing = λ i j p q reg cycle at_i at_j. absurd (none-some p at_i);
}

pub none_keep : (drafts : List Draft) → KeepRules drafts []
none_keep drafts = record {
  placed = [];
  stand = record { parts = refl; units = All-nil (λ (p : Placed). unit_of p.insn ≡ Some p.unit) };
  kept = none_kept;
}

pub some_break : (drafts : List Draft) (issues : List Issue) (rule : PacketRule) → BreakFirst drafts issues rule
    → 0 < length issues
some_break drafts [] rule is = absurd (by_placed is.placed is.stand is.broken)
  where
    by_placed : (placed : List Placed) → AreOf drafts [] placed → IsFirstBroken is.cycle rule placed → ⊥
    by_placed [] stand broken = broken.broken ((kept-each (issued [])).each none_kept rule is.cycle)
    by_placed (p ∷ placed) stand broken = let parts = stand.parts in cc
some_break drafts (issue ∷ issues) rule is = omega arith

-- ---- an instruction and those above it

record IsSplit (drafts : List Draft) (front : List Issue) (issue : Issue) (placed : List Placed) : Type 0 where
  above : List Placed
  next : Placed
  below : List Placed
  whole : placed ≡ above ++ next ∷ below
  fronts : map part_of above ≡ map (part_in drafts) front
  here : part_of next ≡ part_in drafts issue

split_by : (drafts : List Draft) (front : List Issue) (issue : Issue) (behind : List Issue) (placed : List Placed)
    → map part_of placed ≡ map (part_in drafts) (front ++ issue ∷ behind) → IsSplit drafts front issue placed
split_by drafts [] issue behind [] e = absurd cc
split_by drafts [] issue behind (p ∷ placed) e = record
    { above = []; next = p; below = placed; whole = refl; fronts = refl; here = cc }
split_by drafts (first ∷ front) issue behind [] e = absurd cc
split_by drafts (first ∷ front) issue behind (p ∷ placed) e =
    let others : map part_of placed ≡ map (part_in drafts) (front ++ issue ∷ behind) = cc in
    let head : part_of p ≡ part_in drafts first = cc in
    let rest = split_by drafts front issue behind placed others in
    let fronts = rest.fronts in
    let whole = rest.whole in
    record {
      above = p ∷ rest.above;
      next = rest.next;
      below = rest.below;
      whole = cc;
      fronts = cc;
      here = rest.here;
    }

abbrev IsWritten : Placed → Type 0
IsWritten p = unit_of p.insn ≡ Some p.unit

units_above : (above : List Placed) (next : Placed) (below : List Placed) → All IsWritten (above ++ next ∷ below)
    → All IsWritten above
units_above above next below all =
    subst (All IsWritten) (take-append_seam above (next ∷ below))
    (All-take IsWritten (length above) (above ++ next ∷ below) all)

unit_next : (above : List Placed) (next : Placed) (below : List Placed) → All IsWritten (above ++ next ∷ below)
    → IsWritten next
unit_next above next below all =
    All-head IsWritten next below
    (subst (All IsWritten) (drop-append_seam above (next ∷ below))
    (All-drop IsWritten (length above) (above ++ next ∷ below) all))

-- those above it keep the rules, and with it they break one
pub breach_of : (drafts : List Draft) (draft : Draft) (front : List Issue) (issue : Issue) (behind : List Issue)
    (rule : PacketRule) (placed : List Placed)
    → draft.issues ≡ front ++ issue ∷ behind → AreOf drafts draft.issues placed → KeepRules drafts front
    → BreakFirst drafts (front ++ issue ∷ []) rule
    → IsBreachIn drafts issue.line rule draft
breach_of drafts draft front issue behind rule placed is stand keep break =
    let split = split_by drafts front issue behind placed (stand.parts
    ∙ ap (λ (issues : List Issue). map (part_in drafts) issues) is) in
    let above = split.above in
    let next = split.next in
    let units : All IsWritten (above ++ next ∷ split.below) = subst (All IsWritten) split.whole stand.units in
    let front_stand : AreOf drafts front above = record
    { parts = split.fronts; units = units_above above next split.below units } in
    let with_next : AreOf drafts (front ++ issue ∷ []) (above ++ next ∷ []) = record {
      parts = map-append part_of above (next ∷ []) ∙ ap (λ (ps : List Part). ps ++ part_of next ∷ []) split.fronts
          ∙ ap (λ (part : Part). map (part_in drafts) front ++ part ∷ []) split.here
          ∙ sym (map-append (part_in drafts) front (issue ∷ []));
      units = All-push IsWritten above next front_stand.units (unit_next above next split.below units);
    } in
    let same_above : keep.placed ≡ above = same_placed drafts front keep.placed above keep.stand front_stand in
    let same_with : break.placed ≡ above ++ next ∷ [] =
    same_placed drafts (front ++ issue ∷ []) break.placed (above ++ next ∷ []) break.stand with_next in
    record {
      above = above;
      next = next;
      below = split.below;
      stand = subst (AreOf drafts draft.issues) split.whole stand;
      at_line = ap (λ (part : Part). part.line) split.here;
      kept = subst (λ (ps : List Placed). KeepsPacketRules (issued ps)) same_above keep.kept;
      cycle = break.cycle;
      broken = subst (λ (ps : List Placed). IsFirstBroken break.cycle rule ps) same_with break.broken;
    }

-- the same of an instruction of a block that is read, of which so many stand above it
pub breach_at : (drafts : List Draft) (draft : DraftRead) (k : ℕ) (issue : IssueRead) (rule : PacketRule)
    (placed : List Placed)
    → k < length draft.issues.items → issue ≡ get_or draft.issues.items k issue
    → AreOf drafts (draft_of draft).issues placed
    → KeepRules drafts (map issue_of (take k draft.issues.items))
    → BreakFirst drafts (map issue_of (take (k + 1) draft.issues.items)) rule
    → IsBreachIn drafts issue.line rule (draft_of draft)
breach_at drafts draft k issue rule placed lt is stand keep break =
    let items : List IssueRead = draft.issues.items in
    let front : List Issue = map issue_of (take k items) in
    let behind : List Issue = map issue_of (drop (suc k) items) in
    let split : items ≡ take k items ++ issue ∷ drop (suc k) items =
    split_at items k issue lt ∙ ap (λ (i : IssueRead). take k items ++ i ∷ drop (suc k) items) (sym is) in
    let more : take (k + 1) items ≡ take k items ++ issue ∷ [] = take_more items k issue lt
    ∙ ap (λ (i : IssueRead). take k items ++ i ∷ []) (sym is) in
    let whole : map issue_of items ≡ front ++ issue_of issue ∷ behind =
    ap (λ (xs : List IssueRead). map issue_of xs) split
    ∙ map-append issue_of (take k items) (issue ∷ drop (suc k) items) in
    let some : map issue_of (take (k + 1) items) ≡ front ++ issue_of issue ∷ [] =
    ap (λ (xs : List IssueRead). map issue_of xs) more ∙ map-append issue_of (take k items) (issue ∷ []) in
    breach_of drafts (draft_of draft) front (issue_of issue) behind rule placed whole stand keep
    (subst (λ (issues : List Issue). BreakFirst drafts issues rule) some break)

-- of a text it is the first where so many blocks are above its own, which keep the rules
pub first_breach_at : (drafts : List DraftRead) (k : ℕ) (draft : DraftRead) (line : ℕ) (rule : PacketRule)
    → k < length drafts → draft ≡ get_or drafts k draft
    → All (λ other. KeepsRules (map draft_of drafts) (draft_of other)) (take k drafts)
    → IsBreachIn (map draft_of drafts) line rule (draft_of draft)
    → IsFirstBreach (map draft_of drafts) line rule
first_breach_at drafts k draft line rule lt is kept breach =
    let split : drafts ≡ take k drafts ++ draft ∷ drop (suc k) drafts =
    split_at drafts k draft lt ∙ ap (λ (d : DraftRead). take k drafts ++ d ∷ drop (suc k) drafts) (sym is) in
    record {
      front = map draft_of (take k drafts);
      draft = draft_of draft;
      behind = map draft_of (drop (suc k) drafts);
      whole = ap (λ (ds : List DraftRead). map draft_of ds) split
          ∙ map-append draft_of (take k drafts) (draft ∷ drop (suc k) drafts);
      kept = All-map (KeepsRules (map draft_of drafts)) draft_of (take k drafts) kept;
      breach = breach;
    }
