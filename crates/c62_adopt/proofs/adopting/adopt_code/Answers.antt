use Rattle.std.proofs.Common.{arith, ◌≡◌, ◌∙◌, List, length, map, sym, ap, subst, Some}
use Rattle.std.specs.Prelude.{All, Vec}
use Rattle.std.specs.declared.alloc.Global.{Global}
use Rattle.std.proofs.lemmas.List.Elements.{All-map}
use Rattle.c62_packet.specs.declared.placed.Placed.{Placed}
use Rattle.std.specs.List.{AllZip}
use Rattle.c62_adopt_cut.specs.declared.draft.Draft.{Draft as DraftRead}
use Rattle.c62_adopt_cut.specs.Drafted.{draft_of, cut_of, refusal_of}
use Rattle.c62_adopt_cut.specs.Flight.{first_in_flight, or_behind}
use Rattle.c62_adopt_cut.specs.Laws.{IsFine}
use Rattle.c62_adopt_cut.specs.Text.{Cut}
use Rattle.c62_adopt.specs.Blocks.{IsBlockOf}
use Rattle.c62_adopt.specs.Breach.{KeepsRules}
use Rattle.c62_adopt.specs.Judged.{AreLawful}
use Rattle.c62_adopt.specs.Packing.{IsSound}
use Rattle.c62_adopt.proofs.PacketsLemmas.{all_keep}
use Rattle.c62_adopt.proofs.SoundLemmas.{cut_few, cut_fine, cut_sound, cut_closed}
use Rattle.c62_adopt.proofs.adopting.adopt_code.Goals as goal
use Rattle.c62_adopt_cut.proofs.OverLemmas.{behind_of}

abbrev HaveLists : List DraftRead → List (Vec Placed Global) → Type 0
HaveLists drafts lists = AllZip (λ draft list. AreLawful (map draft_of drafts) (draft_of draft).issues list.items)
    drafts lists

pub lists_of-requires-clause-few : goal.lists_of-requires-clause-few
lists_of-requires-clause-few c =
    let few = cut_few c.args.isa c.args.code.now c.in_ok-cut.cut c.in_ok-cut.ensures in
    omega (arith, few, ap length c.deref.ensures.value)

pub lists_of-requires-clause-fine : goal.lists_of-requires-clause-fine
lists_of-requires-clause-fine c =
    subst (All (λ (draft : DraftRead). IsFine c.args.isa (draft_of draft))) (sym c.deref.ensures.value)
    (cut_fine c.args.isa c.args.code.now c.in_ok-cut.cut c.in_ok-cut.ensures)

pub packets_of-requires-clause-few : goal.packets_of-requires-clause-few
packets_of-requires-clause-few c =
    let few = cut_few c.args.isa c.args.code.now c.in_ok-cut.cut c.in_ok-cut.ensures in
    omega (arith, few, ap length c.deref-2.ensures.value)

pub packets_of-requires-clause-sound : goal.packets_of-requires-clause-sound
packets_of-requires-clause-sound c =
    let none = (behind_of _ (first_in_flight c.args.drain (cut_of c.in_ok-cut.cut))
    (sym (rw c.in_default.is at c.fault_of.ensures))).1 in
    subst (λ (ds : List DraftRead). All (λ draft. IsSound c.args.isa (map draft_of ds) (draft_of draft)) ds)
    (sym c.deref-2.ensures.value)
    (cut_sound c.args.isa c.args.code.now c.in_ok-cut.cut c.in_ok-cut.ensures c.args.drain none)

pub packets_of-requires-clause-lawful : goal.packets_of-requires-clause-lawful
packets_of-requires-clause-lawful c =
    subst (λ (ds : List DraftRead). HaveLists ds c.in-Ok.lists.items)
    (c.deref.ensures.value ∙ sym c.deref-2.ensures.value) (rw c.in-Ok.is at c.in_ok-lists.ensures)

pub returns-in-Some-clause-adopted : goal.returns-in-Some-clause-adopted
returns-in-Some-clause-adopted c =
    let drafts : List DraftRead = c.in_ok-cut.cut.drafts.items in
    let lists : HaveLists drafts c.in-Ok.lists.items =
    subst (λ (ds : List DraftRead). HaveLists ds c.in-Ok.lists.items) c.deref.ensures.value
    (rw c.in-Ok.is at c.in_ok-lists.ensures) in
    let kept : All (KeepsRules (map draft_of drafts)) (map draft_of drafts) =
    All-map (KeepsRules (map draft_of drafts)) draft_of drafts
    (all_keep (map draft_of drafts) drafts c.in-Ok.lists.items lists) in (
      subst (λ (cut : Cut). All (KeepsRules cut.drafts) cut.drafts) c.in_ok-cut.ensures kept,
      subst (λ (cut : Cut). or_behind cut.fault (first_in_flight c.args.drain cut) ≡ Some (refusal_of c.in-Some.fault))
          c.in_ok-cut.ensures (sym (rw c.in-Some.is at c.fault_of.ensures)),
    )

pub cycles_lacking-requires : goal.cycles_lacking-requires
cycles_lacking-requires c = record { few = cut_few c.args.isa c.args.code.now c.in_ok-cut.cut c.in_ok-cut.ensures }

pub returns-clause-closed : goal.returns-clause-closed
returns-clause-closed c =
    let drafts : List DraftRead = c.in_ok-cut.cut.drafts.items in
    let none = (behind_of _ (first_in_flight c.args.drain (cut_of c.in_ok-cut.cut))
    (sym (rw c.in_default.is at c.fault_of.ensures))).1 in
    let zip : AllZip (IsBlockOf (map draft_of drafts)) (map draft_of drafts) c.in_ok-packets.packets =
    subst (λ (ds : List DraftRead). AllZip (IsBlockOf (map draft_of ds)) (map draft_of ds) c.in_ok-packets.packets)
    c.deref-2.ensures.value
    c.in_ok-packets.ensures in
    cut_closed c.args.isa c.args.code.now c.in_ok-cut.cut c.in_ok-cut.ensures c.args.drain c.in_ok-packets.packets zip
    none
