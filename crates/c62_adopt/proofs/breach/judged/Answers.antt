use Rattle.std.proofs.Common.{arith, ◌<◌, List, length, map, sym, ap, subst}
use Rattle.std.specs.Prelude.{All}
use Rattle.std.proofs.lemmas.List.{length-map}
use Rattle.std.proofs.lemmas.List.Elements.{All-map}
use Rattle.c62_packet.specs.declared.placed.Placed.{Placed}
use Rattle.c62_rules.specs.PacketRules.{KeepsPacketRules}
use Rattle.c62_packet.specs.Fault.{IsFirstBroken}
use Rattle.c62_packet.specs.Packed.{issued, IsInListingOrder}
use Rattle.c62_adopt_cut.specs.Drafted.{issue_of, draft_of}
use Rattle.c62_adopt.specs.Judged.{MayStand}
use Rattle.c62_adopt.proofs.Placing.{as_many_listed, listed_short, found_rule}
use Rattle.c62_adopt.proofs.breach.judged.Goals as goal
use Rattle.c62_packet.specs.declared.limits.TheConstants.{MOST_CYCLES}

pub first_broken-requires-clause-few : goal.first_broken-requires-clause-few
first_broken-requires-clause-few c =
    let many = as_many_listed (map draft_of c.args.drafts.now) (map issue_of c.args.issues.now)
    c.in_ok-placed.placed.items c.in_ok-placed.ensures in
    omega (arith, many, length-map c.args.issues.now issue_of, ap length c.deref.ensures.value, c.requires.few)

pub first_broken-requires-clause-short : goal.first_broken-requires-clause-short
first_broken-requires-clause-short c =
    subst (All (λ (p : Placed). p.cycle < MOST_CYCLES)) (sym c.deref.ensures.value)
    (listed_short (map draft_of c.args.drafts.now) (map issue_of c.args.issues.now) c.in_ok-placed.placed.items
    c.in_ok-placed.ensures
    (All-map MayStand issue_of c.args.issues.now c.requires.stand))

pub first_broken-requires-clause-in_order : goal.first_broken-requires-clause-in_order
first_broken-requires-clause-in_order c = subst IsInListingOrder (sym c.deref.ensures.value)
    c.in_ok-placed.ensures.in_order

pub returns-in-Some : goal.returns-in-Some
returns-in-Some c =
    found_rule (map draft_of c.args.drafts.now) (map issue_of c.args.issues.now) c.in_ok-placed.placed.items
    c.in_ok-placed.ensures
    c.in-Some.field-0-0 c.in-Some.rule
    (subst (λ (listed : List Placed). IsFirstBroken c.in-Some.field-0-0 c.in-Some.rule listed) c.deref.ensures.value
    c.in-Some.ensures)

pub returns-in-None : goal.returns-in-None
returns-in-None c = record {
  are = c.in_ok-placed.ensures;
  kept = subst (λ (listed : List Placed). KeepsPacketRules (issued listed)) c.deref.ensures.value c.in-None.ensures;
}
