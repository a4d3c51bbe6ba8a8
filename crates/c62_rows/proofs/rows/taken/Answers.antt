use Rattle.std.proofs.Common.{◌≡◌, ◌++◌, ◌∷◌, [], List, take, take_all, get_or, subst, sym}
use Rattle.std.proofs.lemmas.List.{take_more}
use Rattle.c62_row.specs.Issued.{IsRowOf}
use Rattle.c62_packet.specs.declared.placed.Placed.{Placed}
use Rattle.c62_packet.specs.Packed.{issued}
use Rattle.c62_rows.proofs.Packets.{row_of_push}
use Rattle.c62_rows.proofs.rows.taken.Goals as goal

pub loop-placed-preserved : goal.loop-placed-preserved
loop-placed-preserved c =
    let insns : List Placed = c.args.insns.now in
    let i = c.loop-placed.placed-index in
    let p : Placed = c.placed-item.result in
    let here : p ≡ get_or insns i p = c.placed-item.is in
    let zero : p.cycle ≡ 0 = subst (λ (q : Placed). q.cycle ≡ 0) (sym here) (c.requires i p c.loop-placed-test.true) in
    let pushed : IsRowOf c.add.new.self 0 (issued (take i insns ++ p ∷ [])) =
    row_of_push c.loop-placed.taken c.add.new.self c.of.result p (take i insns) zero c.loop-placed.invariant
    c.of.ensures c.add.ensures in
    subst (λ (all : List Placed). IsRowOf c.add.new.self 0 (issued all))
    (sym (take_more insns i p c.loop-placed-test.true))
    (subst (λ (q : Placed). IsRowOf c.add.new.self 0 (issued (take i insns ++ q ∷ []))) here pushed)

pub returns : goal.returns
returns c =
    let insns : List Placed = c.args.insns.now in
    let whole : take c.loop-placed.placed-index insns ≡ insns = take_all c.loop-placed.placed-index insns
    c.loop-placed-test.false in
    subst (λ (all : List Placed). IsRowOf c.loop-placed.taken 0 (issued all)) whole c.loop-placed.invariant
