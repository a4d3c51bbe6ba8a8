use Rattle.std.proofs.Common.{rules, ◌<◌, ◌≤◌, ◌∙◌, length, refl, sym}
use Rattle.std.proofs.lemmas.Bool.{false≢true}
use Rattle.c62_pipeline.proofs.Lining.{none_stands, other_next, stands_here}
use Rattle.c62_pipeline.proofs.origin.first_in.Goals as goal

pub returns-then-same_but_for_the_unit : goal.returns-then-same_but_for_the_unit
returns-then-same_but_for_the_unit c =
    let entries = c.args.entries.now in
    let entry = c.index-entries-number.result in
    let inside : c.loop-number.number < length entries = search rules in
    stands_here entries c.args.insn.now c.loop-number.number entry entry.line inside c.index-entries-number.is
    (c.same_but_for_the_unit.ensures.0 c.if-same_but_for_the_unit.true) refl

pub loop-number-preserved : goal.loop-number-preserved
loop-number-preserved c =
    let entries = c.args.entries.now in
    let entry = c.index-entries-number.result in
    let inside : c.loop-number.number < length entries = search rules in
    other_next entries c.args.insn.now c.loop-number.number entry c.loop-number.invariant inside
    c.index-entries-number.is
    (λ same. false≢true (sym c.if-same_but_for_the_unit.false ∙ c.same_but_for_the_unit.ensures.1 same))

pub returns : goal.returns
returns c =
    let end : length c.args.entries.now ≤ c.loop-number.number = search rules in
    none_stands c.args.entries.now c.args.insn.now c.loop-number.number c.loop-number.invariant end
