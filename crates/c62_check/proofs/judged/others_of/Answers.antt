use Rattle.std.proofs.Common.{rules, ℕ, ◌≤◌, ◌+◌, ◌∙◌, length, sym, subst, Vec, Global}
use Rattle.std.specs.Option.{option_copied}
use Rattle.std.proofs.lemmas.Bool.{false≢true}
use Rattle.c62_check.proofs.Others.{AreOthersBelow, alike_next, all_others, differ_at, got_is, labels_at, other_next}
use Rattle.c62_check.proofs.judged.others_of.Goals as goal
use Rattle.c62_check.proofs.judged.others_of.Goals.{then-not-is_same_block+in_ok-push, else-not-is_same_block}

pub loop-number-preserved : goal.loop-number-preserved
loop-number-preserved c =
    let at = c.loop-number in
    let blocks = c.args.blocks.now in
    let packets = c.args.packets.now in
    let listed = option_copied c.get.result in
    let block = option_copied c.get-in-loop-number.result in
    let one = got_is packets at.number c.get.result c.get.ensures.lookup.0 c.get.ensures.lookup.1 in
    let other = got_is blocks at.number c.get-in-loop-number.result c.get-in-loop-number.ensures.lookup.0
    c.get-in-loop-number.ensures.lookup.1 in
    elim c.if-not-is_same_block.branch [
      | then-not-is_same_block+in_ok-push w ↦ subst
          (λ (others : Vec ℕ Global). AreOthersBelow blocks packets (at.number + 1) others.items) (sym w.others-is)
          (other_next blocks packets at.number at.others.items w.push.new.self.items at.invariant
          (differ_at blocks packets at.number listed block one other
          (λ same. false≢true (sym w.if-not-is_same_block.true ∙ c.is_same_block.ensures.1 same)))
          w.in_ok-push.ensures.items)
      | else-not-is_same_block w ↦ subst
          (λ (others : Vec ℕ Global). AreOthersBelow blocks packets (at.number + 1) others.items) (sym w.others-is)
          (alike_next blocks packets at.number at.others.items at.invariant
          (labels_at blocks packets at.number listed block one other
          (c.is_same_block.ensures.0 w.if-not-is_same_block.false)))
    ]

pub returns : goal.returns
returns c =
    let few : length c.args.blocks.now ≤ c.loop-number.number = search rules in
    let small : length c.args.packets.now ≤ c.loop-number.number = search rules in
    all_others c.args.blocks.now c.args.packets.now c.loop-number.number c.loop-number.others.items
    c.loop-number.invariant few small
