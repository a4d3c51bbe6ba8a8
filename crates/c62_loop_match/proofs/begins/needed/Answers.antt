use Rattle.std.proofs.Common.{◌≡◌, true, false, sym, ◌∙◌}
use Rattle.std.proofs.lemmas.Bool.{false≢true}
use Rattle.c62_pair.specs.RegSet.{reg_in}
use Rattle.c62_loop_match.proofs.Starts.{by_result, by_change, by_read, not_asked}
use Rattle.c62_loop_match.proofs.begins.needed.Goals.{else-has-3-via-then-has-3+else-is_written}
use Rattle.c62_loop_match.proofs.begins.needed.Goals.{else-has-3-via-else-has-3}
use Rattle.c62_loop_match.proofs.begins.needed.Goals as goal

pub returns-then-has : goal.returns-then-has
returns-then-has c = by_result c.args.counter c.args.one.now c.args.other.now c.new-uses.result c.new-uses.ensures
    (sym c.has.ensures ∙ c.if-has.true)

pub returns-then-has-2 : goal.returns-then-has-2
returns-then-has-2 c =
    by_change c.args.counter c.args.one.now c.args.other.now c.new-uses.result c.new-uses.ensures
    (sym c.has.ensures ∙ c.if-has.false) (sym c.has-else-has.ensures ∙ c.if-has-2.true)

pub returns-then-is_written : goal.returns-then-is_written
returns-then-is_written c =
    by_read c.args.counter c.args.one.now c.args.other.now c.new-uses.result c.new-uses.ensures
    (sym c.has.ensures ∙ c.if-has.false) (sym c.has-else-has.ensures ∙ c.if-has-2.false)
    (sym c.has-else-has-2.ensures ∙ c.if-has-3.true) (sym c.is_written.ensures ∙ c.if-is_written.true)

pub returns-else-has-3 : goal.returns-else-has-3
returns-else-has-3 c =
    not_asked c.args.counter c.args.one.now c.args.other.now c.new-uses.result c.new-uses.ensures
    (sym c.has.ensures ∙ c.if-has.false) (sym c.has-else-has.ensures ∙ c.if-has-2.false)
    (λ reads steps. elim c.else-has-3.branch [
      | else-has-3-via-then-has-3+else-is_written w ↦ false≢true
          (sym w.if-is_written.false ∙ w.is_written.ensures ∙ steps)
      | else-has-3-via-else-has-3 w ↦ false≢true (sym w.if-has-3.false ∙ c.has-else-has-2.ensures ∙ reads)
    ])
