use Rattle.std.proofs.Common.{◌≡◌, ◌∙◌, ◌++◌, ◌+◌, ◌-◌, ◌%◌, ◌^◌, ◌<◌, ap, sym, append_assoc, rules}
use Rattle.std.proofs.lemmas.List.{append-nil}
use Rattle.c62_report.specs.Print.{print_line, print_lines}
use Rattle.c62_report.proofs.PrintLemmas.{first_line, no_lines}
use Rattle.c62_report.proofs.print.push_print.Goals as goal

pub loop-left-preserved : goal.loop-left-preserved
loop-left-preserved c =
    let some : 0 < c.loop-left.left = search rules in
    rw (
      c.from-place.ensures,
      c.in_ok-push_line.ensures,
      append_assoc c.loop-left.out.items
          (print_line c.args.state.now.machine c.args.size c.args.signed c.loop-left.place)
          (print_lines c.args.state.now.machine c.args.size c.args.signed (c.loop-left.left - 1)
          ((c.loop-left.place + c.args.size) % 2 ^ 32)),
    )
    (ap (λ xs. c.loop-left.out.items ++ xs)
    (sym (first_line c.args.state.now.machine c.args.size c.args.signed c.loop-left.left c.loop-left.place some))
    ∙ c.loop-left.invariant)

pub returns : goal.returns
returns c =
    let none : c.loop-left.left ≡ 0 = search rules in
    sym (append-nil c.loop-left.out.items)
    ∙ ap (λ xs. c.loop-left.out.items ++ xs)
    (sym (no_lines c.args.state.now.machine c.args.size c.args.signed c.loop-left.left c.loop-left.place none))
    ∙ c.loop-left.invariant
