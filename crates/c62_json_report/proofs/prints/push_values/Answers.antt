use Rattle.std.proofs.Common.{◌≡◌, ◌∙◌, ◌++◌, ◌+◌, ◌-◌, ◌%◌, ◌^◌, ◌<◌, ap, sym, append_assoc, rules}
use Rattle.std.proofs.lemmas.List.{append-nil}
use Rattle.c62_json_report.specs.Prints.{value, values}
use Rattle.c62_json_report.proofs.Values.{first_value, no_values}
use Rattle.c62_json_report.proofs.prints.push_values.Goals as goal

pub loop-left-preserved : goal.loop-left-preserved
loop-left-preserved c =
    let some : 0 < c.loop-left.left = search rules in (
      rw (c.from-place.ensures, c.in_ok-push_value.ensures.0)
          (append_assoc c.loop-left.out.tokens
          (value c.args.state.now.machine c.bytes-size.result c.args.print.signed c.loop-left.place)
          (values c.args.state.now.machine c.bytes-size.result c.args.print.signed (c.loop-left.left - 1)
          ((c.loop-left.place + c.bytes-size.result) % 2 ^ 32))
          ∙ ap (λ xs. c.loop-left.out.tokens ++ xs)
          (sym (first_value c.args.state.now.machine c.bytes-size.result c.args.print.signed c.loop-left.left
          c.loop-left.place some))
          ∙ c.loop-left.invariant.0),
      c.in_ok-push_value.ensures.1 ∙ c.loop-left.invariant.1,
    )

pub returns : goal.returns
returns c =
    let none : c.loop-left.left ≡ 0 = search rules in (
      sym (append-nil c.loop-left.out.tokens)
          ∙ ap (λ xs. c.loop-left.out.tokens ++ xs)
          (sym (no_values c.args.state.now.machine c.bytes-size.result c.args.print.signed c.loop-left.left
          c.loop-left.place none))
          ∙ c.loop-left.invariant.0
          ∙ ap (λ size. c.args.out.now.tokens
          ++ values c.args.state.now.machine size c.args.print.signed c.args.print.count c.args.print.place)
          c.bytes-size.ensures,
      c.loop-left.invariant.1,
    )
