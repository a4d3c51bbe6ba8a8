use Rattle.std.proofs.Common.{◌≡◌, ◌∙◌, false, map, None, rules, sym}
use Rattle.c62_program.specs.Page.{page_asked}
use Rattle.c62_program.specs.Teaching.{is_topic}
use Rattle.c62_program.specs.Whole.{Page, Topic, Traces}
use Rattle.c62_program.proofs.program.run_with.Goals as goal

pub returns-in-Some : goal.returns-in-Some
returns-in-Some g c = Page c.in-Some.page (sym c.page_asked.ensures ∙ c.in-Some.is) c.print_page-status.ensures

pub returns-then-is_topic : goal.returns-then-is_topic
returns-then-is_topic g c =
    let none : page_asked (map g.S.AsStr.text c.args.words.now) ≡ None = search rules in
    Topic none (search rules) c.run_topic-status.ensures

pub returns-then-is_traced : goal.returns-then-is_traced
returns-then-is_traced g c =
    let words = map g.S.AsStr.text c.args.words.now in
    let none : page_asked words ≡ None = search rules in
    let other : is_topic words ≡ false = search rules in
    Traces none other (sym c.is_traced.ensures ∙ c.if-is_traced.true) c.run_traced.ensures
