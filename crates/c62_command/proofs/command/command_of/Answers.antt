use Rattle.std.proofs.Common.{◌≢◌, ◌∙◌, Some, length, sym, ap, subst, rules}
use Rattle.std.proofs.lemmas.Result.{IfOk-weaker, IfErr-weaker}
use Rattle.c62_command.specs.CommandLine.{IsRefusalIn, ask_in, ask_told}
use Rattle.c62_command.proofs.Asking.{asked-none, asked-taken, refused_in}
use Rattle.c62_command.proofs.command.command_of.Goals as goal

pub returns-then-is_empty-clause-asked : goal.returns-then-is_empty-clause-asked
returns-then-is_empty-clause-asked g c =
    asked-none g.S.AsStr.text c.args.words.now (search rules) ∙ sym (ap Some c.plain_command.ensures)

pub returns-clause-asked : goal.returns-clause-asked
returns-clause-asked g c =
    let some : length c.args.words.now ≢ 0 = search rules in
    IfOk-weaker c.command_in.result _ _
    (λ command asks. asked-taken g.S.AsStr.text c.args.words.now (ask_told command) some c.in_ok-matches.ensures.taken
    (ap ask_in (sym c.in_ok-matches.ensures.ok) ∙ asks))
    c.command_in.ensures.ok

pub returns-clause-refused : goal.returns-clause-refused
returns-clause-refused g c =
    let some : length c.args.words.now ≢ 0 = search rules in
    IfErr-weaker c.command_in.result _ _
    (λ error is. refused_in g.S.AsStr.text c.args.words.now error some c.in_ok-matches.ensures.taken
    (subst (λ found. IsRefusalIn found error) c.in_ok-matches.ensures.ok is))
    c.command_in.ensures.err
