use Rattle.std.proofs.Common.{◌∙◌}
use Rattle.std.specs.Prelude.{codes}
use Rattle.std.proofs.lemmas.Result.{IfOk-weaker}
use Rattle.c62_json.proofs.Documents.{written}
use Rattle.c62_json_check.proofs.document.judged_text.Goals as goal

pub returns : goal.returns
returns c = IfOk-weaker c.end.result _ _
    (λ text says. written (codes "check") _ _ _ _ text.items
    (c.in_ok-push_members.ensures.1 ∙ c.in_ok-out.ensures.before) c.in_ok-out.ensures.tokens
    c.in_ok-push_members.ensures.0 says)
    c.end.ensures
