use Rattle.std.proofs.Common.{◌∙◌, ◌∷◌, ◌++◌, [], List, ap, append_assoc}
use Rattle.std.specs.Prelude.{codes}
use Rattle.std.proofs.lemmas.Result.{on_ok_weaker}
use Rattle.json.specs.Token.{Token, key}
use Rattle.c62_json.specs.Document.{text}
use Rattle.c62_op.specs.Name.{register_name}
use Rattle.c62_json_loops.proofs.but.push_reg.Goals as goal

pub returns : goal.returns
returns c =
    on_ok_weaker c.push_register.result (λ e. (
      e.0
          ∙ (ap (λ (front : List Token). front ++ text (register_name c.args.reg) ∷ []) c.in_ok-push_name.ensures.0
          ∙ append_assoc c.args.out.now.tokens (key (codes "register") ∷ []) (text (register_name c.args.reg) ∷ [])),
      e.1 ∙ c.in_ok-push_name.ensures.1,
    ))
    c.push_register.ensures
