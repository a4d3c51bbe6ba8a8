use Rattle.std.proofs.Common.{◌∙◌, ◌∷◌, ◌++◌, [], List, ap, append_assoc}
use Rattle.std.specs.Prelude.{codes}
use Rattle.std.proofs.lemmas.Result.{on_ok_weaker}
use Rattle.json.specs.Token.{Token, key}
use Rattle.c62_json.specs.Document.{array}
use Rattle.c62_json_loops.specs.Loops.{register_values, registers_member}
use Rattle.c62_json_loops.proofs.but.push_registers.Goals as goal

pub returns : goal.returns
unfolding registers_member
returns c =
    on_ok_weaker c.push_all.result (λ e. (
      e.0
          ∙ (ap (λ (front : List Token). front ++ array (register_values c.args.but)) c.in_ok-push_name.ensures.0
          ∙ append_assoc c.args.out.now.tokens (key (codes "registers") ∷ []) (array (register_values c.args.but))),
      e.1 ∙ c.in_ok-push_name.ensures.1,
    ))
    c.push_all.ensures
