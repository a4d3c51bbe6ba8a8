use Rattle.std.proofs.Common.{◌∙◌, append_assoc}
use Rattle.std.specs.Prelude.{codes}
use Rattle.std.proofs.lemmas.Result.{on_ok_weaker}
use Rattle.c62_op.specs.Name.{register_name}
use Rattle.c62_reason.specs.Words.{reason_words}
use Rattle.c62_json_check.proofs.reason.push_reason.Goals as goal

pub returns-in-Overwrites : goal.returns-in-Overwrites
unfolding reason_words
returns-in-Overwrites c =
    rw c.in-Overwrites.is
    (on_ok_weaker c.push_register-in-Overwrites.result (λ e. e
    ∙ append_assoc c.args.words.now.items (codes "overwrites ") (register_name c.in-Overwrites.reg))
    c.push_register-in-Overwrites.ensures)
