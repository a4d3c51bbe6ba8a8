-- What is told of a block that belongs to no loop, as an object (docs/JSON.md, "check --loops").
use Rattle.std.specs.Prelude.{ℕ, List, [], None, codes}
use Rattle.json.specs.Token.{Token}
use Rattle.c62_check_rest.specs.declared.verdict.RestVerdict.{RestVerdict}
use Rattle.c62_check_rest.specs.declared.verdict.RestVerdict.TheVariants.{Checked, Faulty, Undrained, Unchecked}
use Rattle.c62_check_rest.specs.Lines.{fault_words}
use Rattle.c62_json_check.specs.Blocks.{told, verdict_object}

unfoldable pub rest_object : (block : ℕ) → RestVerdict → List Token
rest_object block (Checked answer) = verdict_object block answer
rest_object block (Faulty fault) = told block (fault_words fault) None []
rest_object block Undrained = told block (codes "undrained") None []
rest_object block Unchecked = told block (codes "unchecked") None []
