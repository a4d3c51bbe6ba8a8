use Rattle.std.proofs.Common.{◌≡◌, ◌∙◌, ◌+◌, Some, None, sym, rules}
use Rattle.std.specs.Prelude.{◌==◌}
use Rattle.std.specs.List.{position}
use Rattle.std.proofs.lemmas.List.{take_rest}
use Rattle.c62_command.proofs.SettingLemmas.{more_parts, one_part}
use Rattle.c62_command.proofs.setting.first_part.Goals as goal

pub returns-in-Some : goal.returns-in-Some
returns-in-Some c =
    let found : position (λ b. b == 44) c.args.text.now ≡ Some c.in-Some.comma = sym c.comma.ensures ∙ c.in-Some.is in (
      rw (take_rest c.args.text.now (c.in-Some.comma + 1)) (more_parts c.args.text.now c.in-Some.comma found),
      search
          rules,
    )

pub returns-in-None : goal.returns-in-None
returns-in-None c =
    let none : position (λ b. b == 44) c.args.text.now ≡ None = sym c.comma.ensures ∙ c.in-None.is in
    one_part c.args.text.now none
