use Rattle.std.proofs.Common.{◌≡◌, ◌∙◌, ℕ, ◌+◌, sym, ap, subst, rules}
use Rattle.c62_command.specs.Settings.{IsFirstBad}
use Rattle.c62_command.proofs.SettingLemmas.{first_bad, one_more, words}
use Rattle.c62_command.proofs.setting.read_settings.Goals as goal

pub returns-then-not-branch-clause-err : goal.returns-then-not-branch-clause-err
returns-then-not-branch-clause-err c k e =
    let place : c.loop-text.number + 1 ≡ k = cc in
    let same : c.loop-text.text-index + 1 ≡ k = ap (λ (n : ℕ). n + 1) (sym c.loop-text.invariant.1) ∙ place in
    subst (IsFirstBad (words c.args.texts.now)) same
    (first_bad c.base_among-base.result c.args.texts.now c.loop-text.text-index _ c.loop-text.settings.items
    c.push_word.new.settings.items c.base_among-base.ensures (search rules) c.loop-text.invariant.0
    (rw (c.as_bytes.ensures.value, c.if-not-branch.true) at c.in_ok-push_word.ensures))

pub loop-text-preserved : goal.loop-text-preserved
loop-text-preserved c = (
  one_more c.base_among-base.result c.args.texts.now c.loop-text.text-index _ c.loop-text.settings.items
      c.push_word.new.settings.items
      (search rules) c.loop-text.invariant.0
      (rw (c.as_bytes.ensures.value, c.if-not-branch.false) at c.in_ok-push_word.ensures),
  search rules,
)
