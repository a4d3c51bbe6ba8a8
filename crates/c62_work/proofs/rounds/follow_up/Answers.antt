use Rattle.std.proofs.Common.{◌≡◌, List, ◌++◌, Option, Some, None, IfSome, MatchOption, sym, ap, subst, ◌∙◌}
use Rattle.std.proofs.lemmas.List.{append_assoc}
use mathlib.Core.List.{IsPrefix}
use Rattle.c62_sheet.specs.declared.entry.Entry.{Entry}
use Rattle.c62_work.proofs.rounds.follow_up.Goals as goal

-- what holds in any case holds where something is planned
of_any : {A : Type 0} {P : Type 0} (o : Option A) → P → IfSome o (λ x. P)
of_any None p = tt
of_any (Some x) p = p

at_some : {A : Type 0} (Q : Type 0) (P : A → Type 0) (o : Option A) (x : A) → o ≡ Some x → MatchOption o Q P → P x
at_some {A} Q P o x is h = subst (λ (z : Option A). MatchOption z Q P) is h

pub returns-clause-told : goal.returns-clause-told
returns-clause-told g c =
    let told = at_some _ _ c.in-Ok-default-Some.field-0-1 c.in-Ok-default-Some.told c.in-Ok-default-Some.field-0-1-is
    c.in-Ok-default-Some.ensures.told in
    let learned = c.learn.ensures.told in
    let planned = c.plan.ensures.begins in
    let journal : List Entry = c.commit.new.self.board.journal in
    let here : journal ++ learned.0 ≡ c.learn.new.self.entries = ap (λ (es : List Entry). es ++ learned.0) (sym told.1)
    ∙ learned.1 in
    let begins : IsPrefix journal c.plan.new.self.entries = (
      learned.0 ++ planned.0,
      sym (append_assoc journal learned.0 planned.0)
          ∙ (ap (λ (es : List Entry). es ++ planned.0) here ∙ planned.1),
    ) in
    of_any c.plan.result begins
