use Rattle.std.proofs.Common.{ap, subst, refl, List}
use mathlib.Core.List.{IsPrefix}
use lib.Dec.{leb}
use Rattle.c62_sheet.specs.declared.entry.Entry.{Entry}
use Rattle.c62_view.proofs.Prefixes.{begins_by_count, begun_by_count}
use Rattle.c62_view.proofs.history.Front.begins.Goals as goal

pub returns-clause-begins : goal.returns-clause-begins
returns-clause-begins c =
    let both = c.learn.new.self.log in
    let mine : IsPrefix c.self.inside.seen.log both = subst (λ (l : List Entry). IsPrefix l both)
    (ap (λ s. s.log) c.again-both.ensures) c.learn.ensures.2 in
    rw (← c.self.view_is, ← c.other.view_is)
    (begins_by_count c.self.inside.count c.other.inside.count c.self.inside.seen.log c.other.inside.seen.log
    both c.self.invariant c.other.invariant mine c.learn.ensures.3
    (leb c.self.inside.count c.other.inside.count) refl)

pub returns-clause-begun : goal.returns-clause-begun
returns-clause-begun c =
    let both = c.learn.new.self.log in
    let mine : IsPrefix c.self.inside.seen.log both = subst (λ (l : List Entry). IsPrefix l both)
    (ap (λ s. s.log) c.again-both.ensures) c.learn.ensures.2 in
    rw (← c.self.view_is, ← c.other.view_is)
    (begun_by_count c.self.inside.count c.other.inside.count c.self.inside.seen.log c.other.inside.seen.log both
    c.self.invariant c.other.invariant mine c.learn.ensures.3 (leb c.self.inside.count c.other.inside.count)
    refl)
