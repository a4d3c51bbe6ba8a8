use Rattle.std.proofs.Common.{arith, ◌≡◌, ◌+◌, ◌-◌, ◌/◌, ℕ, List, length, map, take, take_all, sym, subst, rules, ◌∙◌}
use Rattle.std.specs.Prelude.{All, vec_len}
use Rattle.std.proofs.lemmas.List.{length-map}
use Rattle.std.proofs.lemmas.List.Elements.{All-take}
use Rattle.c62_adopt.proofs.Placing.{fine_stand, lawful_keep}
use Rattle.c62_adopt_cut.specs.declared.draft.Issue.{Issue as IssueRead}
use Rattle.c62_adopt_cut.specs.Blocks.{Issue}
use Rattle.c62_adopt_cut.specs.Drafted.{issue_of, draft_of}
use Rattle.c62_adopt.specs.Judged.{MayStand, KeepRules, BreakFirst}
use Rattle.c62_adopt.proofs.Breaches.{none_keep, some_break, breach_at}
use Rattle.c62_adopt.proofs.breach.breach_in.Goals as goal
use Rattle.c62_adopt.proofs.breach.breach_in.Goals.{in-Ok, in-Err}

pub loop-keep-init : goal.loop-keep-init
loop-keep-init c =
    let items : List IssueRead = c.args.draft.now.issues.items in
    let drafts = map draft_of c.args.drafts.now in
    let some = some_break drafts (map issue_of items) c.args.rule c.requires.broken in
    let many = length-map items issue_of in
    let counted : vec_len c.args.draft.now.issues ≡ length items = search rules in
    let all : length items ≡ c.len-breaks.result = sym counted ∙ sym c.len-breaks.ensures in
    let whole : take c.len-breaks.result items ≡ items = take_all c.len-breaks.result items (omega (arith, all)) in
    record {
      order = omega (arith, some, many, all);
      within = omega (arith, all);
      kept = none_keep drafts;
      broken = subst (λ (issues : List IssueRead). BreakFirst drafts (map issue_of issues) c.args.rule) (sym whole)
          c.requires.broken;
    }

pub loop-keep-preserved-after-branch-2 : goal.loop-keep-preserved-after-branch-2
loop-keep-preserved-after-branch-2 c =
    let drafts = map draft_of c.args.drafts.now in
    let at = c.loop-keep in
    let middle : ℕ = at.keep + (at.breaks - at.keep) / 2 in
    let front : List IssueRead → List Issue = λ issues. map issue_of (take middle issues) in
    elim c.match-branch-2.branch [
      | in-Ok w ↦
          let kept = subst (λ (issues : List IssueRead). KeepRules drafts (front issues)) c.deref.ensures.value
          (lawful_keep drafts (front c.deref.result.now) _ (rw w.in-Ok.is at c.in_ok-found.ensures)) in
          rw (w.keep-is, w.breaks-is, w.rule-is) (record {
            order = omega arith;
            within = at.invariant.within;
            kept = kept;
            broken = at.invariant.broken;
          })
      | in-Err w ↦
          let broken = subst (λ (issues : List IssueRead). BreakFirst drafts (front issues) w.in-Err.found)
          c.deref.ensures.value (rw w.in-Err.is at c.in_ok-found.ensures) in
          rw (w.keep-is, w.breaks-is, w.rule-is) (record {
            order = omega arith;
            within = omega (arith, at.invariant.within);
            kept = at.invariant.kept;
            broken = broken;
          })
    ]

pub returns : goal.returns
returns c =
    let items : List IssueRead = c.args.draft.now.issues.items in
    let drafts = map draft_of c.args.drafts.now in
    let next : c.loop-keep.breaks ≡ c.loop-keep.keep + 1 = omega arith in
    let broken : BreakFirst drafts (map issue_of (take (c.loop-keep.keep + 1) items)) c.loop-keep.rule =
    subst (λ (k : ℕ). BreakFirst drafts (map issue_of (take k items)) c.loop-keep.rule) next
    c.loop-keep.invariant.broken in
    breach_at drafts c.args.draft.now c.loop-keep.keep c.index.result.now c.loop-keep.rule c.requires.broken.placed
    (omega arith) c.index.ensures c.requires.broken.stand
    c.loop-keep.invariant.kept broken

pub judged-requires-clause-stand : goal.judged-requires-clause-stand
judged-requires-clause-stand c =
    All-take (λ (issue : IssueRead). MayStand (issue_of issue))
    (c.loop-keep.keep + (c.loop-keep.breaks - c.loop-keep.keep) / 2) c.deref.result.now
    (subst (All (λ (issue : IssueRead). MayStand (issue_of issue))) (sym c.deref.ensures.value)
    (fine_stand c.args.isa c.args.draft.now c.requires.fine))
