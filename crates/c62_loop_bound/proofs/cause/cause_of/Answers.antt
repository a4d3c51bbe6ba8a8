use Rattle.std.proofs.Common.{◌≡◌, ◌∙◌, List, ap, subst}
use Rattle.std.specs.Prelude.{IsTrue}
use Rattle.c62_insn.specs.declared.insn.Insn.{Insn}
use Rattle.c62_read.specs.declared.block.SerialInsn.{SerialInsn}
use Rattle.c62_pair.specs.Uses.{insns_in}
use Rattle.c62_loop.specs.Counter.{work_of}
use Rattle.c62_loop.specs.Whole.{insns_in as insns_of_entries}
use Rattle.c62_loop_match.specs.Parts.{region_of}
use Rattle.c62_loop_match.specs.Promise.{promises}
use Rattle.c62_loop_bound.specs.Cause.{asks}
use Rattle.c62_loop_bound.specs.Least.{body_of}
use Rattle.c62_loop_bound.proofs.Asked.{same_dependences}
use Rattle.c62_loop_bound.proofs.cause.cause_of.Goals as goal

pub returns-in-Some : goal.returns-in-Some
returns-in-Some c =
    let counter = c.args.region.now.counter in
    let body = body_of (region_of c.args.region.now) in
    let work : insns_in c.in_ok-work.work.items ≡ body = c.in_ok-work.ensures.work
    ∙ ap (λ (entries : List SerialInsn). insns_of_entries (work_of counter entries)) c.deref.ensures.value in
    let second : insns_in c.deref-2.result.now ≡ body = ap insns_in c.deref-2.ensures.value ∙ work in
    subst (λ (insns : List Insn). IsTrue (asks counter insns c.args.cycles c.in-Some.share)) second
    (rw c.in-Some.is at c.share_asking.ensures)

pub returns : goal.returns
returns c =
    let promised = promises c.args.promise in
    let counter = c.args.region.now.counter in
    let body = body_of (region_of c.args.region.now) in
    let work : insns_in c.in_ok-work.work.items ≡ body = c.in_ok-work.ensures.work
    ∙ ap (λ (entries : List SerialInsn). insns_of_entries (work_of counter entries)) c.deref.ensures.value in
    let third : insns_in c.deref-3.result.now ≡ body = ap insns_in c.deref-3.ensures.value ∙ work in
    c.circle_asking.ensures promised counter body
    (same_dependences promised body (insns_in c.deref-3.result.now) c.deref-4.result.now
    c.in_ok-dependences.dependences.items third c.deref-4.ensures.value c.in_ok-dependences.ensures)
