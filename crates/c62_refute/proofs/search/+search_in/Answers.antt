use Rattle.std.proofs.Common.{arith, ◌≡◌, ◌<◌, length, sym, ap, ◌∙◌, subst, Some}
use Rattle.std.specs.Prelude.{slice_set}
use Rattle.std.proofs.lemmas.List.{length-set}
use Rattle.std.proofs.lemmas.Option.{slice_get-get_or}
use Rattle.c62_depend.specs.Plan.{insns_of}
use Rattle.c62_refute.specs.declared.window.Window.{Window as Cycles}
use Rattle.c62_refute.specs.Window.{HoldNone, KeepAll, IsKept}
use Rattle.c62_refute.proofs.Holding.{keep_without, none_before}
use Rattle.c62_refute.proofs.search.+search_in.Goals as goal

pub loop-preserved : goal.loop-preserved
loop-preserved t c =
    let block = insns_of c.args.plan.now in
    let old = c.loop.windows.items in
    let left = c.in-Some.left.items in
    let i = c.in-Some-narrowest.i in
    let kept : IsKept block old left = rw c.in-Some.is at c.in_ok-left.ensures in
    let low : i < length left = omega
    (arith, c.in-Some-narrowest.ensures, ap (length {A = Cycles}) c.deref-in-loop.ensures.value) in
    let out = c.without_end.result in
    let next : c.in_ok-rest.rest.items ≡ slice_set left i out
    = c.in_ok-rest.ensures ∙ ap (λ ws. slice_set ws i out) c.deref-in-loop-3.ensures.value in
    let fixed : c.in_ok-fixed.fixed.items ≡ slice_set left i c.end.result
    = c.in_ok-fixed.ensures ∙ ap (λ ws. slice_set ws i c.end.result) c.deref-in-loop-2.ensures.value in
    let none_fixed : HoldNone block (slice_set left i c.end.result) = subst (HoldNone block) fixed
    (c.in_ok-found.ensures c.in-Refuted.is) in
    let without : KeepAll block left (slice_set left i out)
    = keep_without block left i c.index-window.result.now c.end.result out
    (slice_get-get_or left i c.index-window.result.now low
    ∙ ap Some (sym c.index-window.ensures)) c.end.ensures c.without_end.ensures none_fixed in
    rw next (record {
      sized = length-set left i out ∙ kept.sized;
      none = λ none. c.loop.invariant.none
          (none_before block old left kept.keeps (none_before block left (slice_set left i out) without none));
    })

pub returns-in_default : goal.returns-in_default
returns-in_default t c = λ e. c.loop.invariant.none (rw c.in_default.is at c.in_ok-left.ensures)
