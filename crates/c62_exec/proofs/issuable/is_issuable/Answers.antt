use Rattle.std.proofs.Common.{◌≡◌, ◌<◌, ◌≤◌, ◌∙◌, length, get_or, ap, subst, arith}
use Rattle.std.proofs.lemmas.Bool.{ltb-true}
use Rattle.c62_rows.specs.declared.rows.Row.{Row}
use Rattle.c62_exec.specs.Ground.{IsFine}
use Rattle.c62_exec.proofs.Fine.{issuable}
use Rattle.c62_exec.proofs.issuable.is_issuable.Goals as goal

pub returns : goal.returns
returns c = λ t.
    let size : c.len.result ≡ length c.args.rows.now.rows.items = c.len.ensures ∙ c.args.rows.now.rows.ok.0 in
    let small : c.len.result < 4294967296 = ltb-true c.len.result 4294967296 t in
    let same : length c.deref-row-items.result.now ≡ length c.args.rows.now.rows.items = ap length
    c.deref-row-items.ensures.value in
    issuable c.args.rows.now (omega arith)
    (λ k d l. subst (λ items. IsFine (get_or items k d)) c.deref-row-items.ensures.value
    (c.loop-row.invariant k d (omega arith)))
