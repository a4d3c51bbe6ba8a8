use Rattle.std.proofs.Common.{arith, ◌≡◌, ℕ, length, take, ap, ◌∙◌, sym}
use Rattle.std.specs.Prelude.{◌==◌, if◌then◌else◌}
use Rattle.std.proofs.Math.Seq.{take-length}
use Rattle.std.proofs.lemmas.List.Sums.{sum_by_more}
use Rattle.c62_rules.specs.declared.resource.Resource.{Resource}
use Rattle.c62_rules.specs.Resource.{place_of}
use Rattle.c62_row.specs.Fields.{times_at}
use Rattle.c62_row.proofs.row.Uses.of.Goals as goal

pub loop-resource-preserved : goal.loop-resource-preserved
loop-resource-preserved c = λ place low.
    let own : Resource → ℕ = λ r. if place_of r == place then 1 else 0 in
    let more = sum_by_more own c.as_slice-resource-items.result.now c.loop-resource.resource-index
    c.resource-item.result c.loop-resource-test.true in
    let here = ap own (sym c.resource-item.is) in
    omega (arith, more, here, c.add.ensures place low, c.loop-resource.invariant place low)

pub returns : goal.returns
returns c = λ place low.
    let items = c.as_slice-resource-items.result.now in
    let all : c.loop-resource.resource-index ≡ length items = omega
    (arith, c.loop-resource-test.false, c.loop-resource.auto) in
    let whole : take c.loop-resource.resource-index items ≡ items = ap (λ (n : ℕ). take n items) all
    ∙ take-length items in
    c.loop-resource.invariant place low
    ∙ ap (times_at place) (whole ∙ c.as_slice-resource-items.ensures.value ∙ c.taken_by.ensures)
