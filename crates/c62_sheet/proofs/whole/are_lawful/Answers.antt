use Rattle.c62_sheet.proofs.Common.{arith, ◌≡◌, ◌+◌, ◌-◌, ◌<◌, List, length, get_or, Option, Some, ◌∙◌, refl}
use Rattle.c62_sheet.proofs.Common.{length-set, take-set-lt, take}
use Rattle.c62_sheet.proofs.Common.{false≢true, Insn, insns_of, many_insns, Spot, None, take-replicate}
use Rattle.c62_sheet.proofs.Empty.{lawful_empty}
use Rattle.c62_sheet.proofs.Optional.{some_is}
use Rattle.c62_sheet.proofs.Sets.{any_spot}
use Rattle.c62_sheet.proofs.Prefix.{upto_more, upto_all, upto_none, lawful_upto}
use Rattle.c62_sheet.proofs.Placing.{within_from_lawful}
use Rattle.c62_sheet.proofs.RowsOf.{rows_of_copies}
use Rattle.c62_sheet.proofs.whole.are_lawful.Goals as goal
use Rattle.c62_read.specs.declared.limits.TheConstants.{MOST_INSTRUCTIONS}

pub loop-i-init : goal.loop-i-init
loop-i-init c =
    let count : c.from-count.result ≡ length (insns_of c.args.plan.now) = omega (arith, many_insns) in
    let front = take-replicate {X = Option Spot} c.from-count.result MOST_INSTRUCTIONS None
    (omega (arith, count, c.len.ensures.sound.few)) in
    record {
      sized = refl;
      upto = rw front (upto_none _ _ (omega (arith, c.if-spots-count.false)));
      lawful = rw (front, count) (lawful_empty (insns_of c.args.plan.now));
      rows = rw (front, count)
          (rows_of_copies (insns_of c.args.plan.now) c.new-rows.result 1280
          (omega (arith, many_insns, c.len.ensures.sound.few)) c.new-rows.ensures);
    }

pub is_lawful_with-requires-clause-ready : goal.is_lawful_with-requires-clause-ready
is_lawful_with-requires-clause-ready c = record {
  free = c.loop-i.invariant.upto.outside c.loop-i.i (omega arith);
  founded = λ h depends. some_is _ _ (c.loop-i.invariant.upto.inside h any_spot depends.1.before);
}

pub returns-then-not-is_lawful_with : goal.returns-then-not-is_lawful_with
returns-then-not-is_lawful_with c =
    let block : List Insn = insns_of c.args.plan.now in
    let sized : length c.args.spots.now ≡ length block = omega (arith, many_insns, c.if-spots-count.false) in
    let more = upto_more _ _ _ _ (omega (arith, many_insns, sized)) c.from.ensures c.loop-i.invariant.upto in (
      λ e. absurd (false≢true e),
      λ whole. c.if-not-is_lawful_with.ensures.1
          (lawful_upto block _ sized whole (length block - (c.loop-i.i + 1)) (c.loop-i.i + 1) _
          (omega (arith, many_insns)) more),
    )

pub take-requires-clause-within : goal.take-requires-clause-within
take-requires-clause-within c =
    let block : List Insn = insns_of c.args.plan.now in
    within_from_lawful block (take c.from-count.result c.loop-i.set) c.loop-i.i
    (get_or c.args.spots.now c.from.result any_spot)
    (omega (arith, many_insns, c.loop-i.invariant.lawful.sized)) (c.if-not-is_lawful_with.ensures.0 refl)

pub loop-i-preserved : goal.loop-i-preserved
loop-i-preserved c =
    let within : c.loop-i.i < c.from-count.result = omega arith in
    let put = take-set-lt c.from-count.result c.loop-i.set c.loop-i.i
    (Some (get_or c.args.spots.now c.from.result any_spot)) within in
    record {
      sized = length-set c.loop-i.set _ _ ∙ c.loop-i.invariant.sized;
      upto = rw (c.from-in-loop-i.ensures, put) (upto_more _ _ _ _
          (omega (arith, within, c.if-spots-count.false)) c.from.ensures c.loop-i.invariant.upto);
      lawful = rw (c.from-in-loop-i.ensures, put) (c.if-not-is_lawful_with.ensures.0 refl);
      rows = rw (c.from-in-loop-i.ensures, put) c.take.ensures;
    }

pub returns : goal.returns
returns c = (
  λ _. rw (upto_all _ _ c.loop-i.i (omega (arith, many_insns, c.if-spots-count.false)) c.loop-i.invariant.upto) at
      c.loop-i.invariant.lawful,
  λ _. refl,
)
