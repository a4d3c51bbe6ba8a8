-- What the head of a block says.
use Rattle.std.proofs.Common.{◌≡◌, ◌∙◌, ℕ, zero, suc, ◌+◌, ◌-◌, ◌^◌, ◌<◌, ◌≤◌, ◌==◌, Bool, true, false, List, [], ◌∷◌}
use Rattle.std.proofs.Common.{◌++◌, map, Option, Some, None, refl, sym, ap, subst, max, arith, cond, get_or}
use Rattle.std.specs.Prelude.{decimal, IfSome, option_map}
use Rattle.std.specs.Int.Digits.{AllBelowBase, digits_of}
use Rattle.std.proofs.lemmas.Int.Digits.{all_below_base_digits_of}
use Rattle.std.proofs.lemmas.Fmt.{decimal_digit, decimal-digits_of}
use Rattle.std.proofs.lemmas.Bool.Decides.{nat_tests}
use Rattle.c62_insn.specs.declared.insn.Insn.{Insn}
use Rattle.c62_read.specs.Block.{Serial}
use Rattle.c62_depend.specs.Plan.{insns_of, IsPlan}
use Rattle.c62_sheet.specs.Lawful.{Spots}
use Rattle.c62_sheet.specs.Counts.{set_length}
use Rattle.c62_raised.specs.Laws.{IsSeatedAcross}
use Rattle.c62_raised.proofs.Bound.{raised_bound_holds}
use Rattle.c62_raised.proofs.Seated.{schedules_across}
use Rattle.c62_raised.proofs.Sharper.{is_sharper}
use Rattle.c62_show.specs.declared.limits.Limits.{Limits}
use Rattle.c62_show.specs.declared.shown.Shown.{Shown}
use Rattle.c62_show.specs.Limits.{AreLimits, least_of}
use Rattle.c62_show.specs.Head.{none_is_shorter, over_bound, verdict, verdict_by}
use Rattle.c62_show.specs.Laws.{HeadIsTrue, HeadIsTrueOfSchedules, BoundIsRaised}
use Rattle.c62_packet.specs.declared.limits.TheConstants.{MOST_CYCLES}

-- ---- the bound

pub bound_is_raised : (block : Serial) (limits : Limits) → BoundIsRaised block limits
bound_is_raised block limits are = record {
  raised = are.raised;
  more = omega arith;
  plain = λ none. omega (arith, none);
  least = λ least is. (let sharper = is_sharper (insns_of block) least limits.raised is are.raised in omega
      (arith, sharper));
}

-- ---- the words

abbrev first_byte : List ℕ → ℕ
first_byte text = get_or text 0 0

-- digits before a space don't begin with an n
no_letter : (ds rest text : List ℕ) → AllBelowBase 10 ds → first_byte rest ≡ 32 → first_byte text ≡ 110
    → map (λ d. 48 + d) ds ++ rest ≡ text → ⊥
no_letter [] rest text small space letter e = let first = ap first_byte e in omega (arith, first, space, letter)
no_letter (d ∷ ds) rest text small space letter e =
    let first : 48 + d ≡ first_byte text = ap first_byte e in
    omega (arith, first, letter, small.0)

no_number : (n : ℕ) (rest text : List ℕ) → n < 2 ^ 64 → first_byte rest ≡ 32 → first_byte text ≡ 110
    → decimal n ++ rest ≡ text → ⊥
no_number zero rest text small space letter e =
    let first : 48 ≡ first_byte text = ap first_byte
    (ap (λ digits. digits ++ rest) (sym (decimal_digit 0 (omega arith))) ∙ e) in
    omega (arith, first, letter)
no_number (suc n) rest text small space letter e =
    no_letter (digits_of 10 (suc n)) rest text (all_below_base_digits_of 10 (suc n) (omega arith)) space letter
    (ap (λ digits. digits ++ rest) (sym (decimal-digits_of (suc n) (omega arith) small)) ∙ e)

told : (b : Bool) (cycles least : ℕ) (rest : List ℕ) → (cycles == least) ≡ b → cycles ≤ MOST_CYCLES
    → first_byte rest ≡ 32
    → cond b none_is_shorter (decimal (cycles - least) ++ rest) ≡ none_is_shorter → cycles ≡ least
told true cycles least rest is small space e = grind (arith, nat_tests, is)
told false cycles least rest is small space e = absurd
    (no_number (cycles - least) rest none_is_shorter (omega (arith, small)) space refl e)

space_first : (least : ℕ) → first_byte (over_bound least) ≡ 32
unfolding over_bound
space_first least = refl

-- a head that tells by how much a block is longer doesn't say that none is shorter
tells_none : (cycles least : ℕ) → cycles ≤ MOST_CYCLES → verdict_by cycles least ≡ none_is_shorter → cycles ≡ least
tells_none cycles least small e = told (cycles == least) cycles least (over_bound least) refl small (space_first least)
    e

least_bounds : (block : Serial) (limits : Option Limits) (set : Spots) (cycles : ℕ) → IfSome limits (AreLimits block)
    → IsPlan (insns_of block)
    → IsSeatedAcross (insns_of block) set cycles → IfSome limits (λ known. least_of known ≤ cycles)
least_bounds block None set cycles are plan seated = tt
least_bounds block (Some limits) set cycles are plan seated =
    let raised = (raised_bound_holds (insns_of block) set cycles plan seated).raised limits.raised are.raised in
    let searched = are.searched set cycles seated.seated in
    omega (arith, raised, searched)

none_by : (limits : Option Limits) (own cycles : ℕ) → own ≤ MOST_CYCLES
    → IfSome limits (λ known. least_of known ≤ cycles)
    → verdict own (option_map least_of limits) ≡ none_is_shorter → own ≤ cycles
none_by None own cycles short bound e = let first : 116 ≡ 110 = ap (λ (word : List ℕ). get_or word 0 0) e in absurd
    (omega (arith, first))
none_by (Some limits) own cycles short bound e = let same = tells_none own (least_of limits) short e in omega
    (arith, same, bound)

pub head_is_true : (block : Serial) (shown : Shown) → HeadIsTrue block shown
head_is_true block shown set cycles sound are plan seated =
    let bound = least_bounds block shown.limits set cycles are plan seated in
    record { bound = bound; none = none_by shown.limits shown.packets.cycles cycles sound.short bound }

pub head_is_true_of_schedules : (block : Serial) (shown : Shown) → HeadIsTrueOfSchedules block shown
head_is_true_of_schedules block shown set sound are plan lawful complete =
    head_is_true block shown set (set_length (insns_of block) set) sound are plan
    (schedules_across (insns_of block) set plan lawful complete)
