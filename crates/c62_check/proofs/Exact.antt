-- Where a lawful numbering is, the check finds it.
use Rattle.std.proofs.Common.{arith, ◌≡◌, ℕ, ◌<◌, ◌-◌, List, [], ◌∷◌, ◌++◌, length, take, get_or, Some, refl, sym, ap}
use Rattle.std.proofs.Common.{subst, ◌∙◌, inl, inr}
use Rattle.std.specs.List.{slice_get}
use Rattle.std.specs.Prelude.{IsTrue}
use Rattle.std.proofs.Math.Seq.{get_or-append_right}
use Rattle.std.proofs.lemmas.Int.{ints}
use Rattle.std.proofs.lemmas.Bool.{cases_lt}
use Rattle.std.proofs.lemmas.Option.{slice_get-get_or, same_Some, slice_get_within, get_or_from_slice_get}
use Rattle.std.proofs.lemmas.List.{take_all, get_or_append_left, length-append, get_or_default}
use Rattle.std.proofs.lemmas.List.Sorted.{length_permutation, IsPermutation-sym, IsPermutation-trans}
use Rattle.std.proofs.lemmas.List.Sorted.{Contains-permutation}
use Rattle.c62_insn.specs.declared.insn.Insn.{Insn}
use Rattle.c62_insn.specs.Insn.{IsSameInsn}
use Rattle.c62_read.specs.declared.block.SerialInsn.{SerialInsn}
use Rattle.c62_packet.specs.declared.placed.Placed.{Placed}
use Rattle.c62_depend.specs.Plan.{unnumbered, IsPlan}
use Rattle.c62_check.specs.Matched.{AreTaken, AreNumbered, IsMissing, IsExtra}
use Rattle.c62_check.specs.declared.early.Early.{Early}
use Rattle.c62_check.specs.declared.verdict.Verdict.{Verdict}
use Rattle.c62_check.specs.declared.verdict.Verdict.TheVariants.{Same, Missing, Extra, TooEarly}
use Rattle.c62_check.specs.Early.{IsEarly, AreEarly}
use Rattle.c62_check.specs.Verdict.{IsVerdict, IsExact}
use Rattle.c62_read.specs.Block.{Serial, is_block}
use Rattle.c62_depend.proofs.Latencies.{greatest_from}
use Rattle.c62_packet.specs.Packed.{Packed, IsPacketBlock}
use Rattle.c62_check.specs.Schedule.{IsNumbering, IsSchedule, AreDistinct}
use Rattle.c62_check.proofs.Lined.{same_length}
use Rattle.c62_check.proofs.Distinct.{are_distinct}
use Rattle.c62_check.proofs.OneNumbering.{stands_in, later, wide, one_numbering, is_plan}

-- ---- where a lawful numbering is, nothing stands against the packets

front : (xs ys : List SerialInsn) → take (length xs) (xs ++ ys) ≡ xs
front [] ys = refl
front (x ∷ xs) ys = ap (λ (zs : List SerialInsn). x ∷ zs) (front xs ys)

insn_behind : (earlier : List SerialInsn) (entry : SerialInsn) (rest : List SerialInsn)
    → slice_get (unnumbered (earlier ++ entry ∷ rest)) (length earlier) ≡ Some entry.insn
insn_behind [] entry rest = refl
insn_behind (e ∷ earlier) entry rest = insn_behind earlier entry rest

missing_by : (insns : List SerialInsn) (listed numbered : List Placed) (d : Placed) (line : ℕ)
    → IsPlan (unnumbered insns) → AreDistinct listed → IsNumbering insns listed numbered
    → IsMissing insns listed line → ⊥
missing_by insns listed numbered d line plan distinct is missing =
    let n = length missing.earlier in
    let q = get_or numbered n d in
    let all = same_length insns numbered is.same in
    let some = same_length missing.earlier missing.taken missing.are_taken.same in
    let split = ap (λ (es : List SerialInsn). length es) missing.split in
    let sum = length-append missing.earlier (missing.entry ∷ missing.later) in
    let inside : n < length numbered = omega (arith, all, split, sum) in
    let prefix : take n insns ≡ missing.earlier = ap (take n) missing.split
    ∙ front missing.earlier (missing.entry ∷ missing.later) in
    let taken : AreTaken (take n insns) listed missing.taken missing.left = subst
    (λ (es : List SerialInsn). AreTaken es listed missing.taken missing.left) (sym prefix) missing.are_taken in
    let stands = stands_in insns numbered is.same n d inside in
    let at : slice_get (unnumbered insns) n ≡ Some missing.entry.insn =
    subst (λ (es : List SerialInsn). slice_get (unnumbered es) n ≡ Some missing.entry.insn) (sym missing.split)
    (insn_behind missing.earlier missing.entry missing.later) in
    let own : stands.insn ≡ missing.entry.insn = same_Some stands.insn missing.entry.insn (sym stands.at ∙ at) in
    let same : IsSameInsn missing.entry.insn q.insn = subst (λ (x : Insn). IsSameInsn x q.insn) own stands.same in
    let found = Contains-permutation numbered (missing.taken ++ missing.left) q
    (IsPermutation-trans numbered listed (missing.taken ++ missing.left) (IsPermutation-sym listed numbered is.all)
    taken.all) (n, inside, get_or_default numbered n q d inside) in
    let e : get_or (missing.taken ++ missing.left) found.0 d ≡ q = get_or_default (missing.taken ++ missing.left)
    found.0 d q found.1 ∙ found.2 in
    let wide = length-append missing.taken missing.left in
    elim (cases_lt found.0 (length missing.taken)) [
      | inl there ↦
          (let moved : get_or numbered found.0 d ≡ q = sym
          (one_numbering insns listed numbered plan distinct is n missing.taken missing.left taken found.0 d
          there)
          ∙ (sym (get_or_append_left missing.taken missing.left d found.0 there) ∙ e) in
          let equal = distinct numbered is.all found.0 n d (omega (arith, there, some, inside)) inside moved in
          absurd (omega (arith, equal, there, some)))
      | inr past ↦
          absurd (missing.none (found.0 - length missing.taken) d
          (let inside_left = found.1 in omega (arith, inside_left, past, wide))
          (subst (λ (p : Placed). IsSameInsn missing.entry.insn p.insn)
          (sym (sym (get_or-append_right missing.taken missing.left found.0 d past) ∙ e)) same))
    ]

never_missing : (insns : List SerialInsn) (listed numbered : List Placed) (line : ℕ) → IsPlan (unnumbered insns)
    → AreDistinct listed → IsNumbering insns listed numbered
    → IsMissing insns listed line → ⊥
never_missing insns listed [] line plan distinct is missing =
    let all = same_length insns [] is.same in
    let split = ap (λ (es : List SerialInsn). length es) missing.split in
    let sum = length-append missing.earlier (missing.entry ∷ missing.later) in
    absurd (omega (arith, all, split, sum))
never_missing insns listed (d ∷ numbered) line plan distinct is missing = missing_by insns listed (d ∷ numbered) d line
    plan distinct is missing

never_extra : (insns : List SerialInsn) (listed numbered : List Placed) (line : ℕ) → IsNumbering insns listed numbered
    → IsExtra insns listed line → ⊥
never_extra insns listed numbered line is extra =
    let all = same_length insns numbered is.same in
    let some = same_length insns extra.taken extra.are_taken.same in
    let one = length_permutation listed numbered is.all in
    let other = length_permutation listed (extra.taken ++ extra.first ∷ extra.later) extra.are_taken.all in
    let sum = length-append extra.taken (extra.first ∷ extra.later) in
    absurd (omega (arith, all, some, one, other, sum))

moved_at : (xs ys : List Placed) (i : ℕ) (p : Placed) → slice_get xs i ≡ Some p → i < length ys
    → ((d : Placed) → get_or xs i d ≡ get_or ys i d) → slice_get ys i ≡ Some p
moved_at xs ys i p at inside same =
    slice_get-get_or ys i p inside ∙ ap (λ (q : Placed). Some q) (sym (same p) ∙ get_or_from_slice_get xs i p p at)

never_early : (insns : List SerialInsn) (listed numbered own : List Placed) (early : Early) → IsPlan (unnumbered insns)
    → AreDistinct listed → IsNumbering insns listed numbered
    → AreNumbered insns listed own → IsEarly (unnumbered insns) own early → ⊥
never_early insns listed numbered own early plan distinct is are bad =
    let taken : AreTaken (take (length insns) insns) listed own [] = subst
    (λ (es : List SerialInsn). AreTaken es listed own []) (sym (take_all (length insns) insns (omega arith)))
    are in
    let all = same_length insns numbered is.same in
    let some = same_length insns own are.same in
    let behind = bad.behind in
    let one = slice_get_within own bad.first behind.one behind.is_one in
    let other = slice_get_within own early.number behind.other behind.is_other in
    let there = moved_at own numbered bad.first behind.one behind.is_one (omega (arith, one, all, some))
    (λ d. one_numbering insns listed numbered plan distinct is (length insns) own [] taken bad.first d one) in
    let then = moved_at own numbered early.number behind.other behind.is_other (omega (arith, other, all, some))
    (λ d. one_numbering insns listed numbered plan distinct is (length insns) own [] taken early.number d other) in
    let greatest = greatest_from (unnumbered insns) bad.first early.number (Some early.needs) (sym behind.needs) in
    let kept = is.keeps bad.first early.number behind.one behind.other early.needs there then greatest.applies in
    let has = behind.has in
    let late = behind.too_early in
    absurd (omega (arith, ints, kept, has, late))

none_early : (insns : List SerialInsn) (listed numbered own : List Placed) (early : List Early)
    → IsPlan (unnumbered insns) → AreDistinct listed → IsNumbering insns listed numbered
    → AreNumbered insns listed own → AreEarly (unnumbered insns) own early → 0 < length early → ⊥
none_early insns listed numbered own [] plan distinct is are bad some = absurd (omega (arith, some))
none_early insns listed numbered own (early ∷ rest) plan distinct is are bad some =
    never_early insns listed numbered own early plan distinct is are (bad.all 0 early some)

same_by : (block : Serial) (packed : Packed) (verdict : Verdict) → IsTrue (is_block block.insns) → IsPacketBlock packed
    → IsVerdict block packed verdict
    → (numbered : List Placed) → IsNumbering block.insns packed.placed numbered → verdict ≡ Same
same_by block packed Same sound lawful says numbered is = refl
same_by block packed (Missing line) sound lawful says numbered is =
    absurd (never_missing block.insns packed.placed numbered line (is_plan block.insns sound)
    (are_distinct packed.placed lawful.rules) is says)
same_by block packed (Extra line) sound lawful says numbered is = absurd
    (never_extra block.insns packed.placed numbered line is says)
same_by block packed (TooEarly early) sound lawful says numbered is =
    absurd (none_early block.insns packed.placed numbered says.numbered early.items (is_plan block.insns sound)
    (are_distinct packed.placed lawful.rules) is
    says.are_numbered says.are_early says.some)

numbered_by : (block : Serial) (packed : Packed) (verdict : Verdict) → IsVerdict block packed verdict → verdict ≡ Same
    → (numbered : List Placed) × IsNumbering block.insns packed.placed numbered
numbered_by block packed verdict says e =
    let is : IsSchedule block packed = subst (λ (v : Verdict). IsVerdict block packed v) e says in
    (is.numbered, is.numbering)

pub is_exact : (block : Serial) (packed : Packed) (verdict : Verdict) → IsExact block packed verdict
is_exact block packed verdict sound lawful says =
    (numbered_by block packed verdict says, λ found. same_by block packed verdict sound lawful says found.0 found.1)
