-- What a schedule takes of a cycle once one of its instructions is put a cycle earlier.
use Rattle.std.proofs.Common.{arith, ◌≡◌, ℕ, ◌+◌, ◌-◌, ◌<◌, ◌≤◌, List, [], ◌∷◌, ◌++◌, Some, refl, subst, sym}
use Rattle.std.proofs.lemmas.Bool.Decides.{nat_tests}
use Rattle.std.proofs.lemmas.List.Sums.{sum_by-cons}
use Rattle.c62_rules.specs.declared.resource.Resource.{Resource}
use Rattle.c62_rules.specs.Capacity.{uses, uses_in, used}
use Rattle.c62_packet.specs.declared.placed.Placed.{Placed}
use Rattle.c62_packet.specs.Packed.{issue_of, issued}
use Rattle.c62_why.specs.declared.taken.Taken.{Taken}
use Rattle.c62_why.specs.Laws.{earlier, moved, LackingBreaks, EnoughIsKept}

module _ (r : Resource) (one : Placed) (later : 0 < one.cycle) where
  own : uses_in (one.cycle - 1) r (Some (issue_of (earlier one))) ≡ uses r one.insn one.unit
  own = grind (arith, nat_tests)

  none : uses_in (one.cycle - 1) r (Some (issue_of one)) ≡ 0
  none = grind (arith, nat_tests, later)

  pub used_moved : (before behind : List Placed)
      → used r (one.cycle - 1) (issued (moved before one behind)) ≡ used r (one.cycle - 1)
      (issued (before ++ one ∷ behind)) + uses r one.insn one.unit
  used_moved [] behind =
      omega (
        arith,
        sum_by-cons (uses_in (one.cycle - 1) r) (Some (issue_of (earlier one))) (issued behind),
        sum_by-cons (uses_in (one.cycle - 1) r) (Some (issue_of one)) (issued behind),
        own,
        none,
      )
  used_moved (q ∷ before) behind =
      omega (
        arith,
        sum_by-cons (uses_in (one.cycle - 1) r) (Some (issue_of q)) (issued (moved before one behind)),
        sum_by-cons (uses_in (one.cycle - 1) r) (Some (issue_of q)) (issued (before ++ one ∷ behind)),
        used_moved before behind,
      )

pub lacking_breaks : (before behind : List Placed) (one : Placed) (r : Resource) (taken : Taken)
    → LackingBreaks before one behind r taken
lacking_breaks before behind one r taken later lacking =
    record {
      resource = r;
      of_rule = refl;
      over = let over = lacking.over in omega
          (arith, over, used_moved r one later before behind);
    }

pub enough_kept : (before behind : List Placed) (one : Placed) (r : Resource) → EnoughIsKept before one behind r
enough_kept before behind one r later enough = omega (arith, enough, used_moved r one later before behind)
