-- Dependences on a branch are direct, or kept by others.
use Rattle.c62_depend.proofs.Common.{◌≡◌, ℕ, zero, suc, ◌<◌, ℤ, pos, ◌-ℤ◌, ◌+ℤ◌, ◌≤ℤ◌, Bool, true, false, List, []}
use Rattle.c62_depend.proofs.Common.{Option, Some, None, refl, sym, ap, ◌∙◌, arith, ints, IsTrue, length, slice_get}
use Rattle.c62_depend.proofs.Common.{Insn, Link, op_of, is_branch, delay_of, BeforeBranch, latency, delay_at, delay_in}
use Rattle.c62_depend.proofs.Common.{All, All-nil, All-cons, All-append, All-weaker, All-contains, none-some, get_or}
use Rattle.c62_depend.proofs.Common.{slice_get_within}
use Rattle.std.proofs.lemmas.List.Folds.{Any-from_list_any}
use Rattle.c62_depend.specs.Direct.{land_behind, linked_if, direct_before}
use Rattle.c62_depend.proofs.Plans.{short_is}
use Rattle.std.proofs.lemmas.Option.{slice_get-get_or}
use Rattle.std.specs.Prelude.{int_le}
unfoldable use Rattle.c62_depend.specs.Direct.{is_direct}
use Rattle.c62_depend.proofs.Relays.{Relay, bound_below}

-- ---- branches

-- a direct dependence on number i of a number before j
pub record IsLinkBefore (block : List Insn) (i j : ℕ) (link : Link) : Type 0 where
  pub after : i < link.number
  pub before : link.number < j
  pub direct : is_direct block i link.number ≡ true
  pub is : latency block i link.number ≡ Some link.latency

pub links_before : (block : List Insn) (i j : ℕ) → All (IsLinkBefore block i j) (direct_before block i j)
unfolding is_direct
links_before block i zero = All-nil (IsLinkBefore block i zero)
links_before block i (suc j) =
    All-append (IsLinkBefore block i (suc j)) (direct_before block i j) _
    (All-weaker (IsLinkBefore block i j) (IsLinkBefore block i (suc j)) (λ link is.
    let low : link.number < j = is.before in
    record { after = is.after; before = omega arith; direct = is.direct; is = is.is }) (direct_before block i j)
    (links_before block i j))
    (last (is_direct block i j) (latency block i j) refl refl)
  where
    last : (t : Bool) (o : Option ℤ) → is_direct block i j ≡ t → latency block i j ≡ o
        → All (IsLinkBefore block i (suc j)) (linked_if t j o)
    last false o e is = All-nil (IsLinkBefore block i (suc j))
    last true None e is = All-nil (IsLinkBefore block i (suc j))
    last true (Some l) e is =
        All-cons (IsLinkBefore block i (suc j)) (record { number = j; latency = l }) []
        (record { after = (short_is block i j l is).before; before = omega arith; direct = e; is = is })
        (All-nil (IsLinkBefore block i (suc j)))

int_le_is : (a b : ℤ) → int_le a b ≡ true → a ≤ℤ b
int_le_is a b h = grind (arith, ints)

pub by_landing : (block : List Insn) (i j : ℕ) (p q : Insn) (b : ℤ) → slice_get block i ≡ Some p
    → slice_get block j ≡ Some q
    → IsTrue (is_branch (op_of q)) → b ≡ pos (delay_of (op_of p)) -ℤ pos 5
    → land_behind block i (direct_before block i j) ≡ true → Relay block i j b
by_landing block i j p q b at_i at_j is e h =
    let w = Any-from_list_any
    (λ (link : Link). int_le (pos (delay_at block i)) (link.latency +ℤ pos (delay_at block link.number)))
    (direct_before block i j) h in
    let link = w.1 in
    let known = All-contains (IsLinkBefore block i j) (direct_before block i j) link (links_before block i j)
    (w.0, w.2, w.3) in
    relay_by link known w.4
  where
    within : j < length block
    within = slice_get_within block j q at_j

    relay_by : (link : Link) → IsLinkBefore block i j link
        → int_le (pos (delay_at block i)) (link.latency +ℤ pos (delay_at block link.number)) ≡ true → Relay block i j b
    relay_by link known late = by_insn (slice_get block link.number) refl
      where
        by_insn : (o : Option Insn) → slice_get block link.number ≡ o → Relay block i j b
        by_insn None at =
            let below : link.number < length block = omega (arith, within, known.before) in
            absurd (none-some (get_or block link.number q) (sym at ∙ slice_get-get_or block link.number q below))
        by_insn (Some k) at =
            let m = bound_below block link.number j (pos (delay_of (op_of k)) -ℤ pos 5) (record {
              first = k;
              second = q;
              is_first = at;
              is_second = at_j;
              before = known.before;
              applies = BeforeBranch is refl;
            }) in
            let high : (pos (delay_of (op_of k)) -ℤ pos 5) ≤ℤ m.0 = m.2 in
            let own : delay_at block i ≡ delay_of (op_of p) = ap delay_in at_i in
            let other : delay_at block link.number ≡ delay_of (op_of k) = ap delay_in at in
            let landed : pos (delay_at block i) ≤ℤ (link.latency +ℤ pos (delay_at block link.number)) = int_le_is _ _
            late in
            record {
              by = link.number;
              after = known.after;
              before = known.before;
              first = link.latency;
              second = m.0;
              is_first = known.is;
              is_second = m.1;
              enough = omega (arith, ints, e, own, other);
            }
