-- The lists of dependences.
use Rattle.c62_depend.proofs.Common.{◌≡◌, ℕ, ◌+◌, ◌-◌, ◌*◌, ◌<◌, ◌≤◌, List, [], ◌∷◌, ◌++◌, length, drop, set, get_or}
use Rattle.c62_depend.proofs.Common.{refl, sym, ap}
use Rattle.c62_depend.proofs.Common.{◌∙◌, arith, inl, inr, slice_index, slice_range, cases_eq, cases_lt}
use Rattle.c62_depend.proofs.Common.{length-append, length-map, get_or-set_other, get_or-append_right, get_or-take}
use Rattle.c62_depend.proofs.Common.{get_or-drop, length-take-le, length-drop}
use Rattle.c62_depend.proofs.Common.{get_or-set_at, map-range_with_len_more, length-map-range_with_len, Insn, Link}
use Rattle.c62_depend.proofs.Common.{latency, as_bound, links_of, AreLists, Uses, insns_in}
use Rattle.std.proofs.lemmas.List.{get_or-map, map_push}
use Rattle.std.proofs.Math.ListN.{get_or-append}
use Rattle.smallvec.specs.SmallVec.{SmallVec}
use Rattle.c62_depend.proofs.Latencies.{many_uses}
use Rattle.c62_depend.proofs.Ranges.{list_at}

-- ---- the lists

-- none
pub lists_none : (f : ℕ → List Link) (lists : List (SmallVec Link)) → lists ≡ [] → AreLists f 0 lists
lists_none f lists none = rw none refl

-- a list more
pub lists_more : (f : ℕ → List Link) (count : ℕ) (old new : List (SmallVec Link)) (list : SmallVec Link)
    → AreLists f count old → list.items ≡ f count
    → new ≡ old ++ list ∷ [] → AreLists f (count + 1) new
lists_more f count old new list are is more =
    rw (
      more,
      map_push (λ (l : SmallVec Link). l.items) old list,
      are,
      is,
      map-range_with_len_more f 0 count count
          (omega arith),
    ) refl

pub lists_long : (f : ℕ → List Link) (count : ℕ) (lists : List (SmallVec Link)) → AreLists f count lists
    → length lists ≡ count
lists_long f count lists are =
    sym (length-map lists (λ (l : SmallVec Link). l.items)) ∙ ap length are ∙ length-map-range_with_len f 0 count

-- the list of number i
pub list_is : (f : ℕ → List Link) (count i : ℕ) (lists : List (SmallVec Link)) (list : SmallVec Link)
    → AreLists f count lists → i < count
    → list ≡ get_or lists i list → list.items ≡ f i
list_is f count i lists list are within at =
    list_at f count i (links_of lists) list.items are within
    (ap (λ (l : SmallVec Link). l.items) at
    ∙ sym (get_or-map (λ (l : SmallVec Link). l.items) lists i list list.items
    (rw (lists_long f count lists are) within)))
