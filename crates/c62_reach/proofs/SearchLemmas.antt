-- The search marks the parts that are reached, and no others.
use Rattle.std.proofs.Common.{◌≡◌, ◌⊎◌, ◌<◌, ◌≤◌, ◌+◌, ◌*◌, ◌∙◌, ℕ, Bool, true, false, List, [], ◌∷◌, ◌++◌, length, map}
use Rattle.std.proofs.Common.{get_or, replicate, refl, sym, ap, subst, inl, inr, ⊎_elim, arith, length-append}
use Rattle.std.proofs.Common.{true≢false}
use Rattle.std.proofs.lemmas.Bool.{cases_lt}
use Rattle.std.proofs.lemmas.List.{get_or_past, get_or-replicate, length-map, length-replicate}
use Rattle.c62_reach.specs.declared.part.Part.{Part as PartRead}
use Rattle.c62_reach.specs.Part.{Part}
use Rattle.c62_reach.specs.PartRead.{part_read}
use Rattle.c62_reach.specs.Reach.{IsAmong, IsMarked, IsReached, start, more, Leads, Marks, leads_from, leads_of}
use Rattle.c62_reach.specs.Reach.{no_part}
use Rattle.c62_reach.specs.Search.{Found, marked, all_marked, none_found}
use Rattle.c62_reach.proofs.Graph.{Grows, unmarked, grown_marked, is_marked, grown_all, all_are, among_front}
use Rattle.c62_reach.proofs.Graph.{among_last, among_pushed}

abbrev pub IsClosed : List Part → List Bool → ℕ → Type 0
IsClosed parts marks j = (k : ℕ) → Leads parts j k → k < length parts → IsMarked marks k

-- what is marked or waits is reached, and what is marked waits or leads to nothing that isn't marked
pub record IsSearch (parts : List Part) (first : ℕ) (found : Found) : Type 0 where
  pub len : length found.marks ≡ length parts
  pub sound : (k : ℕ) → IsMarked found.marks k → IsReached parts first k
  pub reached : (k : ℕ) → IsAmong k found.waiting → IsReached parts first k
  pub begun : IsMarked found.marks first
  pub closed : (k : ℕ) → IsMarked found.marks k → IsAmong k found.waiting ⊎ IsClosed parts found.marks k

-- ---- the beginning

none_marked : (n k : ℕ) → IsMarked (replicate n false) k → ⊥
none_marked n k h = ⊎_elim
    (λ (inside : k < n). true≢false (sym h ∙ get_or-replicate n k false false inside))
    (λ (past : n ≤ k). true≢false (sym h
    ∙ get_or_past (replicate n false) k false (subst (λ (m : ℕ). m ≤ k) (sym (length-replicate n false)) past)))
    (cases_lt k n)

pub search_begins : (parts : List Part) (first : ℕ) → first < length parts
    → IsSearch parts first (marked first (none_found (length parts)))
search_begins parts first inside =
    let n = length parts in
    let grows = grown_marked first (none_found n) in
    let len = length-replicate n false in
    let Is : (k : ℕ) → k ≡ first → IsReached parts first k = λ k same. subst (IsReached parts first) (sym same) start in
    record {
      len = grows.len ∙ len;
      sound = λ k h. ⊎_elim (λ old. absurd (none_marked n k old)) (λ new. Is k new.0) (grows.only k h);
      reached = λ k h. ⊎_elim (λ none. absurd none) (Is k) (grows.so k h);
      begun = is_marked first (none_found n) (subst (λ (m : ℕ). first < m) (sym len) inside);
      closed = λ k h. ⊎_elim (λ old. absurd (none_marked n k old)) (λ new. inl new.1) (grows.only k h);
    }

pub search_begun : (parts : List PartRead) (first : ℕ) (old new : Found) → first < length parts
    → old ≡ none_found (length parts) → new ≡ marked first old
    → IsSearch (map part_read parts) first new
search_begun parts first old new inside none is =
    let len : length (map part_read parts) ≡ length parts = length-map parts part_read in
    let found : new ≡ marked first (none_found (length (map part_read parts))) =
    is ∙ ap (marked first) (none ∙ ap none_found (sym len)) in
    subst (IsSearch (map part_read parts) first) (sym found)
    (search_begins (map part_read parts) first (subst (λ (n : ℕ). first < n) (sym len) inside))

-- ---- a step

-- without the part that waited last
abbrev pub taken_out : List ℕ → Found → Found
taken_out rest found = record { marks = found.marks; waiting = rest }

pub search_goes_on : (parts : List Part) (first j : ℕ) (rest : List ℕ) (found : Found) → IsSearch parts first found
    → found.waiting ≡ rest ++ j ∷ []
    → IsSearch parts first (all_marked (leads_from parts j) (taken_out rest found))
search_goes_on parts first j rest found is last =
    let old = taken_out rest found in
    let new = all_marked (leads_from parts j) old in
    let grows = grown_all (leads_from parts j) old in
    let there : IsReached parts first j = is.reached j (subst (IsAmong j) (sym last) (among_last j rest)) in
    record {
      len = grows.len ∙ is.len;
      sound = λ k h. ⊎_elim (is.sound k) (λ led. more j k there led.0) (grows.only k h);
      reached = λ k h. ⊎_elim
          (λ waited. is.reached k (subst (IsAmong k) (sym last) (among_front k rest (j ∷ []) waited)))
          (λ led. more j k there led) (grows.so k h);
      begun = grows.kept first is.begun;
      closed = λ k h. ⊎_elim
          (λ marked_before. ⊎_elim
          (λ waited. ⊎_elim
          (λ (waits : IsAmong k rest). inl (grows.waits k waits))
          (λ (same : k ≡ j). inr (subst (IsClosed parts new.marks) (sym same)
          (λ i led inside. all_are (leads_from parts j) old i led (subst (λ (m : ℕ). i < m) (sym is.len) inside))))
          (among_pushed k j rest (subst (IsAmong k) last waited)))
          (λ (closed : IsClosed parts found.marks k). inr (λ i led inside. grows.kept i (closed i led inside)))
          (is.closed k marked_before))
          (λ led. inl led.1) (grows.only k h);
    }

pub less_left : (parts : List Part) (j : ℕ) (rest : List ℕ) (found : Found) → found.waiting ≡ rest ++ j ∷ []
    → 2 * unmarked (all_marked (leads_from parts j) (taken_out rest found)).marks + length
    (all_marked (leads_from parts j) (taken_out rest found)).waiting
    < 2 * unmarked found.marks + length found.waiting
less_left parts j rest found last =
    let len : length found.waiting ≡ length rest + 1 = ap length last ∙ length-append rest (j ∷ []) in
    omega (arith, (grown_all (leads_from parts j) (taken_out rest found)).left)

-- ---- the end

-- no part is there that leads to none
pub leads_inside : (parts : List Part) (j k : ℕ) → Leads parts j k → j < length parts
leads_inside parts j k leads = ⊎_elim (λ (inside : j < length parts). inside)
    (λ (past : length parts ≤ j). absurd
    (subst (λ (part : Part). IsAmong k (leads_of parts j part)) (get_or_past parts j no_part past) leads))
    (cases_lt j (length parts))

complete : (parts : List Part) (first : ℕ) (found : Found) → IsSearch parts first found → found.waiting ≡ [] → (k : ℕ)
    → IsReached parts first k → k < length parts
    → IsMarked found.marks k
complete parts first found is none k start inside = is.begun
complete parts first found is none k (more j _ reached leads) inside = ⊎_elim
    (λ (waits : IsAmong j found.waiting). absurd (subst (IsAmong j) none waits))
    (λ (closed : IsClosed parts found.marks j). closed k leads inside)
    (is.closed j (complete parts first found is none j reached (leads_inside parts j k leads)))

pub search_ends : (parts : List Part) (first : ℕ) (found : Found) → IsSearch parts first found → found.waiting ≡ []
    → Marks parts first found.marks
search_ends parts first found is none = record {
  len = is.len;
  reached = λ k inside. (is.sound k, λ reached. complete parts first found is none k reached inside);
}
