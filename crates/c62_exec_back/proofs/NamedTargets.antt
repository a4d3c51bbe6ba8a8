-- The labels to which branches go are given, so they are few.
use Rattle.std.proofs.Common.{◌≡◌, ℕ, ◌<◌, true, false, not, List, [], ◌∷◌, ◌++◌, length, Some, refl, sym, ◌∙◌, ap}
use Rattle.std.proofs.Common.{subst, ◌⊎◌, inl, inr, arith, Option, None}
use Rattle.std.specs.List.{list_any}
use Rattle.std.specs.Map.{keys_of}
use Rattle.std.specs.Str.{bytes_eq}
use Rattle.std.proofs.lemmas.Bool.{cases_Bool, false≢true}
use Rattle.std.proofs.lemmas.Bool.Decides.{nat_tests}
use Rattle.std.proofs.lemmas.Map.Made.{is_some-lookup}
use Rattle.std.proofs.lemmas.List.{length-map}
use Rattle.c62_read.specs.Program.{Name, label_is}
use Rattle.c62_packet.specs.Packed.{Packed}
use Rattle.c62_adopt_line.specs.Line.{Line}
use Rattle.c62_adopt_cut.specs.Blocks.{Draft, Drafts, all_drafts}
use Rattle.c62_adopt_cut.specs.Flight.{is_lost}
use Rattle.c62_adopt_cut.specs.Home.{Home, homes_in}
use Rattle.c62_adopt_cut.specs.Laws.{labels_given}
use Rattle.c62_meaning.proofs.Lookup.{In, In-append_cases}
use Rattle.c62_rows.specs.Sound.{IsSound as IsSoundReading}
use Rattle.c62_rows.specs.Reading.{Reading, is_target, with_target, is_given}
use Rattle.c62_exec_back.proofs.Joining.{AreApart, total_ones, total_within}
use Rattle.c62_exec_back.proofs.Pairs.{AreAdopted, of_home}
use Rattle.c62_exec_back.proofs.ReadRows.{AreRows}
use Rattle.c62_exec_back.proofs.Members.{all_in}
use Rattle.c62_exec_back.proofs.LineLabels.{label_any, named_in, in_named, same_names}
use Rattle.c62_adopt_cut.specs.Text.{is_taken}
use Rattle.c62_rows.specs.declared.reader.TheConstants.{MOST_TARGETS}

-- ---- a line more

-- what holds of all that was read
pub record IsFine (given : List Name) (above : List Line) (drafts : Drafts) (reading : Reading) : Type 0 where
  pub rows : AreRows above drafts reading
  pub sound : IsSoundReading reading
  pub apart : AreApart (keys_of reading.targets)
  pub known : (name : Name) → In name (keys_of reading.targets) → In name given

-- naming one label more
pub named_fine : (given : List Name) (target : Name) (number : ℕ) (old : Reading) → AreApart (keys_of old.targets)
    → ((name : Name) → In name (keys_of old.targets) → In name given) → In target given
    → AreApart (keys_of (with_target target number old).targets)
    × ((name : Name) → In name (keys_of (with_target target number old).targets) → In name given)
named_fine given target number old apart known new = elim (cases_Bool (is_target target old)) [
  | inl there ↦ rw there (apart, known)
  | inr other ↦ rw other (
    apart_more (keys_of old.targets) apart (λ h. false≢true (sym (absent other)
        ∙ in_named target (keys_of old.targets) h)),
    λ name h. all_known name
        (In-append_cases name (keys_of old.targets) (target ∷ []) (subst (In name) (keys_more old.targets) h)),
  )
]
  where
    absent : is_target target old ≡ false → list_any (bytes_eq target) (keys_of old.targets) ≡ false
    absent other = sym (is_some-lookup (bytes_eq target) old.targets) ∙ other

    keys_more : (targets : List (Name × ℕ))
        → keys_of (targets ++ (target, number) ∷ []) ≡ keys_of targets ++ target ∷ []
    keys_more [] = refl
    keys_more (x ∷ targets) = ap (λ (names : List Name). x.0 ∷ names) (keys_more targets)

    last_apart : (names : List Name) → AreApart names → (In target names → ⊥) → AreApart (names ++ target ∷ [])
    last_apart [] apart none = (λ y h. absurd h, tt)
    last_apart (x ∷ names) apart none = (
      λ y h same. first x names apart none y (In-append_cases y names (target ∷ []) h) same,
      last_apart names apart.1 (λ h. none (inr h)),
    )
      where
        first : (x : Name) (names : List Name) → AreApart (x ∷ names) → (In target (x ∷ names) → ⊥) → (y : Name)
            → In y names ⊎ In y (target ∷ []) → y ≡ x → ⊥
        first x names apart none y (inl h) same = apart.0 y h same
        first x names apart none y (inr (inl e)) same = none (inl (sym (e ∙ same)))
        first x names apart none y (inr (inr h)) same = h

    apart_more : (names : List Name) → AreApart (keys_of old.targets) → (In target (keys_of old.targets) → ⊥)
        → AreApart (keys_of (old.targets ++ (target, number) ∷ []))
    apart_more names apart none = subst AreApart (sym (keys_more old.targets))
        (last_apart (keys_of old.targets) apart none)

    all_known : (name : Name) → In name (keys_of old.targets) ⊎ In name (target ∷ []) → In name given
    all_known name (inl h) = known name h
    all_known name (inr (inl e)) = subst (λ (n : Name). In n given) e new
    all_known name (inr (inr h)) = absurd h

-- a label to which a branch goes is given
pub target_known : (lines : List Line) (end : ℕ) (blocks : List Draft) (packets : List Packed)
    → AreAdopted lines end blocks packets → (h : Home) (target : Name) → In h (homes_in lines)
    → h.issue.target ≡ Some target → In target (labels_given blocks)
target_known lines end blocks packets are h target there is =
    let r = of_home lines end blocks packets are h there in
    let found : is_lost blocks h.issue.target ≡ false = all_in (λ issue. is_lost blocks issue.target ≡ false)
    r.2.draft.issues h.issue r.2.is.over.found r.2.issue in
    let lost : not (list_any (λ draft. label_is target draft.label) blocks) ≡ false = ap (is_lost blocks) (sym is)
    ∙ found in
    let any : list_any (λ draft. label_is target draft.label) blocks ≡ true = grind (arith, nat_tests, lost) in
    named_in target (labels_given blocks) (sym (label_any target blocks) ∙ any)

-- so they are few
pub few_targets : (given : List Name) (drafts : Drafts) (above : List Line) (old : Reading)
    → length given < MOST_TARGETS
    → IsFine given above drafts old → length old.targets < MOST_TARGETS
few_targets given drafts above old few fine =
    let all = total_within (λ (name : Name). 1) (keys_of old.targets) given fine.apart fine.known in
    let mine = total_ones (keys_of old.targets) in
    let whole = total_ones given in
    let keys = length-map old.targets (λ (target : Name × ℕ). target.0) in
    omega (arith, all, mine, whole, keys, few)

-- a label that no block has is given by no row
pub not_taken : (given : List Name) (above : List Line) (drafts : Drafts) (old : Reading)
    → IsFine given above drafts old → (label : Option Name) → is_taken label drafts ≡ false
    → is_given label old ≡ false
not_taken given above drafts old fine None taken = refl
not_taken given above drafts old fine (Some label) taken =
    is_some-lookup (bytes_eq label) old.labels
    ∙ ap (list_any (bytes_eq label))
    (same_names (all_drafts drafts) old.done old.labels fine.rows.labels)
    ∙ sym (label_any label (all_drafts drafts)) ∙ taken
