-- What a stream got, piece by piece.
use Rattle.std.proofs.Common.{◌≡◌, ℕ, zero, suc, ◌+◌, ◌-◌, ◌≤◌, List, [], ◌∷◌, ◌++◌, length, take}
use Rattle.std.proofs.Common.{drop, Option, Some, None, Ok, Err, refl, sym, ap, subst, ◌∙◌, arith, append-nil, append_assoc}
use Rattle.std.specs.Io.KnownBytes.{Appends, Keeps}
use Rattle.std.proofs.KnownBytes.{Appends-kept, Appends-trans}
use Rattle.std.proofs.Math.Seq.{take-add}
use Rattle.std.proofs.lemmas.List.{take_all, take_rest}
use Rattle.c62_trace.specs.declared.offering.Refused.{Refused}
use Rattle.c62_trace.specs.Stream.{Sent, IsTold, TellsMore}

-- ---- one text

-- what was told is the front of the text
pub record Front (old new : Option (List ℕ)) (text : List ℕ) (told : ℕ) : Type 0 where
  pub within : told ≤ length text
  pub front : Appends old new (take told text)

-- a piece more
pub front_more : (old mid new : Option (List ℕ)) (text : List ℕ) (told count : ℕ) → told + count ≤ length text
    → Front old mid text told
    → Appends mid new (take count (take (length text - told) (drop told text))) → Front old new text (told + count)
front_more old mid new text told count within so_far more =
    let piece : take count (take (length text - told) (drop told text)) ≡ take count (drop told text) = ap (take count)
    (take_rest text told) in
    let next : Appends mid new (take count (drop told text)) = subst (Appends mid new) piece more in
    record {
      within = within;
      front = subst (Appends old new) (sym (take-add told count text))
          (Appends-trans old mid new (take told text) (take count (drop told text)) so_far.front next);
    }

-- all was told
pub front_whole : (old new : Option (List ℕ)) (text : List ℕ) (told : ℕ) → length text ≤ told → Front old new text told
    → Appends old new text
front_whole old new text told all so_far = subst (Appends old new) (take_all told text all) so_far.front

-- the next was refused
pub front_kept : (refused : Refused) (old mid new : Option (List ℕ)) (text : List ℕ) (told : ℕ)
    → Front old mid text told → Keeps mid new → IsTold (Err refused) old new text
front_kept refused old mid new text told so_far kept = (told, Appends-kept old mid new (take told text) so_far.front kept)

-- ---- several texts

pub none_told : (old : Option (List ℕ)) → Appends old old []
none_told None = tt
none_told (Some held) = sym (append-nil held)

take_behind : (text more : List ℕ) (count : ℕ) → take (length text + count) (text ++ more) ≡ text ++ take count more
take_behind [] more count = let same : 0 + count ≡ count = omega arith in ap (λ (n : ℕ). take n more) same
take_behind (b ∷ text) more count =
    let next : length (b ∷ text) + count ≡ suc (length text + count) = omega arith in
    ap (λ (n : ℕ). take n (b ∷ (text ++ more))) next ∙ ap (λ (rest : List ℕ). b ∷ rest) (take_behind text more count)

take_within : (text more : List ℕ) (count : ℕ) → take (length (take count text)) (text ++ more) ≡ take count text
take_within [] more zero = refl
take_within [] more (suc count) = refl
take_within (b ∷ text) more zero = refl
take_within (b ∷ text) more (suc count) = ap (λ (rest : List ℕ). b ∷ rest) (take_within text more count)

-- what follows on a text that was told whole
pub told_more : (done : Unit {0}) (after : Sent) (middle new : Option (List ℕ)) (more : List ℕ)
    → IsTold after middle new more → TellsMore (Ok done) after middle new more
told_more done (Ok all) middle new more told old text before = Appends-trans old middle new text more before told
told_more done (Err refused) middle new more told old text before = (
  length text + told.0,
  subst (Appends old new) (sym (take_behind text more told.0))
      (Appends-trans old middle new text (take told.0 more) before told.1),
)

-- a front of a text is one of it with more behind it
pub told_no_more : (refused : Refused) (middle : Option (List ℕ)) (more : List ℕ)
    → TellsMore (Err refused) (Err refused) middle middle more
told_no_more refused middle more old text before =
    (length (take before.0 text), subst (Appends old middle) (sym (take_within text more before.0)) before.1)

-- one text behind another, and nothing
pub tells_on : (before mid after : Sent) (old middle new : Option (List ℕ)) (text more : List ℕ)
    → TellsMore before mid old middle text → TellsMore mid after middle new more
    → TellsMore before after old new (text ++ more)
tells_on before mid after old middle new text more first second held told is =
    subst (IsTold after held new) (append_assoc told text more) (second held (told ++ text) (first held told is))

pub tells_none : (whole : Sent) (old : Option (List ℕ)) → TellsMore whole whole old old []
tells_none whole old held told is = subst (IsTold whole held old) (sym (append-nil told)) is
