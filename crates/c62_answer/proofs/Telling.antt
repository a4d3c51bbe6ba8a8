-- A text that is told piece by piece.
use Rattle.std.proofs.Common.{◌≡◌, ℕ, zero, suc, ◌+◌, ◌-◌, ◌≤◌, ◌<◌, get_or, List, [], ◌∷◌, ◌++◌, length, take, drop}
use Rattle.std.proofs.Common.{take-append-drop, Option, Some, None, refl, sym, ap, subst, ◌∙◌, arith, append-nil}
use Rattle.std.specs.Io.KnownBytes.{Appends, Keeps}
use Rattle.std.proofs.KnownBytes.{Appends-kept, Appends-trans}
use Rattle.std.proofs.Math.Seq.{take-add}
use Rattle.std.proofs.lemmas.List.{take_all, take_more, take_rest}
use Rattle.std.proofs.lemmas.List.Concat.{flat_map-append}
use Rattle.c62_answer.specs.Message.{Tells, joined}
use denote.Ref.{Bor}

-- ---- one text

-- what was told is the front of the text
pub record Front (old new : Option (List ℕ)) (text : List ℕ) (told : ℕ) : Type 0 where
  pub within : told ≤ length text
  pub front : Appends old new (take told text)

-- a piece more
pub front_more : (old mid new : Option (List ℕ)) (text : List ℕ) (told count : ℕ) → told + count ≤ length text
    → Front old mid text told
    → Appends mid new (take count (take (length text - told) (drop told text))) → Front old new text (told + count)
front_more old mid new text told count within so_far more =
    let piece : take count (take (length text - told) (drop told text)) ≡ take count (drop told text) = ap (take count)
    (take_rest text told) in
    let next : Appends mid new (take count (drop told text)) = subst (Appends mid new) piece more in
    record {
      within = within;
      front = subst (Appends old new) (sym (take-add told count text))
          (Appends-trans old mid new (take told text) (take count (drop told text)) so_far.front next);
    }

-- all was told
pub front_whole : (old new : Option (List ℕ)) (text : List ℕ) (told : ℕ) → length text ≤ told → Front old new text told
    → Appends old new text
front_whole old new text told all so_far = subst (Appends old new) (take_all told text all) so_far.front

-- nothing more was taken
pub front_kept : (old mid new : Option (List ℕ)) (text : List ℕ) (told : ℕ) → Front old mid text told → Keeps mid new
    → Tells old new text
front_kept old mid new text told so_far kept = (told, Appends-kept old mid new (take told text) so_far.front kept)

-- ---- several texts

pub none_told : (old : Option (List ℕ)) → Appends old old []
none_told None = tt
none_told (Some held) = sym (append-nil held)

pub kept_told : (old mid new : Option (List ℕ)) (text : List ℕ) → Keeps old mid → Appends mid new text
    → Appends old new text
kept_told None mid new text kept told = tt
kept_told (Some held) None new text kept told = absurd kept
kept_told (Some held) (Some same) None text kept told = absurd told
kept_told (Some held) (Some same) (Some more) text kept told = told ∙ ap (λ (bytes : List ℕ). bytes ++ text) kept

take_behind : (text more : List ℕ) (count : ℕ) → take (length text + count) (text ++ more) ≡ text ++ take count more
take_behind [] more count = let same : 0 + count ≡ count = omega arith in ap (λ (n : ℕ). take n more) same
take_behind (b ∷ text) more count =
    let next : length (b ∷ text) + count ≡ suc (length text + count) = omega arith in
    ap (λ (n : ℕ). take n (b ∷ (text ++ more))) next ∙ ap (λ (rest : List ℕ). b ∷ rest) (take_behind text more count)

take_within : (text more : List ℕ) (count : ℕ) → take (length (take count text)) (text ++ more) ≡ take count text
take_within [] more zero = refl
take_within [] more (suc count) = refl
take_within (b ∷ text) more zero = refl
take_within (b ∷ text) more (suc count) = ap (λ (rest : List ℕ). b ∷ rest) (take_within text more count)

-- a front of what follows on a text is one of both
pub told_behind : (old mid new : Option (List ℕ)) (text more : List ℕ) → Appends old mid text → Tells mid new more
    → Tells old new (text ++ more)
told_behind old mid new text more told front = (
  length text + front.0,
  subst (Appends old new) (sym (take_behind text more front.0))
      (Appends-trans old mid new text (take front.0 more) told front.1),
)

-- and so is a front of the first
pub told_first : (old new : Option (List ℕ)) (text more : List ℕ) → Tells old new text → Tells old new (text ++ more)
told_first old new text more front =
    (length (take front.0 text), subst (Appends old new) (sym (take_within text more front.0)) front.1)

-- what is told whole is told
pub whole_told : (old new : Option (List ℕ)) (text : List ℕ) → Appends old new text → Tells old new text
whole_told old new text told =
    (length text, subst (Appends old new) (sym (take_all (length text) text (omega arith))) told)

-- ---- pieces

one_piece : (pieces : List (Bor (List ℕ))) (k : ℕ) (d : Bor (List ℕ)) → k < length pieces
    → joined (take (k + 1) pieces) ≡ joined (take k pieces) ++ (get_or pieces k d).now
one_piece pieces k d inside =
    ap joined (take_more pieces k d inside)
    ∙ flat_map-append (λ (each : Bor (List ℕ)). each.now) (take k pieces) (get_or pieces k d ∷ [])
    ∙ ap (λ (rest : List ℕ). joined (take k pieces) ++ rest) (append-nil (get_or pieces k d).now)

-- a front of the first pieces is one of all
told_of_first : (old new : Option (List ℕ)) (pieces : List (Bor (List ℕ))) (k : ℕ)
    → Tells old new (joined (take k pieces)) → Tells old new (joined pieces)
told_of_first old new pieces k front =
    subst (Tells old new) (sym (flat_map-append (λ (each : Bor (List ℕ)). each.now) (take k pieces) (drop k pieces))
    ∙ ap joined (take-append-drop k pieces))
    (told_first old new (joined (take k pieces)) (joined (drop k pieces)) front)

-- the first pieces were told, and of the next one a front
pub cut_off : (old mid new : Option (List ℕ)) (pieces : List (Bor (List ℕ))) (k : ℕ) (d : Bor (List ℕ)) (piece : List ℕ)
    → k < length pieces
    → piece ≡ (get_or pieces k d).now → Appends old mid (joined (take k pieces)) → Tells mid new piece
    → Tells old new (joined pieces)
cut_off old mid new pieces k d piece inside is told front =
    let behind : Tells old new (joined (take k pieces) ++ (get_or pieces k d).now) = told_behind old mid new
    (joined (take k pieces)) (get_or pieces k d).now told (rw is at front) in
    told_of_first old new pieces (k + 1) (subst (Tells old new) (sym (one_piece pieces k d inside)) behind)
