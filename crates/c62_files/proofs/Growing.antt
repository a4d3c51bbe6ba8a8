-- The words of a call, grown by what stands in the place of one word more, and why that isn't known.
use Rattle.std.proofs.Common.{arith, ◌≡◌, ◌∙◌, ℕ, ◌+◌, ◌<◌, List, [], ◌∷◌, ◌++◌, length, drop, take, map, get_or}
use Rattle.std.proofs.Common.{slice_get, Some, option_map, refl, sym, ap, append_assoc, subst}
use Rattle.std.specs.Prelude.{◌≤◌, if◌then◌else◌}
use Rattle.std.specs.List.{count_by}
use Rattle.std.proofs.lemmas.Bool.{cond_both}
use Rattle.std.proofs.lemmas.List.{append-nil, drop_more, get_or-map, length-map}
use Rattle.std.proofs.lemmas.List.Sums.{count_by_more_no, count_by_more_yes}
use Rattle.std.proofs.lemmas.Option.{slice_get-get_or, slice_get-map}
use Rattle.c62_files.specs.declared.piece.Piece.{Piece}
use Rattle.c62_files.specs.Words.{Text, Word, Plain, InputName, OutputName, SettingsName, Loads, Prints, Dumps, Begins}
use Rattle.c62_files.specs.Words.{text_piece}
use Rattle.c62_files.specs.declared.load.Stopped.{Stopped}
use Rattle.c62_files.specs.declared.load.Stopped.TheVariants.{Unread as NotRead, Misfit as NotFit}
use Rattle.c62_files.specs.Expand.{ExpandsFrom, Gives, Holding, IsGrown, IsStoppedAt, IsUnexpanded, begin_among}
use Rattle.c62_files.specs.Expand.{is_load, numbered}

grow : (base : ℕ) (holds : Holding) (all : List Word) (done mine : List Text) (piece : Word) (rest : List Word)
    → Gives base holds piece mine
    → IsGrown base holds all done (piece ∷ rest) → IsGrown base holds all (done ++ mine) rest
unfolding ExpandsFrom
grow base holds all done mine piece rest gives so_far words e =
    rw (append_assoc done mine words) (so_far (mine ++ words) (mine, words, gives, e, refl))

pub grown_at_first : (base : ℕ) (holds : Holding) (all : List Word) → IsGrown base holds all [] all
grown_at_first base holds all words e = e

pub grown_more : (base : ℕ) (holds : Holding) (all : List Word) (pieces : List Piece) (i : ℕ) (d piece : Piece)
    (done mine new : List Text) → i < length pieces
    → piece ≡ get_or pieces i d → Gives base holds (text_piece piece) mine → new ≡ done ++ mine
    → IsGrown base holds all done (map text_piece (drop i pieces))
    → IsGrown base holds all new (map text_piece (drop (i + 1) pieces))
grown_more base holds all pieces i d piece done mine new within is gives added so_far =
    let here : map text_piece (drop i pieces) ≡ text_piece piece ∷ map text_piece (drop (i + 1) pieces) =
    ap (map text_piece) (drop_more pieces i d within)
    ∙ ap (λ p. text_piece p ∷ map text_piece (drop (i + 1) pieces)) (sym is) in
    subst (λ xs. IsGrown base holds all xs (map text_piece (drop (i + 1) pieces))) (sym added)
    (grow base holds all done mine (text_piece piece) (map text_piece (drop (i + 1) pieces)) gives
    (subst (IsGrown base holds all done) here so_far))

pub all_grown : (base : ℕ) (holds : Holding) (all : List Word) (done : List Text) (rest : List Word) → rest ≡ []
    → IsGrown base holds all done rest → ExpandsFrom base holds all done
unfolding ExpandsFrom
all_grown base holds all done rest none so_far =
    subst (ExpandsFrom base holds all) (append-nil done) (so_far [] (rw none refl))

-- ---- loads

stands_at : (pieces : List Piece) (i : ℕ) (d piece : Piece) → i < length pieces → piece ≡ get_or pieces i d
    → get_or (map text_piece pieces) i (text_piece d) ≡ text_piece piece
stands_at pieces i d piece within is = get_or-map text_piece pieces i d (text_piece d) within ∙ ap text_piece (sym is)

abbrev with_load : ℕ → Word → ℕ
with_load loads word = if is_load word then loads + 1 else loads

pub loads_more : (pieces : List Piece) (i : ℕ) (d piece : Piece) (loads : ℕ) → i < length pieces
    → piece ≡ get_or pieces i d
    → loads ≡ count_by is_load (take i (map text_piece pieces))
    → with_load loads (text_piece piece) ≡ count_by is_load (take (i + 1) (map text_piece pieces))
loads_more pieces i d piece loads within is counted =
    let there = stands_at pieces i d piece within is in
    let all : i < length (map text_piece pieces) = rw (length-map pieces text_piece) within in
    cond_both (is_load (text_piece piece)) (loads + 1) loads
    (λ n. n ≡ count_by is_load (take (i + 1) (map text_piece pieces)))
    (λ yes. ap (λ n. n + 1) counted
    ∙ sym (count_by_more_yes is_load (map text_piece pieces) i (text_piece d) all (ap is_load there ∙ yes)))
    (λ no. counted ∙ sym (count_by_more_no is_load (map text_piece pieces) i (text_piece d) all (ap is_load there
    ∙ no)))

pub loads_few : (loads i : ℕ) (word : Word) → loads ≤ i → with_load loads word ≤ i + 1
loads_few loads i word few =
    cond_both (is_load word) (loads + 1) loads (λ n. n ≤ i + 1) (λ yes. omega (arith, few)) (λ no. omega (arith, few))

stopped_word : (holds : Holding) (pieces : List Piece) (i loads : ℕ) (word : Word) (stopped : Stopped)
    → slice_get (map text_piece pieces) i ≡ Some word
    → loads ≡ count_by is_load (take i (map text_piece pieces))
    → IsStoppedAt (begin_among (map text_piece pieces)) holds word stopped
    → IsUnexpanded holds (map text_piece pieces) (numbered (loads + 1) stopped)
stopped_word holds pieces i loads word (NotRead unread) stands counted why = record
    { at = i; word = word; stands = stands; why = why }
stopped_word holds pieces i loads (Loads word) (NotFit misfit) stands counted why =
    record { at = i; word = word; stands = stands; counted = ap (λ n. n + 1) counted; why = why }
stopped_word holds pieces i loads (Plain word) (NotFit misfit) stands counted why = absurd why
stopped_word holds pieces i loads (InputName word) (NotFit misfit) stands counted why = absurd why
stopped_word holds pieces i loads (OutputName word) (NotFit misfit) stands counted why = absurd why
stopped_word holds pieces i loads (SettingsName word) (NotFit misfit) stands counted why = absurd why
stopped_word holds pieces i loads (Prints word) (NotFit misfit) stands counted why = absurd why
stopped_word holds pieces i loads (Dumps word) (NotFit misfit) stands counted why = absurd why
stopped_word holds pieces i loads (Begins word) (NotFit misfit) stands counted why = absurd why

pub stopped_at : (holds : Holding) (pieces : List Piece) (i loads : ℕ) (d piece : Piece) (stopped : Stopped)
    → i < length pieces → piece ≡ get_or pieces i d
    → loads ≡ count_by is_load (take i (map text_piece pieces))
    → IsStoppedAt (begin_among (map text_piece pieces)) holds (text_piece piece) stopped
    → IsUnexpanded holds (map text_piece pieces) (numbered (loads + 1) stopped)
stopped_at holds pieces i loads d piece stopped within is counted why =
    stopped_word holds pieces i loads (text_piece piece) stopped
    (slice_get-map text_piece pieces i
    ∙ ap (option_map text_piece) (slice_get-get_or pieces i d within ∙ ap Some (sym is))) counted why
