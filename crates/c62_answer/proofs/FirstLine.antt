-- Where an input is parted.
use Rattle.std.proofs.Common.{◌≡◌, ◌∙◌, ◌⊎◌, ℕ, ◌+◌, ◌-◌, ◌<◌, ◌≤◌, true, List, [], ◌∷◌, ◌++◌, length, false}
use Rattle.std.proofs.Common.{append_assoc, take, drop, get_or, eqb, ◌≢◌, Option, Some, None, refl, sym, ap, subst}
use Rattle.std.proofs.Common.{arith, inl, inr, suc}
use Rattle.std.specs.Prelude.{MatchOption, codes}
use Rattle.std.specs.Cmp.Lexicographic.{pointwise}
use Rattle.std.specs.Borrow.{Bor}
use Rattle.std.proofs.Math.Seq.{drop-append_seam, get_or-append_seam, take-add, take-suc}
use Rattle.std.proofs.lemmas.Bool.Decides.{Decides-eqb}
use Rattle.std.proofs.lemmas.Slice.Eq.{strip_prefix_is}
use Rattle.std.proofs.lemmas.Bool.{cases_eq, cases_lt, eqb-true}
use Rattle.std.proofs.lemmas.List.{append_cancel_left, get_or-drop, length-append, length-drop, length-take-le}
use Rattle.std.proofs.lemmas.List.{take-append-drop}
use Rattle.memchr.specs.Find.{IsFirstByte, Nowhere, Passes, is_byte}
use Rattle.c62_answer.specs.Parting.{AreLines, HasNoParting, IsBegun, IsCut, IsEnded, IsParted, NoEnd, NoneBegun}

-- ---- a line that begins

pub none_begun : (bytes end : List ℕ) → bytes ≡ codes "---" ++ end → NoEnd end → NoneBegun bytes
none_begun bytes end is none rest begun =
    let same : end ≡ begun.end = append_cancel_left (codes "---") end begun.end (sym is ∙ begun.whole) in
    none rest (subst (λ (xs : List ℕ). IsEnded xs rest) (sym same) begun.ended)

-- what stands behind `---`
pub behind : (bytes : List ℕ) (found : Option (Bor (List ℕ))) (end : Bor (List ℕ))
    → MatchOption found (pointwise eqb (take 3 bytes) (codes "---") ≡ false)
    (λ x. (pointwise eqb (take 3 bytes) (codes "---") ≡ true) × (x.now ≡ drop 3 bytes)
    × (length x.now + 3 ≡ length bytes))
    → found ≡ Some end → bytes ≡ codes "---" ++ end.now
behind bytes found end cases is =
    subst (λ (o : Option (Bor (List ℕ))). MatchOption o ((rest : List ℕ)
    → bytes ≢ codes "---" ++ rest) (λ x. bytes ≡ codes "---" ++ x.now)) is
    (strip_prefix_is Decides-eqb bytes (codes "---") found cases)

pub begun_or_none : (bytes end : List ℕ) (found : Option (Bor (List ℕ))) → bytes ≡ codes "---" ++ end
    → MatchOption found (NoEnd end) (λ rest. IsEnded end rest.now)
    → MatchOption found (NoneBegun bytes) (λ rest. IsBegun bytes rest.now)
begun_or_none bytes end None is none = none_begun bytes end is none
begun_or_none bytes end (Some rest) is ended = record { end = end; ended = ended; whole = is }

-- ---- the lines before it

-- the lines before this place are whole, and the first line `---` begins here or behind it
pub record IsSearched (input : List ℕ) (begin : ℕ) : Type 0 where
  pub within : begin ≤ length input
  pub lines : AreLines (take begin input)
  pub none : (text listing : List ℕ) → IsCut input text listing → begin ≤ length text

pub from_start : (input : List ℕ) → IsSearched input 0
from_start input = record { within = omega arith; lines = inl refl; none = λ text listing cut. omega arith }

module _ (input : List ℕ) where
  -- a cut at this place is one of what stands behind it
  begun_at : (begin : ℕ) (text listing : List ℕ) → IsCut input text listing → begin ≡ length text
      → IsBegun (drop begin input) listing
  begun_at begin text listing cut here =
      let behind : drop begin input ≡ cut.behind = ap (λ (n : ℕ). drop n input) here
      ∙ ap (λ (xs : List ℕ). drop (length text) xs) cut.whole ∙ drop-append_seam text cut.behind in
      subst (λ (xs : List ℕ). IsBegun xs listing) (sym behind) cut.begun

  cut_within : (text listing : List ℕ) → IsCut input text listing → length text < length input
  cut_within text listing cut =
      let all : length input ≡ length text + length cut.behind = ap length cut.whole ∙ length-append text cut.behind in
      let some : length cut.behind ≡ length (codes "---") + length cut.begun.end = ap length cut.begun.whole
      ∙ length-append (codes "---") cut.begun.end in
      let three : length (codes "---") ≡ 3 = refl in
      omega (arith, all, some, three)

  -- the line before a cut ends with a line feed
  fed_before : (text listing : List ℕ) → IsCut input text listing → 0 < length text
      → get_or input (length text - 1) 0 ≡ 10
  fed_before text listing cut some = go cut.lines
    where
      go : AreLines text → get_or input (length text - 1) 0 ≡ 10
      go (inl empty) = let none : length text ≡ 0 = ap length empty in absurd (omega (arith, none, some))
      go (inr (front, is)) =
          let long : length text ≡ length front + 1 = ap length is ∙ length-append front (10 ∷ []) in
          let place : length text - 1 ≡ length front = omega (arith, long) in
          let whole : input ≡ front ++ 10 ∷ cut.behind = cut.whole ∙ ap (λ (xs : List ℕ). xs ++ cut.behind) is
          ∙ append_assoc front (10 ∷ []) cut.behind in
          ap (λ (n : ℕ). get_or input n 0) place ∙ ap (λ (xs : List ℕ). get_or xs (length front) 0) whole
          ∙ get_or-append_seam front 10 cut.behind 0

  -- where this isn't the place of a cut, a line feed stands behind it and before the cut
  fed_behind : (begin : ℕ) → NoneBegun (drop begin input) → (text listing : List ℕ) → IsCut input text listing
      → begin ≤ length text
      → (begin < length text) × (get_or (drop begin input) (length text - 1 - begin) 0 ≡ 10)
  fed_behind begin none text listing cut least = go (cases_eq begin (length text))
    where
      go : (begin ≡ length text) ⊎ (begin ≢ length text) → (begin < length text)
          × (get_or (drop begin input) (length text - 1 - begin) 0 ≡ 10)
      go (inl here) = absurd (none listing (begun_at begin text listing cut here))
      go (inr later) =
          let less : begin < length text = omega (arith, least, later) in
          let there : begin + (length text - 1 - begin) ≡ length text - 1 = omega (arith, less) in
          let some : 0 < length text = omega (arith, less) in (
            less,
            get_or-drop begin input (length text - 1 - begin) 0 ∙ ap (λ (n : ℕ). get_or input n 0) there
                ∙ fed_before text listing cut some,
          )

  -- so the cut stands behind the first line feed
  past : (begin : ℕ) → NoneBegun (drop begin input) → (text listing : List ℕ) → IsCut input text listing
      → begin ≤ length text → (end : ℕ)
      → Nowhere (Passes (is_byte 10) (drop begin input)) 0 end → begin + end < length text
  past begin none text listing cut least end nowhere =
      let fed = fed_behind begin none text listing cut least in
      let passes : Passes (is_byte 10) (drop begin input) (length text - 1 - begin) = ap (λ (b : ℕ). eqb b 10) fed.1 in
      elim (cases_lt (length text - 1 - begin) end) [
        | inl before ↦ absurd (nowhere (length text - 1 - begin) (omega arith) before passes)
        | inr behind ↦ let less = fed.0 in omega (arith, less, behind)
      ]

  -- behind the next line feed
  pub searched_on : (begin end : ℕ) → IsSearched input begin → NoneBegun (drop begin input)
      → IsFirstByte (is_byte 10) (drop begin input) (Some end)
      → IsSearched input (begin + (end + 1))
  searched_on begin end was none found =
      let rest : List ℕ = drop begin input in
      let within : end < length rest = found.0.high in
      let left : length rest ≡ length input - begin = length-drop begin input in
      let feed : get_or rest end 0 ≡ 10 = eqb-true (get_or rest end 0) 10 found.1 in
      let next : end + 1 ≡ suc end = omega arith in
      let line : take (suc end) rest ≡ take end rest ++ 10 ∷ [] =
      take-suc rest end 0 within ∙ ap (λ (b : ℕ). take end rest ++ b ∷ []) feed in
      let whole : take (begin + suc end) input ≡ (take begin input ++ take end rest) ++ 10 ∷ [] =
      take-add begin (suc end) input ∙ ap (λ (xs : List ℕ). take begin input ++ xs) line
      ∙ sym (append_assoc (take begin input) (take end rest) (10 ∷ [])) in
      record {
        within = let was_within = was.within in omega (arith, within, left, was_within);
        lines = inr (take begin input ++ take end rest, ap (λ (n : ℕ). take (begin + n) input) next ∙ whole);
        none = λ text listing cut. let behind = past begin none text listing cut (was.none text listing cut) end
            found.0.before in omega (arith, behind);
      }

  -- where no line feed is left, no line is `---`
  pub searched_out : (begin : ℕ) → IsSearched input begin → NoneBegun (drop begin input)
      → IsFirstByte (is_byte 10) (drop begin input) None → HasNoParting input
  searched_out begin was none nowhere text listing cut =
      let behind = past begin none text listing cut (was.none text listing cut) (length (drop begin input)) nowhere in
      let left : length (drop begin input) ≡ length input - begin = length-drop begin input in
      let was_within = was.within in
      let less = cut_within text listing cut in
      absurd (omega (arith, behind, left, was_within, less))

  pub at_the_end : (begin : ℕ) → IsSearched input begin → length input ≤ begin → HasNoParting input
  at_the_end begin was end text listing cut = absurd
      (omega (arith, end, was.none text listing cut, cut_within text listing cut))

  pub parted : (begin : ℕ) (listing : List ℕ) → IsSearched input begin → IsBegun (drop begin input) listing
      → IsParted input (take begin input) listing
  parted begin listing was begun = record {
    cut = record {
      lines = was.lines;
      behind = drop begin input;
      begun = begun;
      whole = sym
          (take-append-drop begin input);
    };
    first = λ other rest cut. let least = was.none other rest cut in let long = length-take-le begin input was.within in
        omega (arith, least, long);
  }
