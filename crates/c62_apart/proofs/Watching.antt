-- What was seen of a run, after a touch more.
use Rattle.std.proofs.Common.{◌≡◌, ◌≢◌, ℕ, suc, ◌+◌, ◌≤◌, ◌<◌, take, Bool, true, false, List, [], ◌∷◌, ◌++◌, length}
use Rattle.std.proofs.Common.{length-set, set, get_or, None, refl, sym, ◌∙◌, ap, subst, append_assoc, ⊎_elim, arith}
use Rattle.std.specs.Prelude.{◌==◌, replicate}
use Rattle.std.specs.Option.{option_to_list}
use Rattle.std.proofs.lemmas.Bool.{cases_lt}
use Rattle.std.proofs.lemmas.Bool.Decides.{nat_tests}
use Rattle.std.proofs.lemmas.List.{append-nil, length-replicate, get_or-replicate, get_or-set_other, get_or-set_same}
use Rattle.std.proofs.lemmas.List.{get_or_read}
use Rattle.std.proofs.Math.Seq.{take-suc}
use Rattle.std.proofs.lemmas.List.Sums.{fold-append}
use Rattle.c62_serial.specs.declared.state.TheConstants.{MEMORY_BYTES}
use Rattle.c62_apart.specs.declared.marks.Mark.{Mark}
use Rattle.c62_apart.specs.declared.marks.Meeting.{Meeting}
use Rattle.c62_apart.specs.declared.touch.Touch.{Touch}
use Rattle.c62_apart.specs.Marks.{IsWatched, Sees, first_here, mark_of, no_mark, other_than, said_in, with_touch}
use Rattle.c62_apart.specs.Met.{first_other, is_here, meeting_with, meetings, told_of, with_meeting, with_meetings}
use Rattle.c62_apart.proofs.Marking.{find_more, mark_more, mark_past, mark_same, other_found, said_again}

-- ---- meetings

meetings_more : (before seen : List Touch) (touch : Touch)
    → meetings before (seen ++ touch ∷ []) ≡ meetings before seen ++ option_to_list
    (meeting_with (first_other (before ++ seen) touch) touch)
meetings_more before [] touch =
    append-nil (option_to_list (meeting_with (first_other before touch) touch))
    ∙ ap (λ all. option_to_list (meeting_with (first_other all touch) touch)) (sym (append-nil before))
meetings_more before (one ∷ seen) touch =
    ap (λ more. option_to_list (meeting_with (first_other before one) one) ++ more)
    (meetings_more (before ++ one ∷ []) seen touch)
    ∙ sym (append_assoc (option_to_list (meeting_with (first_other before one) one))
    (meetings (before ++ one ∷ []) seen)
    (option_to_list (meeting_with (first_other ((before ++ one ∷ []) ++ seen) touch) touch)))
    ∙ ap (λ all. (option_to_list (meeting_with (first_other before one) one) ++ meetings (before ++ one ∷ []) seen)
    ++ option_to_list (meeting_with (first_other all touch) touch)) (append_assoc before (one ∷ []) seen)

pub told_more : (seen : List Touch) (touch : Touch)
    → told_of (seen ++ touch ∷ []) ≡ with_meetings (told_of seen)
    (option_to_list (meeting_with (first_other seen touch) touch))
told_more seen touch =
    ap (λ all. with_meetings [] all) (meetings_more [] seen touch)
    ∙ fold-append with_meeting [] (meetings [] seen) (option_to_list (meeting_with (first_other seen touch) touch))

-- ---- a touch

pub watched_none : (marks : List Mark) (met : List Meeting) → marks ≡ replicate MEMORY_BYTES no_mark → met ≡ []
    → IsWatched [] 0 marks met
watched_none marks met m none = record {
  size = ap (λ (all : List Mark). length all) m ∙ length-replicate MEMORY_BYTES no_mark;
  past = λ other byte h. refl;
  says = λ other byte h inside. ap (λ (all : List Mark). said_in other (get_or all byte no_mark)) m
      ∙ ap (λ mark. said_in other mark) (get_or-replicate MEMORY_BYTES byte no_mark no_mark inside);
  told = none;
}

pub watched_later : (seen : List Touch) (last stay : ℕ) (marks : List Mark) (met : List Meeting) → last ≤ stay
    → IsWatched seen last marks met → IsWatched seen stay marks met
watched_later seen last stay marks met h watched = record {
  size = watched.size;
  past = λ other byte over. watched.past other byte (omega (arith, h, over));
  says = λ other byte over inside. watched.says other byte (omega (arith, h, over)) inside;
  told = watched.told;
}

pub watched_more : (seen : List Touch) (touch : Touch) (stay byte : ℕ) (marks now : List Mark) (met more : List Meeting)
    (mark : Mark)
    → touch.visit.stay ≡ stay → touch.byte ≡ byte → byte < MEMORY_BYTES
    → mark ≡ said_in stay (get_or marks byte no_mark)
    → now ≡ set marks byte (with_touch touch mark)
    → more ≡ with_meetings met (option_to_list (meeting_with (other_than touch.base mark) touch))
    → IsWatched seen stay marks met → IsWatched (seen ++ touch ∷ []) stay now more
watched_more seen touch stay byte marks now met more mark s b inside is put adds watched = record {
  size = ap (λ (all : List Mark). length all) put ∙ length-set marks byte (with_touch touch mark) ∙ watched.size;
  past = λ other at over. find_more (is_here other at) seen touch
      ∙ (let none = watched.past other at over in
      let unlike : is_here other at touch ≡ false = grind (arith, nat_tests, s, over) in rw (none, unlike) refl);
  says = says;
  told = adds ∙ (let found = ap (λ m. other_than touch.base m) whole ∙ other_found stay byte touch.base seen in
      rw (watched.told, found, ← s, ← b) (sym (told_more seen touch)));
}
  where
    whole : mark ≡ mark_of stay byte seen
    whole = is ∙ watched.says stay byte (omega arith) inside

    within : byte < length marks
    within = omega (arith, watched.size, inside)

    here : (other : ℕ) → stay ≤ other → said_in other (with_touch touch mark) ≡ mark_of other byte (seen ++ touch ∷ [])
    here other over = ⊎_elim {C = said_in other (with_touch touch mark) ≡ mark_of other byte
        (seen ++ touch ∷ [])} later same
        (cases_lt stay other)
      where
        none : stay < other → first_here other byte (seen ++ touch ∷ []) ≡ None
        none h = find_more (is_here other byte) seen touch
            ∙ (let unlike : is_here other byte touch ≡ false = grind (arith, nat_tests, s, h) in
            rw (watched.past other byte h, unlike) refl)

        later : stay < other → said_in other (with_touch touch mark) ≡ mark_of other byte (seen ++ touch ∷ [])
        later h = ap (λ m. said_in other (with_touch touch m)) whole ∙ mark_past stay other byte seen touch s h
            ∙ rw (none h) refl

        same : other ≤ stay → said_in other (with_touch touch mark) ≡ mark_of other byte (seen ++ touch ∷ [])
        same h = let e : other ≡ stay = omega (arith, h, over) in rw e
            (ap (λ m. said_in stay (with_touch touch m)) whole
            ∙ ap (λ m. said_in stay m) (mark_more stay byte seen touch s b)
            ∙ said_again stay byte (seen ++ touch ∷ []))

    says : (other at : ℕ) → stay ≤ other → at < MEMORY_BYTES → said_in other (get_or now at no_mark) ≡ mark_of
        other at (seen ++ touch ∷ [])
    says other at over h = ap (λ (all : List Mark). said_in other (get_or all at no_mark)) put ∙ by_byte
        (at == byte) refl
      where
        by_byte : (b : Bool) → (at == byte) ≡ b → said_in other
            (get_or (set marks byte (with_touch touch mark)) at no_mark) ≡ mark_of other at (seen ++ touch ∷ [])
        by_byte true e = let same : at ≡ byte = grind (arith, nat_tests, e) in rw same
            (ap (λ m. said_in other m) (get_or-set_same marks byte (with_touch touch mark) no_mark within) ∙
            here other over)
        by_byte false e = let unlike : at ≢ byte = λ same. grind (arith, nat_tests, e, same) in
            ap (λ m. said_in other m) (get_or-set_other marks byte at (with_touch touch mark) no_mark unlike)
            ∙ watched.says other at over h ∙ mark_same other at seen touch (grind (arith, nat_tests, unlike, b))

-- a touch is seen behind all that was
pub sees_one : (touch : Touch) (byte : ℕ) (marks now : List Mark) (met more : List Meeting) (read mark : Mark)
    → touch.byte ≡ byte → byte < MEMORY_BYTES → length marks ≡ MEMORY_BYTES
    → read ≡ get_or marks byte read → mark ≡ said_in touch.visit.stay read
    → now ≡ set marks byte (with_touch touch mark)
    → more ≡ with_meetings met (option_to_list (meeting_with (other_than touch.base mark) touch))
    → Sees touch.visit.stay (touch ∷ []) marks met now more
sees_one touch byte marks now met more read mark b inside size found is put adds = λ seen last h watched.
    watched_more seen touch touch.visit.stay byte marks now met more mark refl b inside
    (is ∙ ap (λ m. said_in touch.visit.stay m) (get_or_read marks byte read (omega (arith, size, inside)) found
    no_mark))
    put adds (watched_later seen last touch.visit.stay marks met h watched)

pub sees_none : (stay : ℕ) (marks : List Mark) (met : List Meeting) → Sees stay [] marks met marks met
sees_none stay marks met = λ seen last h watched.
    subst (λ all. IsWatched all stay marks met) (sym (append-nil seen))
    (watched_later seen last stay marks met h watched)

pub sees_more : (stay : ℕ) (touches : List Touch) (touch : Touch) (marks now : List Mark) (met more : List Meeting)
    (first : List Mark) (start : List Meeting)
    → touch.visit.stay ≡ stay → Sees stay touches first start marks met → Sees touch.visit.stay (touch ∷ [])
    marks met now more
    → Sees stay (touches ++ touch ∷ []) first start now more
sees_more stay touches touch marks now met more first start same before one = λ seen last h watched.
    let then = before seen last h watched in
    subst (λ all. IsWatched all stay now more) (append_assoc seen touches (touch ∷ []))
    (subst (λ s. IsWatched ((seen ++ touches) ++ touch ∷ []) s now more) same
    (one (seen ++ touches) stay (rw same (omega arith)) then))

pub take_more : (touches : List Touch) (k : ℕ) (touch : Touch) → k < length touches → touch ≡ get_or touches k touch
    → take (k + 1) touches ≡ take k touches ++ touch ∷ []
take_more touches k touch inside is =
    let next : k + 1 ≡ suc k = omega arith in
    rw next (take-suc touches k touch inside) ∙ ap (λ (t : Touch). take k touches ++ t ∷ []) (sym is)
