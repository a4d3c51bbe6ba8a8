-- What marks say of a byte, after a touch more.
use Rattle.std.proofs.Common.{◌≡◌, ℕ, ◌<◌, Bool, true, false, List, [], ◌∷◌, ◌++◌, Option, Some, None, refl, sym, ◌∙◌}
use Rattle.std.proofs.Common.{ap, arith}
use Rattle.std.specs.Prelude.{◌==◌, not, find, if◌then◌else◌}
use Rattle.std.specs.Option.{option_or}
use Rattle.std.proofs.lemmas.Bool.Decides.{nat_tests}
use Rattle.std.proofs.lemmas.List.Folds.{find-append}
use Rattle.c62_op.specs.declared.register.Reg.{Reg}
use Rattle.c62_op.specs.Takes.{same_reg}
use Rattle.c62_op.proofs.Registers.{same_reg-is, same_reg-refl}
use Rattle.c62_apart.specs.declared.touch.Touch.{Touch}
use Rattle.c62_apart.specs.Marks.{mark_of, no_mark, other_than, said_in, with_touch}
use Rattle.c62_apart.specs.Met.{is_here, is_other}

-- ---- one touch more

find_one : (p : Touch → Bool) (touch : Touch) → find p (touch ∷ []) ≡ (if p touch then Some touch else None)
find_one p touch = either (p touch) refl
  where
    either : (b : Bool) → p touch ≡ b → find p (touch ∷ []) ≡ (if p touch then Some touch else None)
    either true e = rw e refl
    either false e = rw e refl

pub find_more : (p : Touch → Bool) (seen : List Touch) (touch : Touch)
    → find p (seen ++ touch ∷ []) ≡ option_or (find p seen) (if p touch then Some touch else None)
find_more p seen touch = find-append p seen (touch ∷ []) ∙ ap (λ o. option_or (find p seen) o) (find_one p touch)

-- ---- what is found

-- where none is here, none from another register is
none_other : (stay byte : ℕ) (base : Reg) (seen : List Touch) → find (is_here stay byte) seen ≡ None
    → find (is_other stay byte base) seen ≡ None
none_other stay byte base [] h = refl
none_other stay byte base (one ∷ seen) h = either (is_here stay byte one) refl
    (λ later. none_other stay byte base seen later)
  where
    either : (b : Bool) → is_here stay byte one ≡ b
        → (find (is_here stay byte) seen ≡ None → find (is_other stay byte base) seen ≡ None)
        → find (is_other stay byte base) (one ∷ seen) ≡ None
    either true e rest = grind (arith, e, h)
    either false e rest = let later : find (is_here stay byte) seen ≡ None = grind (arith, e, h) in rw e (rest later)

-- the first that is here, where it is from another register, is the first such
first_is : (stay byte : ℕ) (base : Reg) (seen : List Touch) (first : Touch) → find (is_here stay byte) seen ≡ Some first
    → same_reg first.base base ≡ false → find (is_other stay byte base) seen ≡ Some first
first_is stay byte base [] first h other = cc
first_is stay byte base (one ∷ seen) first h other = either (is_here stay byte one) refl
    (λ later. first_is stay byte base seen first later other)
  where
    either : (b : Bool) → is_here stay byte one ≡ b
        → (find (is_here stay byte) seen ≡ Some first → find (is_other stay byte base) seen ≡ Some first)
        → find (is_other stay byte base) (one ∷ seen) ≡ Some first
    either true e rest = let same : one ≡ first = grind (arith, e, h) in
        let unlike : same_reg one.base base ≡ false = rw same other in rw (e, unlike) (ap (λ t. Some t) same)
    either false e rest = let later : find (is_here stay byte) seen ≡ Some first = grind (arith, e, h) in rw e
        (rest later)

-- the first that is here is of this stay
first_stays : (stay byte : ℕ) (seen : List Touch) (first : Touch) → find (is_here stay byte) seen ≡ Some first
    → (first.visit.stay == stay) ≡ true
first_stays stay byte [] first h = cc
first_stays stay byte (one ∷ seen) first h = either (is_here stay byte one) refl
    (λ later. first_stays stay byte seen first later)
  where
    stays : is_here stay byte one ≡ true → (one.visit.stay == stay) ≡ true
    stays e = grind (arith, e)

    either : (b : Bool) → is_here stay byte one ≡ b
        → (find (is_here stay byte) seen ≡ Some first → (first.visit.stay == stay) ≡ true) →
        (first.visit.stay == stay) ≡ true
    either true e rest = let same : one ≡ first = grind (arith, e, h) in rw (← same) (stays e)
    either false e rest = let later : find (is_here stay byte) seen ≡ Some first = grind (arith, e, h) in rest later

-- ---- marks

-- the first touch from another register is found
pub other_found : (stay byte : ℕ) (base : Reg) (seen : List Touch)
    → other_than base (mark_of stay byte seen) ≡ find (is_other stay byte base) seen
other_found stay byte base seen = either (find (is_here stay byte) seen) refl
  where
    either : (o : Option Touch) → find (is_here stay byte) seen ≡ o
        → other_than base (mark_of stay byte seen) ≡ find (is_other stay byte base) seen
    either None e = rw e (sym (none_other stay byte base seen e))
    either (Some first) e = by_base (same_reg first.base base) refl
      where
        by_base : (b : Bool) → same_reg first.base base ≡ b
            → other_than base (mark_of stay byte seen) ≡ find (is_other stay byte base) seen
        by_base true same = let is : first.base ≡ base = same_reg-is first.base base same in
            rw (e, same) (ap (λ r. find (is_other stay byte r) seen) is)
        by_base false same = rw (e, same) (sym (first_is stay byte base seen first e same))

-- a mark after a touch of its byte
pub mark_more : (stay byte : ℕ) (seen : List Touch) (touch : Touch) → touch.visit.stay ≡ stay → touch.byte ≡ byte
    → with_touch touch (mark_of stay byte seen) ≡ mark_of stay byte (seen ++ touch ∷ [])
mark_more stay byte seen touch s b = either (find (is_here stay byte) seen) refl
  where
    here : is_here stay byte touch ≡ true
    here = grind (arith, nat_tests, s, b)

    now : find (is_here stay byte) (seen ++ touch ∷ []) ≡ option_or (find (is_here stay byte) seen) (Some touch)
    now = rw here at (find_more (is_here stay byte) seen touch)

    of_other : (base : Reg) (o : Bool) → same_reg touch.base base ≡ o → is_other stay byte base touch ≡ not o
    of_other base o e = rw (here, e) refl

    either : (o : Option Touch) → find (is_here stay byte) seen ≡ o
        → with_touch touch (mark_of stay byte seen) ≡ mark_of stay byte (seen ++ touch ∷ [])
    either None e =
        let none : find (is_other stay byte touch.base) (seen ++ touch ∷ []) ≡ None =
        find_more (is_other stay byte touch.base) seen touch
        ∙ rw (none_other stay byte touch.base seen e, of_other touch.base true (same_reg-refl touch.base)) refl in
        rw (now, e, none) refl
    either (Some first) e = by_base (same_reg touch.base first.base) refl
      where
        more : (o : Bool) → same_reg touch.base first.base ≡ o → find (is_other stay byte first.base)
            (seen ++ touch ∷ [])
            ≡ option_or (find (is_other stay byte first.base) seen) (if not o then Some touch else None)
        more o same = find_more (is_other stay byte first.base) seen touch ∙ rw (of_other first.base o same) refl

        by_other : (o : Option Touch) → find (is_other stay byte first.base) seen ≡ o → same_reg touch.base
            first.base ≡ false
            → with_touch touch (mark_of stay byte seen) ≡ mark_of stay byte (seen ++ touch ∷ [])
        by_other None f same = rw (now, e, more false same, f, same) refl
        by_other (Some other) f same = rw (now, e, more false same, f, same) refl

        or_none : (o : Option Touch) → option_or o None ≡ o
        or_none None = refl
        or_none (Some one) = refl

        by_base : (b : Bool) → same_reg touch.base first.base ≡ b
            → with_touch touch (mark_of stay byte seen) ≡ mark_of stay byte (seen ++ touch ∷ [])
        by_base true same = rw (now, e, more true same, same, or_none (find (is_other stay byte first.base) seen)) refl
        by_base false same = by_other (find (is_other stay byte first.base) seen) refl same

-- it says nothing of another stay
pub mark_past : (stay other byte : ℕ) (seen : List Touch) (touch : Touch) → touch.visit.stay ≡ stay → stay < other
    → said_in other (with_touch touch (mark_of stay byte seen)) ≡ no_mark
mark_past stay other byte seen touch s past = either (find (is_here stay byte) seen) refl
  where
    unlike : (t : Touch) → t.visit.stay ≡ stay → (t.visit.stay == other) ≡ false
    unlike t is = grind (arith, nat_tests, is, past)

    either : (o : Option Touch) → find (is_here stay byte) seen ≡ o
        → said_in other (with_touch touch (mark_of stay byte seen)) ≡ no_mark
    either None e = rw (e, unlike touch s) refl
    either (Some first) e =
        let is : first.visit.stay ≡ stay = grind (arith, nat_tests, first_stays stay byte seen first e) in
        by_base (same_reg touch.base first.base) refl (unlike first is)
      where
        by_base : (b : Bool) → same_reg touch.base first.base ≡ b → (first.visit.stay == other) ≡ false
            → said_in other (with_touch touch (mark_of stay byte seen)) ≡ no_mark
        by_base true same none = rw (e, same, none) refl
        by_base false same none = by_other (find (is_other stay byte first.base) seen) refl
          where
            by_other : (o : Option Touch) → find (is_other stay byte first.base) seen ≡ o
                → said_in other (with_touch touch (mark_of stay byte seen)) ≡ no_mark
            by_other None f = rw (e, same, f, none) refl
            by_other (Some one) f = rw (e, same, f, none) refl

or_none : (o : Option Touch) → option_or o None ≡ o
or_none None = refl
or_none (Some one) = refl

-- a touch of another byte changes nothing
pub mark_same : (stay byte : ℕ) (seen : List Touch) (touch : Touch) → (touch.byte == byte) ≡ false
    → mark_of stay byte seen ≡ mark_of stay byte (seen ++ touch ∷ [])
mark_same stay byte seen touch unlike = either (find (is_here stay byte) seen) refl
  where
    hereless : is_here stay byte touch ≡ false
    hereless = by_stay (touch.visit.stay == stay) refl
      where
        by_stay : (b : Bool) → (touch.visit.stay == stay) ≡ b → is_here stay byte touch ≡ false
        by_stay true e = rw (e, unlike) refl
        by_stay false e = rw e refl

    same_first : find (is_here stay byte) (seen ++ touch ∷ []) ≡ find (is_here stay byte) seen
    same_first = find_more (is_here stay byte) seen touch ∙ rw hereless (or_none (find (is_here stay byte) seen))

    same_other : (base : Reg) → find (is_other stay byte base) (seen ++ touch ∷ []) ≡ find
        (is_other stay byte base) seen
    same_other base = find_more (is_other stay byte base) seen touch ∙ rw hereless
        (or_none (find (is_other stay byte base) seen))

    either : (o : Option Touch) → find (is_here stay byte) seen ≡ o
        → mark_of stay byte seen ≡ mark_of stay byte (seen ++ touch ∷ [])
    either None e = rw (same_first, e) refl
    either (Some first) e = rw (same_first, e, same_other first.base) refl

-- what it should say it says
pub said_again : (stay byte : ℕ) (seen : List Touch) → said_in stay (mark_of stay byte seen) ≡ mark_of stay byte seen
said_again stay byte seen = either (find (is_here stay byte) seen) refl
  where
    either : (o : Option Touch) → find (is_here stay byte) seen ≡ o → said_in stay (mark_of stay byte seen) ≡
        mark_of stay byte seen
    either None e = rw e refl
    either (Some first) e = rw (e, first_stays stay byte seen first e) refl
