-- Parts are found by their labels.
use Rattle.std.proofs.Common.{◌≡◌, ◌<◌, ◌+◌, ◌∙◌, ℕ, Bool, true, false, List, [], ◌∷◌, ◌++◌, length, map, take, ◌&&◌}
use Rattle.std.proofs.Common.{get_or, Option, Some, None, is_some, refl, sym, ap, subst, arith, cond, eqb}
use Rattle.std.specs.Prelude.{IfSome}
use Rattle.std.specs.List.{position}
use Rattle.std.specs.Map.{lookup}
use Rattle.std.specs.Option.{option_or}
use Rattle.std.specs.Str.{bytes_eq}
use Rattle.std.specs.Cmp.Lexicographic.{same_text}
use Rattle.std.proofs.lemmas.Bool.{and_parts, eqb-true}
use Rattle.std.proofs.lemmas.Bool.Decides.{nat_tests}
use Rattle.std.proofs.lemmas.List.{length-map, length-take-le, map-append, take_more}
use Rattle.std.proofs.lemmas.List.Quantifiers.{position-Some}
use Rattle.indexmap.specs.IndexMap.{insert_entry}
use Rattle.indexmap.proofs.MapLemmas.{absent_from_lookup, insert_entry-absent}
use Rattle.c62_read.specs.Program.{Name}
use Rattle.c62_reach.specs.declared.index.Index.{Index}
use Rattle.c62_reach.specs.declared.part.Part.{Part as PartRead}
use Rattle.c62_reach.specs.Part.{Part}
use Rattle.c62_reach.specs.PartRead.{part_read}
use Rattle.c62_reach.specs.Reach.{is_named, no_part}
use Rattle.c62_reach.specs.Index.{Adds, Indexes, is_same, with_key}

-- ---- a key more

none_if : {X : Type 0} (o : Option X) → is_some o ≡ false → o ≡ None
none_if None e = refl
none_if (Some x) e = absurd cc

or_none : {X : Type 0} (o : Option X) → option_or o None ≡ o
or_none None = refl
or_none (Some x) = refl

-- a new key goes last
pub inserted : {K : Type 0} (same : K → K → Bool) (entries : List (K × ℕ)) (key : K) (k : ℕ)
    → is_some (lookup (same key) entries) ≡ false → insert_entry same entries key k ≡ entries ++ (key, k) ∷ []
inserted same entries key k new =
    insert_entry-absent same key k entries
    (absent_from_lookup (same key) entries (none_if (lookup (same key) entries) new))

lookup_push : {K : Type 0} (test : K → Bool) (key : K) (k : ℕ) (entries : List (K × ℕ))
    → lookup test (entries ++ (key, k) ∷ []) ≡ option_or (lookup test entries) (cond (test key) (Some k) None)
lookup_push test key k [] = refl
lookup_push test key k (entry ∷ entries) = grind (arith, nat_tests, lookup_push test key k entries)

-- what is found under a key then
found_then : {K : Type 0} (same : K → K → Bool) (key other : K) (k : ℕ) (entries : List (K × ℕ))
    → (same other key ≡ true → other ≡ key)
    → lookup (same other) (with_key same key k entries) ≡ option_or (lookup (same other) entries)
    (cond (same other key) (Some k) None)
found_then {K} same key other k entries are = on_there (lookup (same key) entries) refl
  where
    on_there : (found : Option ℕ) → lookup (same key) entries ≡ found
        → lookup (same other) (cond (is_some found) entries (entries ++ (key, k) ∷ [])) ≡ option_or
        (lookup (same other) entries) (cond (same other key) (Some k) None)
    on_there None none = lookup_push (same other) key k entries
    on_there (Some j) there = kept (same other key) refl
      where
        kept : (b : Bool) → same other key ≡ b
            → lookup (same other) entries ≡ option_or (lookup (same other) entries) (cond b (Some k) None)
        kept true e =
            let found : lookup (same other) entries ≡ Some j = ap (λ (key : K). lookup (same key) entries) (are e)
            ∙ there in
            rw found refl
        kept false e = sym (or_none (lookup (same other) entries))

-- ---- a part more

position_push : (test : Part → Bool) (parts : List Part) (part : Part)
    → position test (parts ++ part ∷ []) ≡ option_or (position test parts) (cond (test part) (Some (length parts)) None)
position_push test [] part = grind (arith, nat_tests)
position_push test (other ∷ parts) part = grind (arith, nat_tests, position_push test parts part)

same_name : (name label : Name) → bytes_eq name label ≡ true → name ≡ label
same_name name label e = same_text name label (sym e)

same_own : (one other : ℕ × Name) → is_same one other ≡ true → one ≡ other
same_own (file, name) (other, label) e =
    let both = and_parts (eqb file other) (bytes_eq name label) e in
    rw (eqb-true file other both.0, same_name name label both.1) refl

-- the entries that have a key of the part find it
one_found : {K : Type 0} (same : K → K → Bool) (key other : K) (test : Part → Bool) (parts : List Part) (part : Part)
    (old new : List (K × ℕ)) → (same other key ≡ true → other ≡ key)
    → lookup (same other) old ≡ position test parts → new ≡ with_key same key (length parts) old
    → same other key ≡ test part → lookup (same other) new ≡ position test (parts ++ part ∷ [])
one_found {K} same key other test parts part old new are found added is =
    let then : lookup (same other) new ≡ option_or (position test parts) (cond (test part) (Some (length parts)) None) =
    rw (added, ← found, ← is) (found_then same key other (length parts) old are) in
    then ∙ sym (position_push test parts part)

-- no part without a label is found
none_found : (test : Part → Bool) (parts : List Part) (part : Part) → test part ≡ false
    → position test parts ≡ position test (parts ++ part ∷ [])
none_found test parts part none = sym (position_push test parts part ∙ rw none (or_none (position test parts)))

by_label : (parts : List Part) (part : Part) (label : Option Name) (old new : Index) → label ≡ part.label
    → Indexes parts old → Adds (length parts) part.file label old new → Indexes (parts ++ part ∷ []) new
by_label parts part None old new is indexed same = record {
  first = λ name. rw same (indexed.first name
      ∙ none_found (λ p. is_named name p.label) parts part (rw (← is) refl));
  own = λ file name. rw same (indexed.own file name
      ∙ none_found (λ p. eqb file p.file && is_named name p.label) parts part
      (rw (← is) (grind (arith, nat_tests))));
}
by_label parts part (Some label) old new is indexed added = record {
  first = λ name. one_found bytes_eq label name (λ p. is_named name p.label) parts part old.first.entries
      new.first.entries (same_name name label) (indexed.first name) added.0 (rw (← is) refl);
  own = λ file name. one_found is_same (part.file, label) (file, name)
      (λ p. eqb file p.file && is_named name p.label) parts part old.own.entries new.own.entries
      (same_own (file, name) (part.file, label)) (indexed.own file name) added.1 (rw (← is) refl);
}

-- the next of some parts
pub next_indexed : (parts : List PartRead) (k : ℕ) (part : PartRead) (old new : Index) → k < length parts
    → part ≡ get_or parts k part → Indexes (map part_read (take k parts)) old
    → Adds k part.file part.label old new → Indexes (map part_read (take (k + 1) parts)) new
next_indexed parts k part old new inside is indexed added =
    let above = map part_read (take k parts) in
    let len : length above ≡ k = length-map (take k parts) part_read ∙ length-take-le k parts (omega (arith, inside)) in
    let list : take (k + 1) parts ≡ take k parts ++ part ∷ [] = take_more parts k part inside
    ∙ ap (λ (p : PartRead). take k parts ++ p ∷ []) (sym is) in
    let lists : map part_read (take (k + 1) parts) ≡ above ++ part_read part ∷ [] =
    ap (map part_read) list ∙ map-append part_read (take k parts) (part ∷ []) in
    subst (λ (ps : List Part). Indexes ps new) (sym lists)
    (by_label above (part_read part) part.label old new refl indexed
    (subst (λ (n : ℕ). Adds n part.file part.label old new) (sym len) added))

-- ---- what is found

pub within : (parts : List Part) (index : Index) (name : Name) (found : Option ℕ)
    → found ≡ lookup (bytes_eq name) index.first.entries → Indexes parts index → IfSome found (λ k. k < length parts)
within parts index name None is indexed = tt
within parts index name (Some k) is indexed =
    (position-Some (λ p. is_named name p.label) parts k no_part
    (sym (indexed.first name) ∙ sym is)).0
