-- The row of a label is the row at which its block begins.
use Rattle.std.proofs.Common.{◌≡◌, ℕ, suc, ◌<◌, true, false, ltb, List, [], ◌∷◌, ◌++◌, length, Option, Some, None, refl}
use Rattle.std.proofs.Common.{sym, ◌∙◌, ap, inl, inr, arith}
use Rattle.std.specs.Prelude.{map, slice_get, is_none}
use Rattle.std.specs.List.{position_or_len}
use Rattle.std.specs.Str.{bytes_eq}
use Rattle.std.proofs.lemmas.Bool.{cases_Bool, false≢true, lt-ltb}
use Rattle.std.proofs.lemmas.Cmp.{nat_list_eq_equiv}
use Rattle.std.proofs.lemmas.Option.{same_Some}
use Rattle.c62_read.specs.Program.{Name, label_is}
use Rattle.c62_adopt_cut.specs.Blocks.{Draft}
use Rattle.c62_adopt.specs.Blocks.{target_number}
use Rattle.c62_meaning.proofs.Lookup.{In}
use Rattle.c62_flight.specs.Text.{Row}
use Rattle.c62_flight.proofs.Told.{find_none}
use Rattle.c62_rows.specs.Text.{lost_among}
use Rattle.c62_rows.specs.Word.{row_named}
use Rattle.c62_exec_back.proofs.Beginnings.{begins}
use Rattle.c62_exec_back.proofs.ReadRows.{labelled, labelled_by, begun_in}

-- ---- labels

-- the block of a label begins where the row of the label does
pub record IsPlaceOf (drafts : List Draft) (rows : List Row) (label : Name) (row : ℕ) : Type 0 where
  pub draft : Draft
  pub there : slice_get drafts (target_number drafts (Some label)) ≡ Some draft
  pub start : draft.start ≡ begins rows row

record IsFirstOf (drafts : List Draft) (rows : List Row) (label : Name) (row : ℕ) : Type 0 where
  number : ℕ
  first : position_or_len (λ draft. label_is label draft.label) drafts ≡ number
  inside : number < length drafts
  draft : Draft
  there : slice_get drafts number ≡ Some draft
  start : draft.start ≡ begins rows row

first_of : (drafts : List Draft) (rows : List Row) (labels : List (Name × ℕ)) (label : Name) (row : ℕ)
    → labelled drafts ≡ map (begun_in rows) labels
    → row_named label labels ≡ Some row → IsFirstOf drafts rows label row
first_of [] rows [] label row same named = absurd cc
first_of [] rows (x ∷ labels) label row same named = absurd cc
first_of (draft ∷ drafts) rows labels label row same named = by
    (λ others e n. first_of drafts rows others label row e n) draft.label refl labels same named
  where
    behind : label_is label draft.label ≡ false → IsFirstOf drafts rows label row
        → IsFirstOf (draft ∷ drafts) rows label row
    behind other r =
        let inside = r.inside in
        let first = r.first in
        record {
          number = suc r.number;
          first = rw other (omega (arith, first));
          inside = omega (arith, inside);
          draft =
              r.draft;
          there = r.there;
          start = r.start;
        }

    by : ((others : List (Name × ℕ)) → labelled drafts ≡ map (begun_in rows) others → row_named label others ≡ Some row
        → IsFirstOf drafts rows label row)
        → (given : Option Name) → draft.label ≡ given → (labels : List (Name × ℕ))
        → labelled_by draft.label draft.start ++ labelled drafts ≡ map (begun_in rows) labels
        → row_named label labels ≡ Some row
        → IsFirstOf (draft ∷ drafts) rows label row
    by rest None e labels same named =
        behind (ap (label_is label) e)
        (rest labels (ap (λ (given : Option Name). labelled_by given draft.start ++ labelled drafts) (sym e)
        ∙ same) named)
    by rest (Some name) e [] same named = absurd cc
    by rest (Some name) e (x ∷ labels) same named =
        let whole : (name, draft.start) ∷ labelled drafts ≡ begun_in rows x ∷ map (begun_in rows) labels
        = ap (λ (given : Option Name). labelled_by given draft.start ++ labelled drafts) (sym e) ∙ same in
        let head : (name, draft.start) ≡ begun_in rows x = cc in
        let tail : labelled drafts ≡ map (begun_in rows) labels = cc in
        let is : name ≡ x.0 = ap (λ (y : Name × ℕ). y.0) head in
        let start : draft.start ≡ begins rows x.1 = ap (λ (y : Name × ℕ). y.1) head in
        elim (cases_Bool (bytes_eq label x.0)) [
          | inl here ↦
              let row_is : x.1 ≡ row = same_Some x.1 row (rw here at named) in
              let test : label_is label draft.label ≡ true = ap (label_is label) e
              ∙ sym (nat_list_eq_equiv.symm label name) ∙ ap (bytes_eq label) is ∙ here in
              record {
                number = 0;
                first = rw test refl;
                inside = omega arith;
                draft = draft;
                there = refl;
                start =
                    start ∙ ap (begins rows) row_is;
              }
          | inr later ↦
              behind (ap (label_is label) e ∙ sym (nat_list_eq_equiv.symm label name) ∙ ap (bytes_eq label) is
              ∙ later) (rest labels tail (rw later at named))
        ]

pub place_of : (drafts : List Draft) (rows : List Row) (labels : List (Name × ℕ)) (label : Name) (row : ℕ)
    → labelled drafts ≡ map (begun_in rows) labels
    → row_named label labels ≡ Some row → IsPlaceOf drafts rows label row
place_of drafts rows labels label row same named =
    let r = first_of drafts rows labels label row same named in
    let here : ltb (position_or_len (λ (draft : Draft). label_is label draft.label) drafts) (length drafts) ≡ true = rw
    r.first (lt-ltb r.number (length drafts) r.inside) in
    let number : target_number drafts (Some label) ≡ r.number = rw here r.first in
    record { draft = r.draft; there = ap (slice_get drafts) number ∙ r.there; start = r.start }

-- a label that is named is found
pub found_row : (targets labels : List (Name × ℕ)) (target : Name × ℕ) → lost_among targets labels ≡ None
    → In target targets → (row : ℕ) × (row_named target.0 labels ≡ Some row)
found_row targets labels target found h = by (row_named target.0 labels) refl
  where
    by : (o : Option ℕ) → row_named target.0 labels ≡ o → (row : ℕ) × (row_named target.0 labels ≡ Some row)
    by (Some row) e = (row, e)
    by None e = absurd (false≢true
        (sym (find_none (λ (t : Name × ℕ). is_none (row_named t.0 labels)) targets found target h) ∙ ap is_none e))
