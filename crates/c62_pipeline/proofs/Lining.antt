-- Packets in the lines of a program.
use Rattle.std.proofs.Common.{arith, ◌≡◌, ℕ, zero, suc, ◌+◌, ◌<◌, ◌≤◌, List, [], ◌∷◌, ◌++◌, length, map, get_or, refl, sym, ap}
use Rattle.std.proofs.Common.{subst, ◌∙◌, inl, inr}
use Rattle.std.specs.Prelude.{All}
use Rattle.std.specs.List.Sorted.{IsStrictlyIncreasing}
use Rattle.std.proofs.lemmas.Bool.{cases_lt}
use Rattle.std.proofs.Common.{append_assoc, append-nil, drop}
use Rattle.std.proofs.lemmas.List.{drop_all, drop_more, get_or_default, length-map, map-append}
use Rattle.std.proofs.lemmas.List.Elements.{All-cons, All-map, All-push}
use Rattle.std.proofs.lemmas.Simd.{map-map}
use Rattle.c62_op.specs.Units.{index_of}
use Rattle.c62_insn.specs.declared.insn.Insn.{Insn}
use Rattle.c62_insn.specs.Insn.{IsSameInsn}
use Rattle.c62_read.specs.declared.block.SerialInsn.{SerialInsn}
use Rattle.c62_read.specs.Block.{Serial}
use Rattle.c62_packet.specs.declared.placed.Placed.{Placed}
use Rattle.c62_flight.specs.Text.{IsIssuable, Row, Text}
use Rattle.c62_rows.specs.declared.rows.Row.{Row as RowRead}
use Rattle.c62_rows.specs.declared.rows.Rows.{Rows as RowsRead}
use Rattle.c62_rows.specs.Rows.{row_read, text_of}
use Rattle.c62_loop_match.specs.Reading.{unlined}
use Rattle.c62_check_loop.specs.Relined.{AreRelined, row_unlined}
use Rattle.c62_pipeline.specs.Lined.{AreLined, IsInLine, IsLined, StandsIn}

-- ---- the lines of a block and of a program

-- none of the first so many is the same instruction
abbrev pub AreOthers : List SerialInsn → Insn → ℕ → Type 0
AreOthers entries insn count = (k : ℕ) (d : SerialInsn) → k < count → IsSameInsn (get_or entries k d).insn insn → ⊥

pub other_next : (entries : List SerialInsn) (insn : Insn) (count : ℕ) (entry : SerialInsn)
    → AreOthers entries insn count → count < length entries → entry ≡ get_or entries count entry
    → (IsSameInsn entry.insn insn → ⊥) → AreOthers entries insn (count + 1)
other_next entries insn count entry are inside at other k d low same = elim (cases_lt k count) [
  | inl before ↦ are k d before same
  | inr after ↦
      (let last : k ≡ count = omega (arith, low, after) in
      other (subst (λ (e : SerialInsn). IsSameInsn e.insn insn)
      (ap (λ (n : ℕ). get_or entries n d) last ∙ (get_or_default entries count d entry inside ∙ sym at)) same))
]

pub stands_here : (entries : List SerialInsn) (insn : Insn) (count : ℕ) (entry : SerialInsn) (line : ℕ)
    → count < length entries → entry ≡ get_or entries count entry → IsSameInsn entry.insn insn → entry.line ≡ line
    → StandsIn entries insn line
stands_here entries insn count entry line inside at same is =
    record { entry = entry; within = (count, inside, sym at); same = same; is = is }

pub none_stands : (entries : List SerialInsn) (insn : Insn) (count : ℕ) → AreOthers entries insn count
    → length entries ≤ count → (line : ℕ) → StandsIn entries insn line → ⊥
none_stands entries insn count are whole line stands =
    let inside = stands.within.1 in
    are stands.within.0 stands.entry (omega (arith, inside, whole))
    (subst (λ (e : SerialInsn). IsSameInsn e.insn insn) (sym stands.within.2) stands.same)

-- in none of the first so many blocks it stands
abbrev pub AreWithout : List Serial → Insn → ℕ → Type 0
AreWithout blocks insn count =
    (k : ℕ) (d : Serial) → k < count → (line : ℕ) → StandsIn (get_or blocks k d).insns insn line → ⊥

pub without_next : (blocks : List Serial) (insn : Insn) (count : ℕ) (block : Serial)
    → AreWithout blocks insn count → count < length blocks → block ≡ get_or blocks count block
    → ((line : ℕ) → StandsIn block.insns insn line → ⊥) → AreWithout blocks insn (count + 1)
without_next blocks insn count block are inside at other k d low line stands = elim (cases_lt k count) [
  | inl before ↦ are k d before line stands
  | inr after ↦
      (let last : k ≡ count = omega (arith, low, after) in
      other line (subst (λ (b : Serial). StandsIn b.insns insn line)
      (ap (λ (n : ℕ). get_or blocks n d) last ∙ (get_or_default blocks count d block inside ∙ sym at)) stands))
]

pub in_line_here : (blocks : List Serial) (insn : Insn) (count : ℕ) (block : Serial) (line : ℕ)
    → count < length blocks → block ≡ get_or blocks count block → StandsIn block.insns insn line
    → IsInLine blocks insn line
in_line_here blocks insn count block line inside at stands =
    record { block = block; within = (count, inside, sym at); stands = stands }

pub none_in_line : (blocks : List Serial) (insn : Insn) (count : ℕ) → AreWithout blocks insn count
    → length blocks ≤ count → (line : ℕ) → IsInLine blocks insn line → ⊥
none_in_line blocks insn count are whole line is =
    let inside = is.within.1 in
    are is.within.0 is.block (omega (arith, inside, whole)) line
    (subst (λ (b : Serial). StandsIn b.insns insn line) (sym is.within.2) is.stands)

-- ---- the units issue such packets, too

follow : (P : Row → Type 0) → ((row other : Row) → row_unlined row ≡ row_unlined other → P row → P other)
    → (rows others : List Row) → map row_unlined rows ≡ map row_unlined others → All P rows → All P others
follow P same [] [] e all = λ k d low. absurd (omega (arith, low))
follow P same [] (other ∷ others) e all = absurd cc
follow P same (row ∷ rows) [] e all = absurd cc
follow P same (row ∷ rows) (other ∷ others) e all =
    let first : row_unlined row ≡ row_unlined other = cc in
    let rest : map row_unlined rows ≡ map row_unlined others = cc in
    All-cons P other others (same row other first (all 0 row (omega arith)))
    (follow P same rows others rest (λ j d inside. all (suc j) d (omega (arith, inside))))

units_of : Row → List ℕ
units_of row = map (λ (p : Placed). index_of p.unit) row.insns

same_units : (row other : Row) → row_unlined row ≡ row_unlined other → units_of row ≡ units_of other
unfolding units_of
same_units row other e =
    sym (map-map (λ (p : Placed). index_of p.unit) unlined row.insns)
    ∙ (ap units_of e ∙ map-map (λ (p : Placed). index_of p.unit) unlined other.insns)

as_many : (row other : Row) → row_unlined row ≡ row_unlined other → length row.insns ≡ length other.insns
as_many row other e =
    sym (length-map row.insns unlined) ∙ (ap (λ (r : Row). length r.insns) e ∙ length-map other.insns unlined)

pub relined_issuable : (text other : Text) → AreRelined text other → IsIssuable text → IsIssuable other
unfolding units_of
relined_issuable text other relined is = record {
  in_order = follow (λ row. IsStrictlyIncreasing (units_of row))
      (λ row also e. subst IsStrictlyIncreasing (same_units row also e)) text.rows other.rows relined.rows is.in_order;
  few_insns = follow (λ row. length row.insns ≤ 8)
      (λ row also e few. (let many = as_many row also e in omega (arith, many, few))) text.rows other.rows relined.rows
      is.few_insns;
  few_rows = (let long = length-map text.rows row_unlined in
      let wide = length-map other.rows row_unlined in
      let same = ap (λ (rows : List Row). length rows) relined.rows in
      let few = is.few_rows in
      omega (arith, long, wide, same, few));
}

-- ---- one after the other

-- a list of images grows by the next
pub image_next : {A B C : Type 0} (f : A → C) (g : B → C) (xs : List A) (ys more : List B) (k : ℕ) (d : A) (y : B)
    → map g ys ++ map f (drop k xs) ≡ map f xs → k < length xs → f (get_or xs k d) ≡ g y → more ≡ ys ++ y ∷ []
    → map g more ++ map f (drop (k + 1) xs) ≡ map f xs
image_next {A} {B} {C} f g xs ys more k d y old inside same is =
    let rest = map f (drop (k + 1) xs) in
    ap (λ (zs : List B). map g zs ++ rest) is
    ∙ (ap (λ (zs : List C). zs ++ rest) (map-append g ys (y ∷ []))
    ∙ (append_assoc (map g ys) (g y ∷ []) rest
    ∙ (ap (λ (z : C). map g ys ++ z ∷ rest) (sym same)
    ∙ (ap (λ (zs : List A). map g ys ++ map f zs) (sym (drop_more xs k d inside)) ∙ old))))

-- and is the whole at the end
pub image_whole : {A B C : Type 0} (f : A → C) (g : B → C) (xs : List A) (ys : List B) (k : ℕ)
    → map g ys ++ map f (drop k xs) ≡ map f xs → length xs ≤ k → map f xs ≡ map g ys
image_whole {A} {B} {C} f g xs ys k old end =
    sym old ∙ (ap (λ (zs : List A). map g ys ++ map f zs) (drop_all k xs end) ∙ append-nil (map g ys))

-- ---- texts

-- rows that are read and put into lines one by one
pub rows_lined : (program : List Serial) (text lined : RowsRead) (rows : List RowRead) (aims : List ℕ)
    → lined.rows.items ≡ rows → lined.aims.items ≡ aims → aims ≡ text.aims.items
    → map (λ row. row_unlined (row_read row)) text.rows.items ≡ map (λ row. row_unlined (row_read row)) rows
    → All (λ row. All (IsLined program) row.insns.items) rows → AreLined program (text_of text) (text_of lined)
rows_lined program text lined rows aims are_rows are_aims same_aims same all = record {
  relined = record {
    rows = map-map row_unlined row_read text.rows.items
        ∙ (same ∙ (ap (λ (rs : List RowRead). map (λ row. row_unlined (row_read row)) rs) (sym are_rows)
        ∙ sym (map-map row_unlined row_read lined.rows.items)));
    aims = sym same_aims ∙ sym are_aims;
  };
  lines = All-map (λ row. All (IsLined program) row.insns) row_read lined.rows.items
      (subst (λ (rs : List RowRead). All (λ row. All (IsLined program) row.insns.items) rs) (sym are_rows) all);
}
