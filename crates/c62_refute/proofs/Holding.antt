-- What windows hold when one of them changes.
use Rattle.std.proofs.Common.{arith, ◌≡◌, ◌≢◌, ℕ, pos, ◌+ℤ◌, ◌≤ℤ◌, ◌+◌, ◌<◌, ◌≤◌, List, [], ◌∷◌, ◌++◌, length, Some}
use Rattle.std.proofs.Common.{refl, sym, ap, ◌∙◌, subst, inl, inr, ◌⊎◌, get_or}
use Rattle.std.specs.Prelude.{slice_get, slice_set}
use Rattle.std.proofs.lemmas.Bool.{cases_eq, cases_lt}
use Rattle.std.proofs.lemmas.List.{get_or-set_same, get_or-set_other, length-set, length-append, get_or_append_left}
use Rattle.std.proofs.lemmas.List.{get_or_push}
use Rattle.std.proofs.lemmas.Option.{slice_get_within, slice_get-get_or, get_or_from_slice_get, same_Some}
use Rattle.c62_insn.specs.declared.insn.Insn.{Insn}
use Rattle.c62_op.specs.Shape.{delay_of}
use Rattle.c62_insn.specs.Insn.{op_of}
use Rattle.c62_depend.specs.Latency.{latency}
use Rattle.c62_depend.proofs.Latencies.{latency-is}
use Rattle.c62_depend.proofs.Plans.{short_is}
use Rattle.c62_sheet.specs.declared.entry.Spot.{Spot}
use Rattle.c62_sheet.specs.Lawful.{Spots, IsAt, spot_at}
use Rattle.c62_bound.specs.Laws.{IsSeated}
use Rattle.c62_bound.proofs.Paths.{spot_of, bound_of}
use Rattle.c62_refute.specs.declared.window.Window.{Window as Cycles}
use Rattle.c62_refute.specs.declared.edge.Edge.{Edge as Distance}
use Rattle.c62_refute.specs.Window.{IsIn, AreIn, HoldNone, KeepAll, HoldAll, IsRefuted}
use Rattle.c62_refute.specs.Edge.{IsEdge}

pub keep_same : (block : List Insn) (windows : List Cycles) → KeepAll block windows windows
keep_same block windows set cycles seated are = are

pub keep_on : (block : List Insn) (first second third : List Cycles) → KeepAll block first second
    → KeepAll block second third → KeepAll block first third
keep_on block first second third p q set cycles seated are = q set cycles seated (p set cycles seated are)

pub none_before : (block : List Insn) (old new : List Cycles) → KeepAll block old new → HoldNone block new
    → HoldNone block old
none_before block old new keeps none set cycles seated are = none set cycles seated (keeps set cycles seated are)

-- an instruction without a cycle is in no schedule
pub none_left : (block : List Insn) (windows : List Cycles) (i : ℕ) (window : Cycles) → length windows ≡ length block
    → slice_get windows i ≡ Some window
    → ((cycle : ℕ) → IsIn window cycle → ⊥) → HoldNone block windows
none_left block windows i window sized at empty set cycles seated are =
    let within = slice_get_within windows i window at in
    let s = spot_of (spot_at set i) (seated.complete i (omega (arith, within, sized))) in
    empty s.0.cycle (are i window s.0 at s.1)

-- the window of a number after one was set
pub at_set : (windows : List Cycles) (i j : ℕ) (new w : Cycles) → slice_get (slice_set windows i new) j ≡ Some w
    → ((j ≡ i) × (w ≡ new)) ⊎ ((j ≢ i) × (slice_get windows j ≡ Some w))
at_set windows i j new w at =
    let within = slice_get_within (slice_set windows i new) j w at in
    let long : length (slice_set windows i new) ≡ length windows = length-set windows i new in
    let here : get_or (slice_set windows i new) j w ≡ w = get_or_from_slice_get (slice_set windows i new) j w w at in
    elim (cases_eq j i) [
      | inl e ↦
          (let now : get_or (slice_set windows i new) i w ≡ new = get_or-set_same windows i new w
          (omega (arith, within, long, e)) in
          inl (e, sym here ∙ ap (λ (k : ℕ). get_or (slice_set windows i new) k w) e ∙ now))
      | inr ne ↦
          (let stays : get_or (slice_set windows i new) j w ≡ get_or windows j w = get_or-set_other windows i j new w ne
          in
          inr (ne, slice_get-get_or windows j w (omega (arith, within, long)) ∙ ap Some (sym stays ∙ here)))
    ]

-- one window is replaced
pub keep_set : (block : List Insn) (windows : List Cycles) (i : ℕ) (new : Cycles)
    → ((set : Spots) (cycles : ℕ) (s : Spot) → IsSeated block set cycles → AreIn windows set → IsAt set i s
    → IsIn new s.cycle)
    → KeepAll block windows (slice_set windows i new)
keep_set block windows i new fits set cycles seated are j w s at is = elim (at_set windows i j new w at) [
  | inl v ↦ subst (λ (window : Cycles). IsIn window s.cycle) (sym v.1)
      (fits set cycles s seated are (subst (λ (k : ℕ). IsAt set k s) v.0 is))
  | inr v ↦ are j w s v.1 is
]

-- ---- dependences

pub edge_before : (block : List Insn) (edge : Distance) → IsEdge block edge → edge.from < edge.link.number
edge_before block edge is = (short_is block edge.from edge.link.number edge.link.latency is).before

pub edge_within : (block : List Insn) (edge : Distance) → IsEdge block edge → edge.link.number < length block
edge_within block edge is = (short_is block edge.from edge.link.number edge.link.latency is).within

kept_by : (block : List Insn) (set : Spots) (cycles : ℕ) (edge : Distance) (s t : Spot) → IsSeated block set cycles
    → IsEdge block edge
    → IsAt set edge.from s → IsAt set edge.link.number t → (pos s.cycle +ℤ edge.link.latency) ≤ℤ pos t.cycle
kept_by block set cycles edge s t seated is is_from is_to =
    seated.delays edge.from edge.link.number edge.link.latency s t
    (bound_of block edge.from edge.link.number (latency block edge.from edge.link.number) edge.link.latency
    (latency-is block edge.from edge.link.number) is) is_from is_to

-- both windows of a dependence are replaced by what is left
pub keep_edge_by : (block : List Insn) (windows : List Cycles) (edge : Distance) (earlier later before behind : Cycles)
    → IsEdge block edge
    → length windows ≡ length block → slice_get windows edge.from ≡ Some earlier
    → slice_get windows edge.link.number ≡ Some later
    → ((c d : ℕ) → IsIn earlier c → IsIn later d → (pos c +ℤ edge.link.latency) ≤ℤ pos d → IsIn before c)
    → ((c d : ℕ) → IsIn earlier c → IsIn later d → (pos c +ℤ edge.link.latency) ≤ℤ pos d → IsIn behind d)
    → KeepAll block windows (slice_set (slice_set windows edge.from before) edge.link.number behind)
keep_edge_by block windows edge earlier later before behind is sized at_from at_to fits_before fits_behind set cycles
    seated are j w r at here =
    elim (at_set (slice_set windows edge.from before) edge.link.number j behind w at) [
      | inl v ↦
          (let is_to : IsAt set edge.link.number r = subst (λ (k : ℕ). IsAt set k r) v.0 here in
          let ordered = edge_before block edge is in
          let inside = edge_within block edge is in
          let s = spot_of (spot_at set edge.from) (seated.complete edge.from (omega (arith, ordered, inside))) in
          let fits = fits_behind s.0.cycle r.cycle (are edge.from earlier s.0 at_from s.1)
          (are edge.link.number later r at_to is_to)
          (kept_by block set cycles edge s.0 r seated is s.1 is_to) in
          subst (λ (window : Cycles). IsIn window r.cycle) (sym v.1) fits)
      | inr v ↦ elim (at_set windows edge.from j before w v.1) [
        | inl u ↦
            (let is_from : IsAt set edge.from r = subst (λ (k : ℕ). IsAt set k r) u.0 here in
            let t = spot_of (spot_at set edge.link.number)
            (seated.complete edge.link.number (edge_within block edge is)) in
            let fits = fits_before r.cycle t.0.cycle (are edge.from earlier r at_from is_from)
            (are edge.link.number later t.0 at_to t.1)
            (kept_by block set cycles edge r t.0 seated is is_from t.1) in
            subst (λ (window : Cycles). IsIn window r.cycle) (sym u.1) fits)
        | inr u ↦ are j w r u.1 here
      ]
    ]

-- ---- choices

-- Where no schedule has the instruction in the last of its cycles, what is left without that one holds what was held.
pub keep_without : (block : List Insn) (windows : List Cycles) (i : ℕ) (window end without : Cycles)
    → slice_get windows i ≡ Some window
    → ((c : ℕ) → IsIn window c → c ≡ window.last → IsIn end c)
    → ((c : ℕ) → IsIn window c → (c ≡ window.last → ⊥) → IsIn without c)
    → HoldNone block (slice_set windows i end) → KeepAll block windows (slice_set windows i without)
keep_without block windows i window end without at fits_end fits_without none set cycles seated are =
    keep_set block windows i without (λ other length s is_seated all is. fits_without s.cycle (all i window s at is)
    (λ e. none other length is_seated (λ j w r there here. chosen other length s is_seated all is e j w r there here)))
    set cycles seated are
  where
    chosen : (other : Spots) (length : ℕ) (s : Spot) → IsSeated block other length → AreIn windows other
        → IsAt other i s → s.cycle ≡ window.last
        → AreIn (slice_set windows i end) other
    chosen other length s is_seated all is e j w r there here = elim (at_set windows i j end w there) [
      | inl v ↦
          (let own : IsAt other i r = subst (λ (k : ℕ). IsAt other k r) v.0 here in
          let same : s ≡ r = same_Some s r (sym is ∙ own) in
          subst (λ (c : Cycles). IsIn c r.cycle) (sym v.1)
          (fits_end r.cycle (all i window r at own) (ap (λ (x : Spot). x.cycle) (sym same) ∙ e)))
      | inr v ↦ all j w r v.1 here
    ]

-- ---- the whole block

pub none_refuted : (block : List Insn) (most : ℕ) (windows : List Cycles) → HoldAll block most windows
    → HoldNone block windows → IsRefuted block most
none_refuted block most windows all none set cycles seated short = none set cycles seated (all set cycles seated short)

-- ---- in lists

abbrev pub any_window : Cycles
any_window = record { first = 0; last = 0 }

pub window_at : (windows : List Cycles) (i : ℕ) → i < length windows
    → slice_get windows i ≡ Some (get_or windows i any_window)
window_at windows i within = slice_get-get_or windows i any_window within

-- ---- the windows of a block that ends within so many cycles

long_push : (windows : List Cycles) (window : Cycles) → length (windows ++ window ∷ []) ≡ length windows + 1
long_push windows window = length-append windows (window ∷ [])

get_before : (windows : List Cycles) (window : Cycles) (j : ℕ) → j < length windows
    → slice_get (windows ++ window ∷ []) j ≡ slice_get windows j
get_before windows window j low =
    slice_get-get_or (windows ++ window ∷ []) j window (omega (arith, low, long_push windows window))
    ∙ ap Some (get_or_append_left windows (window ∷ []) window j low) ∙ sym (slice_get-get_or windows j window low)

get_last : (windows : List Cycles) (window : Cycles) → slice_get (windows ++ window ∷ []) (length windows) ≡ Some window
get_last windows window =
    slice_get-get_or (windows ++ window ∷ []) (length windows) window (omega (arith, long_push windows window))
    ∙ ap Some (get_or_push windows window window (length windows) refl)

pub hold_one : (block : List Insn) (most : ℕ) (windows : List Cycles) (insn : Insn) (window : Cycles)
    → HoldAll block most windows
    → slice_get block (length windows) ≡ Some insn
    → ((c : ℕ) → c + delay_of (op_of insn) + 1 ≤ most → IsIn window c) → HoldAll block most (windows ++ window ∷ [])
hold_one block most windows insn window hold at fits set cycles seated short j w s there is = elim
    (cases_lt j (length windows)) [
      | inl low ↦ hold set cycles seated short j w s (sym (get_before windows window j low) ∙ there) is
      | inr high ↦
          (let within = slice_get_within (windows ++ window ∷ []) j w there in
          let long : length (windows ++ window ∷ []) ≡ length windows + 1 = long_push windows window in
          let last : j ≡ length windows = omega (arith, high, within, long) in
          let same : w ≡ window = same_Some w window (sym there
          ∙ (ap (slice_get (windows ++ window ∷ [])) last ∙ get_last windows window)) in
          let ends = seated.ends j insn s (ap (slice_get block) last ∙ at) is in
          subst (λ (v : Cycles). IsIn v s.cycle) (sym same) (fits s.cycle (omega (arith, ends, short))))
    ]
