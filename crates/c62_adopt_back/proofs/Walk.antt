-- The lines of a listing are read as its blocks.
use Rattle.c62_adopt_back.proofs.Common.{nat_tests, arith, ◌≡◌, ℕ, ◌+◌, ◌<◌, ◌≤◌, List, [], ◌∷◌, ◌++◌, length, Bool}
use Rattle.c62_adopt_back.proofs.Common.{true, false, Option, Some, None}
use Rattle.c62_adopt_back.proofs.Common.{refl, sym, ap, ◌∙◌, subst, append_assoc, append-nil, length-append, ◌||◌}
use Rattle.c62_adopt_back.proofs.Common.{AllByRecursion, list_any, Name}
use Rattle.c62_adopt_back.proofs.Common.{label_is, Placed, Packed, is_branching_placed, Line, cycles_of, Draft, Drafts}
use Rattle.c62_adopt_back.proofs.Common.{all_drafts, no_drafts}
use Rattle.c62_adopt_back.proofs.Common.{all_lines, block_lines, cycle_lines, label_lines, parted_lines}
use Rattle.std.proofs.Common.{suc}
use Rattle.std.proofs.lemmas.Bool.{false≢true}
use Rattle.c62_token.specs.Number.{is_label}
use Rattle.c62_listing_reader.proofs.BackLemmas.{AreBehind}
use Rattle.c62_adopt_back.proofs.Blocks.{IsAt, IsDraftOf, Site, as_opened}
use Rattle.c62_adopt_back.proofs.Cuts.{last_cut, no_cuts}
use Rattle.c62_adopt_back.proofs.Cycles.{BranchOnce, IsListed, branched_behind, cycles_lead}
use Rattle.c62_adopt_back.proofs.Leading.{Leads, no_lines, so_leads, then_lines}
use Rattle.c62_adopt_back.proofs.Starts.{AreOver, gap_leads, label_leads}
use Rattle.c62_read.specs.declared.limits.TheConstants.{MOST_BLOCKS, MOST_INSTRUCTIONS}
use Rattle.c62_packet.specs.declared.limits.TheConstants.{MOST_CYCLES}
use Rattle.c62_op.specs.declared.set.InstructionSet.{InstructionSet}

-- ---- what is read of blocks

-- each block of these from where the one before it ends, and the last ends in the last of these cycles
unfoldable pub AreRead : (ℕ → Name) → ℕ → ℕ → List Draft → List Packed → Type 0
AreRead name start end [] [] = start ≡ end
AreRead name start end (draft ∷ drafts) (block ∷ blocks) =
    IsDraftOf name block.label start block.placed draft × AreRead name (start + block.cycles) end drafts blocks
AreRead name start end _ _ = ⊥

read_more : (name : ℕ
    → Name) (start end : ℕ) (drafts : List Draft) (blocks : List Packed) (draft : Draft) (block : Packed)
    → AreRead name start end drafts blocks → IsDraftOf name block.label end block.placed draft
    → AreRead name start (end + block.cycles) (drafts ++ draft ∷ []) (blocks ++ block ∷ [])
unfolding AreRead
read_more name start end [] [] draft block are is = rw are (is, refl)
read_more name start end [] (b ∷ blocks) draft block are is = absurd are
read_more name start end (d ∷ drafts) [] draft block are is = absurd are
read_more name start end (d ∷ drafts) (b ∷ blocks) draft block are is =
    (are.0, read_more name (start + b.cycles) end drafts blocks draft block are.1 is)

read_length : (name : ℕ → Name) (start end : ℕ) (drafts : List Draft) (blocks : List Packed)
    → AreRead name start end drafts blocks
    → length drafts ≡ length blocks
unfolding AreRead
read_length name start end [] [] are = refl
read_length name start end [] (b ∷ blocks) are = absurd are
read_length name start end (d ∷ drafts) [] are = absurd are
read_length name start end (d ∷ drafts) (b ∷ blocks) are = ap suc
    (read_length name (start + b.cycles) end drafts blocks are.1)

read_taken : (name : ℕ → Name) (start end : ℕ) (label : Name) (drafts : List Draft) (blocks : List Packed)
    → AreRead name start end drafts blocks
    → list_any (λ draft. label_is label draft.label) drafts ≡ list_any (λ block. label_is label block.label) blocks
unfolding AreRead
read_taken name start end label [] [] are = refl
read_taken name start end label [] (b ∷ blocks) are = absurd are
read_taken name start end label (d ∷ drafts) [] are = absurd are
read_taken name start end label (d ∷ drafts) (b ∷ blocks) are =
    grind (arith, are.0.label_is, read_taken name (start + b.cycles) end label drafts blocks are.1)

-- ---- a block

-- what is asked of a block behind these, where its beginning is a cut without a label too
pub record IsGood (isa : InstructionSet) (name : ℕ → Name) (passed : List Packed) (cut : Bool)
    (block : Packed) : Type 0 where
  pub label : (l : Name) → block.label ≡ Some l → is_label l ≡ true
  pub free : (l : Name) → block.label ≡ Some l → list_any (λ other. label_is l other.label) passed ≡ false
  pub begun : block.label ≡ None → 0 < length block.placed
  pub parted : block.label ≡ None → cut ≡ true
  pub listed : AllByRecursion (IsListed isa name block.cycles) block.placed
  pub order : (p : Placed) (rest : List Placed) → block.placed ≡ p ∷ rest → AreBehind p rest
  pub once : BranchOnce false block.placed
  pub few : length block.placed ≤ MOST_INSTRUCTIONS
  pub short : block.cycles ≤ MOST_CYCLES

-- these are read, and over
pub record ArePassed (name : ℕ
    → Name) (passed : List Packed) (cut : Bool) (above : List Line) (drafts : Drafts) : Type 0 where
  pub end : ℕ
  pub read : AreRead name 0 end (all_drafts drafts) passed
  pub over : AreOver end cut above drafts

-- a block with a branch has cycles
some_cycles : (isa : InstructionSet) (name : ℕ → Name) (cycles : ℕ) (branched : Bool) (placed : List Placed)
    → (branched ≡ true → 0 < cycles)
    → AllByRecursion (IsListed isa name cycles) placed → branched_behind branched placed ≡ true
    → 0 < cycles
unfolding branched_behind
some_cycles isa name cycles branched [] some listed is = some is
some_cycles isa name cycles branched (p ∷ placed) some listed is =
    some_cycles isa name cycles (branched || is_branching_placed p) placed (λ here. omega (arith, listed.0.fits.ends))
    listed.1 is

-- a block that is read to its end
block_passed : (site : Site) (passed : List Packed) (block : Packed) (branched : Bool) (above : List Line)
    (drafts : Drafts)
    → AreRead site.name 0 site.start site.done passed → site.label ≡ block.label → site.cycles ≡ block.cycles
    → (block.label ≡ None → 0 < length block.placed) → (branched ≡ true → 0 < block.cycles)
    → IsAt site site.cycles branched block.placed above drafts
    → ArePassed site.name (passed ++ block ∷ []) branched above drafts
block_passed site passed block branched above drafts read label cycles begun some is =
    let same : drafts ≡ record { done = site.done; current = Some is.draft } =
    as_opened site.start drafts _ is.opens (is.begun (λ none. begun (sym label ∙ none))) in
    record {
      end = site.start + block.cycles;
      read = rw same (read_more site.name 0 site.start site.done passed is.draft block read
          (subst (λ (l : Option Name). IsDraftOf site.name l site.start block.placed is.draft) label is.is));
      over = record {
        passed = is.passed ∙ ap (λ (n : ℕ). site.start + n) cycles;
        first = site.start;
        last = last_cut branched site.start site.cycles;
        cuts = is.cuts;
        low = omega arith;
        late = grind (arith, nat_tests, cycles);
        parted = λ cut. (grind (arith, nat_tests, cycles), rw same (grind (arith, nat_tests, is.is.starts, some cut)));
      };
    }

module _ (isa : InstructionSet) (name : ℕ → Name) where
  block_leads : (passed : List Packed) (block : Packed) (cut : Bool) (number : ℕ) (above : List Line) (drafts : Drafts)
      → length passed < MOST_BLOCKS
      → ArePassed name passed cut above drafts → IsGood isa name passed cut block
      → Leads isa above drafts number (block_lines name block)
      (ArePassed name (passed ++ block ∷ []) (branched_behind false block.placed))
  block_leads passed block cut number above drafts few are good =
      let site : Site = record
      { name = name; done = all_drafts drafts; label = block.label; start = are.end; cycles = block.cycles } in
      let branched : Bool = branched_behind false block.placed in
      let some : length (all_drafts drafts) < MOST_BLOCKS = omega
      (arith, few, read_length name 0 are.end (all_drafts drafts) passed are.read) in
      let free : (l : Name) → block.label ≡ Some l
      → list_any (λ draft. label_is l draft.label) (all_drafts drafts) ≡ false =
      λ l is. read_taken name 0 are.end l (all_drafts drafts) passed are.read ∙ good.free l is in
      then_lines isa above drafts number (label_lines block.label) (cycle_lines name 0 block.cycles block.placed)
      (IsAt site 0 false [])
      (ArePassed name (passed ++ block ∷ []) branched)
      (label_leads isa name are.end block.cycles cut above drafts are.over block.label number good.label free
      good.parted
      some)
      (λ a d n at. so_leads isa a d n (cycle_lines name 0 block.cycles block.placed)
      (IsAt site block.cycles branched block.placed)
      (ArePassed name (passed ++ block ∷ []) branched)
      (cycles_lead isa site some good.short block.placed n a d at good.listed good.order good.once good.few)
      (λ a2 d2 at_end. block_passed site passed block branched a2 d2 are.read refl refl good.begun
      (some_cycles isa name block.cycles false block.placed (λ no. absurd (false≢true no)) good.listed) at_end))

-- ---- all blocks

-- each of these blocks is good behind those before it
unfoldable pub AllGood : InstructionSet → (ℕ → Name) → List Packed → Bool → List Packed → Type 0
AllGood isa name passed cut [] = Unit {0}
AllGood isa name passed cut (block ∷ blocks) =
    IsGood isa name passed cut block
    × AllGood isa name (passed ++ block ∷ []) (branched_behind false block.placed) blocks

-- all are passed, wherever the last one is cut
pub record AreAllPassed (name : ℕ → Name) (packets : List Packed) (above : List Line) (drafts : Drafts) : Type 0 where
  pub read : AreRead name 0 (cycles_of above) (all_drafts drafts) packets

module _ (isa : InstructionSet) (name : ℕ → Name) where
  all_passed : (packets : List Packed) (cut : Bool) (above : List Line) (drafts : Drafts)
      → ArePassed name packets cut above drafts
      → AreAllPassed name packets above drafts
  all_passed packets cut above drafts are = record { read = rw are.over.passed are.read }

  parted_lead : (passed blocks : List Packed) (cut : Bool) (number : ℕ) (above : List Line) (drafts : Drafts)
      → length passed + length blocks ≤ MOST_BLOCKS → ArePassed name passed cut above drafts
      → AllGood isa name passed cut blocks
      → Leads isa above drafts number (parted_lines name blocks) (AreAllPassed name (passed ++ blocks))
  unfolding AllGood
  parted_lead passed [] cut number above drafts few are good =
      rw (append-nil passed)
      (no_lines isa above drafts number (AreAllPassed name passed) (all_passed passed cut above drafts are))
  parted_lead passed (block ∷ blocks) cut number above drafts few are good =
      let count : length (passed ++ block ∷ []) ≡ length passed + 1 = length-append passed (block ∷ []) in
      let next : Bool = branched_behind false block.placed in
      rw (← append_assoc passed (block ∷ []) blocks)
      (then_lines isa above drafts number ([] ∷ []) (block_lines name block ++ parted_lines name blocks)
      (ArePassed name passed cut)
      (AreAllPassed name ((passed ++ block ∷ []) ++ blocks))
      (gap_leads isa are.end cut above drafts number (ArePassed name passed cut) are.over
      (λ a over. record { end = are.end; read = are.read; over = over }))
      (λ a d n at. then_lines isa a d n (block_lines name block) (parted_lines name blocks)
      (ArePassed name (passed ++ block ∷ []) next)
      (AreAllPassed name ((passed ++ block ∷ []) ++ blocks))
      (block_leads isa name passed block cut n a d (omega (arith, few)) at good.0)
      (λ a2 d2 n2 at2. parted_lead (passed ++ block ∷ []) blocks next n2 a2 d2 (omega (arith, few, count)) at2 good.1)))

  start_passed : ArePassed name [] true [] no_drafts
  unfolding AreRead
  start_passed = record {
    end = 0;
    read = refl;
    over = record {
      passed = refl;
      first = 0;
      last = 0;
      cuts = no_cuts;
      low = omega arith;
      late = omega arith;
      parted =
          λ cut. (refl, refl);
    };
  }

  -- the lines of a listing are read as its blocks
  pub all_lead : (packets : List Packed) → length packets ≤ MOST_BLOCKS → AllGood isa name [] true packets
      → Leads isa [] no_drafts 1 (all_lines name packets) (AreAllPassed name packets)
  unfolding AllGood
  all_lead [] few good =
      no_lines isa [] no_drafts 1 (AreAllPassed name []) (all_passed [] true [] no_drafts start_passed)
  all_lead (block ∷ blocks) few good =
      let next : Bool = branched_behind false block.placed in
      then_lines isa [] no_drafts 1 (block_lines name block) (parted_lines name blocks)
      (ArePassed name (block ∷ []) next)
      (AreAllPassed name (block ∷ blocks))
      (block_leads isa name [] block true 1 [] no_drafts (omega arith) start_passed good.0)
      (λ a d n at. parted_lead (block ∷ []) blocks next n a d (omega (arith, few)) at good.1)
