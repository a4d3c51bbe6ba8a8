-- The instruction of a line is one of a row, beside those of its cycle.
use Rattle.std.proofs.Common.{◌≡◌, ℕ, ◌+◌, ◌<◌, true, false, List, [], ◌∷◌, Option, Some, None, refl, sym, ◌∙◌, ap}
use Rattle.std.proofs.Common.{subst, inl, inr, arith}
use Rattle.std.specs.List.{list_any}
use Rattle.std.proofs.lemmas.Bool.{cases_Bool}
use Rattle.std.proofs.lemmas.Option.{same_Some}
use Rattle.c62_op.specs.declared.operands.Operands.{Operands}
use Rattle.c62_op.specs.Units.{index_of}
use Rattle.c62_op.specs.Shape.{is_branch}
use Rattle.c62_insn.specs.Insn.{op_of, unit_of, aimed_operands}
use Rattle.c62_rules.specs.Resource.{taken_by}
use Rattle.c62_line.specs.Line.{Parts, parts_of}
use Rattle.c62_read.specs.Program.{Name}
use Rattle.c62_packet.specs.declared.placed.Placed.{Placed}
use Rattle.c62_packet.specs.Packed.{Packed, IsPacketBlock, is_branching}
use Rattle.c62_listing_reader.specs.Said.{Part, aimed_parts}
use Rattle.c62_adopt_line.specs.Line.{Line}
use Rattle.c62_adopt_line.specs.Laws.{names_block}
use Rattle.c62_adopt_cut.specs.Blocks.{Draft, Issue}
use Rattle.c62_adopt_cut.specs.Flight.{branches}
use Rattle.c62_adopt_cut.specs.Home.{Home, homes_in}
use Rattle.c62_adopt.specs.Blocks.{target_number}
use Rattle.c62_meaning.proofs.Lookup.{In}
use Rattle.c62_rows.specs.Rows.{MayJoin, are_two_branches}
use Rattle.c62_exec_back.proofs.Joining.{AreApart, AreLike, IsLike, enough_in_row, same_taken}
use Rattle.c62_exec_back.proofs.Pairs.{AreAdopted, IsPair, of_home, one_block, pair_cycle, unit_written, plain_issue}
use Rattle.c62_exec_back.proofs.BlockStarts.{found_branch}
use Rattle.c62_exec_back.proofs.Rising.{UnitsRise}
use Rattle.c62_exec_back.proofs.ReadRows.{IsOf, IsPartsOf}
use Rattle.c62_exec_back.proofs.Stood.{Stood}
use Rattle.c62_exec_back.proofs.AimedInsns.{aimed_fine, unaimed}

-- ---- a row's instructions in their block

module _ (lines : List Line) (end : ℕ) (drafts : List Draft) (packets : List Packed)
    (are : AreAdopted lines end drafts packets) where
  -- the instruction of a line with its target by this number
  pub record IsMade (h : Home) (number : ℕ) (p : Placed) : Type 0 where
    pub parts : parts_of p.insn ≡ aimed_parts number h.issue.parts
    pub line : p.line ≡ h.issue.line
    pub cycle : p.cycle ≡ 0
    pub unit : unit_of p.insn ≡ Some p.unit

  pub made : (h : Home) (other : ℕ) → In h (homes_in lines) → (p : Placed) × IsMade h other p
  made h other there =
      let r = of_home lines end drafts packets are h there in
      let q : Placed = r.1 in
      let parts : parts_of q.insn ≡ aimed_parts (target_number drafts h.issue.target) h.issue.parts = ap
      (λ (part : Part). part.parts) r.2.parts in
      let fine = aimed_fine h.issue.parts.operands q.insn (target_number drafts h.issue.target) other
      (ap (λ (x : Parts). x.operands) parts) in (
        record {
          insn = record {
            op = q.insn.op;
            operands = aimed_operands other h.issue.parts.operands;
            cond = q.insn.cond;
            unit = q.insn.unit;
            well_formed = fine;
          };
          line = h.issue.line;
          cycle = 0;
          unit = q.unit;
        },
        record {
          parts = grind (arith, parts);
          line = refl;
          cycle = refl;
          unit = unit_written drafts end packets r.0 h q r.2;
        },
      )

  -- an instruction of a row: what it is in its block
  like : (h : Home) (other number : ℕ) (p q : Placed) → parts_of p.insn ≡ aimed_parts other h.issue.parts
      → p.line ≡ h.issue.line → p.cycle ≡ 0 → unit_of p.insn ≡ Some p.unit
      → IsPair drafts end packets number h q → IsLike h.issue.cycle p q
  like h other number p q parts line cycle unit pair =
      let its : parts_of q.insn ≡ aimed_parts (target_number drafts h.issue.target) h.issue.parts = ap
      (λ (part : Part). part.parts) pair.parts in
      let units : unit_of p.insn ≡ unit_of q.insn = ap (λ (x : Parts). x.unit) parts
      ∙ sym (ap (λ (x : Parts). x.unit) its) in
      let same : p.unit ≡ q.unit = same_Some p.unit q.unit (sym unit ∙ units
      ∙ unit_written drafts end packets number h q pair) in
      let op : op_of p.insn ≡ op_of q.insn = ap (λ (x : Parts). x.op) parts ∙ sym (ap (λ (x : Parts). x.op) its) in
      let taken = same_taken h.issue.parts.operands p.insn q.insn other (target_number drafts h.issue.target) p.unit op
      (ap (λ (x : Parts). x.operands) parts) (ap (λ (x : Parts). x.operands) its) in
      record {
        here = cycle;
        there = ap (λ (part : Part). part.cycle) pair.parts;
        unit = same;
        line = line ∙ sym (ap (λ (part : Part). part.line) pair.parts);
        taken = taken ∙ ap (taken_by q.insn) same;
        branching = ap is_branch op;
      }

  -- with the target by whatever number
  aimed_somehow : (targets : List (Name × ℕ)) (target : Option Name) (parts other : Parts)
      → (target ≡ None → names_block parts.operands ≡ false) → IsPartsOf targets target parts other
      → (number : ℕ) × (other ≡ aimed_parts number parts)
  aimed_somehow targets None parts other plain is = (0, is ∙ sym (whole parts (unaimed parts.operands 0 (plain refl))))
    where
      whole : (parts : Parts) → aimed_operands 0 parts.operands ≡ parts.operands → aimed_parts 0 parts ≡ parts
      whole parts e = ap (λ (o : Operands). record
          { op = parts.op; operands = o; cond = parts.cond; unit = parts.unit }) e
  aimed_somehow targets (Some target) parts other plain is = (is.0, is.3)

  -- in the block of another instruction of its cycle
  pub record IsNear (number : ℕ) (block : Packed) (cycle : ℕ) (p : Placed) : Type 0 where
    pub q : Placed
    pub h : Home
    pub there : In h (homes_in lines)
    pub pair : IsPair drafts end packets number h q
    pub is_block : pair.block ≡ block
    pub is : IsLike cycle p q

  module _ (h0 : Home) (there0 : In h0 (homes_in lines)) (number : ℕ) (q0 : Placed)
      (pair0 : IsPair drafts end packets number h0 q0) where
    pub near : (targets : List (Name × ℕ)) (h : Home) (x : Stood) → In h (homes_in lines) → IsOf targets h x
        → x.placed.cycle ≡ 0 → x.cycle ≡ h0.start + h0.issue.cycle
        → IsNear number pair0.block h0.issue.cycle x.placed
    near targets h x there is cycle when =
        let r = of_home lines end drafts packets are h there in
        let mine = pair_cycle lines end drafts packets are number h0 q0 pair0 in
        let its = pair_cycle lines end drafts packets are r.0 h r.1 r.2 in
        let same_time = is.when in
        let low = mine.0 in let high = mine.1 in let begun = its.0 in let ended = its.1 in
        let same : number ≡ r.0 = one_block lines end drafts packets are number r.0 (h0.start + h0.issue.cycle)
        pair0.draft r.2.draft pair0.is.there r.2.is.there low high
        (omega (arith, begun, same_time, when)) (omega (arith, ended, same_time, when)) in
        let pair : IsPair drafts end packets number h r.1 = subst (λ n. IsPair drafts end packets n h r.1) (sym same)
        r.2 in
        let parts = aimed_somehow targets h.issue.target h.issue.parts (parts_of x.placed.insn)
        (plain_issue lines end drafts packets are number h r.1 pair) is.parts in
        let in_block : h.issue.cycle ≡ h0.issue.cycle =
        (let from = pair.start in let own = pair0.start in omega (arith, same_time, when, from, own)) in
        record {
          q = r.1;
          h = h;
          there = there;
          pair = pair;
          is_block = same_Some pair.block pair0.block (sym pair.there ∙ pair0.there);
          is = subst (λ n. IsLike n x.placed r.1) in_block
              (like h parts.0 number x.placed r.1 parts.1 is.line cycle is.unit pair);
        }

  -- ---- the row that a line's instruction joins

  -- those of a block that instructions of a row are
  record ArePartners (cycle : ℕ) (block : List Placed) (ps : List Placed) : Type 0 where
    qs : List Placed
    like_them : AreLike cycle ps qs
    inside : (q : Placed) → In q qs → In q block
    from : (q : Placed) → In q qs → (p : Placed) × In p ps × IsLike cycle p q

  partners : (number : ℕ) (block : Packed) (cycle : ℕ) (ps : List Placed)
      → ((p : Placed) → In p ps → IsNear number block cycle p) → ArePartners cycle block.placed ps
  partners number block cycle [] all = record
      { qs = []; like_them = tt; inside = λ q h. absurd h; from = λ q h. absurd h }
  partners number block cycle (p ∷ ps) all =
      let one = all p (inl refl) in
      let rest = partners number block cycle ps (λ r h. all r (inr h)) in
      let there : In one.q block.placed = subst (λ (b : Packed). In one.q b.placed) one.is_block one.pair.inside in
      record {
        qs = one.q ∷ rest.qs;
        like_them = (one.is, rest.like_them);
        inside = inside one.q there rest;
        from = from
            one.q one.is rest;
      }
    where
      inside : (first : Placed) → In first block.placed → (rest : ArePartners cycle block.placed ps) → (q : Placed)
          → In q (first ∷ rest.qs) → In q block.placed
      inside first there rest q (inl e) = subst (λ (r : Placed). In r block.placed) e there
      inside first there rest q (inr h) = rest.inside q h

      from : (first : Placed) → IsLike cycle p first → (rest : ArePartners cycle block.placed ps) → (q : Placed)
          → In q (first ∷ rest.qs) → (r : Placed) × In r (p ∷ ps) × IsLike cycle r q
      from first is rest q (inl e) = (p, inl refl, subst (IsLike cycle p) e is)
      from first is rest q (inr h) = let r = rest.from q h in (r.0, inr r.1, r.2)

  parted : (cycle : ℕ) (block ps : List Placed) (a : ArePartners cycle block ps) → UnitsRise ps → AreApart a.qs
  parted cycle block ps a up = by ps a.qs a.like_them up
    where
      origin : (ps qs : List Placed) → AreLike cycle ps qs → (q : Placed) → In q qs → (p : Placed) × In p ps
          × IsLike cycle p q
      origin [] [] are q h = absurd h
      origin [] (r ∷ qs) are q h = absurd are
      origin (p ∷ ps) [] are q h = absurd h
      origin (p ∷ ps) (r ∷ qs) are q (inl e) = (p, inl refl, subst (IsLike cycle p) e are.0)
      origin (p ∷ ps) (r ∷ qs) are q (inr h) = let s = origin ps qs are.1 q h in (s.0, inr s.1, s.2)

      by : (ps qs : List Placed) → AreLike cycle ps qs → UnitsRise ps → AreApart qs
      by [] [] are up = tt
      by [] (q ∷ qs) are up = absurd are
      by (p ∷ ps) [] are up = tt
      by (p ∷ ps) (q ∷ qs) are up = (
        λ other h same. (let s = origin ps qs are.1 other h in
            let less = up.0 s.0 s.1 in
            let unit : s.0.unit ≡ p.unit = s.2.unit ∙ ap (λ (r : Placed). r.unit) same ∙ sym are.0.unit in
            let index = ap index_of unit in omega (arith, less, index)),
        by ps qs are.1 up.1,
      )

  module _ (h0 : Home) (there0 : In h0 (homes_in lines)) (other : ℕ) (p : Placed) (is : IsMade h0 other p)
      (above : List Placed)
      (near_all : (number : ℕ) (q0 : Placed) (pair0 : IsPair drafts end packets number h0 q0) (x : Placed) → In x above
      → IsNear number pair0.block h0.issue.cycle x)
      (up : UnitsRise above) (earlier : (x : Placed) → In x above → x.line < h0.issue.line) where
    number0 : ℕ
    number0 = (of_home lines end drafts packets are h0 there0).0

    abbrev q0 : Placed
    q0 = (of_home lines end drafts packets are h0 there0).1

    abbrev pair0 : IsPair drafts end packets (of_home lines end drafts packets are h0 there0).0 h0 q0
    pair0 = (of_home lines end drafts packets are h0 there0).2

    abbrev its_block : Packed
    its_block = pair0.block

    packet : IsPacketBlock its_block
    packet = pair0.is.is.is_block

    its_near : (x : Placed) → In x above
        → IsNear (of_home lines end drafts packets are h0 there0).0 its_block h0.issue.cycle x
    its_near x h = near_all (of_home lines end drafts packets are h0 there0).0 q0 pair0 x h

    like0 : IsLike h0.issue.cycle p q0
    like0 = like h0 other (of_home lines end drafts packets are h0 there0).0 p q0 is.parts is.line is.cycle is.unit
        pair0

    others : ArePartners h0.issue.cycle its_block.placed above
    others = partners (of_home lines end drafts packets are h0 there0).0 its_block h0.issue.cycle above its_near

    apart0 : AreApart (q0 ∷ others.qs)
    apart0 = (
      λ q h same. (let s = others.from q h in
          let line : s.0.line ≡ p.line = s.2.line ∙ ap (λ (r : Placed). r.line) same ∙ sym like0.line in
          let less = earlier s.0 s.1 in let own = is.line in omega (arith, line, less, own)),
      parted h0.issue.cycle its_block.placed above others up,
    )

    all_inside : (q : Placed) → In q (q0 ∷ others.qs) → In q its_block.placed
    all_inside q (inl e) = subst (λ (r : Placed). In r its_block.placed) e pair0.inside
    all_inside q (inr h) = others.inside q h

    -- no other branch is there
    one_branch : (x : Placed) → In x above → are_two_branches p x ≡ false
    one_branch x h = elim (cases_Bool (is_branching p)) [
      | inr plain ↦ rw plain refl
      | inl branch ↦ elim (cases_Bool (is_branching x)) [
        | inr plain ↦ rw (branch, plain) refl
        | inl also ↦ absurd (two branch also)
      ]
    ]
      where
        two : is_branching p ≡ true → is_branching x ≡ true → ⊥
        two branch also =
            let n = its_near x h in
            let draft_is : n.pair.draft ≡ pair0.draft = same_Some n.pair.draft pair0.draft (sym n.pair.is.there
            ∙ pair0.is.there) in
            let issue : In n.h.issue pair0.draft.issues = subst (λ (d : Draft). In n.h.issue d.issues) draft_is
            n.pair.issue in
            let first : branches h0.issue ≡ true = ap (λ (part : Part). is_branch part.parts.op) (sym pair0.parts)
            ∙ sym like0.branching ∙ branch in
            let second : branches n.h.issue ≡ true = ap (λ (part : Part). is_branch part.parts.op) (sym n.pair.parts)
            ∙ sym n.is.branching ∙ also in
            let one = found_branch pair0.draft.issues h0.issue pair0.issue first pair0.is.over.one_branch in
            let two = found_branch pair0.draft.issues n.h.issue issue second pair0.is.over.one_branch in
            let same : h0.issue ≡ n.h.issue = same_Some h0.issue n.h.issue (sym one ∙ two) in
            let line : x.line ≡ n.h.issue.line = n.is.line ∙ ap (λ (part : Part). part.line) n.pair.parts in
            let less = earlier x h in
            let same_line = ap (λ (i : Issue). i.line) same in
            omega (arith, line, less, same_line)

    none_other : (xs : List Placed) → ((x : Placed) → In x xs → are_two_branches p x ≡ false)
        → list_any (are_two_branches p) xs ≡ false
    none_other [] all = refl
    none_other (x ∷ xs) all = let first = all x (inl refl) in let rest = none_other xs (λ y k. all y (inr k)) in rw
        (first, rest) refl

    pub may_join : MayJoin above p
    may_join = record {
      enough = enough_in_row h0.issue.cycle (p ∷ above) (q0 ∷ others.qs) its_block.placed (like0, others.like_them)
          apart0 all_inside (packet.rules.enough h0.issue.cycle);
      branches = none_other above one_branch;
    }
