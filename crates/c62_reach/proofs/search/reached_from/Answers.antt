use Rattle.std.proofs.Common.{◌≡◌, ◌∷◌, [], ◌++◌, map, subst, sym, rules}
use Rattle.c62_reach.specs.PartRead.{part_read}
use Rattle.c62_reach.specs.Reach.{leads_from}
use Rattle.c62_reach.specs.Search.{found_of}
use Rattle.c62_reach.proofs.SearchLemmas.{IsSearch, less_left, search_begun, search_ends, search_goes_on}
use Rattle.c62_reach.proofs.search.reached_from.Goals as goal

pub loop-j-init : goal.loop-j-init
loop-j-init c =
    search_begun c.args.parts.now c.args.first (found_of c.in_ok-search.search) (found_of c.mark.new.self)
    c.requires.first c.in_ok-search.ensures c.in_ok-mark.ensures

pub loop-j-smaller : goal.loop-j-smaller
loop-j-smaller c =
    let last : c.loop-j.search.waiting.items ≡ c.pop.new.self.items ++ c.in-Some.j ∷ [] = rw c.in-Some.is at
    c.pop.ensures.items in
    let less = less_left (map part_read c.args.parts.now) c.in-Some.j c.pop.new.self.items (found_of c.loop-j.search)
    last in
    let same = c.in_ok-look_at.ensures in
    rw (← same) at less

pub loop-j-preserved : goal.loop-j-preserved
loop-j-preserved c =
    let last : c.loop-j.search.waiting.items ≡ c.pop.new.self.items ++ c.in-Some.j ∷ [] = rw c.in-Some.is at
    c.pop.ensures.items in
    subst (IsSearch (map part_read c.args.parts.now) c.args.first) (sym c.in_ok-look_at.ensures)
    (search_goes_on (map part_read c.args.parts.now) c.args.first c.in-Some.j c.pop.new.self.items
    (found_of c.loop-j.search) c.loop-j.invariant last)

pub returns : goal.returns
returns c =
    let none : c.loop-j.search.waiting.items ≡ [] = search rules in
    search_ends (map part_read c.args.parts.now) c.args.first (found_of c.loop-j.search) c.loop-j.invariant none
