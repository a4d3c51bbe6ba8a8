-- Laws of a plan's definitions, in the words of the rules.
use Rattle.std.specs.Prelude.{◌≡◌, ℕ, ◌<◌, List, length, map, All, Contains, Some}
use Rattle.std.specs.List.Sorted.{IsStrictlyIncreasing}
use Rattle.c62_insn.specs.declared.insn.Insn.{Insn}
use Rattle.c62_rules.specs.Dependence.{IsLatency}
use Rattle.c62_depend.specs.declared.links.Link.{Link}
use Rattle.c62_depend.specs.Latency.{latency}
use Rattle.c62_depend.specs.Direct.{IsDirect, direct_needs, direct_followers}
use Rattle.c62_depend.specs.Height.{height, IsHeight}

-- a latency is the greatest bound of the cases that apply, and none where none does
abbrev pub HasLatencies : List Insn → Type 0
HasLatencies block = (i j : ℕ) → IsLatency block i j (latency block i j)

-- each height follows the rule
abbrev pub HasHeights : List Insn → Type 0
HasHeights block = (i : ℕ) → i < length block → IsHeight block i (height block i)

-- these are the other ends of dependences, all of them, each once
pub record AreLinks (is_link : Link → Type 0) (links : List Link) : Type 0 where
  pub all : All is_link links
  pub each : (link : Link) → is_link link → Contains links link
  pub rising : IsStrictlyIncreasing (map (λ link. link.number) links)

-- what j depends on directly
abbrev pub HasNeeds : List Insn → Type 0
HasNeeds block = (j : ℕ) → AreLinks (λ link. IsDirect block link.number j link.latency) (direct_needs block j)

-- what depends directly on i
abbrev pub HasFollowers : List Insn → Type 0
HasFollowers block = (i : ℕ) → AreLinks (λ link. IsDirect block i link.number link.latency) (direct_followers block i)
