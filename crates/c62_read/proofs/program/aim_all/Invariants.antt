use Rattle.c62_read.proofs.Common.{◌≡◌, ◌≤◌, ◌<◌, ℕ, length, get_or, SerialInsn, aimed, numbered_of}
use Rattle.c62_read.proofs.program.aim_all.Given as goal

abbrev pub invariant-loop-entry : goal.invariant-loop-entry
invariant-loop-entry l = record {
  same : length l.entries ≡ length l.initial.entries;
  before : (k : ℕ) (d : SerialInsn) → k < l.entry-index
      → numbered_of (get_or l.entries k d) ≡ aimed l.number (numbered_of (get_or l.initial.entries k d));
  behind : (k : ℕ) (d : SerialInsn) → l.entry-index ≤ k → get_or l.entries k d ≡ get_or l.initial.entries k d;
}
