use Rattle.std.proofs.Common.{◌≡◌, length, take}
use Rattle.c62_serial.specs.declared.state.TheConstants.{MEMORY_BYTES}
use Rattle.c62_apart.specs.Marks.{Sees}
use Rattle.c62_apart.proofs.marks.Watch.see_all.Given as goal

abbrev pub invariant-loop-touch : goal.invariant-loop-touch
invariant-loop-touch l = record {
  size : length l.self.marks.items ≡ MEMORY_BYTES;
  sees : Sees l.stay (take l.touch-index l.touches) l.fn.self.marks.items l.fn.self.met.items l.self.marks.items
      l.self.met.items;
}
