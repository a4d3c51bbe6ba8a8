use Rattle.std.proofs.Common.{arith, ◌≡◌, ◌+◌, length, refl, ap, sym, ◌∙◌, vec_len, length-append}
use Rattle.c62_depend.specs.Plan.{insns_of}
use Rattle.c62_depend.proofs.Plans.{many_insns}
use Rattle.c62_sheet.specs.declared.entry.Entry.{Entry}
use Rattle.c62_board.specs.State.{Adds, IsSound}
use Rattle.c62_sheet.specs.Chain.{Marks}
use Rattle.c62_board.specs.Withdrawal.{GoesWith, marked_below}
use Rattle.c62_board.specs.View.{state_of}
use Rattle.c62_board.proofs.Journals.{sound_after}
use Rattle.c62_board.proofs.Withdrawals.{withdrawn_many}
use Rattle.c62_board.proofs.board.Board.withdraw_marked.Goals as goal

-- what was taken out was added to the journal
adds : (c : goal.After-take_out_marked)
    → Adds (state_of c.self.inside) c.take_out_marked.ensures.entries
    (state_of (record {
      sheet = c.take_out_marked.new.sheet;
      journal = c.take_out_marked.new.journal;
      budget =
          c.self.inside.budget;
    }))
adds c =
    let b = c.self.inside in
    let t = c.take_out_marked.ensures in
    let len : vec_len c.take_out_marked.new.journal ≡ vec_len b.journal + length t.entries =
    omega (
      arith,
      ap (length {A = Entry}) t.journal_is,
      length-append b.journal.items t.entries,
      c.take_out_marked.new.journal.ok.0,
      b.journal.ok.0,
    ) in
    record {
      plan = t.plan;
      spots = t.spots;
      journal = t.journal_is;
      budget = refl;
      room = omega (arith, len, t.room);
    }

stays_sound : (c : goal.After-take_out_marked)
    → IsSound (state_of (record {
      sheet = c.take_out_marked.new.sheet;
      journal = c.take_out_marked.new.journal;
      budget =
          c.self.inside.budget;
    }))
stays_sound c = sound_after (state_of c.self.inside) _ c.take_out_marked.ensures.entries c.self.invariant
    c.take_out_marked.ensures.legal (adds c)

pub invariant_of-self : goal.invariant_of-self
invariant_of-self c = stays_sound c

pub returns-clause-sound : goal.returns-clause-sound
returns-clause-sound c = stays_sound c

pub returns-clause-withdrawn : goal.returns-clause-withdrawn
returns-clause-withdrawn c =
    let b = c.self.inside in
    let t = c.take_out_marked.ensures in
    let block = insns_of b.sheet.plan in
    let all = many_insns b.sheet.plan.insns in
    let marked : Marks block (GoesWith block b.sheet.spots c.args.i) c.args.marks.now = rw (← c.self.view_is) at
    c.requires.marked in
    let long = withdrawn_many block b.sheet.spots c.args.i c.args.who (length block) c.args.marks.now t.entries
    (omega arith) marked t.withdraws in
    rw (← c.self.view_is)
    (record {
      entries = t.entries;
      withdraws = t.withdraws;
      counts = sym (long ∙ ap (marked_below c.args.marks.now) all);
      adds = adds c;
    })
