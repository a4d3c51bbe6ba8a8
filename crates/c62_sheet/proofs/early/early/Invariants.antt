use Rattle.c62_sheet.proofs.Common.{insns_of}
use Rattle.c62_sheet.proofs.EarlyCycles.{IsEarlyFrom}
use Rattle.c62_sheet.proofs.early.early.Given as goal

abbrev pub invariant-loop-h : goal.invariant-loop-h
invariant-loop-h l = IsEarlyFrom (insns_of l.plan) l.spots l.i l.h l.first
