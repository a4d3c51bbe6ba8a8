use Rattle.c62_token.proofs.Common.{◌≡◌, eqb, take, list_all, list_any, is_allowed}
use Rattle.c62_token.proofs.scan.scan_bytes.Given as goal

abbrev pub invariant-loop-b : goal.invariant-loop-b
invariant-loop-b l = record {
  allowed : l.allowed ≡ list_all is_allowed (take l.b-index l.bytes);
  colon : l.colon ≡ list_any (λ b. eqb b 58) (take l.b-index l.bytes);
}
