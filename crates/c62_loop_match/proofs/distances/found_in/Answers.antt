use Rattle.std.proofs.Common.{rules, refl, ◌≡◌, ◌-◌, length}
use Rattle.c62_loop_match.specs.Promise.{promises}
use Rattle.c62_loop_match.proofs.Pairs.{passes_kept, passes_early}
use Rattle.c62_loop_match.proofs.distances.found_in.Goals as goal

pub returns-in-None : goal.returns-in-None
returns-in-None c = λ placed are. (
    let count : length c.args.instances.now ≡ length c.args.path.now = search rules in
    let begin : c.len-2.result ≡ length c.args.work.now.before.items = search rules in
    let body : c.len-3.result ≡ length c.args.work.now.body.items = search rules in
    let end : length c.args.path.now - c.len-4.result ≡ length c.args.path.now - length c.args.work.now.behind.items =
    search rules in
    passes_kept
    (promises c.args.promise) c.args.work.now c.args.trips c.args.path.now c.args.path.now
    c.args.instances.now c.args.instances.now placed
    (record {
      begin = c.len-2.result;
      body = c.len-3.result;
      trips = c.args.trips;
      end = length c.args.path.now - c.len-4.result;
    })
    c.requires are refl refl count begin body end refl c.in-None.ensures)

pub returns-in-Some : goal.returns-in-Some
returns-in-Some c = λ placed are. (
    let count : length c.args.instances.now ≡ length c.args.path.now = search rules in
    let begin : c.len-2.result ≡ length c.args.work.now.before.items = search rules in
    let body : c.len-3.result ≡ length c.args.work.now.body.items = search rules in
    let end : length c.args.path.now - c.len-4.result ≡ length c.args.path.now - length c.args.work.now.behind.items =
    search rules in
    passes_early
    (promises c.args.promise) c.args.work.now c.args.trips c.args.path.now c.args.path.now
    c.args.instances.now c.args.instances.now placed
    (record {
      begin = c.len-2.result;
      body = c.len-3.result;
      trips = c.args.trips;
      end = length c.args.path.now - c.len-4.result;
    })
    c.requires are refl refl count begin body end refl c.in-Some.early c.in-Some.ensures)
