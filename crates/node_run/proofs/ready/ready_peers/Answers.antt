use Rattle.std.proofs.Common.{◌+◌, ◌++◌, ◌∷◌, [], sym, subst}
use Rattle.node_run.specs.Ready.{IsPeerReady, ArePeersReady}
use Rattle.node_run.proofs.ReadyKept.{one_more_peer}
use Rattle.node_run.proofs.ready.ready_peers.Goals as goal

pub loop-place-preserved : goal.loop-place-preserved
loop-place-preserved c =
    let plan = c.args.plan.now in
    let k = c.loop-place.place in
    let made = c.in_ok-mailbox in
    let ready = subst (λ q. IsPeerReady plan c.args.me c.args.parker.now c.args.digest.now c.args.form q made.mailbox made.reader) c.peer_at-peer.ensures made.ensures in
    let next = one_more_peer plan c.args.me c.args.parker.now c.args.digest.now c.args.form k c.loop-place.boxes.items c.loop-place.readers.items made.mailbox made.reader c.loop-place.invariant ready in
    subst (λ xs. ArePeersReady plan c.args.me c.args.parker.now c.args.digest.now c.args.form (k + 1) xs c.push-in-loop-place.new.self.items) (sym c.in_ok-push.ensures.items)
    (subst (λ ys. ArePeersReady plan c.args.me c.args.parker.now c.args.digest.now c.args.form (k + 1) (c.loop-place.boxes.items ++ made.mailbox ∷ []) ys) (sym c.in_ok-push-2.ensures.items) next)
