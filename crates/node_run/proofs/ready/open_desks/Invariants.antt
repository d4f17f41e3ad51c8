use Rattle.std.proofs.Common.{◌≡◌, ◌≤◌, length, drop}
use Rattle.node_run.specs.Ready.{given_words}
use Rattle.node_run.proofs.ReadyKept.{AreNew}
use Rattle.node_run.proofs.ready.open_desks.Given as goal

-- a new desk for each of the first sessions, and the tapes that are left
abbrev pub invariant-loop-tape : goal.invariant-loop-tape
invariant-loop-tape l =
    record {
      rest : l.tape-iterator.rest.items ≡ drop (length l.desks.items) l.fn.tapes.items;
      within : length l.desks.items ≤ length l.fn.tapes.items;
      desks : AreNew l.fn.plan l.fn.me (given_words l.fn.inputs l.fn.tapes.items) l.desks.items;
    }
