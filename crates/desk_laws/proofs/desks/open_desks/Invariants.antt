use Rattle.std.proofs.Common.{◌≡◌, ◌≤◌, length, drop}
use Rattle.desk_laws.specs.NewDesks.{AreNewDesks}
use Rattle.desk_laws.proofs.desks.open_desks.Given as goal

-- a desk for each piece so far, and the pieces that are left
abbrev pub invariant-loop-piece : goal.invariant-loop-piece
invariant-loop-piece l = record {
  count : l.k ≡ length l.desks.items;
  rest : l.piece-iterator.rest.items ≡ drop l.k l.fn.pieces.items;
  within : l.k ≤ length l.fn.pieces.items;
  desks : AreNewDesks l.fn.plan l.fn.inputs l.fn.pieces.items l.desks.items;
}
