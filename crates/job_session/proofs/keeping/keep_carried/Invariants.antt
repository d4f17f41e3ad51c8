use Rattle.std.proofs.Common.{◌≡◌, ◌≤◌, ℕ, All, drop, length, map}
use Rattle.std.specs.Global.{Vec}
use Rattle.list_laws.specs.Lists.{listed}
use Rattle.session_slots.specs.declared.values.KeptWire.{KeptWire}
use Rattle.session_slots.specs.Sessions.{session_at}
use Rattle.session_slots.specs.Carries.{kept_from}
use Rattle.session_slots.specs.SoundSessions.{IsSoundSession}
use Rattle.job_session.proofs.keeping.keep_carried.Given as goal

-- the sessions so far keep what is carried from them, and those that are left come with what is carried from them
abbrev pub invariant-loop-part : goal.invariant-loop-part
invariant-loop-part l = record {
  parts_left : l.part-iterator.a.rest.len ≡ length l.part-iterator.a.rest.items;
  wires_left : l.part-iterator.b.rest.len ≡ length l.part-iterator.b.rest.items;
  within : length l.list.items ≤ length l.fn.parts.items;
  kept : l.list.items ≡ listed (length l.list.items) (λ s. record (session_at l.fn.parts.items s) { kept = kept_from s l.fn.parts.items });
  parts : l.part-iterator.a.rest.items ≡ drop (length l.list.items) l.fn.parts.items;
  wires : map (λ (wires : Vec KeptWire). wires.items) l.part-iterator.b.rest.items
      ≡ drop (length l.list.items) (listed (length l.fn.parts.items) (λ s. kept_from s l.fn.parts.items));
  sound : (parties : ℕ) → All (IsSoundSession parties) l.fn.parts.items → All (IsSoundSession parties) l.list.items;
}
