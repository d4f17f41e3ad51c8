-- Links over which nothing went yet.
use Rattle.std.proofs.Common.{◌≡◌, ℕ, zero, suc, ◌-◌, replicate, refl, ap, arith, Ok, Option, subst, sym, ◌∙◌}
use Rattle.std.specs.Prelude.{IsTrue, ◌&&◌, is_ok}
use Rattle.std.specs.List.{list_all}
use Rattle.std.proofs.lemmas.Bool.{false≢true}
use Rattle.std.proofs.lemmas.List.{length-replicate}
use Rattle.outer_io.specs.Links.{LinksReading, Meeting, Connects, HasPeers, are_fresh, is_fresh_inlet, is_fresh_outlet}
use Rattle.socket_link.specs.Sockets.{unread, unsent, unused}
use Rattle.socket_link.specs.TcpNets.{net_reading}

all_fresh_inlets : (peers : ℕ) → IsTrue (list_all is_fresh_inlet (replicate peers unread))
all_fresh_inlets zero = refl
all_fresh_inlets (suc peers) = all_fresh_inlets peers

all_fresh_outlets : (peers : ℕ) → IsTrue (list_all is_fresh_outlet (replicate peers unsent))
all_fresh_outlets zero = refl
all_fresh_outlets (suc peers) = all_fresh_outlets peers

unused_fresh : (peers : ℕ) → IsTrue (are_fresh (unused peers))
unused_fresh peers = ap (λ inlets. inlets && list_all is_fresh_outlet (replicate peers unsent)) (all_fresh_inlets peers) ∙ all_fresh_outlets peers

unused_peers : (peers : ℕ) → HasPeers peers (unused peers)
unused_peers peers = record { inlets = length-replicate peers unread; outlets = length-replicate peers unsent }

-- a net over TCP that gave links
pub connects : {Given : Type 0} (shown : Given → LinksReading) (meeting : Meeting) (faults : ℕ) (kept : Option LinksReading) (links : Given) → shown links ≡ unused (meeting.parties - 1)
    → Connects shown meeting (net_reading faults kept) (net_reading faults kept) (Ok links)
connects shown meeting faults kept links same = record {
  offered = same;
  peers = let P : LinksReading → Type 0 = HasPeers (meeting.parties - 1) in subst P (sym same) (unused_peers (meeting.parties - 1));
  fresh = ap are_fresh same ∙ unused_fresh (meeting.parties - 1);
  failed = λ is. absurd (false≢true (sym (ap is_ok is)));
  quiet = λ _. refl;
  faults_grow = omega arith;
  same_expects = tt;
  same_offers = tt;
  same_kept = refl;
  keeps_steady = λ steady. absurd (false≢true steady);
  steady_links = λ steady. absurd (false≢true steady);
  by_itself = λ steady. absurd (false≢true steady);
  stranger = λ steady. absurd (false≢true steady);
}
