-- Links to the other parties: what they show, what a net shows, and what asking it for links does.
use Rattle.std.specs.Prelude.{◌≡◌, ℕ, ◌-◌, ◌≤◌, ◌==◌, ◌&&◌, not, Bool, IsTrue, true, false, List, [], ◌∷◌, length, map, Option, None, Some, Result, IfOk, OnErr, IsOk, IsErrOf}
use Rattle.std.specs.List.{list_all}
use Rattle.outer_io.specs.declared.net.Links.{Links}
use Rattle.outer_io.specs.declared.net.NetRefusal.{NetRefusal}
use Rattle.outer_io.specs.declared.net.NetRefusal.TheVariants.{Failed}
use Rattle.outer_io.specs.Count.{Rose}
use Rattle.outer_io.specs.Inlet.{InletReading}
use Rattle.outer_io.specs.Outlet.{OutletReading}

-- what links show: an inlet and an outlet for each peer, in order
pub record LinksReading : Type 0 where
  pub inlets : List InletReading
  pub outlets : List OutletReading

-- what links show whose inlets and outlets are read like this
abbrev pub links_reading : {I O : Type 0} → (I → InletReading) → (O → OutletReading) → Links I O → LinksReading
links_reading read_inlet read_outlet links =
    record {
      inlets = map read_inlet links.inlets.items;
      outlets = map read_outlet links.outlets.items;
    }

-- there is an inlet and an outlet for each of `peers` peers
pub record HasPeers (peers : ℕ) (links : LinksReading) : Type 0 where
  pub inlets : length links.inlets ≡ peers
  pub outlets : length links.outlets ≡ peers

-- whether nothing was read or sent yet, nothing has failed, and it is open
abbrev pub is_fresh_inlet : InletReading → Bool
is_fresh_inlet inlet = (inlet.faults == 0) && (not inlet.ended && not inlet.closed)

-- whether no bytes are told
abbrev pub is_empty : Option (List ℕ) → Bool
is_empty None = true
is_empty (Some []) = true
is_empty (Some (byte ∷ bytes)) = false

abbrev pub is_fresh_outlet : OutletReading → Bool
is_fresh_outlet outlet =
    (outlet.sink.faults == 0) && (is_empty outlet.sink.told && (not outlet.holds && not outlet.closed))

abbrev pub are_fresh : LinksReading → Bool
are_fresh links = list_all is_fresh_inlet links.inlets && list_all is_fresh_outlet links.outlets

-- whether none of the coming calls at these links is one that fails by itself
abbrev pub are_steady : LinksReading → Bool
are_steady links =
    list_all (λ inlet. inlet.steady) links.inlets && list_all (λ outlet. outlet.sink.steady) links.outlets

-- whether all of these links are closed
abbrev pub are_closed : LinksReading → Bool
are_closed links = list_all (λ inlet. inlet.closed) links.inlets && list_all (λ outlet. outlet.closed) links.outlets

-- whether nothing waits at these outlets
abbrev pub are_flushed : List OutletReading → Bool
are_flushed outlets = list_all (λ outlet. not outlet.holds) outlets

-- what a net is asked: the host of each party, the first port, which party asks, and how many there are
pub record Meeting : Type 0 where
  pub hosts : List (List ℕ)
  pub port : ℕ
  pub me : ℕ
  pub parties : ℕ

-- what a net shows
pub record NetReading : Type 0 where
  -- how often the outside has failed
  pub faults : ℕ
  -- none of the coming calls is one that fails by itself
  pub steady : Bool
  -- the meeting for which it gives links, where it is steady
  pub expects : Option Meeting
  -- what the links to a number of peers show when it gives them
  pub offers : ℕ → LinksReading
  -- what the links showed that were handed back last
  pub kept : Option LinksReading

-- What asking a net for links does. Want of memory is free.
pub record Connects {Given : Type 0} (shown : Given → LinksReading) (meeting : Meeting) (before after : NetReading)
    (result : Result Given NetRefusal) : Type 0 where
  -- there are links to each peer, as the net offered them, and fresh
  pub offered : IfOk result (λ links. shown links ≡ before.offers (meeting.parties - 1))
  pub peers : IfOk result (λ links. HasPeers (meeting.parties - 1) (shown links))
  pub fresh : IfOk result (λ links. IsTrue (are_fresh (shown links)))
  -- it fails only where the count of faults rose, and at every other answer that count stays
  pub failed : IsErrOf result Failed → Rose before.faults after.faults
  pub quiet : ¬ IsErrOf result Failed → after.faults ≡ before.faults
  pub faults_grow : before.faults ≤ after.faults
  -- a refusal leaves what it expects and offers, and every answer what it keeps
  pub same_expects : OnErr result (after.expects ≡ before.expects)
  pub same_offers : OnErr result (after.offers ≡ before.offers)
  pub same_kept : after.kept ≡ before.kept
  -- a steady net stays steady, gives steady links, and does not fail at the meeting that it expects;
  -- it answers no other
  pub keeps_steady : IsTrue before.steady → IsTrue after.steady
  pub steady_links : IsTrue before.steady → IfOk result (λ links. IsTrue (are_steady (shown links)))
  pub by_itself : IsTrue before.steady → before.expects ≡ Some meeting → ¬ IsErrOf result Failed
  pub stranger : IsTrue before.steady → IsOk result → before.expects ≡ Some meeting
