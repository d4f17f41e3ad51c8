-- Links that are fresh or steady, one by one.
use Rattle.std.proofs.Common.{◌≡◌, ℕ, ◌<◌, List, [], ◌∷◌, length, Option, None, Some, refl, get_or}
use Rattle.std.specs.Prelude.{IsTrue, IfSome}
use Rattle.std.specs.List.{list_all}
use Rattle.std.proofs.lemmas.Bool.{false≢true}
use Rattle.std.proofs.lemmas.List.Sums.{AllPass-from_list_all}
use Rattle.outer_io.specs.Inlet.{InletReading}
use Rattle.outer_io.specs.Outlet.{OutletReading}
use Rattle.outer_io.specs.Sink.{added}
use Rattle.outer_io.specs.Links.{LinksReading, is_fresh_inlet, is_fresh_outlet, is_empty, are_fresh, are_steady}
use Rattle.outer_io.proofs.NetRefusals.{first_of_both, second_of_both}

pub fresh_inlet : (links : LinksReading) (k : ℕ) (d : InletReading) → IsTrue (are_fresh links) → k < length links.inlets → IsTrue (is_fresh_inlet (get_or links.inlets k d))
fresh_inlet links k d fresh lt = AllPass-from_list_all is_fresh_inlet links.inlets (first_of_both (list_all is_fresh_inlet links.inlets) _ fresh) k d lt

pub fresh_outlet : (links : LinksReading) (k : ℕ) (d : OutletReading) → IsTrue (are_fresh links) → k < length links.outlets → IsTrue (is_fresh_outlet (get_or links.outlets k d))
fresh_outlet links k d fresh lt = AllPass-from_list_all is_fresh_outlet links.outlets (second_of_both (list_all is_fresh_inlet links.inlets) _ fresh) k d lt

pub steady_inlet : (links : LinksReading) (k : ℕ) (d : InletReading) → IsTrue (are_steady links) → k < length links.inlets → IsTrue (get_or links.inlets k d).steady
steady_inlet links k d steady lt =
    AllPass-from_list_all (λ i. i.steady) links.inlets (first_of_both (list_all (λ i. i.steady) links.inlets) _ steady) k d lt

pub steady_outlet : (links : LinksReading) (k : ℕ) (d : OutletReading) → IsTrue (are_steady links) → k < length links.outlets → IsTrue (get_or links.outlets k d).sink.steady
steady_outlet links k d steady lt =
    AllPass-from_list_all (λ o. o.sink.steady) links.outlets (second_of_both (list_all (λ i. i.steady) links.inlets) _ steady) k d lt

-- what an outlet tells that nothing was sent to, after these bytes
pub told_first : (told : Option (List ℕ)) (bytes : List ℕ) → IsTrue (is_empty told) → IfSome (added told bytes) (λ all. all ≡ bytes)
told_first None bytes empty = tt
told_first (Some []) bytes empty = refl
told_first (Some (x ∷ xs)) bytes empty = absurd (false≢true empty)
