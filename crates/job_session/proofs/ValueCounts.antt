-- How many wires the values of a circuit have.
use Rattle.std.proofs.Common.{◌≡◌, ℕ, ◌+◌, List, [], ◌∷◌, length, replicate, sum, refl, arith, length-append}
use Rattle.std.proofs.lemmas.List.{length-replicate}
use Rattle.std.proofs.lemmas.List.Sums.{sum_by-cons}
use Rattle.list_laws.specs.Lists.{listed}
use Rattle.list_laws.proofs.JoinedLists.{length-listed}
use Rattle.party_set.specs.Parties.{Members}
use Rattle.session_slots.specs.declared.values.Owner.{Owner}
use Rattle.session_slots.specs.Sessions.{owners_of, readers_of, source_from}
use Rattle.job_session.specs.Parts.{input_values, output_values}

sum_cons : (w : ℕ) (ws : List ℕ) → sum (w ∷ ws) ≡ w + sum ws
sum_cons w ws = sum_by-cons (λ x. x) w ws

-- as many sources as input wires
pub owners_long : (ws : List ℕ) (ps : List Owner) → length ps ≡ length ws → length (owners_of (input_values ws ps)) ≡ sum ws
owners_long [] ps e = refl
owners_long (w ∷ ws) [] e = absurd (omega (arith, e))
owners_long (w ∷ ws) (p ∷ ps) e =
    let rest : length (owners_of (input_values ws ps)) ≡ sum ws = owners_long ws ps (omega (arith, e)) in
    omega (arith, length-append (listed w (source_from p)) (owners_of (input_values ws ps)), length-listed w (source_from p), rest, sum_cons w ws)

pub readers_long : (ws : List ℕ) (gs : List Members) → length gs ≡ length ws → length (readers_of (output_values ws gs)) ≡ sum ws
readers_long [] gs e = refl
readers_long (w ∷ ws) [] e = absurd (omega (arith, e))
readers_long (w ∷ ws) (g ∷ gs) e =
    let rest : length (readers_of (output_values ws gs)) ≡ sum ws = readers_long ws gs (omega (arith, e)) in
    omega (arith, length-append (replicate w g.mask) (readers_of (output_values ws gs)), length-replicate {A = ℕ} w g.mask, rest, sum_cons w ws)
