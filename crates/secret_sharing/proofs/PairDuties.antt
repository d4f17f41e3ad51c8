-- Each pair of summands has a party that holds both, and so a structure makes a sharing.
use Rattle.std.proofs.Common.{◌≡◌, ℕ, ◌<◌, Bool, true, false, not, ◌&&◌, ◌||◌, length, refl}
use Rattle.std.specs.Prelude.{slice_index}
use Rattle.std.proofs.lemmas.Bool.{and_parts}
use Rattle.std.proofs.Math.Pow.{pow-lt}
use Rattle.party_set.specs.Parties.{Structure, IsAntichain, IsQ2, has_party}
use Rattle.party_set.proofs.EveryNumber.{every_not}
use Rattle.share_layout.specs.Layouts.{holds, IsLeastParty}
use Rattle.share_layout.proofs.Holders.{least_party_of}
use Rattle.secret_sharing.specs.Schemes.{IsScheme}
use Rattle.secret_sharing.specs.Duties.{duty, scheme_of}

pub outside_both : (a b : Bool) → (a || b) ≡ false → (not a && not b) ≡ true
outside_both false false e = refl
outside_both false true e = cc
outside_both true b e = cc

pub duty_holds : (s : Structure) → IsQ2 s → (i j : ℕ) → i < length s.groups → j < length s.groups → IsLeastParty s (λ p. holds s p i && holds s p j) (duty s i j)
duty_holds s q2 i j li lj =
    let found : (p : ℕ) × (p < s.parties) × ((has_party (slice_index s.groups i) p || has_party (slice_index s.groups j) p) ≡ false) =
    every_not s.parties (λ p. has_party (slice_index s.groups i) p || has_party (slice_index s.groups j) p) (q2.no_cover i j li lj) in
    least_party_of s (λ p. holds s p i && holds s p j) found.0 found.1 (outside_both _ _ found.2)

pub scheme : (bits : ℕ) (s : Structure) → 0 < bits → IsAntichain s → IsQ2 s → IsScheme (scheme_of bits s)
scheme bits s l antichain q2 = record {
  modulus = pow-lt {i = 0} {j = bits} l;
  shares = antichain.some_group;
  duty = λ i j li lj. (duty_holds s q2 i j li lj).party;
  first = λ i j li lj. (and_parts (holds s (duty s i j) i) (holds s (duty s i j) j) (duty_holds s q2 i j li lj).passes).0;
  second = λ i j li lj. (and_parts (holds s (duty s i j) i) (holds s (duty s i j) j) (duty_holds s q2 i j li lj).passes).1;
}
