-- What the sessions of a job carry of those before them.
use Rattle.std.proofs.Common.{◌≡◌, ℕ, ◌<◌, All, List, [], ◌∷◌, ◌++◌, length, map, take, inl, inr, sym, ap, ◌∙◌, subst, arith}
use Rattle.std.proofs.Math.Seq.{take-append_seam}
use Rattle.std.proofs.lemmas.Bool.{cases_lt}
use Rattle.std.proofs.lemmas.List.{get_or_append_left, get_or_push, length-append, take-append-le}
use Rattle.std.proofs.lemmas.List.Elements.{All-map}
use Rattle.party_set.specs.Parties.{Members}
use Rattle.job_file.specs.declared.owner.JobOwner.{JobOwner}
use Rattle.job_file.specs.declared.owner.JobOwner.TheVariants as job_owner
use Rattle.job_file.specs.Owners.{IsOwner}
use Rattle.session_slots.specs.declared.values.Owner.TheVariants.{Party, Carried}
use Rattle.job_session.specs.Parts.{AreEarlier, AreOf}
use Rattle.session_slots.specs.Carries.{CarriesFit, AllFit}
use Rattle.session_slots.specs.Sessions.{Session, no_session, session_at}
use Rattle.job_walk.specs.JobOf.{owner_of}

-- a party that gives a value is one of so many
owner_party : (parties number : ℕ) (owner : JobOwner) → IsOwner parties number owner → (p : ℕ) → owner_of owner ≡ Party p → p < parties
owner_party parties number (job_owner.Party q) is p e = let same : q ≡ p = cc in subst (λ n. n < parties) same is
owner_party parties number (job_owner.Carried r c) is p e = cc

-- a session that gives a value is an earlier one
owner_earlier : (parties number : ℕ) (owner : JobOwner) → IsOwner parties number owner → (r c : ℕ) → owner_of owner ≡ Carried r c → r < number
owner_earlier parties number (job_owner.Party q) is r c e = cc
owner_earlier parties number (job_owner.Carried s v) is r c e = let same : s ≡ r = cc in subst (λ n. n < number) same is.0

pub owners_earlier : (parties number : ℕ) (owners : List JobOwner) → All (IsOwner parties number) owners → AreEarlier number (map owner_of owners)
owners_earlier parties number owners all =
    All-map (λ owner. (r c : ℕ) → owner ≡ Carried r c → r < number) owner_of owners (λ k d l. owner_earlier parties number _ (all k d l))

pub owners_among : (parties number : ℕ) (owners : List JobOwner) (readers : List Members) → All (IsOwner parties number) owners → All (λ (group : Members). group.parties ≡ parties) readers
    → AreOf parties (map owner_of owners) readers
owners_among parties number owners readers all read = record {
  owned = All-map (λ owner. (p : ℕ) → owner ≡ Party p → p < parties) owner_of owners (λ k d l. owner_party parties number _ (all k d l));
  read = read;
}

-- what one more session carries fits those before it
pub fit_push : (sessions : List Session) (x : Session) → AllFit sessions → CarriesFit sessions x → AllFit (sessions ++ x ∷ [])
fit_push sessions x each last s l = elim (cases_lt s (length sessions)) [
  | inl before ↦
      subst (λ earlier. CarriesFit earlier (session_at (sessions ++ x ∷ []) s)) (sym (take-append-le s sessions (x ∷ []) (omega (arith, before))))
      (subst (CarriesFit (take s sessions)) (sym (get_or_append_left sessions (x ∷ []) no_session s before)) (each s before))
  | inr past ↦
      let same : length sessions ≡ s = omega (arith, l, past, length-append sessions (x ∷ [])) in
      subst (λ earlier. CarriesFit earlier (session_at (sessions ++ x ∷ []) s)) (sym (ap (λ n. take n (sessions ++ x ∷ [])) (sym same) ∙ take-append_seam sessions (x ∷ [])))
      (subst (CarriesFit sessions) (sym (get_or_push sessions x no_session s same)) last)
]
