-- Where each message to a party stands among those that its sender sends to it.
use Rattle.std.proofs.Common.{◌≡◌, ℕ, ◌<◌, nat_eq, length, take, refl, ap, ◌∙◌}
use Rattle.std.specs.Prelude.{filter}
use Rattle.std.proofs.lemmas.Bool.{and_from, and_parts, eq-eqb, eqb-true}
use Rattle.plan_model.specs.declared.key.Key.{Key}
use Rattle.plan_model.specs.Messages.{messages}
use Rattle.plan_model.specs.Numbers.{no_key, message}
use Rattle.program_laws.specs.Parts.{IsPart}
use Rattle.program_laws.specs.Once.{IsBetweenParties}
use Rattle.program_laws.proofs.PartLaws.{part_plan}
use Rattle.program_laws.proofs.MessageParties.{between}
use Rattle.program_laws.proofs.SentMessages.{givers}
use Rattle.node_talk.specs.Talks.{Node, goes, expected, expected_at, place_of}
use Rattle.node_talk.proofs.PassedLists.{passes_at, StandsAt, stands_at}

-- message m stands at its place
pub placed : (n : Node) (m : ℕ) → m < length (messages n.world.plan) → (message n.world.plan m).receiver ≡ n.me
    → (place_of n m < length (expected n (message n.world.plan m).sender)) × (expected_at n (message n.world.plan m).sender (place_of n m) ≡ message n.world.plan m)
placed n m lm to =
    let key : Key = message n.world.plan m in
    passes_at (goes key.sender n.me) no_key (messages n.world.plan) m lm (and_from (nat_eq key.sender key.sender) (nat_eq key.receiver n.me) (eq-eqb key.sender key.sender refl) (eq-eqb key.receiver n.me to))

-- what is expected of q at a place is a message of q to the party
pub record Expected (n : Node) (q place : ℕ) : Type 0 where
  pub number : ℕ
  pub there : number < length (messages n.world.plan)
  pub same : message n.world.plan number ≡ expected_at n q place
  pub sender : (message n.world.plan number).sender ≡ q
  pub receiver : (message n.world.plan number).receiver ≡ n.me
  pub place_is : place_of n number ≡ place

pub expected_there : (n : Node) (q place : ℕ) → place < length (expected n q) → Expected n q place
expected_there n q place l =
    let s : StandsAt (goes q n.me) no_key (messages n.world.plan) place = stands_at (goes q n.me) no_key (messages n.world.plan) place l in
    let key : Key = message n.world.plan s.place in
    let parts = and_parts (nat_eq key.sender q) (nat_eq key.receiver n.me) s.passes in
    let sender : key.sender ≡ q = eqb-true key.sender q parts.0 in
    record {
      number = s.place;
      there = s.within;
      same = s.same;
      sender = sender;
      receiver = eqb-true key.receiver n.me parts.1;
      place_is = ap (λ z. length (filter (goes z n.me) (take s.place (messages n.world.plan)))) sender ∙ s.before;
    }

-- a message that a party of a world gets or sends goes between parties
pub between_parties : (n : Node) → IsPart n.world n.me → (m : ℕ) → m < length (messages n.world.plan) → IsBetweenParties n.world.plan (message n.world.plan m)
between_parties n part m lm = between n.world.plan m (part_plan n.world n.me part) (givers n.world.plan part.sound) lm
