-- A net in memory that refuses, and one that gives its links.
use Rattle.std.proofs.Common.{◌≡◌, ℕ, ◌+◌, ◌-◌, ◌^◌, ◌<◌, List, Bool, true, false, min, refl, ap, arith, sym, Option, Some, None, Err}
use Rattle.std.specs.Prelude.{IsTrue, ◌&&◌}
use Rattle.std.specs.Option.{option_map, option_map_or}
use Rattle.std.proofs.lemmas.Bool.{false≢true}
use Rattle.outer_io.specs.Links.{LinksReading, Meeting, NetReading, Connects}
use Rattle.outer_io.specs.Memory.{all_past}
use Rattle.outer_io.specs.declared.net.NetRefusal.TheVariants.{Failed}
use Rattle.outer_io.proofs.PastCalls.{all_past-next}

pub first_of_both : (a b : Bool) → IsTrue (a && b) → IsTrue a
first_of_both true b both = refl
first_of_both false b both = absurd (false≢true both)

pub second_of_both : (a b : Bool) → IsTrue (a && b) → IsTrue b
second_of_both true b both = both
second_of_both false b both = absurd (false≢true both)

pub both_true : (a b : Bool) → IsTrue a → IsTrue b → IsTrue (a && b)
both_true true b one two = two
both_true false b one two = absurd (false≢true one)

-- after one more call a steady net is still steady, if its links are
pub still_steady : (listed : List ℕ) (calls next : ℕ) (links left : Bool) → calls < 2 ^ 64 → next ≡ min (calls + 1) (2 ^ 64 - 1) → (IsTrue links → IsTrue left)
    → IsTrue (all_past listed calls && links) → IsTrue (all_past listed next && left)
still_steady listed calls next links left fits is keeps steady =
    both_true (all_past listed next) left
    (all_past-next listed calls next fits is (first_of_both (all_past listed calls) links steady))
    (keeps (second_of_both (all_past listed calls) links steady))

-- a net that expects a meeting was made for it, and still has its links
pub made_for : {L : Type 0} (made meeting : Meeting) (links : Option L) → option_map (λ l. made) links ≡ Some meeting → made ≡ meeting
made_for made meeting None expects = absurd (false≢true (ap (λ o. option_map_or (λ m. true) o false) expects))
made_for made meeting (Some l) expects = ap (λ o. option_map_or (λ m. m) o made) expects

-- without links it expects no meeting
pub given_away : {L : Type 0} (made meeting : Meeting) (links : Option L) → links ≡ None → option_map (λ l. made) links ≡ Some meeting → ⊥
given_away made meeting None none expects = false≢true (ap (λ o. option_map_or (λ m. true) o false) expects)
given_away made meeting (Some l) none expects = false≢true (sym (ap (λ o. option_map_or (λ m. true) o false) none))

-- a refusal of which the count tells
pub refused : {Given : Type 0} (shown : Given → LinksReading) (meeting : Meeting) (before after : NetReading) → after.faults ≡ min (before.faults + 1) (2 ^ 64 - 1) → before.faults < 2 ^ 64
    → after.expects ≡ before.expects → after.offers ≡ before.offers → after.kept ≡ before.kept → (IsTrue before.steady → IsTrue after.steady)
    → (IsTrue before.steady → before.expects ≡ Some meeting → ⊥) → Connects shown meeting before after (Err Failed)
refused shown meeting before after one_more fits expects offers kept steady never = record {
  offered = tt;
  peers = tt;
  fresh = tt;
  failed = λ _. omega arith;
  quiet = λ not_failed. absurd (not_failed refl);
  faults_grow = omega arith;
  same_expects = expects;
  same_offers = offers;
  same_kept = kept;
  keeps_steady = steady;
  steady_links = λ _. tt;
  by_itself = λ is_steady expected _. never is_steady expected;
  stranger = λ _ ok. absurd (false≢true ok);
}
