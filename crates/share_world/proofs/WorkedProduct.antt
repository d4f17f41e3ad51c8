-- The worked job, by computation.
use Rattle.std.proofs.Common.{◌≡◌, ℕ, zero, suc, ◌<◌, ◌≤◌, ◌≢◌, inl, inr, true, false, ◌||◌, List, [], ◌∷◌, length, refl, sym, ap, ap₂, ◌∙◌, arith}
use Rattle.std.specs.Prelude.{slice_index, slice_index_or, nat_eq, if◌then◌else◌}
use Rattle.std.specs.List.{AllByRecursion, list_any}
use Rattle.std.proofs.lemmas.Bool.{cases_Bool, cases_eq, eq-eqb, eqb-true, ne_eqb, both_ways, false≢true}
use Rattle.list_laws.specs.Lists.{total}
use Rattle.list_laws.proofs.JoinedLists.{every_at}
use Rattle.party_set.specs.Parties.{IsQ2, covers}
use Rattle.session_slots.specs.KeptWires.{IsInOrder, slot_sets, slot_reads}
use Rattle.circuit_model.specs.declared.gate.Gate.{Gate}
use Rattle.circuit_model.specs.declared.gate.Operation.TheVariants.{Mul}
use Rattle.session_slots.specs.declared.source.Source.TheVariants.{Given, Earlier}
use Rattle.session_slots.specs.declared.values.Owner.{Owner}
use Rattle.session_slots.specs.declared.values.Owner.TheVariants.{Party}
use Rattle.session_slots.specs.Sessions.{Session, owners, source, source_from, giver, gate, slot_list}
use Rattle.session_slots.specs.Carries.{kept_from}
use Rattle.plan_model.specs.Plans.{session, structure, words, gives}
use Rattle.session_slots.specs.SoundSessions.{IsSoundSession}
use Rattle.plan_model.specs.Messages.{messages}
use Rattle.plan_model.specs.Sound.{IsSound}
use Rattle.plan_model.specs.InputWords.{AreInputs, given}
use Rattle.plan_model.specs.Tallies.{tape_length}
use Rattle.plan_model.specs.Multiply.{multiply_plan, multiply_session}
use Rattle.share_world.specs.Laws.{AreTapes}
use Rattle.share_world.proofs.CarriedWires.{carrier_there}
use Rattle.share_world.specs.Multiply.{multiply_world, MultiplyWhole, MultiplyWords, MultiplyPlain}

pub plain_is : MultiplyPlain
plain_is = refl

pub words_are : MultiplyWords
unfolding slot_list
words_are = refl

-- ---- the world is whole

pub no_cover : IsQ2 (structure (multiply_plan 8))
no_cover = record { no_cover = λ i j li lj. each i j li lj }
  where
    each : (i j : ℕ) → i < 3 → j < 3 → covers 3 (slice_index (1 ∷ 2 ∷ 4 ∷ []) i) (slice_index (1 ∷ 2 ∷ 4 ∷ []) j) ≡ false
    each zero zero li lj = refl
    each zero (suc zero) li lj = refl
    each zero (suc (suc zero)) li lj = refl
    each zero (suc (suc (suc j))) li lj = absurd (omega arith)
    each (suc zero) zero li lj = refl
    each (suc zero) (suc zero) li lj = refl
    each (suc zero) (suc (suc zero)) li lj = refl
    each (suc zero) (suc (suc (suc j))) li lj = absurd (omega arith)
    each (suc (suc zero)) zero li lj = refl
    each (suc (suc zero)) (suc zero) li lj = refl
    each (suc (suc zero)) (suc (suc zero)) li lj = refl
    each (suc (suc zero)) (suc (suc (suc j))) li lj = absurd (omega arith)
    each (suc (suc (suc i))) j li lj = absurd (omega arith)

-- ---- a session of one product: each wire is set once, and read only after that

-- the product of a value of one owner and one of another, which the parties of this mask read
abbrev pub product_of : Owner → Owner → ℕ → Session
product_of first second mask = record {
  gates = record { operation = Mul; first = 0; second = 1; output = 2; constant = 0 } ∷ [];
  wires = 3;
  inputs = record { width = 1; owner = first } ∷ record { width = 1; owner = second } ∷ [];
  outputs = record { width = 1; readers = record { parties = 3; mask = mask } } ∷ [];
  prepared = false;
  ahead = false;
  kept = [];
}

other : (a b w : ℕ) → a ≢ b → list_any (nat_eq w) (a ∷ []) ≡ true → list_any (nat_eq w) (b ∷ []) ≡ false
other a b w ne e = elim (cases_Bool (nat_eq w a)) [
  | inl is ↦ ap (λ c. c || false) (ne_eqb w b (λ same. ne (sym (eqb-true w a is) ∙ same)))
  | inr differs ↦ absurd (both_ways (nat_eq w a || false) (ap (λ c. c || false) differs) e)
]

module _ (first second : Owner) (mask : ℕ) where
  abbrev x : Session
  x = product_of first second mask

  once : (j k w : ℕ) → j < k → k < 4 → slot_sets x j w ≡ true → slot_sets x k w ≡ false
  unfolding slot_list
  once j zero w jk lk e = absurd (omega arith)
  once zero (suc zero) w jk lk e = other 0 1 w (λ z. cc) e
  once (suc j) (suc zero) w jk lk e = absurd (omega arith)
  once zero (suc (suc zero)) w jk lk e = other 0 2 w (λ z. cc) e
  once (suc zero) (suc (suc zero)) w jk lk e = other 1 2 w (λ z. cc) e
  once (suc (suc j)) (suc (suc zero)) w jk lk e = absurd (omega arith)
  once j (suc (suc (suc zero))) w jk lk e = refl
  once j (suc (suc (suc (suc k)))) w jk lk e = absurd (omega arith)

  before : (k w : ℕ) → k < 4 → slot_reads x k w ≡ true → (j : ℕ) × (j < k) × (slot_sets x j w ≡ true)
  unfolding slot_list
  before zero w lk e = absurd (false≢true e)
  before (suc zero) w lk e = absurd (false≢true e)
  before (suc (suc zero)) zero lk e = (0, omega arith, refl)
  before (suc (suc zero)) (suc zero) lk e = (1, omega arith, refl)
  before (suc (suc zero)) (suc (suc w)) lk e = absurd (both_ways (slot_reads x 2 (suc (suc w))) (ap₂ (λ a b. a || (b || false)) (ne_eqb (suc (suc w)) 0 (omega arith)) (ne_eqb (suc (suc w)) 1 (omega arith))) e)
  before (suc (suc (suc zero))) w lk e = elim (cases_eq w 2) [
    | inl is ↦ (2, omega arith, ap (λ c. c || false) (eq-eqb w 2 is))
    | inr ne ↦ absurd (both_ways (slot_reads x 3 w) (ap (λ c. c || false) (ne_eqb w 2 ne)) e)
  ]
  before (suc (suc (suc (suc k)))) w lk e = absurd (omega arith)

  in_order : IsInOrder x
  unfolding slot_list
  in_order = record { once = once; before = before }

  -- it is sound where the owners that are parties, and the readers, are among three parties
  pub sound_product : ((p : ℕ) → source_from first 0 ≡ Given p → p < 3) → ((p : ℕ) → source_from second 0 ≡ Given p → p < 3) → mask < 8 → IsSoundSession 3 x
  sound_product one two l = record {
    wired = record {
      wires = omega arith;
      gates = omega arith;
      input_wires = omega arith;
      output_wires = omega arith;
      first = λ t l. at_first (λ g. g.first < 3) (omega arith) t l;
      second = λ t l. at_first (λ g. g.second < 3) (omega arith) t l;
      output = λ t l. at_first (λ g. g.output < 3) (omega arith) t l;
      kept = record { outputs = λ k wire l. absurd (omega (arith, l)); few = omega arith };
      order = in_order;
    };
    owned = owned;
    read = read;
  }
    where
      at_first : (P : Gate → Type 0) → P (gate x 0) → (t : ℕ) → t < 1 → P (gate x t)
      at_first P is zero l = is
      at_first P is (suc t) l = absurd (omega arith)

      owned : (v p : ℕ) → v < 2 → source x v ≡ Given p → p < 3
      owned zero p l e = one p e
      owned (suc zero) p l e = two p e
      owned (suc (suc v)) p l e = absurd (omega arith)

      read : (o : ℕ) → o < 1 → slice_index (mask ∷ []) o < 8
      read zero lo = l
      read (suc o) lo = absurd (omega arith)

-- a party's number, of three
pub small_party : (q p : ℕ) → q < 3 → Given q ≡ Given p → p < 3
small_party q p l e = (let is : q ≡ p = ap giver e in omega (arith, is, l))

sound_session : IsSoundSession 3 multiply_session
sound_session = sound_product (Party 0) (Party 1) 4 (λ p e. small_party 0 p (omega arith) e) (λ p e. small_party 1 p (omega arith) e) (omega arith)

few_messages : length (messages (multiply_plan 8)) ≤ 1048576
unfolding slot_list
few_messages = omega arith

few_words : (p : ℕ) → p < 3 → total 1 (words (multiply_plan 8) p) ≤ 1048576
unfolding slot_list
few_words zero l = omega arith
few_words (suc zero) l = omega arith
few_words (suc (suc zero)) l = omega arith
few_words (suc (suc (suc p))) l = absurd (omega arith)

sound : IsSound (multiply_plan 8)
sound = record {
  some_bits = omega arith;
  bits = omega arith;
  some_parties = omega arith;
  parties = omega arith;
  some_groups = omega arith;
  groups = omega arith;
  q2 = no_cover;
  few_sessions = omega arith;
  few_messages = few_messages;
  few_words = few_words;
  sessions = sessions;
  earlier = λ s v r c i from. absurd (none s v r c i from);
  kept = kept;
}
  where
    sessions : (s : ℕ) → s < 1 → IsSoundSession 3 (session (multiply_plan 8) s)
    sessions zero l = sound_session
    sessions (suc s) l = absurd (omega arith)

    none : (s v r c i : ℕ) → source (session (multiply_plan 8) s) v ≡ Earlier r c i → ⊥
    none zero zero r c i from = cc
    none zero (suc zero) r c i from = cc
    none zero (suc (suc v)) r c i from = cc
    none (suc s) v r c i from = absurd (let l = carrier_there (multiply_plan 8) (suc s) v r c i from in omega (arith, l))

    kept : (s : ℕ) → (session (multiply_plan 8) s).kept ≡ kept_from s (multiply_session ∷ [])
    kept zero = refl
    kept (suc s) = refl

pub small_lists : (xss : List (List ℕ)) → AllByRecursion (AllByRecursion (λ x. x < 256)) xss → (p k : ℕ) → slice_index (slice_index_or xss p []) k < 256
small_lists [] h p k = omega arith
small_lists (xs ∷ xss) h zero k = every_at (λ x. x < 256) xs k (omega arith) h.0
small_lists (xs ∷ xss) h (suc p) k = small_lists xss h.1 p k

are_inputs : AreInputs (multiply_plan 8) multiply_world.inputs
are_inputs = record { parties = refl; sessions = sessions; counts = counts; below = below }
  where
    sessions : (p : ℕ) → p < 3 → length (slice_index_or multiply_world.inputs p []) ≡ 1
    sessions zero l = refl
    sessions (suc zero) l = refl
    sessions (suc (suc zero)) l = refl
    sessions (suc (suc (suc p))) l = absurd (omega arith)

    counts : (p s : ℕ) → p < 3 → s < 1 → length (given multiply_world.inputs p s) ≡ total (length (owners (session (multiply_plan 8) s))) (λ v. if gives (multiply_plan 8) s p v then 1 else 0)
    counts zero zero lp ls = refl
    counts (suc zero) zero lp ls = refl
    counts (suc (suc zero)) zero lp ls = refl
    counts (suc (suc (suc p))) zero lp ls = absurd (omega arith)
    counts p (suc s) lp ls = absurd (omega arith)

    below : (p s k : ℕ) → slice_index (given multiply_world.inputs p s) k < 256
    below zero s k = small_lists ((5 ∷ []) ∷ []) (((omega arith, tt)), tt) s k
    below (suc zero) s k = small_lists ((7 ∷ []) ∷ []) (((omega arith, tt)), tt) s k
    below (suc (suc zero)) s k = small_lists ([] ∷ []) (tt, tt) s k
    below (suc (suc (suc p))) s k = omega arith

tape_lengths : (p : ℕ) → p < 3 → length (slice_index_or multiply_world.tapes p []) ≡ tape_length (multiply_plan 8) p
unfolding slot_list
tape_lengths zero l = refl
tape_lengths (suc zero) l = refl
tape_lengths (suc (suc zero)) l = refl
tape_lengths (suc (suc (suc p))) l = absurd (omega arith)

are_tapes : AreTapes (multiply_plan 8) multiply_world.tapes
are_tapes = record { parties = refl; lengths = tape_lengths; below = small_lists multiply_world.tapes small }
  where
    small : AllByRecursion (AllByRecursion (λ x. x < 256)) multiply_world.tapes
    small = ((omega arith, (omega arith, (omega arith, (omega arith, tt)))), ((omega arith, (omega arith, (omega arith, (omega arith, tt)))), ((omega arith, (omega arith, tt)), tt)))

pub whole_is : MultiplyWhole
whole_is = record { sound = sound; inputs = are_inputs; tapes = are_tapes }
