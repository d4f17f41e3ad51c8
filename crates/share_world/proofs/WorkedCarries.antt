-- The worked job of a carried product, by computation.
use Rattle.std.proofs.Common.{◌≡◌, ℕ, zero, suc, ◌<◌, ◌≤◌, false, [], ◌∷◌, ◌++◌, length, refl, sym, ap, arith}
use Rattle.std.specs.Prelude.{All, slice_index, slice_index_or}
use Rattle.std.specs.List.{AllByRecursion}
use Rattle.std.proofs.lemmas.Bool.{ne_eqb}
use Rattle.list_laws.specs.Lists.{total, only_if}
use Rattle.session_slots.specs.declared.source.Source.TheVariants.{Given, Earlier}
use Rattle.session_slots.specs.declared.values.KeptWire.{KeptWire}
use Rattle.session_slots.specs.declared.values.Owner.TheVariants.{Party, Carried}
use Rattle.session_slots.specs.SoundSessions.{IsSoundSession}
use Rattle.session_slots.specs.Sessions.{source, slot_list}
use Rattle.session_slots.specs.Carries.{carrier, kept_from}
use Rattle.job_session.proofs.CircuitSessions.{sound_with}
use Rattle.plan_model.specs.Plans.{session, words, input_count}
use Rattle.plan_model.specs.Messages.{messages}
use Rattle.plan_model.specs.Sound.{IsSound}
use Rattle.plan_model.specs.InputWords.{AreInputs, given}
use Rattle.plan_model.specs.Tallies.{tape_length}
use Rattle.share_world.specs.Laws.{AreTapes}
use Rattle.share_world.specs.CarriedProduct.{kept_session, carrying_session, carried_plan, carried_world, CarriedPlain, CarriedWhole, CarriedWords}
use Rattle.share_world.proofs.CarriedWires.{carrier_there}
use Rattle.share_world.proofs.WorkedProduct.{product_of, sound_product, small_party, small_lists, no_cover}

pub carried_plain : CarriedPlain
carried_plain = refl

pub carried_words : CarriedWords
unfolding slot_list
carried_words = refl

-- ---- the world is whole

sound_kept : IsSoundSession 3 kept_session
sound_kept = sound_with 3 (product_of (Party 0) (Party 1) 0) false false kept_session.kept
    (sound_product (Party 0) (Party 1) 0 (λ p e. small_party 0 p (omega arith) e) (λ p e. small_party 1 p (omega arith) e) (omega arith))
    (record { outputs = outputs; few = omega arith })
  where
    outputs : All (λ (wire : KeptWire). wire.output < 1) kept_session.kept
    outputs zero wire l = omega arith
    outputs (suc k) wire l = absurd (omega (arith, l))

sound_carrying : IsSoundSession 3 carrying_session
sound_carrying = sound_product (Carried 0 0) (Party 0) 4 (λ p e. absurd (none p e)) (λ p e. small_party 0 p (omega arith) e) (omega arith)
  where
    none : (p : ℕ) → Earlier 0 0 0 ≡ Given p → ⊥
    none p e = cc

few_messages : length (messages carried_plan) ≤ 1048576
unfolding slot_list
few_messages = omega arith

few_words : (p : ℕ) → p < 3 → total 2 (words carried_plan p) ≤ 1048576
unfolding slot_list
few_words zero l = omega arith
few_words (suc zero) l = omega arith
few_words (suc (suc zero)) l = omega arith
few_words (suc (suc (suc p))) l = absurd (omega arith)

sound : IsSound carried_plan
sound = record {
  some_bits = omega arith;
  bits = omega arith;
  some_parties = omega arith;
  parties = omega arith;
  some_groups = omega arith;
  groups = omega arith;
  q2 = no_cover;
  few_sessions = omega arith;
  few_messages = few_messages;
  few_words = few_words;
  sessions = sessions;
  earlier = earlier;
  kept = kept;
}
  where
    sessions : (s : ℕ) → s < 2 → IsSoundSession 3 (session carried_plan s)
    sessions zero l = sound_kept
    sessions (suc zero) l = sound_carrying
    sessions (suc (suc s)) l = absurd (omega arith)

    earlier : (s v r c i : ℕ) → source (session carried_plan s) v ≡ Earlier r c i → r < s
    earlier zero zero r c i from = cc
    earlier zero (suc zero) r c i from = cc
    earlier zero (suc (suc v)) r c i from = cc
    earlier (suc zero) zero r c i from = (let is : 0 ≡ r = ap carrier from in omega (arith, is))
    earlier (suc zero) (suc zero) r c i from = cc
    earlier (suc zero) (suc (suc v)) r c i from = cc
    earlier (suc (suc s)) v r c i from = absurd (let l = carrier_there carried_plan (suc (suc s)) v r c i from in omega (arith, l))

    kept : (s : ℕ) → (session carried_plan s).kept ≡ kept_from s (kept_session ∷ carrying_session ∷ [])
    kept zero = refl
    kept (suc zero) = refl
    kept (suc (suc s)) = sym (ap (λ b. only_if b kept_session.kept ++ []) (ne_eqb 0 (suc (suc s)) (λ e. omega (arith, e))))

are_inputs : AreInputs carried_plan carried_world.inputs
are_inputs = record { parties = refl; sessions = sessions; counts = counts; below = below }
  where
    sessions : (p : ℕ) → p < 3 → length (slice_index_or carried_world.inputs p []) ≡ 2
    sessions zero l = refl
    sessions (suc zero) l = refl
    sessions (suc (suc zero)) l = refl
    sessions (suc (suc (suc p))) l = absurd (omega arith)

    counts : (p s : ℕ) → p < 3 → s < 2 → length (given carried_world.inputs p s) ≡ input_count carried_plan p s
    counts zero zero lp ls = refl
    counts zero (suc zero) lp ls = refl
    counts (suc zero) zero lp ls = refl
    counts (suc zero) (suc zero) lp ls = refl
    counts (suc (suc zero)) zero lp ls = refl
    counts (suc (suc zero)) (suc zero) lp ls = refl
    counts (suc (suc (suc p))) s lp ls = absurd (omega arith)
    counts p (suc (suc s)) lp ls = absurd (omega arith)

    below : (p s k : ℕ) → slice_index (given carried_world.inputs p s) k < 256
    below zero s k = small_lists ((5 ∷ []) ∷ (3 ∷ []) ∷ []) ((omega arith, tt), ((omega arith, tt), tt)) s k
    below (suc zero) s k = small_lists ((7 ∷ []) ∷ [] ∷ []) ((omega arith, tt), (tt, tt)) s k
    below (suc (suc zero)) s k = small_lists ([] ∷ [] ∷ []) (tt, (tt, tt)) s k
    below (suc (suc (suc p))) s k = omega arith

tape_lengths : (p : ℕ) → p < 3 → length (slice_index_or carried_world.tapes p []) ≡ tape_length carried_plan p
unfolding slot_list
tape_lengths zero l = refl
tape_lengths (suc zero) l = refl
tape_lengths (suc (suc zero)) l = refl
tape_lengths (suc (suc (suc p))) l = absurd (omega arith)

are_tapes : AreTapes carried_plan carried_world.tapes
are_tapes = record { parties = refl; lengths = tape_lengths; below = small_lists carried_world.tapes small }
  where
    small : AllByRecursion (AllByRecursion (λ x. x < 256)) carried_world.tapes
    small = (
      (omega arith, (omega arith, (omega arith, (omega arith, (omega arith, (omega arith, (omega arith, (omega arith, tt)))))))),
      ((omega arith, (omega arith, (omega arith, (omega arith, (omega arith, (omega arith, tt)))))), ((omega arith, (omega arith, (omega arith, (omega arith, tt)))), tt)),
    )

pub carried_whole : CarriedWhole
carried_whole = record { sound = sound; inputs = are_inputs; tapes = are_tapes }
