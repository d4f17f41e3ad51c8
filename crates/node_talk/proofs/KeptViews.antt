-- What a party kept of its own view, where it got the words of the world.
use Rattle.std.proofs.Common.{◌≡◌, ◌≢◌, ℕ, zero, suc, ◌<◌, ◌^◌, Bool, true, false, ◌||◌, List, [], ◌∷◌, ◌++◌, length, map, refl, sym, ap, ap₂, ◌∙◌, arith, append_assoc, Some}
use Rattle.std.specs.Prelude.{filter, slice_index_or, unwrap_or}
use Rattle.std.proofs.lemmas.Bool.{cases_Bool, cases_eq, cond-true, cond-false, ne_eqb, false≢true}
use Rattle.std.proofs.lemmas.List.{append-nil}
use Rattle.std.proofs.lemmas.Nat.Bits.{bit_at-pow_other}
use mathlib.Core.Logic.{inl, inr}
use Rattle.list_laws.specs.Lists.{joined, only_if}
use Rattle.party_set.specs.Parties.{has_party}
use Rattle.plan_model.specs.declared.key.Key.{Key}
use Rattle.plan_model.specs.Messages.{messages}
use Rattle.plan_model.specs.Numbers.{message, no_key}
use Rattle.share_world.specs.Worlds.{word, touches, view}
use Rattle.share_world.specs.Laws.{IsWhole}
use Rattle.node_talk.specs.Talks.{Node}
use Rattle.node_talk.specs.Runs.{Results, word_kept, IsDone, kept_view, GotWorld}
use Rattle.node_talk.proofs.RightRuns.{own_right}

-- ---- lists

joined_first : {A : Type 0} (n : ℕ) (f : ℕ → List A) → joined (suc n) f ≡ f 0 ++ joined n (λ k. f (suc k))
joined_first zero f = sym (append-nil (f 0))
joined_first (suc n) f = ap (λ z. z ++ f (suc n)) (joined_first n f) ∙ append_assoc (f 0) (joined n (λ k. f (suc k))) (f (suc n))

-- what stands for each element that passes, by its place
picked : {A B : Type 0} (test : A → Bool) (f : ℕ → B) (g : A → B) (xs : List A) (d : A) → ((j : ℕ) → j < length xs → test (slice_index_or xs j d) ≡ true → f j ≡ g (slice_index_or xs j d))
    → joined (length xs) (λ j. only_if (test (slice_index_or xs j d)) (f j ∷ [])) ≡ map g (filter test xs)
picked test f g [] d h = refl
picked {A} {B} test f g (x ∷ xs) d h =
    let rest : joined (length xs) (λ j. only_if (test (slice_index_or xs j d)) (f (suc j) ∷ [])) ≡ map g (filter test xs) = picked test (λ j. f (suc j)) g xs d (λ j l. h (suc j) (omega arith)) in
    joined_first (length xs) (λ j. only_if (test (slice_index_or (x ∷ xs) j d)) (f j ∷ []))
    ∙ elim (cases_Bool (test x)) [
      | inl e ↦ ap₂ (λ a b. a ++ b) (cond-true (test x) (f 0 ∷ []) [] e ∙ ap (λ z. z ∷ []) (h 0 (omega arith) e)) rest ∙ sym (ap (map g) (cond-true (test x) (x ∷ filter test xs) (filter test xs) e))
      | inr e ↦ ap₂ (λ a b. a ++ b) (cond-false (test x) (f 0 ∷ []) [] e) rest ∙ sym (ap (map g) (cond-false (test x) (x ∷ filter test xs) (filter test xs) e))
    ]

-- ---- the group of one party

other_bit : (q p : ℕ) → p ≢ q → has_party (2 ^ q) p ≡ false
other_bit q p ne = ne_eqb _ 1 (λ e. let z = bit_at-pow_other q p ne in omega (arith, e, z))

-- a message that neither comes from a party nor goes to it is none of its own
untouched : (q : ℕ) (key : Key) → key.sender ≢ q → key.receiver ≢ q → touches (2 ^ q) key ≡ false
untouched q key ns nr = ap₂ (λ a b. a || b) (other_bit q key.sender ns) (other_bit q key.receiver nr)

-- ---- a party

module _ (n : Node) (whole : IsWhole n.world) (lp : n.me < n.world.plan.parties) (got : Key → ℕ) (right : GotWorld n got) (r : Results) (done : IsDone n got r) where
  kept_word : (m : ℕ) → m < length (messages n.world.plan) → touches (2 ^ n.me) (message n.world.plan m) ≡ true → word_kept r m ≡ Some (word n.world (message n.world.plan m))
  kept_word m lm own = elim (cases_eq (message n.world.plan m).receiver n.me) [
    | inl to ↦ done.words m lm to ∙ ap Some (right m lm to)
    | inr nr ↦ elim (cases_eq (message n.world.plan m).sender n.me) [
      | inl from ↦ done.sent m lm from ∙ ap Some (own_right n whole lp got right m lm from)
      | inr ns ↦ absurd (false≢true (sym (untouched n.me (message n.world.plan m) ns nr) ∙ own))
    ]
  ]

  pub own_view : kept_view n.world.plan n.me r ≡ view n.world (2 ^ n.me)
  own_view =
      picked (touches (2 ^ n.me)) (λ m. (message n.world.plan m, unwrap_or (word_kept r m) 0)) (λ key. (key, word n.world key)) (messages n.world.plan) no_key
      (λ m lm own. ap (λ z. (message n.world.plan m, unwrap_or z 0)) (kept_word m lm own))
