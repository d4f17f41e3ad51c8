-- What a group sees, as it is written, part by part of the messages.
use Rattle.std.proofs.Common.{◌≡◌, ℕ, zero, suc, ◌<◌, true, false, List, [], ◌∷◌, ◌++◌, map, length, refl, sym, ap, ◌∙◌, arith, append-nil}
use Rattle.std.specs.Prelude.{slice_index_or}
use Rattle.std.proofs.lemmas.Bool.{cond-true, cond-false}
use Rattle.std.proofs.lemmas.List.{ext_get_or, length-map}
use Rattle.std.proofs.lemmas.List.Concat.{flat_map-append}
use Rattle.list_laws.specs.Lists.{joined, listed}
use Rattle.list_laws.proofs.JoinedLists.{length-listed, listed_at}
use Rattle.plan_model.specs.declared.key.Key.{Key}
use Rattle.plan_model.specs.declared.pattern.Transfer.{Transfer}
use Rattle.plan_model.specs.Plans.{Plan, slot}
use Rattle.plan_model.specs.Messages.{slot_messages}
use Rattle.plan_model.specs.Numbers.{no_key}
use Rattle.plan_model.specs.Patterns.{named, transfers, pattern_at}
use Rattle.plan_model.proofs.RankSearch.{no_transfer, named_at}
use Rattle.share_world.specs.Worlds.{World, touches, word}
use Rattle.view_text.specs.ViewText.{message_line, message_lines}
use Rattle.view_text.specs.Seen.{seen_of}
use Rattle.view_text.proofs.SeenMessages.{seen-append}
use Rattle.plan_model.proofs.NamedTransfers.{named_slot}
use Rattle.output_text.specs.Seen.{seen_lines, slot_seen}

module _ (names : List (List ℕ)) (w : World) (group : ℕ) where
  abbrev seen : List Key → List ℕ
  seen = seen_lines names w group

  abbrev with_words : List Key → List (Key × ℕ)
  with_words keys = map (λ key. (key, word w key)) keys

  written-append : (xs ys : List Key) → seen (xs ++ ys) ≡ seen xs ++ seen ys
  unfolding seen_lines
  written-append xs ys =
      ap (message_lines names) (seen-append w group xs ys)
      ∙ flat_map-append (λ (m : Key × ℕ). message_line names m.0 m.1) (seen_of w group xs) (seen_of w group ys)

  seen-none : seen [] ≡ []
  unfolding seen_lines
  seen-none = refl

  -- what is seen of parts, part by part
  pub seen-joined : (n : ℕ) (f : ℕ → List Key) → seen (joined n f) ≡ joined n (λ k. seen (f k))
  seen-joined zero f = seen-none
  seen-joined (suc n) f = written-append (joined n f) (f n) ∙ ap (λ xs. xs ++ seen (f n)) (seen-joined n f)

  -- the transfers of a slot, one by one
  seen-transfers : (s k : ℕ) (xs : List Transfer) → seen (map (named s k) xs) ≡ joined (length xs) (λ i. seen (named s k (slice_index_or xs i no_transfer) ∷ []))
  seen-transfers s k xs = ap seen one_by_one ∙ seen-joined (length xs) (λ i. named s k (slice_index_or xs i no_transfer) ∷ [])
    where
      one_by_one : map (named s k) xs ≡ listed (length xs) (λ i. named s k (slice_index_or xs i no_transfer))
      one_by_one = ext_get_or no_key _ _ (length-map xs (named s k) ∙ sym (length-listed (length xs) (λ i. named s k (slice_index_or xs i no_transfer))))
          (λ i l. let within : i < length xs = omega (arith, length-map xs (named s k)) in named_at s k xs i within ∙ sym (listed_at (length xs) (λ i. named s k (slice_index_or xs i no_transfer)) i no_key within))

  -- a message of a member
  pub seen-own : (key : Key) → touches group key ≡ true → message_line names key (word w key) ≡ seen (key ∷ [])
  unfolding seen_lines
  seen-own key own = sym (
      ap (λ keys. message_lines names (with_words keys)) (cond-true (touches group key) (key ∷ []) [] own)
      ∙ append-nil (message_line names key (word w key)))

  -- a message of others
  pub seen-other : (key : Key) → touches group key ≡ false → [] ≡ seen (key ∷ [])
  unfolding seen_lines
  seen-other key other = sym (ap (λ keys. message_lines names (with_words keys)) (cond-false (touches group key) (key ∷ []) [] other))

  -- the messages of a slot, by the transfers of its pattern
  pub slot_is : (plan : Plan) (s k : ℕ) (xs : List Transfer) → w.plan ≡ plan → xs ≡ transfers plan (pattern_at plan s k)
      → joined (length xs) (λ i. seen (named s k (slice_index_or xs i no_transfer) ∷ [])) ≡ slot_seen names w group s k
  slot_is plan s k xs same is =
      sym (seen-transfers s k xs)
      ∙ ap seen (named_slot plan s k xs is ∙ ap (λ p. slot_messages p s k (slot p s k)) (sym same))
