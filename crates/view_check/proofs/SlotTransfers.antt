-- The messages of a slot, transfer by transfer of its pattern, and what a group sees of them.
use Rattle.std.proofs.Common.{◌≡◌, ℕ, ◌+◌, ◌<◌, ◌≤◌, true, Bool, false, cond, inl, inr, ◌⊎◌, List, [], ◌∷◌, ◌++◌, map, take, drop, length, refl, sym, ap, ◌∙◌, subst, arith}
use Rattle.std.specs.Prelude.{slice_index, slice_index_or}
use Rattle.std.proofs.lemmas.List.{map-append, take_more, take_all, take-append-drop}
use Rattle.list_laws.specs.Lists.{joined, only_if}
use Rattle.list_laws.proofs.JoinedLists.{length-listed, listed_at, joined_more}
use Rattle.plan_model.specs.declared.key.Key.{Key}
use Rattle.plan_model.specs.declared.pattern.Transfer.{Transfer}
use Rattle.plan_model.specs.Plans.{slot, slots}
use Rattle.plan_model.specs.Messages.{slot_messages}
use Rattle.plan_model.specs.Firsts.{first}
use Rattle.plan_model.specs.Patterns.{named, transfers, pattern_at}
use Rattle.plan_model.proofs.RankSearch.{no_transfer}
use Rattle.program_laws.specs.Once.{IsBetweenParties}
use Rattle.share_world.specs.Laws.{IsWhole}
use Rattle.share_world.specs.Worlds.{World, touches, word}
use Rattle.wire_tables.specs.SlotRows.{sent, AreSlotRows}
use Rattle.wire_tables.proofs.MessageSenders.{Stands, stands_so, to_anyone}
use Rattle.view_check.specs.declared.fault.CheckFault.{CheckFault}
use Rattle.view_check.specs.declared.fault.CheckFault.TheVariants.{Memory}
use Rattle.view_text.specs.Seen.{seen_of, IsMessage}
use Rattle.view_text.proofs.SeenMessages.{seen-append, transfer_is}
use Rattle.plan_model.proofs.NamedTransfers.{named_slot}
use Rattle.view_check.specs.Views.{Place, Passes, Stops}
use Rattle.view_check.proofs.Walks.{joined_front, passes_then, passes_same, stops_then, stops_more, stops_same}

-- ---- a message

-- a message goes from one party to another, and the sender's row has its word
pub record HasRow (w : World) (rows : List (List ℕ)) (key : Key) : Type 0 where
  pub sender : key.sender < w.plan.parties
  pub receiver : key.receiver < w.plan.parties
  pub row : key.sender < length rows
  pub share : key.share < length (slice_index_or rows key.sender [])
  pub word_is : slice_index (slice_index_or rows key.sender []) key.share ≡ word w key

module _ (w : World) (whole : IsWhole w) (s k : ℕ) (ls : s < length w.plan.sessions) (lk : k < slots w.plan s) (xs : List Transfer) (are : xs ≡ transfers w.plan (pattern_at w.plan s k)) where
  pub slot_is : slot_messages w.plan s k (slot w.plan s k) ≡ map (named s k) xs
  slot_is = sym (named_slot w.plan s k xs are)

  module _ (i : ℕ) (l : i < length xs) where
    abbrev transfer : Transfer
    transfer = slice_index_or xs i no_transfer

    is_message : IsMessage w.plan (first w.plan s k + i) (named s k transfer)
    is_message = transfer_is w.plan s k xs whole.sound ls lk are i l (first w.plan s k + i) (named s k transfer) refl refl

    stands : Stands w.plan (named s k transfer)
    stands = stands_so w whole (first w.plan s k + i) is_message.there (sym is_message.is)

    parties : IsBetweenParties w.plan (named s k transfer)
    parties = is_message.between

    pub transfer_row : (rows : List (List ℕ)) → AreSlotRows w s k rows → HasRow w rows (named s k transfer)
    transfer_row rows h =
        let row_is = h.are transfer.sender parties.sender stands.sends in record {
          sender = parties.sender;
          receiver = parties.receiver;
          row = omega (arith, h.parties, parties.sender);
          share = subst (λ xs. transfer.share < length xs) (sym row_is) (subst (λ n. transfer.share < n) (sym (length-listed (length w.plan.groups) (sent w s k transfer.sender))) stands.share);
          word_is =
              ap (λ xs. slice_index xs transfer.share) row_is
              ∙ listed_at (length w.plan.groups) (sent w s k transfer.sender) transfer.share 0 stands.share
              ∙ to_anyone w (named s k transfer) (slot w.plan s k);
        }

-- ---- what a group sees

module _ (w : World) (group : ℕ) where
  abbrev with_word : Key → Key × ℕ
  with_word key = (key, word w key)

  pub seen_one : (key : Key) (v : ℕ) → v ≡ word w key → seen_of w group (key ∷ []) ≡ only_if (touches group key) ((key, v) ∷ [])
  seen_one key v e = go (touches group key)
    where
      go : (b : Bool) → map with_word (cond b (key ∷ []) []) ≡ only_if b ((key, v) ∷ [])
      go true = ap (λ x. (key, x) ∷ []) (sym e)
      go false = refl

  module _ (s k i : ℕ) (xs : List Transfer) (l : i < length xs) (key : Key) (key_is : key ≡ named s k (slice_index_or xs i no_transfer)) (v : ℕ) (word_is : v ≡ word w key) where
    -- one transfer more
    seen_more : seen_of w group (map (named s k) (take i xs)) ++ only_if (touches group key) ((key, v) ∷ []) ≡ seen_of w group (map (named s k) (take (i + 1) xs))
    seen_more = sym (
        ap (λ ls. seen_of w group (map (named s k) ls)) (take_more xs i no_transfer l)
        ∙ ap (seen_of w group) (map-append (named s k) (take i xs) (slice_index_or xs i no_transfer ∷ []))
        ∙ seen-append w group (map (named s k) (take i xs)) (named s k (slice_index_or xs i no_transfer) ∷ [])
        ∙ ap (λ ks. seen_of w group (map (named s k) (take i xs)) ++ ks) (ap (λ key. seen_of w group (key ∷ [])) (sym key_is) ∙ seen_one key v word_is))

    module _ (names : List (List ℕ)) (a b : Place) (before : Passes names (seen_of w group (map (named s k) (take i xs))) a b) where
      pub pass_transfer : (c : Place) → Passes names (only_if (touches group key) ((key, v) ∷ [])) b c → Passes names (seen_of w group (map (named s k) (take (i + 1) xs))) a c
      pass_transfer c h = passes_same names _ _ a c seen_more (passes_then names _ _ a b c before h)

      pub stop_transfer : (fault : CheckFault) (keys : List Key) → keys ≡ map (named s k) xs → Stops names (only_if (touches group key) ((key, v) ∷ [])) b fault → Stops names (seen_of w group keys) a fault
      stop_transfer fault keys all h =
          let whole : seen_of w group (map (named s k) (take (i + 1) xs)) ++ seen_of w group (map (named s k) (drop (i + 1) xs)) ≡ seen_of w group keys =
          sym (seen-append w group (map (named s k) (take (i + 1) xs)) (map (named s k) (drop (i + 1) xs)))
          ∙ ap (seen_of w group) (sym (map-append (named s k) (take (i + 1) xs) (drop (i + 1) xs)) ∙ ap (map (named s k)) (take-append-drop (i + 1) xs) ∙ sym all) in
          stops_same names _ _ a fault whole (stops_more names _ _ a fault (stops_same names _ _ a fault seen_more (stops_then names _ _ a b fault before h)))

  pub pass_transfers : (names : List (List ℕ)) (s k i : ℕ) (xs : List Transfer) (keys : List Key) (a b : Place) → length xs ≤ i → keys ≡ map (named s k) xs
      → Passes names (seen_of w group (map (named s k) (take i xs))) a b → Passes names (seen_of w group keys) a b
  pass_transfers names s k i xs keys a b l all h =
      passes_same names _ _ a b (ap (λ ls. seen_of w group (map (named s k) ls)) (take_all i xs l) ∙ ap (seen_of w group) (sym all)) h

-- ---- one part of the messages after another

module _ (w : World) (group : ℕ) (names : List (List ℕ)) (f : ℕ → List Key) where
  pub pass_part : (k : ℕ) (a b c : Place) → Passes names (seen_of w group (joined k f)) a b → Passes names (seen_of w group (f k)) b c → Passes names (seen_of w group (joined (k + 1) f)) a c
  pass_part k a b c before h =
      passes_same names _ _ a c (sym (ap (seen_of w group) (joined_more k f) ∙ seen-append w group (joined k f) (f k))) (passes_then names _ _ a b c before h)

  pub stop_part : (n k : ℕ) (a b : Place) (fault : CheckFault) → k < n → Passes names (seen_of w group (joined k f)) a b → (fault ≡ Memory) ⊎ Stops names (seen_of w group (f k)) b fault
      → (fault ≡ Memory) ⊎ Stops names (seen_of w group (joined n f)) a fault
  stop_part n k a b fault l before (inl memory) = inl memory
  stop_part n k a b fault l before (inr h) =
      let front = joined_front f n (k + 1) (omega arith) in
      let whole : (seen_of w group (joined k f) ++ seen_of w group (f k)) ++ seen_of w group front.0 ≡ seen_of w group (joined n f) =
      ap (λ ks. ks ++ seen_of w group front.0) (sym (ap (seen_of w group) (joined_more k f) ∙ seen-append w group (joined k f) (f k)))
      ∙ sym (ap (seen_of w group) front.1 ∙ seen-append w group (joined (k + 1) f) front.0) in
      inr (stops_same names _ _ a fault whole (stops_more names _ _ a fault (stops_then names _ _ a b fault before h)))
