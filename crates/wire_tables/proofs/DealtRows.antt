-- The summands that are dealt of a value, as a list, and sums of them.
use Rattle.std.proofs.Common.{◌≡◌, ℕ, suc, ◌+◌, ◌-◌, ◌%◌, ◌^◌, ◌<◌, ◌≤◌, Bool, false, if◌then◌else◌, All, List, [], ◌∷◌, ◌++◌, length, take, drop, replicate, sym, ap, ap₂, ◌∙◌, subst, arith, inl, inr, length-append, length-drop}
use Rattle.std.specs.Prelude.{slice_index, slice_index_or}
use Rattle.std.specs.Global.{Vec}
use Rattle.std.proofs.Math.Nat.{mod-eq_of_lt, mod-lt}
use Rattle.std.proofs.Math.ListN.{get_or-append}
use Rattle.std.proofs.lemmas.Bool.{cases_lt, cond-false}
use Rattle.std.proofs.lemmas.List.{get_or-append-add, get_or-drop, get_or-take, get_or-replicate, length-map, length-take-le, length-replicate}
use Rattle.list_laws.specs.Lists.{total, listed}
use Rattle.list_laws.proofs.Totals.{total_eq, total_more}
use Rattle.list_laws.proofs.JoinedLists.{length-listed, listed_at}
use Rattle.mpc_ring.specs.Differences.{difference}
use Rattle.secret_sharing.specs.Schemes.{Scheme, dealt}
use Rattle.secret_sharing.specs.Prepared.{masked, sum_of}
use Rattle.secret_sharing.proofs.SummandSums.{dealt_word, dealt_last}
use Rattle.plan_model.specs.InputWords.{session_words}
use Rattle.plan_model.specs.Plans.{Plan, scheme, holder_of, least_held}
use Rattle.plan_model.proofs.TapePlaces.{held_within}
use Rattle.wire_tables.specs.Places.{HasMaskWords, mask_at}
use Rattle.wire_tables.specs.WireTables.{world_of}
use Rattle.wire_tables.specs.declared.world_data.WorldData.{WorldData}
use Rattle.wire_tables.proofs.ListedRows.{listed_of, row_read}

-- zeros by their places
pub zeros_listed : (m : ℕ) (f : ℕ → ℕ) → ((i : ℕ) → f i ≡ 0) → replicate m 0 ≡ listed m f
zeros_listed m f h = listed_of 0 m f (replicate m 0) (length-replicate {A = ℕ} m 0) (λ i l. get_or-replicate m i 0 0 l ∙ sym (h i))

-- a list of small numbers
pub all_listed : (n q : ℕ) (f : ℕ → ℕ) → ((i : ℕ) → i < n → f i < q) → All (λ word. word < q) (listed n f)
all_listed n q f h k d l = let less : k < n = omega (arith, length-listed n f) in subst (λ z. z < q) (sym (listed_at n f k d less)) (h k less)

module _ (s : Scheme) (value at n x : ℕ) (tape : List ℕ) (some : 0 < s.modulus) (shares : s.shares ≡ suc n) (enough : at + n ≤ length tape) where
  abbrev words : List ℕ
  words = take n (drop at tape)

  abbrev word : ℕ → ℕ
  word i = slice_index tape (at + i)

  long : length words ≡ n
  long = length-take-le n (drop at tape) (omega (arith, length-drop at tape))

  word_at : (i : ℕ) → i < n → slice_index words i ≡ word i
  word_at i l = get_or-take n (drop at tape) i 0 l ∙ get_or-drop at tape i 0

  -- words off a tape, and last what is missing, are the summands that are dealt
  pub dealt_list : x ≡ difference s.modulus value (total (length words) (slice_index words) % s.modulus) → words ++ x ∷ [] ≡ listed s.shares (dealt s value word)
  dealt_list is =
      let less : s.shares - 1 ≡ n = omega arith in
      let all : total (length words) (slice_index words) ≡ total (s.shares - 1) word =
      ap (λ k. total k (slice_index words)) long ∙ total_eq n (slice_index words) word word_at ∙ ap (λ k. total k word) (sym less) in
      let missing : x ≡ difference s.modulus value (total (s.shares - 1) word) =
      is ∙ ap (λ z. (value + (s.modulus - z)) % s.modulus) (mod-eq_of_lt (mod-lt (total (length words) (slice_index words)) some))
      ∙ ap (difference s.modulus value) all in
      listed_of 0 s.shares (dealt s value word) (words ++ x ∷ []) (omega (arith, length-append words (x ∷ []), long)) (λ i li. elim (cases_lt i n) [
        | inl l ↦ get_or-append words (x ∷ []) 0 i (omega (arith, long)) ∙ word_at i l ∙ sym (dealt_word s value word i (omega arith))
        | inr past ↦
            let here : length words + 0 ≡ i = omega (arith, long) in
            ap (slice_index (words ++ x ∷ [])) (sym here) ∙ get_or-append-add words (x ∷ []) 0 0 ∙ missing ∙ sym (dealt_last s value word i (omega arith))
      ])

-- ---- a product's sums

-- a party that has no pair adds nothing
pub total_passed : (n : ℕ) (has : ℕ → Bool) (f : ℕ → ℕ) → has n ≡ false → total (n + 1) (λ p. if has p then f p else 0) ≡ total n (λ p. if has p then f p else 0)
total_passed n has f e =
    let none : (if has n then f n else 0) ≡ 0 = cond-false (has n) (f n) 0 e in
    let more = total_more n (λ p. if has p then f p else 0) in
    omega arith

-- ---- a mask's words

-- a least holder has its next word of a mask
pub mask_word : (world : WorldData) (places : List ℕ) (i p held : ℕ) (tape : Vec ℕ) → HasMaskWords (world_of world) places → i < length world.plan.now.groups
    → p ≡ holder_of world.plan.now i → held ≡ least_held world.plan.now p i → tape ≡ slice_index_or world.tapes.now p tape
    → (slice_index places p + held < length tape.items) × (slice_index tape.items (slice_index places p + held) ≡ mask_at (world_of world) places i)
mask_word world places i p held tape h li holder held_is is =
    let plan = world.plan.now in
    let tapes = world.tapes.now in
    let m = length plan.groups in
    let there : p < length (session_words tapes) = subst (λ q. q < length (session_words tapes)) (sym holder) (h.holders i li) in
    let tape_is : tape.items ≡ slice_index_or (session_words tapes) p [] = row_read tapes p tape (omega (arith, there, length-map tapes (λ (t : Vec ℕ). t.items))) is in
    let fewer : least_held plan p i < least_held plan p m = subst (λ q. least_held plan q i < least_held plan q m) (sym holder) (held_within plan i m li) in (
      omega (arith, h.enough p there, held_is, fewer, ap length tape_is),
      ap₂ (λ xs n. slice_index xs (slice_index places p + n)) tape_is held_is
          ∙ ap (λ q. slice_index (slice_index_or (session_words tapes) q []) (slice_index places q + least_held plan q i)) holder,
    )

-- what a wire has more than its mask, as it is opened
pub excess_is : (plan : Plan) (bits n d : ℕ) (x a : ℕ → ℕ) → bits ≡ plan.bits → n ≡ length plan.groups → d ≡ total n (λ i. difference (2 ^ bits) (x i) (a i)) % 2 ^ bits
    → d ≡ sum_of (scheme plan) (masked (scheme plan) x a)
excess_is plan bits n d x a eb en is = is ∙ ap₂ (λ b n. total n (λ i. difference (2 ^ b) (x i) (a i)) % 2 ^ b) eb en
