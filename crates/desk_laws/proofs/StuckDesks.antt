-- Where no desk of a world can move, all are at their end, and then every message was posted.
use Rattle.std.proofs.Common.{◌≡◌, ℕ, zero, suc, ◌+◌, ◌-◌, ◌*◌, ◌/◌, ◌%◌, ◌<◌, ◌≤◌, List, length, get_or, sym, ap, ap₂, ◌∙◌, subst, arith, ⊎_elim}
use Rattle.std.specs.Prelude.{Some, slice_get}
use Rattle.std.proofs.lemmas.Bool.{cases_lt}
use Rattle.std.proofs.Math.Nat.{mod-lt, div-mul-le_self, mul-le-mul_left, mul-le-mul_right}
use Rattle.std.proofs.lemmas.Nat.{div-mul-add, mod-mul-add}
use mathlib.Core.Logic.{inl, inr}
use Rattle.list_laws.specs.Lists.{total}
use Rattle.list_laws.proofs.JoinedLists.{length-joined}
use Rattle.list_laws.proofs.Totals.{total_eq}
use Rattle.plan_model.specs.Plans.{Plan, slot, slots}
use Rattle.plan_model.specs.Messages.{messages, slot_messages}
use Rattle.plan_model.specs.Numbers.{message}
use Rattle.plan_model.specs.Firsts.{count, session_count, first}
use Rattle.share_world.specs.Worlds.{World, word}
use Rattle.share_world.specs.Laws.{IsWhole}
use Rattle.share_world.proofs.SmallWords.{is_plan}
use Rattle.program_model.specs.declared.instruction.Instruction.TheVariants.{Post, Take}
use Rattle.program_model.specs.Programs.{program, at}
use Rattle.party_desk.specs.declared.desk.Desk.{Desk}
use Rattle.party_desk.specs.Desks.{IsDesk}
use Rattle.program_laws.specs.Lawful.{given_in, given_to, program_of}
use Rattle.program_laws.specs.Moves.{CanMove}
use Rattle.program_laws.specs.Orders.{ComesTo}
use Rattle.program_laws.proofs.Ranks.{comes_to, some_session_moves, posted_in, each_sender}
use Rattle.desk_laws.specs.InWorld.{HasPosts}
use Rattle.desk_laws.specs.Pools.{AreDesks, AllHavePosts, Stuck, AllStuck, AllEnded}
use Rattle.desk_laws.proofs.Elements.{element_there, by_place, by_element}

-- ---- desk s * parties + p is that of party p in session s

module _ (w : World) (s p : ℕ) (lp : p < w.plan.parties) where
  pub quotient : (s * w.plan.parties + p) / w.plan.parties ≡ s
  quotient = div-mul-add s w.plan.parties p lp

  pub remainder : (s * w.plan.parties + p) % w.plan.parties ≡ p
  remainder = mod-mul-add s w.plan.parties p lp

  pub program_there : program_of w (s * w.plan.parties + p) ≡ program w.plan p s
  program_there = ap₂ (λ a b. program w.plan a b) remainder quotient

  module _ (ds : List Desk) (h : AreDesks w ds) (ls : s < length w.plan.sessions) where
    pub beside : s * w.plan.parties + p < length ds
    beside = let a : (s + 1) * w.plan.parties ≤ length w.plan.sessions * w.plan.parties = mul-le-mul_right w.plan.parties (omega arith) in let c = h.many in omega arith

    pub desk_there : (d : Desk) → slice_get ds (s * w.plan.parties + p) ≡ Some d → IsDesk (given_in w s p) d
    desk_there d is =
        subst (λ z. IsDesk (given_in w z p) d) quotient
        (subst (λ z. IsDesk (given_in w ((s * w.plan.parties + p) / w.plan.parties) z) d) remainder (h.desks (s * w.plan.parties + p) d is))

-- the session of a desk
pub session_within : (w : World) → IsWhole w → (ds : List Desk) → AreDesks w ds → (k : ℕ) → k < length ds → k / w.plan.parties < length w.plan.sessions
session_within w whole ds h k l = elim (cases_lt (k / w.plan.parties) (length w.plan.sessions)) [
  | inl less ↦ less
  | inr past ↦ absurd (let a = mul-le-mul_left w.plan.parties past in let b = div-mul-le_self k w.plan.parties in let c = h.many in omega arith)
]

module _ (has : ℕ → ℕ → Type 0) (w : World) (whole : IsWhole w) (ds : List Desk) (h : AreDesks w ds) (posted : AllHavePosts has w ds) where
  abbrev n : ℕ
  n = w.plan.parties

  -- what the sender of a message posted, if it is past the post
  there : (s p q m i : ℕ) (d : Desk) → s < length w.plan.sessions → p < n → q < (get_or ds (s * n + p) d).position → at (program w.plan p s) q ≡ Post m i → has m (word w (message w.plan m))
  there s p q m i d ls lp less at' =
      by_place (λ k (desk : Desk). HasPosts has w (k / n) (k % n) desk.position) ds posted (s * n + p) d (beside w s p lp ds h ls) q m i less (ap (λ z. at z q) (program_there w s p lp) ∙ at')

  -- a message that comes to a session is of that session or of an earlier one
  sent_within : (s m : ℕ) → s < length w.plan.sessions → ComesTo w.plan s m → (message w.plan m).session < length w.plan.sessions
  sent_within s m ls it =
      let to = it.session in
      elim it.order [
        | inl same ↦ (let here = ap (λ there. there.0) same in omega (arith, ls, to, here))
        | inr later ↦ omega (arith, ls, to, later)
      ]

  module _ (stuck : AllStuck has w ds) (d0 : Desk) where
    -- where the desks stand
    abbrev position : ℕ → ℕ → ℕ
    position s p = (get_or ds (s * n + p) d0).position

    -- no desk can move
    none_moves : (s p : ℕ) → s < length w.plan.sessions → p < n → CanMove w.plan position s p → ⊥
    none_moves s p ls lp moves =
        let k : ℕ = s * n + p in
        let same : program_of w k ≡ program w.plan p s = program_there w s p lp in
        ⊎_elim
        (λ (e : position s p ≡ length (program_of w k)). let left = moves.0 in let long = ap length same in omega arith)
        (λ (t : (m : ℕ) × (i : ℕ) × (at (program_of w k) (position s p) ≡ Take m i) × ((v : ℕ) → ¬ has m v)).
        let m : ℕ = t.0 in
        let taken : at (program w.plan p s) (position s p) ≡ Take m t.1 = ap (λ z. at z (position s p)) (sym same) ∙ t.2 in
        let post = moves.1 m t.1 taken in
        let it = comes_to w.plan whole.sound s ls p (position s p) m t.1 moves.0 taken in
        let session' = sent_within s m ls it in
        absurd (t.3 (word w (message w.plan m)) (there (message w.plan m).session (message w.plan m).sender post.0 m post.1 d0 session' it.sender post.2 post.3)))
        (by_place (λ j (desk : Desk). Stuck has w j desk.position) ds stuck k d0 (beside w s p lp ds h ls))

    ended : (k : ℕ) → k < length ds → (get_or ds k d0).position ≡ length (program_of w k)
    ended k l =
        let s : ℕ = k / n in
        let p : ℕ = k % n in
        let lp : p < n = mod-lt k whole.sound.some_parties in
        let same : s * n + p ≡ k = (let some = whole.sound.some_parties in omega arith) in
        let ls : s < length w.plan.sessions = session_within w whole ds h k l in
        let here : position s p ≡ (get_or ds k d0).position = ap (λ z. (get_or ds z d0).position) same in
        let within : (get_or ds k d0).position ≤ length (program_of w k) = (by_place (λ j (desk : Desk). IsDesk (given_to w j) desk) ds h.desks k d0 l).position in
        elim (cases_lt (get_or ds k d0).position (length (program_of w k))) [
          | inl left ↦ let r = some_session_moves w.plan position whole.sound s p ls lp (omega arith) in absurd (none_moves r.0 r.2.0 (let least = r.1 in omega (arith, ls, least)) r.2.1 r.2.2)
          | inr past ↦ omega arith
        ]

  pub stuck_is_ended : AllStuck has w ds → AllEnded w ds
  stuck_is_ended stuck = by_element (λ k (desk : Desk). desk.position ≡ length (program_of w k)) ds (λ k d l. ended stuck d k l)

  -- every number below a sum stands in one of its terms
  part_of : (n : ℕ) (f : ℕ → ℕ) (i : ℕ) → i < total n f → (k : ℕ) × (j : ℕ) × (k < n) × (j < f k) × (i ≡ total k f + j)
  part_of zero f i l = absurd (omega arith)
  part_of (suc n) f i l = elim (cases_lt i (total n f)) [
    | inl b ↦ let r = part_of n f i b in (r.0, r.1, (let a = r.2 in omega arith), r.3, r.4)
    | inr past ↦ (n, i - total n f, omega arith, omega arith, omega arith)
  ]

  -- at the end the words have every message's
  pub all_posted : AllEnded w ds → (m : ℕ) → m < length (messages w.plan) → has m (word w (message w.plan m))
  all_posted ended m lm =
      let plan : Plan = w.plan in
      let lengths : length (messages plan) ≡ total (length plan.sessions) (session_count plan) = length-joined (length plan.sessions) _ ∙ total_eq (length plan.sessions) _ _ (λ r l. length-joined (slots plan r) (λ j. slot_messages plan r j (slot plan r j))) in
      let a = part_of (length plan.sessions) (session_count plan) m (omega arith) in
      let s : ℕ = a.0 in
      let ls : s < length plan.sessions = a.2 in
      let b = part_of (slots plan s) (count plan s) a.1 a.3 in
      let k : ℕ = b.0 in
      let j : ℕ = b.1 in
      let is : m ≡ first plan s k + j = (let x = a.4 in let y = b.4 in omega arith) in
      let owner = (whole.sound.sessions s ls).owned in
      let post' = posted_in plan (is_plan w whole) s ls owner k j b.2 b.3 in
      let number : ℕ = first plan s k + j in
      let p : ℕ = (message plan number).sender in
      let lp : p < plan.parties = each_sender plan (is_plan w whole) s ls owner k j b.2 b.3 in
      let d0 : Desk = (element_there ds (s * n + p) (beside w s p lp ds h ls)).0 in
      let end : (get_or ds (s * n + p) d0).position ≡ length (program plan p s) =
      by_place (λ k (desk : Desk). desk.position ≡ length (program_of w k)) ds ended (s * n + p) d0 (beside w s p lp ds h ls) ∙ ap length (program_there w s p lp) in
      let inside = post'.1 in
      subst (λ z. has z (word w (message plan z))) (sym is)
      (there s p post'.0 number (message plan number).share d0 ls lp (omega arith) post'.2)
