-- A world that is opened is one within the limits, and its desks are those of the world, at their start.
use Rattle.std.proofs.Common.{◌≡◌, ℕ, ◌+◌, ◌*◌, ◌/◌, ◌%◌, ◌<◌, ◌≤◌, ◌^◌, List, [], length, take, drop, get_or, sym, ap, ap₂, ◌∙◌, subst, arith}
use Rattle.std.specs.Prelude.{Some, slice_get, slice_index, slice_index_or}
use Rattle.std.specs.List.{AllByRecursion}
use Rattle.std.proofs.lemmas.Bool.{cases_lt}
use Rattle.std.proofs.lemmas.Nat.{pow_pos}
use Rattle.std.proofs.lemmas.List.{length-drop, length-take-le, get_or-take, get_or-drop, get_or_past, ext_get_or}
use Rattle.std.proofs.lemmas.List.Elements.{recursion_from_All}
use Rattle.std.proofs.Math.Nat.{mod-lt, div-add-mod, div-mul-le_self, mul-le-mul_left}
use mathlib.Core.Logic.{inl, inr}
use Rattle.list_laws.specs.Lists.{total, joined}
use Rattle.list_laws.proofs.Totals.{total_eq}
use Rattle.list_laws.proofs.JoinedLists.{length-joined, length-listed, listed_at, joined_at, total_within, every_joined, every_at}
use Rattle.plan_model.specs.Plans.{Plan, words, place}
use Rattle.plan_model.specs.InputWords.{AreInputs, given}
use Rattle.plan_model.specs.Sound.{IsSound}
use Rattle.plan_model.specs.Numbers.{message}
use Rattle.share_world.specs.Worlds.{World, word}
use Rattle.party_desk.specs.declared.desk.Desk.{Desk}
use Rattle.party_desk.specs.Desks.{IsDesk}
use Rattle.share_world.specs.Laws.{IsWhole}
use Rattle.program_laws.specs.Lawful.{given_to}
use Rattle.desk_laws.specs.Pieces.{piece_at, world_of_pieces, ArePieces}
use Rattle.desk_laws.specs.NewDesks.{AreNewDesks}
use Rattle.desk_laws.specs.Pools.{AreDesks, AllHavePosts}
use Rattle.desk_laws.proofs.Elements.{stands_at}

-- ---- the desks by number

module _ (plan : Plan) (sound : IsSound plan) (pieces : List (List ℕ)) (h : ArePieces plan pieces) (k : ℕ) (lk : k < length pieces) where
  abbrev n : ℕ
  n = plan.parties

  pub party_is : k % n < n
  party_is = mod-lt k sound.some_parties

  pub session_is : k / n < length plan.sessions
  session_is = elim (cases_lt (k / n) (length plan.sessions)) [
    | inl less ↦ less
    | inr past ↦ absurd (let a = mul-le-mul_left n past in let b = div-mul-le_self k n in let c = h.count in omega arith)
  ]

  number_is : (k / n) * n + k % n ≡ k
  number_is = let e = div-add-mod k n in omega (arith, e)

  pub piece_is : piece_at plan pieces (k % n) (k / n) ≡ slice_index_or pieces k []
  piece_is = ap (λ z. slice_index_or pieces z []) number_is

  pub long_piece : length (slice_index_or pieces k []) ≡ words plan (k % n) (k / n)
  long_piece = ap length (sym piece_is) ∙ h.lengths (k % n) (k / n) party_is session_is

-- ---- tapes and their pieces

module _ (plan : Plan) (sound : IsSound plan) (inputs : List (List (List ℕ))) (given' : AreInputs plan inputs) (pieces : List (List ℕ)) (h : ArePieces plan pieces) where
  abbrev w : World
  w = world_of_pieces plan inputs pieces

  abbrev tape : ℕ → List ℕ
  tape p = joined (length plan.sessions) (piece_at plan pieces p)

  tape_is : (p : ℕ) → p < plan.parties → slice_index_or w.tapes p [] ≡ tape p
  tape_is p lp = listed_at plan.parties tape p [] lp

  many : (p : ℕ) → p < plan.parties → (t : ℕ) → t ≤ length plan.sessions → total t (λ s. length (piece_at plan pieces p s)) ≡ total t (words plan p)
  many p lp t lt = total_eq t _ _ (λ s ls. h.lengths p s lp (omega arith))

  long : (p : ℕ) → p < plan.parties → length (tape p) ≡ total (length plan.sessions) (words plan p)
  long p lp = length-joined (length plan.sessions) (piece_at plan pieces p) ∙ many p lp (length plan.sessions) (omega arith)

  -- what the world gives a desk is its piece
  pub cut_out : (p s : ℕ) → p < plan.parties → s < length plan.sessions → take (words plan p s) (drop (place plan p s 0) (slice_index_or w.tapes p [])) ≡ piece_at plan pieces p s
  cut_out p s lp ls =
      let size = h.lengths p s lp ls in
      let within = total_within (length plan.sessions) s (words plan p) ls in
      let whole = long p lp in
      let begin : place plan p s 0 ≡ total s (words plan p) = omega arith in
      let same : take (words plan p s) (drop (total s (words plan p)) (tape p)) ≡ piece_at plan pieces p s =
      (let count : length (take (words plan p s) (drop (total s (words plan p)) (tape p))) ≡ words plan p s =
      length-take-le (words plan p s) (drop (total s (words plan p)) (tape p)) (omega (arith, length-drop (total s (words plan p)) (tape p), within, whole)) in
      ext_get_or 0 _ _ (count ∙ sym size) (λ i li.
      let less : i < words plan p s = omega (arith, li, count) in
      get_or-take (words plan p s) (drop (total s (words plan p)) (tape p)) i 0 less
      ∙ get_or-drop (total s (words plan p)) (tape p) i 0
      ∙ ap (λ z. get_or (tape p) (z + i) 0) (sym (many p lp s (omega arith)))
      ∙ joined_at (length plan.sessions) s (piece_at plan pieces p) i ls (omega (arith, less, size)))) in
      ap₂ (λ b t. take (words plan p s) (drop b t)) begin (tape_is p lp) ∙ same

  abbrev q : ℕ
  q = 2 ^ plan.bits

  small_piece : (p s : ℕ) → AllByRecursion (λ x. x < q) (piece_at plan pieces p s)
  small_piece p s = elim (cases_lt (s * plan.parties + p) (length pieces)) [
    | inl l ↦ recursion_from_All _ _ (h.below (s * plan.parties + p) [] l)
    | inr past ↦ subst (AllByRecursion (λ x. x < q)) (sym (get_or_past pieces (s * plan.parties + p) [] past)) tt
  ]

  small_tape : (p i : ℕ) → slice_index (slice_index_or w.tapes p []) i < q
  small_tape p i = elim (cases_lt p plan.parties) [
    | inl lp ↦ subst (λ t. slice_index t i < q) (sym (tape_is p lp))
        (every_at (λ x. x < q) (tape p) i (pow_pos plan.bits) (every_joined (λ x. x < q) (length plan.sessions) (piece_at plan pieces p) (λ s ls. small_piece p s)))
    | inr past ↦ subst (λ t. slice_index t i < q) (sym (get_or_past w.tapes p [] (omega (arith, length-listed plan.parties tape, past)))) (pow_pos plan.bits)
  ]

  pub whole_is : IsWhole w
  whole_is = record {
    sound = sound;
    inputs = given';
    tapes = record {
      parties = length-listed plan.parties tape;
      lengths = λ p lp. ap length (tape_is p lp) ∙ long p lp;
      below = small_tape;
    };
  }

  -- ---- the start

  module _ (ds : List Desk) (count : length ds ≡ length pieces) (new : AreNewDesks plan inputs pieces ds) where
    desk_is : (k : ℕ) (d : Desk) → slice_get ds k ≡ Some d → IsDesk (given_to w k) d
    desk_is k d is =
        let p : ℕ = k % plan.parties in
        let s : ℕ = k / plan.parties in
        let inside : k < length pieces = (let within = (stands_at ds k d d is).0 in omega arith) in
        let lp = party_is plan sound pieces h k inside in
        let ls = session_is plan sound pieces h k inside in
        let piece = sym (cut_out p s lp ls ∙ piece_is plan sound pieces h k inside) in
        let got : ℕ → ℕ = λ n. word w (message plan n) in
        subst (λ t. IsDesk (record { plan = plan; party = p; session = s; inputs = given inputs p s; tape = t; got = got }) d) piece ((new k d is).desk got)

    pub new_desks : AreDesks w ds
    new_desks = record { many = count ∙ h.count; desks = desk_is }

    -- they have posted nothing
    pub no_posts : (has : ℕ → ℕ → Type 0) → AllHavePosts has w ds
    no_posts has k d is q n i less e = absurd (let none = (new k d is).position in omega arith)
