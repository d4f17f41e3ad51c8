-- Tapes are cut into the pieces of the desks, and the pieces make the tapes.
use Rattle.std.proofs.Common.{◌≡◌, ℕ, ◌+◌, ◌*◌, ◌<◌, ◌^◌, List, [], ◌∷◌, ◌++◌, All, length, take, drop, sym, ap, ◌∙◌, arith}
use Rattle.std.specs.Prelude.{slice_index, slice_index_or}
use Rattle.std.proofs.lemmas.List.{length-drop, length-take-le, get_or-take, get_or-drop}
use Rattle.std.proofs.lemmas.List.Elements.{All-from_recursion, All-take, All-drop}
use Rattle.list_laws.specs.Lists.{total, joined, listed}
use Rattle.list_laws.proofs.Totals.{total_eq}
use Rattle.list_laws.proofs.JoinedLists.{length-joined, joined_place, length-listed, listed_at, listed_is, joined_eq, joined_cuts, joined_step, total_within, every_joined, every_listed}
use Rattle.party_file.proofs.GivenWidths.{total_same}
use Rattle.plan_model.specs.Plans.{Plan, words, place}
use Rattle.share_world.specs.Laws.{AreTapes}
use Rattle.wire_tables.proofs.ListedRows.{listed_of}
use Rattle.tape_map.proofs.ChangedPieces.{small_all}
use Rattle.desk_laws.specs.Pieces.{ArePieces, piece_at}
use Rattle.job_run.specs.Pairs.{tapes_in}

-- what is cut off party p's tape for session s
abbrev pub cut_piece : Plan → List (List ℕ) → ℕ → ℕ → List ℕ
cut_piece plan tapes s p = take (words plan p s) (drop (place plan p s 0) (slice_index_or tapes p []))

-- and for all parties
abbrev pub cut_row : Plan → List (List ℕ) → ℕ → List (List ℕ)
cut_row plan tapes s = listed plan.parties (cut_piece plan tapes s)

-- the piece of one party more
pub piece_more : (plan : Plan) (tapes : List (List ℕ)) (s p : ℕ) (pieces pieces' : List (List ℕ)) (piece : List ℕ)
    → pieces ≡ joined s (cut_row plan tapes) ++ listed p (cut_piece plan tapes s) → piece ≡ cut_piece plan tapes s p → pieces' ≡ pieces ++ piece ∷ []
    → pieces' ≡ joined s (cut_row plan tapes) ++ listed (p + 1) (cut_piece plan tapes s)
piece_more plan tapes s p pieces pieces' piece so_far is pushed =
    pushed ∙ joined_step p (λ p. cut_piece plan tapes s p ∷ []) (joined s (cut_row plan tapes)) pieces (piece ∷ []) so_far (ap (λ piece. piece ∷ []) is)

-- tapes of the plan, cut into the pieces of all desks
module _ (plan : Plan) (tapes : List (List ℕ)) (h : AreTapes plan tapes) where
  abbrev tape : ℕ → List ℕ
  tape p = slice_index_or tapes p []

  abbrev cuts : List (List ℕ)
  cuts = joined (length plan.sessions) (cut_row plan tapes)

  -- where a piece begins, and how long it is
  begin : (p s : ℕ) → place plan p s 0 ≡ total s (words plan p)
  begin p s = omega arith

  long : (p s : ℕ) → p < plan.parties → s < length plan.sessions → length (cut_piece plan tapes s p) ≡ words plan p s
  long p s lp ls =
      let within = total_within (length plan.sessions) s (words plan p) ls in
      length-take-le (words plan p s) (drop (place plan p s 0) (tape p)) (omega (arith, length-drop (place plan p s 0) (tape p), h.lengths p lp, within, begin p s))

  -- a piece word by word
  piece_listed : (p s : ℕ) → p < plan.parties → s < length plan.sessions → cut_piece plan tapes s p ≡ listed (words plan p s) (λ i. slice_index (tape p) (total s (words plan p) + i))
  piece_listed p s lp ls = listed_of 0 (words plan p s) _ (cut_piece plan tapes s p) (long p s lp ls) (λ i li.
      get_or-take (words plan p s) (drop (place plan p s 0) (tape p)) i 0 li
      ∙ get_or-drop (place plan p s 0) (tape p) i 0
      ∙ ap (λ z. slice_index (tape p) (z + i)) (begin p s))

  rows_long : (s : ℕ) → total s (λ j. length (cut_row plan tapes j)) ≡ s * plan.parties
  rows_long s = total_eq s _ (λ _. plan.parties) (λ j lj. length-listed plan.parties (cut_piece plan tapes j)) ∙ total_same s plan.parties

  -- the piece of each desk is what was cut for it
  piece_is : (p s : ℕ) → p < plan.parties → s < length plan.sessions → piece_at plan cuts p s ≡ cut_piece plan tapes s p
  piece_is p s lp ls =
      ap (λ z. slice_index_or cuts (z + p) []) (sym (rows_long s))
      ∙ joined_place [] (length plan.sessions) s (cut_row plan tapes) p ls (omega (arith, lp, length-listed plan.parties (cut_piece plan tapes s)))
      ∙ listed_at plan.parties (cut_piece plan tapes s) p [] lp

  abbrev InRing : List ℕ → Type 0
  InRing words = All (λ word. word < 2 ^ plan.bits) words

  small : (s p : ℕ) → InRing (cut_piece plan tapes s p)
  small s p =
      All-take (λ word. word < 2 ^ plan.bits) (words plan p s) (drop (place plan p s 0) (tape p))
      (All-drop (λ word. word < 2 ^ plan.bits) (place plan p s 0) (tape p) (small_all (2 ^ plan.bits) (tape p) (h.below p)))

  -- the pieces are as long as the desks draw
  pub are_pieces : ArePieces plan cuts
  are_pieces = record {
    count = (let e = length-joined (length plan.sessions) (cut_row plan tapes) ∙ rows_long (length plan.sessions) in omega (arith, e));
    lengths = λ p s lp ls. ap length (piece_is p s lp ls) ∙ long p s lp ls;
    below = All-from_recursion InRing cuts (every_joined InRing (length plan.sessions) (cut_row plan tapes) (λ s ls. every_listed InRing plan.parties (cut_piece plan tapes s) (small s)));
  }

  tape_is : (p : ℕ) → p < plan.parties → joined (length plan.sessions) (piece_at plan cuts p) ≡ tape p
  tape_is p lp =
      joined_eq (length plan.sessions) (piece_at plan cuts p) _ (λ s ls. piece_is p s lp ls ∙ piece_listed p s lp ls)
      ∙ joined_cuts (length plan.sessions) (words plan p) (slice_index (tape p))
      ∙ ap (λ n. listed n (slice_index (tape p))) (sym (h.lengths p lp))
      ∙ listed_is (tape p)

  -- and make the tapes that were cut
  pub tapes_same : tapes_in plan cuts ≡ tapes
  tapes_same = sym (listed_of [] plan.parties (λ p. joined (length plan.sessions) (piece_at plan cuts p)) tapes h.parties (λ p lp. sym (tape_is p lp)))
