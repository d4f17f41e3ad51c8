-- Bytes hold one longest run.
use Rattle.std.proofs.Common.{◌≡◌, ℕ, suc, ◌+◌, ◌*◌, ◌<◌, ◌≤◌, ◌^◌, List, ◌++◌, take, drop, length, sym, ap, ap₂, ◌∙◌, subst, arith, append_assoc, length-append}
use Rattle.std.specs.Prelude.{slice_index_or}
use Rattle.std.specs.List.{AllByRecursion}
use Rattle.std.proofs.lemmas.Bool.{cases_eq, cases_lt}
use Rattle.std.proofs.lemmas.List.{length-take-le, take-append-drop, take-take}
use mathlib.Core.Logic.{inl, inr}
use Rattle.plan_model.specs.declared.key.Key.{Key}
use Rattle.plan_model.specs.Numbers.{no_key}
use Rattle.plan_model.proofs.DistinctMessages.{every_place}
use Rattle.frame_code.specs.declared.framing.Framing.{Framing}
use Rattle.frame_code.specs.Frames.{hello, frame, frame_bytes}
use Rattle.frame_code.proofs.ReadFrames.{word_in, word_back, length-hello}
use Rattle.node_talk.specs.Talks.{Node, framing, expected, expected_at, frames, stream, IsRun, RunsAgree, OneIsLongest}
use Rattle.node_talk.proofs.Frames.{drop_front, frames_at, frames_length, stream_append}
use Rattle.node_talk.proofs.PassedLists.{every_taken, take_place}

-- the word of the frame at this place
abbrev word_at : Framing → List ℕ → ℕ → ℕ
word_at r bytes place = word_in r (drop (38 + frame_bytes r * place) bytes)

-- a frame after so many bytes
framed_at : (r : Framing) → r.bits ≤ 64 → (bytes front : List ℕ) (place : ℕ) (key : Key) (word : ℕ) (rest : List ℕ) → length front ≡ 38 + frame_bytes r * place → word < 2 ^ r.bits → bytes ≡ front ++ (frame r key word ++ rest) → word_at r bytes place ≡ word
framed_at r few bytes front place key word rest long small is =
    ap (λ z. word_in r (drop (38 + frame_bytes r * place) z)) is
    ∙ ap (λ z. word_in r (drop z (front ++ (frame r key word ++ rest)))) (sym long)
    ∙ ap (word_in r) (drop_front front (frame r key word ++ rest))
    ∙ word_back r key word rest few small

module _ (n : Node) (q : ℕ) where
  -- the word of a run stands at its place
  run_word : n.world.plan.bits ≤ 64 → length n.digest ≡ 32 → (bytes : List ℕ) (f : ℕ) (word : Key → ℕ) → IsRun n q bytes f word → (place : ℕ) → place < f → word_at (framing n) bytes place ≡ word (expected_at n q place)
  run_word few long bytes f word run place l =
      let keys : List Key = take f (expected n q) in
      let many : length keys ≡ f = length-take-le f (expected n q) run.count in
      let r = frames_at (framing n) word keys place (omega arith) in
      let same : slice_index_or keys place no_key ≡ expected_at n q place = take_place (expected n q) f place no_key l in
      let front : List ℕ = hello q n.me n.digest ++ frames (framing n) word (take place keys) in
      let length_front : length front ≡ 38 + frame_bytes (framing n) * place =
      length-append (hello q n.me n.digest) (frames (framing n) word (take place keys))
      ∙ ap₂ (λ a b. a + b) (length-hello q n.me n.digest long) (frames_length (framing n) word (take place keys) ∙ ap (λ z. frame_bytes (framing n) * z) (length-take-le place keys (omega arith))) in
      let key : Key = slice_index_or keys place no_key in
      framed_at (framing n) few bytes front place key (word key) (r.0 ++ run.begins.0) length_front
      (every_place (λ k. word k < 2 ^ n.world.plan.bits) keys place no_key run.small (omega arith))
      (
      run.begins.1
      ∙ ap (λ z. (hello q n.me n.digest ++ z) ++ run.begins.0) r.1
      ∙ ap (λ z. z ++ run.begins.0) (sym (append_assoc (hello q n.me n.digest) (frames (framing n) word (take place keys)) (frame (framing n) key (word key) ++ r.0)))
      ∙ append_assoc front (frame (framing n) key (word key) ++ r.0) run.begins.0
      ∙ ap (λ z. front ++ z) (append_assoc (frame (framing n) key (word key)) r.0 run.begins.0)
      )
      ∙ ap word same

  pub runs_agree : n.world.plan.bits ≤ 64 → length n.digest ≡ 32 → RunsAgree n q
  runs_agree few long bytes f g v w run other place lf lg = sym (run_word few long bytes f v run place lf) ∙ run_word few long bytes g w other place lg

  -- the first frames of a run are one
  pub shorter_run : (bytes : List ℕ) (f g : ℕ) (word : Key → ℕ) → f ≤ g → IsRun n q bytes g word → IsRun n q bytes f word
  shorter_run bytes f g word le run =
      let keys : List Key = take g (expected n q) in
      let first : take f keys ≡ take f (expected n q) = take-take f g (expected n q) le in
      record {
        count = (let c = run.count in omega arith);
        small = subst (AllByRecursion (λ key. word key < 2 ^ n.world.plan.bits)) first (every_taken (λ key. word key < 2 ^ n.world.plan.bits) f keys run.small);
        begins = (
          frames (framing n) word (drop f keys) ++ run.begins.0,
          run.begins.1
              ∙ ap (λ z. stream (framing n) n.digest q n.me word z ++ run.begins.0) (sym (take-append-drop f keys))
              ∙ ap (λ z. z ++ run.begins.0) (stream_append (framing n) n.digest q n.me word (take f keys) (drop f keys))
              ∙ append_assoc (stream (framing n) n.digest q n.me word (take f keys)) (frames (framing n) word (drop f keys)) run.begins.0
              ∙ ap (λ z. stream (framing n) n.digest q n.me word z ++ (frames (framing n) word (drop f keys) ++ run.begins.0)) first,
        );
      }

  pub one_is_longest : OneIsLongest n q
  one_is_longest bytes f g v w run other ends ends' = elim (cases_eq f g) [
    | inl same ↦ same
    | inr ne ↦ elim (cases_lt f g) [
      | inl less ↦ absurd (ends w (shorter_run bytes (suc f) g w (omega arith) other))
      | inr past ↦ absurd (ends' v (shorter_run bytes (suc g) f v (omega arith) run))
    ]
  ]
