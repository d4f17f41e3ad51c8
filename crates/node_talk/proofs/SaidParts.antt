-- What was said is shown by all readings of the outlets that tell the same.
use Rattle.std.proofs.Common.{◌≡◌, ℕ, sym, ◌∙◌, subst, inl, inr, ⊎_elim}
use Rattle.plan_model.specs.declared.key.Key.{Key}
use Rattle.plan_model.specs.Numbers.{message}
use Rattle.frame_code.specs.Frames.{frame}
use Rattle.outer_io.specs.Count.{Rose}
use Rattle.outer_io.specs.Sink.{SinkReading, added, AddedPrefix}
use Rattle.node_talk.specs.Talks.{Node, IsPeer, framing, said}
use Rattle.node_talk.specs.Runs.{TookWhole, FailedPost, GoesOut, SendFailed, HelloFailed, FailsAfter, SaysFirst}

module _ (n : Node) (word : Key → ℕ) (k : ℕ) (before a b : ℕ → SinkReading) (told : (q : ℕ) → (b q).told ≡ (a q).told) (faults : (q : ℕ) → (b q).faults ≡ (a q).faults) where
  post_alike : (q : ℕ) → FailedPost n word k before a q → FailedPost n word k before b q
  post_alike q (j, m, i, last, posts, to, part) =
      (j, m, i, last, posts, to, subst (λ z. AddedPrefix (added (before q).told (said n q word j)) (frame (framing n) (message n.world.plan m) (word (message n.world.plan m))) z) (sym (told q)) part)

  send_alike : (q : ℕ) → SendFailed n word k before a q → SendFailed n word k before b q
  send_alike q s = record {
    itself = ⊎_elim (λ (x : FailedPost n word k before a q). inl (post_alike q x)) (λ (x : GoesOut n k × TookWhole n word k before a q). inr (x.0, told q ∙ x.1)) s.itself;
    others = λ r peer ne. told r ∙ s.others r peer ne;
  }

  hello_alike : (q : ℕ) → HelloFailed n before a q → HelloFailed n before b q
  hello_alike q h = record { below = λ r peer l. told r ∙ h.below r peer l; above = λ r peer l. told r ∙ h.above r peer l }

  fails_alike : (q : ℕ) → FailsAfter n word k before a q → FailsAfter n word k before b q
  fails_alike q = ⊎_elim (λ (s : SendFailed n word k before a q). inl (send_alike q s)) (λ (x : (k ≡ 0) × HelloFailed n before a q). inr (x.0, hello_alike q x.1))

  pub shown_alike : SaysFirst n word k before a → SaysFirst n word k before b
  shown_alike = ⊎_elim
      (λ (all : (q : ℕ) → IsPeer n q → TookWhole n word k before a q × ((a q).faults ≡ (before q).faults)). inl (λ q peer. (told q ∙ (all q peer).0, faults q ∙ (all q peer).1)))
      (λ (x : (q : ℕ) × IsPeer n q × Rose (before q).faults (a q).faults × FailsAfter n word k before a q). inr (x.0, x.1, subst (λ z. Rose (before x.0).faults z) (sym (faults x.0)) x.2, fails_alike x.0 x.3))
