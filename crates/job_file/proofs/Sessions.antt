-- One turn of the loop that makes sessions.
use Rattle.std.proofs.Common.{◌≡◌, ℕ, ◌+◌, ◌-◌, ◌<◌, ◌≤◌, inl, inr, refl, Bool, List, [], ◌∷◌, ◌++◌, ◌∙◌, ap, sym, subst, map, length, drop, get_or, append_assoc, append-nil, length-append, arith}
use Rattle.std.specs.List.{enumerate_from}
use Rattle.std.proofs.lemmas.Bool.{cases_lt}
use Rattle.std.proofs.lemmas.List.{drop_all, map-append, get_or_append_left, get_or-append_right}
use Rattle.toml.specs.Data.{Members}
use Rattle.toml.specs.declared.value.Value.{Value}
use Rattle.job_file.specs.declared.job.JobSession.{JobSession}
use Rattle.job_file.specs.Forms.{SessionForm, session_form}
use Rattle.job_file.specs.Jobs.{session_view, IsSession, AreSessions}
use Rattle.job_file.proofs.Readers.{session_of, cut}

module _ (two : Bool) (names : List (List ℕ)) (vs : List Value) where
  -- the sessions that are left from this one on
  abbrev left : ℕ → List SessionForm
  left i = map (λ (table : ℕ × Members). session_form two names table.0 table.1) (enumerate_from i (map session_of (drop i vs)))

  left_turn : (i : ℕ) (v : Value) → i < length vs → v ≡ get_or vs i v → left i ≡ session_form two names i (session_of v) ∷ left (i + 1)
  left_turn i v within is = ap (λ xs. map (λ (table : ℕ × Members). session_form two names table.0 table.1) (enumerate_from i (map session_of xs))) (cut vs i v within is)

  -- one more session, which shows what its table gives
  pub forms_more : (i : ℕ) (v : Value) (done : List JobSession) (s : JobSession) (whole : List SessionForm) → i < length vs → v ≡ get_or vs i v → session_view s ≡ session_form two names i (session_of v)
      → map session_view done ++ left i ≡ whole → map session_view (done ++ s ∷ []) ++ left (i + 1) ≡ whole
  forms_more i v done s whole within is here so_far =
      ap (λ xs. xs ++ left (i + 1)) (map-append session_view done (s ∷ []))
      ∙ append_assoc (map session_view done) (session_view s ∷ []) (left (i + 1))
      ∙ ap (λ x. map session_view done ++ x ∷ left (i + 1)) here
      ∙ ap (λ xs. map session_view done ++ xs) (sym (left_turn i v within is))
      ∙ so_far

  pub forms_end : (i : ℕ) (done : List JobSession) (whole : List SessionForm) → length vs ≤ i → map session_view done ++ left i ≡ whole → map session_view done ≡ whole
  forms_end i done whole all so_far =
      sym (append-nil (map session_view done))
      ∙ ap (λ xs. map session_view done ++ map (λ (table : ℕ × Members). session_form two names table.0 table.1) (enumerate_from i (map session_of xs))) (sym (drop_all i vs all))
      ∙ so_far

pub sessions_more : (parties : ℕ) (sessions : List JobSession) (s : JobSession) → AreSessions parties sessions → IsSession parties (length sessions) s → AreSessions parties (sessions ++ s ∷ [])
sessions_more parties sessions s all last k d within = elim (cases_lt k (length sessions)) [
  | inl before ↦ subst (IsSession parties k) (sym (get_or_append_left sessions (s ∷ []) d k before)) (all k d before)
  | inr after ↦
      let at : length sessions ≡ k = omega (arith, after, within, length-append sessions (s ∷ [])) in
      let here : s ≡ get_or (sessions ++ s ∷ []) k d = sym (get_or-append_right sessions (s ∷ []) (length sessions) k d refl after ∙ ap (λ n. get_or (s ∷ []) n d) (let zero : k - length sessions ≡ 0 = omega (arith, at) in zero)) in
      subst (IsSession parties k) here (subst (λ n. IsSession parties n s) at last)
]
