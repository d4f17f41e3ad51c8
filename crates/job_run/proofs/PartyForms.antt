-- One party's data more that fit.
use Rattle.std.proofs.Common.{◌≡◌, ℕ, List, [], ◌∷◌, ◌++◌, length, inl, inr, sym, ◌∙◌, subst}
use Rattle.list_laws.proofs.PushedLists.{got_push}
use Rattle.plan_model.specs.Plans.{Plan}
use Rattle.party_file.specs.Forms.{form_of, FitsPlan}
use Rattle.party_file.specs.declared.data.PartyData.{PartyData}
use Rattle.job_run.specs.Parties.{AllFit}

pub fit_push : (plan : Plan) (all_data all_data' : List PartyData) (p : ℕ) (party_data : PartyData) → all_data' ≡ all_data ++ party_data ∷ [] → length all_data ≡ p → AllFit plan all_data → FitsPlan plan p (form_of party_data) → AllFit plan all_data'
fit_push plan all_data all_data' p party_data is count fit fits = subst (AllFit plan) (sym is) (λ k h e. elim (got_push all_data party_data h k e) [
  | inl old ↦ fit k h old
  | inr last ↦ subst (λ n. FitsPlan plan n (form_of h)) (sym (last.0 ∙ count)) (subst (λ x. FitsPlan plan p (form_of x)) last.1 fits)
])
