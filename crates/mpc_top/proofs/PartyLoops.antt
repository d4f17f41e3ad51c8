-- How the parties' files are read one after another.
use Rattle.std.proofs.Common.{◌≡◌, ℕ, ◌<◌, ◌≤◌, ◌+◌, Bool, List, [], ◌∷◌, ◌++◌, length, drop, map, get_or, Result, Ok, Err, Vec, suc, refl, sym, ap, ◌∙◌, subst}
use Rattle.std.specs.Prelude.{IsErrAnd}
use Rattle.job_run.specs.Parties.{AllFit}
use Rattle.std.specs.declared.alloc.Global.{Global}
use Rattle.outer_io.specs.Files.{FilesReading}
use Rattle.plan_model.specs.Plans.{Plan}
use Rattle.party_file.specs.Table.{PartyForm}
use Rattle.party_file.specs.Forms.{form_of}
use Rattle.party_file.specs.declared.data.PartyData.{PartyData}
use Rattle.job_walk.specs.declared.stop.Stop.{Stop}
use Rattle.job_walk.specs.JobOf.{PartyAt, PartiesAfter}
use Rattle.job_walk.specs.Names.{party_file}
use Rattle.job_walk.specs.FilesAsked.{party_files}
use Rattle.job_walk.specs.Reads.{ReadsAs}
use Rattle.job_walk.proofs.Steps.{reads_exit, reads_then, reads_end}
use Rattle.job_walk.proofs.Equal.{left_of, none_left}
use Rattle.mpc_top.specs.Seen.{parties_view}

module _ (dir : List ℕ) (numeric : List Bool) (plan : Plan) (names : List (List ℕ)) (p : ℕ) (before : FilesReading) (result : Result (Vec PartyData Global) Stop) where
  abbrev ReadsNames : List PartyForm → List (List ℕ) → FilesReading → FilesReading → Type 0
  ReadsNames parties names before after = ReadsAs dir (party_files names) parties_view (λ m. PartiesAfter m dir numeric plan parties names) before after result

  abbrev PartiesRest : List PartyForm → ℕ → FilesReading → FilesReading → Type 0
  PartiesRest parties p before after = ReadsNames parties (drop p (map (λ (name : List ℕ). name) names)) before after

  -- the same over an equal list
  pub parties_same : (parties parties' : List PartyForm) (k : ℕ) (mid after : FilesReading) → parties ≡ parties' → PartiesRest parties k mid after → PartiesRest parties' k mid after
  parties_same parties parties' k mid after same r = subst (λ hs. PartiesRest hs k mid after) same r

  module _ (name : List ℕ) (is : name ≡ get_or names p []) (l : p < length names) (parties : List PartyForm) (count : length parties ≡ p) where
    on_names : (after : FilesReading) → ReadsNames parties (name ∷ drop (p + 1) (map (λ (name : List ℕ). name) names)) before after → PartiesRest parties p before after
    on_names after r = subst (λ xs. ReadsNames parties xs before after) (sym (left_of (λ (name : List ℕ). name) names p [] l ∙ ap (λ x. x ∷ drop (p + 1) (map (λ (name : List ℕ). name) names)) (sym is))) r

    -- the file of the party, whose sessions are as the code found them
    abbrev ReadsParty : List Bool → FilesReading → Result PartyData Stop → Type 0
    ReadsParty found after read = ReadsAs dir (party_file name ∷ []) form_of (λ m. PartyAt m dir found plan p name) before after read

    at_count : (found : List Bool) → found ≡ numeric → (after : FilesReading) (read : Result PartyData Stop) → ReadsParty found after read
        → ReadsAs dir (party_file name ∷ []) form_of (λ m. PartyAt m dir numeric plan (length parties) name) before after read
    at_count found same after read r =
        subst (λ k. ReadsAs dir (party_file name ∷ []) form_of (λ m. PartyAt m dir numeric plan k name) before after read) (sym count) (subst (λ ns. ReadsParty ns after read) same r)

    pub party_next : (found : List Bool) → found ≡ numeric → (mid after : FilesReading) (party : PartyData) → ReadsParty found mid (Ok party)
        → PartiesRest (parties ++ form_of party ∷ []) (p + 1) mid after → PartiesRest parties p before after
    unfolding PartiesAfter
    party_next found same mid after party r rest = on_names after (reads_then _ _ _ _ before mid after party result (at_count found same mid (Ok party) r) rest)

    pub party_stops : (found : List Bool) → found ≡ numeric → (after : FilesReading) (stop : Stop) → IsErrAnd result (λ e. e ≡ stop) → ReadsParty found after (Err stop) → PartiesRest parties p before after
    unfolding PartiesAfter
    party_stops found same after stop err r = on_names after (reads_exit _ _ _ _ _ before after stop result err (at_count found same after (Err stop) r))

pub parties_end : (dir : List ℕ) (numeric : List Bool) (plan : Plan) (names : List (List ℕ)) (p : ℕ) (now : FilesReading) (parties : Vec PartyData Global) → length names ≤ p
    → ReadsAs dir (party_files (drop p (map (λ (name : List ℕ). name) names))) parties_view (λ m. PartiesAfter m dir numeric plan (parties_view parties) (drop p (map (λ (name : List ℕ). name) names))) now now (Ok parties)
unfolding PartiesAfter
parties_end dir numeric plan names p now parties all =
    subst (λ xs. ReadsAs dir (party_files xs) parties_view (λ m. PartiesAfter m dir numeric plan (parties_view parties) xs) now now (Ok parties)) (sym (none_left (λ (name : List ℕ). name) names p all)) (reads_end parties_view now parties)

pub same_names : (names : List (List ℕ)) → map (λ (name : List ℕ). name) names ≡ names
same_names [] = refl
same_names (name ∷ names) = ap (λ ns. name ∷ ns) (same_names names)

-- ---- what the parties fit

pub parties_push : (parties parties' : List PartyData) (party : PartyData) → parties' ≡ parties ++ party ∷ [] → map form_of parties' ≡ map form_of parties ++ form_of party ∷ []
parties_push parties parties' party is = ap (map form_of) is ∙ mapped parties where
  mapped : (parties : List PartyData) → map form_of (parties ++ party ∷ []) ≡ map form_of parties ++ form_of party ∷ []
  mapped [] = refl
  mapped (h ∷ hs) = ap (λ t. form_of h ∷ t) (mapped hs)

pub length-forms : (parties : List PartyData) → length (map form_of parties) ≡ length parties
length-forms [] = refl
length-forms (h ∷ hs) = ap suc (length-forms hs)

pub fit_none : (plan : Plan) (parties : List PartyData) → parties ≡ [] → AllFit plan parties
fit_none plan parties is = subst (AllFit plan) (sym is) (λ k h e. cc)
