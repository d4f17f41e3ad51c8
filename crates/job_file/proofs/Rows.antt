-- The first fault, where the rows before the sessions tell none.
use Rattle.std.proofs.Common.{◌≡◌, ℕ, ◌≤◌, Bool, [], ◌∷◌, ◌∙◌, ap, refl, length, Option, Some, None, arith}
use Rattle.std.proofs.lemmas.Bool.Decides.{nat_tests}
use Rattle.std.specs.Option.{option_or}
use Rattle.toml.specs.Data.{Members}
use Rattle.job_file.specs.declared.field.JobField.TheVariants.{Parties, Session}
use Rattle.job_file.specs.declared.fault.JobFault.{JobFault}
use Rattle.job_file.specs.Names.{top_fields}
use Rattle.job_file.specs.Forms.{is_version_two, adversary_field, texts, items, tables}
use Rattle.list_laws.specs.Checks.{first_fault}
use Rattle.job_file.specs.Faults.{version_fault, unknown_fault, fields_fault, ring_fault, parties_fault, adversary_fault, count_fault, sessions_fault, hosts_fault, port_fault, frames_fault, views_fault, job_fault}

head_none : (a b c d rest : Option JobFault) → first_fault (a ∷ b ∷ c ∷ d ∷ []) ≡ None → option_or a (option_or b (option_or c (option_or d rest))) ≡ rest
head_none None None None None rest e = refl
head_none None None None (Some f) rest e = cc
head_none None None (Some f) d rest e = cc
head_none None (Some f) c d rest e = cc
head_none (Some f) b c d rest e = cc

-- the rows after the port
abbrev pub form_rows : Members → Option JobFault
form_rows fields = option_or (frames_fault fields) (option_or (views_fault fields) None)

-- the rows after the hosts
abbrev pub port_rows : Members → Option JobFault
port_rows fields = option_or (port_fault fields) (form_rows fields)

-- the rows after the sessions
abbrev pub last_rows : Members → Option JobFault
last_rows fields = option_or (hosts_fault fields) (port_rows fields)

-- the rows from the sessions on
abbrev pub session_rows : Members → Option JobFault
session_rows fields = option_or (sessions_fault (is_version_two fields) (texts Parties fields) 0 (tables Session fields)) (last_rows fields)

-- the rows after those of the parties
abbrev pub rest_rows : Members → Option JobFault
rest_rows fields = option_or (adversary_fault fields) (option_or (count_fault (length (items Session fields))) (session_rows fields))

pub at_parties : (node : Bool) (fields : Members)
    → first_fault (version_fault fields ∷ unknown_fault None (top_fields (is_version_two fields) (adversary_field fields)) fields ∷ fields_fault node fields ∷ ring_fault fields ∷ []) ≡ None
    → job_fault node fields ≡ option_or (parties_fault fields) (rest_rows fields)
unfolding job_fault
at_parties node fields head =
    head_none (version_fault fields) (unknown_fault None (top_fields (is_version_two fields) (adversary_field fields)) fields) (fields_fault node fields) (ring_fault fields) (option_or (parties_fault fields) (rest_rows fields)) head

module _ (fields : Members) (adversary : adversary_fault fields ≡ None) where
  pub at_count : rest_rows fields ≡ option_or (count_fault (length (items Session fields))) (session_rows fields)
  at_count = ap (λ o. option_or o (option_or (count_fault (length (items Session fields))) (session_rows fields))) adversary

  pub at_sessions : count_fault (length (items Session fields)) ≡ None → rest_rows fields ≡ session_rows fields
  at_sessions count = at_count ∙ ap (λ o. option_or o (session_rows fields)) count

  pub at_last : count_fault (length (items Session fields)) ≡ None → sessions_fault (is_version_two fields) (texts Parties fields) 0 (tables Session fields) ≡ None → rest_rows fields ≡ last_rows fields
  at_last count sessions = at_sessions count ∙ ap (λ o. option_or o (last_rows fields)) sessions

-- where these rows tell no fault, the second and the fifth tell none
none_of_rest : (a b c d e rest : Option JobFault) → option_or a (option_or b (option_or c (option_or d (option_or e rest)))) ≡ None → (b ≡ None) × (e ≡ None)
none_of_rest None None None None None rest is = (refl, refl)
none_of_rest None None None None (Some f) rest is = absurd (cc)
none_of_rest None None None (Some f) e rest is = absurd (cc)
none_of_rest None None (Some f) d e rest is = absurd (cc)
none_of_rest None (Some f) c d e rest is = absurd (cc)
none_of_rest (Some f) b c d e rest is = absurd (cc)

pub none_left : (fields : Members) → rest_rows fields ≡ None → (count_fault (length (items Session fields)) ≡ None) × (port_fault fields ≡ None)
none_left fields is =
    none_of_rest (adversary_fault fields) (count_fault (length (items Session fields))) (sessions_fault (is_version_two fields) (texts Parties fields) 0 (tables Session fields)) (hosts_fault fields) (port_fault fields) (form_rows fields) is

-- how many sessions there are, where that is no fault
pub session_count : (count : ℕ) → count_fault count ≡ None → (1 ≤ count) × (count ≤ 16)
unfolding count_fault
session_count count is = grind (arith, nat_tests)
