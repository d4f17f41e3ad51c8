-- One turn of the loops over owners, readers, values and sessions.
use Rattle.std.proofs.Common.{◌≡◌, ℕ, ◌+◌, ◌<◌, ◌≤◌, Bool, List, [], ◌∷◌, ◌++◌, ◌∙◌, ap, sym, map, length, take, drop, get_or, length-take-le, Option, Some, None, cond, arith}
use Rattle.std.specs.Prelude.{◌||◌}
use Rattle.std.specs.List.{list_any}
use Rattle.std.specs.Option.{option_or, option_map}
use Rattle.std.specs.Str.{bytes_eq}
use Rattle.std.proofs.lemmas.List.{drop_more, take_more, map-append, length-map}
use Rattle.list_laws.proofs.FirstFaults.{first-one}
use Rattle.toml.specs.Data.{Members}
use Rattle.toml.specs.View.{view}
use Rattle.toml.specs.declared.value.Value.{Value}
use Rattle.toml_fields.specs.Fields.{text_of, texts_of, fields_of}
use Rattle.toml_fields.proofs.Lists.{list_any-map}
use Rattle.job_file.specs.declared.fault.JobFault.{JobFault}
use Rattle.job_file.specs.Faults.{bad_name, bad_in_lists, owner_fault, owners_fault, sessions_fault, session_fields_fault, session_values_fault, is_no_party}

abbrev pub text_in : Value → List ℕ
text_in v = text_of (view v)

abbrev pub readers_of : Value → List (List ℕ)
readers_of v = texts_of (view v)

abbrev pub session_of : Value → Members
session_of v = fields_of (view v)

pub cut : (vs : List Value) (i : ℕ) (v : Value) → i < length vs → v ≡ get_or vs i v → drop i vs ≡ v ∷ drop (i + 1) vs
cut vs i v within is = drop_more vs i v within ∙ ap (λ x. x ∷ drop (i + 1) vs) (sym is)

abbrev pub is_bad : List (List ℕ) → List Value → List ℕ → Bool
is_bad names before reader = is_no_party names reader || list_any (λ item. bytes_eq (text_of (view item)) reader) before

pub reader_turn : (names : List (List ℕ)) (vs : List Value) (at : ℕ) (v : Value) → at < length vs → v ≡ get_or vs at v
    → bad_name names (map text_in (take at vs)) (map text_in (drop at vs))
    ≡ cond (is_bad names (take at vs) (text_in v)) (Some at) (bad_name names (map text_in (take (at + 1) vs)) (map text_in (drop (at + 1) vs)))
unfolding bad_name
reader_turn names vs at v within is =
    let before : List (List ℕ) = map text_in (take at vs) in
    let rest : List (List ℕ) = map text_in (drop (at + 1) vs) in
    let grown : map text_in (take (at + 1) vs) ≡ before ++ text_in v ∷ [] =
    ap (map text_in) (take_more vs at v within ∙ ap (λ x. take at vs ++ x ∷ []) (sym is)) ∙ map-append text_in (take at vs) (v ∷ []) in
    let among : list_any (λ other. bytes_eq other (text_in v)) before ≡ list_any (λ item. bytes_eq (text_of (view item)) (text_in v)) (take at vs) =
    list_any-map (λ other. bytes_eq other (text_in v)) text_in (take at vs) in
    let below : at ≤ length vs = omega arith in
    let long : length before ≡ at = length-map (take at vs) text_in ∙ length-take-le at vs below in
    ap (λ xs. bad_name names before (map text_in xs)) (cut vs at v within is)
    ∙ ap (λ b. cond (is_no_party names (text_in v) || b) (Some (length before)) (bad_name names (before ++ text_in v ∷ []) rest)) among
    ∙ ap (λ n. cond (is_bad names (take at vs) (text_in v)) (Some n) (bad_name names (before ++ text_in v ∷ []) rest)) long
    ∙ ap (λ xs. cond (is_bad names (take at vs) (text_in v)) (Some at) (bad_name names xs rest)) (sym grown)

pub lists_turn : (names : List (List ℕ)) (vs : List Value) (value : ℕ) (v : Value) → value < length vs → v ≡ get_or vs value v
    → bad_in_lists names value (map readers_of (drop value vs))
    ≡ option_or (option_map (λ at. (value, at)) (bad_name names [] (readers_of v))) (bad_in_lists names (value + 1) (map readers_of (drop (value + 1) vs)))
unfolding bad_in_lists
lists_turn names vs value v within is = ap (λ xs. bad_in_lists names value (map readers_of xs)) (cut vs value v within is)

pub owners_turn : (two : Bool) (names : List (List ℕ)) (session : ℕ) (vs : List Value) (at : ℕ) (v : Value) → at < length vs → v ≡ get_or vs at v
    → owners_fault two names session at (map text_in (drop at vs))
    ≡ option_or (owner_fault two names session at (text_in v)) (owners_fault two names session (at + 1) (map text_in (drop (at + 1) vs)))
unfolding owners_fault
owners_turn two names session vs at v within is =
    ap (λ xs. owners_fault two names session at (map text_in xs)) (cut vs at v within is)
    ∙ ap (λ o. option_or (owner_fault two names session at (text_in v)) o) (first-one (owners_fault two names session (at + 1) (map text_in (drop (at + 1) vs))))

pub sessions_turn : (two : Bool) (names : List (List ℕ)) (vs : List Value) (session : ℕ) (v : Value) (fields : Members) → session < length vs → v ≡ get_or vs session v → session_of v ≡ fields
    → sessions_fault two names session (map session_of (drop session vs))
    ≡ option_or (session_fields_fault two session fields) (option_or (session_values_fault two names session fields) (sessions_fault two names (session + 1) (map session_of (drop (session + 1) vs))))
unfolding sessions_fault
sessions_turn two names vs session v fields within is same =
    let rest : Option JobFault = sessions_fault two names (session + 1) (map session_of (drop (session + 1) vs)) in
    ap (λ xs. sessions_fault two names session (map session_of xs)) (cut vs session v within is)
    ∙ ap (λ ms. option_or (session_fields_fault two session ms) (option_or (session_values_fault two names session ms) (option_or rest None))) same
    ∙ ap (λ o. option_or (session_fields_fault two session fields) (option_or (session_values_fault two names session fields) o)) (first-one rest)
