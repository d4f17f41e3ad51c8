-- The fields of a document: whether they are there, their kinds, and what they give.
use Rattle.std.specs.Prelude.{ℕ, Bool, false, not, ◌&&◌, ℤ, pos, List, [], ◌∷◌, map, Option}
use Rattle.std.specs.List.{list_all}
use Rattle.std.specs.Option.{is_some, unwrap_or, option_map_or, option_and_then}
use Rattle.toml.specs.Data.{Data, Items, no_items, item, Members, no_members, get_member, as_str, as_integer, as_array, as_table}
use Rattle.toml_fields.specs.declared.kind.Kind.{Kind}
use Rattle.toml_fields.specs.declared.kind.Kind.TheVariants.{Integer, Text, Texts, TextLists, Tables, Fields}

-- the items of an array, as a list
abbrev pub data_in : Items → List Data
data_in no_items = []
data_in (item found rest) = found ∷ data_in rest

-- ---- what a value gives: nothing, where it is of another kind

unfoldable pub integer_of : Data → ℤ
integer_of found = unwrap_or (as_integer found) (pos 0)

unfoldable pub text_of : Data → List ℕ
text_of found = unwrap_or (as_str found) []

unfoldable pub items_of : Data → List Data
items_of found = option_map_or data_in (as_array found) []

-- the fields of a table, none where the value is no table
unfoldable pub fields_of : Data → Members
fields_of found = unwrap_or (as_table found) no_members

-- the texts of a list
unfoldable pub texts_of : Data → List (List ℕ)
texts_of found = map text_of (items_of found)

-- ---- kinds

abbrev pub is_text : Data → Bool
is_text found = is_some (as_str found)

abbrev pub is_table : Data → Bool
is_table found = is_some (as_table found)

-- a list whose items all pass
unfoldable pub is_list_of : (Data → Bool) → Data → Bool
is_list_of test found = is_some (as_array found) && list_all test (items_of found)

unfoldable pub is_of_kind : Kind → Data → Bool
is_of_kind Integer found = is_some (as_integer found)
is_of_kind Text found = is_text found
is_of_kind Texts found = is_list_of is_text found
is_of_kind TextLists found = is_list_of (is_list_of is_text) found
is_of_kind Tables found = is_list_of is_table found
is_of_kind Fields found = is_table found

-- ---- fields by name

-- there is a field of this name
unfoldable pub has_field : List ℕ → Members → Bool
has_field key fields = is_some (get_member key fields)

-- there is a field of this name, and it is of another kind
unfoldable pub is_misfit : Kind → List ℕ → Members → Bool
is_misfit kind key fields = option_map_or (λ found. not (is_of_kind kind found)) (get_member key fields) false

-- what the field of this name gives: nothing, where it is missing or of another kind
unfoldable pub integer_at : List ℕ → Members → ℤ
integer_at key fields = option_map_or integer_of (get_member key fields) (pos 0)

unfoldable pub text_at : List ℕ → Members → List ℕ
text_at key fields = option_map_or text_of (get_member key fields) []

unfoldable pub items_at : List ℕ → Members → List Data
items_at key fields = option_map_or items_of (get_member key fields) []

unfoldable pub texts_at : List ℕ → Members → List (List ℕ)
texts_at key fields = map text_of (items_at key fields)

-- the fields of the table of this name, if there is one
unfoldable pub table_at : List ℕ → Members → Option Members
table_at key fields = option_and_then as_table (get_member key fields)
