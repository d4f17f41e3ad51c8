-- Rows of a table, each of m numbers.
use Rattle.std.specs.Prelude.{◌≡◌, ℕ, zero, suc, ◌+◌, ◌*◌, ◌^◌, ◌<◌, ◌≤◌, true, false, nat_lt, if◌then◌else◌, All, List, length, nat_eq, slice_index, slice_index_or}
use Rattle.mpc_ring.specs.Differences.{difference}
use Rattle.circuit_model.specs.Circuits.{is_product, set_at}
use Rattle.circuit_model.specs.Netlists.{no_gate}
use Rattle.circuit_model.specs.declared.gate.Gate.{Gate}
use Rattle.circuit_model.specs.declared.gate.Operation.{Operation}
use Rattle.secret_sharing.specs.Schemes.{local}
use Rattle.list_laws.specs.Lists.{total}
use Rattle.party_set.specs.Parties.{Structure}
use Rattle.share_layout.specs.Layouts.{holds, least_holder}
use Rattle.row_steps.specs.declared.opener.Opener.{Opener}

-- entry i of row number in a table whose rows have m numbers
abbrev pub row : ℕ → List ℕ → ℕ → ℕ → ℕ
row m table number i = slice_index table (number * m + i)

-- the same summands
abbrev pub SameRow : ℕ → (ℕ → ℕ) → (ℕ → ℕ) → Type 0
SameRow m f g = (i : ℕ) → i < m → f i ≡ g i

-- the same summands in all rows
abbrev pub SameRows : ℕ → (ℕ → ℕ → ℕ) → (ℕ → ℕ → ℕ) → Type 0
SameRows m f g = (number i : ℕ) → i < m → f number i ≡ g number i

-- a gate, with the rows of wires in their place
abbrev pub gate_on_rows : (ℕ → ℕ) → Gate → Gate
gate_on_rows row_of g =
    record {
      operation = g.operation;
      first = row_of g.first;
      second = row_of g.second;
      output = row_of g.output;
      constant = g.constant;
    }

-- each wire of the gate has a row, where the list has those of all wires
pub record WiresWithin (wires : List ℕ) (g : Gate) : Type 0 where
  pub first : g.first < length wires
  pub second : g.second < length wires
  pub output : g.output < length wires

-- the table has a row for each wire of the gate
abbrev pub HasRows : ℕ → Gate → List ℕ → Type 0
HasRows m g table =
    ((g.first + 1) * m ≤ length table) × ((g.second + 1) * m ≤ length table) × ((g.output + 1) * m ≤ length table)

-- the gate's row gets what the operation makes of the others, summand by summand, and no other row changes
abbrev pub FillsRow : ℕ → ℕ → Operation → Gate → List ℕ → List ℕ → Type 0
FillsRow q m operation g table table' =
    SameRows m (row m table') (set_at (row m table) g.output
    (λ i. local q operation g.constant i (row m table g.first i) (row m table g.second i)))

-- gate t of a list
abbrev pub gate_in : List Gate → ℕ → Gate
gate_in gates t = slice_index_or gates t no_gate

-- each wire of each gate has a row in the table
abbrev pub AllOnRows : ℕ → List ℕ → List Gate → List ℕ → Type 0
AllOnRows m wires gates table =
    (t : ℕ) → t < length gates → WiresWithin wires (gate_in gates t)
    × HasRows m (gate_on_rows (slice_index wires) (gate_in gates t)) table

-- none of the first n gates is a product
abbrev pub AreLinear : List Gate → ℕ → Type 0
AreLinear gates n = (t : ℕ) → t < n → is_product (gate_in gates t).operation ≡ false

-- n is the number of the first product of these gates, or how many they are where none of them is a product
pub record IsFirstProduct (gates : List Gate) (n : ℕ) : Type 0 where
  pub few : n ≤ length gates
  pub linear : AreLinear gates n
  pub ends : n < length gates → is_product (gate_in gates n).operation ≡ true

-- the first n of these gates, one after another, lead from one table to the other, whose numbers are all below q
abbrev pub FillsRows : ℕ → ℕ → List ℕ → List Gate → ℕ → List ℕ → List ℕ → Type 0
FillsRows q m wires gates zero table table' = table' ≡ table
FillsRows q m wires gates (suc n) table table' =
    (between : List ℕ) × FillsRows q m wires gates n table between
    × FillsRow q m (gate_in gates n).operation (gate_on_rows (slice_index wires) (gate_in gates n))
    between table' × All (λ x. x < q) table' × (length table' ≡ length between)

-- row number has the first i of the new summands
abbrev pub filled_to : (ℕ → ℕ → ℕ) → ℕ → (ℕ → ℕ) → ℕ → ℕ → ℕ → ℕ
filled_to f number new i = set_at f number (λ j. if nat_lt j i then new j else f number j)

-- of how many of the first i summands party p is the least holder
abbrev pub least_held : Structure → ℕ → ℕ → ℕ
least_held s p i = total i (λ j. if nat_eq (least_holder s j) p then 1 else 0)

-- how many summands a row has, by the layout of the one who opens it
abbrev pub shares_of : Opener → ℕ
shares_of o = length o.layout.now.groups

-- the party is one of the layout, and the words of its table are in the ring
pub record CanOpen (o : Opener) : Type 0 where
  pub party : o.party < o.layout.now.parties
  pub small : All (λ x. x < 2 ^ o.ring) o.table.now

-- of the summands that the party holds those of the row, of the others those that it got
abbrev pub held_or : Opener → (ℕ → ℕ) → (ℕ → ℕ) → ℕ → ℕ
held_or o held got i = if holds o.layout.now o.party i then held i else got i

-- what row x has more than row a
abbrev pub excess_row : Opener → ℕ → ℕ → ℕ → ℕ
excess_row o x a i =
    difference (2 ^ o.ring) (row (shares_of o) o.table.now x i) (row (shares_of o) o.table.now a i)
