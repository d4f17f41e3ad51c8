-- The wires of a session as the program has them, and what each slot does with them.
use Rattle.std.specs.Prelude.{◌≡◌, ℕ, ◌<◌, nat_eq, Bool, true, false, ◌||◌, if◌then◌else◌, List, [], map, Option, Some, None}
use Rattle.std.specs.List.{list_any}
use Rattle.session_slots.specs.declared.touched.Touched.{Touched}
use Rattle.session_slots.specs.declared.values.InputValue.{InputValue}
use Rattle.session_slots.specs.declared.wiring.Wiring.{Wiring}
use Rattle.session_slots.specs.KeptWires.{reads_in, slot_sets, slot_reads}
use Rattle.session_slots.specs.SoundSessions.{IsWired, slot_of_kind}
use Rattle.session_slots.specs.Sessions.{Session, Slot, giver, is_carried, row_names, owners_of, readers_of, slot_list, source_from}
use Rattle.session_slots.specs.Counts.{products_of}

-- some input value is carried
abbrev pub some_carried : List InputValue → Bool
some_carried inputs = list_any (λ (value : InputValue). is_carried (source_from value.owner 0)) inputs

-- the session that the program has
abbrev pub session_in : Wiring → Session
session_in w =
    record {
      gates = w.gates.items;
      wires = w.wires;
      inputs = w.inputs.items;
      outputs = w.outputs.items;
      prepared = w.prepared;
      ahead = w.ahead;
      kept = w.kept.items;
    }

-- the same with prepared products, their masks ahead or in turn with the products of masks
abbrev pub prepared_in : Wiring → Bool → Session
prepared_in w ahead = record (session_in w) { prepared = true; ahead = ahead }

-- the session is wired, and the tables by wire are its own, that of sources where some are carried, and that by slot
-- where products are prepared
pub record IsWiring (w : Wiring) : Type 0 where
  pub owned : w.owners.items ≡ map giver (owners_of w.inputs.items)
  pub sources : w.sources.items ≡ (if some_carried w.inputs.items then owners_of w.inputs.items else [])
  pub read : w.readers.items ≡ readers_of w.outputs.items
  pub products : w.products ≡ products_of w.gates.items
  pub wired : IsWired (session_in w)
  pub kinds : w.prepared ≡ true → map slot_of_kind w.kinds.items ≡ slot_list (session_in w)

-- the wire is this one
abbrev pub is_named : Option ℕ → ℕ → Bool
is_named None w = false
is_named (Some v) w = nat_eq w v

-- it is one of these
abbrev pub is_among : Option ℕ → Option ℕ → Option ℕ → ℕ → Bool
is_among one two three w = (is_named one w || is_named two w) || is_named three w

-- the wires that a slot reads are these
abbrev pub AreReads : Session → Slot → Option ℕ → Option ℕ → Option ℕ → Type 0
AreReads s z one two three = (w : ℕ) → list_any (nat_eq w) (reads_in s z) ≡ is_among one two three w

-- the wire that slot k sets, and different ones among which are those that it reads
pub record IsTouched (s : Session) (k : ℕ) (touched : Touched) : Type 0 where
  pub sets : (w : ℕ) → slot_sets s k w ≡ is_named touched.sets w
  pub reads : (w : ℕ) → slot_reads s k w ≡ true → is_among touched.first touched.second touched.third w ≡ true
  pub second : (w : ℕ) → is_named touched.first w ≡ true → is_named touched.second w ≡ false
  pub third : (w : ℕ) → (is_named touched.first w || is_named touched.second w) ≡ true
      → is_named touched.third w ≡ false
  pub within : (w : ℕ) → is_among touched.first touched.second touched.third w ≡ true → w < row_names s
