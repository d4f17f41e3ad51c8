-- What a text is by a grammar over its tokens, or the first fault that stops a reader.
use Rattle.std.specs.Prelude.{◌≡◌, ℕ, List, [], ◌∷◌, ◌++◌, length, take}
use Rattle.text_tokens.specs.RunTokens.{Language, Placed, bare, tokens}

-- the grammar spells something that begins with the tokens
abbrev pub IsViable : {T Form : Type 0} → (Form → List T) → List T → Type 0
IsViable {T} {Form} spell ts = (rest : List T) × (form : Form) × (spell form ≡ ts ++ rest)

-- none of the tokens has a fault; `IsFine` says that the last of some tokens has none
abbrev pub AreFine : {T : Type 0} → (List T → Type 0) → List T → Type 0
AreFine IsFine ts = (k : ℕ) → IsFine (take k ts)

module _ {T : Type 0} (l : Language T) (IsFine : List T → Type 0) where
  -- the token at this place is the first that has a fault, and P holds of the tokens up to it
  pub record StopsAt (text : List ℕ) (at : ℕ) (P : List T → Type 0) : Type 0 where
    pub before : List (Placed T)
    pub here : Placed T
    pub after : List (Placed T)
    pub cut : tokens l text ≡ before ++ (here ∷ after)
    pub place : here.at ≡ at
    pub fine : AreFine IsFine (bare before)
    pub fault : P (bare (before ++ (here ∷ [])))

  -- the text ends here, none of its tokens has a fault, and the grammar spells nothing as them
  pub record EndsAt {Form : Type 0} (spell : Form → List T) (text : List ℕ) (at : ℕ) : Type 0 where
    pub place : at ≡ length text
    pub fine : AreFine IsFine (bare (tokens l text))
    pub none : (form : Form) → spell form ≡ bare (tokens l text) → ⊥

  -- the grammar spells this as the text's tokens, and none of them has a fault
  pub record Parses {Form : Type 0} (spell : Form → List T) (text : List ℕ) (form : Form) : Type 0 where
    pub spelled : spell form ≡ bare (tokens l text)
    pub fine : AreFine IsFine (bare (tokens l text))
