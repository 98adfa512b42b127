-- Forms, and how they are put together. A form is a relation: in `R ws e rest` what stands at the front of ws says e, and rest is what follows it.
use Rattle.std.specs.Prelude.{Bool, true, false, List, [], ◌∷◌, ◌++◌}
use Rattle.cel_read.specs.Lexemes.{Lexeme, symbol}
use Rattle.cel_read.specs.declared.token.Symbol.{Symbol}
use Rattle.cel_read.specs.declared.token.Symbol.TheVariants.{Comma, Question}

abbrev pub Tokens : Type 0
Tokens = List Lexeme

-- links, one after another, each of which makes something of what the ones before it made
pub data Chain (A : Type 0) (Link : A → Tokens → A → Tokens → Type 0) : A → Tokens → A → Tokens → Type 0 where
  over : (a : A) (ws : Tokens) → Chain A Link a ws a ws
  link : (a : A) (ws : Tokens) (b : A) (us : Tokens) (e : A) (rest : Tokens) → Link a ws b us → Chain A Link b us e rest → Chain A Link a ws e rest

-- where an item stands: the first one at once, and each other one after a comma
pub data Stands (A : Type 0) : List A → Tokens → Tokens → Type 0 where
  first : (ws : Tokens) → Stands A [] ws ws
  other : (x : A) (xs : List A) (ws : Tokens) → Stands A (x ∷ xs) (symbol Comma ∷ ws) ws

pub data IsItem (A : Type 0) (Item : Tokens → A → Tokens → Type 0) : List A → Tokens → List A → Tokens → Type 0 where
  an_item : (xs : List A) (ws us : Tokens) (x : A) (vs : Tokens) → Stands A xs ws us → Item us x vs → IsItem A Item xs ws (xs ++ x ∷ []) vs

-- [ Item { "," Item } ]
abbrev pub Items : (A : Type 0) → (Tokens → A → Tokens → Type 0) → Tokens → List A → Tokens → Type 0
Items A Item ws xs rest = Chain (List A) (IsItem A Item) [] ws xs rest

-- [ "," ] and the bracket that closes
pub data Closes (s : Symbol) : Tokens → Tokens → Type 0 where
  at_once : (ws : Tokens) → Closes s (symbol s ∷ ws) ws
  after_comma : (ws : Tokens) → Closes s (symbol Comma ∷ symbol s ∷ ws) ws

-- [ "?" ], and whether it stands there
pub data Optional : Tokens → Bool → Tokens → Type 0 where
  plain : (ws : Tokens) → Optional ws false ws
  marked : (ws : Tokens) → Optional (symbol Question ∷ ws) true ws
