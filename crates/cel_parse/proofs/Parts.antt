-- Small steps of reading, taken apart.
use Rattle.std.proofs.Common.{◌≡◌, ◌<◌, ◌≤◌, ℕ, ◌∷◌, Bool, true, false, Option, Some, None, option_map, if◌then◌else◌, refl, sym, ap, subst, arith, nat_lt}
use Rattle.std.specs.Prelude.{nat_le}
use Rattle.std.proofs.lemmas.Bool.Decides.{nat_tests}
use Rattle.cel_read.specs.Lexemes.{symbol}
use Rattle.cel_read.specs.declared.token.Symbol.TheVariants.{Question, Colon, Comma, RightParenthesis, RightBracket, RightBrace}
use Rattle.cel_parse.specs.Forms.{Tokens, Closes, at_once, Optional, plain, marked}
use Rattle.cel_parse.specs.Forms as forms
use Rattle.cel_parse.specs.Internal.Readers.{Found, none, found, and_then, go_on, given, after_parenthesis, after_bracket, after_brace, after_colon, after_question, after_comma, optional, more, stepped, is_closing, first_item, other_item}

pub then_found : {A B : Type 0} (x : Found A) (f : A → Tokens → Found B) (e : B) (rest : Tokens) → and_then x f ≡ found e rest
    → (a : A) × (us : Tokens) × (x ≡ found a us) × (f a us ≡ found e rest)
then_found none f e rest h = cc
then_found (found a us) f e rest h = (a, us, refl, h)

pub go_on_found : {B : Type 0} (o : Option Tokens) (f : Tokens → Found B) (e : B) (rest : Tokens) → go_on o f ≡ found e rest
    → (us : Tokens) × (o ≡ Some us) × (f us ≡ found e rest)
go_on_found None f e rest h = cc
go_on_found (Some us) f e rest h = (us, refl, h)

pub found_left : {A : Type 0} (a b : A) (us vs : Tokens) → found a us ≡ found b vs → a ≡ b
found_left a b us vs h = cc

pub found_right : {A : Type 0} (a b : A) (us vs : Tokens) → found a us ≡ found b vs → us ≡ vs
found_right a b us vs h = cc

pub given_found : {A : Type 0} (o : Option A) (ws : Tokens) (e : A) (rest : Tokens) → given o ws ≡ found e rest → (o ≡ Some e) × (ws ≡ rest)
given_found None ws e rest h = cc
given_found (Some a) ws e rest h = (ap (λ z. Some z) (found_left a e ws rest h), found_right a e ws rest h)

pub stepped_more : {A : Type 0} (x : Found A) (a : A) (us : Tokens) → stepped x ≡ more a us → x ≡ found a us
stepped_more none a us h = cc
stepped_more (found b vs) a us h = cc

-- what is said by what was found
pub at_found : {A : Type 0} (R : Tokens → A → Tokens → Type 0) (ws : Tokens) (a e : A) (us rest : Tokens) → found a us ≡ found e rest → R ws a us → R ws e rest
at_found R ws a e us rest h r =
    let P : Tokens → Type 0 = λ z. R ws a z in
    subst (λ z. R ws z rest) (found_left a e us rest h) (subst P (found_right a e us rest h) r)

pub parenthesis_is : (ws us : Tokens) → after_parenthesis ws ≡ Some us → ws ≡ symbol RightParenthesis ∷ us
parenthesis_is (symbol RightParenthesis ∷ ws) us h = cc
parenthesis_is _ us h = cc

pub bracket_is : (ws us : Tokens) → after_bracket ws ≡ Some us → ws ≡ symbol RightBracket ∷ us
bracket_is (symbol RightBracket ∷ ws) us h = cc
bracket_is _ us h = cc

pub brace_is : (ws us : Tokens) → after_brace ws ≡ Some us → ws ≡ symbol RightBrace ∷ us
brace_is (symbol RightBrace ∷ ws) us h = cc
brace_is _ us h = cc

pub colon_is : (ws us : Tokens) → after_colon ws ≡ Some us → ws ≡ symbol Colon ∷ us
colon_is (symbol Colon ∷ ws) us h = cc
colon_is _ us h = cc

pub question_is : (ws us : Tokens) → after_question ws ≡ Some us → ws ≡ symbol Question ∷ us
question_is (symbol Question ∷ ws) us h = cc
question_is _ us h = cc

pub closes_bracket : (us vs : Tokens) → after_bracket (after_comma us) ≡ Some vs → Closes RightBracket us vs
closes_bracket (symbol Comma ∷ us) vs h = subst (λ z. Closes RightBracket (symbol Comma ∷ z) vs) (sym (bracket_is us vs h)) (forms.after_comma vs)
closes_bracket us vs h = subst (λ z. Closes RightBracket z vs) (sym (bracket_is us vs h)) (at_once vs)

pub closes_brace : (us vs : Tokens) → after_brace (after_comma us) ≡ Some vs → Closes RightBrace us vs
closes_brace (symbol Comma ∷ us) vs h = subst (λ z. Closes RightBrace (symbol Comma ∷ z) vs) (sym (brace_is us vs h)) (forms.after_comma vs)
closes_brace us vs h = subst (λ z. Closes RightBrace z vs) (sym (brace_is us vs h)) (at_once vs)

pub optional_is : (ws : Tokens) → Optional ws (optional ws).0 (optional ws).1
optional_is (symbol Question ∷ ws) = marked ws
optional_is ws = plain ws

unless_some : (b : Bool) (ws at : Tokens) → (if b then None else Some ws) ≡ Some at → ws ≡ at
unless_some true ws at h = cc
unless_some false ws at h = cc

pub first_is : (ws at : Tokens) → first_item ws ≡ Some at → ws ≡ at
first_is (symbol Comma ∷ ws) at h = cc
first_is ws at h = unless_some (is_closing ws) ws at h

pub other_is : (ws at : Tokens) → other_item ws ≡ Some at → ws ≡ symbol Comma ∷ at
other_is (symbol Comma ∷ ws) at h = ap (λ z. symbol Comma ∷ z) (unless_some (is_closing ws) ws at h)
other_is _ at h = cc

pub some_same : {A : Type 0} (a b : A) → Some a ≡ Some b → a ≡ b
some_same a b h = cc

pub mapped_some : {A B : Type 0} (f : A → B) (o : Option A) (b : B) → option_map f o ≡ Some b → (a : A) × (o ≡ Some a) × (f a ≡ b)
mapped_some f None b h = cc
mapped_some f (Some a) b h = (a, refl, some_same (f a) b h)

pub below_by : (n m : ℕ) → nat_lt n m ≡ true → n < m
below_by n m h = grind (arith, nat_tests)

pub within_by : (n m : ℕ) → nat_le n m ≡ true → n ≤ m
within_by n m h = grind (arith, nat_tests)
