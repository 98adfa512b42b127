-- The order of the reasons: that of one table, in which each reason stands once (the law `reasons_stand_once`). This project's own.
use Rattle.std.specs.Prelude.{◌≡◌, ◌<◌, ℕ, List, [], ◌∷◌, Some}
use Rattle.std.specs.List.{slice_get}
use Rattle.schema.specs.declared.reason.Reason.{Reason}
use Rattle.schema.specs.declared.reason.Reason.TheVariants.{NotInBranches, TypeInBranch, NotSupported, KeysOfOtherList, NoKeys, NoItems, ItemsNotObjects, ItemsNotScalars, NullableItems, RepeatedKey, UndeclaredKey, KeyNotScalar, NullableKey, OptionalKey, MisplacedJunctor, NotInScalarBranches, NotInPresenceBranches, TooManyNames, EmptyEnum, EnumNotScalars, EnumOfOtherKind, UndeclaredField, RootNotObject, NotAtRoot, UnknownType, NotWithPreserving, NotOfScalars, NotOfLists, NotOfObjects, NotOfOpenPlaces, AdditionalPropertiesTrue}

abbrev pub all_reasons : List Reason
all_reasons =
    NotInBranches ∷ TypeInBranch ∷ NotSupported ∷ KeysOfOtherList ∷ NoKeys ∷ NoItems ∷ ItemsNotObjects ∷
    ItemsNotScalars ∷ NullableItems ∷ RepeatedKey ∷ UndeclaredKey ∷ KeyNotScalar ∷ NullableKey ∷ OptionalKey ∷
    MisplacedJunctor ∷ NotInScalarBranches ∷ NotInPresenceBranches ∷ TooManyNames ∷ EmptyEnum ∷ EnumNotScalars ∷
    EnumOfOtherKind ∷ UndeclaredField ∷ RootNotObject ∷ NotAtRoot ∷ UnknownType ∷ NotWithPreserving ∷
    NotOfScalars ∷ NotOfLists ∷ NotOfObjects ∷ NotOfOpenPlaces ∷ AdditionalPropertiesTrue ∷ []

-- the reason stands at this place of the table
abbrev pub StandsAt : Reason → ℕ → Type 0
StandsAt c n = slice_get all_reasons n ≡ Some c

-- the one stands before the other
abbrev pub Precedes : Reason → Reason → Type 0
Precedes c d = (m : ℕ) × (n : ℕ) × (m < n) × StandsAt c m × StandsAt d n
