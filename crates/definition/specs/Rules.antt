-- The rules of definitions, by their numbers (the numbers are this project's own).
use Rattle.std.specs.Prelude.{ℕ, List, [], ◌∷◌, Bool, ◌==◌}
use Rattle.definition.specs.declared.rule.Rule.{Rule}
use Rattle.definition.specs.declared.rule.Rule.TheVariants.{UnknownField, MissingField, WrongName, BadGroup, ProtectedGroup, BadScope, BadName, RepeatedVersion, StorageVersions, PreserveUnknownFields, BadColumn, BadScalePath, BadConversion}
use Rattle.definition.specs.declared.rule.Rule.TheVariants.{UnknownType, BadRoot, BesideStatus, MissingItems, PreserveFalse, BadResource, UnsupportedKeyword, BadIntOrString, BadEnvelope}

abbrev pub number : Rule → ℕ
number UnknownField = 3
number MissingField = 4
number WrongName = 5
number BadGroup = 6
number ProtectedGroup = 7
number BadScope = 8
number BadName = 9
number RepeatedVersion = 10
number StorageVersions = 11
number PreserveUnknownFields = 12
number BadColumn = 13
number BadScalePath = 14
number BadConversion = 15
number UnknownType = 16
number BadRoot = 17
number BesideStatus = 18
number MissingItems = 19
number PreserveFalse = 20
number BadResource = 21
number UnsupportedKeyword = 22
number BadIntOrString = 23
number BadEnvelope = 24

abbrev pub is : Rule → Rule → Bool
is r s = number r == number s

abbrev pub all_rules : List Rule
all_rules = UnknownField ∷ MissingField ∷ WrongName ∷ BadGroup ∷ ProtectedGroup ∷ BadScope ∷ BadName ∷ RepeatedVersion ∷ StorageVersions
    ∷ PreserveUnknownFields ∷ BadColumn ∷ BadScalePath ∷ BadConversion
    ∷ UnknownType ∷ BadRoot ∷ BesideStatus ∷ MissingItems ∷ PreserveFalse ∷ BadResource ∷ UnsupportedKeyword ∷ BadIntOrString ∷ BadEnvelope ∷ []
