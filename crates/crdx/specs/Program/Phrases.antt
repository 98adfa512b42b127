-- What the program says of each rule that is broken, of each reason for that, and of each fault of an object (this project's own
-- words).
use Rattle.std.specs.Prelude.{ℕ, List, [], ◌∷◌, ◌==◌, if◌then◌else◌, codes}
use Rattle.schema.specs.declared.violation.Rule.{Rule}
use Rattle.schema.specs.declared.violation.Rule.TheVariants.{V01, V02, V03, V04, V05, V06, V07, V08, V09, V10, V11, V12, V13, V14, V15, V16, V17}
use Rattle.schema.specs.declared.reason.Reason.{Reason}
use Rattle.schema.specs.declared.reason.Reason.TheVariants.{NotInBranches, TypeInBranch, NotSupported, KeysOfOtherList, NoKeys, NoItems, ItemsNotObjects, ItemsNotScalars, NullableItems, RepeatedKey, UndeclaredKey, KeyNotScalar, NullableKey, OptionalKey, MisplacedJunctor, NotInScalarBranches, NotInPresenceBranches, TooManyNames, EmptyEnum, EnumNotScalars, EnumOfOtherKind, UndeclaredField, RootNotObject, NotAtRoot, UnknownType, NotWithPreserving, NotOfScalars, NotOfLists, NotOfObjects, NotOfOpenPlaces, AdditionalPropertiesTrue}

abbrev pub phrase_of : Rule → List ℕ
phrase_of V01 = codes "missing type"
phrase_of V02 = codes "not specified outside the junctor"
phrase_of V03 = codes "keyword not allowed in a junctor"
phrase_of V04 = codes "metadata restricted"
phrase_of V05 = codes "keyword not supported"
phrase_of V06 = codes "uniqueItems is true"
phrase_of V07 = codes "additionalProperties is false"
phrase_of V08 = codes "properties with additionalProperties"
phrase_of V09 = codes "int-or-string with a type"
phrase_of V10 = codes "bad list type"
phrase_of V11 = codes "bad map keys"
phrase_of V12 = codes "bad items of a set"
phrase_of V13 = codes "bad map type"
phrase_of V14 = codes "bad default"
phrase_of V15 = codes "misplaced default"
phrase_of V16 = codes "junctor outside the profile"
phrase_of V17 = codes "outside the profile"

-- what is wrong with the keyword, and what can be done
abbrev pub reason_phrase_of : Reason → List ℕ
reason_phrase_of NotInBranches = codes "a junctor may not have it; move it out of the junctor"
reason_phrase_of TypeInBranch = codes "a junctor may not have it; state the type at the place itself"
reason_phrase_of NotSupported = codes "no custom resource may have it; write out what it stands for, or remove it"
reason_phrase_of KeysOfOtherList = codes "keys of what is no map list; remove them, or make it a map list"
reason_phrase_of NoKeys = codes "a map list without keys; list them under x-kubernetes-list-map-keys"
reason_phrase_of NoItems = codes "a list without items; state the schema of its items"
reason_phrase_of ItemsNotObjects = codes "the items of a map list are not objects; make them objects, or the list atomic"
reason_phrase_of ItemsNotScalars = codes "the items of a set are not scalars; crdx-relax makes the list atomic"
reason_phrase_of NullableItems = codes "the items of a set or a map list are nullable; crdx-relax makes the list atomic"
reason_phrase_of RepeatedKey = codes "lists a key twice; list it once"
reason_phrase_of UndeclaredKey = codes "lists a key that is no property of the items; declare it, or list another"
reason_phrase_of KeyNotScalar = codes "lists a key that is not a scalar; crdx-relax makes the list atomic"
reason_phrase_of NullableKey = codes "lists a key that is nullable; crdx-relax makes the list atomic"
reason_phrase_of OptionalKey = codes "lists a key that items may lack; require it, or give it a default"
reason_phrase_of MisplacedJunctor = codes "crdx takes junctors of scalars and objects alone; crdx-relax drops it"
reason_phrase_of NotInScalarBranches = codes "not a keyword of a scalar's junctors for crdx; crdx-relax drops the junctor"
reason_phrase_of NotInPresenceBranches = codes "not a keyword of an object's junctors for crdx; crdx-relax drops the junctor"
reason_phrase_of TooManyNames = codes "the junctors of the object name more than four fields; crdx-relax keeps those that fit"
reason_phrase_of EmptyEnum = codes "lists no value; list one, or remove it"
reason_phrase_of EnumNotScalars = codes "lists a value that is no scalar; crdx-relax drops the junctor"
reason_phrase_of EnumOfOtherKind = codes "lists a value of another type; crdx-relax leaves it out"
reason_phrase_of UndeclaredField = codes "names a field that is not declared; declare it under properties"
reason_phrase_of RootNotObject = codes "the root is not an object; make its type object"
reason_phrase_of NotAtRoot = codes "not a keyword of the root for crdx; crdx-relax drops it"
reason_phrase_of UnknownType = codes "not a type for crdx; crdx-relax opens the place to any value"
reason_phrase_of NotWithPreserving = codes "does not go with x-kubernetes-preserve-unknown-fields; remove one of the two"
reason_phrase_of NotOfScalars = codes "not a keyword of scalars for crdx; crdx-relax drops it"
reason_phrase_of NotOfLists = codes "not a keyword of lists for crdx; crdx-relax drops it"
reason_phrase_of NotOfObjects = codes "not a keyword of objects for crdx; crdx-relax drops it"
reason_phrase_of NotOfOpenPlaces = codes "not a keyword of open places for crdx; crdx-relax drops it"
reason_phrase_of AdditionalPropertiesTrue = codes "crdx takes a schema in its place; crdx-relax writes one"

abbrev pub listed_under : List (ℕ × List ℕ) → ℕ → List ℕ
listed_under [] n = []
listed_under (entry ∷ entries) n = if n == entry.0 then entry.1 else listed_under entries n

-- by the number of the fault
abbrev pub fault_phrase_of : ℕ → List ℕ
fault_phrase_of = listed_under ((1, codes "kind") ∷ (2, codes "null") ∷ (3, codes "enum") ∷ (4, codes "minimum") ∷ (5, codes "maximum") ∷ (6, codes "minLength") ∷ (7, codes "maxLength")
    ∷ (8, codes "minItems") ∷ (9, codes "maxItems") ∷ (10, codes "minProperties") ∷ (11, codes "maxProperties") ∷ (12, codes "required") ∷ (13, codes "duplicate") ∷ (14, codes "junctor") ∷ (15, codes "undeclared")
    ∷ (16, codes "pattern") ∷ (17, codes "format") ∷ (18, codes "multipleOf") ∷ (20, codes "envelope") ∷ [])
