-- The fields of the objects of a definition, and which of them have to be there (apiextensions.k8s.io/v1; meta/v1, ObjectMeta).
use Rattle.std.specs.Prelude.{ℕ, List, [], ◌∷◌, map, Bool, codes}
use Rattle.std.specs.Borrow.{Bor}
use Rattle.definition.specs.Texts.{is_among}
use Rattle.definition.specs.declared.part.Fields.{Fields}
use Rattle.definition.specs.declared.part.Fields.TheVariants.{Definition, Spec, Names, Version, Validation, Subresources, Scale, Column, SelectableField, Conversion, Webhook, ClientConfig, Service, Schema, Metadata, ExternalDocs, ValidationRule}

-- the fields that the object may have; those of a schema are its keywords (JSONSchemaProps)
abbrev pub fields : Fields → List (List ℕ)
fields Definition = codes "apiVersion" ∷ codes "kind" ∷ codes "metadata" ∷ codes "spec" ∷ codes "status" ∷ []
fields Metadata = codes "annotations" ∷ codes "creationTimestamp" ∷ codes "deletionGracePeriodSeconds" ∷ codes "deletionTimestamp"
    ∷ codes "finalizers" ∷ codes "generateName" ∷ codes "generation" ∷ codes "labels" ∷ codes "managedFields" ∷ codes "name"
    ∷ codes "namespace" ∷ codes "ownerReferences" ∷ codes "resourceVersion" ∷ codes "selfLink" ∷ codes "uid" ∷ []
fields Spec = codes "conversion" ∷ codes "group" ∷ codes "names" ∷ codes "preserveUnknownFields" ∷ codes "scope" ∷ codes "versions" ∷ []
fields Names = codes "categories" ∷ codes "kind" ∷ codes "listKind" ∷ codes "plural" ∷ codes "shortNames" ∷ codes "singular" ∷ []
fields Version = codes "additionalPrinterColumns" ∷ codes "deprecated" ∷ codes "deprecationWarning" ∷ codes "name" ∷ codes "schema"
    ∷ codes "selectableFields" ∷ codes "served" ∷ codes "storage" ∷ codes "subresources" ∷ []
fields Validation = codes "openAPIV3Schema" ∷ []
fields Subresources = codes "scale" ∷ codes "status" ∷ []
fields Scale = codes "labelSelectorPath" ∷ codes "specReplicasPath" ∷ codes "statusReplicasPath" ∷ []
fields Column = codes "description" ∷ codes "format" ∷ codes "jsonPath" ∷ codes "name" ∷ codes "priority" ∷ codes "type" ∷ []
fields SelectableField = codes "jsonPath" ∷ []
fields Conversion = codes "strategy" ∷ codes "webhook" ∷ []
fields Webhook = codes "clientConfig" ∷ codes "conversionReviewVersions" ∷ []
fields ClientConfig = codes "caBundle" ∷ codes "service" ∷ codes "url" ∷ []
fields Service = codes "name" ∷ codes "namespace" ∷ codes "path" ∷ codes "port" ∷ []
fields Schema = codes "$ref" ∷ codes "$schema" ∷ codes "additionalItems" ∷ codes "additionalProperties" ∷ codes "allOf" ∷ codes "anyOf"
    ∷ codes "default" ∷ codes "definitions" ∷ codes "dependencies" ∷ codes "description" ∷ codes "enum" ∷ codes "example"
    ∷ codes "exclusiveMaximum" ∷ codes "exclusiveMinimum" ∷ codes "externalDocs" ∷ codes "format" ∷ codes "id" ∷ codes "items"
    ∷ codes "maxItems" ∷ codes "maxLength" ∷ codes "maxProperties" ∷ codes "maximum" ∷ codes "minItems" ∷ codes "minLength"
    ∷ codes "minProperties" ∷ codes "minimum" ∷ codes "multipleOf" ∷ codes "not" ∷ codes "nullable" ∷ codes "oneOf" ∷ codes "pattern"
    ∷ codes "patternProperties" ∷ codes "properties" ∷ codes "required" ∷ codes "title" ∷ codes "type" ∷ codes "uniqueItems"
    ∷ codes "x-kubernetes-embedded-resource" ∷ codes "x-kubernetes-int-or-string" ∷ codes "x-kubernetes-list-map-keys"
    ∷ codes "x-kubernetes-list-type" ∷ codes "x-kubernetes-map-type" ∷ codes "x-kubernetes-preserve-unknown-fields"
    ∷ codes "x-kubernetes-validations" ∷ []
fields ExternalDocs = codes "description" ∷ codes "url" ∷ []
fields ValidationRule = codes "fieldPath" ∷ codes "message" ∷ codes "messageExpression" ∷ codes "optionalOldSelf" ∷ codes "reason"
    ∷ codes "rule" ∷ []

-- the object has a field of the name
abbrev pub has_field : Fields → List ℕ → Bool
has_field o k = is_among k (fields o)

-- the fields that have to be there
abbrev pub required : Fields → List (List ℕ)
required Definition = codes "metadata" ∷ codes "spec" ∷ []
required Metadata = codes "name" ∷ []
required Spec = codes "group" ∷ codes "names" ∷ codes "scope" ∷ codes "versions" ∷ []
required Names = codes "kind" ∷ codes "plural" ∷ []
required Version = codes "name" ∷ codes "schema" ∷ []
required Validation = codes "openAPIV3Schema" ∷ []
required Scale = codes "specReplicasPath" ∷ codes "statusReplicasPath" ∷ []
required Column = codes "jsonPath" ∷ codes "name" ∷ codes "type" ∷ []
required SelectableField = codes "jsonPath" ∷ []
required Conversion = codes "strategy" ∷ []
required Webhook = codes "clientConfig" ∷ codes "conversionReviewVersions" ∷ []
required Service = codes "name" ∷ codes "namespace" ∷ []
required ValidationRule = codes "rule" ∷ []
required _ = []

-- the texts of a table in the code
abbrev pub texts_at : List (Bor (List ℕ)) → List (List ℕ)
texts_at ts = map (λ t. t.now) ts
