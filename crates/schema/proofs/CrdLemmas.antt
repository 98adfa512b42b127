-- A CustomResourceDefinition is its head with its versions.
use Rattle.std.proofs.Common.{◌≡◌, ℕ, List, [], ◌∷◌, ◌++◌, Option, Some, None, refl, sym, ap, ◌∙◌, subst, append_assoc}
use Rattle.std.proofs.lemmas.Option.{same_Some}
use Rattle.jtree.specs.Data.{Data, null, boolean, integer, number, text, list, object, Items}
use Rattle.schema.specs.Document.Crd.{IsHead, AreVersions, IsCrd, IsNoCrd, LacksVersion}
use Rattle.schema.specs.Document.Crd as crd
use Rattle.schema.specs.Document.Refusal.{IsWrongPart, no_header, no_group, no_kind, no_versions, no_schema, AreOthers, and_name}
use Rattle.schema.specs.declared.refusal.Part.{Part}
use Rattle.schema.specs.declared.refusal.Part.TheVariants.{Versions}

same_versions : {d : Data} {group kind name kinds : List ℕ} {versions others : Items} → IsHead d group kind versions → IsHead d name kinds others → versions ≡ others
same_versions {versions = versions} {others = others} h g = let same : list versions ≡ list others = same_Some _ _ (sym h.versions_are ∙ g.versions_are) in cc

-- the versions of a head are not as they have to be
pub wrong_versions : (d : Data) (version group kind : List ℕ) (versions : Items) → IsHead d group kind versions → (AreVersions versions → ⊥) → IsWrongPart d version Versions
wrong_versions d version group kind versions head h =
    no_versions head.header group kind (head.group_is, head.group_given) (head.kind_is, head.kind_given)
    (λ others is all. let same : list others ≡ list versions = same_Some _ _ (sym is ∙ head.versions_are) in let e : others ≡ versions = cc in h (subst AreVersions e all))

pub wrong_crd : (d : Data) (version : List ℕ) (part : Part) → IsWrongPart d version part → IsNoCrd d version
wrong_crd d version part (no_header h) = crd.no_crd d version (λ group kind versions c. h c.head.header)
wrong_crd d version part (no_group header h) = crd.no_crd d version (λ group kind versions c. h group (c.head.group_is, c.head.group_given))
wrong_crd d version part (no_kind header s is h) = crd.no_crd d version (λ group kind versions c. h kind (c.head.kind_is, c.head.kind_given))
wrong_crd d version part (no_versions header s t is at h) = crd.no_crd d version (λ group kind versions c. h versions c.head.versions_are c.versions_are)
wrong_crd d version part (no_schema group kind versions v c is h) = crd.no_schema d version group kind versions v c is h

pub lacks : (d : Data) (version : List ℕ) (versions : Items) → AreOthers d version versions → LacksVersion d version
lacks d version versions h = record { group = h.group; kind = h.kind; versions = versions; crd = h.crd; none = h.none }

-- ---- the names of versions

pub name_added : (o : Option Data) (s : List ℕ) (old new rest : List (List ℕ)) → o ≡ Some (text s) → new ≡ old ++ s ∷ [] → new ++ rest ≡ old ++ and_name o rest
name_added o s old new rest e added = ap (λ xs. xs ++ rest) added ∙ append_assoc old (s ∷ []) rest ∙ ap (λ p. old ++ and_name p rest) (sym e)

pub no_name : (o : Option Data) (rest : List (List ℕ)) → ((s : List ℕ) → o ≡ Some (text s) → ⊥) → rest ≡ and_name o rest
no_name None rest h = refl
no_name (Some null) rest h = refl
no_name (Some (boolean b)) rest h = refl
no_name (Some (integer z)) rest h = refl
no_name (Some (number s)) rest h = refl
no_name (Some (text s)) rest h = absurd (h s refl)
no_name (Some (list ds)) rest h = refl
no_name (Some (object ms)) rest h = refl
