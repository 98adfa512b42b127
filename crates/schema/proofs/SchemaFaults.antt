-- The faults of a schema, from its first break of a form and its first limit that is passed.
use Rattle.std.proofs.Common.{◌≡◌, ℕ, List, [], Option, Some, None, Result, Ok, Err, false, refl, subst}
use Rattle.std.specs.Option.{IfSome}
use Rattle.std.specs.Result.{IfOk}
use Rattle.jtree.specs.Data.{Data, IsTree}
use Rattle.jtree.specs.Path.{Path}
use Rattle.jtree.specs.View.{data_of}
use Rattle.jtree.specs.declared.value.Tree.{Tree}
use Rattle.jtree.specs.declared.value.Tree.TheVariants as code
use Rattle.jtree.specs.declared.value.Members.{Members as TreeMembers}
use Rattle.schema.specs.Document.Crd.{IsObject}
use Rattle.schema.specs.Document.Forms.{Form, object, has_form, BreaksForm, HasForms, HasFormsOf, IsFormFaultOf}
use Rattle.schema.specs.Internal.Faults.{IsUnfound, finding_fault, IsFirstBreak, IsMisformed, form_fault, IsLimitFaultOf, listing_fault}
use Rattle.schema.specs.Internal.FormBreak.{first_break}
use Rattle.schema.specs.Document.Limits.{IsWithinLimits}
use Rattle.schema.specs.Document.Refusal.{IsRefusalOf, fault_of}
use Rattle.schema.specs.declared.definition.Unfound.{Unfound}
use Rattle.schema.specs.declared.definition.Unfound.TheVariants.{WrongPart, NoVersion}
use Rattle.schema.specs.declared.definition.Unfound.TheVariants as finding
use Rattle.schema.specs.declared.forms.Misformed.{Misformed}
use Rattle.schema.specs.declared.forms.Misformed.TheVariants.{Broken}
use Rattle.schema.specs.declared.forms.Misformed.TheVariants as forms
use Rattle.schema.specs.declared.refusal.Refusal.{Refusal}
use Rattle.schema.specs.declared.refusal.Refusal.TheVariants as refusal
use Rattle.schema.specs.Document.ReadFault.{IsSchemaFaultOf, HasSchema, IsReadFaultOf}
use Rattle.schema.specs.declared.fault.SFault.{SFault}
use Rattle.schema.specs.declared.profile.Profile.{Profile}
use Rattle.schema.specs.declared.profile.Profile.TheVariants.{Core, Cluster}
use Rattle.schema.specs.Document.Raw.{raw_by}
use Rattle.schema.specs.declared.fault.SFault.TheVariants.{KeywordForm, TooLarge, NoMemory}
use Rattle.schema.specs.declared.limits.Limits.{Limits}
use Rattle.schema.specs.declared.listing.Unlisted.{Unlisted}
use Rattle.schema.specs.declared.listing.Unlisted.TheVariants as listing
use Rattle.schema.proofs.CrdLemmas.{wrong_crd, lacks}
use Rattle.schema.proofs.FormFirst.{IsFound, first_found}

pub all_forms : (f : Form) (raw : Data) → IsTree raw → first_break f raw ≡ None → HasFormsOf f raw
all_forms f raw o none = subst (IsFound (BreaksForm f raw)) none (first_found f raw o)

first_form : (f : Form) (raw : Data) (path : Path) → IsTree raw → first_break f raw ≡ Some path → IsFormFaultOf f raw path
first_form f raw path o some = subst (IsFound (BreaksForm f raw)) some (first_found f raw o)

pub first_misformed : (f : Form) (raw : Data) (e : Misformed) → IsTree raw → IsFirstBreak f raw (first_break f raw) e → IsMisformed f raw e
first_misformed f raw (Broken p broken) o h = (h.0, h.1, first_form f raw h.0 o h.2, h.3)
first_misformed f raw forms.NoMemory o h = tt

-- ---- of the schema

pub misformed_fault : (f : Form) (limits : Limits) (raw : Data) (e : Misformed) → IsMisformed f raw e → IsSchemaFaultOf f limits raw (form_fault e)
misformed_fault f limits raw (Broken p broken) h = (h.0, h.1, h.2)
misformed_fault f limits raw forms.NoMemory h = tt

pub limit_fault : (f : Form) (limits : Limits) (raw : Data) (e : Unlisted) → HasFormsOf f raw → IsLimitFaultOf limits raw e → IsSchemaFaultOf f limits raw (listing_fault e)
limit_fault f limits raw (listing.Passed x) forms h = (forms, h.0, h.1, h.2)
limit_fault f limits raw listing.NoMemory forms h = tt

-- within its limits a schema passes none
pub no_excess : (limits : Limits) (raw : Data) (e : Unlisted) → IsWithinLimits limits raw → IsLimitFaultOf limits raw e → listing_fault e ≡ NoMemory
no_excess limits raw (listing.Passed x) within h = absurd (within h.0 h.2.here)
no_excess limits raw listing.NoMemory within h = refl

-- ---- of the document

pub read_fault : (f : Form) (limits : Limits) (d : Data) (version : List ℕ) (raw : Data) (e : SFault) → HasSchema d version raw → IsSchemaFaultOf f limits raw e → IsReadFaultOf f limits d version e
read_fault f limits d version raw (KeywordForm p) has h = (raw, has, h)
read_fault f limits d version raw (TooLarge p) has h = (raw, has, h)
read_fault f limits d version raw NoMemory has h = tt
read_fault f limits d version raw _ has h = absurd h

pub unfound_fault : (f : Form) (limits : Limits) (d : Data) (version : List ℕ) (e : Unfound) → IsUnfound d version e → IsReadFaultOf f limits d version (finding_fault e)
unfound_fault f limits d version (WrongPart part) h = wrong_crd d version part h
unfound_fault f limits d version (NoVersion versions) h = lacks d version versions.now h
unfound_fault f limits d version finding.NoMemory h = tt

pub refusal_fault : (f : Form) (limits : Limits) (d : Data) (version : List ℕ) (r : Refusal) → IsRefusalOf f limits d version r → IsReadFaultOf f limits d version (fault_of r)
refusal_fault f limits d version (refusal.NotACrd part) h = wrong_crd d version part h
refusal_fault f limits d version (refusal.NoSuchVersion names) h = lacks d version h.0 h.1
refusal_fault f limits d version (refusal.KeywordForm p broken) h = (h.0, h.1, (h.2, h.3, h.4))
refusal_fault f limits d version (refusal.TooLarge x) h = (h.0, h.1, (h.2, h.3.0, h.3.1, h.3.2))

-- what is said of a version's schema is said of the document
abbrev Refuses : Form → Limits → Data → Refusal → Type 0
Refuses f limits raw r = (d : Data) (version : List ℕ) → HasSchema d version raw → IsRefusalOf f limits d version r

module _ (f : Form) (limits : Limits) (d : Data) (version : List ℕ) (raw : Data) (has : HasSchema d version raw) {E : Type 0} where
  pub document_refused : (r : Result (Option Refusal) E) → IfOk r (λ o. IfSome o (Refuses f limits raw)) → IfOk r (λ o. IfSome o (IsRefusalOf f limits d version))
  document_refused (Ok (Some x)) h = h d version has
  document_refused (Ok None) h = tt
  document_refused (Err e) h = tt

  pub document_fault : (r : Result (Option Refusal) E) → IfOk r (λ o. IfSome o (Refuses f limits raw)) → IfOk r (λ o. IfSome o (λ x. IsReadFaultOf f limits d version (fault_of x)))
  document_fault (Ok (Some x)) h = refusal_fault f limits d version x (h d version has)
  document_fault (Ok None) h = tt
  document_fault (Err e) h = tt

  pub document_read : (r : Result (Option Refusal) E) → IfOk r (λ o. o ≡ None → HasFormsOf f raw × IsWithinLimits limits raw)
      → IfOk r (λ o. o ≡ None → (s : Data) × HasSchema d version s × HasFormsOf f s × IsWithinLimits limits s)
  document_read (Ok o) h = λ none. let sound = h none in (raw, has, sound.0, sound.1)
  document_read (Err e) h = tt

-- a schema whose keywords have their forms is an object
pub no_object : (profile : Profile) (raw : Data) → HasForms (raw_by profile raw) → has_form object raw ≡ false → ⊥
no_object Core raw forms other = forms [] (raw, refl, other)
no_object Cluster raw forms other = forms [] (raw, refl, other)

other_tree : (t : Tree) → ((ms : TreeMembers) → t ≡ code.Object ms → ⊥) → has_form object (data_of t) ≡ false
other_tree (code.Object ms) h = absurd (h ms refl)
other_tree _ h = refl

pub no_other : (profile : Profile) (t : Tree) → HasForms (raw_by profile (data_of t)) → ((ms : TreeMembers) → t ≡ code.Object ms → ⊥) → ⊥
no_other profile t forms h = no_object profile (data_of t) forms (other_tree t h)

-- an object is no other tree
pub is_no_other : (t : Tree) → IsObject (data_of t) → ((ms : TreeMembers) → t ≡ code.Object ms → ⊥) → ⊥
is_no_other t is h =
    let other : has_form object (data_of t) ≡ false = other_tree t h in
    let contrary = rw is.1 at other in
    cc
