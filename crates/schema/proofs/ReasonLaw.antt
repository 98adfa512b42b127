-- Each of the six rules is broken exactly where one of its reasons holds.
use Rattle.std.proofs.Common.{◌≡◌, ℕ, List, true, refl, subst, inl, inr}
use Rattle.std.specs.Prelude.{◌↔◌, codes}
use Rattle.jtree.specs.Data.{Data}
use Rattle.jtree.specs.Internal.Lookups.{same_name}
use Rattle.schema.specs.Document.Texts.{is_among}
use Rattle.schema.specs.Document.Places.{Place, schema_at, core}
use Rattle.schema.specs.Document.Raw.{Raw, raw_by}
use Rattle.schema.specs.Rules.Keywords.{has}
use Rattle.schema.specs.Rules.Profile.{is_root, outside_keywords, unsupported_keywords}
use Rattle.schema.specs.Rules.Broken.{Broken}
use Rattle.schema.specs.Rules.Reasons.{HasSomeReason, has_reasons, is_branch_reason, is_type_reason, is_support_reason}
use Rattle.schema.specs.declared.violation.Rule.{Rule}
use Rattle.schema.specs.declared.violation.Rule.TheVariants.{V03, V05, V11, V12, V16, V17}
use Rattle.schema.specs.declared.reason.Reason.{Reason}
use Rattle.schema.specs.declared.reason.Reason.TheVariants.{NotInBranches, TypeInBranch, NotSupported}
use Rattle.schema.proofs.ReasonWords.{some_keyword, keyword_found}
use Rattle.schema.proofs.KeyReasons.{keys_reasons, set_reasons}
use Rattle.schema.proofs.BranchReasons.{junctor_reasons}
use Rattle.schema.proofs.ProfileReasons.{profile_reasons}
use Rattle.schema.specs.declared.profile.Profile.{Profile}

branch_keyword : (c : Reason) (k : List ℕ) → is_branch_reason c k ≡ true → is_among k outside_keywords ≡ true
branch_keyword NotInBranches k h = h
branch_keyword _ k h = absurd (cc)

type_keyword : (c : Reason) (k : List ℕ) → is_type_reason c k ≡ true → k ≡ codes "type"
type_keyword TypeInBranch k h = same_name k (codes "type") h
type_keyword _ k h = absurd (cc)

support_keyword : (c : Reason) (k : List ℕ) → is_support_reason c k ≡ true → is_among k unsupported_keywords ≡ true
support_keyword NotSupported k h = h
support_keyword _ k h = absurd (cc)

to_reason : (profile : Profile) (raw : Data) (p : Place) (r : Rule) → has_reasons r ≡ true → Broken (raw_by profile raw) p r → HasSomeReason (raw_by profile raw) p r
to_reason profile raw p V03 six (inside, (s, at, inl keyword)) =
    let f = some_keyword (λ k. is_among k outside_keywords) s keyword in
    (f.0, NotInBranches, (s, at, (f.1, (inside, inl f.2))))
to_reason profile raw p V03 six (inside, (s, at, inr (there, other))) = (codes "type", TypeInBranch, (s, at, (there, (inside, inr (refl, other)))))
to_reason profile raw p V05 six (s, at, keyword) = let f = some_keyword (λ k. is_among k unsupported_keywords) s keyword in (f.0, NotSupported, (s, at, (f.1, f.2)))
to_reason profile raw p V11 six (outside, (s, at, bad)) = let f = (keys_reasons profile s).0 bad in (f.0, f.1, (s, at, (f.2, (outside, f.3))))
to_reason profile raw p V12 six (outside, (s, at, bad)) = let f = (set_reasons profile s).0 bad in (f.0, f.1, (s, at, (f.2, (outside, f.3))))
to_reason profile raw p V16 six (s, at, bad) = let f = (junctor_reasons profile p (schema_at raw (core p)) s).0 bad in (f.0, f.1, (s, at, (f.2, f.3)))
to_reason profile raw p V17 six (outside, (s, at, bad)) = let f = (profile_reasons profile (is_root p) s).0 bad in (f.0, f.1, (s, at, (f.2, (outside, f.3))))
to_reason profile raw p _ six broken = absurd (cc)

pub from_reason : (profile : Profile) (raw : Data) (p : Place) (r : Rule) → HasSomeReason (raw_by profile raw) p r → Broken (raw_by profile raw) p r
from_reason profile raw p V03 (k, c, (s, at, (there, (inside, inl branch)))) =
    (inside, (s, at, inl (keyword_found (λ l. is_among l outside_keywords) s k there (branch_keyword c k branch))))
from_reason profile raw p V03 (k, c, (s, at, (there, (inside, inr (typed, other))))) = (inside, (s, at, inr (subst (λ l. has s l ≡ true) (type_keyword c k typed) there, other)))
from_reason profile raw p V05 (k, c, (s, at, (there, is))) = (s, at, keyword_found (λ l. is_among l unsupported_keywords) s k there (support_keyword c k is))
from_reason profile raw p V11 (k, c, (s, at, (there, (outside, is)))) = (outside, (s, at, (keys_reasons profile s).1 (k, c, there, is)))
from_reason profile raw p V12 (k, c, (s, at, (there, (outside, is)))) = (outside, (s, at, (set_reasons profile s).1 (k, c, there, is)))
from_reason profile raw p V16 (k, c, (s, at, (there, is))) = (s, at, (junctor_reasons profile p (schema_at raw (core p)) s).1 (k, c, there, is))
from_reason profile raw p V17 (k, c, (s, at, (there, (outside, is)))) = (outside, (s, at, (profile_reasons profile (is_root p) s).1 (k, c, there, is)))
from_reason profile raw p _ (k, c, (s, at, (there, is))) = absurd is

pub exactly : (raw : Raw) (p : Place) (r : Rule) → has_reasons r ≡ true → Broken raw p r ↔ HasSomeReason raw p r
exactly raw p r six = (to_reason raw.profile raw.tree p r six, from_reason raw.profile raw.tree p r)
